-- No sum wraps: what is put stays below twice the list.
-- Assumes nothing.
use mathlib.Core.Path.{◌≡◌, refl, sym, ap, ◌∙◌}
use mathlib.Core.Bool.{Bool, true, false, cond}
use Rattle.std.specs.Prelude.{None, Some}
use mathlib.Core.List.{List}
use Prim.Native.Nat.{ℕ, zero, suc, ◌+◌, ◌*◌, ◌≤◌, ◌<◌}
use native.Mathlib.Omega.{arith}
use lib.ListN.{length}
use lib.Dec.{eqb}
use borrow.Author.Tests.{eqb-true}
use Rattle.image.specs.Grammar.{is_optional, bare, place, after, complete, row_under_of}
use Rattle.image.specs.Read.{Read, got, bad, bind}
use Rattle.image.specs.Write.{Plain, without, plainly, written}
use Rattle.steps.specs.Rows.{short}
use Rattle.steps.specs.Writer.{payload_from, record_from}
use Rattle.image.proofs.Got.{never}
use Rattle.steps.proofs.Taken.{payload_taken}
use Rattle.steps.proofs.Sizes.{row_short, short_gone, short_here, payload_size, record_from_size}
use Rattle.writer.specs.Steps.{stands, child_from}
use Rattle.writer.specs.Put.{AtChildren}
use Rattle.writer.proofs.Seen.{stood, child_close, child_absent, child_open, child_not}

-- a record has its length at least
written_some : (x : Plain) → 4 ≤ length (written x)
unfolding written
written_some without = omega arith
written_some (plainly k a b x xs) = omega arith

-- a row that is not over has a place
pub has_place : (n row : ℕ) → short n row ≡ true → ¬ (row ≡ 0) → 1 ≤ n
has_place zero row s z = absurd (z (eqb-true row 0 s))
has_place (suc n) row s z = omega arith

-- a place that may be empty is one
pub optional_place : {row at pos : ℕ} → (c : AtChildren row at pos) → is_optional (place row) ≡ true → 1 ≤ c.places
optional_place {row} c e = let m = short_gone c.places row e c.few in omega (arith, m.1)

pub record_due : {row at pos : ℕ} → AtChildren row at pos → ¬ (row ≡ 0) → pos ≤ 2 * at
record_due {row} c z =
    let h = has_place c.places row c.few z in
    omega (arith, c.below)

-- behind a child
abbrev pub Behind : List ℕ → ℕ → ℕ → ℕ → Plain → ℕ → Type 0
Behind l row at pos y e = (at < e) × (e ≤ length l) × AtChildren (after row) e (pos + length (written y))

pub behind : (l : List ℕ) (left row at pos : ℕ) → AtChildren row at pos → (y : Plain) (e : ℕ)
    → child_from (record_from l left) l row at ≡ got (Some y) e → Behind l row at pos y e
unfolding written
behind l left row at pos due y e h = closing (stands l at 6 1) refl
  where
    one : ℕ → ℕ → Read Plain
    one = record_from l left

    gone : (t : Bool) → is_optional (place row) ≡ t → at + 1 ≤ length l → cond t (got (Some without) (at + 1)) (bad 16 at) ≡ got (Some y) e
        → Behind l row at pos y e
    gone true o w q =
        let m = short_gone due.places row o due.few in
        let same : at + 1 ≡ e = cc in
        let y0 : without ≡ y = cc in
        let len : length (written y) ≡ 4 = ap (λ (x : Plain). length (written x)) (sym y0) in
        (omega arith, omega arith, record { places = m.0; few = m.2; below = omega (arith, m.1, due.below) })
    gone false o w q = never q

    found : (r : Read Plain) → one (bare (place row)) at ≡ r → bind r (λ x b. got (Some x) b) ≡ got (Some y) e
        → Behind l row at pos y e
    found (bad n p) o q = never q
    found (got x b) o q =
        let same : b ≡ e = cc in
        let xy : x ≡ y = cc in
        let len : length (written x) ≡ length (written y) = ap (λ (z : Plain). length (written z)) xy in
        let s = record_from_size l left (bare (place row)) at x b o in
        let w = written_some x in (
          omega (arith, s.0, s.2),
          omega (arith, s.1),
          record {
            places = due.places;
            few = short_here due.places row due.few;
            below = omega (arith, s.0, s.2, due.below);
          },
        )

    opening : (t : Bool) → stands l at 2 10 ≡ t → stands l at 6 1 ≡ false → stands l at 5 1 ≡ false
        → Behind l row at pos y e
    opening false s n6 n5 = never (sym (child_not one l row at n6 n5 s) ∙ h)
    opening true s n6 n5 = there (eqb row 0) (sym (child_open one l row at s) ∙ h)
      where
        there : (t : Bool) → cond t (bad 16 at) (bind (one (bare (place row)) at) (λ x b. got (Some x) b)) ≡ got (Some y) e
            → Behind l row at pos y e
        there true q = never q
        there false q = found (one (bare (place row)) at) refl q

    absent : (t : Bool) → stands l at 5 1 ≡ t → stands l at 6 1 ≡ false → Behind l row at pos y e
    absent true s n6 =
        gone (is_optional (place row)) refl (stood l at 5 1 s).0 (sym (child_absent one l row at s) ∙ h)
    absent false s n6 = opening (stands l at 2 10) refl n6 s

    closing : (t : Bool) → stands l at 6 1 ≡ t → Behind l row at pos y e
    closing true s = no (complete row) (sym (child_close one l row at s) ∙ h)
      where
        no : (t : Bool) → cond t (got None (at + 1)) (bad 16 at) ≡ got (Some y) e → Behind l row at pos y e
        no true q = let z : ◌≡◌ {A = ℕ} 0 1 = cc in absurd (omega arith)
        no false q = never q
    closing false s = absent (stands l at 5 1) refl s

-- behind a payload
pub children_due : (l : List ℕ) (p kind at pos : ℕ) → pos ≤ 2 * at → at + 10 ≤ length l → (x : List ℕ) (first row : ℕ)
    → payload_from l p kind (at + 10) ≡ got x first → row ≡ row_under_of p kind → (first ≤ length l) × AtChildren row first (pos + 13 + length x)
children_due l p kind at pos r w x first row h e =
    let t = payload_taken l p kind (at + 10) x first w h in
    let s = payload_size t.0 in
    (t.1.within, record { places = 4; few = rw e (row_short p kind); below = omega (arith, r, t.1.ends) })
