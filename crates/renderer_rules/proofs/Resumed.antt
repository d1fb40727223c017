-- Reading back: rows that a state lists, as 23 lets pass, are open rows of the machine.
-- Assumes nothing.
use mathlib.Core.Path.{◌≡◌, refl, ap, sym, ◌∙◌, subst}
use Prim.Native.Nat.{ℕ, zero, suc, ◌+◌, ◌-◌, ◌≤◌, ◌<◌}
use native.Mathlib.Omega.{arith}
use native.Mathlib.Decide.{dec_lt}
use native.Mathlib.Numerals.{add-one}
use mathlib.Core.Bool.{Bool, true, false}
use mathlib.Core.List.{List, [], ◌∷◌}
use lib.ListN.{length, set}
use lib.Seq.{set-get_or}
use lib.Dec.{ltb, eqb}
use borrow.Author.Tests.{ltb-true, ltb-false, eqb-true, ne_eqb}
use Rattle.laws.proofs.Booleans.{both, true_false}
use Rattle.rows.specs.Limits.{MAX_DEPTH}
use Rattle.rows.specs.Kinds.{INDENT_NEXT, IF_WRAP, CALL}
use Rattle.rows.specs.View.{View}
use Rattle.rows.specs.Nesting.{RangeIn, Nests, over}
use Rattle.rows.proofs.Nested.{nests_kind, nests_after, nests_rest, nests_leaf, nests_two, nests_pair}
use Rattle.renderer_rules.specs.declared.Frame.{Frame}
use Rattle.renderer_rules.specs.Renderer.{Page}
use Rattle.renderer_rules.specs.Frames.{no_frame, frame_at, part_end, part_limit, Under, At}
use Rattle.renderer_rules.specs.Drift.{around}
use Rattle.renderer_rules.specs.Stops.{OpenRow}
use Rattle.renderer_rules.specs.Listed.{is_early, resumed, same_rows}
use Rattle.renderer_rules.proofs.Machine.{limit_suc}
use Rattle.renderer_rules.proofs.Opened.{at_open, at_block, at_first_lem, at_second, at_call}
use Rattle.renderer_rules.proofs.Drift.{around_on, around_none, around_from, nests_ends, row_only}

-- the frames from d on are those of the listed rows
unfoldable pub Holds : View → ℕ → List Frame → ℕ → List OpenRow → Type 0
Holds v n fs d [] = Unit {0}
Holds v n fs d (l ∷ ls) = (frame_at fs d ≡ resumed v n l) × Holds v n fs (suc d) ls

no_rows : (ls : List OpenRow) → same_rows ls [] ≡ true → ls ≡ []
unfolding same_rows
no_rows [] e = refl
no_rows (l ∷ ls) e = true_false (sym e)

module _ (v : View) (pg : Page) (stop n : ℕ) where
  -- what is shown of listed rows below d
  abbrev Down : List Frame → ℕ → List OpenRow → Type 0
  Down fs d ls = At v stop fs (d + length ls) n

  -- row i does not enclose n: it is passed
  passed : (fs : List Frame) (d i : ℕ) → At v stop fs d i → i < part_limit v stop fs d → At v stop fs d (v.after i)
  passed fs d i a h = record { good = nests_rest a.good h; under = a.under; low = a.low; size = a.size; deep = a.deep }

  kind_early : (i : ℕ) → v.kind i ≤ INDENT_NEXT → is_early v i n ≡ false
  kind_early i h = rw (ne_eqb (v.kind i) IF_WRAP (λ e. omega arith), ne_eqb (v.kind i) CALL (λ e. omega arith))

  -- the frame of a listed row, in place
  kept : (fs : List Frame) (d i : ℕ) → At v stop (set fs d (frame_at fs d)) (suc d) i → At v stop fs (suc d) i
  kept fs d i a = subst (λ (x : List Frame). At v stop x (suc d) i) (set-get_or fs d no_frame) a

  here : (fs : List Frame) (d i : ℕ) (ls : List OpenRow) → At v stop fs d i → i ≡ n → same_rows ls (around v i n) ≡ true → At v stop fs (d + length ls) n
  here fs d i ls a q e =
      let x : ls ≡ [] = no_rows ls (subst (λ (l : List ℕ). same_rows ls l ≡ true) (ap (λ (y : ℕ). around v y n) q ∙ around_none v n) e) in
      let z : d ≡ d + length ls = (let y : length ls ≡ 0 = ap length x in omega arith) in
      subst (λ (m : ℕ). At v stop fs m n) z (subst (λ (j : ℕ). At v stop fs d j) q a)

  -- a `Call` is open at its arguments
  at_late : (fs : List Frame) (d i : ℕ) (f : Frame) → At v stop fs d i → i < part_limit v stop fs d → v.kind i ≡ CALL → f.row ≡ i → f.first ≡ false
      → At v stop (set fs d f) (suc d) (v.second i)
  unfolding part_end
  at_late fs d i f a h k e y =
      let g = nests_pair a.good h k in
      at_open v pg stop fs d i (v.second i) f a h e (rw (y, e) g.second) (rw (y, e) (over refl))

  module _ (fs : List Frame) (d i : ℕ) (l : OpenRow) (ls : List OpenRow) (a : At v stop fs d i) (h : i < part_limit v stop fs d) (up : i < n)
      (on : n < v.after i)
      (row : l.row ≡ i) (holds : frame_at fs d ≡ resumed v n l) (rec : (j : ℕ) → At v stop fs (suc d) j → i < j → j ≤ n → n ≤ part_limit v stop fs (suc d)
      → same_rows ls (around v j n) ≡ true → At v stop fs (suc d + length ls) n)
      (same : same_rows ls (around v (suc i) n) ≡ true) where
    is_row : (frame_at fs d).row ≡ i
    is_row = ap (λ (f : Frame). f.row) holds ∙ row

    is_early_lem : (frame_at fs d).first ≡ is_early v i n
    is_early_lem = ap (λ (f : Frame). f.first) holds ∙ ap (λ (x : ℕ). is_early v x n) row

    block_down : v.kind i ≤ INDENT_NEXT → At v stop fs (suc d + length ls) n
    unfolding part_end
    block_down k =
        let e : (frame_at fs d).first ≡ false = is_early_lem ∙ kind_early i k in
        let x = at_block v pg stop fs d i (frame_at fs d) a h k is_row e in
        let y : At v stop fs (suc d) (suc i) = kept fs d (suc i)
        (subst (λ (m : ℕ). At v stop (set fs d (frame_at fs d)) m (suc i)) (add-one d)
        (subst (λ (m : ℕ). At v stop (set fs d (frame_at fs d)) (d + 1) m) (add-one i) x)) in
        let z : part_limit v stop fs (suc d) ≡ v.after i = limit_suc v pg stop fs d ∙ rw (e, is_row) in
        rec (suc i) y (omega arith) (omega arith) (omega arith) same

    second_passed : (from_First : (k : ℕ) → suc i ≤ k → k < v.second i → v.after k ≤ v.second i) → i < v.second i → v.second i ≤ n
        → same_rows ls (around v (v.second i) n) ≡ true
    second_passed f u q = subst (λ (x : List ℕ). same_rows ls x ≡ true)
        (around_from v (suc i) (v.second i) n (omega arith) q (λ k p r. let z = f k p r in omega arith)) same

    if_down : v.kind i ≡ IF_WRAP → At v stop fs (suc d + length ls) n
    unfolding part_end
    if_down k = go (ltb n (v.second i)) refl
      where
        early_is : is_early v i n ≡ ltb n (v.second i)
        early_is = rw k

        go : (b : Bool) → ltb n (v.second i) ≡ b → At v stop fs (suc d + length ls) n
        go true q =
            let e : (frame_at fs d).first ≡ true = is_early_lem ∙ early_is ∙ q in
            let y = kept fs d (suc i) (at_first_lem v pg stop fs d i (frame_at fs d) a h k is_row e) in
            let z : part_limit v stop fs (suc d) ≡ v.second i = limit_suc v pg stop fs d ∙ rw (e, is_row) in
            let w = ltb-true n (v.second i) q in
            rec (suc i) y (omega arith) (omega arith) (omega arith) same
        go false q =
            let e : (frame_at fs d).first ≡ false = is_early_lem ∙ early_is ∙ q in
            let y = kept fs d (v.second i) (at_second v pg stop fs d i (frame_at fs d) a h k is_row e) in
            let z : part_limit v stop fs (suc d) ≡ v.after i = limit_suc v pg stop fs d ∙ rw (e, is_row) in
            let w = ltb-false n (v.second i) q in
            let t = nests_two a.good h k in
            let u = t.0.up in
            rec (v.second i) y (omega arith) w (omega arith) (second_passed (λ j p r. nests_ends t.1.first j p r) (omega arith) w)

    call_down : v.kind i ≡ CALL → At v stop fs (suc d + length ls) n
    unfolding part_end
    call_down k = go (ltb n (v.second i)) refl
      where
        early_is : is_early v i n ≡ ltb n (v.second i)
        early_is = rw k

        go : (b : Bool) → ltb n (v.second i) ≡ b → At v stop fs (suc d + length ls) n
        go true q =
            let e : (frame_at fs d).first ≡ true = is_early_lem ∙ early_is ∙ q in
            let y = kept fs d (suc i) (at_call v pg stop fs d i (frame_at fs d) a h k is_row e) in
            let z : part_limit v stop fs (suc d) ≡ v.second i = limit_suc v pg stop fs d ∙ rw (e, is_row) in
            let w = ltb-true n (v.second i) q in
            rec (suc i) y (omega arith) (omega arith) (omega arith) same
        go false q =
            let e : (frame_at fs d).first ≡ false = is_early_lem ∙ early_is ∙ q in
            let y = kept fs d (v.second i) (at_late fs d i (frame_at fs d) a h k is_row e) in
            let z : part_limit v stop fs (suc d) ≡ v.after i = limit_suc v pg stop fs d ∙ rw (e, is_row) in
            let w = ltb-false n (v.second i) q in
            let t = nests_pair a.good h k in
            let u = t.split.up in
            rec (v.second i) y u w (omega arith) (second_passed (λ j p r. nests_ends t.first j p r) u w)

    row_down : (k : ℕ) → v.kind i ≡ k → At v stop fs (suc d + length ls) n
    row_down k e = go (dec_lt k 3) (dec_lt k 10) (dec_lt k 11)
      where
        go : Dec (k < 3) → Dec (k < 10) → Dec (k < 11) → At v stop fs (suc d + length ls) n
        go (yes p) q r = block_down (omega arith)
        go (no p) (yes q) r = let x = (nests_leaf a.good h (omega arith) (omega arith)).next in absurd (omega arith)
        go (no p) (no q) (yes r) = if_down (omega arith)
        go (no p) (no q) (no r) = let z = nests_kind a.good h in call_down (omega arith)

  -- the rows listed below d are those that enclose n, from row i on
  row_step : (k : ℕ) (fs : List Frame) (d i : ℕ) (ls : List OpenRow) → At v stop fs d i → i < n → n ≤ part_limit v stop fs d → Holds v n fs d ls
      → same_rows ls (around v i n) ≡ true
      → ((d j : ℕ) (ls : List OpenRow) → At v stop fs d j → i < j → j ≤ n → n ≤ part_limit v stop fs d → Holds v n fs d ls → same_rows ls (around v j n)
      ≡ true → At v stop fs (d + length ls) n)
      → At v stop fs (d + length ls) n
  unfolding Holds same_rows
  row_step k fs d i ls a up lim hs e rec = go (dec_lt n (v.after i))
    where
      h : i < part_limit v stop fs d
      h = omega arith

      w : RangeIn v i (part_limit v stop fs d)
      w = nests_after a.good h

      deeper : (ls : List OpenRow) → n < v.after i → Holds v n fs d ls → same_rows ls (i ∷ around v (suc i) n) ≡ true → At v stop fs (d + length ls) n
      deeper [] on hs e = true_false (sym e)
      deeper (l ∷ ls) on hs e =
          let x = both (eqb l.row i) (same_rows ls (around v (suc i) n)) e in
          let z : suc d + length ls ≡ d + suc (length ls) = omega arith in
          subst (λ (m : ℕ). At v stop fs m n) z
          (row_down fs d i l ls a h up on (eqb-true l.row i x.0) hs.0 (λ j b p q r s. rec (suc d) j ls b p q r hs.1 s) x.1 (v.kind i) refl)

      go : Dec (n < v.after i) → At v stop fs (d + length ls) n
      go (yes on) = deeper ls on hs (subst (λ (x : List ℕ). same_rows ls x ≡ true) (around_on v i n up on) e)
      go (no off) =
          let u = w.up in
          rec d (v.after i) ls (passed fs d i a h) u (omega arith) lim hs
          (subst (λ (x : List ℕ). same_rows ls x ≡ true)
          (around_from v i (v.after i) n (omega arith) (omega arith) (λ j p q. let z = nests_ends (row_only a.good h) j p q in omega arith)) e)

  down : (k : ℕ) (fs : List Frame) (d i : ℕ) (ls : List OpenRow) → n - i ≤ k → At v stop fs d i → i ≤ n → n ≤ part_limit v stop fs d → Holds v n fs d ls
      → same_rows ls (around v i n) ≡ true
      → At v stop fs (d + length ls) n
  down zero fs d i ls f a h lim hs e = here fs d i ls a (omega arith) e
  down (suc k) fs d i ls f a h lim hs e = go (dec_lt i n) (λ d j ls a p q lim hs e. down k fs d j ls (omega arith) a q lim hs e)
    where
      go : Dec (i < n)
          → ((d j : ℕ) (ls : List OpenRow) → At v stop fs d j → i < j → j ≤ n → n ≤ part_limit v stop fs d → Holds v n fs d ls → same_rows ls (around v j n)
          ≡ true → At v stop fs (d + length ls) n)
          → At v stop fs (d + length ls) n
      go (yes up) rec = row_step k fs d i ls a up lim hs e rec
      go (no up) rec = here fs d i ls a (omega arith) e

  -- READING BACK: rows from the first listed row up to the stop nest, and the listed rows are those that enclose row n
  pub reads_back : (fs : List Frame) (first : ℕ) (ls : List OpenRow) → length fs ≡ MAX_DEPTH → Nests v first stop 0 → first ≤ n → n ≤ stop
      → Holds v n fs 0 ls → same_rows ls (around v first n) ≡ true
      → At v stop fs (length ls) n
  unfolding part_limit Under
  reads_back fs first ls s g h l hs e =
      let z : 0 + length ls ≡ length ls = omega arith in
      subst (λ (m : ℕ). At v stop fs m n) z
      (down (n - first) fs 0 first ls (omega arith) (record { good = g; under = tt; low = omega arith; size = s; deep = omega arith }) h l hs e)
