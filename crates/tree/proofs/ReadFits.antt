-- What the reader reads fits.
-- Assumes nothing.
use mathlib.Core.Path.{◌≡◌, refl, ap, ◌∙◌}
use mathlib.Core.Bool.{Bool, true, false, cond, ◌&&◌}
use mathlib.Core.List.{List}
use mathlib.Core.Logic.{◌⊎◌, inl, inr}
use Prim.Native.Nat.{ℕ, zero, suc, ◌+◌, ◌≤◌}
use native.Mathlib.Omega.{arith}
use lib.ListN.{length, get_or}
use lib.Dec.{ltb, leb, eqb}
use borrow.Author.Tests.{eqb-true}
use Rattle.laws.proofs.Booleans.{and_left}
use Rattle.text.proofs.Counts.{range_order}
use Rattle.image.specs.Bytes.{be16, be32, part}
use Rattle.image.specs.Kinds.{TEXT}
use Rattle.image.specs.Grammar.{is_optional, bare, place, after, complete, has_byte, payload_fits, first_child}
use Rattle.image.specs.Read.{Read, got, bad, bind, kind_at, stop_at, Tree, Trees, absent, nil, ◌▸◌, skips, child_at, record_at, children_at}
use Rattle.image.specs.Write.{Plain, Plains, plain, plains, Bytes}
use Rattle.image.proofs.Shapes.{text_payload, byte_payload}
use Rattle.image.proofs.Inside.{inside, none_deep}
use Rattle.image.proofs.Exact.{join}
use Rattle.tree.proofs.Took.{took_is, took_none, took_byte, took_two}
use Rattle.tree.proofs.Fits.{Front, two, none, Pays, text, byte, nothing, Fits, fits, FitsRow, ends, gone, here, ranges, ranges_all}
use Rattle.image.proofs.Got.{never, bind_got, passed, stayed}

-- ---- the payload
module _ (b : List ℕ) (small : Bytes b) (v : ℕ) (two-or-none : (v ≡ 2) ⊎ (v ≡ 0)) (p kind at stop : ℕ) (low : at ≤ stop) (far : stop ≤ length b) where
  front_fits : at + v ≤ length b → Front v (part at (at + v) b)
  front_fits h = go two-or-none
    where
      go : (v ≡ 2) ⊎ (v ≡ 0) → Front v (part at (at + v) b)
      go (inl e) = two (be16 b at) e (took_is (took_two b at (at + v) (omega arith) h) small)
      go (inr e) =
          let same : at + v ≡ at = omega arith in
          none e (ap (λ (n : ℕ). part at n b) same ∙ took_is (took_none b at (omega arith)) small)

  text_fits : eqb kind TEXT ≡ true → payload_fits b v p kind at stop ≡ true → Pays v p kind (part at stop b)
  text_fits k h =
      let t = text_payload b v p at stop (rw (eqb-true kind TEXT k) at h) in
      text (part at (at + v) b) (part (at + v) stop b) (front_fits (omega (arith, t.0))) k t.1 (join b at (at + v) stop (omega arith) t.0)

  byte_fits : eqb kind TEXT ≡ false → has_byte kind ≡ true → payload_fits b v p kind at stop ≡ true → Pays v p kind (part at (at + 1) b)
  byte_fits k y h =
      let t = byte_payload b v p kind at stop k y h in
      byte (get_or b at 0) k y t.1 (took_is (took_byte b at (omega (arith, t.0))) small)

  none_fits : eqb kind TEXT ≡ false → has_byte kind ≡ false → Pays v p kind (part at at b)
  none_fits k y = nothing k y (took_is (took_none b at (omega arith)) small)

  pub payload_fits_lem : payload_fits b v p kind at stop ≡ true → Pays v p kind (part at (first_child kind at stop) b)
  unfolding first_child
  payload_fits_lem h = go (eqb kind TEXT) refl (has_byte kind) refl
    where
      go : (t : Bool) → eqb kind TEXT ≡ t → (u : Bool) → has_byte kind ≡ u → Pays v p kind (part at (cond t stop (cond u (at + 1) at)) b)
      go true k u y = text_fits k h
      go false k true y = byte_fits k y h
      go false k false y = none_fits k y

-- ---- children and records
-- a turn over the children: none is left, or one is read
pub data ReadTurn (one : ℕ → ℕ → ℕ → Read Tree) (n row at stop : ℕ) (ts : Trees) (e : ℕ) : Type 0 where
  ended : complete row ≡ true → ts ≡ nil → ReadTurn one n row at stop ts e
  next : (t : Tree) (m : ℕ) (us : Trees) → eqb row 0 ≡ false → one (place row) at stop ≡ got t m → children_at one n (after row) m stop ≡ got us e
      → ts ≡ t ▸ us → ReadTurn one n row at stop ts e

pub read_turned : (one : ℕ → ℕ → ℕ → Read Tree) (n row at stop : ℕ) (ts : Trees) (e : ℕ) → children_at one (suc n) row at stop ≡ got ts e
    → ReadTurn one n row at stop ts e
unfolding children_at
read_turned one n row at stop ts e h = go (ltb at stop) h
  where
    go : (t : Bool)
        → cond t
        (cond (eqb row 0) (bad 4 at) (bind (one (place row) at stop) (λ t next. bind (children_at one n (after row) next stop) (λ us end. got (t ▸ us) end))))
        (cond (complete row) (got nil stop) (bad 4 at))
        ≡ got ts e → ReadTurn one n row at stop ts e
    go true h =
        let c = stayed (eqb row 0) _ 4 at ts e h in
        let y = bind_got (one (place row) at stop) _ ts e c.1 in
        let r = bind_got (children_at one n (after row) y.1 stop) _ ts e y.3 in
        next y.0 y.1 r.0 c.0 y.2 (r.2 ∙ ap (got r.0) (cc r.3)) (cc r.3)
    go false h =
        let c = passed (complete row) _ 4 at ts e h in
        ended c.0 (cc c.1)

skips_optional : (b : List ℕ) (p at end : ℕ) → skips b p at end ≡ true → is_optional p ≡ true
unfolding skips
skips_optional b p at end e =
    let t₁ = is_optional p in
    let t₂ = leb (at + 4) end in
    and_left t₁ t₂ (and_left (t₁ && t₂) (eqb (be32 b at) 0) e)

-- a record, and records, that fit, whose spans are those of the source
pub record Right (s : List ℕ) (v left p : ℕ) (x : Plain) : Type 0 where
  pub fit : Fits v left p x
  pub spans : ranges s x ≡ true

pub record RightRow (s : List ℕ) (v left row : ℕ) (xs : Plains) : Type 0 where
  pub fit : FitsRow v left row xs
  pub spans : ranges_all s xs ≡ true

-- what `one` reads up to `stop` is right
abbrev Fit : List ℕ → List ℕ → ℕ → ℕ → (ℕ → ℕ → ℕ → Read Tree) → Type 0
Fit s b v left one = (p at stop : ℕ) (t : Tree) (q : ℕ) → stop ≤ length b → one p at stop ≡ got t q → Right s v left p (plain b t)

children_fit : (s b : List ℕ) (v left : ℕ) → Fit s b v left (record_at s b v left) → (n row at stop : ℕ) (ts : Trees) (e : ℕ) → stop ≤ length b
    → children_at (child_at s b v left) n row at stop ≡ got ts e → RightRow s v left row (plains b ts)
unfolding children_at plain ranges
children_fit s b v left f zero row at stop ts e far h = never h
children_fit s b v left f (suc n) row at stop ts e far h =
    go (children_fit s b v left f n (after row)) (read_turned (child_at s b v left) n row at stop ts e h)
  where
    go : ((at stop : ℕ) (ts : Trees) (e : ℕ) → stop ≤ length b → children_at (child_at s b v left) n (after row) at stop ≡ got ts e
        → RightRow s v left (after row) (plains b ts))
        → ReadTurn (child_at s b v left) n row at stop ts e → RightRow s v left row (plains b ts)
    go more (ended c is) = rw is (record { fit = ends c; spans = refl })
    go more (next t m us z o r is) = rw is (child (skips b (place row) at stop) refl o (more m stop us e far r))
      where
        child : (x : Bool) → skips b (place row) at stop ≡ x → cond x (got absent (at + 4)) (record_at s b v left (bare (place row)) at stop) ≡ got t m
            → RightRow s v left (after row) (plains b us) → RightRow s v left row (plains b (t ▸ us))
        child true k o rest =
            let gone-is : absent ≡ t = cc in
            rw (← gone-is) (record { fit = gone (skips_optional b (place row) at stop k) rest.fit; spans = rest.spans })
        child false k o rest =
            let w = f (bare (place row)) at stop t m far o in
            record { fit = here z w.fit rest.fit; spans = rw (w.spans, rest.spans) }

pub record_fits : (s b : List ℕ) → Bytes b → (v : ℕ) → (v ≡ 2) ⊎ (v ≡ 0) → (left : ℕ) → Fit s b v left (record_at s b v left)
unfolding plain ranges
record_fits s b small v two-or-none zero p at end t q far h = absurd (none_deep s b v p at end t q h)
record_fits s b small v two-or-none (suc left) p at end t q far h =
    let i = inside s b v left p at end t q h in
    let o = i.held in
    let far' : stop_at b at ≤ length b = omega (arith, o.right.within) in
    let low : at + 13 ≤ stop_at b at = omega (arith, o.right.long) in
    let kids = children_fit s b v left (record_fits s b small v two-or-none left) _ _ _ _ _ _ far' i.kept in
    rw i.is
    (record {
      fit =
          fits o.right.kind (range_order s (be32 b (at + 5)) (be32 b (at + 9)) o.span)
          (payload_fits_lem b small v two-or-none p (kind_at b at) (at + 13) (stop_at b at) low far' o.right.payload) kids.fit;
      spans = rw (o.span, kids.spans);
    })
