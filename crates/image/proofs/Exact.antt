-- What is read is what is written: the bytes of a record are those that its tree is written as.
-- Assumes nothing.
use mathlib.Core.Path.{◌≡◌, refl, sym, ap, ap₂, ◌∙◌}
use mathlib.Core.List.{List, [], ◌∷◌, ◌++◌}
use mathlib.Core.Bool.{Bool, true, false, cond, false≢true}
use Prim.Native.Nat.{ℕ, zero, suc, ◌+◌, ◌-◌, ◌*◌, ◌/◌, ◌%◌, ◌≤◌, ◌<◌}
use native.Mathlib.Omega.{arith}
use native.Mathlib.Nat.{le_refl}
use native.Mathlib.Numerals.{add-one, add-two, add-three}
use lib.ListN.{length, get_or, take, drop, length-drop}
use lib.Seq.{drop-cons, take-add, drop-drop, length-take-le}
use lib.Dec.{ltb, eqb}
use borrow.Author.Tests.{ltb-false}
use Rattle.image.specs.Bytes.{be32, part}
use Rattle.image.specs.Grammar.{bare, place, after, complete}
use Rattle.image.specs.Write.{Bytes, bytes4, content, framed, written, writtens, plain, plains}
use Rattle.image.specs.Read.{width_bytes, Read, got, bad, bind, head_at, stop_at, kind_at, Tree, Trees, absent, nil}
use Rattle.image.specs.Read.{◌▸◌, skips, child_by, child_at, record_at, children_at, tree_at, step_of}
use Rattle.image.proofs.Shapes.{is_got, skips_within, opened_after, opened_order}
use Rattle.image.proofs.Reading.{record_within}
use Rattle.image.proofs.Inside.{inside, none_deep}
use Rattle.image.proofs.Accepted.{Root}

-- two parts that meet
pub join : (b : List ℕ) (x y z : ℕ) → x ≤ y → y ≤ z → part x z b ≡ part x y b ++ part y z b
join b x y z p q =
    let e : z - x ≡ (y - x) + (z - y) = omega arith in
    let d : x + (y - x) ≡ y = omega arith in
    ap (λ (n : ℕ). take n (drop x b)) e ∙ take-add (y - x) (z - y) (drop x b)
    ∙ ap (λ (l : List ℕ). take (y - x) (drop x b) ++ take (z - y) l) (drop-drop (y - x) x b ∙ ap (λ (n : ℕ). drop n b) d)

pub part_length : (b : List ℕ) (x y : ℕ) → x ≤ y → y ≤ length b → length (part x y b) ≡ y - x
part_length b x y p q = length-take-le (y - x) (drop x b) (rw (length-drop x b) (omega arith))

digits : (x y z w : ℕ) → x < 256 → y < 256 → z < 256 → w < 256
    → bytes4 (x * 16777216 + y * 65536 + z * 256 + w) ≡ x ∷ y ∷ z ∷ w ∷ []
digits x y z w a b c d =
    let n = x * 16777216 + y * 65536 + z * 256 + w in
    let e₁ : n / 16777216 ≡ x = omega arith in
    let e₂ : n / 65536 % 256 ≡ y = omega arith in
    let e₃ : n / 256 % 256 ≡ z = omega arith in
    let e₄ : n % 256 ≡ w = omega arith in
    cc

-- the four bytes of a number are those it is written as
pub four : (b : List ℕ) (at : ℕ) → Bytes b → at + 4 ≤ length b → part at (at + 4) b ≡ bytes4 (be32 b at)
unfolding be32
four b at small h =
    let n : at + 4 - at ≡ 4 = omega arith in
    let e : take 4 (drop at b) ≡ get_or b at 0 ∷ get_or b (at + 1) 0 ∷ get_or b (at + 2) 0 ∷ get_or b (at + 3) 0 ∷ [] =
    rw (
      add-one,
      add-two,
      add-three,
      drop-cons b at 0 (omega arith),
      drop-cons b (suc at) 0 (omega arith),
      drop-cons b (suc (suc at)) 0 (omega arith),
      drop-cons b (suc (suc (suc at))) 0 (omega arith),
    )
    in
    ap (λ (k : ℕ). take k (drop at b)) n ∙ e
    ∙ sym (digits (get_or b at 0) (get_or b (at + 1) 0) (get_or b (at + 2) 0) (get_or b (at + 3) 0)
    (small at) (small (at + 1)) (small (at + 2)) (small (at + 3)))

single : (b : List ℕ) (at : ℕ) → at < length b → part at (at + 1) b ≡ get_or b at 0 ∷ []
single b at h =
    let n : at + 1 - at ≡ 1 = omega arith in
    ap (λ (k : ℕ). take k (drop at b)) n ∙ rw (drop-cons b at 0 h)

-- what follows the length of a record
content_part : (b : List ℕ) (at f st : ℕ) → Bytes b → at + 13 ≤ f → f ≤ st → st ≤ length b
    → part (at + 4) st b ≡ content (kind_at b at) (be32 b (at + 5)) (be32 b (at + 9)) (part (at + 13) f b) (part f st b)
content_part b at f st small p q r =
    let k : part (at + 4) (at + 5) b ≡ kind_at b at ∷ [] =
    ap (λ (n : ℕ). part (at + 4) n b) (omega arith) ∙ single b (at + 4) (omega arith) in
    let x : part (at + 5) (at + 9) b ≡ bytes4 (be32 b (at + 5)) =
    ap (λ (n : ℕ). part (at + 5) n b) (omega arith) ∙ four b (at + 5) small (omega arith) in
    let y : part (at + 9) (at + 13) b ≡ bytes4 (be32 b (at + 9)) =
    ap (λ (n : ℕ). part (at + 9) n b) (omega arith) ∙ four b (at + 9) small (omega arith) in
    join b (at + 4) (at + 5) st (omega arith) (omega arith)
    ∙ ap₂ (λ (u v : List ℕ). u ++ v) k
    (join b (at + 5) (at + 9) st (omega arith) (omega arith)
    ∙ ap₂ (λ (u v : List ℕ). u ++ v) x
    (join b (at + 9) (at + 13) st (omega arith) (omega arith)
    ∙ ap₂ (λ (u v : List ℕ). u ++ v) y (join b (at + 13) f st p q)))

-- a whole record
record_part : (b : List ℕ) (at f : ℕ) → Bytes b → at + 13 ≤ f → f ≤ stop_at b at → stop_at b at ≤ length b
    → part at (stop_at b at) b
    ≡ framed (content (kind_at b at) (be32 b (at + 5)) (be32 b (at + 9)) (part (at + 13) f b) (part f (stop_at b at) b))
record_part b at f small p q r =
    let st = stop_at b at in
    let n : length (part (at + 4) st b) ≡ be32 b at = part_length b (at + 4) st (omega arith) r ∙ omega arith in
    join b at (at + 4) st (omega arith) (omega arith)
    ∙ ap (λ (u : List ℕ). u ++ part (at + 4) st b) (four b at small (omega arith) ∙ ap bytes4 (sym n))
    ∙ ap framed (content_part b at f st small p q r)

-- what `one` reads of a parent that ends at `stop` are the bytes of its tree
abbrev Right : List ℕ → (ℕ → ℕ → ℕ → Read Tree) → Type 0
Right b one =
    (p at stop : ℕ) (t : Tree) (q : ℕ) → at ≤ stop → stop ≤ length b → one p at stop ≡ got t q
    → (part at q b ≡ written (plain b t)) × (at ≤ q) × (q ≤ stop)

children_exact : (b : List ℕ) (one : ℕ → ℕ → ℕ → Read Tree) → Right b one → (n row at stop : ℕ) (ts : Trees) (e : ℕ)
    → at ≤ stop → stop ≤ length b
    → children_at one n row at stop ≡ got ts e → part at stop b ≡ writtens (plains b ts)
unfolding children_at written plain
children_exact b one f zero row at stop ts e le l h = absurd (false≢true (ap is_got h))
children_exact b one f (suc n) row at stop ts e le l h = go (ltb at stop) (eqb row 0) (complete row) refl (children_exact b one f n (after row)) h
  where
    IH : Type 0
    IH =
        (a z : ℕ) (us : Trees) (k : ℕ) → a ≤ z → z ≤ length b → children_at one n (after row) a z ≡ got us k
        → part a z b ≡ writtens (plains b us)

    tails : (t : Tree) (k : ℕ) → part at k b ≡ written (plain b t) → at ≤ k → k ≤ stop → IH → (x : Read Trees)
        → children_at one n (after row) k stop ≡ x
        → bind x (λ us end. got (t ▸ us) end) ≡ got ts e → part at stop b ≡ writtens (plains b ts)
    tails t k here p q g (got us m) o h =
        let c : t ▸ us ≡ ts = cc in
        join b at k stop p q ∙ ap₂ (λ (u v : List ℕ). u ++ v) here (g k stop us m q l o) ∙ ap (λ (xs : Trees). writtens (plains b xs)) c
    tails t k here p q g (bad m z) o h = absurd (false≢true (ap is_got h))

    heads : IH → (x : Read Tree) → one (place row) at stop ≡ x
        → bind x (λ t next. bind (children_at one n (after row) next stop) (λ us end. got (t ▸ us) end)) ≡ got ts e
        → part at stop b ≡ writtens (plains b ts)
    heads g (got t k) o h =
        let r = f (place row) at stop t k le l o in
        tails t k r.0 r.1 r.2 g (children_at one n (after row) k stop) refl h
    heads g (bad m z) o h = absurd (false≢true (ap is_got h))

    go : (t₁ t₂ t₃ : Bool) → ltb at stop ≡ t₁ → IH
        → cond t₁
        (cond t₂ (bad 4 at) (bind (one (place row) at stop) (λ t next. bind (children_at one n (after row) next stop) (λ us end. got (t ▸ us) end))))
        (cond t₃ (got nil stop) (bad 4 at))
        ≡ got ts e → part at stop b ≡ writtens (plains b ts)
    go true true t₃ i g h = absurd (false≢true (ap is_got h))
    go true false t₃ i g h = heads g (one (place row) at stop) refl h
    go false t₂ true i g h =
        let past = ltb-false at stop i in
        let z : stop - at ≡ 0 = omega arith in
        let c : nil ≡ ts = cc in
        ap (λ (k : ℕ). take k (drop at b)) z ∙ ap (λ (xs : Trees). writtens (plains b xs)) c
    go false t₂ false i g h = absurd (false≢true (ap is_got h))

-- an absent child is four zeros
child_exact : (b : List ℕ) → Bytes b → (one : ℕ → ℕ → ℕ → Read Tree) → Right b one → Right b (child_by b one)
unfolding written plain
child_exact b small one f p at stop t q le l h = go (skips b p at stop) refl h
  where
    go : (x : Bool) → skips b p at stop ≡ x → cond x (got absent (at + 4)) (one (bare p) at stop) ≡ got t q
        → (part at q b ≡ written (plain b t)) × (at ≤ q) × (q ≤ stop)
    go true k h =
        let w = skips_within b p at stop k in
        let here : at + 4 ≡ q = cc in
        let is : absent ≡ t = cc in (
          ap (λ (k : ℕ). part at k b) (sym here) ∙ four b at small (omega (arith, w.0)) ∙ ap bytes4 w.1 ∙ ap (λ (u : Tree). written (plain b u)) is,
          omega arith,
          omega (arith, w.0),
        )
    go false k h = f (bare p) at stop t q le l h

-- the bytes of what was read are those that its tree is written as
pub exact : (s b : List ℕ) → Bytes b → (v left p at end : ℕ) (t : Tree) (q : ℕ) → at ≤ end → end ≤ length b
    → record_at s b v left p at end ≡ got t q
    → part at q b ≡ written (plain b t)
unfolding written plain
exact s b small v zero p at end t q le l h = absurd (none_deep s b v p at end t q h)
exact s b small v (suc left) p at end t q le l h =
    let i = inside s b v left p at end t q h in
    let o = i.held in
    let far : stop_at b at ≤ length b = omega (arith, o.right.within) in
    let below : Right b (record_at s b v left) =
    λ p at stop t q x y e.
    let w = record_within s b v left p at stop q (ap step_of e) in
    (exact s b small v left p at stop t q x y e, omega (arith, w.0), w.1)
    in
    ap (λ (k : ℕ). part at k b) i.stop
    ∙ record_part b at (head_at b at).first small (opened_after o) (opened_order o) far
    ∙ ap
    (λ (r : List ℕ). framed (content (kind_at b at) (be32 b (at + 5)) (be32 b (at + 9)) (part (at + 13) (head_at b at).first b) r))
    (children_exact b (child_at s b v left) (child_exact b small (record_at s b v left) below) _ _ _ _ _ _ (opened_order o) far i.kept)
    ∙ ap (λ (u : Tree). written (plain b u)) (sym i.is)

-- an accepted image ends with the bytes that its tree is written as
pub tree_exact : (may : ℕ → Bool) (ordered : Bool) (s b : List ℕ) (n at : ℕ) → Bytes b → (r : Root may ordered s b n at)
    → part at (length b) b ≡ written (plain b r.tree)
unfolding tree_at
tree_exact may ordered s b n at small r =
    let h = r.list.within in
    exact s b small (width_bytes b) 64 1 at (length b) r.tree (length b) (omega (arith, r.place, r.count)) (le_refl (length b)) r.reads
