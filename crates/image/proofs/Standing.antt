-- A tree that stands in an image: where it ends, and that what is accepted stands.
-- Assumes nothing.
use mathlib.Core.Path.{◌≡◌, refl, sym, ap, subst, ◌∙◌}
use mathlib.Core.Bool.{Bool, true, false, cond}
use mathlib.Core.List.{List}
use Prim.Native.Nat.{ℕ, zero, suc, ◌+◌, ◌*◌, ◌≤◌}
use native.Mathlib.Omega.{arith}
use lib.Dec.{ltb, eqb}
use lib.ListN.{length}
use borrow.Author.Tests.{ltb-false}
use Rattle.image.specs.Bytes.{be16}
use Rattle.image.specs.Grammar.{bare, place, after, complete, row_under_of}
use Rattle.image.specs.Read.{got, bad, bind, head_at, stop_at, kind_at, Tree, Trees, absent, node, nil, ◌▸◌, Image, skips, version, width_bytes}
use Rattle.image.specs.Read.{child_at, record_at, children_at, tree_at, read_image, read_with, document_of, outcome}
use Rattle.image.specs.Standing.{Whole, Stands, Row}
use Rattle.image.proofs.Shapes.{opened_order, skips_within, text_payload, first_after}
use Rattle.image.proofs.Inside.{inside, none_deep}
use Rattle.image.proofs.Accepted.{input, read_inside}
use Rattle.image.proofs.Got.{never, bind_got, passed, stayed}

-- ---- where it ends
pub record Ends (b : List ℕ) (at end : ℕ) : Type 0 where
  pub is : end ≡ stop_at b at
  pub after : at + 4 ≤ end
  pub inside : end ≤ length b

pub tree_ends : (b : List ℕ) (v : ℕ) (t : Tree) (at end : ℕ) → Stands b v t at end → Ends b at end
unfolding Stands
tree_ends b v absent at end s = record { is = s.ends; after = omega (arith, s.ends, s.empty); inside = omega (arith, s.ends, s.empty, s.inside) }
tree_ends b v (node h ts) at end s =
    record { is = s.0.ends; after = omega (arith, s.0.ends); inside = omega (arith, s.0.ends, s.0.whole.inside) }

pub row_order : (b : List ℕ) (v : ℕ) (ts : Trees) (at stop : ℕ) → Row b v ts at stop → at ≤ stop
unfolding Row
row_order b v nil at stop s = omega arith
row_order b v (t ▸ ts) at stop s =
    let e = tree_ends b v t at (stop_at b at) s.0 in
    let l = row_order b v ts (stop_at b at) stop s.1 in
    omega (arith, e.after)

-- the payload ends behind the head
pub first_behind : (b : List ℕ) (v at : ℕ) → Whole b v at → at + 13 ≤ (head_at b at).first
first_behind b v at w = first_after (kind_at b at) (at + 13) (stop_at b at) (omega (arith, w.long))

-- ---- what is accepted stands
module _ (s b : List ℕ) (v : ℕ) where
  record Child (t : Tree) (at q stop : ℕ) : Type 0 where
    pub stands : Stands b v t at q
    pub within : q ≤ stop

  child_stands : (left : ℕ)
      → ((p at end : ℕ) (t : Tree) (q : ℕ) → end ≤ length b → record_at s b v left p at end ≡ got t q → Child t at q end)
      → (p at stop : ℕ) (t : Tree) (q : ℕ) → stop ≤ length b → child_at s b v left p at stop ≡ got t q → Child t at q stop
  unfolding Stands
  child_stands left one p at stop t q h e = go (skips b p at stop) refl e
    where
      go : (u : Bool) → skips b p at stop ≡ u → cond u (got absent (at + 4)) (record_at s b v left (bare p) at stop) ≡ got t q → Child t at q stop
      go true k e =
          let w = skips_within b p at stop k in
          let same : at + 4 ≡ q = cc in
          let is : absent ≡ t = cc in
          let gap : Stands b v absent at q = record { empty = w.1; inside = omega (arith, w.0); ends = omega (arith, w.1) } in
          record { stands = subst (λ (x : Tree). Stands b v x at q) is gap; within = omega (arith, w.0) }
      go false k e = one (bare p) at stop t q h e

  row_stands : (left : ℕ) → ((p at end : ℕ) (t : Tree) (q : ℕ) → end ≤ length b → record_at s b v left p at end ≡ got t q → Child t at q end)
      → (n row at stop : ℕ) (ts : Trees) (e : ℕ) → at ≤ stop → stop ≤ length b → children_at (child_at s b v left) n row at stop ≡ got ts e
      → Row b v ts at stop
  unfolding children_at Row
  row_stands left one zero row at stop ts e h k r = never r
  row_stands left one (suc n) row at stop ts e h k r =
      go (λ at us x. row_stands left one n (after row) at stop us x) (ltb at stop) refl r
    where
      go : ((at : ℕ) (us : Trees) (x : ℕ) → at ≤ stop → stop ≤ length b
          → children_at (child_at s b v left) n (after row) at stop ≡ got us x → Row b v us at stop)
          → (u : Bool) → ltb at stop ≡ u
          → cond u
          (cond (eqb row 0) (bad 4 at)
          (bind (child_at s b v left (place row) at stop)
          (λ t next. bind (children_at (child_at s b v left) n (after row) next stop) (λ us end. got (t ▸ us) end))))
          (cond (complete row) (got nil stop) (bad 4 at))
          ≡ got ts e
          → Row b v ts at stop
      go later true l r =
          let c = stayed (eqb row 0) _ 4 at ts e r in
          let x = bind_got (child_at s b v left (place row) at stop) _ ts e c.1 in
          let y = bind_got (children_at (child_at s b v left) n (after row) x.1 stop) _ ts e x.3 in
          let kid = child_stands left one (place row) at stop x.0 x.1 k x.2 in
          let ends = tree_ends b v x.0 at x.1 kid.stands in
          let more = later x.1 y.0 y.1 kid.within k y.2 in
          let is : x.0 ▸ y.0 ≡ ts = cc y.3 in
          let both : Row b v (x.0 ▸ y.0) at stop =
          (subst (λ (m : ℕ). Stands b v x.0 at m) ends.is kid.stands, subst (λ (m : ℕ). Row b v y.0 m stop) ends.is more) in
          subst (λ (x : Trees). Row b v x at stop) is both
      go later false l r =
          let c = passed (complete row) _ 4 at ts e r in
          let is : nil ≡ ts = cc c.1 in
          let none : Row b v nil at stop = omega (arith, ltb-false at stop l) in
          subst (λ (x : Trees). Row b v x at stop) is none

  record_stands : (left p at end : ℕ) (t : Tree) (q : ℕ) → end ≤ length b → record_at s b v left p at end ≡ got t q → Child t at q end
  unfolding Stands
  record_stands zero p at end t q h e = absurd (none_deep s b v p at end t q e)
  record_stands (suc left) p at end t q h e =
      let i = inside s b v left p at end t q e in
      let r = i.held.right in
      let whole : Whole b v at =
      record {
        long = r.long;
        inside = omega (arith, r.within);
        payload = opened_order i.held;
        width = λ k. omega (arith, (text_payload b v p (at + 13) (stop_at b at) (rw k at r.payload)).0);
      } in
      let row = row_stands left (record_stands left) (suc (length b)) (row_under_of p (kind_at b at)) (head_at b at).first (stop_at b at) i.trees (stop_at b at)
      (opened_order i.held) (omega (arith, r.within)) i.kept in
      let node-stands : Stands b v (node (head_at b at) i.trees) at q = (record { is = refl; whole = whole; ends = i.stop }, row) in
      record { stands = subst (λ (x : Tree). Stands b v x at q) (sym i.is) node-stands; within = omega (arith, i.stop, r.within) }

pub record There (may : ℕ → Bool) (b : List ℕ) (i : Image) : Type 0 where
  pub may_be : may (version b) ≡ true
  pub stands : Stands b (width_bytes b) i.tree i.at (length b)
  pub count : i.comments ≡ be16 b 5
  pub few : i.comments ≤ 8192
  pub room : 7 + 8 * i.comments ≤ length b
  pub place : i.at ≡ 7 + 8 * i.comments
  pub short : length b ≤ 1048581

pub there : (may : ℕ → Bool) (ordered : Bool) (s b : List ℕ) (i : Image) (end : ℕ) → read_with may ordered s b ≡ got i end → There may b i
unfolding tree_at
there may ordered s b i end h =
    let a = input may ordered s b (document_of i) (ap outcome h) in
    let r = a.root in
    let same : read_with may ordered s b ≡ read_image may ordered s b = read_inside may ordered s b a.short a.well in
    let w : got (record { comments = i.comments; tree = r.tree; at = i.at }) (length b) ≡ got i end = sym r.whole ∙ sym same ∙ h in
    let is : record { comments = i.comments; tree = r.tree; at = i.at } ≡ i = cc in
    let tree : r.tree ≡ i.tree = ap (λ (x : Image). x.tree) is in
    let st = (record_stands s b (width_bytes b) 64 1 i.at (length b) r.tree (length b) (omega arith) r.reads).stands in
    record {
      may_be = r.head.may_be;
      stands = rw tree at st;
      count = r.count;
      few = omega (arith, r.count, r.list.few);
      room = omega (arith, r.count, r.list.within);
      place = r.place;
      short = omega (arith, r.head.size, r.head.short);
    }
