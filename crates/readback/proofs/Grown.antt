-- What is read has the operands that the grammar gives it: the children of a 63 are three records, of a 60 and of a 64 one; and where they stand.
-- Assumes nothing.
use mathlib.Core.Path.{◌≡◌, refl, sym, ap, subst, ◌∙◌}
use mathlib.Core.Bool.{Bool, true, false, cond, ◌&&◌, ◌||◌}
use mathlib.Core.List.{List}
use Prim.Native.Nat.{ℕ, zero, suc, ◌+◌, ◌≤◌}
use native.Mathlib.Omega.{arith}
use lib.Dec.{leb, ltb, eqb}
use lib.ListN.{length}
use borrow.Author.Tests.{eqb-true}
use Rattle.laws.proofs.Booleans.{false_true}
use Rattle.image.specs.Bytes.{be32}
use Rattle.image.specs.Grammar.{is_optional, is_list, bare, place, after, complete, row_of, row_under_of, kind_fits_of, first_child}
use Rattle.image.specs.Kinds.{BIN_OP, NOT, NEGATE}
use Rattle.image.specs.Read.{got, bad, bind, Head, head_at, stop_at, kind_at, Tree, Trees, absent, node, nil, ◌▸◌, skips}
use Rattle.image.specs.Limits.{MAX_RECORDS_DEEP}
use Rattle.image.specs.Read.{child_at, record_at, children_at, Image, width_bytes, tree_at, read_image, read_with, document_of, outcome}
use Rattle.image.specs.Standing.{Whole, Stands, Row}
use Rattle.image.proofs.Accepted.{input, read_inside}
use Rattle.image.proofs.Inside.{inside, none_deep, must}
use Rattle.image.proofs.Got.{never, bind_got, passed, stayed}
use Rattle.readback.specs.Operands.{left_at, operator_at, right_at, operand_at, is_operator}
use Rattle.readback.specs.Standing.{First, Three, Kin, Grown, GrownIn, Binary, Operands, OperandsAt}

-- ---- what is read
-- kinds with operands are no list's
apart : (t x : Bool) (y z : ℕ) → cond t false x ≡ true → cond t y z ≡ z
apart true x y z f = false_true f
apart false x y z f = refl

own_row : (p k : ℕ) → eqb k 3 ≡ false → kind_fits_of p k ≡ true → row_under_of p k ≡ row_of k
unfolding kind_fits_of row_under_of
own_row p k o f = apart (is_list p) _ _ _ (rw o at f)

module _ (s b : List ℕ) (v left : ℕ) where
  record OneRead (t : Tree) : Type 0 where
    pub head : Head
    pub inner : Trees
    pub is : t ≡ node head inner

  one_read : (d p at end : ℕ) (t : Tree) (q : ℕ) → record_at s b v d p at end ≡ got t q → OneRead t
  one_read zero p at end t q e = absurd (none_deep s b v p at end t q e)
  one_read (suc d) p at end t q e =
      let i = inside s b v d p at end t q e in
      record { head = head_at b at; inner = i.trees; is = i.is }

  -- where a record is due next, it was read
  record DueRead (row stop : ℕ) (ts : Trees) (e : ℕ) : Type 0 where
    pub first : First ts
    pub turns : ℕ
    pub next : ℕ
    pub more : children_at (child_at s b v left) turns (after row) next stop ≡ got first.others e

  due_read : (n row at stop : ℕ) (ts : Trees) (e : ℕ) → complete row ≡ false → is_optional (place row) ≡ false
      → children_at (child_at s b v left) n row at stop ≡ got ts e → DueRead row stop ts e
  unfolding skips
  due_read n row at stop ts e c o h =
      let m = must (child_at s b v left) n row at stop ts e c h in
      let one = record_at s b v left (bare (place row)) at stop in
      let read = sym (ap (λ (t : Bool). cond (t && leb (at + 4) stop && eqb (be32 b at) 0) (got absent (at + 4)) one) o) ∙ m.reads in
      let r = one_read left (bare (place row)) at stop m.head m.next read in
      record {
        first = record { head = r.head; inner = r.inner; others = m.tail; is = m.cons ∙ ap (λ (t : Tree). t ▸ m.tail) r.is };
        turns = m.turns;
        next = m.next;
        more = m.more;
      }

  three_read : (n at stop : ℕ) (ts : Trees) (e : ℕ) → children_at (child_at s b v left) n (row_of BIN_OP) at stop ≡ got ts e → Three ts
  unfolding row_of
  three_read n at stop ts e h =
      let x = due_read n (row_of BIN_OP) at stop ts e refl refl h in
      let y = due_read x.turns (after (row_of BIN_OP)) x.next stop x.first.others e refl refl x.more in
      let z = due_read y.turns (after (after (row_of BIN_OP))) y.next stop y.first.others e refl refl y.more in
      record { left = x.first; operator = y.first; right = z.first }

  first_read : (k n at stop : ℕ) (ts : Trees) (e : ℕ) → (eqb k NOT || eqb k NEGATE) ≡ true
      → children_at (child_at s b v left) n (row_of k) at stop ≡ got ts e → First ts
  unfolding row_of
  first_read k n at stop ts e w h = go (eqb k NOT) refl w
    where
      go : (t : Bool) → eqb k NOT ≡ t → (t || eqb k NEGATE) ≡ true → First ts
      go true f w = (due_read n (row_of NOT) at stop ts e refl refl (rw (eqb-true k NOT f) at h)).first
      go false f w = (due_read n (row_of NEGATE) at stop ts e refl refl (rw (eqb-true k NEGATE w) at h)).first

  kin_read : (p k n at stop : ℕ) (ts : Trees) (e : ℕ) → kind_fits_of p k ≡ true
      → children_at (child_at s b v left) n (row_under_of p k) at stop ≡ got ts e → Kin k ts
  kin_read p k n at stop ts e f h =
      record {
        binary = λ is. three_read n at stop ts e (rw (own_row p BIN_OP refl (rw is at f)) at (rw is at h));
        unary = λ w. first_read k n at stop ts e w (rw (own_row p k (no_list w) f) at h);
      }
    where
      no_list : (eqb k NOT || eqb k NEGATE) ≡ true → eqb k 3 ≡ false
      no_list w = go (eqb k NOT) refl w
        where
          go : (t : Bool) → eqb k NOT ≡ t → (t || eqb k NEGATE) ≡ true → eqb k 3 ≡ false
          go true g w = rw (eqb-true k NOT g) refl
          go false g w = rw (eqb-true k NEGATE w) refl

module _ (s b : List ℕ) (v : ℕ) where
  row_grown : (left : ℕ) → ((p at end : ℕ) (t : Tree) (q : ℕ) → record_at s b v left p at end ≡ got t q → Grown t)
      → (n row at stop : ℕ) (ts : Trees) (e : ℕ) → children_at (child_at s b v left) n row at stop ≡ got ts e → GrownIn ts
  unfolding children_at Grown
  row_grown left one zero row at stop ts e r = never r
  row_grown left one (suc n) row at stop ts e r = go (λ at us x. row_grown left one n (after row) at stop us x) (ltb at stop) r
    where
      p : ℕ
      p = bare (place row)

      child : (at next : ℕ) (t : Tree) (u : Bool) → cond u (got absent (at + 4)) (record_at s b v left p at stop) ≡ got t next → Grown t
      child at next t true h =
          let is : absent ≡ t = cc in
          subst Grown is tt
      child at next t false h = one p at stop t next h

      go : ((at : ℕ) (us : Trees) (x : ℕ) → children_at (child_at s b v left) n (after row) at stop ≡ got us x → GrownIn us)
          → (u : Bool)
          → cond u
          (cond (eqb row 0) (bad 4 at)
          (bind (child_at s b v left (place row) at stop)
          (λ t next. bind (children_at (child_at s b v left) n (after row) next stop) (λ us end. got (t ▸ us) end))))
          (cond (complete row) (got nil stop) (bad 4 at))
          ≡ got ts e
          → GrownIn ts
      go later true r =
          let c = stayed (eqb row 0) _ 4 at ts e r in
          let x = bind_got (child_at s b v left (place row) at stop) _ ts e c.1 in
          let y = bind_got (children_at (child_at s b v left) n (after row) x.1 stop) _ ts e x.3 in
          let is : x.0 ▸ y.0 ≡ ts = cc y.3 in
          let both : GrownIn (x.0 ▸ y.0) = (child at x.1 x.0 (skips b (place row) at stop) x.2, later x.1 y.0 y.1 y.2) in
          subst GrownIn is both
      go later false r =
          let c = passed (complete row) _ 4 at ts e r in
          let is : nil ≡ ts = cc c.1 in
          subst GrownIn is tt

  pub record_grown : (left p at end : ℕ) (t : Tree) (q : ℕ) → record_at s b v left p at end ≡ got t q → Grown t
  unfolding Grown
  record_grown zero p at end t q e = absurd (none_deep s b v p at end t q e)
  record_grown (suc left) p at end t q e =
      let i = inside s b v left p at end t q e in
      let k = kin_read s b v left p (kind_at b at) _ _ _ i.trees (stop_at b at) i.held.right.kind i.kept in
      let g : Grown (node (head_at b at) i.trees) = (k, row_grown left (record_grown left) _ _ _ _ i.trees (stop_at b at) i.kept) in
      subst Grown (sym i.is) g

-- so is the tree of an image that is read
pub image_grown : (may : ℕ → Bool) (ordered : Bool) (s b : List ℕ) (i : Image) (end : ℕ) → read_with may ordered s b ≡ got i end → Grown i.tree
unfolding tree_at
image_grown may ordered s b i end h =
    let a = input may ordered s b (document_of i) (ap outcome h) in
    let r = a.root in
    let same : read_with may ordered s b ≡ read_image may ordered s b = read_inside may ordered s b a.short a.well in
    let w : got (record { comments = i.comments; tree = r.tree; at = i.at }) (length b) ≡ got i end = sym r.whole ∙ sym same ∙ h in
    let is : record { comments = i.comments; tree = r.tree; at = i.at } ≡ i = cc in
    let tree : r.tree ≡ i.tree = ap (λ (x : Image). x.tree) is in
    subst Grown tree (record_grown s b (width_bytes b) MAX_RECORDS_DEEP 1 i.at (length b) r.tree (length b) r.reads)

-- ---- where it stands
module _ (b : List ℕ) (v : ℕ) where
  record FirstThere (ts : Trees) (f : First ts) (at stop : ℕ) : Type 0 where
    pub itself : Stands b v (node f.head f.inner) at (stop_at b at)
    pub whole : Whole b v at
    pub others : Row b v f.others (stop_at b at) stop

  first_there : (ts : Trees) (f : First ts) (at stop : ℕ) → Row b v ts at stop → FirstThere ts f at stop
  unfolding Row Stands
  first_there ts f at stop s =
      let r : Row b v (node f.head f.inner ▸ f.others) at stop = subst (λ (x : Trees). Row b v x at stop) f.is s in
      record { itself = r.0; whole = r.0.0.whole; others = r.1 }

  -- the children of a record with operands stand behind its head
  first_behind_head : (k n at : ℕ) → k ≡ n → first_child n (at + 13) (stop_at b at) ≡ at + 13 → first_child k (at + 13) (stop_at b at) ≡ at + 13
  first_behind_head k n at e f = rw e f

  record Children (h : Head) (ts : Trees) (at : ℕ) : Type 0 where
    pub kind : h.kind ≡ kind_at b at
    pub row : Row b v ts (head_at b at).first (stop_at b at)

  children : (h : Head) (ts : Trees) (at end : ℕ) → Stands b v (node h ts) at end → Children h ts at
  unfolding Stands
  children h ts at end s = record { kind = ap (λ (x : Head). x.kind) s.0.is; row = s.1 }

  module _ (short : length b ≤ 1048581) where
    binary : (h : Head) (ts : Trees) (at end : ℕ) → Stands b v (node h ts) at end → Kin h.kind ts → is_operator b at ≡ true → Binary b at
    unfolding first_child
    binary h ts at end s k o =
        let c = children h ts at end s in
        let is = eqb-true (kind_at b at) BIN_OP o in
        let three = k.binary (c.kind ∙ is) in
        let x = first_there ts three.left (left_at at) (stop_at b at) (rw is at c.row) in
        let y = first_there three.left.others three.operator (operator_at b at) (stop_at b at) x.others in
        let z = first_there three.operator.others three.right (right_at b at) (stop_at b at) y.others in
        record {
          left = omega (arith, x.whole.long, x.whole.inside);
          operator = omega (arith, y.whole.long, z.whole.long, z.whole.inside);
          right = omega (arith, z.whole.long, z.whole.inside);
          short = short;
        }

    operands : (h : Head) (ts : Trees) (at end : ℕ) → Stands b v (node h ts) at end → Kin h.kind ts → GrownIn ts → is_operator b at ≡ true
        → Operands b at
    unfolding first_child Grown
    operands h ts at end s k g o =
        let c = children h ts at end s in
        let is = eqb-true (kind_at b at) BIN_OP o in
        let three = k.binary (c.kind ∙ is) in
        let x = first_there ts three.left (left_at at) (stop_at b at) (rw is at c.row) in
        let y = first_there three.left.others three.operator (operator_at b at) (stop_at b at) x.others in
        let z = first_there three.operator.others three.right (right_at b at) (stop_at b at) y.others in
        let gx = subst GrownIn three.left.is g in
        let gy = subst GrownIn three.operator.is gx.1 in
        let gz = subst GrownIn three.right.is gy.1 in
        record {
          itself = binary h ts at end s k o;
          left = binary three.left.head three.left.inner (left_at at) _ x.itself gx.0.0;
          right = binary three.right.head three.right.inner (right_at b at) _ z.itself gz.0.0;
        }

    pub operands_at : (h : Head) (ts : Trees) (at end : ℕ) → Stands b v (node h ts) at end → Kin h.kind ts → GrownIn ts → OperandsAt b at
    unfolding first_child Stands
    operands_at h ts at end s k g =
        let w = s.0.whole in
        record {
          binary = operands h ts at end s k g;
          unary = λ u. go (eqb (kind_at b at) NOT) refl u;
          inside = omega (arith, w.long, w.inside);
          short = short;
        }
      where
        one : (n : ℕ) → kind_at b at ≡ n → first_child n (at + 13) (stop_at b at) ≡ at + 13 → (eqb n NOT || eqb n NEGATE) ≡ true
            → operand_at at + 5 ≤ length b
        one n is f u =
            let c = children h ts at end s in
            let first = k.unary (rw (c.kind ∙ is) u) in
            let here = first_behind_head (kind_at b at) n at is f in
            let x = first_there ts first (operand_at at) (stop_at b at) (subst (λ (m : ℕ). Row b v ts m (stop_at b at)) here c.row) in
            omega (arith, x.whole.long, x.whole.inside)

        go : (t : Bool) → eqb (kind_at b at) NOT ≡ t → (t || eqb (kind_at b at) NEGATE) ≡ true → operand_at at + 5 ≤ length b
        go true e u = one NOT (eqb-true (kind_at b at) NOT e) refl refl
        go false e u = one NEGATE (eqb-true (kind_at b at) NEGATE u) refl refl
