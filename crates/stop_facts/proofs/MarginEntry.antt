-- As rows are entered: what is open at a stop, closed there, leaves the margin from before. By induction on nodes whose rows have their kinds.
-- Assumes nothing.
use mathlib.Core.Path.{◌≡◌, refl, sym, ◌∙◌, subst}
use mathlib.Core.Bool.{Bool, true, false, cond, not, ◌&&◌}
use mathlib.Core.List.{List, [], ◌∷◌, ◌++◌, append_assoc, append-nil}
use Prim.Native.Nat.{ℕ, zero, suc, ◌-◌, ◌≤◌, ◌<◌}
use native.Mathlib.Omega.{arith}
use native.Mathlib.Decide.{dec_lt}
use lib.Dec.{ltb}
use borrow.Author.Tests.{ltb-true, ltb-false}
use Rattle.rows.specs.Kinds.{GROUP, INDENT, INDENT_NEXT, WRAP_PARENT, LINE_OR_SPACE, IF_WRAP, CALL}
use Rattle.rows.specs.Node.{Node, Nodes, group, indent, indent_next, wrap_parent, comment as comment_node, str, ascii}
use Rattle.rows.specs.Node.{line, empty_line, line_or_space, if_wrap, call, none, ◌then◌, wrapped}
use Rattle.rows.specs.View.{View, nodes_at, node_at, first_of}
use Rattle.rows.specs.Nesting.{RangeIn, TwoParts, Split, Nests, over, leaf, block, two, pair}
use Rattle.rows.proofs.Decode.{nodes_some, nodes_none, node_group, node_indent, node_next, node_parent, node_comment, node_str, node_ascii}
use Rattle.rows.proofs.Decode.{node_line, node_empty, node_space, node_if, node_call}
use Rattle.rows.proofs.Nested.{leaf_within}
use Rattle.renderer_rules.specs.declared.Pen.{Pen}
use Rattle.renderer_rules.specs.Renderer.{Page, Renderer, on_pen, insert, indent_more, indent_less, next_indent_more, next_indent_less, group_wraps}
use Rattle.renderer_rules.specs.Renderer.{trailing_call, callee_wraps, render_node, render_nodes}
use Rattle.renderer_rules.specs.Stops.{OpenRow, trailing, way_of, is_deeper, open_at, Stop, stop_at, inside, within, entered}
use Rattle.renderer_rules.specs.Drift.{AllStops}
use Rattle.renderer_rules.specs.Listed.{closed_pen, closed_all}
use Rattle.renderer_rules.proofs.Closable.{PenKept}
use Rattle.renderer_rules.proofs.Margin.{render_kept, renders_kept}
use Rattle.stop_facts.specs.Margin.{EntersKept, EntryKept}
use Rattle.stop_facts.proofs.EachStop.{all_append, all_map, all_none, all_first, all_cond}
use Rattle.stop_facts.proofs.MarginPens.{kept_here, kept_on, as_margin, closed_most}

-- ---- the rows of nodes have the kinds of the nodes
abbrev mutual
  pub KindAt : View → Node → ℕ → Type 0
  KindAt v (group n ns) i = (v.kind i ≡ GROUP) × Kinds v ns (suc i)
  KindAt v (indent ns) i = (v.kind i ≡ INDENT) × Kinds v ns (suc i)
  KindAt v (indent_next ns) i = (v.kind i ≡ INDENT_NEXT) × Kinds v ns (suc i)
  KindAt v wrap_parent i = Unit {0}
  KindAt v (comment_node t) i = Unit {0}
  KindAt v (str w t) i = Unit {0}
  KindAt v (ascii t) i = Unit {0}
  KindAt v line i = Unit {0}
  KindAt v empty_line i = Unit {0}
  KindAt v line_or_space i = Unit {0}
  KindAt v (if_wrap n a b) i = (v.kind i ≡ IF_WRAP) × KindAt v a (suc i) × KindAt v b (v.second i)
  KindAt v (call n e k a) i = (v.kind i ≡ CALL) × Kinds v e (suc i) × Kinds v a (v.second i)

  pub Kinds : View → Nodes → ℕ → Type 0
  Kinds v none i = Unit {0}
  Kinds v (n then ns) i = KindAt v n i × Kinds v ns (v.after i)

first_kind : (v : View) (ns : Nodes) (i : ℕ) → Kinds v ns i → KindAt v (first_of ns) i
first_kind v none i p = tt
first_kind v (n then ns) i p = p.0

module _ (v : View) where
  leaf_kind : (i k : ℕ) → v.kind i ≡ k → WRAP_PARENT ≤ k → k ≤ LINE_OR_SPACE → KindAt v (node_at v i) i
  leaf_kind i zero e a b = absurd (omega arith)
  leaf_kind i (suc zero) e a b = absurd (omega arith)
  leaf_kind i (suc (suc zero)) e a b = absurd (omega arith)
  leaf_kind i (suc (suc (suc zero))) e a b = rw (node_parent v i e) tt
  leaf_kind i (suc (suc (suc (suc zero)))) e a b = rw (node_comment v i e) tt
  leaf_kind i (suc (suc (suc (suc (suc zero))))) e a b = rw (node_str v i e) tt
  leaf_kind i (suc (suc (suc (suc (suc (suc zero)))))) e a b = rw (node_ascii v i e) tt
  leaf_kind i (suc (suc (suc (suc (suc (suc (suc zero))))))) e a b = rw (node_line v i e) tt
  leaf_kind i (suc (suc (suc (suc (suc (suc (suc (suc zero)))))))) e a b = rw (node_empty v i e) tt
  leaf_kind i (suc (suc (suc (suc (suc (suc (suc (suc (suc zero))))))))) e a b = rw (node_space v i e) tt
  leaf_kind i (suc (suc (suc (suc (suc (suc (suc (suc (suc (suc k)))))))))) e a b = absurd (omega arith)

  block_kind : (i k : ℕ) → v.kind i ≡ k → k ≤ INDENT_NEXT → Kinds v (nodes_at v (suc i) (v.after i)) (suc i) → KindAt v (node_at v i) i
  block_kind i zero e h p = rw (node_group v i e) (e, p)
  block_kind i (suc zero) e h p = rw (node_indent v i e) (e, p)
  block_kind i (suc (suc zero)) e h p = rw (node_next v i e) (e, p)
  block_kind i (suc (suc (suc k))) e h p = absurd (omega arith)

  two_kind : (i : ℕ) → v.kind i ≡ IF_WRAP → TwoParts v i → Kinds v (nodes_at v (suc i) (v.second i)) (suc i)
      → Kinds v (nodes_at v (v.second i) (v.after i)) (v.second i)
      → KindAt v (node_at v i) i
  two_kind i e t p q =
      let u = t.up in
      let w = t.to in
      rw (node_if v i e (record { up = omega arith; to = omega arith })) (
        e,
        first_kind v (nodes_at v (suc i) (v.second i)) (suc i) p,
        first_kind v (nodes_at v (v.second i) (v.after i)) (v.second i) q,
      )

  pair_kind : (i : ℕ) → v.kind i ≡ CALL → Split v i → Kinds v (nodes_at v (suc i) (v.second i)) (suc i)
      → Kinds v (nodes_at v (v.second i) (v.after i)) (v.second i)
      → KindAt v (node_at v i) i
  pair_kind i e t p q = rw (node_call v i e t) (e, p, q)

  row_kind : (i j : ℕ) → RangeIn v i j → KindAt v (node_at v i) i → Kinds v (nodes_at v (v.after i) j) (v.after i) → Kinds v (nodes_at v i j) i
  row_kind i j h p q = rw (nodes_some v i j h) (p, q)

  -- the nodes of a range that nests
  pub kinds : {i j d : ℕ} → Nests v i j d → Kinds v (nodes_at v i j) i
  kinds {i} {j} (over e) = rw (nodes_none v i j (omega arith)) tt
  kinds {i} {j} (leaf a b e f s g) =
      row_kind i j (leaf_within e f) (leaf_kind i (v.kind i) refl a b) (subst (λ (n : ℕ). Kinds v (nodes_at v n j) n) (sym e) (kinds g))
  kinds {i} {j} (block a h s g l) = row_kind i j h (block_kind i (v.kind i) refl a (kinds g)) (kinds l)
  kinds {i} {j} (two a h t s g l m) = row_kind i j h (two_kind i a t (kinds g) (kinds l)) (kinds m)
  kinds {i} {j} (pair a h t s g l m) = row_kind i j h (pair_kind i a t (kinds g) (kinds l)) (kinds m)

  -- each row of it by itself
  find : (i k : ℕ) → KindAt v (node_at v i) i → i ≤ k → (suc i ≤ k → k < v.after i → KindAt v (node_at v k) k)
      → (v.after i ≤ k → KindAt v (node_at v k) k)
      → KindAt v (node_at v k) k
  find i k n p x y = go (dec_lt k (v.after i)) (dec_lt i k)
    where
      go : Dec (k < v.after i) → Dec (i < k) → KindAt v (node_at v k) k
      go (yes h) (yes l) = x l h
      go (yes h) (no l) = let z : i ≡ k = omega arith in subst (λ (m : ℕ). KindAt v (node_at v m) m) z n
      go (no h) l = y (omega arith)

  in_parts : (i k : ℕ) → (suc i ≤ k → k < v.second i → KindAt v (node_at v k) k) → (v.second i ≤ k → k < v.after i → KindAt v (node_at v k) k)
      → suc i ≤ k → k < v.after i → KindAt v (node_at v k) k
  in_parts i k x y p q = go (dec_lt k (v.second i))
    where
      go : Dec (k < v.second i) → KindAt v (node_at v k) k
      go (yes u) = x p u
      go (no u) = y (omega arith) q

  pub row_kinds : {i j d : ℕ} → Nests v i j d → (k : ℕ) → i ≤ k → k < j → KindAt v (node_at v k) k
  row_kinds (over e) k p q = absurd (omega arith)
  row_kinds {i} {j} (leaf a b e f s g) k p q =
      find i k (leaf_kind i (v.kind i) refl a b) p (λ h l. absurd (omega arith)) (λ h. row_kinds g k (omega arith) q)
  row_kinds {i} {j} (block a w s g r) k p q =
      find i k (block_kind i (v.kind i) refl a (kinds g)) p (λ h l. row_kinds g k h l) (λ h. row_kinds r k h q)
  row_kinds {i} {j} (two a w t s g l r) k p q =
      find i k (two_kind i a t (kinds g) (kinds l)) p (in_parts i k (λ h u. row_kinds g k h u) (λ h u. row_kinds l k h u)) (λ h. row_kinds r k h q)
  row_kinds {i} {j} (pair a w t s g l r) k p q =
      find i k (pair_kind i a t (kinds g) (kinds l)) p (in_parts i k (λ h u. row_kinds g k h u) (λ h u. row_kinds l k h u)) (λ h. row_kinds r k h q)

-- ---- what is open at a stop beyond the rows es, closed there, leaves the margin of pen p
pub record Inner (v : View) (es : List OpenRow) (p : Pen) (e : Stop) : Type 0 where
  pub more : List OpenRow
  pub listed : e.listed ≡ es ++ more
  pub kept : PenKept p (closed_all v more e.state.pen)

-- and of these the first is row i
pub record Within (v : View) (i : ℕ) (es : List OpenRow) (p : Pen) (e : Stop) : Type 0 where
  pub own : OpenRow
  pub more : List OpenRow
  pub own_row : own.row ≡ i
  pub listed : e.listed ≡ es ++ (own ∷ more)
  pub kept : PenKept p (closed_all v (own ∷ more) e.state.pen)

here : (v : View) (es : List OpenRow) (i : ℕ) (r : Renderer) → Inner v es r.pen (stop_at i es r)
unfolding closed_all
here v es i r = record { more = []; listed = sym (append-nil es); kept = kept_here r.pen }

-- in row i, whose end takes back what was put in: it keeps p where the pen within keeps q
pub deeper : (v : View) (i : ℕ) (es : List OpenRow) (f : OpenRow) (p q : Pen) → f.row ≡ i → ((x : Pen) → PenKept q x → PenKept p (closed_pen v f x))
    → (e : Stop)
    → Inner v (inside es f) q e
    → Within v i es p e
unfolding closed_all
deeper v i es f p q h back e x = record {
  own = f;
  more = x.more;
  own_row = h;
  listed = x.listed ∙ append_assoc es (f ∷ []) x.more;
  kept = back (closed_all v x.more e.state.pen) x.kept;
}

pub outer : (v : View) (i : ℕ) (es : List OpenRow) (p : Pen) (e : Stop) → Within v i es p e → Inner v es p e
outer v i es p e x = record { more = x.own ∷ x.more; listed = x.listed; kept = x.kept }

pub further : (v : View) (es : List OpenRow) (p q : Pen) → PenKept p q → (e : Stop) → Inner v es q e → Inner v es p e
further v es p q k e x = record { more = x.more; listed = x.listed; kept = kept_on k x.kept }

-- ---- what each kind takes back
plain_back : (v : View) (i : ℕ) (w : Bool) (p : Pen) → v.kind i ≡ GROUP → (x : Pen) → PenKept p x → PenKept p (closed_pen v (open_at i w trailing) x)
plain_back v i w p e x k = rw e k

in_back : (v : View) (i : ℕ) (w : Bool) (p : Pen) → v.kind i ≡ INDENT → (x : Pen) → PenKept (indent_more w p) x
    → PenKept p (closed_pen v (open_at i w trailing) x)
unfolding indent_more indent_less
in_back v i true p e x k = let a = k.sum in let c = k.low in rw e (record { sum = omega arith; low = omega arith })
in_back v i false p e x k = rw e k

next_back : (w : Bool) (p x : Pen) → PenKept (next_indent_more w p) x → PenKept p (next_indent_less w x)
unfolding next_indent_more next_indent_less indent_less
next_back false p x k = k
next_back true p x k = go (ltb 0 x.next_indent) refl
  where
    back : Bool → Pen
    back b = cond b (record { indent = x.indent; next_indent = x.next_indent - 1; column = x.column })
        (record { indent = x.indent - 1; next_indent = x.next_indent; column = x.column })

    go : (b : Bool) → ltb 0 x.next_indent ≡ b → PenKept p (back b)
    go true e = let h = ltb-true 0 x.next_indent e in let a = k.sum in let c = k.low in record { sum = omega arith; low = omega arith }
    go false e = let h = ltb-false 0 x.next_indent e in let a = k.sum in let c = k.low in record { sum = omega arith; low = omega arith }

both_back : (v : View) (i : ℕ) (w : Bool) (p : Pen) → v.kind i ≡ INDENT_NEXT → (x : Pen) → PenKept (next_indent_more w p) x
    → PenKept p (closed_pen v (open_at i w trailing) x)
both_back v i w p e x k = rw e (next_back w p x k)

if_back : (v : View) (i : ℕ) (w : Bool) (p : Pen) → v.kind i ≡ IF_WRAP → (x : Pen) → PenKept p x → PenKept p (closed_pen v (open_at i w trailing) x)
if_back v i w p e x k = rw e k

pub deeper_by : (m d : Bool) → is_deeper (way_of m d) ≡ d
deeper_by m true = refl
deeper_by true false = refl
deeper_by false false = refl

call_back : (v : View) (i : ℕ) (w m d : Bool) (p : Pen) → v.kind i ≡ CALL → (x : Pen) → PenKept (next_indent_more d p) x
    → PenKept p (closed_pen v (open_at i w (way_of m d)) x)
call_back v i w m d p e x k = rw (e, deeper_by m d) (next_back d p x k)

-- ---- the rows entered
module _ (v : View) (pg : Page) where
  abbrev In : List OpenRow → Pen → List Stop → Type 0
  In es p l = AllStops (Inner v es p) l

  -- those of one part of row i
  part : (i : ℕ) (es : List OpenRow) (f : OpenRow) (p q : Pen) (l : List Stop) → f.row ≡ i → ((x : Pen) → PenKept q x → PenKept p (closed_pen v f x))
      → AllStops (Inner v (inside es f) q) l
      → AllStops (Within v i es p) l
  part i es f p q l h back x = all_map (Inner v (inside es f) q) (Within v i es p) (deeper v i es f p q h back) l x

  outwards : (i : ℕ) (es : List OpenRow) (p : Pen) (l : List Stop) → AllStops (Within v i es p) l → AllStops (Inner v es p) l
  outwards i es p l x = all_map (Within v i es p) (Inner v es p) (outer v i es p) l x

  mutual
    unfolding within entered insert

    pub within_row : (n : Node) (i : ℕ) (es : List OpenRow) (w : Bool) (r : Renderer) → KindAt v n i → AllStops (Within v i es r.pen) (within v pg n i es w r)
    within_row (group n ns) i es w r k =
        let b = group_wraps pg ns r in
        part i es (open_at i b trailing) r.pen r.pen _ refl (plain_back v i b r.pen k.0)
        (entered_rows ns (suc i) (inside es (open_at i b trailing)) b (insert b n r) k.1)
    within_row (indent ns) i es w r k =
        part i es (open_at i w trailing) r.pen (indent_more w r.pen) _ refl (in_back v i w r.pen k.0)
        (entered_rows ns (suc i) (inside es (open_at i w trailing)) w (on_pen (indent_more w) r) k.1)
    within_row (indent_next ns) i es w r k =
        part i es (open_at i w trailing) r.pen (next_indent_more w r.pen) _ refl (both_back v i w r.pen k.0)
        (entered_rows ns (suc i) (inside es (open_at i w trailing)) w (on_pen (next_indent_more w) r) k.1)
    within_row wrap_parent i es w r k = all_none (Within v i es r.pen)
    within_row (comment_node t) i es w r k = all_none (Within v i es r.pen)
    within_row (str n t) i es w r k = all_none (Within v i es r.pen)
    within_row (ascii t) i es w r k = all_none (Within v i es r.pen)
    within_row line i es w r k = all_none (Within v i es r.pen)
    within_row empty_line i es w r k = all_none (Within v i es r.pen)
    within_row line_or_space i es w r k = all_none (Within v i es r.pen)
    within_row (if_wrap n a b) i es w r k =
        let f = open_at i w trailing in
        all_cond (Within v i es r.pen) (wrapped r.marks n) _ _
        (part i es f r.pen r.pen _ refl (if_back v i w r.pen k.0)
        (all_first (Inner v (inside es f) r.pen) _ _ (here v (inside es f) (suc i) r)
        (outwards (suc i) (inside es f) r.pen _ (within_row a (suc i) (inside es f) w r k.1))))
        (part i es f r.pen r.pen _ refl (if_back v i w r.pen k.0)
        (all_first (Inner v (inside es f) r.pen) _ _ (here v (inside es f) (v.second i) r)
        (outwards (v.second i) (inside es f) r.pen _ (within_row b (v.second i) (inside es f) w r k.2))))
    within_row (call n e m a) i es w r k =
        let t = trailing_call pg e a r in
        let b = callee_wraps pg t e a r in
        let d = not t && b in
        let way = way_of (not t) d in
        let s = on_pen (next_indent_more d) (insert b n r) in
        let u = render_nodes pg e b s in
        let c = group_wraps pg a u in
        let x = renders_kept e pg b s in
        all_append (Within v i es r.pen) _ _
        (part i es (open_at i b way) r.pen s.pen _ refl (call_back v i b (not t) d r.pen k.0)
        (entered_rows e (suc i) (inside es (open_at i b way)) b s k.1))
        (part i es (open_at i c way) r.pen s.pen _ refl (call_back v i c (not t) d r.pen k.0)
        (all_map (Inner v (inside es (open_at i c way)) u.pen) (Inner v (inside es (open_at i c way)) s.pen)
        (further v (inside es (open_at i c way)) s.pen u.pen (record { sum = x.sum; low = x.low })) _
        (entered_rows a (v.second i) (inside es (open_at i c way)) c (insert c m u) k.2)))

    pub entered_rows : (ns : Nodes) (i : ℕ) (es : List OpenRow) (w : Bool) (r : Renderer) → Kinds v ns i
        → AllStops (Inner v es r.pen) (entered v pg ns i es w r)
    entered_rows none i es w r k = all_none (Inner v es r.pen)
    entered_rows (n then ns) i es w r k =
        let t = render_node pg n w r in
        let x = render_kept n pg w r in
        all_first (Inner v es r.pen) _ _ (here v es i r)
        (all_append (Inner v es r.pen) _ _ (outwards i es r.pen _ (within_row n i es w r k.0))
        (all_map (Inner v es t.pen) (Inner v es r.pen) (further v es r.pen t.pen (record { sum = x.sum; low = x.low })) _
        (entered_rows ns (v.after i) es w t k.1)))

-- AS EACH ROW IS ENTERED
enters : (v : View) (i : ℕ) (es : List OpenRow) (p : Pen) (e : Stop) → Within v i es p e → EntersKept v i es p e
enters v i es p e x =
    let k = x.kept in
    let s = k.sum in
    let m = closed_most v (x.own ∷ x.more) e.state.pen in
    record { own = x.own; more = x.more; own_row = x.own_row; listed = x.listed; margin = as_margin k; low = omega arith }

pub entry_kept : EntryKept
entry_kept v pg from stop i g p q es w r =
    all_map (Within v i es r.pen) (EntersKept v i es r.pen) (enters v i es r.pen) _ (within_row v pg (node_at v i) i es w r (row_kinds v g i p q))
