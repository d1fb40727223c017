-- Nodes that stand at the rows of a range that nests. By this alone, on the nodes: which rows are entered rests on no row outside of the range, and
-- the rows entered rise, so that they are no more than the rows of the range.
-- Assumes nothing.
use mathlib.Core.Path.{◌≡◌, refl, sym, ap, ap₂, subst, ◌∙◌}
use mathlib.Core.Bool.{Bool, true, false, cond, not, ◌&&◌}
use mathlib.Core.List.{List, [], ◌∷◌, ◌++◌}
use Prim.Native.Nat.{ℕ, zero, suc, ◌+◌, ◌≤◌, ◌<◌}
use native.Mathlib.Omega.{arith}
use lib.ListN.{length, get_or}
use Rattle.rows.specs.Kinds.{WRAP_PARENT, LINE_OR_SPACE, INDENT_NEXT, IF_WRAP, CALL}
use Rattle.rows.specs.Node.{Node, Nodes, group, indent, indent_next, wrap_parent, comment as comment_node, str, ascii}
use Rattle.rows.specs.Node.{line, empty_line, line_or_space, if_wrap, call, none, ◌then◌, wrapped}
use Rattle.rows.specs.View.{View, nodes_at, node_at, first_of}
use Rattle.rows.specs.Nesting.{RangeIn, TwoParts, Nests, over, leaf, block, two, pair}
use Rattle.rows.proofs.Decode.{nodes_some, nodes_none, node_group, node_indent, node_next, node_parent, node_comment, node_str, node_ascii}
use Rattle.rows.proofs.Decode.{node_line, node_empty, node_space, node_if, node_call}
use Rattle.rows.proofs.Nested.{leaf_within}
use Rattle.renderer_rules.specs.Renderer.{Page, Renderer, on_pen, insert, indent_more, next_indent_more, group_wraps, trailing_call, callee_wraps}
use Rattle.renderer_rules.specs.Renderer.{render_node, render_nodes}
use Rattle.renderer_rules.specs.Stops.{OpenRow, trailing, way_of, open_at, Stop, stop_at, inside, within, entered}
use Rattle.whole_run.proofs.Local.{Agree}

abbrev mutual
  -- a node whose row is i stands at the rows up to j
  pub PlacedAt : View → Node → ℕ → ℕ → Type 0
  PlacedAt v (group n ns) i j = (v.kind i ≤ INDENT_NEXT) × Placed v ns (suc i) j
  PlacedAt v (indent ns) i j = (v.kind i ≤ INDENT_NEXT) × Placed v ns (suc i) j
  PlacedAt v (indent_next ns) i j = (v.kind i ≤ INDENT_NEXT) × Placed v ns (suc i) j
  PlacedAt v wrap_parent i j = Unit {0}
  PlacedAt v (comment_node t) i j = Unit {0}
  PlacedAt v (str w t) i j = Unit {0}
  PlacedAt v (ascii t) i j = Unit {0}
  PlacedAt v line i j = Unit {0}
  PlacedAt v empty_line i j = Unit {0}
  PlacedAt v line_or_space i j = Unit {0}
  PlacedAt v (if_wrap n a b) i j =
      (suc i < v.second i) × (v.second i < j) × PlacedAt v a (suc i) (v.second i) × PlacedAt v b (v.second i) j × (v.kind i ≡ IF_WRAP)
  PlacedAt v (call n e k a) i j =
      (i < v.second i) × (v.second i ≤ j) × Placed v e (suc i) (v.second i) × Placed v a (v.second i) j × (v.kind i ≡ CALL)

  -- nodes stand at the rows from i up to j
  pub Placed : View → Nodes → ℕ → ℕ → Type 0
  Placed v none i j = i ≤ j
  Placed v (n then ns) i j = (i < v.after i) × PlacedAt v n i (v.after i) × Placed v ns (v.after i) j

pub placed_le : (v : View) (ns : Nodes) (i j : ℕ) → Placed v ns i j → i ≤ j
placed_le v none i j p = p
placed_le v (n then ns) i j p = let h = placed_le v ns (v.after i) j p.2 in let g = p.0 in omega arith

-- ---- the nodes of a range that nests
first_placed : (v : View) (ns : Nodes) (i j : ℕ) → Placed v ns i j → PlacedAt v (first_of ns) i (v.after i)
first_placed v none i j p = tt
first_placed v (n then ns) i j p = p.1

module _ (v : View) where
  leaf_placed : (i j k : ℕ) → v.kind i ≡ k → WRAP_PARENT ≤ k → k ≤ LINE_OR_SPACE → PlacedAt v (node_at v i) i j
  leaf_placed i j zero e a b = absurd (omega arith)
  leaf_placed i j (suc zero) e a b = absurd (omega arith)
  leaf_placed i j (suc (suc zero)) e a b = absurd (omega arith)
  leaf_placed i j (suc (suc (suc zero))) e a b = rw (node_parent v i e) tt
  leaf_placed i j (suc (suc (suc (suc zero)))) e a b = rw (node_comment v i e) tt
  leaf_placed i j (suc (suc (suc (suc (suc zero))))) e a b = rw (node_str v i e) tt
  leaf_placed i j (suc (suc (suc (suc (suc (suc zero)))))) e a b = rw (node_ascii v i e) tt
  leaf_placed i j (suc (suc (suc (suc (suc (suc (suc zero))))))) e a b = rw (node_line v i e) tt
  leaf_placed i j (suc (suc (suc (suc (suc (suc (suc (suc zero)))))))) e a b = rw (node_empty v i e) tt
  leaf_placed i j (suc (suc (suc (suc (suc (suc (suc (suc (suc zero))))))))) e a b = rw (node_space v i e) tt
  leaf_placed i j (suc (suc (suc (suc (suc (suc (suc (suc (suc (suc k)))))))))) e a b = absurd (omega arith)

  block_placed : (i k : ℕ) → v.kind i ≡ k → k ≤ INDENT_NEXT → Placed v (nodes_at v (suc i) (v.after i)) (suc i) (v.after i)
      → PlacedAt v (node_at v i) i (v.after i)
  block_placed i zero e h p = rw (node_group v i e) (omega (arith, e), p)
  block_placed i (suc zero) e h p = rw (node_indent v i e) (omega (arith, e), p)
  block_placed i (suc (suc zero)) e h p = rw (node_next v i e) (omega (arith, e), p)
  block_placed i (suc (suc (suc k))) e h p = absurd (omega arith)

  two_placed : (i : ℕ) → v.kind i ≡ IF_WRAP → TwoParts v i → Placed v (nodes_at v (suc i) (v.second i)) (suc i) (v.second i)
      → Placed v (nodes_at v (v.second i) (v.after i)) (v.second i) (v.after i)
      → PlacedAt v (node_at v i) i (v.after i)
  two_placed i e t p q =
      let u = t.up in
      let w = t.to in
      rw (node_if v i e (record { up = omega arith; to = omega arith })) (
        u,
        w,
        subst (λ (k : ℕ). PlacedAt v (first_of (nodes_at v (suc i) (v.second i))) (suc i) k) t.first
            (first_placed v (nodes_at v (suc i) (v.second i)) (suc i) (v.second i) p),
        subst (λ (k : ℕ). PlacedAt v (first_of (nodes_at v (v.second i) (v.after i))) (v.second i) k) t.second
            (first_placed v (nodes_at v (v.second i) (v.after i)) (v.second i) (v.after i) q),
        e,
      )

  row_placed : (i j : ℕ) → RangeIn v i j → PlacedAt v (node_at v i) i (v.after i) → Placed v (nodes_at v (v.after i) j) (v.after i) j
      → Placed v (nodes_at v i j) i j
  row_placed i j h p q = rw (nodes_some v i j h) (h.up, p, q)

  pub placed : {i j d : ℕ} → Nests v i j d → Placed v (nodes_at v i j) i j
  placed {i} {j} (over e) = rw (nodes_none v i j (omega arith)) (omega arith)
  placed {i} {j} (leaf a b e f s g) =
      row_placed i j (leaf_within e f) (leaf_placed i (v.after i) (v.kind i) refl a b)
      (subst (λ (n : ℕ). Placed v (nodes_at v n j) n j) (sym e) (placed g))
  placed {i} {j} (block a h s g l) = row_placed i j h (block_placed i (v.kind i) refl a (placed g)) (placed l)
  placed {i} {j} (two a h t s g l m) = row_placed i j h (two_placed i a t (placed g) (placed l)) (placed m)
  placed {i} {j} (pair a h t s g l m) =
      row_placed i j h (rw (node_call v i a t) (t.up, t.to, placed g, placed l, a)) (placed m)

-- ---- rows outside of the range are not read
module _ (v u : View) (p : Page) where
  mutual
    unfolding within entered

    within_same : (n : Node) (i j : ℕ) (es : List OpenRow) (w : Bool) (r : Renderer) → i < j → PlacedAt v n i j → Agree v u i j
        → within v p n i es w r ≡ within u p n i es w r
    within_same (group n ns) i j es w r h q s =
        let b = group_wraps p ns r in entered_same ns (suc i) j _ b (insert b n r) q.1 (λ k x y. s k (omega arith) y)
    within_same (indent ns) i j es w r h q s = entered_same ns (suc i) j _ w (on_pen (indent_more w) r) q.1 (λ k x y. s k (omega arith) y)
    within_same (indent_next ns) i j es w r h q s = entered_same ns (suc i) j _ w (on_pen (next_indent_more w) r) q.1 (λ k x y. s k (omega arith) y)
    within_same wrap_parent i j es w r h q s = refl
    within_same (comment_node t) i j es w r h q s = refl
    within_same (str k t) i j es w r h q s = refl
    within_same (ascii t) i j es w r h q s = refl
    within_same line i j es w r h q s = refl
    within_same empty_line i j es w r h q s = refl
    within_same line_or_space i j es w r h q s = refl
    within_same (if_wrap n a b) i j es w r h q s =
        let fs = inside es (open_at i w trailing) in
        let gs = inside es (open_at i w trailing) in
        let e = (s i (omega arith) h).second in
        let up = q.0 in
        let to = q.1 in
        ap₂ (λ (x y : List Stop). cond (wrapped r.marks n) (stop_at (suc i) fs r ∷ x) (stop_at (v.second i) gs r ∷ y))
        (within_same a (suc i) (v.second i) fs w r up q.2 (λ k x y. s k (omega arith) (omega arith)))
        (within_same b (v.second i) j gs w r to q.3 (λ k x y. s k (omega arith) y))
        ∙ ap (λ (k : ℕ). cond (wrapped r.marks n) (stop_at (suc i) fs r ∷ within u p a (suc i) fs w r) (stop_at k gs r ∷ within u p b k gs w r)) e
    within_same (call n e k a) i j es w r h q s =
        let trails = trailing_call p e a r in
        let outer = callee_wraps p trails e a r in
        let deeper = not trails && outer in
        let x : Renderer = on_pen (next_indent_more deeper) (insert outer n r) in
        let t = render_nodes p e outer x in
        let inner = group_wraps p a t in
        let fs = inside es (open_at i outer (way_of (not trails) deeper)) in
        let gs = inside es (open_at i inner (way_of (not trails) deeper)) in
        let up = q.0 in
        let to = q.1 in
        ap₂ {A = List Stop} {B = List Stop} ◌++◌
        (entered_same e (suc i) (v.second i) fs outer x q.2 (λ k x y. s k (omega arith) (omega arith)))
        (entered_same a (v.second i) j gs inner (insert inner k t) q.3 (λ k x y. s k (omega arith) y)
        ∙ ap (λ (m : ℕ). entered u p a m gs inner (insert inner k t)) (s i (omega arith) h).second)

    pub entered_same : (ns : Nodes) (i j : ℕ) (es : List OpenRow) (w : Bool) (r : Renderer) → Placed v ns i j → Agree v u i j
        → entered v p ns i es w r ≡ entered u p ns i es w r
    entered_same none i j es w r q s = refl
    entered_same (n then ns) i j es w r q s =
        let l = placed_le v ns (v.after i) j q.2 in
        let h = q.0 in
        let t = render_node p n w r in
        ap₂ (λ (x y : List Stop). stop_at i es r ∷ (x ++ y))
        (within_same n i (v.after i) es w r h q.1 (λ k x y. s k x (omega arith)))
        (entered_same ns (v.after i) j es w t q.2 (λ k x y. s k (omega arith) y)
        ∙ ap (λ (m : ℕ). entered u p ns m es w t) (s i (omega arith) (omega arith)).after)

-- ---- the rows entered rise
-- from row i on, each is behind the one before, and all are before row j
abbrev pub Rising : ℕ → ℕ → List Stop → Type 0
Rising i j [] = i ≤ j
Rising i j (e ∷ l) = (i ≤ e.next) × Rising (suc e.next) j l

rising_on : (i m j : ℕ) (l k : List Stop) → Rising i m l → Rising m j k → Rising i j (l ++ k)
rising_on i m j [] k a b = from i m j k a b
  where
    from : (i m j : ℕ) (k : List Stop) → i ≤ m → Rising m j k → Rising i j k
    from i m j [] a b = omega arith
    from i m j (e ∷ k) a b = let c = b.0 in (omega arith, b.1)
rising_on i m j (e ∷ l) k a b = (a.0, rising_on (suc e.next) m j l k a.1 b)

-- before a row are before a later one
short : (i m j : ℕ) (l : List Stop) → m ≤ j → Rising i m l → Rising i j l
short i m j [] h a = omega arith
short i m j (e ∷ l) h a = (a.0, short (suc e.next) m j l h a.1)

rising_by : (c : Bool) (i j : ℕ) (x y : List Stop) → Rising i j x → Rising i j y → Rising i j (cond c x y)
rising_by true i j x y a b = a
rising_by false i j x y a b = b

-- they are no more than the rows, and the one behind n of them is at least n rows on
pub rising_few : (i j : ℕ) (l : List Stop) → Rising i j l → i + length l ≤ j
rising_few i j [] a = omega arith
rising_few i j (e ∷ l) a = let b = a.0 in let c = rising_few (suc e.next) j l a.1 in omega arith

pub rising_at : (i j n : ℕ) (l : List Stop) (d : Stop) → Rising i j l → d.next ≡ j → n ≤ length l
    → (i + n ≤ (get_or l n d).next) × ((get_or l n d).next ≤ j)
rising_at i j zero [] d a e h = (omega arith, omega arith)
rising_at i j (suc n) [] d a e h = absurd (omega arith)
rising_at i j zero (x ∷ l) d a e h = let b = a.0 in let c = rising_few (suc x.next) j l a.1 in (omega arith, omega arith)
rising_at i j (suc n) (x ∷ l) d a e h =
    let b = a.0 in
    let c = rising_at (suc x.next) j n l d a.1 e (omega arith) in
    let y = c.0 in
    (omega arith, c.1)

module _ (v : View) (p : Page) where
  mutual
    unfolding within entered

    within_rises : (n : Node) (i j : ℕ) (es : List OpenRow) (w : Bool) (r : Renderer) → i < j → PlacedAt v n i j → Rising (suc i) j (within v p n i es w r)
    within_rises (group n ns) i j es w r h q = let b = group_wraps p ns r in entered_rises ns (suc i) j _ b (insert b n r) q.1
    within_rises (indent ns) i j es w r h q = entered_rises ns (suc i) j _ w (on_pen (indent_more w) r) q.1
    within_rises (indent_next ns) i j es w r h q = entered_rises ns (suc i) j _ w (on_pen (next_indent_more w) r) q.1
    within_rises wrap_parent i j es w r h q = omega arith
    within_rises (comment_node t) i j es w r h q = omega arith
    within_rises (str k t) i j es w r h q = omega arith
    within_rises (ascii t) i j es w r h q = omega arith
    within_rises line i j es w r h q = omega arith
    within_rises empty_line i j es w r h q = omega arith
    within_rises line_or_space i j es w r h q = omega arith
    within_rises (if_wrap n a b) i j es w r h q =
        let up = q.0 in
        let to = q.1 in
        let fs = inside es (open_at i w trailing) in
        let gs = inside es (open_at i w trailing) in
        rising_by (wrapped r.marks n) (suc i) j _ _
        (omega arith, short (suc (suc i)) (v.second i) j _ (omega arith) (within_rises a (suc i) (v.second i) fs w r up q.2))
        (omega arith, within_rises b (v.second i) j gs w r to q.3)
    within_rises (call n e k a) i j es w r h q =
        rising_on (suc i) (v.second i) j _ _ (entered_rises e (suc i) (v.second i) _ _ _ q.2) (entered_rises a (v.second i) j _ _ _ q.3)

    pub entered_rises : (ns : Nodes) (i j : ℕ) (es : List OpenRow) (w : Bool) (r : Renderer) → Placed v ns i j → Rising i j (entered v p ns i es w r)
    entered_rises none i j es w r q = q
    entered_rises (n then ns) i j es w r q =
        let h = q.0 in (
          omega arith,
          rising_on (suc i) (v.after i) j _ _ (within_rises n i (v.after i) es w r h q.1)
              (entered_rises ns (v.after i) j es w (render_node p n w r) q.2),
        )
