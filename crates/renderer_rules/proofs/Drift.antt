-- The margin never drifts, as rows are entered too.
-- Assumes nothing.
use mathlib.Core.Path.{◌≡◌, refl, ap, sym, ◌∙◌, subst}
use Prim.Native.Nat.{ℕ, zero, suc, ◌+◌, ◌-◌, ◌≤◌, ◌<◌}
use native.Mathlib.Omega.{arith}
use native.Mathlib.Decide.{dec_lt}
use mathlib.Core.Bool.{Bool, true, false, cond, not, ◌&&◌}
use mathlib.Core.List.{List, [], ◌∷◌, ◌++◌, map, append_assoc, append-nil}
use lib.ListN.{length, length-append}
use borrow.Author.Tests.{lt-ltb, le-ltb}
use Rattle.rows.specs.Kinds.{INDENT_NEXT, WRAP_PARENT, LINE_OR_SPACE, IF_WRAP, CALL}
use Rattle.rows.specs.Node.{Node, Nodes, group, indent, indent_next, wrap_parent, comment as commentNode, str, ascii, line, empty_line, line_or_space}
use Rattle.rows.specs.Node.{if_wrap, call, none, ◌then◌, wrapped}
use Rattle.rows.specs.View.{View, nodes_at, node_at, first_of}
use Rattle.rows.specs.Nesting.{RangeIn, Split, TwoParts, Nests, over, leaf, block, two, pair}
use Rattle.rows.proofs.Decode.{nodes_some, nodes_none, node_group, node_indent, node_next, node_if, node_call}
use Rattle.rows.proofs.Nested.{leaf_within}
use Rattle.renderer_rules.specs.Renderer.{Page, Renderer, on_pen, render_node, render_nodes, trailing_call, callee_wraps, group_wraps, insert}
use Rattle.renderer_rules.specs.Renderer.{indent_more, next_indent_more}
use Rattle.renderer_rules.specs.Stops.{OpenRow, open_at, trailing, way_of, Stop, stop_at, inside, within, entered}
use Rattle.renderer_rules.specs.Drift.{margin_of, enclosing, around, AllStops, EntersLow, RowMargin, NeverDrifts, EndsAtMargin}
use Rattle.renderer_rules.proofs.Margin.{render_kept, renders_kept}
use Rattle.renderer_rules.proofs.Stops.{single, leaf_nothing}

-- ---- each of some stops
all_append : (P : Stop → Type 0) (a b : List Stop) → AllStops P a → AllStops P b → AllStops P (a ++ b)
unfolding AllStops
all_append P [] b x y = y
all_append P (e ∷ a) b x y = (x.0, all_append P a b x.1 y)

all_map : (P Q : Stop → Type 0) → ((e : Stop) → P e → Q e) → (l : List Stop) → AllStops P l → AllStops Q l
unfolding AllStops
all_map P Q f [] x = tt
all_map P Q f (e ∷ l) x = (f e x.0, all_map P Q f l x.1)

all_none : (P : Stop → Type 0) → AllStops P []
unfolding AllStops
all_none P = tt

all_first : (P : Stop → Type 0) (e : Stop) (l : List Stop) → P e → AllStops P l → AllStops P (e ∷ l)
unfolding AllStops
all_first P e l p x = (p, x)

all_cond : (P : Stop → Type 0) (b : Bool) (x y : List Stop) → AllStops P x → AllStops P y → AllStops P (cond b x y)
all_cond P true x y p q = p
all_cond P false x y p q = q

all_both : (P Q : Stop → Type 0) (l : List Stop) → AllStops P l → AllStops Q l → AllStops (λ e. P e × Q e) l
unfolding AllStops
all_both P Q [] x y = tt
all_both P Q (e ∷ l) x y = ((x.0, y.0), all_both P Q l x.1 y.1)

-- ---- the sum at a stop, by the rows that are open there and those around the start
record Low (es : List OpenRow) (b : ℕ) (e : Stop) : Type 0 where
  low : margin_of e.state + length es ≤ b + length e.listed

deeper : (es : List OpenRow) (f : OpenRow) (b c : ℕ) → c ≤ b + 1 → (e : Stop) → Low (inside es f) c e → Low es b e
deeper es f b c h e x = let l = length-append es (f ∷ []) in let y = x.low in record { low = omega arith }

bit_more : (w : Bool) (r : Renderer) → margin_of (on_pen (indent_more w) r) ≤ margin_of r + 1
unfolding indent_more
bit_more true r = omega arith
bit_more false r = omega arith

bit_next : (w : Bool) (r : Renderer) → margin_of (on_pen (next_indent_more w) r) ≤ margin_of r + 1
unfolding next_indent_more
bit_next true r = omega arith
bit_next false r = omega arith

same_insert : (w : Bool) (n : ℕ) (r : Renderer) → margin_of (insert w n r) ≡ margin_of r
unfolding insert
same_insert w n r = refl

module _ (v : View) (pg : Page) where
  mutual
    unfolding within entered

    within_low : (n : Node) (i : ℕ) (es : List OpenRow) (w : Bool) (r : Renderer) → AllStops (Low es (margin_of r)) (within v pg n i es w r)
    within_low (group n ns) i es w r =
        let b = group_wraps pg ns r in
        all_map (Low (inside es (open_at i b trailing)) (margin_of (insert b n r))) (Low es (margin_of r))
        (deeper es (open_at i b trailing) (margin_of r) (margin_of (insert b n r)) (let z = same_insert b n r in omega arith)) _
        (entered_low ns (suc i) (inside es (open_at i b trailing)) b (insert b n r))
    within_low (indent ns) i es w r =
        all_map (Low (inside es (open_at i w trailing)) (margin_of (on_pen (indent_more w) r))) (Low es (margin_of r))
        (deeper es (open_at i w trailing) (margin_of r) (margin_of (on_pen (indent_more w) r)) (bit_more w r)) _
        (entered_low ns (suc i) (inside es (open_at i w trailing)) w (on_pen (indent_more w) r))
    within_low (indent_next ns) i es w r =
        all_map (Low (inside es (open_at i w trailing)) (margin_of (on_pen (next_indent_more w) r))) (Low es (margin_of r))
        (deeper es (open_at i w trailing) (margin_of r) (margin_of (on_pen (next_indent_more w) r)) (bit_next w r)) _
        (entered_low ns (suc i) (inside es (open_at i w trailing)) w (on_pen (next_indent_more w) r))
    within_low wrap_parent i es w r = all_none (Low es (margin_of r))
    within_low (commentNode t) i es w r = all_none (Low es (margin_of r))
    within_low (str k t) i es w r = all_none (Low es (margin_of r))
    within_low (ascii t) i es w r = all_none (Low es (margin_of r))
    within_low line i es w r = all_none (Low es (margin_of r))
    within_low empty_line i es w r = all_none (Low es (margin_of r))
    within_low line_or_space i es w r = all_none (Low es (margin_of r))
    within_low (if_wrap n a b) i es w r =
        all_cond (Low es (margin_of r)) (wrapped r.marks n) _ _
        (all_map (Low (inside es (open_at i w trailing)) (margin_of r)) (Low es (margin_of r))
        (deeper es (open_at i w trailing) (margin_of r) (margin_of r) (omega arith)) _
        (all_first _ _ _ (record { low = omega arith }) (within_low a (suc i) (inside es (open_at i w trailing)) w r)))
        (all_map (Low (inside es (open_at i w trailing)) (margin_of r)) (Low es (margin_of r))
        (deeper es (open_at i w trailing) (margin_of r) (margin_of r) (omega arith)) _
        (all_first _ _ _ (record { low = omega arith }) (within_low b (v.second i) (inside es (open_at i w trailing)) w r)))
    within_low (call n e k a) i es w r =
        let t = trailing_call pg e a r in
        let b = callee_wraps pg t e a r in
        let d = not t && b in
        let way = way_of (not t) d in
        let s = on_pen (next_indent_more d) (insert b n r) in
        let u = render_nodes pg e b s in
        let c = group_wraps pg a u in
        let z : margin_of s ≤ margin_of r + 1 = (let x = bit_next d (insert b n r) in let y = same_insert b n r in omega arith) in
        all_append (Low es (margin_of r)) _ _
        (all_map (Low (inside es (open_at i b way)) (margin_of s)) (Low es (margin_of r)) (deeper es (open_at i b way) (margin_of r) (margin_of s) z) _
        (entered_low e (suc i) (inside es (open_at i b way)) b s))
        (all_map (Low (inside es (open_at i c way)) (margin_of (insert c k u))) (Low es (margin_of r))
        (deeper es (open_at i c way) (margin_of r) (margin_of (insert c k u))
        (let x = (renders_kept e pg b s).sum in let y = same_insert c k u in omega arith)) _
        (entered_low a (v.second i) (inside es (open_at i c way)) c (insert c k u)))

    entered_low : (ns : Nodes) (i : ℕ) (es : List OpenRow) (w : Bool) (r : Renderer) → AllStops (Low es (margin_of r)) (entered v pg ns i es w r)
    entered_low none i es w r = all_none (Low es (margin_of r))
    entered_low (n then ns) i es w r =
        all_first (Low es (margin_of r)) _ _ (record { low = omega arith })
        (all_append (Low es (margin_of r)) _ _ (within_low n i es w r)
        (subst (λ (b : ℕ). AllStops (Low es b) (entered v pg ns (v.after i) es w (render_node pg n w r))) (render_kept n pg w r).sum
        (entered_low ns (v.after i) es w (render_node pg n w r))))

-- ---- the rows that are open at a stop are those that enclose its row
pub around_on : (v : View) (i n : ℕ) → i < n → n < v.after i → around v i n ≡ (i ∷ around v (suc i) n)
unfolding enclosing
around_on v i n h l = let e : n - i ≡ suc (n - suc i) = omega arith in rw e (rw (lt-ltb n (v.after i) l))

around_off : (v : View) (i n : ℕ) → i < n → v.after i ≤ n → around v i n ≡ around v (suc i) n
unfolding enclosing
around_off v i n h l = let e : n - i ≡ suc (n - suc i) = omega arith in rw e (rw (le-ltb n (v.after i) l))

pub around_none : (v : View) (n : ℕ) → around v n n ≡ []
unfolding enclosing
around_none v n = let e : n - n ≡ 0 = omega arith in rw e

-- rows that end before row n are passed
around_past : (v : View) (k i n : ℕ) → i + k ≤ n → ((j : ℕ) → i ≤ j → j < i + k → v.after j ≤ n) → around v i n ≡ around v (i + k) n
around_past v zero i n h f = let e : i + 0 ≡ i = omega arith in rw e refl
around_past v (suc k) i n h f =
    around_off v i n (omega arith) (f i (omega arith) (omega arith))
    ∙ around_past v k (suc i) n (omega arith) (λ j p q. f j (omega arith) (omega arith))
    ∙ (let e : suc i + k ≡ i + suc k = omega arith in ap (λ (x : ℕ). around v x n) e)

pub around_from : (v : View) (i m n : ℕ) → i ≤ m → m ≤ n → ((j : ℕ) → i ≤ j → j < m → v.after j ≤ n) → around v i n ≡ around v m n
around_from v i m n h l f =
    let e : i + (m - i) ≡ m = omega arith in
    around_past v (m - i) i n (omega arith) (λ j p q. f j p (omega arith)) ∙ ap (λ (x : ℕ). around v x n) e

-- a row of a range that nests ends in it
row_ends : (v : View) (i j k : ℕ) → RangeIn v i j → i ≤ k → (suc i ≤ k → k < v.after i → v.after k ≤ v.after i) → (v.after i ≤ k → v.after k ≤ j)
    → v.after k ≤ j
row_ends v i j k w p x y = go (dec_lt k (v.after i)) (dec_lt i k)
  where
    go : Dec (k < v.after i) → Dec (i < k) → v.after k ≤ j
    go (yes h) (yes l) = let z = x l h in let t = w.to in omega arith
    go (yes h) (no l) = let z : i ≡ k = omega arith in subst (λ (x : ℕ). v.after x ≤ j) z w.to
    go (no h) l = y (omega arith)

parts_end : (v : View) (i k : ℕ) → Split v i → (suc i ≤ k → k < v.second i → v.after k ≤ v.second i) → (v.second i ≤ k → k < v.after i → v.after k ≤ v.after i)
    → suc i ≤ k → k < v.after i → v.after k ≤ v.after i
parts_end v i k s x z p q = go (dec_lt k (v.second i))
  where
    go : Dec (k < v.second i) → v.after k ≤ v.after i
    go (yes u) = let a = x p u in let b = s.to in omega arith
    go (no u) = z (omega arith) q

pub nests_ends : {v : View} {i j d : ℕ} → Nests v i j d → (k : ℕ) → i ≤ k → k < j → v.after k ≤ j
nests_ends (over e) k p q = absurd (omega arith)
nests_ends {v} {i} {j} (leaf a b e f s g) k p q = row_ends v i j k (leaf_within e f) p (λ h l. absurd (omega arith)) (λ h. nests_ends g k (omega arith) q)
nests_ends {v} {i} {j} (block a w s g r) k p q = row_ends v i j k w p (λ h l. nests_ends g k h l) (λ h. nests_ends r k h q)
nests_ends {v} {i} {j} (two a w t s g l r) k p q =
    row_ends v i j k w p (parts_end v i k (record { up = omega arith; to = omega arith }) (λ h u. nests_ends g k h u) (λ h u. nests_ends l k h u))
    (λ h. nests_ends r k h q)
nests_ends {v} {i} {j} (pair a w t s g l r) k p q =
    row_ends v i j k w p (parts_end v i k t (λ h u. nests_ends g k h u) (λ h u. nests_ends l k h u)) (λ h. nests_ends r k h q)

unfoldable pub rows_of : List OpenRow → List ℕ
rows_of es = map (λ f. f.row) es

rows_append : (a b : List OpenRow) → rows_of (a ++ b) ≡ rows_of a ++ rows_of b
unfolding rows_of
rows_append [] b = refl
rows_append (f ∷ a) b = ap (λ (l : List ℕ). f.row ∷ l) (rows_append a b)

-- a stop among the rows from i up to j, with the rows es around all of them: what is listed is es and those that enclose the stop's row
pub record Among (v : View) (es : List OpenRow) (i j : ℕ) (e : Stop) : Type 0 where
  pub from : i ≤ e.next
  pub to : e.next < j
  pub listed_are : rows_of e.listed ≡ rows_of es ++ around v i e.next

among_here : (v : View) (es : List OpenRow) (i j : ℕ) (r : Renderer) → i < j → Among v es i j (stop_at i es r)
among_here v es i j r h = record { from = omega arith; to = h; listed_are = sym (rw (around_none v i) (append-nil (rows_of es))) }

-- in a part of row i, which starts at m
among_part : (v : View) (es : List OpenRow) (f : OpenRow) (i m p j : ℕ) → f.row ≡ i → i < m → p ≤ v.after i → v.after i ≤ j
    → ((k : ℕ) → suc i ≤ k → k < m → v.after k ≤ m) → (e : Stop) → Among v (inside es f) m p e → Among v es i j e
unfolding rows_of
among_part v es f i m p j q h s t x e a =
    let l = a.from in
    let u = a.to in
    record {
      from = omega arith;
      to = omega arith;
      listed_are =
          a.listed_are
          ∙ ap (λ (z : List ℕ). z ++ around v m e.next) (rows_append es (f ∷ []))
          ∙ append_assoc (rows_of es) (f.row ∷ []) (around v m e.next)
          ∙ ap (λ (z : List ℕ). rows_of es ++ z)
          (ap (λ (n : ℕ). n ∷ around v m e.next) q
          ∙ sym (around_on v i e.next (omega arith) (omega arith)
          ∙ ap (λ (z : List ℕ). i ∷ z) (around_from v (suc i) m e.next (omega arith) l (λ k y z. let w = x k y z in omega arith))));
    }

-- behind row i
among_behind : (v : View) (es : List OpenRow) (i j : ℕ) → i < v.after i → ((k : ℕ) → i ≤ k → k < v.after i → v.after k ≤ v.after i) → (e : Stop)
    → Among v es (v.after i) j e → Among v es i j e
among_behind v es i j h x e a =
    let l = a.from in
    record {
      from = omega arith;
      to = a.to;
      listed_are = a.listed_are ∙ ap (λ (z : List ℕ). rows_of es ++ z)
          (sym (around_from v i (v.after i) e.next (omega arith) l (λ k y z. let w = x k y z in omega arith)));
    }

module _ (v : View) (pg : Page) where
  -- a row with parts: within it, and behind it
  row_among : (es : List OpenRow) (i j : ℕ) (w : Bool) (r : Renderer) → RangeIn v i j
      → AllStops (Among v es i j) (within v pg (node_at v i) i es w r)
      → AllStops (Among v es i j) (entered v pg (nodes_at v (v.after i) j) (v.after i) es w (render_node pg (node_at v i) w r))
      → AllStops (Among v es i j) (entered v pg (nodes_at v i j) i es w r)
  unfolding entered
  row_among es i j w r h x y =
      rw (nodes_some v i j h)
      (all_first (Among v es i j) _ _ (among_here v es i j r (omega arith)) (all_append (Among v es i j) (within v pg (node_at v i) i es w r) _ x y))

  block_among : (es : List OpenRow) (i j : ℕ) (w : Bool) (r : Renderer) (k : ℕ) → v.kind i ≡ k → k ≤ INDENT_NEXT → RangeIn v i j
      → ((es : List OpenRow) (w : Bool) (r : Renderer) → AllStops (Among v es (suc i) (v.after i))
      (entered v pg (nodes_at v (suc i) (v.after i)) (suc i) es w r))
      → AllStops (Among v es i j) (within v pg (node_at v i) i es w r)
  unfolding within
  block_among es i j w r zero e h s x =
      let b = group_wraps pg (nodes_at v (suc i) (v.after i)) r in
      rw (node_group v i e)
      (all_map _ (Among v es i j) (among_part v es (open_at i b trailing) i (suc i) (v.after i) j refl (omega arith) (omega arith) s.to
      (λ k p q. absurd (omega arith))) _
      (x (inside es (open_at i b trailing)) b (insert b (v.number i) r)))
  block_among es i j w r (suc zero) e h s x =
      rw (node_indent v i e)
      (all_map _ (Among v es i j) (among_part v es (open_at i w trailing) i (suc i) (v.after i) j refl (omega arith) (omega arith) s.to
      (λ k p q. absurd (omega arith))) _
      (x (inside es (open_at i w trailing)) w (on_pen (indent_more w) r)))
  block_among es i j w r (suc (suc zero)) e h s x =
      rw (node_next v i e)
      (all_map _ (Among v es i j) (among_part v es (open_at i w trailing) i (suc i) (v.after i) j refl (omega arith) (omega arith) s.to
      (λ k p q. absurd (omega arith))) _
      (x (inside es (open_at i w trailing)) w (on_pen (next_indent_more w) r)))
  block_among es i j w r (suc (suc (suc k))) e h s x = absurd (omega arith)

  part_among : (es : List OpenRow) (i m p j : ℕ) (f : OpenRow) (w : Bool) (r : Renderer) → f.row ≡ i → i < m → p ≤ v.after i → v.after i ≤ j
      → ((k : ℕ) → suc i ≤ k → k < m → v.after k ≤ m)
      → ((es : List OpenRow) (w : Bool) (r : Renderer) → AllStops (Among v es m p) (entered v pg (nodes_at v m p) m es w r))
      → AllStops (Among v es i j) (entered v pg (nodes_at v m p) m (inside es f) w r)
  part_among es i m p j f w r q h s t x y = all_map _ (Among v es i j) (among_part v es f i m p j q h s t x) _ (y (inside es f) w r)

  if_among : (es : List OpenRow) (i j : ℕ) (w : Bool) (r : Renderer) → v.kind i ≡ IF_WRAP → RangeIn v i j → TwoParts v i
      → ((k : ℕ) → suc i ≤ k → k < v.second i → v.after k ≤ v.second i)
      → ((es : List OpenRow) (w : Bool) (r : Renderer) → AllStops (Among v es (suc i) (v.second i))
      (entered v pg (nodes_at v (suc i) (v.second i)) (suc i) es w r))
      → ((es : List OpenRow) (w : Bool) (r : Renderer) → AllStops (Among v es (v.second i) (v.after i))
      (entered v pg (nodes_at v (v.second i) (v.after i)) (v.second i) es w r))
      → AllStops (Among v es i j) (within v pg (node_at v i) i es w r)
  unfolding within
  if_among es i j w r k s t z x y =
      let f1 = open_at i w trailing in
      let f2 = open_at i w trailing in
      let u = t.up in
      let a : AllStops (Among v es i j) (stop_at (suc i) (inside es f1) r ∷ within v pg (first_of (nodes_at v (suc i) (v.second i))) (suc i)
      (inside es f1) w r) =
      subst (λ (m : ℕ). AllStops (Among v es i j) (stop_at (suc i) (inside es f1) r ∷ within v pg (first_of (nodes_at v (suc i) m)) (suc i)
      (inside es f1) w r)) t.first
      (subst (AllStops (Among v es i j)) (single v pg 0 (suc i) (inside es f1) w r (record { up = omega (arith, t.first); to = omega arith }))
      (subst (λ (m : ℕ). AllStops (Among v es i j) (entered v pg (nodes_at v (suc i) m) (suc i) (inside es f1) w r)) (sym t.first)
      (part_among es i (suc i) (v.second i) j f1 w r refl (omega arith) (omega (arith, t.to)) s.to (λ k p q. absurd (omega arith)) x)))
      in
      let b : AllStops (Among v es i j) (stop_at (v.second i) (inside es f2) r ∷ within v pg (first_of (nodes_at v (v.second i) (v.after i))) (v.second i)
      (inside es f2) w r) =
      subst (λ (m : ℕ). AllStops (Among v es i j) (stop_at (v.second i) (inside es f2) r ∷ within v pg (first_of (nodes_at v (v.second i) m)) (v.second i)
      (inside es f2) w r)) t.second
      (subst (AllStops (Among v es i j)) (single v pg 0 (v.second i) (inside es f2) w r (record { up = omega (arith, t.second, t.to); to = omega arith }))
      (subst (λ (m : ℕ). AllStops (Among v es i j) (entered v pg (nodes_at v (v.second i) m) (v.second i) (inside es f2) w r)) (sym t.second)
      (part_among es i (v.second i) (v.after i) j f2 w r refl (omega arith) (omega arith) s.to z y)))
      in
      rw (node_if v i k (record { up = omega arith; to = omega (arith, t.to) })) (all_cond (Among v es i j) (wrapped r.marks (v.number i)) _ _ a b)

  call_among : (es : List OpenRow) (i j : ℕ) (w : Bool) (r : Renderer) → v.kind i ≡ CALL → RangeIn v i j → Split v i
      → ((k : ℕ) → suc i ≤ k → k < v.second i → v.after k ≤ v.second i)
      → ((es : List OpenRow) (w : Bool) (r : Renderer) → AllStops (Among v es (suc i) (v.second i))
      (entered v pg (nodes_at v (suc i) (v.second i)) (suc i) es w r))
      → ((es : List OpenRow) (w : Bool) (r : Renderer) → AllStops (Among v es (v.second i) (v.after i))
      (entered v pg (nodes_at v (v.second i) (v.after i)) (v.second i) es w r))
      → AllStops (Among v es i j) (within v pg (node_at v i) i es w r)
  unfolding within
  call_among es i j w r k s t z x y =
      rw (node_call v i k t)
      (all_append (Among v es i j) _ _
      (part_among es i (suc i) (v.second i) j (open_at i _ _) _ _ refl (omega arith) t.to s.to (λ k p q. absurd (omega arith)) x)
      (part_among es i (v.second i) (v.after i) j (open_at i _ _) _ _ refl t.up (omega arith) s.to z y))

  leaf_among : (es : List OpenRow) (i j : ℕ) (w : Bool) (r : Renderer) → WRAP_PARENT ≤ v.kind i → v.kind i ≤ LINE_OR_SPACE
      → AllStops (Among v es i j) (within v pg (node_at v i) i es w r)
  leaf_among es i j w r a b = subst (AllStops (Among v es i j)) (sym (leaf_nothing v pg 0 i es w r (v.kind i) refl a b)) (all_none (Among v es i j))

  -- each row entered in a range that nests lists the rows that enclose it
  pub all_among : {i j d : ℕ} → Nests v i j d → (es : List OpenRow) (w : Bool) (r : Renderer)
      → AllStops (Among v es i j) (entered v pg (nodes_at v i j) i es w r)
  unfolding entered
  all_among {i} {j} (over e) es w r = rw (nodes_none v i j (omega arith)) (all_none (Among v es i j))
  all_among {i} {j} (leaf a b e f s g) es w r =
      row_among es i j w r (leaf_within e f) (leaf_among es i j w r a b)
      (all_map _ (Among v es i j) (among_behind v es i j (omega arith) (λ k p q. let z : i
      ≡ k = omega arith in subst (λ (x : ℕ). v.after x ≤ v.after i) z (omega arith))) _
      (subst (λ (n : ℕ). AllStops (Among v es n j) (entered v pg (nodes_at v n j) n es w (render_node pg (node_at v i) w r))) (sym e)
      (all_among g es w (render_node pg (node_at v i) w r))))
  all_among {i} {j} (block a h s g l) es w r =
      row_among es i j w r h (block_among es i j w r (v.kind i) refl a h (λ es w r. all_among g es w r))
      (all_map _ (Among v es i j) (among_behind v es i j h.up
      (λ k p q. row_ends v i (v.after i) k (record { up = h.up; to = omega arith }) p (λ x y. nests_ends g k x y) (λ x. absurd (omega arith)))) _
      (all_among l es w (render_node pg (node_at v i) w r)))
  all_among {i} {j} (two a h t s g l m) es w r =
      row_among es i j w r h (if_among es i j w r a h t (λ k p q. nests_ends g k p q) (λ es w r. all_among g es w r) (λ es w r. all_among l es w r))
      (all_map _ (Among v es i j) (among_behind v es i j h.up
      (λ k p q. row_ends v i (v.after i) k (record { up = h.up; to = omega arith }) p
      (parts_end v i k (record { up = omega (arith, t.up); to = omega (arith, t.to) }) (λ x y. nests_ends g k x y) (λ x y. nests_ends l k x y))
      (λ x. absurd (omega arith)))) _
      (all_among m es w (render_node pg (node_at v i) w r)))
  all_among {i} {j} (pair a h t s g l m) es w r =
      row_among es i j w r h (call_among es i j w r a h t (λ k p q. nests_ends g k p q) (λ es w r. all_among g es w r) (λ es w r. all_among l es w r))
      (all_map _ (Among v es i j) (among_behind v es i j h.up
      (λ k p q. row_ends v i (v.after i) k (record { up = h.up; to = omega arith }) p
      (parts_end v i k t (λ x y. nests_ends g k x y) (λ x y. nests_ends l k x y)) (λ x. absurd (omega arith)))) _
      (all_among m es w (render_node pg (node_at v i) w r)))

-- ---- a row of a range that nests, by itself
record RowNests (v : View) (i : ℕ) : Type 0 where
  up : i < v.after i
  deep : ℕ
  nests : Nests v i (v.after i) deep

find_row : (v : View) (i j k : ℕ) → RangeIn v i j → RowNests v i → i ≤ k → (suc i ≤ k → k < v.after i → RowNests v k) → (v.after i ≤ k → RowNests v k)
    → RowNests v k
find_row v i j k w n p x y = go (dec_lt k (v.after i)) (dec_lt i k)
  where
    go : Dec (k < v.after i) → Dec (i < k) → RowNests v k
    go (yes h) (yes l) = x l h
    go (yes h) (no l) = let z : i ≡ k = omega arith in subst (RowNests v) z n
    go (no h) l = y (omega arith)

in_parts : (v : View) (i k : ℕ) → (suc i ≤ k → k < v.second i → RowNests v k) → (v.second i ≤ k → k < v.after i → RowNests v k) → suc i ≤ k → k < v.after i
    → RowNests v k
in_parts v i k x y p q = go (dec_lt k (v.second i))
  where
    go : Dec (k < v.second i) → RowNests v k
    go (yes u) = x p u
    go (no u) = y (omega arith) q

row_nests : {v : View} {i j d : ℕ} → Nests v i j d → (k : ℕ) → i ≤ k → k < j → RowNests v k
row_nests (over e) k p q = absurd (omega arith)
row_nests {v} {i} {j} {d} (leaf a b e f s g) k p q =
    find_row v i j k (leaf_within e f) (record { up = omega arith; deep = d; nests = leaf a b e (omega arith) s (over (sym e)) }) p
    (λ h l. absurd (omega arith)) (λ h. row_nests g k (omega arith) q)
row_nests {v} {i} {j} {d} (block a w s g r) k p q =
    find_row v i j k w (record { up = w.up; deep = d; nests = block a (record { up = w.up; to = omega arith }) s g (over refl) }) p
    (λ h l. row_nests g k h l) (λ h. row_nests r k h q)
row_nests {v} {i} {j} {d} (two a w t s g l r) k p q =
    find_row v i j k w (record { up = w.up; deep = d; nests = two a (record { up = w.up; to = omega arith }) t s g l (over refl) }) p
    (in_parts v i k (λ h u. row_nests g k h u) (λ h u. row_nests l k h u)) (λ h. row_nests r k h q)
row_nests {v} {i} {j} {d} (pair a w t s g l r) k p q =
    find_row v i j k w (record { up = w.up; deep = d; nests = pair a (record { up = w.up; to = omega arith }) t s g l (over refl) }) p
    (in_parts v i k (λ h u. row_nests g k h u) (λ h u. row_nests l k h u)) (λ h. row_nests r k h q)

all_rest : (P : Stop → Type 0) (e : Stop) (l : List Stop) → AllStops P (e ∷ l) → AllStops P l
unfolding AllStops
all_rest P e l x = x.1

map_size : (es : List OpenRow) → length (rows_of es) ≡ length es
unfolding rows_of
map_size [] = refl
map_size (f ∷ es) = ap suc (map_size es)

module _ (v : View) (pg : Page) (i : ℕ) (n : RowNests v i) (w : Bool) (r : Renderer) where
  within_among : AllStops (Among v [] i (v.after i)) (within v pg (node_at v i) i [] w r)
  within_among =
      all_rest (Among v [] i (v.after i)) (stop_at i [] r) (within v pg (node_at v i) i [] w r)
      (subst (λ (x : Node). AllStops (Among v [] i (v.after i)) (stop_at i [] r ∷ within v pg x i [] w r))
      (ap first_of (nodes_some v i (v.after i) (record { up = n.up; to = omega arith })))
      (subst (AllStops (Among v [] i (v.after i))) (single v pg 0 i [] w r (record { up = n.up; to = omega arith })) (all_among v pg n.nests [] w r)))

  low_around : (e : Stop) → Low [] (margin_of r) e × Among v [] i (v.after i) e → EntersLow v i (margin_of r) e
  unfolding rows_of
  low_around e x =
      let l = x.0.low in
      let s : length e.listed ≡ length (around v i e.next) = sym (map_size e.listed) ∙ ap length x.1.listed_are in
      record { low = omega arith }

  row_margin : RowMargin v pg i w r
  row_margin = record {
    done = (let k = render_kept (node_at v i) pg w r in record { sum = k.sum; low = k.low });
    entered_low =
        all_map (λ e. Low [] (margin_of r) e × Among v [] i (v.after i) e) (EntersLow v i (margin_of r)) low_around (within v pg (node_at v i) i [] w r)
        (all_both (Low [] (margin_of r)) (Among v [] i (v.after i)) _ (within_low v pg (node_at v i) i [] w r) within_among);
  }

-- THE MARGIN NEVER DRIFTS
pub never_drifts : NeverDrifts
never_drifts v pg from stop i g p q w r = row_margin v pg i (row_nests g i p q) w r

pub ends_at_margin : EndsAtMargin
ends_at_margin v pg from stop r e = (renders_kept (nodes_at v from stop) pg true r).sum ∙ e

-- the first row of a range that nests, by itself
pub row_only : {v : View} {i j d : ℕ} → Nests v i j d → i < j → Nests v i (v.after i) d
row_only (over e) h = absurd (omega arith)
row_only {v} {i} {j} {d} (leaf a b e f s g) h = let u : i < v.after i = omega arith in leaf {j = v.after i} a b e u s (over (sym e))
row_only {v} {i} {j} {d} (block a w s g r) h = let u : v.after i ≤ v.after i = omega arith in
    block {j = v.after i} a (record { up = w.up; to = u }) s g (over refl)
row_only {v} {i} {j} {d} (two a w t s g l r) h = let u : v.after i ≤ v.after i = omega arith in
    two {j = v.after i} a (record { up = w.up; to = u }) t s g l (over refl)
row_only {v} {i} {j} {d} (pair a w t s g l r) h = let u : v.after i ≤ v.after i = omega arith in
    pair {j = v.after i} a (record { up = w.up; to = u }) t s g l (over refl)
