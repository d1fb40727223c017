-- Layout from fresh is `fmt_parsed`: the rows of steps in sequence are the rows of each, one after the other, so that the declarations laid one
-- at a time are the loop over them.
-- Assumes nothing.
use mathlib.Core.Path.{◌≡◌, refl, sym, ap, ap₂, subst, ◌∙◌}
use mathlib.Core.Bool.{Bool, true, false, not}
use Rattle.std.specs.Prelude.{Option, None as nothing, Some}
use mathlib.Core.List.{List, [], ◌∷◌, ◌++◌, append_assoc, append-nil}
use Prim.Native.Nat.{ℕ, zero, suc, ◌+◌, ◌-◌, ◌≤◌, ◌<◌}
use native.Mathlib.Omega.{arith}
use native.Mathlib.Nat.{zero-add, add-zero, sub-zero, suc-add}
use borrow.Author.Tests.{ne_eqb}
use lib.Dec.{eqb}
use lib.ListN.{length, take, drop, length-drop}
use lib.Seq.{take-length}
use Rattle.image.specs.Read.{Read, Image}
use Rattle.ast.specs.Syntax.{Declaration, SyntaxTree}
use Rattle.rows.specs.Node.{Nodes, join}
use Rattle.rows.specs.Rows.{sizes, rows}
use Rattle.rows.specs.View.{view_of, nodes_at}
use Rattle.rows.proofs.Flatten.{flattened}
use Rattle.acts.specs.Act.{Given, St, Act, ◌⨟◌, when, skip, next}
use Rattle.acts.proofs.Joins.{sizes_join}
use Rattle.node_widths.specs.Summed.{summed_all, laid_nodes}
use Rattle.whole_run.proofs.AllRows.{all_rows}
use Rattle.whole_run.proofs.Laid.{laid_size, laid_join}
use Rattle.comments.specs.Comments.{nth}
use Rattle.tree.specs.CommentList.{comments_of}
use Rattle.comments.specs.Listed.{given}
use Rattle.layout.specs.Layout.{shebang_rule, declaration, declarations_rule, fmt_parsed}
use Rattle.layout.specs.Closing.{fresh, up_to, closing, whole_rule, call_rule}
use Rattle.renderer_rules.specs.Renderer.{render_nodes}
use Rattle.cut_rule.specs.Rules.{LayoutArgs}
use Rattle.cut_rule.specs.Parts as cut
use Rattle.cut_rule.specs.States.{LayoutChoice, RenderChoice, Cursor, LayoutState, RenderState, layout_fresh}
use Rattle.cut_rule.specs.Parts.{Piece, Drawn, still, and_then, begin, several, end}
use Rattle.whole_run.specs.Parts.{accepted_tree, act_piece, declaration_act, keeps_waiting, renderer_of, whole_drawn, page, drawn, parts_by}
use Rattle.whole_run.specs.Demands.{Gives, laid_to, stopping_at, closing_at, FmtParsed}

-- ---- pieces
piece_then : (rule : ℕ) (s b : List ℕ) (p q : Act) (c : Cursor) → act_piece rule s b (p ⨟ q) c ≡ and_then (act_piece rule s b p c) (act_piece rule s b q)
unfolding ◌⨟◌
piece_then rule s b p q c =
    let z : St = record { number = c.number; pos = c.position; placed = c.placed } in
    let o = p z in
    let u = q (next z o) in
    let e : c.row + sizes (join o.nodes u.nodes) ≡ c.row + sizes o.nodes + sizes u.nodes =
    omega (arith, sizes_join o.nodes u.nodes)
    in
    let f : c.number + (o.taken + u.taken) ≡ c.number + o.taken + u.taken = omega arith in
    let r = laid_join rule s b o.nodes u.nodes c.row in
    λ t. record { cursor = record { row = e t; number = f t; placed = u.placed; position = u.pos }; rows = r t }

piece_skip : (rule : ℕ) (s b : List ℕ) (c : Cursor) → act_piece rule s b skip c ≡ still c
unfolding rows sizes summed_all
piece_skip rule s b c =
    λ t. record { cursor = record { row = add-zero c.row t; number = add-zero c.number t; placed = c.placed; position = c.position }; rows = [] }

then_at : (p : Piece) (f g : Cursor → Piece) → f p.cursor ≡ g p.cursor → and_then p f ≡ and_then p g
then_at p f g e = λ t. record { cursor = (e t).cursor; rows = p.rows ++ (e t).rows }

then_then : (p : Piece) (f g : Cursor → Piece) → and_then (and_then p f) g ≡ and_then p (λ c. and_then (f c) g)
then_then p f g =
    λ t. record { cursor = (g (f p.cursor).cursor).cursor; rows = append_assoc p.rows (f p.cursor).rows (g (f p.cursor).cursor).rows t }

then_still : (p : Piece) → and_then p still ≡ p
then_still p = λ t. record { cursor = p.cursor; rows = append-nil p.rows t }

then_skip : (rule : ℕ) (s b : List ℕ) (p : Piece) → and_then p (act_piece rule s b skip) ≡ p
then_skip rule s b p = then_at p (act_piece rule s b skip) still (piece_skip rule s b p.cursor) ∙ then_still p

-- ---- one declaration more
abbrev flag : ℕ → Bool → Bool
flag zero first = first
flag (suc n) first = false

flag_at : (d n : ℕ) → eqb (d + n) 0 ≡ flag n (eqb d 0)
flag_at d zero = ap (λ (k : ℕ). eqb k 0) (add-zero d)
flag_at d (suc n) = ne_eqb (d + suc n) 0 (λ e. omega arith)

nth_drop : {A : Type 0} (d : ℕ) (xs : List A) (n : ℕ) → nth (drop d xs) n ≡ nth xs (d + n)
unfolding nth
nth_drop zero xs n = ap (nth xs) (sym (zero-add n))
nth_drop (suc d) [] n = refl
nth_drop (suc d) (x ∷ xs) n = nth_drop d xs n ∙ ap (nth (x ∷ xs)) (sym (suc-add d n))

flag_false : (n : ℕ) → flag n false ≡ false
flag_false zero = refl
flag_false (suc n) = refl

abbrev one : Given → Bool → Option Declaration → Act
one g first nothing = skip
one g first (Some d) = declaration g d first

module _ (rule : ℕ) (s b : List ℕ) (g : Given) where
  more : (n : ℕ) (ds : List Declaration) (first : Bool) (c : Cursor) → n < length ds
      → act_piece rule s b (declarations_rule g (take (suc n) ds) first) c
      ≡ and_then (act_piece rule s b (declarations_rule g (take n ds) first) c) (act_piece rule s b (one g (flag n first) (nth ds n)))
  unfolding declarations_rule nth
  more n [] first c h = absurd (omega arith)
  more zero (d ∷ ds) first c h =
      piece_then rule s b (declaration g d first) skip c
      ∙ then_skip rule s b (act_piece rule s b (declaration g d first) c)
      ∙ ap (λ (p : Piece). and_then p (act_piece rule s b (declaration g d first))) (sym (piece_skip rule s b c))
  more (suc n) (d ∷ ds) first c h =
      let a = declaration g d first in
      let last = act_piece rule s b (one g (flag n false) (nth ds n)) in
      piece_then rule s b a (declarations_rule g (take (suc n) ds) false) c
      ∙ then_at (act_piece rule s b a c) (act_piece rule s b (declarations_rule g (take (suc n) ds) false))
      (λ x. and_then (act_piece rule s b (declarations_rule g (take n ds) false) x) last)
      (more n ds false (act_piece rule s b a c).cursor (omega arith))
      ∙ sym (then_then (act_piece rule s b a c) (act_piece rule s b (declarations_rule g (take n ds) false)) last)
      ∙ ap (λ (p : Piece). and_then p last) (sym (piece_then rule s b a (declarations_rule g (take n ds) false) c))
      ∙ ap (λ (x : Bool). and_then (act_piece rule s b (a ⨟ declarations_rule g (take n ds) false) c) (act_piece rule s b (one g x (nth ds n)))) (flag_false n)

-- ---- the whole, whatever was read
module _ (r : Read Image) (s b : List ℕ) where
  abbrev g : Given
  g = given s b

  abbrev tree : SyntaxTree
  tree = accepted_tree b r

  abbrev ds : List Declaration
  ds = tree.declarations

  same_act : (k : ℕ) (first : Bool) (d : Option Declaration) → eqb k 0 ≡ first → declaration_act s b k d ≡ one g first d
  same_act k first nothing e = refl
  same_act k first (Some d) e = ap (declaration g d) e

  at_place : (d n : ℕ) → declaration_act s b (d + n) (nth ds (d + n)) ≡ one g (flag n (eqb d 0)) (nth (drop d ds) n)
  at_place d n = same_act (d + n) (flag n (eqb d 0)) (nth ds (d + n)) (flag_at d n) ∙ ap (one g (flag n (eqb d 0))) (sym (nth_drop d ds n))

  -- n declarations from declaration d on are the loop over these
  loop : (k : LayoutChoice) (n d : ℕ) (p : Piece) → d + n ≤ length ds
      → several (parts_by r s b) k n d p ≡ and_then p (act_piece k.rule s b (declarations_rule g (take n (drop d ds)) (eqb d 0)))
  unfolding declarations_rule
  loop k zero d p h = sym (then_skip k.rule s b p)
  loop k (suc n) d p h =
      let rest = drop d ds in
      let rule = act_piece k.rule s b (declarations_rule g (take n rest) (eqb d 0)) in
      let last = act_piece k.rule s b (one g (flag n (eqb d 0)) (nth rest n)) in
      let l = length-drop d ds in
      ap (λ (x : Piece). and_then x (act_piece k.rule s b (declaration_act s b (d + n) (nth ds (d + n))))) (loop k n d p (omega arith))
      ∙ ap (λ (a : Act). and_then (and_then p rule) (act_piece k.rule s b a)) (at_place d n)
      ∙ then_then p rule last
      ∙ then_at p (λ c. and_then (rule c) last) (act_piece k.rule s b (declarations_rule g (take (suc n) rest) (eqb d 0)))
      (sym (more k.rule s b g n rest (eqb d 0) p.cursor (omega arith)))

  -- what a call lays from any state, by the rules
  pub call_piece_lem : (z : LayoutState) (q : LayoutArgs LayoutChoice) → z.declaration ≤ q.stop → q.stop ≤ length ds
      → cut.call_piece (parts_by r s b) z q
      ≡ act_piece q.choice.rule s b (call_rule g tree (not z.begun) (take (q.stop - z.declaration) (drop z.declaration ds)) (eqb z.declaration 0) q.close
      (keeps_waiting q.choice.mode)) z.cursor
  call_piece_lem z q h l =
      let P = parts_by r s b in
      let k = q.choice in
      let d = z.declaration in
      let stop = q.stop in
      let close = q.close in
      let a = when (not z.begun) (shebang_rule g tree.shebang) in
      let rule = declarations_rule g (take (stop - d) (drop d ds)) (eqb d 0) in
      let last = when close (closing g tree (keeps_waiting k.mode)) in
      ends k close (several P k (stop - d) d (begin P k z.begun z.cursor))
      ∙ ap (λ (p : Piece). and_then p (act_piece k.rule s b last)) (loop k (stop - d) d (begin P k z.begun z.cursor) (omega arith))
      ∙ ap (λ (p : Piece). and_then (and_then p (act_piece k.rule s b rule)) (act_piece k.rule s b last)) (begins k z.begun z.cursor)
      ∙ then_then (act_piece k.rule s b a z.cursor) (act_piece k.rule s b rule) (act_piece k.rule s b last)
      ∙ then_at (act_piece k.rule s b a z.cursor) (λ c. and_then (act_piece k.rule s b rule c) (act_piece k.rule s b last)) (act_piece k.rule s b (rule ⨟ last))
      (sym (piece_then k.rule s b rule last (act_piece k.rule s b a z.cursor).cursor))
      ∙ sym (piece_then k.rule s b a (rule ⨟ last) z.cursor)
    where
      begins : (k : LayoutChoice) (begun : Bool) (c : Cursor)
          → begin (parts_by r s b) k begun c ≡ act_piece k.rule s b (when (not begun) (shebang_rule g tree.shebang)) c
      begins k true c = sym (piece_skip k.rule s b c)
      begins k false c = refl

      ends : (k : LayoutChoice) (close : Bool) (p : Piece)
          → end (parts_by r s b) k close p ≡ and_then p (act_piece k.rule s b (when close (closing g tree (keeps_waiting k.mode))))
      ends k true p = refl
      ends k false p = sym (then_skip k.rule s b p)

  abbrev start : Cursor
  start = layout_fresh.cursor

  laid : (k : LayoutChoice) (n : ℕ) → n ≤ length ds
      → several (parts_by r s b) k (n - 0) 0 ((parts_by r s b).shebang k start) ≡ act_piece k.rule s b (up_to g tree (take n ds)) start
  laid k n h =
      let one = act_piece k.rule s b (shebang_rule g tree.shebang) start in
      ap (λ (j : ℕ). several (parts_by r s b) k j 0 one) (sub-zero n)
      ∙ loop k n 0 one (omega arith)
      ∙ sym (piece_then k.rule s b (shebang_rule g tree.shebang) (declarations_rule g (take n ds) true) start)

  -- rows of nodes render as the nodes do, since they are read back as those
  read_back : (ns : Nodes) (c : RenderChoice) (z : RenderState) (n : ℕ) (marks : List ℕ) → z.row ≡ 0 → z.listed ≡ [] → sizes ns ≤ n
      → drawn s b z (record { stop = sizes ns; choice = c }) n marks (rows ns 0)
      ≡ whole_drawn (sizes ns) (drawn s b z (record { stop = sizes ns; choice = c }) n marks (rows ns 0)).entered
      (render_nodes (page c s b) ns true (renderer_of z.pen marks))
  read_back ns c z n marks h l m =
      let e : nodes_at (view_of (rows ns 0)) z.row (sizes ns) ≡ ns =
      ap₂ (nodes_at (view_of (rows ns 0))) h (sym (zero-add (sizes ns))) ∙ flattened ns (rows ns 0) 0 (take-length (rows ns 0)) in
      let all = all_rows s b z (record { stop = sizes ns; choice = c }) n marks (rows ns 0) l (omega (arith, m, ap sizes e)) in
      all
      ∙ ap₂ (λ (x : Nodes) (k : ℕ). whole_drawn (sizes ns) k (render_nodes (page c s b) x true (renderer_of z.pen marks))) e
      (sym (ap (λ (y : Drawn). y.entered) all))

  -- a piece from the fresh cursor is what its step gives
  pub gives : (q : LayoutArgs LayoutChoice) (a : Act) → (laid_to r s b q).rows ≡ (act_piece q.choice.rule s b a start).rows
      → (laid_to r s b q).state.cursor ≡ (act_piece q.choice.rule s b a start).cursor
      → Gives q.choice.rule s b (a fresh) (laid_to r s b q)
  gives q a e f = record {
    rows_due_of = e;
    row_due = ap (λ (c : Cursor). c.row) f ∙ zero-add (sizes (a fresh).nodes);
    number_due = ap (λ (c : Cursor). c.number) f ∙ zero-add (a fresh).taken;
    position_due = ap (λ (c : Cursor). c.position) f;
    placed_due = ap (λ (c : Cursor). c.placed) f;
    left_due_of = ap (λ (c : Cursor). length (comments_of b) - c.placed) f;
    drawn_due_of =
        λ k z m marks h l n.
        let ns = laid_nodes q.choice.rule s b (a fresh).nodes in
        let row = ap (λ (c : Cursor). c.row) f ∙ zero-add (sizes (a fresh).nodes) ∙ sym (laid_size q.choice.rule s b (a fresh).nodes) in
        subst
        (λ (x : List ℕ).
        drawn s b z (record { stop = (laid_to r s b q).state.cursor.row; choice = k }) m marks x
        ≡ whole_drawn (laid_to r s b q).state.cursor.row
        (drawn s b z (record { stop = (laid_to r s b q).state.cursor.row; choice = k }) m marks x).entered
        (render_nodes (page k s b) ns true (renderer_of z.pen marks)))
        (sym e)
        (subst
        (λ (j : ℕ).
        drawn s b z (record { stop = j; choice = k }) m marks (rows ns 0)
        ≡ whole_drawn j (drawn s b z (record { stop = j; choice = k }) m marks (rows ns 0)).entered
        (render_nodes (page k s b) ns true (renderer_of z.pen marks)))
        (sym row)
        (read_back ns k z m marks h l (omega (arith, n, row))));
  }

  closed_in : (k : LayoutChoice) → Gives k.rule s b (whole_rule g tree (keeps_waiting k.mode) fresh) (laid_to r s b (closing_at k (length ds)))
  closed_in k =
      gives (closing_at k (length ds)) (whole_rule g tree (keeps_waiting k.mode)) (ap (λ (p : Piece). p.rows) closes)
      (ap (λ (p : Piece). p.cursor) closes)
    where
      last : Act
      last = closing g tree (keeps_waiting k.mode)

      closes : and_then (several (parts_by r s b) k (length ds - 0) 0 ((parts_by r s b).shebang k start)) (act_piece k.rule s b last)
          ≡ act_piece k.rule s b (whole_rule g tree (keeps_waiting k.mode)) start
      closes =
          let one = shebang_rule g tree.shebang in
          let rule = declarations_rule g ds true in
          ap (λ (p : Piece). and_then p (act_piece k.rule s b last)) (laid k (length ds) (omega arith))
          ∙ ap (λ (xs : List Declaration). and_then (act_piece k.rule s b (up_to g tree xs) start) (act_piece k.rule s b last)) (take-length ds)
          ∙ ap (λ (p : Piece). and_then p (act_piece k.rule s b last)) (piece_then k.rule s b one rule start)
          ∙ then_then (act_piece k.rule s b one start) (act_piece k.rule s b rule) (act_piece k.rule s b last)
          ∙ then_at (act_piece k.rule s b one start) (λ c. and_then (act_piece k.rule s b rule c) (act_piece k.rule s b last))
          (act_piece k.rule s b (rule ⨟ last)) (sym (piece_then k.rule s b rule last (act_piece k.rule s b one start).cursor))
          ∙ sym (piece_then k.rule s b one (rule ⨟ last) start)

  pub fmt_parsed_lem : FmtParsed r s b tree
  unfolding fmt_parsed
  fmt_parsed_lem = record {
    at_stop =
        λ k n h.
        let e = laid k n h in
        gives (stopping_at k n) (up_to g tree (take n ds)) (ap (λ (p : Piece). p.rows) e) (ap (λ (p : Piece). p.cursor) e);
    closed = λ k e. subst (λ (m : ℕ). Gives k.rule s b (whole_rule g tree (keeps_waiting m) fresh) (laid_to r s b (closing_at k (length ds)))) e (closed_in k);
    closed_in = closed_in;
  }
