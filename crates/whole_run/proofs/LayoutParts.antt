-- The layout laws that the cut rule asks, for each step of the layout rules: the next row moves by the rows added, and the comments among
-- these rows are the next so many of the list (crates/layout_facts has it of the nodes; rows say the same in the same order).
-- Assumes nothing.
use mathlib.Core.Path.{◌≡◌, refl, sym, ap, ap₂, ◌∙◌}
use mathlib.Core.Bool.{false}
use Rattle.std.specs.Prelude.{Option, None as nothing, Some}
use mathlib.Core.List.{List, [], ◌++◌}
use Prim.Native.Nat.{ℕ, ◌+◌, ◌-◌, ◌*◌, ◌≤◌}
use native.Mathlib.Omega.{arith}
use lib.Dec.{eqb}
use lib.ListN.{length, length-map}
use Rattle.image.specs.Read.{Read, Image}
use Rattle.ast.specs.Syntax.{Declaration}
use Rattle.rows.specs.Kinds.{GROUP, INDENT, INDENT_NEXT, COMMENT, IF_WRAP, CALL}
use Rattle.rows.specs.Places.{PLACES}
use Rattle.rows.specs.Node.{Text, Node, Nodes, group, indent, indent_next, wrap_parent, comment, str, ascii, line, empty_line, line_or_space}
use Rattle.rows.specs.Node.{if_wrap, call, none, ◌then◌}
use Rattle.rows.specs.Rows.{row, no_text, size, sizes, rows_of, rows}
use Rattle.rows.proofs.Sizes.{length_rows_of, length_rows}
use Rattle.acts.specs.Act.{Given, St, Act}
use Rattle.comments.specs.Comments.{nth}
use Rattle.tree.specs.CommentList.{comments_of}
use Rattle.comments.specs.Listed.{given}
use Rattle.layout.specs.Layout.{shebang_rule}
use Rattle.layout.specs.Closing.{closing}
use Rattle.layout_facts.specs.Placing.{comments_of_node, comments_in_nodes, Places as StepPlaces}
use Rattle.layout_facts.proofs.Placing.{places_skip}
use Rattle.layout_facts.proofs.InOrder.{places_shebang, places_declaration, places_closing}
use Rattle.cut_rule.specs.CutRule.{comments_in}
use Rattle.cut_rule.specs.States.{Cursor}
use Rattle.cut_rule.specs.PartLaws.{Counts, LayoutPartLaws, PlacesNext, CommentPartLaws}
use Rattle.cut_rule.proofs.Comments.{comments_join}
use Rattle.node_widths.specs.Summed.{laid_nodes}
use Rattle.whole_run.proofs.Laid.{laid_size, laid_comments}
use Rattle.whole_run.specs.Parts.{accepted_tree, listed, act_piece, declaration_act, keeps_waiting, parts_by}

-- ---- rows
counts : (rule : ℕ) (s b : List ℕ) (a : Act) (c : Cursor) → Counts c (act_piece rule s b a c)
counts rule s b a c =
    let o = a (record { number = c.number; pos = c.position; placed = c.placed }) in
    record { row = omega (arith, length_rows (laid_nodes rule s b o.nodes) c.row, laid_size rule s b o.nodes) }

pub layout_parts : (r : Read Image) (s b : List ℕ) → LayoutPartLaws (parts_by r s b)
layout_parts r s b = record {
  shebang_counts = λ k c. counts k.rule s b (shebang_rule (given s b) (accepted_tree b r).shebang) c;
  declaration_counts = λ k n c l. counts k.rule s b (declaration_act s b n (nth (accepted_tree b r).declarations n)) c;
  final_counts = λ k c. counts k.rule s b (closing (given s b) (accepted_tree b r) (keeps_waiting k.mode)) c;
}

-- ---- the comments among the rows of nodes
joined : (xs ys : List ℕ) (n m : ℕ) (ts us : List Text) → length xs ≡ n * PLACES → comments_in xs n ≡ ts → comments_in ys m ≡ us
    → comments_in (xs ++ ys) (n + m) ≡ ts ++ us
joined xs ys n m ts us h p q =
    comments_join m n xs ys (omega arith) ∙ ap₂ (λ (x y : List Text). x ++ y) p q

-- a row that is no comment, and its parts
headed : (kind n k second after : ℕ) (ys : List ℕ) (m : ℕ) (bs : List Text) → eqb kind COMMENT ≡ false → comments_in ys m ≡ bs
    → comments_in (row kind n k second after no_text 0 ++ ys) (1 + m) ≡ bs
headed kind n k second after ys m bs e q = joined (row kind n k second after no_text 0) ys 1 m [] bs refl (rw e) q

mutual
  unfolding size rows_of comments_of_node

  row_comments : (n : Node) (r : ℕ) → comments_in (rows_of n r) (size n) ≡ comments_of_node n
  row_comments (group n ns) r = headed GROUP n 0 0 _ (rows ns (r + 1)) (sizes ns) (comments_in_nodes ns) refl (rows_comments ns (r + 1))
  row_comments (indent ns) r = headed INDENT 0 0 0 _ (rows ns (r + 1)) (sizes ns) (comments_in_nodes ns) refl (rows_comments ns (r + 1))
  row_comments (indent_next ns) r = headed INDENT_NEXT 0 0 0 _ (rows ns (r + 1)) (sizes ns) (comments_in_nodes ns) refl (rows_comments ns (r + 1))
  row_comments wrap_parent r = refl
  row_comments (comment t) r = refl
  row_comments (str w t) r = refl
  row_comments (ascii t) r = refl
  row_comments line r = refl
  row_comments empty_line r = refl
  row_comments line_or_space r = refl
  row_comments (if_wrap n a b) r =
      headed IF_WRAP n 0 _ _ (rows_of a (r + 1) ++ rows_of b (r + (1 + size a))) (size a + size b) (comments_of_node a ++ comments_of_node b) refl
      (joined (rows_of a (r + 1)) (rows_of b (r + (1 + size a))) (size a) (size b) (comments_of_node a) (comments_of_node b)
      (length_rows_of a (r + 1))
      (row_comments a (r + 1))
      (row_comments b (r + (1 + size a))))
  row_comments (call n e k a) r =
      headed CALL n k _ _ (rows e (r + 1) ++ rows a (r + (1 + sizes e))) (sizes e + sizes a) (comments_in_nodes e ++ comments_in_nodes a) refl
      (joined (rows e (r + 1)) (rows a (r + (1 + sizes e))) (sizes e) (sizes a) (comments_in_nodes e) (comments_in_nodes a)
      (length_rows e (r + 1))
      (rows_comments e (r + 1))
      (rows_comments a (r + (1 + sizes e))))

  rows_comments : (ns : Nodes) (r : ℕ) → comments_in (rows ns r) (sizes ns) ≡ comments_in_nodes ns
  rows_comments none r = refl
  rows_comments (n then ns) r =
      joined (rows_of n r) (rows ns (r + size n)) (size n) (sizes ns) (comments_of_node n) (comments_in_nodes ns)
      (length_rows_of n r)
      (row_comments n r)
      (rows_comments ns (r + size n))

-- ---- the comments of the list
module _ (s b : List ℕ) where
  abbrev g : Given
  g = given s b

  places : (rule : ℕ) (a : Act) (c : Cursor) → StepPlaces g a → c.placed ≤ length (listed s b) → PlacesNext (listed s b) c (act_piece rule s b a c)
  places rule a c p h =
      let z : St = record { number = c.number; pos = c.position; placed = c.placed } in
      let l : length (listed s b) ≡ length (comments_of b) = length-map (comments_of b) _ in
      let q = p.from z (omega arith) in
      let ns = laid_nodes rule s b (a z).nodes in
      let e : c.row + sizes (a z).nodes - c.row ≡ sizes (a z).nodes = omega arith in
      record {
        more = q.more;
        within = omega (arith, q.within);
        next =
            ap (comments_in (rows ns c.row)) (e ∙ sym (laid_size rule s b (a z).nodes))
            ∙ rows_comments ns c.row
            ∙ laid_comments rule s b (a z).nodes
            ∙ q.same;
      }

  places_one : (n : ℕ) (d : Option Declaration) → StepPlaces g (declaration_act s b n d)
  places_one n nothing = places_skip
  places_one n (Some d) = places_declaration g d _

  pub comment_parts : (r : Read Image) → CommentPartLaws (parts_by r s b) (listed s b)
  comment_parts r =
      let t = accepted_tree b r in
      record {
        all_listed = sym (length-map (comments_of b) _);
        shebang_places = λ k c h. places k.rule (shebang_rule g t.shebang) c (places_shebang g t.shebang) h;
        declaration_places =
            λ k n c l h. places k.rule (declaration_act s b n (nth t.declarations n)) c (places_one n (nth t.declarations n)) h;
        final_places = λ k c h. places k.rule (closing g t (keeps_waiting k.mode)) c (places_closing g t (keeps_waiting k.mode)) h;
      }
