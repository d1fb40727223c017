-- The marks that a file needs are no more than the numbers that its layout gives.
-- Assumes nothing.
use mathlib.Core.Path.{◌≡◌, refl, sym, ap, ◌∙◌}
use mathlib.Core.Bool.{false, ◌||◌}
use Rattle.std.specs.Prelude.{None}
use mathlib.Core.List.{List, [], ◌++◌}
use Prim.Native.Nat.{ℕ, ◌+◌, ◌≤◌, ◌<◌, max}
use native.Mathlib.Decide.{dec_lt}
use native.Mathlib.Omega.{arith}
use lib.Dec.{eqb}
use lib.ListN.{length}
use lib.Seq.{take_all}
use borrow.Author.Tests.{eqb-false}
use Rattle.image.specs.Read.{read_earlier, read_refusal}
use Rattle.rows.specs.Kinds.{GROUP, INDENT, INDENT_NEXT, WRAP_PARENT, COMMENT, STR, ASCII, LINE, EMPTY_LINE, LINE_OR_SPACE, IF_WRAP, CALL}
use Rattle.rows.specs.Limits.{MAX_NUMBER}
use Rattle.rows.specs.Node.{Text, Node, Nodes, group, indent, indent_next, wrap_parent}
use Rattle.rows.specs.Node.{comment, str, ascii, line, empty_line, line_or_space, if_wrap, call, ◌then◌}
use Rattle.rows.specs.Node as node
use Rattle.rows.specs.Rows.{size, sizes, row, rows_of, rows, no_text}
use Rattle.rows.specs.View.{cell, view_of}
use Rattle.rows.proofs.Flatten.{Holds, holds_part, holds_left, holds_right, row_held, parts_held}
use Rattle.rows.proofs.Sizes.{length_rows_of, length_rows}
use Rattle.marks.specs.Marks.{row_marks, marks_needed}
use Rattle.marks.proofs.Needed.{row_call, row_group, row_if, row_none}
use Rattle.renderer_rules.proofs.Names.{names, names_in, neither}
use Rattle.comments.specs.Listed.{given}
use Rattle.layout_facts.proofs.Limits.{closed_within}
use Rattle.layout_facts.proofs.Numbers.{whole_below}
use Rattle.whole_run.specs.Parts.{accepted_tree, keeps_waiting}
use Rattle.whole_run.specs.Built.{FileChoice, built, laid, marks_due}
use Rattle.whole_run.proofs.Laid.{laid_size, laid_names}
use Rattle.whole_run.proofs.Limits.{stood}
use Rattle.whole_run.proofs.Marks.{marks_add}

-- no number from k on is this one, so it is below k
below : (k n : ℕ) → ((x : ℕ) → k ≤ x → eqb x n ≡ false) → n < k
below k n u = go (dec_lt n k)
  where
    go : Dec (n < k) → n < k
    go (yes h) = h
    go (no h) = absurd (eqb-false n n (u n (omega arith)) refl)

module _ (s : List ℕ) where
  -- ---- one row, and those behind it
  alone : (i : ℕ) → marks_needed 1 s i ≡ max (row_marks s i) 0
  unfolding marks_needed
  alone i = refl

  with_row : (i m k : ℕ) → row_marks s i ≤ k → marks_needed m s (i + 1) ≤ k → marks_needed (1 + m) s i ≤ k
  with_row i m k h g = let e = alone i in omega (arith, marks_add 1 m s i)

  joined : (n m i k : ℕ) → marks_needed n s i ≤ k → marks_needed m s (i + n) ≤ k → marks_needed (n + m) s i ≤ k
  joined n m i k h g = omega (arith, marks_add n m s i)

  last_row : (i k : ℕ) → 0 ≡ row_marks s i → marks_needed 1 s i ≤ k
  unfolding marks_needed
  last_row i k e = omega arith

  plain : (kind i r : ℕ) (t : Text) (w : ℕ) → Holds s i (row kind 0 0 0 (r + 1) t w) → cell s i 0 ≡ kind
  unfolding view_of
  plain kind i r t w h = (row_held s i kind 0 0 0 (r + 1) t w [] h).is_kind

  -- the kinds without a number stand between `Group` and `IfWrap`
  unmarked : (i kind : ℕ) → cell s i 0 ≡ kind → GROUP < kind → kind < IF_WRAP → 0 ≡ row_marks s i
  unmarked i kind e a b = row_none s i kind (sym e) (λ z. omega arith) (λ z. omega arith) (λ z. omega arith)

  no_row : (i k : ℕ) → marks_needed 0 s i ≤ k
  unfolding marks_needed
  no_row i k = omega arith

  module _ (k : ℕ) where
    abbrev Few : Node → Type 0
    Few n = (i r : ℕ) → Holds s i (rows_of n r) → ((x : ℕ) → k ≤ x → names x n ≡ false) → marks_needed (size n) s i ≤ k

    abbrev Fews : Nodes → Type 0
    Fews ns = (i r : ℕ) → Holds s i (rows ns r) → ((x : ℕ) → k ≤ x → names_in x ns ≡ false) → marks_needed (sizes ns) s i ≤ k

    mutual
      unfolding size rows_of names view_of

      node_few : (n : Node) → Few n
      node_few (group n ns) i r h u =
          let w = row_held s i GROUP n 0 0 (r + (1 + sizes ns)) no_text 0 (rows ns (r + 1)) h in
          let l = below k n (λ x g. (neither (eqb x n) (names_in x ns) (u x g)).0) in
          with_row i (sizes ns) k (omega (arith, row_group s i GROUP n (sym w.is_kind) (sym w.is_number) refl))
          (nodes_few ns (i + 1) (r + 1) (parts_held s i GROUP n 0 0 (r + (1 + sizes ns)) no_text 0 (rows ns (r + 1)) h)
          (λ x g. (neither (eqb x n) (names_in x ns) (u x g)).1))
      node_few (indent ns) i r h u =
          let w = row_held s i INDENT 0 0 0 (r + (1 + sizes ns)) no_text 0 (rows ns (r + 1)) h in
          with_row i (sizes ns) k (omega (arith, unmarked i INDENT w.is_kind (omega arith) (omega arith)))
          (nodes_few ns (i + 1) (r + 1) (parts_held s i INDENT 0 0 0 (r + (1 + sizes ns)) no_text 0 (rows ns (r + 1)) h) u)
      node_few (indent_next ns) i r h u =
          let w = row_held s i INDENT_NEXT 0 0 0 (r + (1 + sizes ns)) no_text 0 (rows ns (r + 1)) h in
          with_row i (sizes ns) k (omega (arith, unmarked i INDENT_NEXT w.is_kind (omega arith) (omega arith)))
          (nodes_few ns (i + 1) (r + 1) (parts_held s i INDENT_NEXT 0 0 0 (r + (1 + sizes ns)) no_text 0 (rows ns (r + 1)) h) u)
      node_few wrap_parent i r h u = last_row i k (unmarked i WRAP_PARENT (plain WRAP_PARENT i r no_text 0 h) (omega arith) (omega arith))
      node_few (comment t) i r h u = last_row i k (unmarked i COMMENT (plain COMMENT i r t 0 h) (omega arith) (omega arith))
      node_few (str w t) i r h u = last_row i k (unmarked i STR (plain STR i r t w h) (omega arith) (omega arith))
      node_few (ascii t) i r h u = last_row i k (unmarked i ASCII (plain ASCII i r t 0 h) (omega arith) (omega arith))
      node_few line i r h u = last_row i k (unmarked i LINE (plain LINE i r no_text 0 h) (omega arith) (omega arith))
      node_few empty_line i r h u = last_row i k (unmarked i EMPTY_LINE (plain EMPTY_LINE i r no_text 0 h) (omega arith) (omega arith))
      node_few line_or_space i r h u = last_row i k (unmarked i LINE_OR_SPACE (plain LINE_OR_SPACE i r no_text 0 h) (omega arith) (omega arith))
      node_few (if_wrap n a b) i r h u =
          let parts = rows_of a (r + 1) ++ rows_of b (r + (1 + size a)) in
          let w = row_held s i IF_WRAP n 0 (r + (1 + size a)) (r + (1 + (size a + size b))) no_text 0 parts h in
          let p = parts_held s i IF_WRAP n 0 (r + (1 + size a)) (r + (1 + (size a + size b))) no_text 0 parts h in
          let l = below k n (λ x g. (neither (eqb x n) (names x a || names x b) (u x g)).0) in
          with_row i (size a + size b) k (omega (arith, row_if s i IF_WRAP n (sym w.is_kind) (sym w.is_number) refl))
          (joined (size a) (size b) (i + 1) k
          (node_few a (i + 1) (r + 1) (holds_left s (i + 1) (rows_of a (r + 1)) (rows_of b (r + (1 + size a))) p)
          (λ x g. (neither (names x a) (names x b) (neither (eqb x n) (names x a || names x b) (u x g)).1).0))
          (node_few b (i + 1 + size a) (r + (1 + size a))
          (holds_right s (i + 1) (size a) (rows_of a (r + 1)) (rows_of b (r + (1 + size a))) (length_rows_of a (r + 1)) p)
          (λ x g. (neither (names x a) (names x b) (neither (eqb x n) (names x a || names x b) (u x g)).1).1)))
      node_few (call n e m a) i r h u =
          let parts = rows e (r + 1) ++ rows a (r + (1 + sizes e)) in
          let w = row_held s i CALL n m (r + (1 + sizes e)) (r + (1 + (sizes e + sizes a))) no_text 0 parts h in
          let p = parts_held s i CALL n m (r + (1 + sizes e)) (r + (1 + (sizes e + sizes a))) no_text 0 parts h in
          let l = below k n (λ x g. (neither (eqb x n) (eqb x m) (neither (eqb x n || eqb x m) (names_in x e || names_in x a) (u x g)).0).0) in
          let o = below k m (λ x g. (neither (eqb x n) (eqb x m) (neither (eqb x n || eqb x m) (names_in x e || names_in x a) (u x g)).0).1) in
          with_row i (sizes e + sizes a) k (omega (arith, row_call s i CALL n m (max n m) (sym w.is_kind) (sym w.is_number) (sym w.is_number2) refl refl))
          (joined (sizes e) (sizes a) (i + 1) k
          (nodes_few e (i + 1) (r + 1) (holds_left s (i + 1) (rows e (r + 1)) (rows a (r + (1 + sizes e))) p)
          (λ x g. (neither (names_in x e) (names_in x a) (neither (eqb x n || eqb x m) (names_in x e || names_in x a) (u x g)).1).0))
          (nodes_few a (i + 1 + sizes e) (r + (1 + sizes e))
          (holds_right s (i + 1) (sizes e) (rows e (r + 1)) (rows a (r + (1 + sizes e))) (length_rows e (r + 1)) p)
          (λ x g. (neither (names_in x e) (names_in x a) (neither (eqb x n || eqb x m) (names_in x e || names_in x a) (u x g)).1).1)))

      nodes_few : (ns : Nodes) → Fews ns
      nodes_few node.none i r h u = no_row i k
      nodes_few (n then ns) i r h u =
          joined (size n) (sizes ns) i k
          (node_few n i r (holds_left s i (rows_of n r) (rows ns (r + size n)) h) (λ x g. (neither (names x n) (names_in x ns) (u x g)).0))
          (nodes_few ns (i + size n) (r + size n) (holds_right s i (size n) (rows_of n r) (rows ns (r + size n)) (length_rows_of n r) h)
          (λ x g. (neither (names x n) (names_in x ns) (u x g)).1))

pub marks_few : (s b : List ℕ) (c : FileChoice) → read_refusal (read_earlier s b) ≡ None → marks_due s b c ≤ MAX_NUMBER
marks_few s b c h =
    let l = rows (laid s b c) 0 in
    let keeps = keeps_waiting c.mode in
    let few =
    nodes_few l (built s b c).taken (laid s b c) 0 0 (holds_part l 0 l (take_all (length l) l (omega arith)))
    (λ x g. laid_names c.rule s b x (built s b c).nodes ∙ whole_below (given s b) (accepted_tree b (read_earlier s b)) keeps x g)
    in
    let size = laid_size c.rule s b (built s b c).nodes in
    omega (arith, ap (λ (n : ℕ). marks_needed n l 0) size, (closed_within (stood s b h).stood keeps).numbers)
