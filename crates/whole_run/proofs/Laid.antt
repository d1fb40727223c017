-- Nodes with the sums of a rule: as many rows, the same comments, numbers and pieces of text; joined nodes are summed each by itself.
-- Assumes nothing.
use mathlib.Core.Path.{◌≡◌, refl, ap, ap₂, ◌∙◌}
use mathlib.Core.Bool.{Bool, ◌||◌}
use mathlib.Core.List.{List, ◌++◌}
use lib.Dec.{eqb}
use Prim.Native.Nat.{ℕ, ◌+◌}
use Rattle.rows.specs.Node.{Text, Node, Nodes, group, indent, indent_next, wrap_parent, comment, str, ascii, line, empty_line, line_or_space}
use Rattle.rows.specs.Node.{if_wrap, call, none, ◌then◌, join}
use Rattle.rows.specs.Rows.{sizes, rows}
use Rattle.acts.proofs.Joins.{rows_join}
use Rattle.node_widths.specs.Summed.{summed, summed_all, laid_nodes, str_columns}
use Rattle.node_widths.proofs.Summed.{sizes_same}
use Rattle.renderer_rules.proofs.Names.{names, names_in}
use Rattle.renderer_rules.specs.Holds.{Piece, pieces_of, pieces, CommasChosenIn, CommasChosen, comma_or_nothing}
use Rattle.layout_facts.specs.Placing.{comments_of_node, comments_in_nodes}

joined : (f : ℕ → Text → ℕ) (a b : Nodes) → summed_all f (join a b) ≡ join (summed_all f a) (summed_all f b)
unfolding summed_all join
joined f none b = refl
joined f (n then a) b = ap (λ (x : Nodes). summed f n then x) (joined f a b)

pub laid_size : (rule : ℕ) (s b : List ℕ) (ns : Nodes) → sizes (laid_nodes rule s b ns) ≡ sizes ns
laid_size rule s b ns = sizes_same (str_columns rule s b) ns

pub laid_join : (rule : ℕ) (s b : List ℕ) (x y : Nodes) (r : ℕ)
    → rows (laid_nodes rule s b (join x y)) r ≡ rows (laid_nodes rule s b x) r ++ rows (laid_nodes rule s b y) (r + sizes x)
laid_join rule s b x y r =
    let f = str_columns rule s b in
    ap (λ (ns : Nodes). rows ns r) (joined f x y)
    ∙ rows_join (summed_all f x) (summed_all f y) r
    ∙ ap (λ (k : ℕ). rows (summed_all f x) r ++ rows (summed_all f y) (r + k)) (laid_size rule s b x)

mutual
  unfolding summed comments_of_node

  comments_same : (f : ℕ → Text → ℕ) (n : Node) → comments_of_node (summed f n) ≡ comments_of_node n
  comments_same f (group n ns) = comments_all_same f ns
  comments_same f (indent ns) = comments_all_same f ns
  comments_same f (indent_next ns) = comments_all_same f ns
  comments_same f wrap_parent = refl
  comments_same f (comment t) = refl
  comments_same f (str w t) = refl
  comments_same f (ascii t) = refl
  comments_same f line = refl
  comments_same f empty_line = refl
  comments_same f line_or_space = refl
  comments_same f (if_wrap n a b) = ap₂ (λ (x y : List Text). x ++ y) (comments_same f a) (comments_same f b)
  comments_same f (call n e k a) = ap₂ (λ (x y : List Text). x ++ y) (comments_all_same f e) (comments_all_same f a)

  comments_all_same : (f : ℕ → Text → ℕ) (ns : Nodes) → comments_in_nodes (summed_all f ns) ≡ comments_in_nodes ns
  comments_all_same f none = refl
  comments_all_same f (n then ns) = ap₂ (λ (x y : List Text). x ++ y) (comments_same f n) (comments_all_same f ns)

pub laid_comments : (rule : ℕ) (s b : List ℕ) (ns : Nodes) → comments_in_nodes (laid_nodes rule s b ns) ≡ comments_in_nodes ns
laid_comments rule s b ns = comments_all_same (str_columns rule s b) ns

-- the numbers of the nodes stay
mutual
  unfolding summed names

  names_same : (f : ℕ → Text → ℕ) (x : ℕ) (n : Node) → names x (summed f n) ≡ names x n
  names_same f x (group n ns) = ap (λ (t : Bool). eqb x n || t) (names_all_same f x ns)
  names_same f x (indent ns) = names_all_same f x ns
  names_same f x (indent_next ns) = names_all_same f x ns
  names_same f x wrap_parent = refl
  names_same f x (comment t) = refl
  names_same f x (str w t) = refl
  names_same f x (ascii t) = refl
  names_same f x line = refl
  names_same f x empty_line = refl
  names_same f x line_or_space = refl
  names_same f x (if_wrap n a b) = ap₂ (λ (t u : Bool). eqb x n || (t || u)) (names_same f x a) (names_same f x b)
  names_same f x (call n e k a) = ap₂ (λ (t u : Bool). (eqb x n || eqb x k) || (t || u)) (names_all_same f x e) (names_all_same f x a)

  names_all_same : (f : ℕ → Text → ℕ) (x : ℕ) (ns : Nodes) → names_in x (summed_all f ns) ≡ names_in x ns
  names_all_same f x none = refl
  names_all_same f x (n then ns) = ap₂ (λ (t u : Bool). t || u) (names_same f x n) (names_all_same f x ns)

pub laid_names : (rule : ℕ) (s b : List ℕ) (x : ℕ) (ns : Nodes) → names_in x (laid_nodes rule s b ns) ≡ names_in x ns
laid_names rule s b x ns = names_all_same (str_columns rule s b) x ns

mutual
  unfolding summed pieces_of

  pieces_same : (f : ℕ → Text → ℕ) (n : Node) → pieces_of (summed f n) ≡ pieces_of n
  pieces_same f (group n ns) = pieces_all_same f ns
  pieces_same f (indent ns) = pieces_all_same f ns
  pieces_same f (indent_next ns) = pieces_all_same f ns
  pieces_same f wrap_parent = refl
  pieces_same f (comment t) = refl
  pieces_same f (str w t) = refl
  pieces_same f (ascii t) = refl
  pieces_same f line = refl
  pieces_same f empty_line = refl
  pieces_same f line_or_space = refl
  pieces_same f (if_wrap n a b) = refl
  pieces_same f (call n e k a) = ap₂ (λ (x y : List Piece). x ++ y) (pieces_all_same f e) (pieces_all_same f a)

  pieces_all_same : (f : ℕ → Text → ℕ) (ns : Nodes) → pieces (summed_all f ns) ≡ pieces ns
  pieces_all_same f none = refl
  pieces_all_same f (n then ns) = ap₂ (λ (x y : List Piece). x ++ y) (pieces_same f n) (pieces_all_same f ns)

pub laid_pieces : (rule : ℕ) (s b : List ℕ) (ns : Nodes) → pieces (laid_nodes rule s b ns) ≡ pieces ns
laid_pieces rule s b ns = pieces_all_same (str_columns rule s b) ns

mutual
  unfolding summed CommasChosenIn

  chosen_same : (f : ℕ → Text → ℕ) (n : Node) → CommasChosenIn n → CommasChosenIn (summed f n)
  chosen_same f (group n ns) c = chosen_all_same f ns c
  chosen_same f (indent ns) c = chosen_all_same f ns c
  chosen_same f (indent_next ns) c = chosen_all_same f ns c
  chosen_same f wrap_parent c = tt
  chosen_same f (comment t) c = tt
  chosen_same f (str w t) c = tt
  chosen_same f (ascii t) c = tt
  chosen_same f line c = tt
  chosen_same f empty_line c = tt
  chosen_same f line_or_space c = tt
  chosen_same f (if_wrap n a b) comma_or_nothing = comma_or_nothing
  chosen_same f (call n e k a) c = (chosen_all_same f e c.0, chosen_all_same f a c.1)

  chosen_all_same : (f : ℕ → Text → ℕ) (ns : Nodes) → CommasChosen ns → CommasChosen (summed_all f ns)
  chosen_all_same f none c = tt
  chosen_all_same f (n then ns) c = (chosen_same f n c.0, chosen_all_same f ns c.1)

pub laid_chosen : (rule : ℕ) (s b : List ℕ) (ns : Nodes) → CommasChosen ns → CommasChosen (laid_nodes rule s b ns)
laid_chosen rule s b ns c = chosen_all_same (str_columns rule s b) ns c
