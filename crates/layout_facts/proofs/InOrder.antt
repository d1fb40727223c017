-- Every layout rule places comments: each that it takes from the list, once and in order.
-- Assumes nothing.
use Prim.Native.Nat.{ℕ, ◌-◌}
use mathlib.Core.Path.{◌≡◌, refl, ap, ◌∙◌}
use mathlib.Core.Bool.{Bool}
use mathlib.Core.List.{List, [], map}
use Rattle.std.specs.Prelude.{Option}
use native.Mathlib.Omega.{arith}
use lib.ListN.{take}
use Rattle.ast.specs.Syntax.{Ident, Declaration, SyntaxTree}
use Rattle.rows.specs.Node.{Node}
use Rattle.acts.specs.Act.{Given}
use Rattle.layout.specs.Layout.{declaration, declarations_rule, shebang_rule}
use Rattle.layout_facts.specs.Placing.{comments_of_node, comments_in_nodes, trimmed, Places}
use Rattle.layout.specs.Closing.{fresh, closing, whole_rule, call_rule}
use Rattle.layout_facts.proofs.Placing.{◌⨾◌, places_skip, places_push, places_grouped, places_indented, places_indented_next}
use Rattle.layout_facts.proofs.Placing.{places_called, places_asks, places_gap, places_trailing}
use Rattle.layout_facts.proofs.EveryRule.{Break, line_break, empty_line_break, line_or_space_break, wrap_parent_break, Joining}
use Rattle.layout_facts.proofs.EveryRule.{every_declaration, every_declarations, every_shebang, every_closing, every_whole, every_call}

break_none : {n : Node} → Break n → comments_of_node n ≡ []
unfolding comments_of_node
break_none line_break = refl
break_none empty_line_break = refl
break_none line_or_space_break = refl
break_none wrap_parent_break = refl

module _ (g : Given) where
  joining : Joining g (λ k ts a. Places g a)
  unfolding comments_of_node
  joining = record {
    skips = places_skip;
    words = λ t. places_push refl;
    names = λ w t. places_push refl;
    breaks = λ h. places_push (break_none h);
    chooses = places_push refl;
    joins = λ p q. p ⨾ q;
    groups = λ p. places_grouped p;
    indents = λ p. places_indented p;
    indents_next = λ p. places_indented_next p;
    calls = λ p q. places_called p q;
    asks = λ a p q. places_asks a p q;
    gaps = λ p x y z. places_gap p x y z;
    trails = places_trailing;
  }

  pub places_declaration : (d : Declaration) (first : Bool) → Places g (declaration g d first)
  places_declaration d first = every_declaration joining d first 0

  pub places_declarations : (ds : List Declaration) (first : Bool) → Places g (declarations_rule g ds first)
  places_declarations ds first = every_declarations joining ds first 0

  pub places_shebang : (i : Option Ident) → Places g (shebang_rule g i)
  places_shebang i = every_shebang joining i 0

  pub places_closing : (t : SyntaxTree) (keeps : Bool) → Places g (closing g t keeps)
  places_closing t keeps = every_closing joining t keeps 0

  pub places_whole : (t : SyntaxTree) (keeps : Bool) → Places g (whole_rule g t keeps)
  places_whole t keeps = every_whole joining t keeps 0

  pub places_call : (t : SyntaxTree) (begins : Bool) (ds : List Declaration) (first closes keeps : Bool)
      → Places g (call_rule g t begins ds first closes keeps)
  places_call t begins ds first closes keeps = every_call joining t begins ds first closes keeps 0

  -- From the fresh state: the comments among the nodes of a document are the first of the list, as many as it placed. Those left are the
  -- others.
  pub in_order : (t : SyntaxTree) (keeps : Bool)
      → comments_in_nodes (whole_rule g t keeps fresh).nodes ≡ take (whole_rule g t keeps fresh).placed (map (trimmed g) g.comments)
  in_order t keeps =
      let n : ℕ = (whole_rule g t keeps fresh).placed in
      let same : n - 0 ≡ n = omega arith in
      ((places_whole t keeps).from fresh (omega arith)).same ∙ ap (λ (k : ℕ). take k (map (trimmed g) g.comments)) same
