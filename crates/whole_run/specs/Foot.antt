-- Closing in the new mode: "Our house rule now keeps them all" (document 02, 4). proofs/Foot.antt proves both claims, and nothing is assumed.
use Rattle.std.specs.Prelude.{◌≡◌, true, false, List, ℕ, length, None, Some}
use Rattle.image.specs.Read.{read_earlier, read_refusal}
use Rattle.refusals.specs.Refusals.{any}
use Rattle.cut_rule.specs.Rules.{LayoutArgs, LayoutResult}
use Rattle.cut_rule.specs.Run.{Call, Carried, start, run}
use Rattle.cut_rule.specs.CutRule.{comments_in}
use Rattle.cut_rule.specs.States.{LayoutChoice, LayoutState, NEW_MODE}
use Rattle.cut_rule.specs.Parts.{laid_of, layout_tests}
use Rattle.whole_run.specs.Parts.{listed, parts_of}
use Rattle.whole_run.specs.Demands.{rules_of}

-- all comments of the list are placed, the position is the source's end, and none is left
pub record AllPlaced (s b : List ℕ) (l : LayoutResult LayoutState) : Type 0 where
  pub placed : l.state.cursor.placed ≡ length (listed s b)
  pub position : l.state.cursor.position ≡ length s
  pub left : l.left ≡ 0

-- "closing places every waiting comment": of each source and image that are accepted by either rule, from each state that 12 lets pass
abbrev pub ClosingPlacesAll : Type 0
ClosingPlacesAll =
    (s b store : List ℕ) (q : LayoutArgs LayoutChoice) (z : LayoutState)
    → read_refusal (read_earlier s b) ≡ None
    → any (layout_tests (parts_of s b) q z store) ≡ false
    → q.close ≡ true
    → q.choice.mode ≡ NEW_MODE
    → AllPlaced s b (laid_of (parts_of s b) z q)

-- the comments among the rows laid out are those of the list, in order, each once, trailing white space cut; none is left
pub record HoldsAll (s b : List ℕ) (w : Carried (rules_of s b)) : Type 0 where
  pub all : comments_in w.store w.layout_state_of.cursor.row ≡ listed s b
  pub left : w.left ≡ Some 0

-- "In the new mode a document closed by calls from fresh holds the whole list, 0 left": whatever the calls were, and whatever store and marks
-- held at first.
abbrev pub ClosedHoldsAll : Type 0
ClosedHoldsAll =
    (s b store₀ marks₀ : List ℕ) (calls : List (Call (rules_of s b)))
    → (run (rules_of s b) (start (rules_of s b) store₀ marks₀) calls).layout_state_of.closed ≡ true
    → (run (rules_of s b) (start (rules_of s b) store₀ marks₀) calls).layout_state_of.mode ≡ NEW_MODE
    → HoldsAll s b (run (rules_of s b) (start (rules_of s b) store₀ marks₀) calls)
