-- What a layout call that counts no rows leaves of a whole file: its store, by the lines of the file's table.
-- Assumes nothing.
use mathlib.Core.Path.{◌≡◌, sym, ap, ap₂, ◌∙◌}
use mathlib.Core.Bool.{true, not}
use Rattle.std.specs.Prelude.{Option, None}
use mathlib.Core.List.{List, [], ◌∷◌}
use Prim.Native.Nat.{ℕ, ◌*◌, ◌-◌}
use native.Mathlib.Omega.{arith}
use lib.Dec.{ltb, eqb}
use lib.ListN.{length, take, drop}
use lib.Seq.{sets, take_all}
use Rattle.rows.specs.Places.{PLACES}
use Rattle.rows.specs.Rows.{rows}
use Rattle.ast.specs.Syntax.{Declaration}
use Rattle.comments.specs.Listed.{given}
use Rattle.layout.specs.Closing.{fresh, call_rule}
use Rattle.refusals.specs.Refusals.{Refusal, unless, first, refuse_if}
use Rattle.cut_rule.specs.Entries.{layout_store}
use Rattle.cut_rule.specs.Parts.{before_rows, rows_line}
use Rattle.cut_rule.specs.Rules as cut
use Rattle.cut_rule.specs.States.{LayoutChoice, LayoutState, layout_fresh}
use Rattle.cut_rule.specs.Tests.{rows_in}
use Rattle.whole_run.specs.Parts.{keeps_waiting, parts_of}
use Rattle.whole_run.specs.Built.{FileChoice, layout_choice, tree, declared, built}
use Rattle.whole_run.specs.Demands.{rules_of, closing_at}
use Rattle.whole_run.specs.File.{file_before_rows, file_rows_line, store_left}
use Rattle.whole_run.proofs.File.{layout_early, rows_needed_lem, layout_store_due}
use Rattle.layout_call.specs.Calls.{to_state, to_args}
use Rattle.layout_call.specs.Whole.{store_at_once}
use Rattle.layout_call.specs.declared.LayoutState as declared_state
use Rattle.layout_call.specs.declared.LayoutArgs.{LayoutArgs}

module _ (s b : List ℕ) (c : FileChoice) (store : List ℕ) where
  -- what is left, by the lines before 8 and by 8
  abbrev pub store_by : Option Refusal → Option Refusal → List ℕ
  store_by x y = unless x store (unless y (sets store 0 (rows (built s b c).nodes 0)) (store_left s b c store))

  -- the same by a call's state and arguments
  abbrev left_of : LayoutState → cut.LayoutArgs LayoutChoice → List ℕ
  left_of z q =
      let ds = take (q.stop - z.declaration) (drop z.declaration (declared s b)) in
      let rule = call_rule (given s b) (tree s b) (not z.begun) ds (eqb z.declaration 0) q.close (keeps_waiting q.choice.mode) in
      let laid = (rule (record { number = z.cursor.number; pos = z.cursor.position; placed = z.cursor.placed })).nodes in
      unless (first (before_rows (parts_of s b) q z store))
      store
      (unless (first (rows_line (parts_of s b) q z store))
      (sets store (PLACES * z.cursor.row) (rows laid z.cursor.row))
      (layout_store (rules_of s b) q z store))

  module _ (passed : first (file_before_rows s b c) ≡ None) where
    left_fresh : left_of layout_fresh (closing_at (layout_choice c) (length (declared s b)))
        ≡ store_by (first (file_before_rows s b c)) (first (file_rows_line s b c (rows_in store)))
    left_fresh =
        let q = closing_at (layout_choice c) (length (declared s b)) in
        let all : take (length (declared s b) - 0) (declared s b) ≡ declared s b = take_all _ (declared s b) (omega arith) in
        let early : first (before_rows (parts_of s b) q layout_fresh store) ≡ first (file_before_rows s b c) =
        layout_early s b c passed store ∙ sym passed
        in
        let due : first (rows_line (parts_of s b) q layout_fresh store) ≡ first (file_rows_line s b c (rows_in store)) =
        ap (λ (k : ℕ). first (refuse_if (ltb (rows_in store) k) 8 k ∷ [])) (rows_needed_lem s b c)
        in
        let nodes : (call_rule (given s b) (tree s b) true (take (length (declared s b) - 0) (declared s b)) true true (keeps_waiting c.mode) fresh).nodes
        ≡ (built s b c).nodes =
        ap (λ (ds : List Declaration). (call_rule (given s b) (tree s b) true ds true true (keeps_waiting c.mode) fresh).nodes) all
        in
        let left : layout_store (rules_of s b) q layout_fresh store ≡ store_left s b c store = layout_store_due s b c passed store in
        λ i. unless (early i) store (unless (due i) (sets store 0 (rows (nodes i) 0)) (left i))

    pub whole_left : (state : declared_state.LayoutState) (q : LayoutArgs) → to_state state ≡ layout_fresh
        → to_args q ≡ closing_at (layout_choice c) (length (declared s b))
        → store_at_once s b state q store ≡ store_by (first (file_before_rows s b c)) (first (file_rows_line s b c (rows_in store)))
    whole_left state q e f = ap₂ left_of e f ∙ left_fresh
