use mathlib.Core.Path.{sym, ap, ◌∙◌}
use Prim.Native.Nat.{ℕ, ◌+◌}
use native.Mathlib.Omega.{arith}
use lib.Dec.{ltb}
use Rattle.renderer_rules.specs.Renderer.{virtual_column}
use Rattle.renderer.proofs.Decided.{sum_fits, virtual_small, lower, lower_sum, lower_column}
use Rattle.renderer.proofs.Decided.{widths_both, trail_fits, trail_callee, trail_arguments, trail_long, trail_past}
use Rattle.renderer.proofs.run.Renderer.trailing_call.Goals.{then-not-over-via-then-not-over, then-not-over-via-else-not-over+then-must_wrap}
use Rattle.renderer.proofs.run.Renderer.trailing_call.Goals.{then-not-over-via-else-not-over+else-must_wrap+then-must_wrap-2}
use Rattle.renderer.proofs.run.Renderer.trailing_call.Goals as goal

pub returns-then-not-over : goal.returns-then-not-over
returns-then-not-over c =
    let over =
    c.requires.over_value
    ∙ ap (λ (w : ℕ). ltb c.args.self.now.max.0 (virtual_column c.args.self.now.writing.pen + w))
    (widths_both c.args.store.now c.args.self.now.marks.now _ _ _ c.requires.callee c.requires.arguments)
    in
    elim c.then-not-over.branch [
      | then-not-over-via-then-not-over w ↦ trail_fits _ _ _ _ _ _ over w.if-not-over.true
      | then-not-over-via-else-not-over+then-must_wrap w ↦ trail_callee _ _ _ _ _ _ over (sym w.if-must_wrap.true ∙ w.must_wrap.ensures)
      | then-not-over-via-else-not-over+else-must_wrap+then-must_wrap-2 w ↦ trail_arguments _ _ _ _ _ _ over
          (sym w.if-must_wrap.false ∙ w.must_wrap.ensures) (sym w.if-must_wrap-2.true ∙ w.must_wrap-else-must_wrap.ensures)
    ]

pub overflow_add-result : goal.overflow_add-result
overflow_add-result c =
    let w = rw c.in-Some.is at c.width_within.ensures in
    record { fits = sum_fits _ _ (lower_column _ (virtual_small _ _ c.virtual_column.ensures c.requires.margin.0 c.requires.margin.1)) (lower _ w.2) }

pub overflow_add-result-in-Some : goal.overflow_add-result-in-Some
overflow_add-result-in-Some c =
    let w = rw c.in-Some.is at c.width_within.ensures in
    record {
      fits =
          sum_fits _ _ (lower_sum _ _ (virtual_small _ _ c.virtual_column.ensures c.requires.margin.0 c.requires.margin.1) w.2)
          (omega arith);
    }

pub returns-in-Some : goal.returns-in-Some
returns-in-Some c =
    let w = rw c.in-Some.is at c.width_within.ensures in
    rw c.virtual_column.ensures
    (trail_long _ _ _ _ _ _ (c.requires.over_value
    ∙ ap (λ (w : ℕ). ltb c.args.self.now.max.0 (virtual_column c.args.self.now.writing.pen + w))
    (widths_both c.args.store.now c.args.self.now.marks.now _ _ _ c.requires.callee c.requires.arguments))
    _ c.if-not-over.false (sym c.if-must_wrap.false ∙ c.must_wrap.ensures)
    (sym c.if-must_wrap-2.false ∙ c.must_wrap-else-must_wrap.ensures) w.0)

pub returns-in-None : goal.returns-in-None
returns-in-None c =
    let w = rw c.in-None.is at c.width_within.ensures in
    trail_past _ _ _ _ _ _ (c.requires.over_value
    ∙ ap (λ (w : ℕ). ltb c.args.self.now.max.0 (virtual_column c.args.self.now.writing.pen + w))
    (widths_both c.args.store.now c.args.self.now.marks.now _ _ _ c.requires.callee c.requires.arguments))
    c.if-not-over.false (sym c.if-must_wrap.false ∙ c.must_wrap.ensures)
    (sym c.if-must_wrap-2.false ∙ c.must_wrap-else-must_wrap.ensures) w
