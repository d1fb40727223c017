use mathlib.Core.Path.{refl, ap, ◌∙◌}
use Prim.Native.Nat.{ℕ, ◌+◌}
use native.Mathlib.Omega.{arith}
use lib.Dec.{ltb}
use Rattle.renderer_rules.specs.Renderer.{virtual_column, next_indent_more}
use Rattle.renderer.specs.Writing.{set_pen}
use Rattle.renderer.specs.Run.{Running, run_of}
use Rattle.renderer.proofs.Opening.{nested_to, nested_at, call_opened, pen_set}
use Rattle.renderer.proofs.Decided.{nested_both, widths_both, callee_way, made_up_once}
use Rattle.renderer.proofs.run.Renderer.enter_call.Goals as goal

pub exceeds-over-requires : goal.exceeds-over-requires
exceeds-over-requires c = (
  nested_both (nested_to _ _ _ _ c.place-mid.ensures.0 c.requires.callee)
      (nested_at _ _ _ _ _ c.place-mid.ensures.0 c.place-end.ensures.0 c.requires.arguments),
  (omega (arith, c.requires.enters.indent), c.requires.enters.column),
)

pub returns-clause-opened : goal.returns-clause-opened
returns-clause-opened c =
    let r = run_of c.args.self.now in
    let pen = c.next_indent_more.new.self in
    call_opened _ _ _ r _ _ c.place-mid.result c.place-end.result c.place-number.result
    c.trailing_call-trailing.result c.made_up-wraps.result c.made_up-wraps.result
    pen (set_pen pen r.writing) c.place-mid.ensures.0 c.place-end.ensures.0
    c.place-number.ensures.0 c.trailing_call-trailing.ensures (c.made_up-wraps.ensures
    ∙ callee_way _ _ _ _ _ c.exceeds-over.result (c.exceeds-over.ensures
    ∙ ap (λ (w : ℕ). ltb c.args.self.now.max.0 (virtual_column c.args.self.now.writing.pen + w)) (widths_both c.args.store.now
    c.args.self.now.marks.now _ _ _ (nested_to _ _ _ _ c.place-mid.ensures.0 c.requires.callee)
    (nested_at _ _ _ _ _ c.place-mid.ensures.0 c.place-end.ensures.0 c.requires.arguments)))
    c.trailing_call-trailing.result c.trailing_call-trailing.ensures)
    (made_up_once c.trailing_call-trailing.result c.exceeds-over.result _ c.made_up-wraps.ensures)
    (c.next_indent_more.ensures ∙ ap (λ (x : Running). next_indent_more c.made_up-wraps.result x.writing.pen) c.open.ensures.run)
    refl (c.open.ensures.unmarked.marks ∙ c.insert.ensures) (ap (pen_set pen) c.open.ensures.run)
