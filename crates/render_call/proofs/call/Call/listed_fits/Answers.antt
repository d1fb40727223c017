use mathlib.Core.Path.{sym, ap, ◌∙◌}
use native.Mathlib.Omega.{arith}
use Rattle.laws.proofs.Booleans.{true_false}
use borrow.Author.Tests.{lt-leb}
use Rattle.rows.specs.View.{view_of}
use Rattle.renderer_rules.specs.Listed.{listed_those, can_close_all}
use Rattle.render_call.specs.Calls.{listed_of}
use Rattle.render_call.proofs.Opening.{listed_few, listed_count, those_in, all_fit, too_many, not_those}
use Rattle.render_call.proofs.call.Call.listed_fits.Goals as goal
use Rattle.render_call.proofs.call.Call.listed_fits.Goals.{then-count-le-MAX_LISTED, else-count-le-MAX_LISTED}

pub closes_all-requires : goal.closes_all-requires
closes_all-requires c =
    elim c.if-count-le-MAX_LISTED.branch [
      | then-count-le-MAX_LISTED w ↦
          those_in _ _ _ c.requires (sym w.lists_those.ensures ∙ sym w.value-is ∙ c.if-lists_those.true)
      | else-count-le-MAX_LISTED w ↦ true_false (sym c.if-lists_those.true ∙ w.value-is ∙ lt-leb _ _ w.if-count-le-MAX_LISTED.false)
    ]

pub returns-then-lists_those : goal.returns-then-lists_those
returns-then-lists_those c =
    elim c.if-count-le-MAX_LISTED.branch [
      | then-count-le-MAX_LISTED w ↦
          (let n = c.args.self.now.state.listed_rows in
          let few = listed_few c.args.listed.now n (omega (arith, w.if-count-le-MAX_LISTED.true)) in
          let count = listed_count c.args.listed.now n in
          all_fit (view_of c.args.store.now) (listed_of n c.args.listed.now) c.args.self.now.state.row c.args.self.now.state.pen _
          (omega (arith, count, w.if-count-le-MAX_LISTED.true))
          (ap (λ l. listed_those (view_of c.args.store.now) l c.args.self.now.state.row) few ∙ sym w.lists_those.ensures ∙ sym w.value-is
          ∙ c.if-lists_those.true)
          (c.closes_all.ensures ∙ sym (ap (λ l. can_close_all (view_of c.args.store.now) l c.args.self.now.state.pen) few)))
      | else-count-le-MAX_LISTED w ↦ true_false (sym c.if-lists_those.true ∙ w.value-is ∙ lt-leb _ _ w.if-count-le-MAX_LISTED.false)
    ]

pub returns-else-lists_those : goal.returns-else-lists_those
returns-else-lists_those c =
    elim c.if-count-le-MAX_LISTED.branch [
      | then-count-le-MAX_LISTED w ↦
          (let n = c.args.self.now.state.listed_rows in
          let few = listed_few c.args.listed.now n (omega (arith, w.if-count-le-MAX_LISTED.true)) in
          c.if-lists_those.false
          ∙ not_those (view_of c.args.store.now) (listed_of n c.args.listed.now) c.args.self.now.state.row c.args.self.now.state.pen
          (ap (λ l. listed_those (view_of c.args.store.now) l c.args.self.now.state.row) few ∙ sym w.lists_those.ensures ∙ sym w.value-is
          ∙ c.if-lists_those.false))
      | else-count-le-MAX_LISTED w ↦
          c.if-lists_those.false
          ∙ too_many (view_of c.args.store.now) (listed_of c.args.self.now.state.listed_rows c.args.listed.now) c.args.self.now.state.row
          c.args.self.now.state.pen (omega (arith, listed_count c.args.listed.now c.args.self.now.state.listed_rows, w.if-count-le-MAX_LISTED.false))
    ]
