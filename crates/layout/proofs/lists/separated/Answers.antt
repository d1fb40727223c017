use mathlib.Core.Path.{refl, sym, ◌∙◌}
use native.Mathlib.Omega.{arith}
use Rattle.acts.proofs.Laws.{lays, room_first, room_next}
use Rattle.acts.proofs.Nested.{opens_group, room_group, opens_indent}
use Rattle.acts.proofs.Closes.{at_row, laid_stays, room_stays, laid_from, indent_at}
use Rattle.layout.proofs.Lays.{laid_list, lays_empty}
use Rattle.layout.proofs.Runs.{elems_first, before_room, elem_has, elems_rest, elems_none, elems_more, elems_in, some_elems, begun}
use Rattle.layout.proofs.Runs.{empty_has, empty_laid, elems_all, elems_done, list_laid, ends_room, close_room, list_ended}
use Rattle.layout.proofs.Walking.{next_part, none_left}
use Rattle.layout.proofs.lists.separated.Goals as goal

pub empty_list-requires : goal.empty_list-requires
empty_list-requires g c = empty_has (c.if-at-last.true ∙ c.past-last.ensures) c.requires

pub returns-then-at-last : goal.returns-then-at-last
returns-then-at-last g c =
    laid_list c.empty_list.ensures.same
    (empty_laid (c.if-at-last.true ∙ c.past-last.ensures) (lays_empty c.requires.accepted c.empty_list.ensures))

pub open-group-requires : goal.open-group-requires
open-group-requires g c = opens_group _ (some_elems (λ e. c.if-at-last.false (e ∙ sym c.past-last.ensures)) c.requires).room

pub open_list-requires : goal.open_list-requires
open_list-requires g c =
    let a = some_elems (λ e. c.if-at-last.false (e ∙ sym c.past-last.ensures)) c.requires in
    room_first _ (room_group _ a.room c.open-group.ensures.opened)

pub open-indent-requires : goal.open-indent-requires
open-indent-requires g c =
    let a = some_elems (λ e. c.if-at-last.false (e ∙ sym c.past-last.ensures)) c.requires in
    opens_indent _ (room_first _ (room_next (room_group _ a.room c.open-group.ensures.opened) (lays c.open_list.ensures.laid)))

pub records-p-items-requires : goal.records-p-items-requires
records-p-items-requires g c =
    let b = begun c.open-group.ensures c.open_list.ensures c.open-indent.ensures in
    let h = elems_all (λ e. c.if-at-last.false (e ∙ sym c.past-last.ensures)) c.requires b in
    rw c.past-last.ensures (elems_in _ _ _ _ _ _ h.inside h.held)

pub loop-p-init : goal.loop-p-init
loop-p-init g c =
    let b = begun c.open-group.ensures c.open_list.ensures c.open-indent.ensures in
    record {
      at = _;
      far = omega arith;
      left_is = cc;
      has = rw c.past-last.ensures (elems_all (λ e. c.if-at-last.false (e ∙ sym c.past-last.ensures)) c.requires b);
      finishes = λ x e l. l;
      same = refl;
    }

pub start-requires : goal.start-requires
start-requires g c =
    let n = next_part c.loop-p.invariant c.in-Some.ensures.steps in
    (elems_first _ c.args.form.commas c.loop-p.first n.before n.has).whole

pub before_elem-requires : goal.before_elem-requires
before_elem-requires g c =
    let n = next_part c.loop-p.invariant c.in-Some.ensures.steps in
    before_room _ _ _ (elems_first _ c.args.form.commas c.loop-p.first n.before n.has) c.start.ensures

pub f-requires : goal.f-requires
f-requires g c =
    let n = next_part c.loop-p.invariant c.in-Some.ensures.steps in
    let m = elems_first _ c.args.form.commas c.loop-p.first n.before n.has in
    let h = elem_has _ _ _ m c.start.ensures (lays c.before_elem.ensures.laid) in
    h.held.takes _ h.room

pub loop-p-preserved : goal.loop-p-preserved
loop-p-preserved g c =
    let n = next_part c.loop-p.invariant c.in-Some.ensures.steps in
    let m = elems_first _ c.args.form.commas c.loop-p.first n.before n.has in
    let h = elem_has _ _ _ m c.start.ensures (lays c.before_elem.ensures.laid) in
    record {
      at = _;
      far = omega (arith, n.far);
      left_is = n.more_is;
      has = elems_rest _ _ _ m c.start.ensures (lays c.before_elem.ensures.laid)
          (record { of = λ e i. record { does = λ room. (i.lays _ _ room c.f.ensures).laid } });
      finishes =
          λ x e l.
          n.finishes x e
          (elems_more _ c.args.form.commas c.loop-p.first n.before c.start.ensures (lays c.before_elem.ensures.laid)
          (record { of = λ e i. record { does = λ room. (i.lays _ _ room c.f.ensures).laid } }) l);
      same = (h.held.lays _ _ h.room c.f.ensures).same ∙ c.before_elem.ensures.same ∙ c.loop-p.invariant.same;
    }

pub end_elems-requires : goal.end_elems-requires
end_elems-requires g c =
    let b = begun c.open-group.ensures c.open_list.ensures c.open-indent.ensures in
    ends_room (elems_done (λ e. c.if-at-last.false (e ∙ sym c.past-last.ensures)) c.requires b
    (rw c.past-last.ensures
    at (c.loop-p.invariant.finishes _ _ (elems_none _ c.args.form.commas c.loop-p.first (none_left c.loop-p.invariant c.in-None.ensures.steps.0)))))

pub close_list-requires : goal.close_list-requires
close_list-requires g c =
    let b = begun c.open-group.ensures c.open_list.ensures c.open-indent.ensures in
    room_stays c.close.ensures (close_room (elems_done (λ e. c.if-at-last.false (e ∙ sym c.past-last.ensures)) c.requires b
    (rw c.past-last.ensures
    at (c.loop-p.invariant.finishes _ _ (elems_none _ c.args.form.commas c.loop-p.first (none_left c.loop-p.invariant c.in-None.ensures.steps.0)))))
    c.end_elems.ensures.laid (at_row (indent_at c.open-indent.ensures) c.close.ensures))

pub returns : goal.returns
returns g c =
    let b = begun c.open-group.ensures c.open_list.ensures c.open-indent.ensures in
    laid_list (cc) (list_laid (λ e. c.if-at-last.false (e ∙ sym c.past-last.ensures)) b (rw c.past-last.ensures
    at (c.loop-p.invariant.finishes _ _ (elems_none _ c.args.form.commas c.loop-p.first (none_left c.loop-p.invariant c.in-None.ensures.steps.0))))
    (λ h. laid_stays c.close-2.ensures (list_ended h c.end_elems.ensures.laid (at_row (indent_at c.open-indent.ensures) c.close.ensures)
    (laid_from c.close.ensures c.close_list.ensures.laid) (at_row c.open-group.ensures.row c.close-2.ensures))))
