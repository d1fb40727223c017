-- The rule by the byte that says which literal it is.
-- Assumes nothing.
use mathlib.Core.Path.{◌≡◌, sym, ◌∙◌}
use native.Mathlib.Omega.{arith}
use Rattle.layout.specs.Layout as rules
use Rattle.acts.proofs.Laws.{lays, room_first, room_next, lays_then}
use Rattle.layout.proofs.Lays.{lays_as, laid_as}
use Rattle.layout.proofs.literals.literal.Goals as goal

pub gap-requires : goal.gap-requires
unfolding rules.literal_rule
gap-requires c = (rw (c.end-position.ensures, c.requires.held.0.head.end) (room_first _ c.requires.room))

pub content-requires : goal.content-requires
unfolding rules.literal_rule
content-requires c =
    record {
      accepted = c.requires.accepted;
      tree = c.requires.tree.0;
      held = (87, c.requires.held.0.head);
      room =
          let e : c.requires.tree.1 ≡ 0 = sym c.requires.held.0.which.byte ∙ sym c.payload.ensures ∙ c.in-0.is in
          room_next (rw e at c.requires.room) (rw (c.end-position.ensures, c.requires.held.0.head.end) at (lays c.gap.ensures.laid));
    }

pub word-requires : goal.word-requires
unfolding rules.literal_rule
word-requires c =
    let e : c.requires.tree.1 ≡ 1 = sym c.requires.held.0.which.byte ∙ sym c.payload.ensures ∙ c.in-1.is in
    room_next (rw e at c.requires.room) (rw (c.end-position.ensures, c.requires.held.0.head.end) at (lays c.gap.ensures.laid))

pub word-requires-in-2 : goal.word-requires-in-2
unfolding rules.literal_rule
word-requires-in-2 c =
    let e : c.requires.tree.1 ≡ 2 = sym c.requires.held.0.which.byte ∙ sym c.payload.ensures ∙ c.in-2.is in
    room_next (rw e at c.requires.room) (rw (c.end-position.ensures, c.requires.held.0.head.end) at (lays c.gap.ensures.laid))

pub word-requires-in_default : goal.word-requires-in_default
unfolding rules.literal_rule
word-requires-in_default c =
    let e : c.requires.tree.1 ≡ 3 = omega
    (arith, c.in_default.in_default-own.rest, c.payload.ensures, c.requires.held.0.which.byte, c.requires.held.1)
    in
    room_next (rw e at c.requires.room) (rw (c.end-position.ensures, c.requires.held.0.head.end) at (lays c.gap.ensures.laid))

pub returns-in-0 : goal.returns-in-0
unfolding rules.literal_rule
returns-in-0 c =
    laid_as (cc) (record {
      of =
          λ x a.
          let e : x.1 ≡ 0 = sym a.0.which.byte ∙ sym c.payload.ensures ∙ c.in-0.is in
          rw e (lays_then (rw (c.end-position.ensures, a.0.head.end) at (lays c.gap.ensures.laid))
          ((lays_as c.requires.accepted c.content.ensures).of x.0 (87, a.0.head)));
    })

pub returns-in-1 : goal.returns-in-1
unfolding rules.literal_rule
returns-in-1 c =
    laid_as (cc) (record {
      of =
          λ x a.
          let e : x.1 ≡ 1 = sym a.0.which.byte ∙ sym c.payload.ensures ∙ c.in-1.is in
          rw e (lays_then (rw (c.end-position.ensures, a.0.head.end) at (lays c.gap.ensures.laid)) (lays c.word.ensures.laid));
    })

pub returns-in-2 : goal.returns-in-2
unfolding rules.literal_rule
returns-in-2 c =
    laid_as (cc) (record {
      of =
          λ x a.
          let e : x.1 ≡ 2 = sym a.0.which.byte ∙ sym c.payload.ensures ∙ c.in-2.is in
          rw e (lays_then (rw (c.end-position.ensures, a.0.head.end) at (lays c.gap.ensures.laid)) (lays c.word-in-2.ensures.laid));
    })

pub returns-in_default : goal.returns-in_default
unfolding rules.literal_rule
returns-in_default c =
    laid_as (cc) (record {
      of =
          λ x a.
          let e : x.1 ≡ 3 = omega (arith, c.in_default.in_default-own.rest, c.payload.ensures, a.0.which.byte, a.1) in
          rw e (lays_then (rw (c.end-position.ensures, a.0.head.end) at (lays c.gap.ensures.laid)) (lays c.word-in_default.ensures.laid));
    })
