use mathlib.Core.Path.{◌≡◌, ap, ◌∙◌}
use Prim.Native.Nat.{◌+◌, ℕ}
use native.Mathlib.Omega.{arith}
use Rattle.acts.proofs.Laws.{lays, lays_then, room_first, room_next}
use Rattle.layout.proofs.Lays.{lays_as, laid_as}
use Rattle.layout.specs.Elems.{FieldAt, field_rule}
use Rattle.layout.proofs.Listing.{has_each, lays_each}
use Rattle.layout.proofs.Runs.{list_of, field_elems_lem}
use Rattle.tree.specs.At.{TypeAt}
use Rattle.layout.specs.Layout as rules
use Rattle.layout.proofs.Places.{type_whole, absent, present, within, path_whole, args_within}
use Rattle.layout.proofs.TypeForms.{never_of, unit_of, type_is, type_has_kind, type_has, type_laid, args_list, no_args_lem, some_args, args_whole}
use Rattle.layout.specs.Numbers.{type_number}
use Rattle.image.specs.Bytes.{be32}
use Rattle.image.specs.Read.{stop_at}
use Rattle.layout.proofs.types.+type_expr.Goals as goal

pub field-ident-requires : goal.field-ident-requires
field-ident-requires t c =
    record { accepted = c.requires.accepted; tree = c.requires.tree.1; held = c.requires.held.1; room = room_first _ c.requires.room }

pub field-word-requires : goal.field-word-requires
field-word-requires t c =
    room_first _
    (room_next c.requires.room ((lays_as c.requires.accepted c.ident.ensures).of c.requires.tree.1 c.requires.held.1))

pub field-type_expr-requires : goal.field-type_expr-requires
field-type_expr-requires t c =
    rw c.second-p.ensures (
      omega (arith, c.decreases, c.requires.held.3.same),
      record {
        accepted = c.requires.accepted;
        tree = c.requires.tree.2;
        held = c.requires.held.2;
        room =
            room_next (room_next c.requires.room
            ((lays_as c.requires.accepted c.ident.ensures).of c.requires.tree.1 c.requires.held.1))
            (lays c.word.ensures.laid);
      },
    )

pub field-returns : goal.field-returns
field-returns t c =
    laid_as (cc)
    (record {
      of =
          λ x a. lays_then ((lays_as c.requires.accepted c.ident.ensures).of x.1 a.1) (lays_then (lays c.word.ensures.laid)
          ((lays_as c.requires.accepted c.type_expr.ensures).of x.2 (rw c.second-p.ensures a.2)));
    })

pub record_type-separated-requires : goal.record_type-separated-requires
record_type-separated-requires t c =
    has_each FieldAt field_rule _ (λ p low high x h. (omega (arith, c.decreases, low, high), h)) (λ p x y r. r)
    ((record {
      accepted = c.requires.accepted;
      tree = rules.field_elems _ c.requires.tree.1;
      held = list_of c.requires.held.0 (field_elems_lem _ _ _ _ c.requires.tree.1 c.requires.held.1);
      span = c.requires.tree.0;
      ended = c.end.ensures ∙ c.requires.held.0.end;
      room = c.requires.room;
    }))

pub record_type-returns : goal.record_type-returns
record_type-returns t c =
    laid_as (cc) (record {
      of =
          λ x a.
          (lays_each FieldAt field_rule _ (λ p low high x h. (omega (arith, c.decreases, low, high), h)) (λ p x y r. r) c.requires.accepted
          c.separated.ensures).of (rules.field_elems _ x.1)
          (list_of a.0 (field_elems_lem _ _ _ _ x.1 a.1)) x.0 (c.end.ensures ∙ a.0.end);
    })

pub type_expr-read-requires : goal.type_expr-read-requires
type_expr-read-requires t c = type_has_kind _ _ _ c.requires.tree c.requires.held

pub type_expr-type_expr-requires : goal.type_expr-type_expr-requires
unfolding TypeAt rules.type_form
type_expr-type_expr-requires t c =
    let h = type_has _ (type_is _ _ _ 40 (c.read.ensures ∙ ap type_number c.in-Option.is)) c.requires in (
      omega (arith, c.decreases, h.held.1.1.same),
      record { accepted = c.requires.accepted; tree = h.tree.1; held = h.held.1.0; room = room_first _ h.room },
    )

pub type_expr-word-requires : goal.type_expr-word-requires
unfolding TypeAt rules.type_form
type_expr-word-requires t c =
    let h = type_has _ (type_is _ _ _ 40 (c.read.ensures ∙ ap type_number c.in-Option.is)) c.requires in
    room_next h.room ((lays_as c.requires.accepted c.type_expr.ensures).of h.tree.1 h.held.1.0)

pub type_expr-type_path-requires : goal.type_expr-type_path-requires
type_expr-type_path-requires t c =
    (omega (arith, c.decreases), type_has _ (type_is _ _ _ 41 (c.read.ensures ∙ ap type_number c.in-Path.is)) c.requires)

pub type_expr-word-requires-in-Never : goal.type_expr-word-requires-in-Never
unfolding rules.type_form
type_expr-word-requires-in-Never t c =
    (type_has never_of (type_is _ _ _ 42 (c.read.ensures ∙ ap type_number c.in-Never.is)) c.requires).room

pub type_expr-word-requires-in-Unit : goal.type_expr-word-requires-in-Unit
unfolding rules.type_form
type_expr-word-requires-in-Unit t c =
    (type_has unit_of (type_is _ _ _ 43 (c.read.ensures ∙ ap type_number c.in-Unit.is)) c.requires).room

pub type_expr-overflow_add-at-in-Record : goal.type_expr-overflow_add-at-in-Record
type_expr-overflow_add-at-in-Record t c =
    let w = type_whole _ _ _ c.requires.tree c.requires.held in
    omega (arith, c.requires.accepted.small, w.long, w.fits)

pub type_expr-record_type-requires : goal.type_expr-record_type-requires
unfolding TypeAt rules.type_form
type_expr-record_type-requires t c =
    let h =
    type_has _
    (type_is _ _ _ 44 (c.read.ensures ∙ ap type_number c.in-Record.is))
    c.requires
    in (
      omega (arith, c.decreases, h.held.1.2.same),
      record { accepted = c.requires.accepted; tree = (h.tree.1.0, h.tree.1.1); held = (h.held.1.0, h.held.1.1); room = h.room },
    )

pub type_expr-returns-in-Option : goal.type_expr-returns-in-Option
unfolding TypeAt rules.type_form
type_expr-returns-in-Option t c =
    laid_as (cc) (type_laid _ (type_is _ _ _ 40 (c.read.ensures ∙ ap type_number c.in-Option.is)) (record {
      of =
          λ x a. lays_then ((lays_as c.requires.accepted c.type_expr.ensures).of x.1 a.1.0)
          (lays c.word.ensures.laid);
    }))

pub type_expr-returns-in-Path : goal.type_expr-returns-in-Path
type_expr-returns-in-Path t c =
    laid_as (cc) (type_laid _ (type_is _ _ _ 41 (c.read.ensures ∙ ap type_number c.in-Path.is))
    (lays_as c.requires.accepted c.type_path.ensures))

pub type_expr-returns-in-Never : goal.type_expr-returns-in-Never
unfolding rules.type_form
type_expr-returns-in-Never t c =
    laid_as (cc) (type_laid never_of (type_is _ _ _ 42 (c.read.ensures ∙ ap type_number c.in-Never.is))
    (record { of = λ x a. lays c.word-in-Never.ensures.laid }))

pub type_expr-returns-in-Unit : goal.type_expr-returns-in-Unit
unfolding rules.type_form
type_expr-returns-in-Unit t c =
    laid_as (cc) (type_laid unit_of (type_is _ _ _ 43 (c.read.ensures ∙ ap type_number c.in-Unit.is))
    (record { of = λ x a. lays c.word-in-Unit.ensures.laid }))

pub type_expr-returns-in-Record : goal.type_expr-returns-in-Record
unfolding TypeAt rules.type_form
type_expr-returns-in-Record t c =
    laid_as (cc) (type_laid _
    (type_is _ _ _ 44 (c.read.ensures ∙ ap type_number c.in-Record.is))
    (record { of = λ x a. (lays_as c.requires.accepted c.record_type.ensures).of (x.1.0, x.1.1) (a.1.0, a.1.1) }))

pub type_path-second-p-requires : goal.type_path-second-p-requires
unfolding TypeAt
type_path-second-p-requires t c = within (path_whole c.requires.held.1.0)

pub type_path-path-requires : goal.type_path-path-requires
unfolding TypeAt rules.type_form
type_path-path-requires t c =
    record { accepted = c.requires.accepted; tree = c.requires.tree.1.0; held = c.requires.held.1.0; room = room_first _ c.requires.room }

pub type_path-is_absent-requires : goal.type_path-is_absent-requires
unfolding TypeAt
type_path-is_absent-requires t c =
    rw c.second-p.ensures (args_within _ _ _ c.requires.tree.1.1 c.requires.held.1.1)

pub type_path-returns-then-is_absent : goal.type_path-returns-then-is_absent
unfolding TypeAt rules.type_form
type_path-returns-then-is_absent t c =
    laid_as (cc)
    (let e : be32 c.args.parsed.now.image.now (stop_at c.args.parsed.now.image.now (c.args.at + 13)) ≡ 0 =
    absent (rw c.second-p.ensures at c.is_absent.ensures) c.if-is_absent.true
    in
    record { of = λ x a. lays_then ((lays_as c.requires.accepted c.path.ensures).of x.1.0 a.1.0) ((no_args_lem e).of x.1.1 a.1.1) })

pub type_path-end-requires : goal.type_path-end-requires
unfolding TypeAt
type_path-end-requires t c =
    let f : be32 c.args.parsed.now.image.now (stop_at c.args.parsed.now.image.now (c.args.at + 13)) ≡ 0 → ⊥ =
    present (rw c.second-p.ensures at c.is_absent.ensures) c.if-is_absent.false
    in
    rw c.second-p.ensures (args_whole _ _ _ f c.requires.tree.1.1 c.requires.held.1.1)

pub type_path-separated-requires : goal.type_path-separated-requires
unfolding TypeAt rules.type_form
type_path-separated-requires t c =
    let stop = ap (λ (n : ℕ). stop_at c.args.parsed.now.image.now n) c.second-p.ensures in
    has_each TypeAt rules.type_expr _
    (λ p low high x h. (omega (arith, c.decreases, low, high, c.second-p.ensures, stop, c.requires.held.1.2.same), h)) (λ p x y r. r)
    (let f : be32 c.args.parsed.now.image.now (stop_at c.args.parsed.now.image.now (c.args.at + 13)) ≡ 0 → ⊥ =
    present (rw c.second-p.ensures at c.is_absent.ensures) c.if-is_absent.false
    in
    rw (c.end.ensures, c.second-p.ensures) (args_list f (record {
      accepted = c.requires.accepted;
      tree = c.requires.tree.1.1;
      held = c.requires.held.1.1;
      room =
          room_next c.requires.room
          ((lays_as c.requires.accepted c.path.ensures).of c.requires.tree.1.0 c.requires.held.1.0);
    })))

pub type_path-returns : goal.type_path-returns
unfolding TypeAt rules.type_form
type_path-returns t c =
    laid_as (cc)
    (let f : be32 c.args.parsed.now.image.now (stop_at c.args.parsed.now.image.now (c.args.at + 13)) ≡ 0 → ⊥ =
    present (rw c.second-p.ensures at c.is_absent.ensures) c.if-is_absent.false
    in
    let stop = ap (λ (n : ℕ). stop_at c.args.parsed.now.image.now n) c.second-p.ensures in
    let l = rw (c.end.ensures, c.second-p.ensures) at
    (lays_each TypeAt rules.type_expr _
    (λ p low high x h. (omega (arith, c.decreases, low, high, c.second-p.ensures, stop, c.requires.held.1.2.same), h)) (λ p x y r. r)
    c.requires.accepted c.separated.ensures) in
    record {
      of = λ x a. lays_then ((lays_as c.requires.accepted c.path.ensures).of x.1.0 a.1.0) ((some_args f l).of x.1.1 a.1.1);
    })
