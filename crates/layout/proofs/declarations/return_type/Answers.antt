use Rattle.acts.proofs.Laws.{lays, room_first, room_next}
use Rattle.layout.proofs.Places.{absent, present, maybe_type}
use Rattle.layout.proofs.DeclarationForms.{return_has, no_return, some_return}
use Rattle.layout.proofs.Lays.{lays_as, laid_as, has_at}
use Rattle.layout.proofs.declarations.return_type.Goals as goal

pub is_absent-requires : goal.is_absent-requires
is_absent-requires c = maybe_type _ _ _ c.requires.tree c.requires.held

pub returns-then-is_absent : goal.returns-then-is_absent
returns-then-is_absent c = laid_as (cc) (no_return (absent c.is_absent.ensures c.if-is_absent.true))

pub word-requires : goal.word-requires
word-requires c =
    let h = return_has (present c.is_absent.ensures c.if-is_absent.false) c.requires in
    room_first _ h.room

pub type_expr-requires : goal.type_expr-requires
type_expr-requires c =
    let h = return_has (present c.is_absent.ensures c.if-is_absent.false) c.requires in
    has_at h (room_first _ (room_next h.room (lays c.word.ensures.laid)))

pub word-requires-2 : goal.word-requires-2
word-requires-2 c =
    let h = return_has (present c.is_absent.ensures c.if-is_absent.false) c.requires in
    room_next (room_next h.room (lays c.word.ensures.laid)) ((lays_as c.requires.accepted c.type_expr.ensures).of h.tree h.held)

pub returns : goal.returns
returns c =
    laid_as (cc) (some_return (present c.is_absent.ensures c.if-is_absent.false) (lays c.word.ensures.laid)
    (lays_as c.requires.accepted c.type_expr.ensures) (lays c.word-2.ensures.laid))
