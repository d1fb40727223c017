use Rattle.acts.proofs.Laws.{lays, room_first, room_next}
use Rattle.layout.proofs.Lays.{lays_as, laid_as, has_at}
use Rattle.layout.proofs.Places.{absent, present, maybe_type}
use Rattle.layout.proofs.Optionals.{has_type, no_type, some_type}
use Rattle.layout.proofs.blocks.let_type.Goals as goal

pub is_absent-requires : goal.is_absent-requires
is_absent-requires c = maybe_type _ _ _ c.requires.tree c.requires.held

pub returns-then-is_absent : goal.returns-then-is_absent
returns-then-is_absent c = laid_as (cc) (no_type (absent c.is_absent.ensures c.if-is_absent.true))

pub word-requires : goal.word-requires
word-requires c =
    let h = has_type (present c.is_absent.ensures c.if-is_absent.false) c.requires in
    room_first _ h.room

pub type_expr-requires : goal.type_expr-requires
type_expr-requires c =
    let h = has_type (present c.is_absent.ensures c.if-is_absent.false) c.requires in
    has_at h (room_next h.room (lays c.word.ensures.laid))

pub returns : goal.returns
returns c =
    laid_as (cc) (some_type (present c.is_absent.ensures c.if-is_absent.false)
    (lays c.word.ensures.laid) (lays_as c.requires.accepted c.type_expr.ensures))
