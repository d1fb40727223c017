use mathlib.Core.Path.{sym, ◌∙◌}
use native.Mathlib.Omega.{arith}
use Rattle.layout.proofs.Places.{absent, present, maybe_list}
use Rattle.layout.proofs.DeclarationForms.{params_whole, params_has, no_params, empty_params, some_params}
use Rattle.layout.proofs.Lays.{lays_as, laid_as}
use Rattle.layout.proofs.declarations.some_type_params.Goals as goal

pub is_absent-requires : goal.is_absent-requires
is_absent-requires c = maybe_list _ _ _ c.requires.tree c.requires.held

pub returns-then-is_absent : goal.returns-then-is_absent
returns-then-is_absent c = laid_as (cc) (no_params (absent c.is_absent.ensures c.if-is_absent.true))

pub overflow_add-at : goal.overflow_add-at
overflow_add-at c =
    let w = params_whole _ _ _ (present c.is_absent.ensures c.if-is_absent.false) c.requires.tree c.requires.held in
    omega (arith, c.requires.accepted.small, w.long, w.fits)

pub past-requires : goal.past-requires
past-requires c =
    let w = params_whole _ _ _ (present c.is_absent.ensures c.if-is_absent.false) c.requires.tree c.requires.held in
    record { fits = w.fits }

pub returns-then-at-past : goal.returns-then-at-past
returns-then-at-past c = laid_as (cc) (empty_params (c.if-at-past.true ∙ c.past.ensures))

pub type_params-requires : goal.type_params-requires
type_params-requires c =
    params_has (present c.is_absent.ensures c.if-is_absent.false)
    (λ e. c.if-at-past.false (e ∙ sym c.past.ensures)) c.requires

pub returns : goal.returns
returns c =
    laid_as (cc) (some_params (present c.is_absent.ensures c.if-is_absent.false)
    (λ e. c.if-at-past.false (e ∙ sym c.past.ensures)) (lays_as c.requires.accepted c.type_params.ensures))
