use Rattle.layout.proofs.Places.{absent, present, maybe_path}
use Rattle.layout.proofs.Groups.{no_path, has_path, some_path}
use Rattle.layout.proofs.Lays.{lays_as, laid_as}
use Rattle.layout.proofs.imports.import_first.Goals as goal

pub is_absent-requires : goal.is_absent-requires
is_absent-requires c = maybe_path _ _ _ c.requires.tree c.requires.held

pub returns-then-is_absent : goal.returns-then-is_absent
returns-then-is_absent c = laid_as (cc) (no_path (absent c.is_absent.ensures c.if-is_absent.true))

pub path-requires : goal.path-requires
path-requires c = has_path (present c.is_absent.ensures c.if-is_absent.false) c.requires

pub returns : goal.returns
returns c =
    laid_as (cc) (some_path (present c.is_absent.ensures c.if-is_absent.false) (lays_as c.requires.accepted c.path.ensures))
