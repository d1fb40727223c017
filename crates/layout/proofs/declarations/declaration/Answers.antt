-- The form of the declaration by its kind byte.
-- Assumes nothing.
use mathlib.Core.Path.{ap, ◌∙◌}
use Rattle.layout.specs.Numbers.{declaration_number}
use Rattle.layout.proofs.DeclarationForms.{declaration_is, declaration_has_kind, declaration_has, declaration_laid}
use Rattle.layout.proofs.Lays.{lays_as, laid_as}
use Rattle.layout.proofs.declarations.declaration.Goals as goal

pub read-requires : goal.read-requires
read-requires c = declaration_has_kind _ _ _ c.requires.tree c.requires.held

pub filter_map-requires : goal.filter_map-requires
filter_map-requires c =
    declaration_has _ (declaration_is _ _ _ 10 (c.read.ensures ∙ ap declaration_number c.in-FilterMap.is)) c.args.first c.requires

pub constant-requires : goal.constant-requires
constant-requires c =
    declaration_has _ (declaration_is _ _ _ 11 (c.read.ensures ∙ ap declaration_number c.in-Const.is)) c.args.first c.requires

pub decl_record-requires : goal.decl_record-requires
decl_record-requires c =
    declaration_has _ (declaration_is _ _ _ 12 (c.read.ensures ∙ ap declaration_number c.in-Record.is)) c.args.first c.requires

pub decl_enum-requires : goal.decl_enum-requires
decl_enum-requires c =
    declaration_has _ (declaration_is _ _ _ 13 (c.read.ensures ∙ ap declaration_number c.in-Enum.is)) c.args.first c.requires

pub function-requires : goal.function-requires
function-requires c =
    declaration_has _ (declaration_is _ _ _ 14 (c.read.ensures ∙ ap declaration_number c.in-Function.is)) c.args.first c.requires

pub test-requires : goal.test-requires
test-requires c =
    declaration_has _ (declaration_is _ _ _ 15 (c.read.ensures ∙ ap declaration_number c.in-Test.is)) c.args.first c.requires

pub decl_import-requires : goal.decl_import-requires
decl_import-requires c =
    declaration_has _ (declaration_is _ _ _ 16
    (c.read.ensures ∙ ap declaration_number c.in-Import.is))
    c.args.first c.requires

pub returns-in-FilterMap : goal.returns-in-FilterMap
returns-in-FilterMap c =
    laid_as (cc) (declaration_laid _ (declaration_is _ _ _ 10 (c.read.ensures ∙ ap declaration_number c.in-FilterMap.is))
    c.args.first (lays_as c.requires.accepted c.filter_map.ensures))

pub returns-in-Const : goal.returns-in-Const
returns-in-Const c =
    laid_as (cc) (declaration_laid _ (declaration_is _ _ _ 11 (c.read.ensures ∙ ap declaration_number c.in-Const.is))
    c.args.first (lays_as c.requires.accepted c.constant.ensures))

pub returns-in-Record : goal.returns-in-Record
returns-in-Record c =
    laid_as (cc) (declaration_laid _ (declaration_is _ _ _ 12 (c.read.ensures ∙ ap declaration_number c.in-Record.is))
    c.args.first (lays_as c.requires.accepted c.decl_record.ensures))

pub returns-in-Enum : goal.returns-in-Enum
returns-in-Enum c =
    laid_as (cc) (declaration_laid _ (declaration_is _ _ _ 13 (c.read.ensures ∙ ap declaration_number c.in-Enum.is))
    c.args.first (lays_as c.requires.accepted c.decl_enum.ensures))

pub returns-in-Function : goal.returns-in-Function
returns-in-Function c =
    laid_as (cc) (declaration_laid _ (declaration_is _ _ _ 14 (c.read.ensures ∙ ap declaration_number c.in-Function.is))
    c.args.first (lays_as c.requires.accepted c.function.ensures))

pub returns-in-Test : goal.returns-in-Test
returns-in-Test c =
    laid_as (cc) (declaration_laid _ (declaration_is _ _ _ 15 (c.read.ensures ∙ ap declaration_number c.in-Test.is))
    c.args.first (lays_as c.requires.accepted c.test.ensures))

pub returns-in-Import : goal.returns-in-Import
returns-in-Import c =
    laid_as (cc) (declaration_laid _
    (declaration_is _ _ _ 16 (c.read.ensures ∙ ap declaration_number c.in-Import.is))
    c.args.first (lays_as c.requires.accepted c.decl_import.ensures))
