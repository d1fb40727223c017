-- The kinds of each place stand in the table, by computation.
-- Assumes nothing.
use mathlib.Core.Path.{◌≡◌, refl, sym, ap, ◌∙◌}
use mathlib.Core.Bool.{◌&&◌}
use Prim.Native.Nat.{ℕ}
use native.Mathlib.Omega.{arith}
use lib.Dec.{leb, eqb}
use lib.ListN.{get_or}
use borrow.Author.Tests.{le-leb, lt-leb}
use denote.Enum.Declared.{tag_of}
use Rattle.std.proofs.lemmas.Bool.Decides.{nat_tests}
use Rattle.image.specs.Grammar.{kind_fits_of}
use Rattle.image.specs.Places.{due_number}
use Rattle.image.specs.contracts.grammar.Due.{the_type}
use Rattle.image.specs.declared.grammar.TheConstants.{RANGES}
use Rattle.image.specs.declared.grammar.Due.{Due}
use Rattle.image.specs.declared.grammar.Due.TheVariants as due
use Rattle.image.specs.declared.grammar.Range.{Range}
use Rattle.image.proofs.grammar.Due.fits.Goals as goal

abbrev range_of : Due → Range
range_of d = get_or RANGES (tag_of the_type d) (0, 0)

a_list : (k : ℕ) → eqb k 3 ≡ (leb 3 k && leb k 3)
a_list k = grind (arith, nat_tests)

ranged : (d : Due) (k : ℕ) → kind_fits_of (due_number d) k ≡ (leb (range_of d).0 k && leb k (range_of d).1)
unfolding kind_fits_of
ranged due.Tree k = refl
ranged due.Text k = refl
ranged due.Path k = refl
ranged due.Import k = refl
ranged due.NameAndType k = refl
ranged due.Variant k = refl
ranged due.Field k = refl
ranged due.Block k = refl
ranged due.RecordFields k = refl
ranged due.Arm k = refl
ranged due.Operator k = refl
ranged due.AssignOperator k = refl
ranged due.Literal k = refl
ranged due.Declaration k = refl
ranged due.Statement k = refl
ranged due.Type k = refl
ranged due.Expr k = refl
ranged due.Pattern k = refl
ranged due.StringPart k = refl
ranged due.Texts k = a_list k
ranged due.Imports k = a_list k
ranged due.NamesAndTypes k = a_list k
ranged due.Variants k = a_list k
ranged due.Arms k = a_list k
ranged due.Statements k = a_list k
ranged due.Types k = a_list k
ranged due.Exprs k = a_list k
ranged due.StringParts k = a_list k

pub returns-then-range-kind : goal.returns-then-range-kind
returns-then-range-kind c =
    sym (ranged c.args.self c.args.kind ∙ ap (λ t. t && leb c.args.kind (range_of c.args.self).1) (le-leb _ _ c.if-range-kind.true))

pub returns-else-range-kind : goal.returns-else-range-kind
returns-else-range-kind c =
    let none = lt-leb _ _ c.if-range-kind.false in
    none ∙ sym (ranged c.args.self c.args.kind ∙ ap (λ t. t && leb c.args.kind (range_of c.args.self).1) none)
