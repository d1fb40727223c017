-- Both editions: each table is ordered, and says of every number what the rule says by the two properties.
-- Assumes nothing.
use mathlib.Core.Path.{◌≡◌, refl, ◌∙◌}
use mathlib.Core.Bool.{true}
use mathlib.Core.List.{List}
use Prim.Native.Nat.{ℕ}
use Rattle.widths.specs.Widths.{ascends, ordered, narrow, table_width, Usable, codes, text_width}
use Rattle.widths.specs.Unicode151 as v151
use Rattle.widths.specs.Unicode160 as v160
use Rattle.widths.specs.Editions.{rule_width, table_of, EditionsHold}
use Rattle.widths.specs.declared.Edition.{Edition}
use Rattle.widths.specs.declared.Edition.TheVariants.{Unicode151, Unicode160}
use Rattle.widths.specs.declared.tables.TheConstants.{WIDTHS_151, WIDTHS_160}
use Rattle.widths.proofs.Adding.{sum_same}
use Rattle.widths.proofs.Follows.{ranges_of, two_or_none, lies_in_any, outside, Follows, by_rule}

follows_151 : Follows v151.wide v151.marks WIDTHS_151
unfolding ascends two_or_none ranges_of lies_in_any outside v151.wide v151.marks
follows_151 = record { order = refl; widths = refl; twos = refl; zeros = refl }

follows_160 : Follows v160.wide v160.marks WIDTHS_160
unfolding ascends two_or_none ranges_of lies_in_any outside v160.wide v160.marks
follows_160 = record { order = refl; widths = refl; twos = refl; zeros = refl }

-- "ascending and without overlap, shown over the whole table"
pub in_order : (e : Edition) → ordered (table_of e) ≡ true
in_order Unicode151 = follows_151.order
in_order Unicode160 = follows_160.order

pub by_the_rule : (e : Edition) (c : ℕ) → table_width (table_of e) c ≡ rule_width e c
by_the_rule Unicode151 = by_rule v151.wide v151.marks WIDTHS_151 follows_151
by_the_rule Unicode160 = by_rule v160.wide v160.marks WIDTHS_160 follows_160

pub editions_hold : EditionsHold
editions_hold e = record { order = in_order e; rule = by_the_rule e }

pub usable : (e : Edition) → Usable (table_of e)
unfolding narrow
usable Unicode151 = record { order = in_order Unicode151; small = refl }
usable Unicode160 = record { order = in_order Unicode160; small = refl }

-- what the lookup in an edition's table gives
pub looked : (e : Edition) (c r : ℕ) → r ≡ table_width (table_of e) c → r ≡ rule_width e c
looked e c r h = h ∙ by_the_rule e c

-- what the sum by it gives
pub measured : (e : Edition) (s : List ℕ) → text_width (table_width (table_of e)) s ≡ text_width (rule_width e) s
measured e s = sum_same (table_width (table_of e)) (rule_width e) (by_the_rule e) (codes s)
