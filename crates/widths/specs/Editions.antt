-- What each edition says: "Carry two editions, Unicode 15.1 and 16.0, as one range table each".
use Rattle.std.specs.Prelude.{◌≡◌, ℕ, true, List}
use Rattle.widths.specs.Widths.{code_width, ordered, table_width}
use Rattle.widths.specs.Unicode151 as v151
use Rattle.widths.specs.Unicode160 as v160
use Rattle.widths.specs.declared.lookup.Entry.{Entry}
use Rattle.widths.specs.declared.tables.TheConstants.{WIDTHS_151, WIDTHS_160}
use Rattle.widths.specs.declared.Edition.{Edition}
use Rattle.widths.specs.declared.Edition.TheVariants.{Unicode151, Unicode160}

-- the rule, by the properties of an edition
abbrev pub rule_width : Edition → ℕ → ℕ
rule_width Unicode151 = code_width v151.wide v151.marks
rule_width Unicode160 = code_width v160.wide v160.marks

-- the range table, as the code has it
abbrev pub table_of : Edition → List Entry
table_of Unicode151 = WIDTHS_151
table_of Unicode160 = WIDTHS_160

-- "each table has hundreds of ranges, ascending and without overlap, shown over the whole table": one test, computed; and it says of every number,
-- surrogates and what is past the last code point included, what the rule says by the edition's two properties
pub record Holds (e : Edition) : Type 0 where
  pub order : ordered (table_of e) ≡ true
  pub rule : (c : ℕ) → table_width (table_of e) c ≡ rule_width e c

abbrev pub EditionsHold : Type 0
EditionsHold = (e : Edition) → Holds e
