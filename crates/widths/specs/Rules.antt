-- The three rules that a text is measured by: "0 none yet, 1 supplied, 2 for 15.1, 3 for 16.0".
use Rattle.std.specs.Prelude.{ℕ, cond, List, eqb, Option, None, Some}
use Rattle.widths.specs.Widths.{text_width}
use Rattle.widths.specs.Editions.{rule_width}
use Rattle.widths.specs.declared.Edition.{Edition}
use Rattle.widths.specs.declared.Edition.TheVariants.{Unicode151, Unicode160}

abbrev pub SUPPLIED : ℕ
SUPPLIED = 1

abbrev pub UNICODE_15_1 : ℕ
UNICODE_15_1 = 2

abbrev pub UNICODE_16_0 : ℕ
UNICODE_16_0 = 3

-- the edition that a rule measures by; none where the widths are supplied
unfoldable pub edition_of : ℕ → Option Edition
edition_of rule = cond (eqb rule UNICODE_15_1) (Some Unicode151) (cond (eqb rule UNICODE_16_0) (Some Unicode160) None)

-- What a text measures by an edition, if there is one; `supplied` is what it measures by the Rust: a `Str` its width in the image, an `Ascii` its
-- bytes.
abbrev pub columns_of : ℕ → List ℕ → Option Edition → ℕ
columns_of supplied text None = supplied
columns_of supplied text (Some e) = text_width (rule_width e) text

-- what it measures by a rule
unfoldable pub columns_by : ℕ → ℕ → List ℕ → ℕ
columns_by rule supplied text = columns_of supplied text (edition_of rule)
