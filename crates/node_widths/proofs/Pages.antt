-- Where widths are supplied, the page of a rule is the page that counts bytes.
-- Assumes nothing.
use mathlib.Core.Path.{◌≡◌}
use mathlib.Core.List.{List}
use Prim.Native.Nat.{ℕ}
use Rattle.std.specs.Prelude.{None}
use Rattle.rows.specs.Node.{Text}
use Rattle.renderer_rules.specs.Page.{text_bytes, page_of}
use Rattle.widths.specs.Rules.{edition_of}
use Rattle.widths.proofs.ByRule.{by_none}
use Rattle.node_widths.specs.Summed.{str_columns}
use Rattle.node_widths.specs.Measured.{ascii_columns, rule_page}

bytes_counted : (rule : ℕ) (source image : List ℕ) (t : Text) → edition_of rule ≡ None → ascii_columns rule source image t ≡ t.size
unfolding ascii_columns str_columns
bytes_counted rule source image t e = by_none rule t.size (text_bytes source image t) e

pub supplied_page : (max rule : ℕ) (source image : List ℕ) → edition_of rule ≡ None → rule_page max rule source image ≡ page_of max source image
supplied_page max rule source image e =
    λ j. record { max = max; columns = λ t. bytes_counted rule source image t e j; bytes = text_bytes source image }
