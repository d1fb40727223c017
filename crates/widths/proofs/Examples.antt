-- How many ranges each table has, the rule at code points where editions or properties meet, and two texts.
-- Assumes nothing.
use mathlib.Core.Path.{◌≡◌, refl}
use mathlib.Core.List.{[], ◌∷◌}
use lib.ListN.{length}
use Rattle.text.specs.Utf8.{within, row_in, followed, sequence, scalar, decoded, char_at}
use Rattle.text.specs.Space.{one_of}
use Rattle.widths.specs.Widths.{code_width, codes_from, codes, sum, text_width}
use Rattle.widths.specs.Editions.{rule_width, table_of}
use Rattle.widths.specs.Unicode151 as v151
use Rattle.widths.specs.Unicode160 as v160
use Rattle.widths.specs.declared.Edition.TheVariants.{Unicode151, Unicode160}

-- "each table has hundreds of ranges"
ranges_151 : length (table_of Unicode151) ≡ 460
ranges_151 = refl

ranges_160 : length (table_of Unicode160) ≡ 473
ranges_160 = refl

-- U+4DC0 is wide since 16.0
hexagram_151 : rule_width Unicode151 0x4DC0 ≡ 1
unfolding code_width one_of within v151.wide v151.marks
hexagram_151 = refl

hexagram_160 : rule_width Unicode160 0x4DC0 ≡ 2
unfolding code_width one_of within v160.wide v160.marks
hexagram_160 = refl

-- U+1171E is no mark any more
ahom_151 : rule_width Unicode151 0x1171E ≡ 0
unfolding code_width one_of within v151.wide v151.marks
ahom_151 = refl

ahom_160 : rule_width Unicode160 0x1171E ≡ 1
unfolding code_width one_of within v160.wide v160.marks
ahom_160 = refl

-- U+302A is W and Mn
tone_mark : rule_width Unicode160 0x302A ≡ 2
unfolding code_width one_of within v160.wide v160.marks
tone_mark = refl

-- unassigned: U+2FFFD is W by the default lines, U+2FFFE is not
last_of_plane_2 : rule_width Unicode151 0x2FFFD ≡ 2
unfolding code_width one_of within v151.wide v151.marks
last_of_plane_2 = refl

past_plane_2 : rule_width Unicode151 0x2FFFE ≡ 1
unfolding code_width one_of within v151.wide v151.marks
past_plane_2 = refl

-- U+65E5 U+672C, and "e" with U+0301
two_ideographs : text_width (rule_width Unicode160) (0xE6 ∷ 0x97 ∷ 0xA5 ∷ 0xE6 ∷ 0x9C ∷ 0xAC ∷ []) ≡ 4
unfolding codes codes_from sum char_at decoded scalar sequence followed row_in code_width one_of within v160.wide v160.marks
two_ideographs = refl

accented : text_width (rule_width Unicode160) (0x65 ∷ 0xCC ∷ 0x81 ∷ []) ≡ 1
unfolding codes codes_from sum char_at decoded scalar sequence followed row_in code_width one_of within v160.wide v160.marks
accented = refl
