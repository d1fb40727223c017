-- Refusal 11 by a rule, of stores of `Comment` rows. The source is U+00E9, two bytes; the image has two bytes that continue no character.
-- Assumes nothing.
use mathlib.Core.Path.{◌≡◌, refl}
use mathlib.Core.List.{List, [], ◌∷◌, ◌++◌}
use Rattle.std.specs.Prelude.{Some, None}
use Prim.Native.Nat.{ℕ}
use Rattle.rows.specs.Texts.{origin_text}
use Rattle.rows.specs.View.{view_of}
use Rattle.text.specs.Utf8.{within, row_in, followed, sequence, run, prefix, well_formed, cuts}
use Rattle.widths.specs.Rules.{SUPPLIED, UNICODE_15_1}
use Rattle.renderer_rules.specs.Page.{text_bytes}
use Rattle.renderer_rules.specs.Check.{parts_fit, row_fits_of, first_wrong, wrong_row_of, places_fit, text_whole, places_fit_by, wrong_place_by}

-- the row, by its text's origin, start and length
abbrev comment : ℕ → ℕ → ℕ → List ℕ
comment origin start size = 4 ∷ 0 ∷ 0 ∷ 0 ∷ 1 ∷ origin ∷ start ∷ size ∷ 0 ∷ []

abbrev source : List ℕ
source = 0xC3 ∷ 0xA9 ∷ []

abbrev image : List ℕ
image = 0x80 ∷ 0x80 ∷ []

-- half of the character
half : wrong_place_by UNICODE_15_1 source image (comment 0 0 1) 0 1 ≡ Some 0
unfolding wrong_place_by wrong_row_of first_wrong row_fits_of parts_fit places_fit_by places_fit text_whole text_bytes origin_text
    cuts sequence followed row_in within
    well_formed prefix run view_of
half = refl

-- under supplied widths it passes
half_supplied : wrong_place_by SUPPLIED source image (comment 0 0 1) 0 1 ≡ None
unfolding wrong_place_by wrong_row_of first_wrong row_fits_of parts_fit places_fit_by places_fit origin_text view_of
half_supplied = refl

-- nothing, inside the character
inside : wrong_place_by UNICODE_15_1 source image (comment 0 1 0) 0 1 ≡ Some 0
unfolding wrong_place_by wrong_row_of first_wrong row_fits_of parts_fit places_fit_by places_fit text_whole text_bytes origin_text
    cuts sequence followed row_in within
    well_formed prefix run view_of
inside = refl

-- nothing, at the source's end
at_end : wrong_place_by UNICODE_15_1 source image (comment 0 2 0) 0 1 ≡ None
unfolding wrong_place_by wrong_row_of first_wrong row_fits_of parts_fit places_fit_by places_fit text_whole text_bytes origin_text
    cuts sequence followed row_in within
    well_formed prefix run view_of
at_end = refl

-- nothing, at a byte of the image that is inside no character
stray : wrong_place_by UNICODE_15_1 source image (comment 1 1 0) 0 1 ≡ None
unfolding wrong_place_by wrong_row_of first_wrong row_fits_of parts_fit places_fit_by places_fit text_whole text_bytes origin_text
    cuts sequence followed row_in within
    well_formed prefix run view_of
stray = refl

-- row 1, which doesn't nest since it ends at itself, and row 2, half of the character
abbrev loose : List ℕ
loose = 4 ∷ 0 ∷ 0 ∷ 0 ∷ 1 ∷ 0 ∷ 0 ∷ 2 ∷ 0 ∷ []

abbrev torn : List ℕ
torn = 4 ∷ 0 ∷ 0 ∷ 0 ∷ 3 ∷ 0 ∷ 0 ∷ 1 ∷ 0 ∷ []

-- a torn row before one that doesn't nest goes first
torn_before : wrong_place_by UNICODE_15_1 source image (comment 0 0 1 ++ loose) 0 2 ≡ Some 0
unfolding wrong_place_by wrong_row_of first_wrong row_fits_of parts_fit places_fit_by places_fit text_whole text_bytes origin_text
    cuts sequence followed row_in within
    well_formed prefix run view_of
torn_before = refl

-- a torn row behind it doesn't
torn_behind : wrong_place_by UNICODE_15_1 source image (comment 0 0 2 ++ (loose ++ torn)) 0 3 ≡ Some 1
unfolding wrong_place_by wrong_row_of first_wrong row_fits_of parts_fit places_fit_by places_fit text_whole text_bytes origin_text
    cuts sequence followed row_in within
    well_formed prefix run view_of
torn_behind = refl
