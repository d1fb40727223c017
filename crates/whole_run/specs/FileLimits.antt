-- What a file can give at most in the program's 1,800 rows: the bytes of its text, and the greatest value that `column` takes. proofs/FileLimits.antt
-- proves it, and nothing is assumed.
use Rattle.std.specs.Prelude.{◌≡◌, true, List, ℕ, ◌+◌, ◌*◌, ◌≤◌, length, get_or, None}
use Rattle.image.specs.Limits.{MAX_BODY}
use Rattle.rows.specs.View.{view_of, nodes_at}
use Rattle.renderer_rules.specs.Renderer.{render_nodes}
use Rattle.renderer_rules.specs.Check.{wrong_place_by}
use Rattle.renderer_rules.specs.Widest.{greatest_column}
use Rattle.cut_rule.specs.States.{RenderChoice, render_fresh}
use Rattle.whole_run.specs.Parts.{page, render_image, renderer_of}
use Rattle.whole_run.specs.File.{file_rows, laid_refusal}
use Rattle.whole_run.specs.Built.{FileChoice, laid, drawn_due}

-- the longest image, 1,048,581 bytes: no text of a row is longer
abbrev pub MAX_IMAGE : ℕ
MAX_IMAGE = 5 + MAX_BODY

-- The bytes of a text, 1,887,449,400, which a u32 holds: a row adds its text and two bytes at most, or four for each row inside.
abbrev pub FILE_TEXT : ℕ
FILE_TEXT = file_rows * (MAX_IMAGE + 2)

-- The greatest value of `column`, 1,887,445,800: a row adds what its text measures at most, or four.
abbrev pub FILE_COLUMN : ℕ
FILE_COLUMN = file_rows * MAX_IMAGE

-- So it is of rows that 1, 3 and 11 let pass, whoever laid them, at any width of a line, by any rule, with any marks.
abbrev pub RowsTextLimited : Type 0
RowsTextLimited =
    (k : RenderChoice) (s b store marks : List ℕ) (n : ℕ) → n ≤ file_rows → render_image k.rule s b ≡ None → wrong_place_by k.rule s b store 0 n ≡ None
    → length (render_nodes (page k s b) (nodes_at (view_of store) 0 n) true (renderer_of render_fresh.pen marks)).buf ≤ FILE_TEXT

-- of a file that 1 to 7, 12, 15 and 8 let pass
abbrev pub FileTextLimited : Type 0
FileTextLimited = (s b : List ℕ) (c : FileChoice) → laid_refusal s b c file_rows ≡ None → length (drawn_due s b c).text ≤ FILE_TEXT

-- each number is a byte, as what is lent as bytes holds: a width in two of them is 65,535 at most
abbrev pub AreBytes : List ℕ → Type 0
AreBytes l = (i : ℕ) → get_or l i 0 ≤ 255

-- of a file that 1 to 7, 12, 15 and 8 let pass, at any width of a line, by any rule, with any marks
abbrev pub FileColumnLimited : Type 0
FileColumnLimited =
    (k : RenderChoice) (s b marks : List ℕ) (c : FileChoice) → AreBytes b → laid_refusal s b c file_rows ≡ None
    → greatest_column (page k s b) (laid s b c) marks ≤ FILE_COLUMN
