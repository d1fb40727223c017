-- The first byte of each step.
use Rattle.std.specs.Prelude.{ℕ}
use Rattle.writer.specs.declared.step.Code.{Code}
use Rattle.writer.specs.declared.step.Code.TheVariants as code

abbrev pub code_of : Code → ℕ
code_of code.Comment = 1
code_of code.Open = 2
code_of code.Text = 3
code_of code.Payload = 4
code_of code.Absent = 5
code_of code.Close = 6
