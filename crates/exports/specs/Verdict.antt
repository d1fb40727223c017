-- Request 11: the numbers that the verdict on a tree leaves.
use Rattle.std.specs.Prelude.{◌≡◌, List, ℕ}
use Rattle.refusals.specs.Answers.{numbers_of}
use Rattle.readback.specs.Verdict.{verdict_due, told_verdict}

abbrev pub SaysVerdict : List ℕ → List ℕ → List ℕ → List ℕ → Type 0
SaysVerdict s b out out2 = out2 ≡ numbers_of told_verdict (verdict_due s b) out
