-- What the writer's answers stand for.
use Rattle.std.specs.Prelude.{◌≡◌, List, ℕ, ◌+◌, ◌*◌, ◌≤◌, length, Result}
use Rattle.refusals.specs.Answers.{Answer, refused, accepted}
use Rattle.refusals.specs.Reasons.{answer_of}
use Rattle.refusals.specs.declared.Refused.{Refused}
use Rattle.image.specs.Limits.{MAX_BODY}
use Rattle.image.specs.Read.{Read, got, bad}
use Rattle.tree.specs.Contents.{Contents, image_of}
use Rattle.steps.specs.Writer.{contents_from, writer_answer, writer_output}
use Rattle.steps.specs.OfImage.{steps_of_answer, steps_of_output}
use Rattle.writer.specs.declared.whole.Measured.{Measured}

-- what `write_image` promises: of the list l, with the output before and after
abbrev pub Writes : List ℕ → List ℕ → Result ℕ Refused → List ℕ → Type 0
Writes l out r out2 = (answer_of (λ n. n) r ≡ writer_answer l (length out)) × (out2 ≡ writer_output l out)

-- what `steps_of` promises: of the image b with the source s
abbrev pub Lists : List ℕ → List ℕ → List ℕ → Result ℕ Refused → List ℕ → Type 0
Lists s b out r out2 = (answer_of (λ n. n) r ≡ steps_of_answer s b (length out)) × (out2 ≡ steps_of_output s b out)

-- where the tree's steps start, behind nine bytes for each comment, and how many bytes the image has
abbrev pub measures : ℕ → ℕ → Answer Measured
measures at bytes = accepted (record { tree = at; bytes = bytes })

abbrev pub measured : Read Contents → Answer Measured
measured (got c end) = measures (9 * length c.comments) (length (image_of 1 c))
measured (bad n p) = refused (record { number = n; place = p })

-- a list was measured, and its image has no more bytes than it may and than the output has
pub record Room (l : List ℕ) (at bytes room : ℕ) : Type 0 where
  pub is : measures at bytes ≡ measured (contents_from l)
  pub small : bytes ≤ 5 + MAX_BODY
  pub fits : bytes ≤ room
