-- What is said of a source and an image, said of a file that is accepted.
use Rattle.std.specs.Prelude.{ℕ, List}
use Rattle.acts.specs.Act.{Act}
use Rattle.comments.specs.Listed.{given}
use Rattle.layout.specs.Layout.{shebang_rule}
use Rattle.layout.specs.Closing.{place_waiting, closing}
use Rattle.whole_run.specs.Parts.{keeps_waiting}
use Rattle.whole_run.specs.Built.{tree}
use Rattle.layout_call.specs.declared.accepted.Accepted.{Accepted}

abbrev pub of_file {ℓ} : {A : Type ℓ} → (List ℕ → List ℕ → A) → Accepted → A
of_file f a = f a.parsed.source.now a.parsed.image.now

-- what a call lays first, what a call that closes lays last, and the comments that wait
abbrev pub begins : Accepted → Act
begins a = shebang_rule (of_file given a) (of_file tree a).shebang

abbrev pub closes : Accepted → ℕ → Act
closes a mode = closing (of_file given a) (of_file tree a) (keeps_waiting mode)

abbrev pub waits : Accepted → Act
waits a = place_waiting (of_file given a) (of_file tree a)
