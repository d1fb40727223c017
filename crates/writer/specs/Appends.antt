-- What is put into an output: from the state s of it to the state t.
use Rattle.std.specs.Prelude.{◌≡◌, List, ℕ, ◌+◌, length}
use Rattle.std.proofs.lemmas.List.Edits.{sets}
use Rattle.writer.specs.declared.output.Output.{Output}

-- ws is put where the next byte goes; it is still the same output
pub record Appends (ws : List ℕ) (s t : Output) : Type 0 where
  pub bytes : t.bytes.now ≡ sets s.bytes.now s.pos ws
  pub place : t.pos ≡ s.pos + length ws
  pub name : t.bytes.ghost_name ≡ s.bytes.ghost_name

-- ws is set at a place, and the next byte goes where it went
pub record Sets (ws : List ℕ) (pos : ℕ) (s t : Output) : Type 0 where
  pub bytes : t.bytes.now ≡ sets s.bytes.now pos ws
  pub place : t.pos ≡ s.pos
  pub name : t.bytes.ghost_name ≡ s.bytes.ghost_name
