-- A caller that makes a list of calls, whatever it holds and however it notes a call that it made.
use Rattle.std.specs.Prelude.{List, [], ◌∷◌}

module _ {W M : Type 0} (after : W → M → W) where
  -- what it holds after the calls
  abbrev pub after_all : W → List M → W
  after_all w [] = w
  after_all w (m ∷ ms) = after_all (after w m) ms

  -- each call keeps what is promised of it, for what the caller held before it
  abbrev pub AllKept : (W → M → Type 0) → W → List M → Type 0
  AllKept Keeps w [] = Unit {0}
  AllKept Keeps w (m ∷ ms) = Keeps w m × AllKept Keeps (after w m) ms
