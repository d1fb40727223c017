-- The invariant of a loop that lays parts one after the other, by an iterator over their records: whatever finishes from here finishes from the
-- start, and there is room for it.
-- Assumes nothing.
use mathlib.Core.Path.{◌≡◌, sym, ◌∙◌}
use mathlib.Core.List.{List, [], ◌∷◌}
use Prim.Native.Nat.{ℕ, ◌≤◌, ◌<◌}
use Rattle.image.specs.Read.{stop_at}
use Rattle.acts.specs.Act.{Given, Act}
use Rattle.acts.specs.declared.Cursor.{Cursor}
use Rattle.acts.specs.declared.State.{State}
use Rattle.comments.specs.AllIn.{offsets_from}
use Rattle.comments.specs.Records.{offsets}
use Rattle.comments.specs.declared.parsed.Parsed.{Parsed}
use Rattle.comments.specs.declared.records.Records.{Records}
use Rattle.comments.proofs.Offsets.{given_next, given_none}
use Rattle.layout.specs.Promises.{HasAll}
use Rattle.layout.proofs.Lays.{LaysAll}

-- the rule of all of them is `whole`, and that of those which are left is `rule`
module _ {T : Type 0} (R : List ℕ → List ℕ → T → ℕ → ℕ → Type 0) (whole rule : Given → T → Act) (p : Parsed) (from to : ℕ) where
  -- whatever finishes from the part at `at` finishes from the start
  abbrev pub Finishes : State → State → ℕ → Type 0
  Finishes start now at =
      (x : List ℕ) (c : Cursor) → LaysAll R rule p.source.now p.image.now at to now.store.now now.cursor x c
      → LaysAll R whole p.source.now p.image.now from to start.store.now start.cursor x c

  pub record Walking (left : Records) (start now : State) : Type 0 where
    pub at : ℕ
    pub far : from ≤ at
    pub left_is : offsets left ≡ offsets_from p.image.now at to
    pub has : HasAll R rule p at to now.cursor
    pub finishes : Finishes start now at
    pub same : now.store.ghost_name ≡ start.store.ghost_name

  -- the part at `at` is next, and the others are at more
  pub record Next (at : ℕ) (more : List ℕ) (start now : State) : Type 0 where
    pub before : at < to
    pub far : from ≤ at
    pub more_is : more ≡ offsets_from p.image.now (stop_at p.image.now at) to
    pub has : HasAll R rule p at to now.cursor
    pub finishes : Finishes start now at

module _ {T : Type 0} {R : List ℕ → List ℕ → T → ℕ → ℕ → Type 0} {whole rule : Given → T → Act} {p : Parsed} {from to : ℕ} {left : Records} {start now : State}
    (w : Walking R whole rule p from to left start now) where
  pub next_part : {at : ℕ} {more : List ℕ} → offsets left ≡ at ∷ more → Next R whole rule p from to at more start now
  next_part e =
      let n = given_next p.image.now w.at to (sym w.left_is ∙ e) in
      rw n.1 (record { before = n.0; far = w.far; more_is = n.2; has = w.has; finishes = w.finishes })

  pub none_left : offsets left ≡ [] → to ≤ w.at
  none_left e = given_none p.image.now w.at to (sym w.left_is ∙ e)
