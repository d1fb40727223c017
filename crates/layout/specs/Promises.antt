-- The contracts of the layout functions: a part of the syntax tree is at an offset of the image, and its rule is laid.
use Rattle.std.specs.Prelude.{◌≡◌, ℕ, ◌≤◌, List, length}
use Rattle.acts.specs.Act.{Given, Act}
use Rattle.acts.specs.Laid.{Room, Laid}
use Rattle.acts.specs.declared.Cursor.{Cursor}
use Rattle.acts.specs.declared.State.{State}
use Rattle.comments.specs.Listed.{given}
use Rattle.comments.specs.Parsed.{given_by}
use Rattle.comments.specs.declared.parsed.Parsed.{Parsed}

-- what layout needs of an accepted image besides its tree and its comments: a place in a row can hold its size
pub record Readable (b : List ℕ) : Type 0 where
  pub small : length b ≤ 1048581

-- a part of the syntax tree is at `at`, and there is room for what its rule lays
pub record HasIn {T : Type 0} (R : List ℕ → List ℕ → T → ℕ → Type 0) (rule : Given → T → Act) (s b : List ℕ) (at : ℕ) (c : Cursor) : Type 0 where
  pub accepted : Readable b
  pub tree : T
  pub held : R s b tree at
  pub room : Room (rule (given s b) tree) c

abbrev pub Has : {T : Type 0} → (List ℕ → List ℕ → T → ℕ → Type 0) → (Given → T → Act) → Parsed → ℕ → Cursor → Type 0
Has R rule p at c = HasIn R rule p.source.now p.image.now at c

-- the part that is at `at` is laid by its rule
pub record LaidAs {T : Type 0} (R : List ℕ → List ℕ → T → ℕ → Type 0) (rule : Given → T → Act) (p : Parsed) (at : ℕ) (x y : State) : Type 0 where
  pub of : (h : Has R rule p at x.cursor) → Laid (rule (given_by p) h.tree) x.store.now x.cursor y.store.now y.cursor
  pub same : y.store.ghost_name ≡ x.store.ghost_name

-- the same of parts one after the other, from `from` up to `to`
pub record HasAllIn {T : Type 0} (R : List ℕ → List ℕ → T → ℕ → ℕ → Type 0) (rule : Given → T → Act)
    (s b : List ℕ) (from to : ℕ) (c : Cursor) : Type 0 where
  pub accepted : Readable b
  pub tree : T
  pub held : R s b tree from to
  pub inside : to ≤ length b
  pub room : Room (rule (given s b) tree) c

abbrev pub HasAll : {T : Type 0} → (List ℕ → List ℕ → T → ℕ → ℕ → Type 0) → (Given → T → Act) → Parsed → ℕ → ℕ → Cursor → Type 0
HasAll R rule p from to c = HasAllIn R rule p.source.now p.image.now from to c

pub record LaidAll {T : Type 0} (R : List ℕ → List ℕ → T → ℕ → ℕ → Type 0) (rule : Given → T → Act)
    (p : Parsed) (from to : ℕ) (x y : State) : Type 0 where
  pub of : (h : HasAll R rule p from to x.cursor) → Laid (rule (given_by p) h.tree) x.store.now x.cursor y.store.now y.cursor
  pub same : y.store.ghost_name ≡ x.store.ghost_name
