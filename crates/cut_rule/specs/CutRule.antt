-- Demand 3, "one theorem on the list, not one a call": what is claimed of each list of calls in which no accepted call reads rows not yet
-- laid out. proofs/Document.antt proves it of document 01's states and table.
--
-- Laying out everything at the first call does not meet it: the list may end there, and then the store still holds, past the rows due at that
-- call's stop, what it held at first, whatever that was. Refusing everything does not either: the rule by itself would hold of a table that
-- refuses everything, but the table in Parts.antt is document 01's, and by their contracts (Entries.antt) the calls answer as it says.
use Rattle.std.specs.Prelude.{◌≡◌, cond, List, [], ◌∷◌, ◌++◌, ℕ, zero, suc, eqb, length, take, drop, Some}
use Rattle.rows.specs.Kinds.{COMMENT}
use Rattle.rows.specs.Places.{KIND, ORIGIN, START, SIZE}
use Rattle.rows.specs.Node.{Text}
use Rattle.rows.specs.View.{cell}
use Rattle.cut_rule.specs.Rules.{Rules}
use Rattle.cut_rule.specs.Run.{Call, Carried, start, run, answers}
use Rattle.cut_rule.specs.Plain.{at_first, due, plain, answers_due}

-- the comment that row i holds, if it is a `Comment`
abbrev pub comment_at : List ℕ → ℕ → List Text
comment_at store i =
    cond (eqb (cell store i KIND) COMMENT) (record { origin = cell store i ORIGIN; start = cell store i START; size = cell store i SIZE } ∷ []) []

-- the comments among the first n rows of a store, in order
abbrev pub comments_in : List ℕ → ℕ → List Text
comments_in store zero = []
comments_in store (suc n) = comments_in store n ++ comment_at store n

module _ (R : Rules) where
  -- The comments in the rows laid out are the first so many of the list, in order, each once; the others are the n that wait.
  pub record CommentsKept (listed : List Text) (w : Carried R) (n : ℕ) : Type 0 where
    pub first : comments_in w.store (R.next_row w.layout_state_of) ≡ take (R.placed w.layout_state_of) listed
    pub others : n ≡ length (drop (R.placed w.layout_state_of) listed)

  -- "At a stop inside, in rows that layout wrote from fresh, the comments among the rows ahead of the next one are the first so many of the list, in
  -- order, each once" (document 02, 12): ahead are the rows before it.
  pub record CommentsAhead (listed : List Text) (w : Carried R) : Type 0 where
    pub first : comments_in w.store (R.next_of w.render_state_of) ≡ take (length (comments_in w.store (R.next_of w.render_state_of))) listed

  pub record SameRoom (w v : Carried R) : Type 0 where
    pub store_same : length w.store ≡ length v.store
    pub marks_same : length w.marks ≡ length v.marks

  pub record CutRule (listed : List Text) (store₀ marks₀ : List ℕ) (calls : List (Call R)) : Type 0 where
    -- rows, both states, marks, joined text, comments left, and memory past what is written
    pub same : run R (start R store₀ marks₀) calls ≡ due R store₀ marks₀ (plain R store₀ marks₀ (at_first R) calls)
    -- every answer, refusals with their places included
    pub answered : answers R (start R store₀ marks₀) calls ≡ answers_due R store₀ marks₀ (at_first R) calls
    -- once a layout call is accepted
    pub comments : (n : ℕ) → (run R (start R store₀ marks₀) calls).left ≡ Some n → CommentsKept listed (run R (start R store₀ marks₀) calls) n
    -- wherever rendering stopped
    pub ahead : CommentsAhead listed (run R (start R store₀ marks₀) calls)
    -- store and marks keep their length
    pub room : SameRoom (run R (start R store₀ marks₀) calls) (start R store₀ marks₀)
