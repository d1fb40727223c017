-- `pop_trailing_comment`, `pop_whitespace`, `newlines` and `ignore_newlines` of fmt.rs. Where the Rust returns whether there is white space, the
-- rules return what was counted, with its place (request 1).
use Rattle.std.specs.Prelude.{ℕ, zero, suc, ◌-◌, min, Bool, true, false, cond, ◌&&◌, ◌||◌, List, [], ◌∷◌, length, ltb, eqb, Option, None, Some}
use Rattle.text.specs.Space.{trim_end, something}
use Rattle.text.specs.Newlines.{count_newlines}
use Rattle.text.specs.declared.newlines.Newlines.{Newlines}
use Rattle.ast.specs.Syntax.{Span}
use Rattle.rows.specs.Node.{comment, line, empty_line}
use Rattle.acts.specs.Act.{Given, St, Act, Asking, ◌⨟◌, ◌⨟!◌, skip, push, move_to, pop, step_alone, answering, turning}
use Rattle.comments.specs.declared.Gap.{Gap}

-- the element of a list at a place
unfoldable pub nth : {A : Type 0} → List A → ℕ → Option A
nth [] k = None
nth (x ∷ xs) zero = Some x
nth (x ∷ xs) (suc k) = nth xs k

-- a line for one newline, an empty line for more
abbrev pub break_line : Newlines → Act
break_line n = cond (eqb n.count 0) skip (cond (eqb n.count 1) (push line) (push empty_line))

-- newlines after comments, or without
abbrev pub gap_of : Bool → Newlines → Gap
gap_of commented n = record { newlines = n; commented = commented }

-- newlines up to the position are not looked at
abbrev pub uncounted : ℕ → Gap
uncounted position = gap_of false (record { count = 0; place = position })

-- what `pop_whitespace` of the Rust returns
abbrev pub whitespace : Gap → Bool
whitespace x = x.commented || ltb 0 x.newlines.count

module _ (g : Given) where
  -- `comments.front()`
  abbrev pub front : St → Option Span
  front s = nth g.comments s.placed

  -- `Node::Comment`: a comment's text, trimmed at the end
  abbrev pub push_comment : Span → Act
  push_comment c = push (comment (record { origin = 0; start = c.start; size = trim_end g.source c.start c.end - c.start }))

  -- `newlines`: the line or the empty line for the newlines up to the position; it returns them, and the Rust whether there is any
  unfoldable pub newlines : ℕ → Asking Newlines
  newlines position s =
      let n = count_newlines g.source s.pos position in
      ((break_line n ⨟ move_to position) s, n)

  -- `ignore_newlines`: to the position, or to the front comment where that starts before it
  unfoldable pub ignore_newlines : ℕ → Act
  ignore_newlines position s = move_to (elim (front s) [ None ↦ position | Some c ↦ min position c.start ]) s

  -- one comment of `pop_whitespace`; the position is then its end less 1
  unfoldable pub pop_comment : Bool → Span → Act
  pop_comment leading c =
      pop ⨟ cond leading (step_alone (newlines c.start)) (ignore_newlines c.start) ⨟ move_to (c.end - 1) ⨟ push_comment c

  -- a comment waits before the position: after the loop, the Rust's `!first`
  abbrev pub waits : ℕ → St → Bool
  waits position s = elim (front s) [ None ↦ false | Some c ↦ ltb c.start position ]

  -- the loop of `pop_whitespace`: the comments that start before the position, n at most. Newlines before the first are kept where
  -- `leading` says so, before the others always
  unfoldable pub pop_comments : ℕ → ℕ → Bool → Act
  pop_comments zero position leading s = skip s
  pop_comments (suc n) position leading s =
      elim (front s) [
        | None ↦ skip s
        | Some c ↦ cond (ltb c.start position) (pop_comment leading c ⨟ pop_comments n position true) skip s
      ]

  -- what `pop_whitespace` does after its loop; `commented` is the Rust's `!first && preserve_trailing_whitespace`
  abbrev pub after_comments : Bool → ℕ → Bool → Asking Gap
  after_comments commented position only =
      cond commented (turning (gap_of true) (newlines position))
      (cond only (turning (gap_of false) (newlines position)) (answering (uncounted position) (ignore_newlines position)))

  -- `pop_whitespace`, with its flags `preserve_leading_whitespace`, `preserve_trailing_whitespace`, `preserve_only_whitespace`
  unfoldable pub pop_whitespace : ℕ → Bool → Bool → Bool → Asking Gap
  pop_whitespace position leading trailing only s =
      (pop_comments (length g.comments) position leading ⨟! after_comments (waits position s && trailing) position only) s

  -- `pop_trailing_comment`
  unfoldable pub pop_trailing_comment : Act
  pop_trailing_comment s =
      elim (something g.source s.pos) [
        | None ↦ skip s
        | Some place ↦
            elim (front s) [ None ↦ skip s | Some c ↦ cond (eqb c.start place) (pop ⨟ push_comment c ⨟ move_to c.end) skip s ]
      ]
