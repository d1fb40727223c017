-- What holds of each step of comment placing, and of steps one after the other, holds of `pop_whitespace` and of `pop_trailing_comment`.
-- Assumes nothing.
use Prim.Native.Nat.{ℕ, zero, suc}
use mathlib.Core.Path.{◌≡◌, refl}
use mathlib.Core.Bool.{Bool, true, false, cond, ◌&&◌}
use Rattle.std.specs.Prelude.{Option, None, Some}
use lib.Dec.{ltb, eqb}
use lib.ListN.{length}
use Rattle.text.specs.Newlines.{count_newlines}
use Rattle.text.specs.declared.newlines.Newlines.{Newlines}
use Rattle.text.specs.Space.{something}
use Rattle.ast.specs.Syntax.{Span}
use Rattle.rows.specs.Node.{line, empty_line}
use Rattle.acts.specs.Act.{Given, St, Act, ◌⨟◌, ◌⨟!◌, skip, push, move_to, pop, step_alone}
use Rattle.comments.specs.Comments.{break_line, front, push_comment, newlines, ignore_newlines, pop_comment}
use Rattle.comments.specs.Comments.{waits, pop_comments, after_comments, pop_whitespace, pop_trailing_comment}

pub record GapSteps (g : Given) (P : Act → Type 0) : Type 0 where
  pub skips : P skip
  pub moves : (p : ℕ) → P (move_to p)
  pub pops : P pop
  pub comments : (c : Span) → P (push_comment g c)
  pub lines : P (push line)
  pub empty_lines : P (push empty_line)
  pub ignores : (p : ℕ) → P (ignore_newlines g p)
  pub joins : {a b : Act} → P a → P b → P (a ⨟ b)
  -- a step that looks at the state is, from each state, one of which it holds
  pub looks : {a : Act} (b : St → Act) → ((s : St) → P (b s)) → ((s : St) → b s s ≡ a s) → P a

module _ {g : Given} {P : Act → Type 0} (J : GapSteps g P) where
  gap_cond : (t : Bool) {a b : Act} → P a → P b → P (cond t a b)
  gap_cond true p q = p
  gap_cond false p q = q

  gap_newlines : (p : ℕ) → P (step_alone (newlines g p))
  unfolding newlines
  gap_newlines p = J.looks (λ s. break_line (count_newlines g.source s.pos p) ⨟ move_to p) (λ s. kept (count_newlines g.source s.pos p)) (λ s. refl)
    where
      kept : (n : Newlines) → P (break_line n ⨟ move_to p)
      kept n = J.joins (gap_cond (eqb n.count 0) J.skips (gap_cond (eqb n.count 1) J.lines J.empty_lines)) (J.moves p)

  gap_pop_comment : (leading : Bool) (c : Span) → P (pop_comment g leading c)
  unfolding pop_comment
  gap_pop_comment leading c =
      J.joins J.pops (J.joins (gap_cond leading (gap_newlines c.start) (J.ignores c.start)) (J.joins (J.moves _) (J.comments c)))

  gap_pop_comments : (n p : ℕ) (leading : Bool) → P (pop_comments g n p leading)
  unfolding pop_comments
  gap_pop_comments zero p leading = J.skips
  gap_pop_comments (suc n) p leading = J.looks (λ s. turned (front g s)) (λ s. turn (front g s) (gap_pop_comments n p true)) (λ s. refl)
    where
      turned : Option Span → Act
      turned f s = elim f [ None ↦ skip s | Some c ↦ cond (ltb c.start p) (pop_comment g leading c ⨟ pop_comments g n p true) skip s ]

      turn : (f : Option Span) → P (pop_comments g n p true) → P (turned f)
      turn None more = J.skips
      turn (Some c) more = gap_cond (ltb c.start p) (J.joins (gap_pop_comment leading c) more) J.skips

  pub every_gap : (p : ℕ) (leading trailing only : Bool) → P (step_alone (pop_whitespace g p leading trailing only))
  unfolding pop_whitespace ◌⨟!◌
  every_gap p leading trailing only =
      J.looks (λ s. pop_comments g (length g.comments) p leading ⨟ step_alone (after_comments g (waits g p s && trailing) p only))
      (λ s. J.joins (gap_pop_comments (length g.comments) p leading) (last (waits g p s && trailing) only))
      (λ s. refl)
    where
      last : (t u : Bool) → P (step_alone (after_comments g t p u))
      last true u = gap_newlines p
      last false true = gap_newlines p
      last false false = J.ignores p

  pub every_trailing : P (pop_trailing_comment g)
  unfolding pop_trailing_comment
  every_trailing = J.looks (λ s. sought (something g.source s.pos) (front g s)) (λ s. found (something g.source s.pos) (front g s)) (λ s. refl)
    where
      sought : Option ℕ → Option Span → Act
      sought f o s =
          elim f [
            | None ↦ skip s
            | Some place ↦ elim o [ None ↦ skip s | Some c ↦ cond (eqb c.start place) (pop ⨟ push_comment g c ⨟ move_to c.end) skip s ]
          ]

      found : (f : Option ℕ) (o : Option Span) → P (sought f o)
      found None o = J.skips
      found (Some place) None = J.skips
      found (Some place) (Some c) = gap_cond (eqb c.start place) (J.joins J.pops (J.joins (J.comments c) (J.moves c.end))) J.skips
