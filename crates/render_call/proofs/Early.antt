-- From the first entries of the table, 20, 1 to 3, 11, 12 and 15, to those before the run, of which 9 is the last.
-- Assumes nothing.
use mathlib.Core.Path.{◌≡◌, sym, ap, ◌∙◌}
use mathlib.Core.Bool.{Bool}
use Rattle.std.specs.Prelude.{Option, None, Some, Err}
use mathlib.Core.List.{List, [], ◌∷◌}
use Prim.Native.Nat.{ℕ, ◌+◌, ◌*◌, ◌-◌, ◌≤◌, ◌<◌}
use lib.ListN.{length}
use lib.Dec.{ltb}
use borrow.Author.Tests.{lt-ltb, le-ltb}
use Rattle.refusals.specs.Refusals.{Refusal, first, refuse_if}
use Rattle.refusals.proofs.Groups.{refuses_left, left_to}
use Rattle.cut_rule.specs.States as states
use Rattle.cut_rule.specs.Parts.{before_marks, marks_line, read_from}
use Rattle.cut_rule.proofs.Table.{RenderChecked, render_checked}
use Rattle.renderer_rules.specs.Check.{wrong_place}
use Rattle.rows.specs.View.{view_of, nodes_at}
use Rattle.renderer_rules.specs.Most.{nodes_most}
use Rattle.renderer_rules.proofs.ByRule.{right_by}
use Rattle.marks.specs.Marks.{marks_needed}
use Rattle.whole_run.specs.Parts.{parts_of}
use Rattle.render_call.specs.Calls.{to_args, early_refusal, run_refusal}
use Rattle.rowcheck.specs.Needs.{NeedsOf}
use Rattle.rowcheck.specs.declared.needs.Needs.{Needs}
use Rattle.render_call.specs.Whole.{Draws, Checked, Passing, MarginOf, NeedsOfCall}
use Rattle.render_call.specs.declared.RenderArgs.{RenderArgs}
use Rattle.refusals.specs.declared.Reason.TheVariants as reason
use Rattle.refusals.specs.declared.Refused.{Refused}
use Rattle.render_call.proofs.Whole.{ends_early}

module _ (source image : List ℕ) (z : states.RenderState) (args : RenderArgs) (store marks : List ℕ) where
  abbrev before : List (Option Refusal)
  before = before_marks (parts_of source image) (to_args args 0) z store marks

  abbrev behind : List (Option Refusal)
  behind = marks_line (parts_of source image) (to_args args 0) z store marks

  -- what refuses first refuses before the run
  pub refused_early : (r : Refusal) → early_refusal source image args z store marks ≡ Some r → run_refusal source image args z store marks ≡ Some r
  refused_early r e = refuses_left r before behind e

  module _ (h : Checked source image z args store marks) where
    told : RenderChecked (parts_of source image) (to_args args 0) z store marks
    told = render_checked (parts_of source image) (to_args args 0) z store marks h.passes

    pub right : wrong_place source image store (read_from z) args.stop ≡ None
    right = right_by args.rule source image store (read_from z) args.stop told.right

    -- what it gives, where lines start as the state says
    pub needs_of : (m : ℕ) (n : Needs) → MarginOf z.pen m → NeedsOf store (read_from z) args.stop m n → NeedsOfCall source image z args store n
    needs_of m n g d =
        record {
          marks = d.marks;
          bytes =
              d.bytes
              ∙ ap (λ (k : ℕ). 4 * k + nodes_most (nodes_at (view_of store) (read_from z) args.stop) k)
              (g.same told.fits.pen.indent told.fits.pen.next_indent);
        }

    abbrev needed : ℕ
    needed = marks_needed (args.stop - read_from z) store (read_from z)

    by_nine : (t : Bool) (n : ℕ) → n ≡ needed → ltb (length marks) n ≡ t
        → run_refusal source image args z store marks ≡ first (refuse_if t 9 n ∷ [])
    by_nine t n e f =
        left_to before behind h.passes
        ∙ ap (λ (x : ℕ). first (refuse_if (ltb (length marks) x) 9 x ∷ [])) (sym e)
        ∙ ap (λ (x : Bool). first (refuse_if x 9 n ∷ [])) f

    module _ (n : ℕ) (e : n ≡ marks_needed (args.stop - read_from z) store (read_from z)) where
      pub marks_short : (out listed : List ℕ) → length marks < n → (r : Refused) → r ≡ record { reason = reason.MarksNeeded; place = n }
          → Draws source image z args store marks out listed (Err r) store marks out listed
      marks_short out listed l r f = rw f (ends_early source image z args store marks out listed _ (by_nine _ n e (lt-ltb (length marks) n l)))

      pub marks_enough : n ≤ length marks → Passing source image z args store marks
      marks_enough l = record { passes = by_nine _ n e (le-ltb (length marks) n l) }
