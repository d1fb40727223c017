-- What a call that nothing refuses before its run has: what the run requires of rows, state and marks.
-- Assumes nothing.
use mathlib.Core.Path.{◌≡◌, refl, sym, ◌∙◌}
use mathlib.Core.Bool.{Bool, true, false, cond}
use Rattle.std.specs.Prelude.{None}
use mathlib.Core.List.{List, [], ◌∷◌}
use Prim.Native.Nat.{ℕ, ◌-◌, ◌*◌, ◌≤◌, ◌<◌}
use native.Mathlib.Omega.{arith}
use lib.Dec.{ltb}
use lib.ListN.{length, take}
use borrow.Author.Tests.{ltb-true}
use Rattle.rows.specs.Limits.{MAX_ROWS}
use Rattle.rows.specs.Places.{PLACES}
use Rattle.rows.specs.View.{view_of}
use Rattle.rows.specs.Nesting.{Nests}
use Rattle.renderer_rules.specs.Limits.{MAX_INDENT, MAX_COLUMN}
use Rattle.renderer_rules.specs.Check.{wrong_place, wrong_place_by, places_fit}
use Rattle.renderer_rules.specs.Listed.{reads_from, listed_those, can_close_all}
use Rattle.renderer_rules.specs.Stops.{OpenRow}
use Rattle.renderer_rules.proofs.ByRule.{right_by, fits_by}
use Rattle.renderer_rules.proofs.Checked.{accepted_nests}
use Rattle.rowcheck.proofs.Pending.{stop_fits}
use Rattle.cut_rule.specs.Limits.{MAX_LISTED}
use Rattle.cut_rule.specs.States as states
use Rattle.cut_rule.specs.Parts.{read_from}
use Rattle.cut_rule.specs.Tests.{odd_mark}
use Rattle.cut_rule.proofs.Table.{before_told}
use Rattle.marks.specs.Marks.{marks_needed}
use Rattle.row_widths.proofs.Right.{unturned}
use Rattle.whole_run.specs.Parts.{parts_of}
use Rattle.whole_run.proofs.Right.{right}
use Rattle.render_call.specs.Calls.{to_args, run_refusal}
use Rattle.render_call.specs.Whole.{Runnable}
use Rattle.render_call.specs.declared.RenderArgs.{RenderArgs}
use Rattle.rowcheck.proofs.Pending.{stop_in}

-- what is read from is not behind the next row
pub reads_low : (ls : List OpenRow) (n : ℕ) → reads_from ls n ≤ n
reads_low [] n = omega arith
reads_low (l ∷ ls) n = go (ltb l.row n) refl
  where
    go : (b : Bool) → ltb l.row n ≡ b → cond b l.row n ≤ n
    go true e = let h = ltb-true l.row n e in omega arith
    go false e = omega arith

pub record Accepted (source image : List ℕ) (z : states.RenderState) (args : RenderArgs) (store marks : List ℕ) : Type 0 where
  pub by_rule : wrong_place_by args.rule source image store (read_from z) args.stop ≡ None
  pub right : wrong_place source image store (read_from z) args.stop ≡ None
  pub within : args.stop * PLACES ≤ length store
  pub few : args.stop ≤ MAX_ROWS
  pub from : read_from z ≤ z.row
  pub ahead : z.row ≤ args.stop
  pub indent : z.pen.indent ≤ MAX_INDENT
  pub next : z.pen.next_indent ≤ MAX_INDENT
  pub column : z.pen.column.0 ≤ MAX_COLUMN
  pub in_use : z.in_use ≤ length marks
  pub even : odd_mark (take z.in_use marks) ≡ false
  pub enough : marks_needed (args.stop - read_from z) store (read_from z) ≤ length marks
  pub few_listed : length z.listed ≤ MAX_LISTED
  pub those : listed_those (view_of store) z.listed z.row ≡ true
  pub closable : can_close_all (view_of store) z.listed z.pen ≡ true

pub accepted : (source image : List ℕ) (z : states.RenderState) (args : RenderArgs) (store marks : List ℕ)
    → run_refusal source image args z store marks ≡ None → Accepted source image z args store marks
accepted source image z args store marks e =
    let told = before_told (parts_of source image) (to_args args 0) z store marks e in
    let fits = told.checked.fits in
    let rows = right_by args.rule source image store (read_from z) args.stop told.checked.right in
    record {
      by_rule = told.checked.right;
      right = rows;
      within = (stop_in source image store (read_from z) args.stop rows).0;
      few = (stop_in source image store (read_from z) args.stop rows).1;
      from = reads_low z.listed z.row;
      ahead = fits.row.not_past;
      indent = fits.pen.indent;
      next = fits.pen.next_indent;
      column = fits.pen.column;
      in_use = fits.used.there;
      even = fits.used.even;
      enough = told.marks_enough;
      few_listed = told.checked.listed.few;
      those = told.checked.listed.those;
      closable = told.checked.listed.closable;
    }

module _ (source image : List ℕ) (z : states.RenderState) (args : RenderArgs) (store marks : List ℕ) (a : Accepted source image z args store marks) where
  pub in_order : read_from z ≤ args.stop
  in_order = (let x = a.from in let y = a.ahead in omega arith)

  pub places_right : (k : ℕ) → read_from z ≤ k → k < args.stop → places_fit source image store k ≡ true
  places_right k p q =
      fits_by args.rule source image store k ((right args.rule source image store (read_from z) args.stop in_order a.by_rule).places k p q)

  pub nests : Nests (view_of store) (read_from z) args.stop 0
  nests =
      accepted_nests (places_fit source image store) (view_of store) args.stop 0 (read_from z)
      (sym (stop_fits source image store (read_from z) args.stop a.few a.within) ∙ a.right)
      in_order

  pub runnable : Runnable source image z args store
  runnable =
      record {
        room = a.within;
        few = a.few;
        nests = nests;
        ahead = a.ahead;
        indent = a.indent;
        next_indent = a.next;
        column = a.column;
        few_listed = a.few_listed;
        those = a.those;
        closable = a.closable;
        unturned = unturned source image store (read_from z) args.stop places_right;
      }
