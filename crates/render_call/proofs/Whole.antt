-- A rendering call by its three ends: refused before the run, too long a text, written.
-- Assumes nothing.
use mathlib.Core.Path.{◌≡◌, refl, sym, ap, ◌∙◌}
use Rattle.std.specs.Prelude.{Option, None, Some, Ok, Err}
use mathlib.Core.List.{List, [], ◌∷◌, map}
use Prim.Native.Nat.{ℕ, ◌≤◌, ◌<◌}
use lib.ListN.{length}
use lib.Dec.{ltb}
use borrow.Author.Tests.{lt-ltb, le-ltb}
use Rattle.refusals.specs.Refusals.{Refusal, unless, first, refuse_if}
use Rattle.refusals.specs.Answers.{accepted, answer_by}
use Rattle.refusals.proofs.Groups.{refuses_left, left_to}
use Rattle.cut_rule.specs.Rules.{RenderResult}
use Rattle.cut_rule.specs.Run.{write_front, CallResult, written}
use Rattle.cut_rule.specs.Entries.{render_gives}
use Rattle.cut_rule.specs.States as states
use Rattle.rows.specs.declared.units.Bytes.{Bytes}
use Rattle.cut_rule.specs.Parts.{bytes_needed, before_text, text_line, render_table}
use Rattle.listed_rows.specs.Numbers.{row_number}
use Rattle.whole_run.specs.Parts.{parts_of}
use Rattle.whole_run.specs.Demands.{rules_of}
use Rattle.rows.specs.declared.units.Columns.{Columns}
use Rattle.render_call.specs.Calls.{to_state, to_args, run_refusal}
use Rattle.render_call.specs.Whole.{widest_due, Draws}
use Rattle.render_call.specs.declared.RenderState.{RenderState}
use Rattle.render_call.specs.declared.RenderArgs.{RenderArgs}
use Rattle.refusals.specs.declared.Reason.TheVariants as reason
use Rattle.refusals.specs.declared.Refused.{Refused}
use Rattle.refusals.specs.Reasons.{refusal}

module _ (s b : List ℕ) (z : states.RenderState) (args : RenderArgs) (store marks out listed : List ℕ) where
  -- the table, for this call
  abbrev table : Option Refusal
  table = first (render_table (parts_of s b) (to_args args (length out)) z store marks)

  -- the bytes that this call's text has
  abbrev pub bytes : ℕ
  bytes = bytes_needed (parts_of s b) (to_args args (length out)) z store marks

  -- its lines before the text is counted, and 10
  abbrev before : List (Option Refusal)
  before = before_text (parts_of s b) (to_args args (length out)) z store marks

  abbrev behind : List (Option Refusal)
  behind = text_line (parts_of s b) (to_args args (length out)) z store marks

  -- what this call gives
  abbrev gives : RenderResult states.RenderState
  gives = render_gives (rules_of s b) (to_args args (length out)) z store marks

  refused_by : (r : Refused) → table ≡ Some (refusal r) → Draws s b z args store marks out listed (Err r) store marks out listed
  refused_by r e =
      record {
        called = record {
          answer = ap (λ (t : Option Refusal). answer_by {A = CallResult (rules_of s b)} t (written gives.state (length gives.text) gives.entered)) (sym e);
          store_left_of = refl;
          marks_left_of = ap (λ (t : Option Refusal). unless t marks (write_front gives.marks marks)) (sym e);
          output_left_of = ap (λ (t : Option Refusal). unless t out (write_front gives.text out)) (sym e);
          list_left_of = ap (λ (t : Option Refusal). unless t listed (write_front (map row_number gives.state.listed) listed)) (sym e);
        };
        widest = ap (λ (t : Option Refusal). unless t 0 (widest_due s b z args store marks)) (sym e);
      }

  -- refused before the run
  pub ends_early : (r : Refused) → run_refusal s b args z store marks ≡ Some (refusal r)
      → Draws s b z args store marks out listed (Err r) store marks out listed
  ends_early r e = refused_by r (refuses_left _ before behind e)

  last : run_refusal s b args z store marks ≡ None → table ≡ first (refuse_if (ltb (length out) bytes) 10 bytes ∷ [])
  last e = left_to before behind e

  -- a text longer than the output
  pub ends_full : (n : ℕ) → run_refusal s b args z store marks ≡ None → n ≡ bytes → length out < n
      → Draws s b z args store marks out listed (Err (record { reason = reason.BytesNeeded; place = n })) store marks out listed
  ends_full n e f h =
      refused_by _
      (last e ∙ ap (λ (m : ℕ). first (refuse_if (ltb (length out) m) 10 m ∷ [])) (sym f) ∙ ap (λ t. first (refuse_if t 10 n ∷ [])) (lt-ltb (length out) n h))

  -- a text that has room
  pub ends_written : (t : RenderState) (n : Bytes) (k : ℕ) (c : Columns) (marks2 out2 listed2 : List ℕ) → run_refusal s b args z store marks ≡ None
      → n.0 ≡ bytes → n.0 ≤ length out → to_state t listed2 ≡ gives.state
      → k ≡ gives.entered → listed2 ≡ write_front (map row_number gives.state.listed) listed
      → marks2 ≡ write_front gives.marks marks → out2 ≡ write_front gives.text out
      → c.0 ≡ widest_due s b z args store marks
      → Draws s b z args store marks out listed (Ok (record { written = record { state = t; bytes = n; entered = k }; widest = c })) store marks2 out2 listed2
  ends_written t n k c marks2 out2 listed2 e f h g i l m o w =
      record {
        called = record {
          answer =
              (λ j. accepted (written (g j) (f j) (i j)))
              ∙ ap (λ (y : Option Refusal). answer_by {A = CallResult (rules_of s b)} y (written gives.state (length gives.text) gives.entered))
              (sym none_left);
          store_left_of = refl;
          marks_left_of = m ∙ ap (λ (y : Option Refusal). unless y marks (write_front gives.marks marks)) (sym none_left);
          list_left_of = l ∙ ap (λ (y : Option Refusal). unless y listed (write_front (map row_number gives.state.listed) listed)) (sym none_left);
          output_left_of = o ∙ ap (λ (y : Option Refusal). unless y out (write_front gives.text out)) (sym none_left);
        };
        widest = w ∙ ap (λ (y : Option Refusal). unless y 0 (widest_due s b z args store marks)) (sym none_left);
      }
    where
      none_left : table ≡ None
      none_left =
          last e
          ∙ ap (λ (m : ℕ). first (refuse_if (ltb (length out) m) 10 m ∷ [])) (sym f)
          ∙ ap (λ y. first (refuse_if y 10 n.0 ∷ [])) (le-ltb (length out) n.0 h)
