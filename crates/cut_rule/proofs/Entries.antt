-- The entries, as their contracts describe them and with what their caller hands on, make the run of the cut rule: refused or accepted, each
-- field is the same.
-- Assumes nothing.
use mathlib.Core.Path.{◌≡◌, refl, ap}
use Rattle.std.specs.Prelude.{Option, None, Some}
use mathlib.Core.List.{List, ◌++◌, append-nil}
use Prim.Native.Nat.{ℕ, ◌*◌}
use lib.ListN.{length, drop}
use lib.Seq.{take-append_seam}
use Rattle.rows.specs.Places.{PLACES}
use Rattle.refusals.specs.Refusals.{Refusal, unless}
use Rattle.refusals.specs.Answers.{answer_by}
use Rattle.cut_rule.specs.Rules.{LayoutArgs, RenderArgs, Rules}
use Rattle.cut_rule.specs.Run.{write_front, write_at, Call, layout_call, render_call, Carried, accepted, call, laid_out, written}
use Rattle.cut_rule.specs.Entries.{layout_next, render_next, left_next, written_of, render_gives, entry_call}

module _ (R : Rules) (w : Carried R) (out : List ℕ) where
  layout_same : (q : LayoutArgs R.LayoutChoice) → entry_call R w out (layout_call q) ≡ call R w (layout_call q)
  layout_same q = go (R.layout_refusal q w.layout_state_of w.store)
    where
      go : (o : Option Refusal) → ◌≡◌ {A = Carried R} (record {
        store = unless o w.store (write_at (PLACES * R.next_row w.layout_state_of) (R.layout w.layout_state_of q).rows w.store);
        marks = w.marks;
        layout_state_of = layout_next R (answer_by o (laid_out (R.layout w.layout_state_of q).state (R.layout w.layout_state_of q).left)) w.layout_state_of;
        render_state_of = w.render_state_of;
        text = w.text;
        left = left_next R (answer_by o (laid_out (R.layout w.layout_state_of q).state (R.layout w.layout_state_of q).left)) w.left;
      }) (unless o w (accepted R w (layout_call q)))
      go (Some r) = refl
      go None = refl

  abbrev with_text : Carried R → List ℕ → Carried R
  with_text v t = record { store = v.store; marks = v.marks; layout_state_of = v.layout_state_of; render_state_of = v.render_state_of; text = t; left = v.left }

  render_same : (q : RenderArgs R.RenderChoice) → entry_call R w out (render_call q) ≡ call R w (render_call q)
  render_same q = go (R.render_refusal q w.render_state_of w.store w.marks)
    where
      new : Carried R
      new = accepted R w (render_call q)

      txt : List ℕ
      txt = (render_gives R q w.render_state_of w.store w.marks).text

      count : ℕ
      count = (render_gives R q w.render_state_of w.store w.marks).entered

      go : (o : Option Refusal) → ◌≡◌ {A = Carried R} (record {
        store = w.store;
        marks = unless o w.marks new.marks;
        layout_state_of = w.layout_state_of;
        render_state_of = render_next R (answer_by o (written new.render_state_of (length txt) count)) w.render_state_of;
        text = w.text ++ written_of R (answer_by o (written new.render_state_of (length txt) count)) (unless o out (write_front txt out));
        left = w.left;
      }) (unless o w (accepted R w (render_call q)))
      go (Some r) = ap (with_text w) (append-nil w.text)
      go None = ap (λ (t : List ℕ). with_text new (w.text ++ t)) (take-append_seam txt (drop (length txt) out))

  pub entries_are_calls : (c : Call R) → entry_call R w out c ≡ call R w c
  entries_are_calls (layout_call q) = layout_same q
  entries_are_calls (render_call q) = render_same q
