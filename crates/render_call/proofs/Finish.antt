-- From what the run ensures to what the call does: the dry run counts the bytes needed, the run writes text, marks, state and list.
-- Assumes nothing.
use mathlib.Core.Path.{◌≡◌, refl, sym, ap, ap₂, ◌∙◌}
use Rattle.std.specs.Prelude.{None, Ok}
use mathlib.Core.List.{List, [], ◌∷◌, ◌++◌, append-nil, map}
use Prim.Native.Nat.{ℕ, ◌+◌, ◌-◌, ◌≤◌, min, max}
use native.Mathlib.Omega.{arith}
use native.Mathlib.Nat.{zero-max}
use lib.ListN.{length, drop, take, replicate, length-append, length-map}
use lib.Seq.{length-take-le}
use Rattle.rows.specs.Limits.{MAX_DEPTH}
use Rattle.rows.specs.View.{view_of}
use Rattle.renderer_rules.specs.declared.Frame.{Frame}
use Rattle.renderer_rules.specs.Stops.{OpenRow, Stop, stop_at, listed_as, listed_rows}
use Rattle.renderer.specs.Run.{state_of}
use Rattle.renderer.proofs.Outcome.{over_full}
use Rattle.listed_rows.specs.Numbers.{open_row, row_number}
use Rattle.listed_rows.proofs.Numbers.{numbers_rows}
use Rattle.cut_rule.specs.Run.{write_front}
use Rattle.cut_rule.specs.States as states
use Rattle.cut_rule.specs.Parts.{Drawn}
use Rattle.whole_run.specs.Parts.{page}
use Rattle.whole_run.proofs.StopsPast.{stop_longer}
use Rattle.render_call.specs.Calls.{listed_of, to_state, run_refusal, goes_to}
use Rattle.render_call.specs.Whole.{Draws, Halts}
use Rattle.render_call.specs.declared.RenderArgs.{RenderArgs}
use Rattle.render_call.specs.declared.run.Halt.{Halt}
use Rattle.render_call.proofs.Accepted.{Accepted}
use Rattle.render_call.proofs.Whole.{ends_written}
use Rattle.render_call.proofs.Ran.{needed, marks_in_use, gives, there, past_stop, past_count, marks_onto}

-- ---- what is written over a list is read back
take_front : {A : Type 0} (xs ys : List A) → take (length xs) (xs ++ ys) ≡ xs
take_front [] ys = refl
take_front (x ∷ xs) ys = ap (λ l. x ∷ l) (take_front xs ys)

all_back : (l : List OpenRow) → map open_row (map row_number l) ≡ l
all_back [] = refl
all_back (x ∷ l) = ap₂ (λ (a : OpenRow) (b : List OpenRow). a ∷ b) (numbers_rows.0 x) (all_back l)

as_listed : (l : List OpenRow) (n : ℕ) (old new : List ℕ) → length l ≡ n → n ≤ length old → new ≡ write_front (map row_number l) old → listed_of n new ≡ l
unfolding listed_of
as_listed l n old new e h f =
    let xs = map row_number l in
    let k : length xs ≡ n = length-map l row_number ∙ e in
    let s : length new ≡ length xs + length (drop (length xs) old) = ap length f ∙ length-append xs (drop (length xs) old) in
    let z : n - length new ≡ 0 = omega arith in
    ap₂ (λ (a b : List ℕ). map open_row (a ++ b)) (ap₂ take (sym k) f ∙ take_front xs (drop (length xs) old)) (ap (λ (m : ℕ). replicate m 0) z)
    ∙ ap (map open_row) (append-nil xs)
    ∙ all_back l

rows_count : (fs : List Frame) (d : ℕ) → d ≤ length fs → length (listed_rows fs d) ≡ d
unfolding listed_rows
rows_count fs d h = length-map (take d fs) listed_as ∙ length-take-le d fs h

module _ (source image : List ℕ) (z : states.RenderState) (args : RenderArgs) (store marks : List ℕ) (a : Accepted source image z args store marks)
    (out : List ℕ) (h : Halt) (store2 marks2 out2 : List ℕ) (past : List ℕ)
    (r : Halts source image z args store (marks_in_use source image z args store marks a ++ past) out h store2 marks2 out2) where
  abbrev e : Stop
  e = there source image z args store marks a

  stop_is : stop_at h.next (listed_rows h.frames.items h.frames.depth) (state_of h.writing marks2 r.text)
      ≡ stop_longer [] past 0 (view_of store) (page (goes_to args).choice source image) e
  stop_is = r.stops ∙ past_stop source image z args store marks a past

  pub row_is : h.next ≡ e.next
  row_is = ap (λ (s : Stop). s.next) stop_is

  pub rows_are : listed_rows h.frames.items h.frames.depth ≡ e.listed
  rows_are = ap (λ (s : Stop). s.listed) stop_is

  pub pen_is : h.writing.pen ≡ e.state.pen
  pen_is = ap (λ (s : Stop). s.state.pen) stop_is

  pub marks_are : marks2 ≡ e.state.marks ++ past
  marks_are = ap (λ (s : Stop). s.state.marks) stop_is

  pub text_is : r.text ≡ e.state.buf
  text_is = ap (λ (s : Stop). s.state.buf) stop_is

  pub widest_is : h.writing.widest.0 ≡ e.state.widest
  widest_is = ap (λ (s : Stop). s.state.widest) stop_is ∙ zero-max e.state.widest

  pub size_is : h.writing.at.0 ≡ length e.state.buf
  size_is = r.wrote.bytes ∙ ap length text_is

  pub count_is : h.entered ≡ (gives source image z args store marks a).entered
  count_is = r.count ∙ ap (min args.allotment) (past_count source image z args store marks a past)

-- the run with room enough, over the buffer in which the new marks are cleared
module _ (source image : List ℕ) (z : states.RenderState) (args : RenderArgs) (store marks : List ℕ) (a : Accepted source image z args store marks)
    (out listed : List ℕ) (h : Halt) (store2 marks2 out2 listed2 : List ℕ)
    (r : Halts source image z args store
    (marks_in_use source image z args store marks a ++ drop (length (marks_in_use source image z args store marks a)) marks) out h store2 marks2 out2)
    (there_is : length listed ≡ MAX_DEPTH)
    (l : listed2 ≡ write_front (map row_number (listed_rows h.frames.items h.frames.depth)) listed) where
  abbrev past : List ℕ
  past = drop (length (marks_in_use source image z args store marks a)) marks

  abbrev g : Drawn
  g = gives source image z args store marks a

  pub finished : (used : ℕ) → run_refusal source image args z store marks ≡ None → used ≡ max z.in_use (needed source image z args store marks a)
      → h.writing.at.0 ≤ length out
      → Draws source image z args store marks out listed
      (Ok (record {
        written = record {
          state = record {
            pen = h.writing.pen;
            in_use = used;
            row = h.next;
            width = args.width;
            rule = args.rule;
            listed_rows = h.frames.depth;
          };
          bytes = h.writing.at;
          entered = h.entered;
        };
        widest = h.writing.widest;
      }))
      store
      marks2
      out2
      listed2
  finished used e u f =
      ends_written source image z args store marks out listed _ h.writing.at h.entered h.writing.widest marks2 out2 listed2 e
      (size_is source image z args store marks a out h store2 marks2 out2 past r)
      f
      left
      (count_is source image z args store marks a out h store2 marks2 out2 past r)
      (l ∙ ap (λ (k : List OpenRow). write_front (map row_number k) listed) rows)
      (marks_are source image z args store marks a out h store2 marks2 out2 past r ∙ marks_onto source image z args store marks a)
      (r.wrote.written
      ∙ over_full (length out) out r.text (let s = r.wrote.bytes in omega arith) (omega arith)
      ∙ ap (λ (t : List ℕ). write_front t out) (text_is source image z args store marks a out h store2 marks2 out2 past r))
      (widest_is source image z args store marks a out h store2 marks2 out2 past r)
    where
      rows : listed_rows h.frames.items h.frames.depth ≡ g.listed
      rows = rows_are source image z args store marks a out h store2 marks2 out2 past r

      back : listed_of h.frames.depth listed2 ≡ g.listed
      back =
          as_listed (listed_rows h.frames.items h.frames.depth) h.frames.depth listed listed2
          (rows_count h.frames.items h.frames.depth (let s = r.size in let d = r.deep in omega arith))
          (let d = r.deep in omega arith) l
          ∙ rows

      left : to_state (record {
        pen = h.writing.pen;
        in_use = used;
        row = h.next;
        width = args.width;
        rule = args.rule;
        listed_rows = h.frames.depth;
      }) listed2 ≡ record {
        pen = g.pen;
        in_use = max z.in_use (needed source image z args store marks a);
        row = g.row;
        width = args.width.0;
        rule = args.rule;
        listed = g.listed;
      }
      left = λ i. record {
        pen = pen_is source image z args store marks a out h store2 marks2 out2 past r i;
        in_use = u i;
        row = row_is source image z args store marks a out h store2 marks2 out2 past r i;
        width = args.width.0;
        rule = args.rule;
        listed = back i;
      }
