-- The rows that an accepted rendering call lists are rows before its stop, and no more than can be open: so its state fits an array, and each of
-- their numbers has 32 bits. What is listed of numbers, is read back from them.
-- Assumes nothing.
use mathlib.Core.Path.{◌≡◌, refl, sym, ap, ap₂, subst, ◌∙◌}
use Rattle.std.specs.Prelude.{None}
use mathlib.Core.List.{List, [], ◌∷◌, ◌++◌, map}
use Prim.Native.Nat.{ℕ, zero, suc, ◌+◌, ◌≤◌, ◌<◌}
use native.Mathlib.Omega.{arith}
use native.Mathlib.Decide.{dec_lt}
use lib.ListN.{length, take, length-append, length-map, length-take}
use lib.Seq.{take-append_seam}
use Rattle.refusals.proofs.Groups.{passes_left}
use Rattle.rows.specs.Limits.{MAX_ROWS}
use Rattle.rows.specs.View.{View, view_of}
use Rattle.renderer_rules.specs.declared.Frame.{Frame}
use Rattle.renderer_rules.specs.Frames.{frame_at, Under}
use Rattle.renderer_rules.specs.Machine.{Machine}
use Rattle.renderer_rules.specs.Renderer.{Page}
use Rattle.renderer_rules.specs.Stops.{OpenRow, Stop, listed_as, listed_rows}
use Rattle.renderer_rules.proofs.Machine.{left}
use Rattle.renderer_rules.proofs.Allot.{allot}
use Rattle.renderer_rules.proofs.Stopped.{Stops, allot_stops}
use Rattle.listed_rows.specs.Numbers.{row_number, open_row}
use Rattle.listed_rows.proofs.Numbers.{numbers_rows, number_low}
use Rattle.cut_rule.specs.Entries.{render_gives}
use Rattle.cut_rule.specs.Parts.{before_text, text_line}
use Rattle.cut_rule.specs.States as states
use Rattle.whole_run.specs.Parts.{renderer_of, page, open_rows, parts_of, stopped}
use Rattle.whole_run.specs.Demands.{rules_of}
use Rattle.render_call.specs.Calls.{listed_of, goes_to, to_args}
use Rattle.render_call.specs.Whole.{Runnable}
use Rattle.render_call.specs.declared.RenderArgs.{RenderArgs}
use Rattle.render_call.proofs.Accepted.{accepted, runnable}
use Rattle.render_call.proofs.Opening.{listed_few}
use Rattle.render_call.proofs.Resumes.{at_open}
use Rattle.exports.specs.Numbers.{listed_number}

-- ---- numbers of rows
pub all_back : (ls : List OpenRow) → map open_row (map row_number ls) ≡ ls
all_back [] = refl
all_back (l ∷ ls) = ap₂ (λ (x : OpenRow) (xs : List OpenRow). x ∷ xs) (numbers_rows.0 l) (all_back ls)

-- the first numbers of a list that begins with those of some rows
pub first_numbers : (ls : List OpenRow) (more : List ℕ) → take (length ls) (map row_number ls ++ more) ≡ map row_number ls
first_numbers ls more =
    ap (λ (n : ℕ). take n (map row_number ls ++ more)) (sym (length-map ls row_number)) ∙ take-append_seam (map row_number ls) more

pub listed_back : (ls : List OpenRow) (more : List ℕ) → listed_of (length ls) (map row_number ls ++ more) ≡ ls
listed_back ls more =
    listed_few (map row_number ls ++ more) (length ls) (omega (arith, length-append (map row_number ls) more, length-map ls row_number))
    ∙ ap (map open_row) (first_numbers ls more)
    ∙ all_back ls

-- ---- the rows that are listed
pub record InArray (ls : List OpenRow) : Type 0 where
  pub few : length ls ≤ 256
  pub uncut : map listed_number (map row_number ls) ≡ map row_number ls

low_number : (f : Frame) → f.row < MAX_ROWS → listed_number (row_number (listed_as f)) ≡ row_number (listed_as f)
low_number f h = let l = number_low f h in omega arith

all_low : (fs : List Frame) (d : ℕ) → ((j : ℕ) → j < d → (frame_at fs j).row < MAX_ROWS)
    → map listed_number (map row_number (map listed_as (take d fs))) ≡ map row_number (map listed_as (take d fs))
all_low [] zero h = refl
all_low [] (suc d) h = refl
all_low (f ∷ fs) zero h = refl
all_low (f ∷ fs) (suc d) h =
    ap₂ (λ (x : ℕ) (xs : List ℕ). x ∷ xs) (low_number f (h 0 (omega arith))) (all_low fs d (λ j l. h (suc j) (omega arith)))

open_low : (v : View) (stop : ℕ) (fs : List Frame) (d : ℕ) → Under v stop fs d → (j : ℕ) → j < d → (frame_at fs j).row < stop
unfolding Under
open_low v stop fs zero u j h = absurd (omega arith)
open_low v stop fs (suc d) u j h = go (dec_lt j d) (open_low v stop fs d u.1 j)
  where
    go : Dec (j < d) → (j < d → (frame_at fs j).row < stop) → (frame_at fs j).row < stop
    go (yes l) rec = rec l
    go (no l) rec = let e : d ≡ j = omega arith in subst (λ (k : ℕ). (frame_at fs k).row < stop) e u.0.row

frames_fit : (fs : List Frame) (d : ℕ) → d ≤ 256 → ((j : ℕ) → j < d → (frame_at fs j).row < MAX_ROWS) → InArray (listed_rows fs d)
unfolding listed_rows
frames_fit fs d deep low = record {
  few = omega (arith, length-map (take d fs) listed_as, length-take d fs);
  uncut = all_low fs d low;
}

module _ (s b : List ℕ) (z : states.RenderState) (args : RenderArgs) (store marks : List ℕ) (x : Runnable s b z args store) where
  abbrev v : View
  v = view_of store

  abbrev pg : Page
  pg = page (goes_to args).choice s b

  -- the machine goes on from the state
  abbrev machine : Machine
  machine = record { frames = open_rows v z; depth = length z.listed; next = z.row; state = renderer_of z.pen marks; entered = 0 }

  abbrev halted : Machine
  halted = allot v pg args.stop (left args.stop machine) (0 + args.allotment) machine

  stop_fits : InArray (stopped s b z (goes_to args) args.allotment marks store).listed
  stop_fits =
      let t : Stops v pg args.stop args.allotment machine halted =
      allot_stops v pg args.stop (left args.stop machine) args.allotment machine (at_open s b z args store x) (omega arith) in
      let low = open_low v args.stop halted.frames halted.depth t.fine.under in
      let few = x.few in
      subst InArray (ap (λ (e : Stop). e.listed) t.stops)
      (frames_fit halted.frames halted.depth t.fine.deep (λ j h. let l = low j h in omega arith))

pub given_fits : (s b : List ℕ) (z : states.RenderState) (args : RenderArgs) (room : ℕ) (store marks : List ℕ)
    → (rules_of s b).render_refusal (to_args args room) z store marks ≡ None
    → InArray (render_gives (rules_of s b) (to_args args room) z store marks).state.listed
given_fits s b z args room store marks e =
    let P = parts_of s b in
    let q = to_args args room in
    let a = accepted s b z args store marks (passes_left (before_text P q z store marks) (text_line P q z store marks) e) in
    stop_fits s b z args store _ (runnable s b z args store marks a)
