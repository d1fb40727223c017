-- The run reads and writes no mark behind those that its rows need: over the whole buffer it gives what the call gives over the marks in use.
-- Assumes nothing.
use mathlib.Core.Path.{◌≡◌, refl, sym, ap, ap₂, ◌∙◌}
use mathlib.Core.List.{List, [], ◌++◌, map}
use Prim.Native.Nat.{ℕ, ◌+◌, ◌-◌, ◌≤◌, ◌<◌}
use native.Mathlib.Omega.{arith}
use lib.ListN.{length, get_or, take, drop, replicate, length-append, length-replicate, length-map}
use Rattle.image.specs.Read.{read_earlier}
use Rattle.rows.specs.Kinds.{CALL}
use Rattle.rows.specs.View.{View, view_of, nodes_at}
use Rattle.renderer_rules.specs.Renderer.{Page, Renderer}
use Rattle.renderer_rules.specs.Stops.{Stop, stop_at, ahead, meaning}
use Rattle.cut_rule.specs.Run.{write_front}
use Rattle.cut_rule.specs.States as states
use Rattle.cut_rule.specs.Parts.{Drawn, with_cleared, drawn_of, read_from}
use Rattle.marks.specs.Marks.{marks_needed}
use Rattle.whole_run.specs.Parts.{parts_of, renderer_of, page, open_rows, still_entered, stopped}
use Rattle.whole_run.proofs.Past.{Unders}
use Rattle.whole_run.proofs.Marks.{nodes_under, each_under}
use Rattle.whole_run.proofs.StopsPast.{longer, stop_longer}
use Rattle.whole_run.proofs.StopsOn.{ahead_long}
use Rattle.whole_run.proofs.StopParts.{get_map}
use Rattle.whole_run.proofs.RenderParts.{render_parts}
use Rattle.render_call.specs.Calls.{goes_to}
use Rattle.render_call.specs.declared.RenderArgs.{RenderArgs}
use Rattle.render_call.proofs.Accepted.{Accepted, runnable, in_order}
use Rattle.render_call.proofs.Resumes.{low, at_open, all_lie}

enough_cleared : (m : List ℕ) (n : ℕ) → n ≤ length (m ++ replicate (n - length m) 0)
enough_cleared m n =
    let new : List ℕ = replicate (n - length m) 0 in
    let e : length (m ++ new) ≡ length m + length new = length-append m new in
    let f : length new ≡ n - length m = length-replicate (n - length m) 0 in
    omega arith

module _ (source image : List ℕ) (z : states.RenderState) (args : RenderArgs) (store marks : List ℕ) (a : Accepted source image z args store marks) where
  abbrev v : View
  v = view_of store

  abbrev pg : Page
  pg = page (goes_to args).choice source image

  abbrev pub needed : ℕ
  needed = marks_needed (args.stop - read_from z) store (read_from z)

  -- the marks in use, "the new ones cleared first"
  abbrev pub marks_in_use : List ℕ
  marks_in_use = with_cleared (parts_of source image) (take z.in_use marks) needed

  abbrev pub gives : Drawn
  gives = drawn_of (parts_of source image) z (goes_to args) args.allotment (take z.in_use marks) store

  -- where the call stops, over the marks in use alone
  abbrev pub there : Stop
  there = stopped source image z (goes_to args) args.allotment marks_in_use store

  under : (i j : ℕ) → read_from z ≤ i → j ≤ args.stop → Unders (length marks_in_use) (nodes_at v i j)
  under i j h k =
      nodes_under store (args.stop - read_from z) (read_from z) i j (length marks_in_use) (enough_cleared (take z.in_use marks) needed) h
      (let x = in_order source image z args store marks a in omega arith)

  second : (i : ℕ) → read_from z ≤ i → i < args.stop → v.kind i ≡ CALL → v.number2 i < length marks_in_use
  unfolding view_of
  second i h k c =
      let x =
      each_under (args.stop - read_from z) store (read_from z) (length marks_in_use) (enough_cleared (take z.in_use marks) needed) i h (omega arith) in
      let y = rw c at x in
      omega arith

  module _ (past : List ℕ) where
    both : (ahead v pg args.stop (open_rows v z) (length z.listed) z.row (longer [] past 0 v pg (renderer_of z.pen marks_in_use))
        ≡ map (stop_longer [] past 0 v pg) (still_entered source image z (goes_to args) marks_in_use store))
        × (meaning v pg args.stop (open_rows v z) (length z.listed) z.row (longer [] past 0 v pg (renderer_of z.pen marks_in_use))
        ≡ longer [] past 0 v pg (meaning v pg args.stop (open_rows v z) (length z.listed) z.row (renderer_of z.pen marks_in_use)))
    both =
        let x = runnable source image z args store marks a in
        let at = at_open source image z args store x in
        ahead_long [] past 0 v pg (read_from z) args.stop (length marks_in_use) under second (open_rows v z) (length z.listed) z.row
        (renderer_of z.pen marks_in_use) at.under at.low (low source image z args store x) (all_lie source image z args store x) refl

    pub past_stop : stopped source image z (goes_to args) args.allotment (marks_in_use ++ past) store ≡ stop_longer [] past 0 v pg there
    past_stop =
        ap₂ (λ (l : List Stop) (r : Renderer). get_or l args.allotment (stop_at args.stop [] r)) both.0 both.1
        ∙ get_map (stop_longer [] past 0 v pg) (still_entered source image z (goes_to args) marks_in_use store) args.allotment _

    pub past_count : length (still_entered source image z (goes_to args) (marks_in_use ++ past) store)
        ≡ length (still_entered source image z (goes_to args) marks_in_use store)
    past_count = ap length both.0 ∙ length-map (still_entered source image z (goes_to args) marks_in_use store) (stop_longer [] past 0 v pg)

  -- what the run leaves of the marks is as many as it took up, so with the buffer's own behind them the buffer is as the call leaves it
  pub marks_onto : gives.marks ++ drop (length marks_in_use) marks ≡ write_front gives.marks marks
  marks_onto =
      ap (λ (n : ℕ). gives.marks ++ drop n marks)
      (sym ((render_parts source image (read_earlier source image)).draw_marks z (goes_to args) args.allotment marks_in_use store))
