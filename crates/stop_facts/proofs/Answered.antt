-- What holds of a stop, from every state that the lines before the room's let pass.
-- Assumes nothing.
use mathlib.Core.Path.{◌≡◌, sym, ap, subst, ◌∙◌}
use mathlib.Core.Bool.{true, false}
use mathlib.Core.List.{List}
use Prim.Native.Nat.{ℕ, ◌+◌, ◌*◌, ◌≤◌}
use native.Mathlib.Omega.{arith}
use lib.ListN.{length, take, length-map, length-take}
use Rattle.rows.specs.Limits.{MAX_DEPTH}
use Rattle.rows.specs.View.{View, view_of}
use Rattle.rows.proofs.Nested.{nests_le}
use Rattle.renderer_rules.specs.Limits.{ROW_GROWTH}
use Rattle.renderer_rules.specs.Renderer.{Page}
use Rattle.renderer_rules.specs.Machine.{Machine}
use Rattle.renderer_rules.specs.Safe.{SmallTexts, steps, ins}
use Rattle.renderer_rules.specs.Stops.{Stop, listed_as, listed_rows}
use Rattle.renderer_rules.specs.Listed.{reads_from, listed_those, can_close_all}
use Rattle.renderer_rules.proofs.Held.{safe_down}
use Rattle.renderer_rules.proofs.Safe.{steps_le}
use Rattle.renderer_rules.proofs.Machine.{left}
use Rattle.renderer_rules.proofs.Allot.{allot}
use Rattle.renderer_rules.proofs.Stopped.{stop_of, Stops, allot_stops}
use Rattle.cut_rule.specs.Rules.{RenderTo}
use Rattle.cut_rule.specs.States.{RenderChoice, RenderState}
use Rattle.cut_rule.specs.Tests.{odd_mark}
use Rattle.cut_rule.specs.Parts.{read_from}
use Rattle.whole_run.specs.Parts.{page, stopped}
use Rattle.stop_facts.proofs.Turns.{Ended, allot_ended}
use Rattle.stop_facts.proofs.OpenRows.{those}
use Rattle.stop_facts.proofs.Listed.{encloses, can_listed, ReadsAt, reads_at}
use Rattle.stop_facts.proofs.Start.{Admitted, first_at, first_fine, base, base_low, first_runs}

-- of a stop, by the column and the margin that it began with
pub record Answered (v : View) (stop lo column margin : ℕ) (e : Stop) : Type 0 where
  pub to : e.next ≤ stop
  pub few : length e.listed ≤ MAX_DEPTH
  pub those : listed_those v e.listed e.next ≡ true
  pub closable : can_close_all v e.listed e.state.pen ≡ true
  pub margin_low : e.state.pen.indent + e.state.pen.next_indent ≤ margin + MAX_DEPTH
  pub column_low : e.state.pen.column.0 ≤ column + e.next * ROW_GROWTH
  pub even : odd_mark e.state.marks ≡ false
  pub reads : ReadsAt v lo e.next (reads_from e.listed e.next)

module _ (s b store marks : List ℕ) (q : RenderTo RenderChoice) (z : RenderState) (x : Admitted s b store q z)
    (small : SmallTexts (view_of store) (page q.choice s b)) (even : odd_mark marks ≡ false) (n : ℕ) where
  abbrev v : View
  v = view_of store

  abbrev pg : Page
  pg = page q.choice s b

  abbrev m : Machine
  m = first_at s b store marks q z x

  abbrev lo : ℕ
  lo = read_from z

  abbrev around : ℕ
  around = base s b store marks q z x

  abbrev last : Machine
  last = allot v pg q.stop (left q.stop m) (0 + n) m

  stops : Stops v pg q.stop n m last
  stops = allot_stops v pg q.stop (left q.stop m) n m (first_fine s b store marks q z x) (omega arith)

  ended : Ended v pg q.stop around z.pen.column.0 lo small (base_low s b store marks q z x) last
  ended =
      allot_ended v pg q.stop around z.pen.column.0 lo small (base_low s b store marks q z x) (left q.stop m) (0 + n) m
      (first_fine s b store marks q z x) (omega arith) (first_runs s b store marks q z x small even)

  at_last : Answered v q.stop lo z.pen.column.0 around (stop_of v pg q.stop last)
  unfolding listed_rows
  at_last =
      let a = stops.fine in
      let r = ended.runs in
      let size : last.depth ≤ length last.frames = omega (arith, a.deep, a.size) in
      let closes = encloses v q.stop pg last a ended.ends in
      let zero_on : 0 + last.depth ≡ last.depth = omega arith in
      record {
        to = omega (arith, nests_le a.good, a.low);
        few = omega (arith, length-map (take last.depth last.frames) listed_as, length-take last.depth last.frames, a.deep);
        those = those v last.next lo last.frames last.depth size r.rows closes;
        closable =
            can_listed v last.frames last.depth last.state.pen size
            (safe_down v last.frames 0 last.depth around last.state.pen
            (r.safe.sum ∙ ap (λ (k : ℕ). around + steps v last.frames k) (sym zero_on))
            (omega (arith, r.safe.low, ap (ins v last.frames) zero_on)));
        margin_low = omega (arith, r.safe.sum, steps_le v last.frames last.depth, a.deep);
        column_low = r.level.column;
        even = r.level.even;
        reads = reads_at v lo last.next last.frames last.depth size r.rows closes;
      }

  pub answered : Answered v q.stop lo z.pen.column.0 around (stopped s b z q n marks store)
  answered = subst (Answered v q.stop lo z.pen.column.0 around) stops.stops at_last
