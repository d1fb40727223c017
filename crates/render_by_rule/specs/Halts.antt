-- Rows rendered by a rule of widths, from any stop, with an allotment: where it halts, by the rules (renderer_rules/specs/Stops.antt).
use Rattle.std.specs.Prelude.{ℕ, ◌≤◌, ◌<◌, min, ◌≡◌, List, [], length, get_or}
use Rattle.rows.specs.Limits.{MAX_ROWS, MAX_DEPTH}
use Rattle.rows.specs.View.{View, view_of}
use Rattle.renderer_rules.specs.Renderer.{Page}
use Rattle.renderer_rules.specs.Frames.{frame_at, AllLie}
use Rattle.renderer_rules.specs.Stops.{Stop, stop_at, listed_rows, ahead, meaning}
use Rattle.renderer.specs.declared.run.Renderer.{Renderer as Held}
use Rattle.renderer.specs.Run.{state_of, Wrote, Lent}

-- the rows that are left, and the open ones, lie from row `from` on
pub record LiesFrom (store : List ℕ) (from : ℕ) (r : Held) : Type 0 where
  pub next : from ≤ r.next
  pub frames : AllLie (view_of store) from r.frames.items r.frames.depth

-- the stops ahead of a run that wrote nothing yet, and where it would end
abbrev pub stops_by : Page → View → ℕ → Held → List Stop
stops_by pg v stop r = ahead v pg stop r.frames.items r.frames.depth r.next (state_of r.writing r.marks.now [])

abbrev pub end_by : Page → View → ℕ → Held → Stop
end_by pg v stop r = stop_at stop [] (meaning v pg stop r.frames.items r.frames.depth r.next (state_of r.writing r.marks.now []))

-- where the run halted, and how many rows it entered: after as many as it might enter, or at the end
pub record HaltedBy (pg : Page) (v : View) (stop allotment : ℕ) (r q : Held) (n : ℕ) : Type 0 where
  pub text : List ℕ
  pub stops :
      stop_at q.next (listed_rows q.frames.items q.frames.depth) (state_of q.writing q.marks.now text)
      ≡ get_or (stops_by pg v stop r) allotment (end_by pg v stop r)
  pub count : n ≡ min allotment (length (stops_by pg v stop r))
  pub wrote : Wrote (length r.out.now) r.out.now q.out.now q.writing.at.0 text
  pub lent : Lent r q
  pub size : length q.frames.items ≡ MAX_DEPTH
  pub deep : q.frames.depth ≤ MAX_DEPTH
  pub rows : (j : ℕ) → j < q.frames.depth → (frame_at q.frames.items j).row < MAX_ROWS
