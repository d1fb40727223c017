-- Request 13, its sentence with allotments, over the rules: "With allotments, the state handed on and the row's range unchanged, it is said when the
-- row finishes." A row that one call enters another may finish. Between them it is said of the pen that would be left if the rows listed from this
-- one down were closed where the state stands: every call keeps that pen's sum, and none lowers its `indent`.
use Rattle.std.specs.Prelude.{ℕ, zero, suc, ◌+◌, ◌-◌, ◌≤◌, ◌<◌, ◌≡◌, Bool, List, [], ◌∷◌, ◌++◌, map, length, get_or, take, drop, None}
use Rattle.rows.specs.Places.{PLACES}
use Rattle.rows.specs.View.{View, view_of, cell, nodes_at, node_at}
use Rattle.rows.specs.Nesting.{Nests}
use Rattle.renderer_rules.specs.declared.Frame.{Frame}
use Rattle.renderer_rules.specs.declared.Pen.{Pen}
use Rattle.renderer_rules.specs.Renderer.{Page, Renderer, render_node, render_nodes}
use Rattle.renderer_rules.specs.Frames.{frame_at, part_limit, wrap_at}
use Rattle.renderer_rules.specs.Machine.{closing}
use Rattle.renderer_rules.specs.Stops.{OpenRow, Stop, within, ahead, meaning}
use Rattle.renderer_rules.specs.Drift.{around, AllStops}
use Rattle.renderer_rules.specs.Listed.{closed_all}
use Rattle.renderer_rules.specs.Check.{wrong_place_by}
use Rattle.cut_rule.specs.Rules.{RenderTo, RenderArgs}
use Rattle.cut_rule.specs.States.{RenderChoice, RenderState}
use Rattle.cut_rule.specs.Parts.{with_cleared, read_from, listed_line}
use Rattle.whole_run.specs.Parts.{renderer_of, page, open_rows, still_entered, all_rendered, parts_of}
use Rattle.whole_run.specs.Demands.{rules_of}

-- `indent` plus `next_indent`
abbrev pub sum_of : Pen → ℕ
sum_of p = p.indent + p.next_indent

-- "`indent` plus `next_indent` is what it was before, `indent` is no smaller"
pub record PenMarginKept (p q : Pen) : Type 0 where
  pub sum : sum_of q ≡ sum_of p
  pub low : p.indent ≤ q.indent

-- ---- a row that a state lists
-- the row that a state lists at place d; its next row, where it lists just d
abbrev pub listed_row : RenderState → ℕ → ℕ
listed_row z d = get_or (map (λ l. l.row) z.listed) d z.row

-- row i is listed behind d others, or is next behind just d
pub record RowAt (i d : ℕ) (z : RenderState) : Type 0 where
  pub deep : d ≤ length z.listed
  pub row : listed_row z d ≡ i

-- row i is listed behind d others: it is entered and not done
pub record StillOpen (i d : ℕ) (z : RenderState) : Type 0 where
  pub deep : d < length z.listed
  pub row : listed_row z d ≡ i

-- a state right behind a row that ends before row j and stood behind d listed ones
pub record StopsBehind (j d : ℕ) (z : RenderState) : Type 0 where
  pub next : z.row ≡ j
  pub listed : length z.listed ≡ d

-- the pen that is left if the rows listed from the d-th on are closed where the state stands, innermost first and with no further row
abbrev pub left : View → ℕ → RenderState → Pen
left v d z = closed_all v (drop d z.listed) z.pen

-- A state within a row that stands behind d others, where the pen was p before: what closing would leave, and "the sum is at most that before plus the
-- rows, from this one down, that enclose the entered one".
pub record KeptWithin (v : View) (d : ℕ) (p : Pen) (z : RenderState) : Type 0 where
  pub margin : PenMarginKept p (left v d z)
  pub low : sum_of z.pen ≤ sum_of p + (length z.listed - d)

-- ---- as a row is entered
-- a stop within row i, around which the rows es are open, where the pen was p before: it lists row i and more behind es
pub record EntersKept (v : View) (i : ℕ) (es : List OpenRow) (p : Pen) (e : Stop) : Type 0 where
  pub own : OpenRow
  pub more : List OpenRow
  pub own_row : own.row ≡ i
  pub listed : e.listed ≡ es ++ (own ∷ more)
  pub margin : PenMarginKept p (closed_all v (own ∷ more) e.state.pen)
  pub low : sum_of e.state.pen ≤ sum_of p + length (own ∷ more)

-- "for each row of an accepted store, each admitted state and each width": at each row that is entered within it
abbrev pub EntryKept : Type 0
EntryKept =
    (v : View) (pg : Page) (from stop i : ℕ) → Nests v from stop 0 → from ≤ i → i < stop → (es : List OpenRow) (w : Bool) (r : Renderer)
    → AllStops (EntersKept v i es r.pen) (within v pg (node_at v i) i es w r)

-- ---- as a row is done
-- at a stop row i is the one that is listed behind d others, or the next behind d or fewer
abbrev pub Stands : ℕ → ℕ → Stop → Type 0
Stands i d e = get_or (map (λ l. l.row) e.listed) d e.next ≡ i

module _ (v : View) (pg : Page) (stop : ℕ) (fs : List Frame) where
  -- The open part of the innermost of d + 1 + k open rows is done: it and each row around it are closed, the part around rendered to its end, until
  -- the d-th is closed.
  unfoldable pub closed_to_row : ℕ → ℕ → Renderer → Renderer
  closed_to_row d zero s = closing v pg (frame_at fs d) s
  closed_to_row d (suc k) s =
      let n = suc (d + k) in
      closed_to_row d k
      (render_nodes pg (nodes_at v (v.after (frame_at fs n).row) (part_limit v stop fs n)) (wrap_at fs n) (closing v pg (frame_at fs n) s))

  -- From row i on, with d + k rows open: what stands in `Renderer` when the d-th of them is done; row i itself, where it stands behind d.
  unfoldable pub done_from : ℕ → ℕ → ℕ → Renderer → Renderer
  done_from d zero i s = render_node pg (node_at v i) (wrap_at fs d) s
  done_from d (suc k) i s =
      let n = suc (d + k) in closed_to_row d k (render_nodes pg (nodes_at v i (part_limit v stop fs n)) (wrap_at fs n) s)

module _ (s b : List ℕ) (z : RenderState) (q : RenderTo RenderChoice) (marks store : List ℕ) where
  -- the rows, the page, and the rows that the state lists as they go on
  abbrev v_of : View
  v_of = view_of store

  abbrev pg : Page
  pg = page q.choice s b

  abbrev fs : List Frame
  fs = open_rows v_of z

  -- `Renderer` as a call goes on from a state
  abbrev pub goes_on : Renderer
  goes_on = renderer_of z.pen (with_cleared (parts_of s b) marks ((parts_of s b).needed store (read_from z) q.stop))

  -- what stands in it when the row at place d is done
  abbrev pub row_done : ℕ → Renderer
  row_done d = done_from v_of pg q.stop fs d (length z.listed - d) z.row goes_on

  -- the rows entered from row i on, with d of the rows open that the state lists; and the end
  abbrev pub ahead_of : ℕ → ℕ → Renderer → List Stop
  ahead_of i d r = ahead v_of pg q.stop fs d i r

  abbrev pub end_of : ℕ → ℕ → Renderer → Renderer
  end_of i d r = meaning v_of pg q.stop fs d i r

  -- What is ahead of the state is what is entered up to the end of row i, at place d, and then what is ahead of that end, from what stands there.
  -- Up to it row i stands at its place, and behind it no more.
  pub record DoneThere (i d : ℕ) : Type 0 where
    pub before : List Stop
    pub stands : AllStops (Stands i d) before
    pub rows : still_entered s b z q goes_on.marks store ≡ before ++ ahead_of (v_of.after i) d (row_done d)
    pub not_behind : AllStops (λ e. Stands i d e → ⊥) (ahead_of (v_of.after i) d (row_done d))
    pub ends : (all_rendered s b z q goes_on.marks store).state ≡ end_of (v_of.after i) d (row_done d)

  -- the state that a call answers
  abbrev pub answered : ℕ → RenderState
  answered n = ((rules_of s b).render z q n marks store).state

  -- One call, of a row that is listed behind d others, or is next: as long as it is open, when it is done, and where the call stops right behind it.
  pub record StaysKept (n i d : ℕ) : Type 0 where
    pub within : StillOpen i d (answered n) → KeptWithin (view_of store) d (left (view_of store) d z) (answered n)
    pub done : PenMarginKept (left (view_of store) d z) (row_done d).pen
    pub there : z.row < q.stop → DoneThere i d
    pub behind : StopsBehind (v_of.after i) d (answered n) → PenMarginKept (left (view_of store) d z) (answered n).pen

-- of each call that 11 and 23 let pass, with its next row not past its stop
abbrev pub CallsKeep : Type 0
CallsKeep =
    (s b : List ℕ) (z : RenderState) (q : RenderTo RenderChoice) (marks store : List ℕ) (n i d : ℕ)
    → wrong_place_by q.choice.rule s b store (read_from z) q.stop ≡ None → listed_line z store ≡ None → z.row ≤ q.stop → RowAt i d z
    → StaysKept s b z q marks store n i d

-- ---- over calls
-- what a rendering call is lent and asks
pub record Asked : Type 0 where
  pub args : RenderArgs RenderChoice
  pub store : List ℕ
  pub marks : List ℕ

-- "the row's range unchanged": the rows from i up to j are the same in two stores, and what the others are is nothing to it
abbrev pub SameRows : ℕ → ℕ → List ℕ → List ℕ → Type 0
SameRows i j store other = (k c : ℕ) → i ≤ k → k < j → c < PLACES → cell store k c ≡ cell other k c

module _ (s b : List ℕ) where
  -- the state that a call answers; and the last, where each call is handed the state that the one before answered
  abbrev pub state_after : RenderState → Asked → RenderState
  state_after z c = answered s b z c.args.to (take z.in_use c.marks) c.store c.args.allotment

  abbrev pub state_over : RenderState → List Asked → RenderState
  state_over z [] = z
  state_over z (c ∷ cs) = state_over (state_after z c) cs

  -- an accepted call, from a state, over a store that has the range of row i as another, `rows`, has it
  pub record Goes (rows : List ℕ) (i : ℕ) (z : RenderState) (c : Asked) : Type 0 where
    pub accepted : (rules_of s b).render_refusal c.args z c.store c.marks ≡ None
    pub unchanged : SameRows i ((view_of rows).after i) rows c.store

  -- accepted calls, each with the state that the one before answered, and each leaves row i open
  unfoldable pub StayOpen : List ℕ → ℕ → ℕ → RenderState → List Asked → Type 0
  StayOpen rows i d z [] = Unit {0}
  StayOpen rows i d z (c ∷ cs) = Goes rows i z c × StillOpen i d (state_after z c) × StayOpen rows i d (state_after z c) cs

  -- Call c goes on from state z, within row i, at place d, before which the pen was p. If it goes on to the row's end, as it does with an allotment of
  -- the rows before the end, or more: "when the row is done, `indent` plus `next_indent` is what it was before, `indent` is no smaller". And where it
  -- stops right behind the row, that is so of the state that it answers.
  pub record Finishes (i d : ℕ) (p : Pen) (z : RenderState) (c : Asked) : Type 0 where
    pub margin : PenMarginKept p (row_done s b z c.args.to (take z.in_use c.marks) c.store d).pen
    pub there : z.row < c.args.to.stop → DoneThere s b z c.args.to (take z.in_use c.marks) c.store i d
    pub behind : StopsBehind ((view_of c.store).after i) d (state_after z c) → PenMarginKept p (state_after z c).pen
    -- the rows that z lists from row i on are those, from this one down, that enclose its next one
    pub enclosing : length z.listed - d ≡ length (around (view_of c.store) i z.row)

  -- After calls from z on, behind whose d listed rows row i is next: "the sum is at most that before plus the rows, from this one down, that enclose"
  -- the next one; and what a further call keeps, if it goes on to the row's end.
  pub record KeptOver (rows : List ℕ) (i d : ℕ) (z : RenderState) (calls : List Asked) : Type 0 where
    pub low : sum_of (state_over z calls).pen ≤ sum_of z.pen + (length (state_over z calls).listed - d)
    pub done : (c : Asked) → Goes rows i (state_over z calls) c → Finishes i d z.pen (state_over z calls) c

-- Each call has its own stop, allotment, marks, choice and store. (That an earlier entry of the row, by a call that stopped before it, loses nothing, is
-- that allotments join.)
abbrev pub KeptOverCalls : Type 0
KeptOverCalls =
    (s b rows : List ℕ) (z : RenderState) (calls : List Asked) → z.row < (view_of rows).after z.row
    → StayOpen s b rows z.row (length z.listed) z calls
    → KeptOver s b rows z.row (length z.listed) z calls
