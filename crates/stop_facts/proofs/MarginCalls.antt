-- What a call keeps of the margin, and what calls do, each with the state that the one before answered.
-- Assumes nothing.
use mathlib.Core.Path.{◌≡◌, refl, ap, sym, ◌∙◌, subst}
use mathlib.Core.Bool.{Bool, true, false, cond}
use mathlib.Core.List.{List, [], ◌∷◌, ◌++◌, map}
use Prim.Native.Nat.{ℕ, zero, suc, ◌+◌, ◌-◌, ◌≤◌, ◌<◌}
use native.Mathlib.Omega.{arith}
use Rattle.std.specs.Prelude.{None}
use lib.ListN.{length, take, drop, get_or, replicate, length-append, length-map, length-drop, length-replicate}
use Rattle.refusals.specs.Refusals.{any}
use Rattle.refusals.proofs.Groups.{not_if}
use Rattle.rows.specs.Limits.{MAX_DEPTH}
use Rattle.rows.specs.View.{View, view_of}
use Rattle.rows.specs.Nesting.{Nests}
use Rattle.rows.proofs.Nested.{nests_le}
use Rattle.renderer_rules.specs.declared.Frame.{Frame}
use Rattle.renderer_rules.specs.declared.Pen.{Pen}
use Rattle.renderer_rules.specs.Renderer.{Page, Renderer}
use Rattle.renderer_rules.specs.Frames.{no_frame, frame_at, part_end, part_limit, At}
use Rattle.renderer_rules.specs.Stops.{OpenRow, Way, trailing, made_flat, made_wrapped, open_at, way_of, is_made, is_deeper, Stop, listed_as, listed_rows}
use Rattle.renderer_rules.specs.Drift.{around}
use Rattle.renderer_rules.specs.Listed.{resumed, same_rows, closed_all}
use Rattle.renderer_rules.specs.Check.{wrong_place_by}
use Rattle.renderer_rules.proofs.Closable.{PenKept}
use Rattle.renderer_rules.proofs.Resumed.{Holds, reads_back}
use Rattle.cut_rule.specs.Rules.{RenderTo}
use Rattle.cut_rule.specs.States.{RenderChoice, RenderState}
use Rattle.cut_rule.specs.Parts.{read_from}
use Rattle.cut_rule.specs.Tests.{listed_tests}
use Rattle.cut_rule.proofs.RenderParts.{read_first}
use Rattle.cut_rule.proofs.Table.{ListedFits, listed_fits}
use Rattle.whole_run.specs.Parts.{page, open_rows, still_entered, all_rendered, stopped}
use Rattle.whole_run.proofs.Right.{right}
use Rattle.whole_run.proofs.StopTops.{all_get}
use Rattle.whole_run.proofs.StopsJoin.{holds_from}
use Rattle.stop_facts.specs.Margin.{PenMarginKept, RowAt, StillOpen, StopsBehind, left, KeptWithin, goes_on, row_done, DoneThere, answered, StaysKept}
use Rattle.stop_facts.specs.Margin.{CallsKeep}
use Rattle.stop_facts.proofs.Start.{those_same}
use Rattle.stop_facts.proofs.MarginPens.{kept_here, as_margin, closed_most}
use Rattle.stop_facts.proofs.MarginRows.{Rising, rising, level_at, next_there, Stays, ahead_stay, done_kept}
use Rattle.stop_facts.proofs.MarginBehind.{Left, ahead_left, end_left, row_ends_in}
use Rattle.stop_facts.proofs.MarginDone.{behind_row, before_end, before_end_stands, ahead_parts, ahead_gone, ends_there}

-- ---- the rows that a state lists, as it goes on
same_way : (y : Way) → way_of (is_made y) (is_deeper y) ≡ y
same_way trailing = refl
same_way made_flat = refl
same_way made_wrapped = refl

listed_open : (v : View) (n : ℕ) (ls : List OpenRow) (behind : List Frame) (k : ℕ) → k ≤ length ls
    → listed_rows (map (resumed v n) ls ++ behind) k ≡ take k ls
unfolding listed_rows
listed_open v n ls behind zero h = refl
listed_open v n [] behind (suc k) h = absurd (omega arith)
listed_open v n (l ∷ ls) behind (suc k) h =
    ap (λ (y : Way). open_at l.row l.wraps y ∷ map listed_as (take k (map (resumed v n) ls ++ behind))) (same_way l.way)
    ∙ ap (λ (x : List OpenRow). l ∷ x) (listed_open v n ls behind k (omega arith))

-- the row at a place of them, or the next one
rows_low : (v : View) (n lo : ℕ) (ls : List OpenRow) → Rising v n lo ls → (d : ℕ) → get_or (map (λ l. l.row) ls) d n ≤ n
unfolding Rising
rows_low v n lo [] r zero = omega arith
rows_low v n lo [] r (suc d) = omega arith
rows_low v n lo (l ∷ ls) r zero = let x = r.1 in omega arith
rows_low v n lo (l ∷ ls) r (suc d) = rows_low v n (suc l.row) ls r.3 d

open_there : (v : View) (n x : ℕ) (fs : List Frame) (j : ℕ) (ls : List OpenRow) → Holds v n fs j ls → (d : ℕ) → d < length ls
    → (frame_at fs (j + d)).row ≡ get_or (map (λ l. l.row) ls) d x
unfolding Holds
open_there v n x fs j [] h d l = absurd (omega arith)
open_there v n x fs j (y ∷ ls) h zero l = let e : j + 0 ≡ j = omega arith in ap (λ (k : ℕ). (frame_at fs k).row) e ∙ ap (λ (f : Frame). f.row) h.0
open_there v n x fs j (y ∷ ls) h (suc d) l =
    let e : j + suc d ≡ suc j + d = omega arith in
    ap (λ (k : ℕ). (frame_at fs k).row) e ∙ open_there v n x fs (suc j) ls h.1 d (omega arith)

-- no row is closed
none_closed : (v : View) (d : ℕ) (ls : List OpenRow) (p q : Pen) → length ls ≡ d → PenKept q (closed_all v (drop d ls) p) → PenKept q p
unfolding closed_all
none_closed v zero [] p q h k = k
none_closed v zero (l ∷ ls) p q h k = absurd (omega arith)
none_closed v (suc d) [] p q h k = absurd (omega arith)
none_closed v (suc d) (l ∷ ls) p q h k = none_closed v d ls p q (omega arith) k

none_open : (v : View) (p q : Pen) → PenKept q p → PenKept q (closed_all v (drop 0 []) p)
unfolding closed_all
none_open v p q k = k

-- ---- a call that 11 and 23 let pass
module _ (s b : List ℕ) (z : RenderState) (q : RenderTo RenderChoice) (marks store : List ℕ)
    (found : wrong_place_by q.choice.rule s b store (read_from z) q.stop ≡ None)
    (lists : ListedFits (view_of store) z) (up : z.row ≤ q.stop) where
  abbrev v : View
  v = view_of store

  abbrev pg : Page
  pg = page q.choice s b

  abbrev fs : List Frame
  fs = open_rows v z

  abbrev start : Renderer
  start = goes_on s b z q marks store

  low : read_from z ≤ z.row
  low = read_first z.listed z.row

  nests : Nests v (read_from z) q.stop 0
  nests = (right q.choice.rule s b store (read_from z) q.stop (let x = low in omega arith) found).nests

  size : length fs ≡ MAX_DEPTH
  size =
      let x = length-append (map (resumed v z.row) z.listed) (replicate (MAX_DEPTH - length z.listed) no_frame) in
      let y = length-map z.listed (resumed v z.row) in
      let w = length-replicate (MAX_DEPTH - length z.listed) no_frame in
      let few = lists.few in
      omega arith

  holds : Holds v z.row fs 0 z.listed
  holds = holds_from v z.row [] z.listed (replicate (MAX_DEPTH - length z.listed) no_frame)

  same : same_rows z.listed (around v (read_from z) z.row) ≡ true
  same = those_same v z.listed z.row lists.those

  at : At v q.stop fs (length z.listed) z.row
  at = reads_back v pg q.stop z.row fs (read_from z) z.listed size nests low up holds same

  pub rises : Rising v z.row (read_from z) z.listed
  rises = rising v z.row (z.row - read_from z) (read_from z) (read_from z) z.listed (omega arith) (let x = low in omega arith) same

  listed : (k : ℕ) → k ≤ length z.listed → listed_rows fs k ≡ take k z.listed
  listed k h = listed_open v z.row z.listed (replicate (MAX_DEPTH - length z.listed) no_frame) k h

  -- row `z.row` is in the part that is open around it, and so before the stop
  in_part : (d : ℕ) → suc d ≤ length z.listed → z.row < part_limit v q.stop fs (suc d)
  unfolding part_limit part_end
  in_part d h =
      let e : 0 + d ≡ d = omega arith in
      let x = level_at v z.row fs z.pen 0 (read_from z) z.listed holds lists.closable rises d (omega arith) in
      subst (λ (k : ℕ). z.row < part_end v (frame_at fs k)) e (go (frame_at fs (0 + d)) (frame_at fs (0 + d)).first refl x.on x.part)
    where
      go : (f : Frame) (c : Bool) → f.first ≡ c → z.row < v.after f.row → (f.first ≡ true → z.row < v.second f.row)
          → z.row < cond f.first (v.second f.row) (v.after f.row)
      go f true e on first = rw e (first e)
      go f false e on first = rw e on

  next_in : (d : ℕ) → d ≤ length z.listed → z.row < q.stop → z.row < part_limit v q.stop fs d
  unfolding part_limit
  next_in zero h l = l
  next_in (suc d) h l = in_part d h

  before_stop : 1 ≤ length z.listed → z.row < q.stop
  before_stop h = go (length z.listed) refl h
    where
      go : (m : ℕ) → length z.listed ≡ m → 1 ≤ m → z.row < q.stop
      go zero e h = absurd (omega arith)
      go (suc m) e h = let x = in_part m (omega arith) in let y = subst (λ (k : ℕ). part_limit v q.stop fs k ≤ q.stop) e at.low in omega arith

  module _ (n i d : ℕ) (r : RowAt i d z) where
    early : i ≤ z.row
    early = let x = rows_low v z.row (read_from z) z.listed rises d in let y = r.row in omega arith

    starts : PenKept (closed_all v (drop (length z.listed) z.listed) z.pen) z.pen
    unfolding closed_all
    starts = subst (λ (l : List OpenRow). PenKept (closed_all v l z.pen) z.pen) (sym (all_dropped z.listed)) (kept_here z.pen)
      where
        all_dropped : (l : List OpenRow) → drop (length l) l ≡ []
        all_dropped [] = refl
        all_dropped (x ∷ l) = all_dropped l

    -- where the call stops
    abbrev there : Stop
    there = stopped s b z q n start.marks store

    stays_there : Stays v pg q.stop z.row (read_from z) fs z.listed z.pen at holds listed lists.closable rises d i r.deep early there
    stays_there =
        all_get _ (still_entered s b z q start.marks store) n (all_rendered s b z q start.marks store)
        (ahead_stay v pg q.stop z.row (read_from z) fs z.listed z.pen at holds listed lists.closable rises d i r.deep early start starts)
        (λ e. absurd (let x = e.deep in omega arith))

    abbrev more : ℕ
    more = length z.listed - d

    abbrev after_call : RenderState
    after_call = answered s b z q marks store n

    within : StillOpen i d after_call → KeptWithin v d (left v d z) after_call
    within e =
        let k = stays_there (record { deep = e.deep; row = e.row }) in
        let m = closed_most v (drop d after_call.listed) after_call.pen in
        let s = k.sum in
        let l = length-drop d after_call.listed in
        record { margin = as_margin k; low = omega arith }

    deep : d ≤ length z.listed
    deep = r.deep

    next_row : more ≡ 0 → (i ≡ z.row) × (z.row < q.stop → z.row < part_limit v q.stop fs d)
    next_row e = (sym r.row ∙ next_there z.listed z.row d (let x = deep in omega arith), next_in d deep)

    own_row : 1 ≤ more → (frame_at fs d).row ≡ i
    own_row e =
        let y : 0 + d ≡ d = omega arith in
        ap (λ (k : ℕ). (frame_at fs k).row) (sym y) ∙ open_there v z.row z.row fs 0 z.listed holds d (omega arith) ∙ r.row

    done_there : z.row < q.stop → DoneThere s b z q marks store i d
    done_there l =
        let e : d + more ≡ length z.listed = (let x = deep in omega arith) in
        let next : (more ≡ 0 → (i ≡ z.row) × (z.row < part_limit v q.stop fs d)) = λ y. ((next_row y).0, (next_row y).1 l) in
        record {
          before = before_end v pg q.stop z.row (read_from z) fs z.listed z.pen at holds listed lists.closable rises d more start;
          stands = before_end_stands v pg q.stop z.row (read_from z) fs z.listed z.pen at holds listed lists.closable rises d i deep early r.row more e
              (λ y. (next y).1) own_row start;
          rows = ahead_parts v pg q.stop z.row (read_from z) fs z.listed z.pen at holds listed lists.closable rises d i more e next own_row start;
          not_behind = ahead_gone v pg q.stop z.row (read_from z) fs z.listed z.pen at holds listed lists.closable rises d i deep early r.row more e
              (λ y. (next y).1) own_row (row_done s b z q marks store d);
          ends = ends_there v pg q.stop z.row (read_from z) fs z.listed z.pen at holds listed lists.closable rises d i more e next own_row start;
        }

    -- the row ends in each part that is open around it
    ends_in : (k : ℕ) → k < d → v.after i ≤ part_end v (frame_at fs k)
    ends_in k h =
        let x = deep in
        let l = before_stop (omega arith) in
        let e : d + more ≡ length z.listed = omega arith in
        let g = behind_row v pg q.stop z.row (read_from z) fs z.listed z.pen at holds listed lists.closable rises d i deep early r.row more e
        (λ y. (next_row y).1 l) own_row
        in
        let y = nests_le g.1 in
        let w = row_ends_in v q.stop fs (length z.listed) at.under d k deep h in
        omega arith

    left_there : Left v pg q.stop z.row (read_from z) fs z.listed z.pen at holds listed lists.closable rises d i deep early ends_in there
    left_there =
        all_get _ (still_entered s b z q start.marks store) n (all_rendered s b z q start.marks store)
        (ahead_left v pg q.stop z.row (read_from z) fs z.listed z.pen at holds listed lists.closable rises d i deep early ends_in start starts)
        (λ f. at_end d f.deep)
      where
        at_end : (d : ℕ) → 0 ≡ d → PenKept (closed_all v (drop d z.listed) z.pen)
            (closed_all v (drop d (all_rendered s b z q start.marks store).listed) (all_rendered s b z q start.marks store).state.pen)
        at_end d e =
            subst (λ (k : ℕ). PenKept (closed_all v (drop k z.listed) z.pen)
            (closed_all v (drop k (all_rendered s b z q start.marks store).listed) (all_rendered s b z q start.marks store).state.pen)) e
            (none_open v _ _ (end_left v pg q.stop z.row (read_from z) fs z.listed z.pen at holds listed lists.closable rises 0 i (omega arith) early
            (λ k h. absurd (omega arith)) start starts))

    right_behind : StopsBehind (v.after i) d after_call → PenMarginKept (left v d z) after_call.pen
    right_behind e = as_margin (none_closed v d after_call.listed after_call.pen (left v d z) e.listed (left_there (record { next = e.next; deep = e.listed })))

    pub stays_kept : StaysKept s b z q marks store n i d
    stays_kept = record {
      within = within;
      done = as_margin
          (done_kept v pg q.stop z.row (read_from z) fs z.listed z.pen at holds listed lists.closable rises d i deep early more (let x = deep in omega arith)
          start starts);
      there = done_there;
      behind = right_behind;
    }

-- WHAT A CALL KEEPS
pub calls_keep : CallsKeep
calls_keep s b z q marks store n i d found line up r =
    stays_kept s b z q marks store found (listed_fits (view_of store) z (not_if (any (listed_tests (view_of store) z)) 23 0 line)) up n i d r
