-- The loop over rows that may enter so many of them: it goes as `allot` does, and so halts where the rules have the next row.
-- Assumes nothing.
use mathlib.Core.Path.{◌≡◌, refl, ap, sym, ◌∙◌, subst}
use mathlib.Core.Logic.{◌⊎◌, inl, inr}
use Prim.Native.Nat.{ℕ, zero, suc, ◌+◌, ◌*◌, ◌-◌, ◌≤◌, ◌<◌, min}
use native.Mathlib.Omega.{arith}
use native.Mathlib.Decide.{dec_lt}
use mathlib.Core.Bool.{Bool, true, false, cond, ◌&&◌}
use mathlib.Core.List.{List, [], ◌∷◌}
use lib.ListN.{length, get_or}
use lib.Dec.{ltb, leb}
use borrow.Author.Tests.{ne_eqb, eq-eqb, lt-ltb, le-ltb, le-leb, lt-leb}
use Rattle.rows.specs.View.{View, view_of, nodes_at}
use Rattle.rows.proofs.Nested.{nests_le}
use Rattle.renderer_rules.specs.declared.Frame.{Frame}
use Rattle.renderer_rules.specs.Page.{page_of}
use Rattle.renderer_rules.specs.Renderer.{Page, Renderer, fresh_renderer, with_buf, with_widest, render_nodes}
use Rattle.renderer_rules.specs.Frames.{frame_at, part_limit, wrap_at, Under, At}
use Rattle.renderer_rules.specs.Machine.{Machine, turn}
use Rattle.renderer_rules.specs.Safe.{Safe, SmallTexts, one_if, steps, ins}
use Rattle.renderer_rules.specs.Stops.{Stop, meaning, rest}
use Rattle.renderer_rules.proofs.Machine.{Fine, left as turns_left, weight, is_done, turned}
use Rattle.renderer_rules.proofs.Safe.{turn_safe}
use Rattle.renderer_rules.proofs.Allot.{wants_row, allot, allot_turn}
use Rattle.renderer_rules.proofs.Stopped.{Stops, allot_stops, turn_enters, turn_closes, ahead_few}
use Rattle.renderer.specs.declared.run.Renderer.{Renderer as Held}
use Rattle.renderer.specs.Output.{written_over}
use Rattle.renderer.specs.Run.{Unstarted, Rendered, Ended, state_of, run_of, machine_of, Wrote, Shows, Follows, Ready, Lent}
use Rattle.renderer.specs.Halts.{times, Resuming, stops_of, end_of, Halted}
use Rattle.renderer.proofs.LeafRun.{LeafRun, leaf_run, leaf_at, ahead_not_done}
use Rattle.renderer.proofs.Written.{over_length}

-- as many rows as no store has
abbrev pub MOST : ℕ
MOST = 4294967296

weight_le : (fs : List Frame) (d : ℕ) → weight fs d ≤ 2 * d
unfolding weight
weight_le fs zero = omega arith
weight_le fs (suc d) = let a = weight_le fs d in let b = bit (frame_at fs d).first in omega arith
  where
    bit : (b : Bool) → one_if b ≤ 1
    bit true = omega arith
    bit false = omega arith

past_all : (l : List Stop) (k : ℕ) (d : Stop) → length l ≤ k → get_or l k d ≡ d
past_all [] zero d h = refl
past_all [] (suc k) d h = refl
past_all (e ∷ l) zero d h = absurd (omega arith)
past_all (e ∷ l) (suc k) d h = past_all l k d (omega arith)

module _ (store source image : List ℕ) (stop a : ℕ) (r0 : Held) where
  abbrev v : View
  v = view_of store

  abbrev pg : Page
  pg = page_of r0.max.0 source image

  abbrev limit : ℕ
  limit = length r0.out.now

  abbrev m0 : Machine
  m0 = machine_of (run_of r0) r0.marks.now [] 0

  abbrev most : ℕ
  most = turns_left stop m0

  -- going on from q with so many rows left to enter halts where the whole run does
  pub record Halting (q : Held) (left : ℕ) : Type 0 where
    pub resuming : Resuming store stop r0
    pub small : SmallTexts v pg
    pub text : List ℕ
    pub entered : ℕ
    pub wrote : Wrote limit r0.out.now q.out.now q.writing.at.0 text
    pub fine : Fine v pg stop (machine_of (run_of q) q.marks.now text entered)
    pub safe : Safe v resuming.base (machine_of (run_of q) q.marks.now text entered)
    pub due : entered + left ≡ a
    pub enough : turns_left stop (machine_of (run_of q) q.marks.now text entered) ≤ most
    pub same : allot v pg stop most a (machine_of (run_of q) q.marks.now text entered) ≡ allot v pg stop most a m0
    pub lent : Lent r0 q

  start_none : m0.entered ≡ 0
  unfolding machine_of
  start_none = refl

  fine0 : Resuming store stop r0 → Fine v pg stop m0
  unfolding machine_of
  fine0 g = g.at

  pub few_rows : Resuming store stop r0 → length (stops_of store source image stop r0) ≤ MOST
  unfolding machine_of
  few_rows g =
      let f = ahead_few v pg stop m0 (fine0 g) in
      let w = weight_le r0.frames.items r0.frames.depth in
      let d = g.at.deep in
      let s = g.few in
      omega arith

  pub halting_start : SmallTexts v pg → Resuming store stop r0 → Halting r0 a
  unfolding machine_of written_over
  halting_start s g =
      let c = g.column in
      record {
        resuming = g;
        small = s;
        text = [];
        entered = 0;
        wrote = record { bytes = g.nothing; written = refl };
        fine = g.at;
        safe = record { sum = g.sum; low = g.steps_in; column = omega arith; bytes = omega arith };
        due = omega arith;
        enough = omega arith;
        same = refl;
        lent = record { max = refl; marks = refl; out = refl };
      }

  module _ (q : Held) (left : ℕ) (g : Halting q left) where
    abbrev m : Machine
    m = machine_of (run_of q) q.marks.now g.text g.entered

    pub at_is : At v stop q.frames.items q.frames.depth q.next
    unfolding machine_of
    at_is = g.fine

    pub next_low : q.next ≤ stop
    next_low = let x = nests_le at_is.good in let y = at_is.low in omega arith

    pub size : length q.out.now ≡ limit
    size = ap length g.wrote.written ∙ over_length limit r0.out.now 0 g.text

    pub ready : Ready store source image r0.max.0 limit stop q.marks.now q.out.now (run_of q)
    unfolding machine_of
    ready =
        let s = g.safe in
        let l = size in
        record {
          room = g.resuming.room;
          few = g.resuming.few;
          fits = omega arith;
          small = g.small;
          at = g.fine;
          base = g.resuming.base;
          low = g.resuming.low;
          before = r0.out.now;
          text = g.text;
          wrote = g.wrote;
          safe = record { sum = s.sum; low = s.low; column = s.column; bytes = s.bytes };
        }

    wants_is : (b : Bool) → ltb q.next (part_limit v stop q.frames.items q.frames.depth) ≡ b → wants_row v pg stop m ≡ b
    unfolding wants_row machine_of
    wants_is b e = e

    entered_is : m.entered ≡ g.entered
    unfolding machine_of
    entered_is = refl

    joined : (p : Held) → Lent q p → Lent r0 p
    joined p l = record { max = l.max ∙ g.lent.max; marks = l.marks ∙ g.lent.marks; out = l.out ∙ g.lent.out }

    -- rows without parts
    module _ (p : Held) (k : ℕ) (f : Follows limit (times k (turn v pg)) q.marks.now q.out.now (run_of q) p.marks.now p.out.now (run_of p)) (l : Lent q p)
        (h : (i : ℕ) → q.next ≤ i → i < q.next + k → leaf_at v pg stop i)
        (e : q.next + k ≤ part_limit v stop q.frames.items q.frames.depth) where
      run : LeafRun v pg stop g.resuming.base k m (times k (turn v pg) m)
      unfolding machine_of
      run = leaf_run v pg stop g.resuming.base g.small g.resuming.low k m g.fine g.safe h e

      shown : Shows limit r0.out.now p.marks.now p.out.now (run_of p) (times k (turn v pg) m)
      shown = f.goes r0.out.now g.text g.entered g.wrote

      pub halting_leaves : k ≤ left → Halting p (left - k)
      halting_leaves c =
          let s = shown in
          let r = run in
          let d = g.due in
          let x = r.entered in
          let y = r.less in
          let z = g.enough in
          let w = entered_is in
          record {
            resuming = g.resuming;
            small = g.small;
            text = (times k (turn v pg) m).state.buf;
            entered = (times k (turn v pg) m).entered;
            wrote = s.wrote;
            fine = subst (λ (x : Machine). Fine v pg stop x) s.same r.fine;
            safe = subst (λ (x : Machine). Safe v g.resuming.base x) s.same r.safe;
            due = omega arith;
            enough = subst (λ (x : Machine). turns_left stop x ≤ most) s.same (omega arith);
            same = ap (allot v pg stop most a) (sym s.same) ∙ r.allots most a z (omega arith) ∙ g.same;
            lent = joined p l;
          }

      pub leaves_less : (stop - p.next) * 3 + weight p.frames.items p.frames.depth ≤ (stop - q.next) * 3 + weight q.frames.items q.frames.depth
      unfolding machine_of
      leaves_less = let y = run.less in subst (λ (x : Machine). turns_left stop x ≤ (stop - q.next) * 3 + weight q.frames.items q.frames.depth) shown.same
          (omega arith)

    -- a turn
    module _ (p : Held) (f : Follows limit (turn v pg) q.marks.now q.out.now (run_of q) p.marks.now p.out.now (run_of p)) (l : Lent q p)
        (d : is_done v pg stop m ≡ false) where
      turned_to : Shows limit r0.out.now p.marks.now p.out.now (run_of p) (turn v pg m)
      turned_to = f.goes r0.out.now g.text g.entered g.wrote

      on : (j : ℕ) → (wants_row v pg stop m && leb a m.entered) ≡ false → (turn v pg m).entered + j ≡ a → Halting p j
      on j n e =
          let s = turned_to in
          let t = turned v pg stop m g.fine d in
          let y = t.less in
          let z = g.enough in
          record {
            resuming = g.resuming;
            small = g.small;
            text = (turn v pg m).state.buf;
            entered = (turn v pg m).entered;
            wrote = s.wrote;
            fine = subst (λ (x : Machine). Fine v pg stop x) s.same t.fine;
            safe =
                subst (λ (x : Machine). Safe v g.resuming.base x) s.same
                (turn_safe v pg stop g.resuming.base m g.fine d g.small g.resuming.low g.safe);
            due = e;
            enough = subst (λ (x : Machine). turns_left stop x ≤ most) s.same (omega arith);
            same = ap (allot v pg stop most a) (sym s.same) ∙ allot_turn v pg stop most a m g.fine z d n ∙ g.same;
            lent = joined p l;
          }

      pub turn_less : (stop - p.next) * 3 + weight p.frames.items p.frames.depth < (stop - q.next) * 3 + weight q.frames.items q.frames.depth
      unfolding machine_of
      turn_less =
          let t = turned v pg stop m g.fine d in
          subst (λ (x : Machine). turns_left stop x < (stop - q.next) * 3 + weight q.frames.items q.frames.depth) turned_to.same t.less

    inside_not_done : q.next < part_limit v stop q.frames.items q.frames.depth → is_done v pg stop m ≡ false
    unfolding machine_of
    inside_not_done h = ahead_not_done v pg stop m h

    open_not_done : 0 < q.frames.depth → is_done v pg stop m ≡ false
    unfolding machine_of is_done
    open_not_done h = rw (ne_eqb q.frames.depth 0 (λ e. omega arith))

    -- a row is entered
    module _ (p : Held) (f : Follows limit (turn v pg) q.marks.now q.out.now (run_of q) p.marks.now p.out.now (run_of p)) (l : Lent q p)
        (h : q.next < part_limit v stop q.frames.items q.frames.depth) where
      pub halting_enter : 1 ≤ left → Halting p (left - 1)
      halting_enter c =
          let w = wants_is true (lt-ltb _ _ h) in
          let o = (turn_enters v pg stop m g.fine w).one in
          let x = entered_is in
          let d = g.due in
          on p f l (inside_not_done h) (left - 1) (rw (w) (lt-leb a m.entered (omega arith))) (omega arith)

      pub enter_less : (stop - p.next) * 3 + weight p.frames.items p.frames.depth < (stop - q.next) * 3 + weight q.frames.items q.frames.depth
      enter_less = turn_less p f l (inside_not_done h)

    -- the innermost row is left
    module _ (p : Held) (f : Follows limit (turn v pg) q.marks.now q.out.now (run_of q) p.marks.now p.out.now (run_of p)) (l : Lent q p)
        (h : 0 < q.frames.depth) where
      pub halting_close : part_limit v stop q.frames.items q.frames.depth ≤ q.next → Halting p left
      halting_close c =
          let w = wants_is false (le-ltb _ _ c) in
          let o = (turn_closes v pg stop m g.fine (open_not_done h) w).none in
          let x = entered_is in
          let d = g.due in
          on p f l (open_not_done h) left (rw w refl) (omega arith)

      pub close_less : (stop - p.next) * 3 + weight p.frames.items p.frames.depth < (stop - q.next) * 3 + weight q.frames.items q.frames.depth
      close_less = turn_less p f l (open_not_done h)

    -- where the loop ends, `allot` ends: the allotment is spent and a row is ahead, or all is done
    halts : (is_done v pg stop m ≡ true) ⊎ ((wants_row v pg stop m && leb a m.entered) ≡ true) → (n : ℕ) → allot v pg stop n a m ≡ m
    unfolding allot
    halts e zero = refl
    halts (inl e) (suc n) = rw e refl
    halts (inr e) (suc n) = go (is_done v pg stop m)
      where
        go : (b : Bool) → cond b m (cond (wants_row v pg stop m && leb a m.entered) m (allot v pg stop n a (turn v pg m))) ≡ m
        go true = refl
        go false = rw e refl

    ended_by : (q.frames.depth ≡ 0) × (q.next ≡ stop) ⊎ (left ≡ 0) × (q.next < part_limit v stop q.frames.items q.frames.depth)
        → (is_done v pg stop m ≡ true) ⊎ ((wants_row v pg stop m && leb a m.entered) ≡ true)
    unfolding is_done machine_of
    ended_by (inl x) = inl (rw (eq-eqb q.frames.depth 0 x.0, eq-eqb q.next stop x.1) refl)
    ended_by (inr x) =
        let w = wants_is true (lt-ltb _ _ x.1) in
        let d = g.due in
        let z = x.0 in
        inr (rw (w) (le-leb a g.entered (omega arith)))

    pub stops_here : (q.frames.depth ≡ 0) × (q.next ≡ stop) ⊎ (left ≡ 0) × (q.next < part_limit v stop q.frames.items q.frames.depth)
        → Stops v pg stop a m0 m
    stops_here e =
        let h : m ≡ allot v pg stop most a m0 = sym (halts (ended_by e) most) ∙ g.same in
        let y = start_none in
        let z : m0.entered + a ≡ a = omega arith in
        let s : Stops v pg stop a m0 (allot v pg stop most a m0) =
        subst (λ (n : ℕ). Stops v pg stop a m0 (allot v pg stop most n m0)) z (allot_stops v pg stop most a m0 (fine0 g.resuming) (omega arith)) in
        subst (Stops v pg stop a m0) (sym h) s

-- ---- the promise, with the allotment as it was given
rows_under : (v : View) (stop : ℕ) (fs : List Frame) (d : ℕ) → Under v stop fs d → (j : ℕ) → j < d → (frame_at fs j).row < stop
unfolding Under
rows_under v stop fs zero u j h = absurd (omega arith)
rows_under v stop fs (suc d) u j h = go (dec_lt j d) (rows_under v stop fs d u.1 j)
  where
    go : Dec (j < d) → (j < d → (frame_at fs j).row < stop) → (frame_at fs j).row < stop
    go (yes p) rec = rec p
    go (no p) rec = let e : j ≡ d = omega arith in subst (λ (k : ℕ). (frame_at fs k).row < stop) (sym e) u.0.row

module _ (store source image : List ℕ) (stop given : ℕ) (r0 q : Held) (left : ℕ) (g : Halting store source image stop (min given MOST) r0 q left) where
  as_given : (l : List Stop) (d : Stop) → length l ≤ MOST → get_or l (min given MOST) d ≡ get_or l given d
  as_given l d h = go (dec_lt given MOST)
    where
      go : Dec (given < MOST) → get_or l (min given MOST) d ≡ get_or l given d
      go (yes p) = (let e : min given MOST ≡ given = omega arith in ap (λ (n : ℕ). get_or l n d) e)
      go (no p) = past_all l (min given MOST) d (omega arith) ∙ sym (past_all l given d (omega arith))

  pub halting_end : (q.frames.depth ≡ 0) × (q.next ≡ stop) ⊎ (left ≡ 0) × (q.next < part_limit (view_of store) stop q.frames.items q.frames.depth)
      → (n : ℕ) → n + left ≡ min given MOST → Halted store source image stop given r0 q n
  unfolding machine_of
  halting_end e n c =
      let t = stops_here store source image stop (min given MOST) r0 q left g e in
      let f = few_rows store source image stop (min given MOST) r0 g.resuming in
      let k = t.count in
      let d = g.due in
      record {
        text = g.text;
        stops = t.stops ∙ as_given (stops_of store source image stop r0) (end_of store source image stop r0) f;
        count = omega arith;
        wrote = g.wrote;
        lent = g.lent;
        size = g.fine.size;
        deep = g.fine.deep;
        rows = λ j h. (let y = rows_under (view_of store) stop q.frames.items q.frames.depth g.fine.under j h in let z = g.resuming.few in omega arith);
      }

-- ---- a rendering of all rows from the start: its allotment is never spent
pub resuming_start : (store : List ℕ) (stop : ℕ) (r : Held) → Unstarted store stop r → Resuming store stop r
unfolding part_limit Under steps ins
resuming_start store stop r u =
    let g = u.starting in
    let z = u.none in
    record {
      room = g.nested.room;
      few = g.nested.few;
      at = rw z (record { good = g.nested.nests; under = tt; low = omega arith; size = u.places; deep = omega arith });
      base = r.writing.pen.indent + r.writing.pen.next_indent;
      low = g.margin;
      sum = rw z (none_more (r.writing.pen.indent + r.writing.pen.next_indent));
      steps_in = rw z (omega arith);
      column = g.column;
      nothing = g.at;
    }
  where
    none_more : (n : ℕ) → n ≡ n + 0
    none_more n = omega arith

meaning_none : (v : View) (pg : Page) (stop : ℕ) (fs : List Frame) (d i : ℕ) (s : Renderer) → d ≡ 0
    → meaning v pg stop fs d i s ≡ render_nodes pg (nodes_at v i stop) true s
unfolding meaning rest part_limit wrap_at
meaning_none v pg stop fs d i s e = rw e refl

pub rendered_all : (store source image : List ℕ) (stop given : ℕ) (r q : Held) (n : ℕ) → Unstarted store stop r → MOST ≤ given
    → Halted store source image stop given r q n → Rendered store source image stop r q
rendered_all store source image stop given r q n u l h =
    let pg = page_of r.max.0 source image in
    let g = resuming_start store stop r u in
    let f = few_rows store source image stop given r g in
    let x = h.stops ∙ past_all (stops_of store source image stop r) given (end_of store source image stop r) (omega arith) in
    let y = ap (λ (t : Stop). t.state) x ∙ meaning_none (view_of store) pg stop r.frames.items r.frames.depth r.next
    (state_of r.writing r.marks.now []) u.none in
    let z : state_of q.writing q.marks.now h.text
    ≡ render_nodes pg (nodes_at (view_of store) r.next stop) true (fresh_renderer r.writing.pen r.marks.now) =
    y
    ∙ ap (λ (c : ℕ). render_nodes pg (nodes_at (view_of store) r.next stop) true (with_widest c (with_buf [] (fresh_renderer r.writing.pen r.marks.now))))
    u.starting.widest in
    record {
      ended =
          subst (λ (s : Renderer). Ended (length r.out.now) s r.out.now q.marks.now q.out.now q.writing) z
          (record { pen = refl; bytes = h.wrote.bytes; widest = refl; marks = refl; written = h.wrote.written });
      lent = h.lent;
    }
