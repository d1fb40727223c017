-- A run over turned rows is a run by the rule, and the rows turned back are as they were.
-- Assumes nothing.
use mathlib.Core.Path.{◌≡◌, refl, sym, ap, ap₂, subst, subst₂, ◌∙◌}
use Prim.Native.Nat.{ℕ, zero, suc, ◌+◌, ◌*◌, ◌-◌, ◌≤◌, ◌<◌, min}
use native.Mathlib.Omega.{arith}
use mathlib.Core.Bool.{Bool, true, false, cond}
use mathlib.Core.List.{List, []}
use lib.Dec.{eqb}
use lib.ListN.{length, get_or}
use borrow.Author.Tests.{eqb-true, eqb-false, ne_eqb}
use Rattle.std.specs.Prelude.{None}
use Rattle.rows.specs.Kinds.{INDENT, INDENT_NEXT, CALL, ASCII}
use Rattle.rows.specs.Places.{SECOND, AFTER, PLACES}
use Rattle.rows.specs.Node.{Text, byte_columns}
use Rattle.rows.specs.View.{View, cell, view_of}
use Rattle.rows.specs.Nesting.{Nests}
use Rattle.rows.proofs.Nested.{nests_le}
use Rattle.renderer_rules.specs.declared.Frame.{Frame}
use Rattle.renderer_rules.specs.Page.{text_bytes}
use Rattle.renderer_rules.specs.Renderer.{Page, Renderer}
use Rattle.renderer_rules.specs.Frames.{frame_at, part_end, part_limit, Open, Under, AllLie}
use Rattle.renderer_rules.specs.Safe.{steps_back, ins_of, steps, ins}
use Rattle.renderer_rules.specs.Stops.{Stop, stop_at}
use Rattle.renderer.specs.declared.run.Renderer.{Renderer as Held}
use Rattle.renderer.specs.Run.{state_of}
use Rattle.renderer.specs.Halts.{Resuming, Halted}
use Rattle.widths.specs.Rules.{edition_of}
use Rattle.node_widths.specs.Measured.{TurnedAt, ascii_columns, rule_page}
use Rattle.node_widths.proofs.Pages.{supplied_page}
use Rattle.node_widths.proofs.TurnedNests.{turned_nests}
use Rattle.node_widths.proofs.StopsMeasured.{ahead_same}
use Rattle.row_widths.specs.Passes.{pass, pass_back, row_turned, row_back, Unturned}
use Rattle.row_widths.proofs.Turning.{rows_turned, turned_place, turned_size}
use Rattle.row_widths.proofs.Undoing.{turned_back}
use Rattle.render_by_rule.specs.Halts.{LiesFrom, HaltedBy}

module _ (rule : ℕ) (source image : List ℕ) (s : List ℕ) (from stop : ℕ) (r : Held) (x : Resuming s stop r) (l : LiesFrom s from r) where
  abbrev f : Text → ℕ
  f = ascii_columns rule source image

  pub in_order : from ≤ stop
  in_order = (let a = l.next in let b = nests_le x.at.good in let c = x.at.low in omega arith)

  up : from + (stop - from) ≡ stop
  up = omega (arith, in_order)

  room : (from + (stop - from)) * PLACES ≤ length s
  room = omega (arith, up, x.room)

  module _ (s1 : List ℕ) (t : s1 ≡ pass (row_turned (ascii_columns rule source image)) (stop - from) s from) where
    abbrev v : View
    v = view_of s

    abbrev u : View
    u = view_of s1

    place_same : (i k : ℕ) → 1 < k → k < 8 → cell s1 i k ≡ cell s i k
    place_same i k a b = ap (λ (m : List ℕ). cell m i k) t ∙ turned_place f (stop - from) s from i k a b

    seconds : (i : ℕ) → u.second i ≡ v.second i
    unfolding view_of
    seconds i = place_same i SECOND (omega arith) (omega arith)

    afters : (i : ℕ) → u.after i ≡ v.after i
    unfolding view_of
    afters i = place_same i AFTER (omega arith) (omega arith)

    turned : (i : ℕ) → from ≤ i → i < stop → TurnedAt f v u i
    turned i a b =
        subst (λ (m : List ℕ). TurnedAt f (view_of s) (view_of m) i) (sym t) (rows_turned f (stop - from) s from i room a (omega (arith, up)))

    end_same : (fr : Frame) → part_end u fr ≡ part_end v fr
    unfolding part_end
    end_same fr = ap₂ (cond fr.first) (seconds fr.row) (afters fr.row)

    limit_same : (fs : List Frame) (d : ℕ) → part_limit u stop fs d ≡ part_limit v stop fs d
    unfolding part_limit
    limit_same fs zero = refl
    limit_same fs (suc d) = end_same (frame_at fs d)

    end_from : (fr : Frame) → (fr.first ≡ true → from ≤ v.second fr.row) → from ≤ v.after fr.row → from ≤ part_end v fr
    unfolding part_end
    end_from fr a b = go fr.first refl
      where
        go : (c : Bool) → fr.first ≡ c → from ≤ cond c (v.second fr.row) (v.after fr.row)
        go true e = a e
        go false e = b

    under_turned : (fs : List Frame) (d : ℕ) → Under v stop fs d → AllLie v from fs d → Under u stop fs d
    unfolding Under
    under_turned fs zero a k = tt
    under_turned fs (suc d) a k =
        let fr = frame_at fs d in
        let o : Open v stop fs d = a.0 in
        let y = k d (omega arith) in
        let le = nests_le o.after in
        let low = o.low in (
          record {
            row = o.row;
            later =
                subst₂ (λ (m n : ℕ). Nests u m n (suc d)) (sym (end_same fr)) (sym (afters fr.row))
                (turned_nests f v u from stop turned o.later (end_from fr y.part y.after) (omega arith));
            after =
                subst₂ (λ (m n : ℕ). Nests u m n d) (sym (afters fr.row)) (sym (limit_same fs d))
                (turned_nests f v u from stop turned o.after y.after low);
            low = omega (arith, limit_same fs d);
          },
          under_turned fs d a.1 (λ j h. k j (omega arith)),
        )

    -- the kinds that open rows have are the same
    opens_same : (i k : ℕ) → (k ≡ 5 → ⊥) → (k ≡ ASCII → ⊥) → from ≤ i → i < stop → eqb (u.kind i) k ≡ eqb (v.kind i) k
    opens_same i k a b h m = go (eqb (v.kind i) ASCII) refl
      where
        go : (c : Bool) → eqb (v.kind i) ASCII ≡ c → eqb (u.kind i) k ≡ eqb (v.kind i) k
        go true e =
            let y = eqb-true (v.kind i) ASCII e in
            ne_eqb (u.kind i) k (λ z. a (sym z ∙ (turned i h m).ascii_kind y)) ∙ sym (ne_eqb (v.kind i) k (λ z. b (sym z ∙ y)))
        go false e = ap (λ (n : ℕ). eqb n k) ((turned i h m).kind (eqb-false (v.kind i) ASCII e))

    steps_same : (fs : List Frame) (d : ℕ) → Under v stop fs d → AllLie v from fs d → (steps u fs d ≡ steps v fs d) × (ins u fs d ≡ ins v fs d)
    unfolding Under steps ins steps_back ins_of
    steps_same fs zero a k = (refl, refl)
    steps_same fs (suc d) a k =
        let fr = frame_at fs d in
        let h = (k d (omega arith)).row in
        let m = a.0.row in
        let i = opens_same fr.row INDENT (λ z. omega arith) (λ z. omega arith) h m in
        let n = opens_same fr.row INDENT_NEXT (λ z. omega arith) (λ z. omega arith) h m in
        let c = opens_same fr.row CALL (λ z. omega arith) (λ z. omega arith) h m in
        let more = steps_same fs d a.1 (λ j h. k j (omega arith)) in (
          rw (i, n, c, more.0) refl,
          rw (i, more.1) refl,
        )

    pub resumes : Resuming s1 stop r
    resumes =
        let k = steps_same r.frames.items r.frames.depth x.at.under l.frames in
        let a = k.0 in
        let b = k.1 in
        record {
          room = (let y = x.room in let z = ap length t ∙ turned_size f (stop - from) s from in omega arith);
          few = x.few;
          at =
              record {
                good =
                    subst (λ (n : ℕ). Nests u r.next n r.frames.depth) (sym (limit_same r.frames.items r.frames.depth))
                    (turned_nests f v u from stop turned x.at.good l.next x.at.low);
                under = under_turned r.frames.items r.frames.depth x.at.under l.frames;
                low = omega (arith, limit_same r.frames.items r.frames.depth, x.at.low);
                size = x.at.size;
                deep = x.at.deep;
              };
          base = x.base;
          low = x.low;
          sum = omega (arith, x.sum);
          steps_in = omega (arith, x.steps_in);
          column = x.column;
          nothing = x.nothing;
        }

    pub halts : (a : ℕ) (q : Held) (n : ℕ) → Halted s1 source image stop a r q n
        → HaltedBy (rule_page r.max.0 rule source image) (view_of s) stop a r q n
    halts a q n h =
        let e =
        ahead_same r.max.0 f byte_columns (text_bytes source image) v u seconds afters from stop turned r.frames.items r.frames.depth r.next
        (state_of r.writing r.marks.now []) x.at.under x.at.low l.next l.frames in
        record {
          text = h.text;
          stops = h.stops ∙ sym (ap₂ (λ (k : List Stop) (m : Renderer). get_or k a (stop_at stop [] m)) e.0 e.1);
          count = h.count ∙ sym (ap (λ (k : List Stop). min a (length k)) e.0);
          wrote = h.wrote;
          lent = h.lent;
          size = h.size;
          deep = h.deep;
          rows = h.rows;
        }

    pub restored : Unturned s from stop → (s2 : List ℕ) → s2 ≡ pass_back row_back (stop - from) s1 from → s2 ≡ s
    restored w s2 b =
        b
        ∙ ap (λ (m : List ℕ). pass_back row_back (stop - from) m from) t
        ∙ turned_back f s from (stop - from) room (subst (λ (k : ℕ). Unturned s from k) (sym up) w)

-- where widths are supplied rows are rendered as they are
pub halts_supplied : (rule : ℕ) (source image s : List ℕ) (stop a : ℕ) (r q : Held) (n : ℕ) → edition_of rule ≡ None
    → Halted s source image stop a r q n → HaltedBy (rule_page r.max.0 rule source image) (view_of s) stop a r q n
halts_supplied rule source image s stop a r q n e h =
    subst (λ (p : Page). HaltedBy p (view_of s) stop a r q n) (sym (supplied_page r.max.0 rule source image e))
    (record { text = h.text; stops = h.stops; count = h.count; wrote = h.wrote; lent = h.lent; size = h.size; deep = h.deep; rows = h.rows })
