-- The marks and bytes that rows need, row by row: those so far, and what the rows ahead need, in the open part and behind the parts around it, make
-- the answer.
-- Assumes nothing.
use mathlib.Core.Path.{◌≡◌, refl, ap, sym, subst, ◌∙◌}
use Prim.Native.Nat.{ℕ, suc, ◌+◌, ◌*◌, ◌-◌, ◌≤◌, ◌<◌, max}
use native.Mathlib.Omega.{arith}
use native.Mathlib.Numerals.{add-one}
use mathlib.Core.Bool.{Bool}
use mathlib.Core.List.{List, [], ◌∷◌}
use Rattle.std.specs.Prelude.{Result, Ok, map}
use lib.ListN.{length}
use Rattle.laws.proofs.Numbers.{one_more}
use Rattle.rows.specs.Places.{KIND, AFTER}
use Rattle.rows.specs.Node.{none}
use Rattle.rows.specs.View.{View, cell, view_of, nodes_at}
use Rattle.rows.proofs.Decode.{nodes_none}
use Rattle.marks.specs.Marks.{row_marks, marks_needed}
use Rattle.renderer_rules.specs.Most.{nodes_most}
use Rattle.renderer_rules.proofs.Checked.{Fits}
use Rattle.rowcheck.specs.Needs.{NeedsOf, WithRow, row_most, steps_of}
use Rattle.rowcheck.specs.declared.needs.Needs.{Needs}
use Rattle.rowcheck.specs.declared.weighing.Part.{Part}
use Rattle.rowcheck.proofs.Joined.{most_parted}

-- where the parts around end, the innermost first
abbrev pub ends_of : List Part → List ℕ
ends_of ps = map (λ (p : Part). p.end) ps

pub ends_size : (ps : List Part) → length (ends_of ps) ≡ length ps
ends_size [] = refl
ends_size (p ∷ ps) = omega (arith, ends_size ps)

-- what is ahead adds at most: in the open part from a row on, and then behind it in each part around
unfoldable pub ahead : List ℕ → List Part → Part → ℕ → ℕ
ahead s [] p row = nodes_most (nodes_at (view_of s) row p.end) p.margin
ahead s (q ∷ qs) p row = nodes_most (nodes_at (view_of s) row p.end) p.margin + ahead s qs q p.end

-- each part is at most one step further in than the one around it, and the outermost starts m steps in
unfoldable pub StepsIn : ℕ → List Part → Part → Type 0
StepsIn m [] p = p.margin ≤ m
StepsIn m (q ∷ qs) p = (p.margin ≤ m + suc (length qs)) × StepsIn m qs q

pub record Weighing (s : List ℕ) (from stop m : ℕ) (n : Needs) (outer : List Part) (part : Part) (row : ℕ) : Type 0 where
  pub marks : max n.marks (marks_needed (stop - row) s row) ≡ marks_needed (stop - from) s from
  pub bytes : n.bytes.0 + ahead s outer part row ≡ 4 * m + nodes_most (nodes_at (view_of s) from stop) m
  pub few : n.bytes.0 ≤ 4 * m + row * 17179869184
  pub steps : StepsIn m outer part

needed_some : (n : ℕ) (s : List ℕ) (i : ℕ) → marks_needed (suc n) s i ≡ max (row_marks s i) (marks_needed n s (suc i))
unfolding marks_needed
needed_some n s i = refl

needed_next : (s : List ℕ) (stop row : ℕ) → row < stop → marks_needed (stop - row) s row ≡ max (row_marks s row) (marks_needed (stop - (row + 1)) s (row + 1))
needed_next s stop row h =
    ap (λ (n : ℕ). marks_needed n s row) (one_more stop row h)
    ∙ needed_some (stop - (row + 1)) s row
    ∙ ap (λ (k : ℕ). max (row_marks s row) (marks_needed (stop - (row + 1)) s k)) (sym (add-one row))

none_needed : (n : ℕ) (s : List ℕ) (i : ℕ) → n ≡ 0 → marks_needed n s i ≡ 0
unfolding marks_needed
none_needed n s i e = rw e

-- nothing is ahead at the end of a part
none_most : (s : List ℕ) (i end m : ℕ) → end ≤ i → nodes_most (nodes_at (view_of s) i end) m ≡ 0
unfolding nodes_most
none_most s i end m h = rw (nodes_none (view_of s) i end h)

steps_few : (m : ℕ) (outer : List Part) (p : Part) → StepsIn m outer p → p.margin ≤ m + length outer
unfolding StepsIn
steps_few m [] p h = omega arith
steps_few m (q ∷ qs) p h = omega (arith, h.0)

module _ (s : List ℕ) where
  ahead_same : (outer : List Part) (p : Part) (i j a b : ℕ)
      → nodes_most (nodes_at (view_of s) i p.end) p.margin + a ≡ nodes_most (nodes_at (view_of s) j p.end) p.margin + b
      → ahead s outer p i + a ≡ ahead s outer p j + b
  unfolding ahead
  ahead_same [] p i j a b e = e
  ahead_same (q ∷ qs) p i j a b e = omega arith

  module _ (places : ℕ → Bool) (outer : List Part) (p : Part) (row d : ℕ) (f : Fits places (view_of s) p.end d row) where
    abbrev v : View
    v = view_of s

    parted : nodes_most (nodes_at v row p.end) p.margin
        ≡ row_most p.margin s row (v.kind row) + nodes_most (nodes_at v (suc row) (v.after row)) (p.margin + steps_of (v.kind row))
        + nodes_most (nodes_at v (v.after row) p.end) p.margin
    parted = most_parted s row p.margin p.end f.within f.parts

    -- the row's parts are the open part then
    ahead_in : (q : Part) → q.end ≡ v.after row → q.margin ≡ p.margin + steps_of (v.kind row)
        → ahead s outer p row ≡ row_most p.margin s row (v.kind row) + ahead s (p ∷ outer) q (suc row)
    unfolding ahead
    ahead_in q e g =
        let a = ahead_same outer p row (v.after row) 0
        (row_most p.margin s row (v.kind row) + nodes_most (nodes_at v (suc row) (v.after row)) (p.margin + steps_of (v.kind row)))
        (omega (arith, parted))
        in
        rw (e, g) (omega (arith, a))

    -- a row without parts is passed
    ahead_past : v.after row ≡ suc row → ahead s outer p row ≡ row_most p.margin s row (v.kind row) + ahead s outer p (suc row)
    ahead_past e =
        let none = none_most s (suc row) (v.after row) (p.margin + steps_of (v.kind row)) (omega (arith, e)) in
        let rest = ap (λ (k : ℕ). nodes_most (nodes_at v k p.end) p.margin) e in
        let a = ahead_same outer p row (suc row) 0 (row_most p.margin s row (v.kind row)) (omega (arith, parted)) in
        omega (arith, a)

module _ (s : List ℕ) (from stop m : ℕ) where
  pub weighing_start : (n : Needs) (outer : List Part) (p : Part) → outer ≡ [] → p.end ≡ stop → p.margin ≡ m → n.marks ≡ 0 → n.bytes.0 ≡ 4 * m
      → Weighing s from stop m n outer p from
  unfolding ahead StepsIn
  weighing_start n outer p e f g h k =
      rw e (record { marks = omega arith; bytes = rw (f, g) (omega arith); few = omega arith; steps = omega arith })

  module _ (n : Needs) (outer : List Part) (p : Part) (row : ℕ) (c : Weighing s from stop m n outer p row) where
    pub margin_few : p.margin ≤ m + length outer
    margin_few = steps_few m outer p c.steps

    module _ (n2 : Needs) (w : WithRow s row p.margin n n2) (h : row < stop) where
      marks_more : max n2.marks (marks_needed (stop - (row + 1)) s (row + 1)) ≡ marks_needed (stop - from) s from
      marks_more =
          more n2.marks n.marks (row_marks s row) (marks_needed (stop - (row + 1)) s (row + 1)) (marks_needed (stop - row) s row) w.marks
          (needed_next s stop row h)
          ∙ c.marks
        where
          more : (most2 most r x z : ℕ) → most2 ≡ max most r → z ≡ max r x → max most2 x ≡ max most z
          more most2 most r x z f p = omega arith

      few_more : n2.bytes.0 ≤ 4 * m + (row + 1) * 17179869184
      few_more = omega (arith, c.few, w.few)

      module _ (places : ℕ → Bool) (d : ℕ) (f : Fits places (view_of s) p.end d row) where
        pub weighing_in : (q : Part) (outer2 : List Part) → outer2 ≡ (p ∷ outer) → q.end ≡ cell s row AFTER
            → q.margin ≡ p.margin + steps_of (cell s row KIND)
            → steps_of (cell s row KIND) ≤ 1
            → Weighing s from stop m n2 outer2 q (row + 1)
        unfolding view_of StepsIn
        weighing_in q outer2 e end margin one =
            rw (e, add-one row)
            (record {
              marks = rw (← add-one row) marks_more;
              bytes = omega (arith, ahead_in s places outer p row d f q end margin, c.bytes, w.bytes);
              few = rw (← add-one row) few_more;
              steps = (omega (arith, margin_few, margin, one), c.steps);
            })

        pub weighing_past : (after : ℕ) → after ≡ cell s row AFTER → after ≤ row + 1 → Weighing s from stop m n2 outer p (row + 1)
        unfolding view_of
        weighing_past after same past =
            let up = f.within.up in
            let e : cell s row AFTER ≡ suc row = omega arith in
            rw (add-one row)
            (record {
              marks = rw (← add-one row) marks_more;
              bytes = omega (arith, ahead_past s places outer p row d f e, c.bytes, w.bytes);
              few = rw (← add-one row) few_more;
              steps = c.steps;
            })

    pub weighing_end : outer ≡ [] → p.end ≡ stop → stop ≤ row → NeedsOf s from stop m n
    unfolding ahead
    weighing_end e end h =
        let a = none_most s row p.end p.margin (omega (arith, end)) in
        let q = none_needed (stop - row) s row (omega arith) in
        let all = ap (λ (ps : List Part). ahead s ps p row) e in
        record { marks = omega (arith, c.marks); bytes = omega (arith, c.bytes) }

    pub weighing_out : (q : Part) (qs : List Part) → outer ≡ (q ∷ qs) → row ≡ p.end → Weighing s from stop m n qs q row
    unfolding ahead StepsIn
    weighing_out q qs e end =
        let a = none_most s row p.end p.margin (omega (arith, end)) in
        let all = ap (λ (ps : List Part). ahead s ps p row) e in
        let here = ap (ahead s qs q) end in
        let steps = subst (λ (ps : List Part). StepsIn m ps p) e c.steps in
        record { marks = c.marks; bytes = omega (arith, c.bytes); few = c.few; steps = steps.1 }

-- what is told of a result that is given whole
pub weighed_ok : (s : List ℕ) (from stop m : ℕ) (n : Needs) → NeedsOf s from stop m n
    → ((k : Needs) → ◌≡◌ {A = Result Needs ℕ} (Ok n) (Ok k) → NeedsOf s from stop m k)
weighed_ok s from stop m n d k e = let same : n ≡ k = cc in subst (NeedsOf s from stop m) same d
