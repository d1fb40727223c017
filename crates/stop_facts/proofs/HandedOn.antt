-- The next call goes on: each line before the room's lets the state pass that a call answers.
-- Assumes nothing.
use mathlib.Core.Path.{◌≡◌, refl, sym, ap, subst, ◌∙◌}
use mathlib.Core.Bool.{Bool, true, false, not, ◌&&◌, ◌||◌}
use mathlib.Core.List.{List, [], ◌∷◌, ◌++◌}
use Rattle.std.specs.Prelude.{Option, None}
use Prim.Native.Nat.{ℕ, zero, suc, ◌+◌, ◌-◌, ◌≤◌, max}
use native.Mathlib.Omega.{arith}
use lib.Dec.{ltb, eqb}
use lib.Seq.{take_at}
use lib.ListN.{length, take, replicate, length-append, length-take, length-replicate}
use borrow.Author.Tests.{le-ltb, eq-eqb, ne_eqb}
use Rattle.laws.proofs.Booleans.{and_false}
use Rattle.refusals.specs.Refusals.{Refusal, refuse_if, refuse_at, any, first}
use Rattle.refusals.proofs.Groups.{none_both, passes_left, passes_line, passes_others, not_if}
use Rattle.image.specs.Read.{read_earlier}
use Rattle.rows.specs.Limits.{MAX_ROWS}
use Rattle.rows.specs.View.{view_of}
use Rattle.marks.specs.Marks.{marks_needed}
use Rattle.renderer_rules.specs.Limits.{MAX_INDENT, MAX_COLUMN}
use Rattle.renderer_rules.specs.Stops.{Stop}
use Rattle.renderer_rules.specs.Check.{wrong_place_by}
use Rattle.cut_rule.specs.Limits.{MIN_WIDTH, MAX_WIDTH, MAX_LISTED}
use Rattle.cut_rule.specs.Rules.{RenderTo, RenderArgs, RenderResult}
use Rattle.cut_rule.specs.Laws.{to_stop}
use Rattle.cut_rule.specs.Allotments.{sum_of}
use Rattle.cut_rule.specs.States.{RenderChoice, RenderState, render_fresh}
use Rattle.cut_rule.specs.Tests.{rows_in, odd_mark, differs, row_tests, pen_tests, mark_tests, rule_tests, width_tests, allotment_tests, listed_tests}
use Rattle.cut_rule.specs.Tests.{render_tests}
use Rattle.cut_rule.specs.Parts.{rule_line, width_line, allotment_line, listed_line, read_from, with_cleared, before_marks, marks_line, before_text}
use Rattle.cut_rule.proofs.Table.{LegalWidth, width_fits, before_told}
use Rattle.cut_rule.proofs.RenderParts.{read_first}
use Rattle.renderer_rules.specs.Listed.{can_close_all}
use Rattle.whole_run.specs.Parts.{other_rule, render_image, stopped, parts_of}
use Rattle.whole_run.proofs.Allotments.{allotments_join}
use Rattle.whole_run.proofs.Marks.{marks_add}
use Rattle.whole_run.proofs.Right.{Right, right, none_found}
use Rattle.whole_run.proofs.RenderParts.{render_parts}
use Rattle.stop_facts.specs.HandedOn.{AreCells, call_to, called, HandedOn, HandedAlong, HandedAway, GoesOn, HandedFrom}
use Rattle.stop_facts.proofs.Small.{small}
use Rattle.stop_facts.proofs.Listed.{nests_from}
use Rattle.stop_facts.proofs.Start.{Admitted, base}
use Rattle.stop_facts.proofs.Answered.{Answered, answered}

-- ---- the lines
all_pass : (a b c d e f g h : Option Refusal) → a ≡ None → b ≡ None → c ≡ None → d ≡ None → e ≡ None → f ≡ None → g ≡ None → h ≡ None
    → first ((a ∷ b ∷ c ∷ d ∷ e ∷ f ∷ g ∷ []) ++ (h ∷ [])) ≡ None
all_pass a b c d e f g h p q r s t u v w = rw (p, q, r, s, t, u, v, w) refl

no_refusal : (b : Bool) (n p : ℕ) → b ≡ false → refuse_if b n p ≡ None
no_refusal b n p e = ap (λ (x : Bool). refuse_if x n p) e

no_place : (o : Option ℕ) (n : ℕ) → o ≡ None → refuse_at o n ≡ None
no_place o n e = ap (λ (x : Option ℕ). refuse_at x n) e

one_false : (a : Bool) → a ≡ false → any (a ∷ []) ≡ false
one_false a e = rw e refl

two_false : (a b : Bool) → a ≡ false → b ≡ false → any (a ∷ b ∷ []) ≡ false
two_false a b e f = rw (e, f) refl

three_false : (a b c : Bool) → a ≡ false → b ≡ false → c ≡ false → any (a ∷ b ∷ c ∷ []) ≡ false
three_false a b c e f g = rw (e, f, g) refl

-- a choice does not differ from itself
same_choice : (n : ℕ) → differs n n ≡ false
same_choice n = ap (λ (b : Bool). not (eqb n 0) && not b) (eq-eqb n n refl) ∙ and_false (not (eqb n 0))

-- ---- marks of 0 or 1
even_on : (xs ys : List ℕ) → odd_mark xs ≡ false → odd_mark ys ≡ false → odd_mark (xs ++ ys) ≡ false
even_on [] ys e f = f
even_on (x ∷ xs) ys e f = go (ltb 1 x) (odd_mark xs) refl e (even_on xs ys)
  where
    go : (a b : Bool) → odd_mark xs ≡ b → (a || b) ≡ false → (odd_mark xs ≡ false → odd_mark ys ≡ false → odd_mark (xs ++ ys) ≡ false)
        → (a || odd_mark (xs ++ ys)) ≡ false
    go true b p q rec = q
    go false b p q rec = rec (p ∙ q) f

even_zeros : (n : ℕ) → odd_mark (replicate n 0) ≡ false
even_zeros zero = refl
even_zeros (suc n) = even_zeros n

-- ---- the state that a call answers
module _ (s b store marks : List ℕ) (q : RenderTo RenderChoice) (z : RenderState) (n : ℕ) (x : Admitted s b store q z) (cells : AreCells store)
    (even : odd_mark marks ≡ false)
    (in_use : z.in_use ≡ length marks)
  where
    abbrev needed : ℕ → ℕ
    needed i = marks_needed (q.stop - i) store i

    -- the marks that the call begins with, the new ones cleared
    abbrev cleared : List ℕ
    cleared = with_cleared (parts_of s b) marks (needed (read_from z))

    abbrev r : RenderResult RenderState
    r = called s b z q n marks store

    abbrev e : Stop
    e = stopped s b z q n cleared store

    cleared_size : length cleared ≡ max z.in_use (needed (read_from z))
    cleared_size =
        omega (
          arith,
          length-append marks (replicate (needed (read_from z) - length marks) 0),
          length-replicate {A = ℕ} (needed (read_from z) - length marks) 0,
          in_use,
        )

    marks_size : length r.marks ≡ r.state.in_use
    marks_size = (render_parts s b (read_earlier s b)).draw_marks z q n cleared store ∙ cleared_size

    is : Answered (view_of store) q.stop (read_from z) z.pen.column.0 (base s b store cleared q z x) e
    is =
        answered s b store cleared q z x (small q.choice.width q.choice.rule s b store cells)
        (even_on marks (replicate (needed (read_from z) - length marks) 0) even (even_zeros (needed (read_from z) - length marks)))
        n

    listed_pass : any (listed_tests (view_of store) r.state) ≡ false
    listed_pass =
        three_false _ _ _ (le-ltb MAX_LISTED (length e.listed) is.few) (ap not is.those) (ap not is.closable)

    marks_pass : (behind : List ℕ) → any (mark_tests (r.marks ++ behind) r.state.in_use) ≡ false
    marks_pass behind =
        two_false _ _ (le-ltb (length (r.marks ++ behind)) r.state.in_use (omega (arith, length-append r.marks behind, marks_size)))
        (ap odd_mark (take_at r.marks behind r.state.in_use marks_size) ∙ is.even)

    rule_pass : any (rule_tests q.choice.rule r.state.rule) ≡ false
    rule_pass = one_false _ (same_choice q.choice.rule)

    width_pass : LegalWidth q.choice.width → any (width_tests q.choice.width r.state.width) ≡ false
    width_pass w =
        three_false _ _ _ (le-ltb q.choice.width MIN_WIDTH w.least) (le-ltb MAX_WIDTH q.choice.width w.most) (same_choice q.choice.width)

    -- to a stop that the next row is not behind, in rows that are right up to it
    module _ (to : ℕ) (ahead : r.state.row ≤ to) (right_to : Right q.choice.rule s b store (read_from z) to) where
      row_pass : any (row_tests (rows_in store) to r.state.row) ≡ false
      row_pass =
          three_false _ _ _ (le-ltb (rows_in store) e.next (omega (arith, ahead, right_to.room))) (le-ltb to e.next ahead)
          (le-ltb MAX_ROWS e.next (omega (arith, ahead, right_to.few)))

      -- the rows that the next call reads
      rows_pass : wrong_place_by q.choice.rule s b store (read_from r.state) to ≡ None
      rows_pass =
          none_found q.choice.rule s b store (read_from r.state) to
          (record {
            few = right_to.few;
            room = right_to.room;
            nests = nests_from (view_of store) (read_from z) e.next to (read_from r.state) ahead is.reads right_to.nests;
            places = λ k p h. right_to.places k (omega (arith, is.reads.low)) h;
          })

      module _ (behind : List ℕ) (more : ℕ) (enough : marks_needed (to - read_from r.state) store (read_from r.state) ≤ length (r.marks ++ behind)) where
        abbrev next : RenderArgs RenderChoice
        next = call_to (to_stop to q.choice) more

        tests_pass : any (pen_tests r.state.pen) ≡ false → any (render_tests next r.state store (r.marks ++ behind)) ≡ false
        tests_pass pen =
            let mark = mark_tests (r.marks ++ behind) r.state.in_use in
            let rule = rule_tests q.choice.rule r.state.rule in
            none_both (row_tests (rows_in store) to r.state.row) (pen_tests r.state.pen ++ (mark ++ rule)) row_pass
            (none_both (pen_tests r.state.pen) (mark ++ rule) pen (none_both mark rule (marks_pass behind) rule_pass))

        passes_on : rule_line (other_rule b q.choice.rule) q.choice.rule ≡ None → render_image q.choice.rule s b ≡ None → LegalWidth q.choice.width
            → 1 ≤ more → any (pen_tests r.state.pen) ≡ false
            → first (before_text (parts_of s b) next r.state store (r.marks ++ behind)) ≡ None
        passes_on rule image width one pen =
            let needs = marks_needed (to - read_from r.state) store (read_from r.state) in
            all_pass _ _ _ _ _ _ _ _ rule image
            (no_place (wrong_place_by q.choice.rule s b store (read_from r.state) to) 11 rows_pass)
            (no_refusal (any (render_tests next r.state store (r.marks ++ behind))) 12 0 (tests_pass pen))
            (no_refusal (any (width_tests q.choice.width r.state.width)) 15 0 (width_pass width))
            (no_refusal (any (allotment_tests more)) 22 0 (one_false _ (ne_eqb more 0 (λ h. omega arith))))
            (no_refusal (any (listed_tests (view_of store) r.state)) 23 0 listed_pass)
            (no_refusal (ltb (length (r.marks ++ behind)) needs) 9 needs (le-ltb (length (r.marks ++ behind)) needs enough))

    -- to the same stop: there are marks for the rows that are read
    marks_enough : (behind : List ℕ) → needed (read_from r.state) ≤ length (r.marks ++ behind)
    marks_enough behind =
        let lo = read_from z in
        let a = read_from r.state in
        let i : q.stop - lo ≡ (a - lo) + (q.stop - a) = omega (arith, is.reads.low, is.reads.to, is.to) in
        let j : lo + (a - lo) ≡ a = omega (arith, is.reads.low) in
        omega (
          arith,
          ap (λ (k : ℕ). marks_needed k store lo) i,
          marks_add (a - lo) (q.stop - a) store lo,
          ap (λ (k : ℕ). marks_needed (q.stop - a) store k) j,
          length-append r.marks behind,
          marks_size,
        )

    again : rule_line (other_rule b q.choice.rule) q.choice.rule ≡ None → render_image q.choice.rule s b ≡ None → LegalWidth q.choice.width
        → (behind : List ℕ) (more : ℕ) → 1 ≤ more → any (pen_tests r.state.pen) ≡ false
        → first (before_text (parts_of s b) (call_to q more) r.state store (r.marks ++ behind)) ≡ None
    again rule image width behind more one pen = passes_on q.stop is.to x.right behind more (marks_enough behind) rule image width one pen

    goes_on : rule_line (other_rule b q.choice.rule) q.choice.rule ≡ None → render_image q.choice.rule s b ≡ None → LegalWidth q.choice.width
        → (behind : List ℕ) → GoesOn s b store q r behind
    goes_on rule image width behind =
        record {
          listed = listed_pass;
          row = row_pass q.stop is.to x.right;
          marks = marks_pass behind;
          rule = rule_pass;
          again = again rule image width behind;
        }

-- ---- from every state that the lines let pass
pub handed_from : HandedFrom
handed_from s b store marks z q n cells passes behind =
    let told = before_told (parts_of s b) (call_to q n) z store marks passes in
    let c = told.checked in
    let lines = passes_left (before_marks (parts_of s b) (call_to q n) z store marks) (marks_line (parts_of s b) (call_to q n) z store marks) passes in
    let rule = rule_line (other_rule b q.choice.rule) q.choice.rule in
    let image = render_image q.choice.rule s b in
    let behind_3 =
    refuse_at (wrong_place_by q.choice.rule s b store (read_from z) q.stop) 11
    ∷ refuse_if (any (render_tests (call_to q n) z store marks)) 12 0
    ∷ width_line q.choice z
    ∷ allotment_line n
    ∷ listed_line z store
    ∷ []
    in
    goes_on s b store (take z.in_use marks) q z n
    (record {
      right = right q.choice.rule s b store (read_from z) q.stop (omega (arith, read_first z.listed z.row, c.fits.row.not_past)) c.right;
      ahead = c.fits.row.not_past;
      indent = c.fits.pen.indent;
      next_indent = c.fits.pen.next_indent;
      column = c.fits.pen.column;
      few_listed = c.listed.few;
      those = c.listed.those;
      closable = c.listed.closable;
    })
    cells
    c.fits.used.even
    (omega (arith, length-take z.in_use marks, c.fits.used.there))
    (passes_line rule (image ∷ behind_3) lines)
    (passes_line image behind_3 (passes_others rule (image ∷ behind_3) lines))
    c.width.legal
    behind

-- ---- from fresh
fresh_admitted : (s b store : List ℕ) (q : RenderTo RenderChoice) → wrong_place_by q.choice.rule s b store 0 q.stop ≡ None
    → Admitted s b store q render_fresh
unfolding can_close_all
fresh_admitted s b store q fits =
    record {
      right = right q.choice.rule s b store 0 q.stop (omega arith) fits;
      ahead = omega arith;
      indent = omega arith;
      next_indent = omega arith;
      column = omega arith;
      few_listed = omega arith;
      those = refl;
      closable = refl;
    }

-- the pen of a stop is within the bounds: a step for each row that is open at most, and 2 ^ 34 columns for each row passed
fresh_pen : (s b store : List ℕ) (q : RenderTo RenderChoice) (n : ℕ) → AreCells store → wrong_place_by q.choice.rule s b store 0 q.stop ≡ None
    → any (pen_tests (called s b render_fresh q n [] store).state.pen) ≡ false
fresh_pen s b store q n cells fits =
    let x = fresh_admitted s b store q fits in
    let a = is s b store [] q render_fresh n x cells refl refl in
    three_false _ _ _
    (le-ltb MAX_INDENT (called s b render_fresh q n [] store).state.pen.indent (omega (arith, a.margin_low)))
    (le-ltb MAX_INDENT (called s b render_fresh q n [] store).state.pen.next_indent (omega (arith, a.margin_low)))
    (le-ltb MAX_COLUMN (called s b render_fresh q n [] store).state.pen.column.0 (omega (arith, a.column_low, a.to, x.right.few)))

pub handed_on : HandedOn
handed_on s b store q n cells rule image width fits more behind one =
    again s b store [] q render_fresh n (fresh_admitted s b store q fits) cells refl refl rule image
    (width_fits q.choice.width 0 (not_if (any (width_tests q.choice.width 0)) 15 0 width)).legal
    behind
    more
    one
    (fresh_pen s b store q n cells fits)

pub handed_along : HandedAlong
handed_along s b store q n ns cells rule image width fits more behind one =
    subst
    (λ (y : RenderResult RenderState). first (before_text (parts_of s b) (call_to q more) y.state store (y.marks ++ behind)) ≡ None)
    (sym ((allotments_join s b store q rule width fits).joined n ns))
    (handed_on s b store q (n + sum_of ns) cells rule image width fits more behind one)

pub handed_away : HandedAway
handed_away s b store q n cells rule image width fits to more behind one right_to ahead enough =
    passes_on s b store [] q render_fresh n (fresh_admitted s b store q fits) cells refl refl to ahead
    (right q.choice.rule s b store 0 to (omega arith) right_to)
    behind
    more
    enough
    rule
    image
    (width_fits q.choice.width 0 (not_if (any (width_tests q.choice.width 0)) 15 0 width)).legal
    one
    (fresh_pen s b store q n cells fits)
