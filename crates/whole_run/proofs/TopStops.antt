-- A stop at which no row is open is the end of a rendering up to its next row; and where the next row is the stop, no row is open.
-- Assumes nothing.
use mathlib.Core.Path.{◌≡◌, refl, sym, ap, subst, ◌∙◌}
use mathlib.Core.Bool.{true}
use mathlib.Core.List.{List, [], ◌∷◌, ◌++◌}
use Prim.Native.Nat.{ℕ, zero, suc, ◌+◌, ◌-◌, ◌≤◌, ◌<◌, min}
use native.Mathlib.Omega.{arith}
use native.Mathlib.Decide.{dec_lt}
use lib.ListN.{length, get_or, length-append}
use lib.Seq.{get_or-append-add}
use Rattle.std.proofs.lemmas.List.{get_or_append_left}
use Rattle.rows.specs.View.{View, view_of, nodes_at}
use Rattle.rows.specs.Nesting.{Nests}
use Rattle.renderer_rules.specs.Renderer.{Page, Renderer, render_nodes}
use Rattle.renderer_rules.specs.Stops.{OpenRow, Stop, stop_at}
use Rattle.renderer_rules.specs.Drift.{around}
use Rattle.renderer_rules.specs.Listed.{reads_from}
use Rattle.renderer_rules.proofs.Drift.{around_none, around_from, nests_ends, rows_of}
use Rattle.renderer_rules.proofs.Ranges.{among, after, among_join}
use Rattle.cut_rule.specs.Rules.{RenderTo}
use Rattle.cut_rule.specs.Laws.{to_stop}
use Rattle.cut_rule.specs.States.{RenderChoice, render_fresh}
use Rattle.cut_rule.specs.Parts.{Drawn}
use Rattle.whole_run.specs.Parts.{renderer_of, page, whole_drawn, drawn}
use Rattle.whole_run.proofs.AllRows.{all_few}
use Rattle.whole_run.proofs.Placed.{placed, Rising, rising_few, rising_at, entered_rises}
use Rattle.whole_run.proofs.StopTops.{reads_at_top, lists_all}
use Rattle.whole_run.proofs.StopParts.{nests_split, get_min, from_fresh, fresh_drawn, row_at, all_are, fresh_runs_out, fresh_further}

-- each of the rows entered is before the end
rising_before : (i j n : ℕ) (l : List Stop) (d : Stop) → Rising i j l → n < length l → (get_or l n d).next < j
rising_before i j n [] d a h = absurd (omega arith)
rising_before i j zero (e ∷ l) d a h = let b = rising_few (suc e.next) j l a.1 in omega arith
rising_before i j (suc n) (e ∷ l) d a h = rising_before (suc e.next) j n l d a.1 (omega arith)

no_rows : (ls : List OpenRow) → rows_of ls ≡ [] → ls ≡ []
unfolding rows_of
no_rows [] e = refl
no_rows (l ∷ ls) e = let z : length (rows_of (l ∷ ls)) ≡ 0 = ap length e in absurd (omega arith)

module _ (s b : List ℕ) (q : RenderTo RenderChoice) (n : ℕ) (marks store : List ℕ) (g : Nests (view_of store) 0 q.stop 0) where
  abbrev v : View
  v = view_of store

  abbrev pg : Page
  pg = page q.choice s b

  abbrev start : Renderer
  start = renderer_of render_fresh.pen marks

  abbrev here : Drawn
  here = drawn s b render_fresh q n marks store

  -- where the next row is the stop
  pub none_open : here.row ≡ q.stop → here.listed ≡ []
  none_open e =
      let d = fresh_drawn s b q marks store n in
      let x = lists_all v pg q.stop g start (after v pg 0 q.stop true start) n in
      let row = sym (ap (λ (y : Drawn). y.row) d) ∙ e in
      ap (λ (y : Drawn). y.listed) d
      ∙ no_rows _
      (x.are
      ∙ ap (around v 0) row
      ∙ around_from v 0 q.stop q.stop (omega arith) (omega arith) (λ k a c. nests_ends g k a c)
      ∙ around_none v q.stop)

  module _ (none_here : here.listed ≡ []) where
    abbrev row : ℕ
    row = here.row

    row_le : row ≤ q.stop
    row_le = (row_at s b q marks store g n).1

    pub top : Nests v 0 row 0
    top =
        let t = (reads_at_top v pg q.stop g start (after v pg 0 q.stop true start) n).0 in
        let d = fresh_drawn s b q marks store n in
        subst (λ (ls : List OpenRow). Nests v 0 (reads_from ls row) 0) none_here
        (subst (λ (y : Drawn). Nests v 0 (reads_from y.listed y.row) 0) (sym d) t)

    abbrev before : List Stop
    before = from_fresh s b (to_stop row q.choice) marks store

    abbrev whole : List Stop
    whole = from_fresh s b q marks store

    abbrev between : List Stop
    between = among v pg row q.stop [] true (after v pg 0 row true start)

    abbrev last : Stop
    last = stop_at q.stop [] (after v pg 0 q.stop true start)

    abbrev count : ℕ
    count = min n (length whole)

    parts : whole ≡ before ++ between
    parts = among_join v pg q.stop top row_le [] true start

    there : (get_or whole count last).next ≡ row
    there = sym (ap (λ (y : Drawn). y.row) (fresh_drawn s b q marks store n) ∙ ap (λ (x : Stop). x.next) (get_min whole n last))

    all_before : count ≡ length before
    all_before = go (dec_lt count (length before)) (dec_lt (length before) count)
      where
        sum : length whole ≡ length before + length between
        sum = ap length parts ∙ length-append before between

        go : Dec (count < length before) → Dec (length before < count) → count ≡ length before
        go (yes a) c =
            let r = entered_rises v pg (nodes_at v 0 row) 0 row [] true start (placed v top) in
            let x = rising_before 0 row count before last r a in
            let e : get_or whole count last ≡ get_or before count last =
            ap (λ (l : List Stop). get_or l count last) parts ∙ get_or_append_left before between last count a in
            let y = ap (λ (x : Stop). x.next) e in
            absurd (omega (arith, x, y, there))
        go (no a) (yes c) =
            let i : length before + (count - length before) ≡ count = omega arith in
            let r = entered_rises v pg (nodes_at v row q.stop) row q.stop [] true (after v pg 0 row true start) (placed v (nests_split top g row_le)) in
            let x = (rising_at row q.stop (count - length before) between last r refl (omega (arith, sum))).0 in
            let e : get_or whole count last ≡ get_or between (count - length before) last =
            ap (λ (l : List Stop). get_or l count last) parts
            ∙ ap (λ (k : ℕ). get_or (before ++ between) k last) (sym i)
            ∙ get_or-append-add before between (count - length before) last in
            let y = ap (λ (x : Stop). x.next) e in
            absurd (omega (arith, x, y, there))
        go (no a) (no c) = omega arith

    pub top_stop : here ≡ whole_drawn row (length before) (render_nodes pg (nodes_at v 0 row) true start)
    top_stop =
        let p = to_stop row q.choice in
        fresh_runs_out s b q marks store g n
        ∙ ap (λ (k : ℕ). drawn s b render_fresh q k marks store) (ap (min n) (all_are s b q marks store g) ∙ all_before)
        ∙ fresh_further s b q.choice row q.stop marks store row_le top g (length before) (omega (arith, all_are s b p marks store top))
        ∙ all_few s b render_fresh p (length before) marks store refl (omega arith)
