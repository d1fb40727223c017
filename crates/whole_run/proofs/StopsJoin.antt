-- j rows, and then k from the state there, are j + k: what is ahead of a stop is what was ahead before, less the rows entered (`hands_on`), its
-- state's rows are read back as they were, and with the text so far ahead it is the same rendering.
-- Assumes nothing.
use mathlib.Core.Path.{◌≡◌, refl, sym, ap, ap₂, subst, ◌∙◌}
use mathlib.Core.Bool.{true}
use mathlib.Core.List.{List, [], ◌∷◌, ◌++◌, append-nil, append_assoc, map}
use Prim.Native.Nat.{ℕ, suc, ◌+◌, ◌-◌, ◌≤◌, ◌<◌, min, max}
use native.Mathlib.Omega.{arith}
use native.Mathlib.Nat.{max-zero}
use borrow.Author.Tests.{eq-eqb}
use lib.ListN.{length, get_or, take, drop, replicate, length-append, length-map, length-drop, length-take, length-replicate}
use lib.Seq.{get_or-append-add}
use Rattle.rows.specs.Limits.{MAX_DEPTH}
use Rattle.rows.specs.Kinds.{CALL}
use Rattle.rows.specs.View.{View, view_of, nodes_at}
use Rattle.rows.specs.Nesting.{Nests}
use Rattle.marks.specs.Marks.{marks_needed}
use Rattle.renderer_rules.specs.declared.Frame.{Frame}
use Rattle.renderer_rules.specs.Frames.{no_frame, part_limit, At, Under}
use Rattle.renderer_rules.specs.Machine.{Machine, started}
use Rattle.renderer_rules.specs.Renderer.{Page, Renderer, with_buf, with_marks, with_widest}
use Rattle.renderer_rules.specs.Stops.{OpenRow, listed_as, listed_rows, Stop, stop_at, ahead, meaning}
use Rattle.renderer_rules.specs.Listed.{resumed, same_rows}
use Rattle.renderer_rules.proofs.Machine.{Fine, left}
use Rattle.renderer_rules.proofs.Allot.{allot}
use Rattle.renderer_rules.proofs.Stopped.{Stops, allot_stops}
use Rattle.renderer_rules.proofs.Handed.{HandsOn, hands_on, dropped}
use Rattle.renderer_rules.proofs.Ranges.{after}
use Rattle.renderer_rules.proofs.Drift.{rows_of}
use Rattle.renderer_rules.proofs.Resumed.{Holds, reads_back}
use Rattle.cut_rule.specs.Rules.{RenderTo}
use Rattle.cut_rule.specs.States.{RenderChoice, RenderState, render_fresh}
use Rattle.cut_rule.specs.Parts.{Drawn}
use Rattle.cut_rule.specs.PartLaws.{then_drawn, StoppedAt}
use Rattle.whole_run.specs.Parts.{renderer_of, page, open_rows, drawn_at, still_entered, all_rendered, drawn}
use Rattle.whole_run.proofs.Past.{Unders}
use Rattle.whole_run.proofs.Marks.{each_under, nodes_under}
use Rattle.whole_run.proofs.StopsPast.{longer, stop_longer}
use Rattle.whole_run.proofs.StopMarks.{Keeps, entered_keeps}
use Rattle.whole_run.proofs.StopTops.{all_get, Lists, lists_all}
use Rattle.whole_run.proofs.StopsOn.{ahead_long}
use Rattle.whole_run.proofs.Past.{renders_length}
use Rattle.whole_run.proofs.StopParts.{get_map, from_fresh, fresh_rows, fresh_end, fresh_drawn}

-- ---- listed rows in place
pub holds_from : (v : View) (n : ℕ) (front : List Frame) (ls : List OpenRow) (behind : List Frame)
    → Holds v n (front ++ (map (resumed v n) ls ++ behind)) (length front) ls
unfolding Holds
holds_from v n front [] behind = tt
holds_from v n front (l ∷ ls) behind =
    let f = resumed v n l in
    let more = map (resumed v n) ls ++ behind in
    let z : length front + 0 ≡ length front = omega arith in
    let i : length (front ++ (f ∷ [])) ≡ suc (length front) = omega (arith, length-append front (f ∷ [])) in (
      ap (λ (k : ℕ). get_or (front ++ (f ∷ more)) k no_frame) (sym z) ∙ get_or-append-add front (f ∷ more) 0 no_frame,
      subst (λ (k : ℕ). Holds v n (front ++ (f ∷ more)) k ls) i
          (subst (λ (fs : List Frame). Holds v n fs (length (front ++ (f ∷ []))) ls) (append_assoc front (f ∷ []) more)
          (holds_from v n (front ++ (f ∷ [])) ls behind)),
    )

same_listed : (ls : List OpenRow) → same_rows ls (rows_of ls) ≡ true
unfolding same_rows rows_of
same_listed [] = refl
same_listed (l ∷ ls) = rw (eq-eqb l.row l.row refl) (same_listed ls)

module _ (s b : List ℕ) (q : RenderTo RenderChoice) (marks store : List ℕ) (g : Nests (view_of store) 0 q.stop 0)
    (enough : marks_needed (q.stop - 0) store 0 ≤ length marks) (j : ℕ) where
  abbrev v : View
  v = view_of store

  abbrev pg : Page
  pg = page q.choice s b

  abbrev start : Renderer
  start = renderer_of render_fresh.pen marks

  abbrev l : List Stop
  l = from_fresh s b q marks store

  abbrev final : Renderer
  final = after v pg 0 q.stop true start

  abbrev last : Stop
  last = stop_at q.stop [] final

  -- where j rows end
  abbrev e : Stop
  e = get_or l j last

  abbrev none_open : List Frame
  none_open = open_rows v render_fresh

  abbrev machine : Machine
  machine = started none_open 0 start

  none_size : length none_open ≡ MAX_DEPTH
  none_size = length-replicate (MAX_DEPTH - 0) no_frame ∙ omega arith

  fine : Fine v pg q.stop machine
  unfolding part_limit Under
  fine = record { good = g; under = tt; low = omega arith; size = none_size; deep = omega arith }

  handed : HandsOn v pg q.stop e (drop j l) final
  handed =
      let h = hands_on v pg q.stop j machine fine (λ i x. absurd (omega arith)) in
      subst (λ (d : Stop). HandsOn v pg q.stop (get_or l j d) (drop j l) d.state) (fresh_end s b q marks store)
      (subst
      (λ (k : List Stop).
      HandsOn v pg q.stop (get_or k j (all_rendered s b render_fresh q marks store)) (drop j k) (all_rendered s b render_fresh q marks store).state)
      (fresh_rows s b q marks store)
      h)

  -- at most so many rows are listed
  few_listed : length e.listed ≤ MAX_DEPTH
  unfolding listed_rows
  few_listed =
      let t : Stops v pg q.stop j machine (allot v pg q.stop (left q.stop machine) (0 + j) machine) =
      allot_stops v pg q.stop (left q.stop machine) j machine fine (omega arith) in
      let n = allot v pg q.stop (left q.stop machine) (0 + j) machine in
      let same : e ≡ stop_at n.next (listed_rows n.frames n.depth) n.state =
      sym (t.stops ∙ ap₂ (λ (k : List Stop) (d : Stop). get_or k j d) (fresh_rows s b q marks store) (fresh_end s b q marks store)) in
      let deep = t.fine.deep in
      let le : length (map listed_as (take n.depth n.frames)) ≤ n.depth =
      omega (arith, length-map (take n.depth n.frames) listed_as, length-take n.depth n.frames) in
      subst (λ (x : Stop). length x.listed ≤ MAX_DEPTH) (sym same) (omega arith)

  listed_there : Lists v pg q.stop g start final j e
  listed_there = lists_all v pg q.stop g start final j

  e_marks : length e.state.marks ≡ length marks
  e_marks =
      (all_get (Keeps (length marks)) l j last
      (entered_keeps v pg (length marks) (nodes_at v 0 q.stop) 0 [] true start refl)
      (record { marks = renders_length pg (nodes_at v 0 q.stop) true start })).marks

  -- ---- a state that stopped there
  module _ (z : RenderState) (row : z.row ≡ e.next) (listed : z.listed ≡ e.listed) (pen : z.pen ≡ e.state.pen) (k : ℕ) where
    abbrev here : RenderState
    here = record { pen = e.state.pen; in_use = z.in_use; row = e.next; width = z.width; rule = z.rule; listed = e.listed }

    abbrev open_there : List Frame
    open_there = open_rows v here

    abbrev depth : ℕ
    depth = length here.listed

    open_size : length open_there ≡ MAX_DEPTH
    open_size =
        omega (
          arith,
          length-append (map (resumed v e.next) e.listed) (replicate (MAX_DEPTH - depth) no_frame),
          length-map e.listed (resumed v e.next),
          length-replicate (MAX_DEPTH - depth) no_frame,
          few_listed,
        )

    held : Holds v e.next open_there 0 e.listed
    held = holds_from v e.next [] e.listed (replicate (MAX_DEPTH - depth) no_frame)

    open_at : At v q.stop open_there depth e.next
    open_at =
        reads_back v pg q.stop e.next open_there 0 e.listed open_size g (omega arith) listed_there.to held
        (ap (same_rows e.listed) (sym listed_there.are) ∙ same_listed e.listed)

    -- with the text so far ahead
    abbrev bare : Renderer
    bare = renderer_of e.state.pen e.state.marks

    abbrev long : Renderer → Renderer
    long r = longer e.state.buf [] e.state.widest v pg r

    abbrev long_stop : Stop → Stop
    long_stop x = stop_longer e.state.buf [] e.state.widest v pg x

    as_it_was : long bare ≡ e.state
    as_it_was =
        ap₂ (λ (x m : List ℕ). with_buf x (with_marks m (with_widest (max e.state.widest 0) e.state))) (append-nil e.state.buf) (append-nil e.state.marks)
        ∙ ap (λ (w : ℕ). with_buf e.state.buf (with_marks e.state.marks (with_widest w e.state))) (max-zero e.state.widest)

    under : (i t : ℕ) → 0 ≤ i → t ≤ q.stop → Unders (length e.state.marks) (nodes_at v i t)
    under i t l h = nodes_under store (q.stop - 0) 0 i t (length e.state.marks) (omega (arith, enough, e_marks)) (omega arith) (omega arith)

    second_under : (i : ℕ) → 0 ≤ i → i < q.stop → v.kind i ≡ CALL → v.number2 i < length e.state.marks
    unfolding view_of
    second_under i l h c =
        let x = each_under (q.stop - 0) store 0 (length e.state.marks) (omega (arith, enough, e_marks)) i (omega arith) (omega arith) in
        let y = rw c at x in
        omega arith

    both_long : (ahead v pg q.stop open_there depth e.next (long bare)
        ≡ map long_stop (ahead v pg q.stop open_there depth e.next bare))
        × (meaning v pg q.stop open_there depth e.next (long bare) ≡ long (meaning v pg q.stop open_there depth e.next bare))
    both_long =
        ahead_long e.state.buf [] e.state.widest v pg 0 q.stop (length e.state.marks) under second_under open_there depth e.next bare open_at.under open_at.low
        (omega arith) (λ j h. record { row = omega arith; after = omega arith; part = λ y. omega arith }) refl

    abbrev rows_on : List Stop
    rows_on = still_entered s b here q e.state.marks store

    abbrev end_on : Stop
    end_on = all_rendered s b here q e.state.marks store

    rows_are : map long_stop rows_on ≡ drop j l
    rows_are =
        sym both_long.0
        ∙ ap (ahead v pg q.stop open_there depth e.next) as_it_was
        ∙ handed.rows_ahead open_there open_size held

    end_is : long_stop end_on ≡ last
    end_is =
        ap (stop_at q.stop [])
        (sym both_long.1
        ∙ ap (meaning v pg q.stop open_there depth e.next) as_it_was
        ∙ handed.end_is open_there open_size held)

    count : min (j + k) (length l) ≡ min j (length l) + min k (length rows_on)
    count =
        let x : length rows_on ≡ length l - j = sym (length-map rows_on long_stop) ∙ ap length rows_are ∙ length-drop j l in
        omega (arith, x)

    stop_is : get_or l (j + k) last ≡ long_stop (get_or rows_on k end_on)
    stop_is =
        sym (dropped l j k last)
        ∙ ap₂ (λ (x : List Stop) (d : Stop). get_or x k d) (sym rows_are) (sym end_is)
        ∙ get_map long_stop rows_on k end_on

    joined_here : drawn s b render_fresh q (j + k) marks store
        ≡ then_drawn (drawn s b render_fresh q j marks store) (λ ms. drawn s b here q k ms store)
    joined_here =
        let y = get_or rows_on k end_on in
        fresh_drawn s b q marks store (j + k)
        ∙ ap₂ drawn_at stop_is count
        ∙ ap (λ (ms : List ℕ). record {
          pen = y.state.pen;
          listed = y.listed;
          row = y.next;
          marks = ms;
          text = e.state.buf ++ y.state.buf;
          entered = min j (length l) + min k (length rows_on);
        }) (append-nil y.state.marks)
        ∙ ap (λ (x : Drawn). then_drawn x (λ ms. drawn s b here q k ms store)) (sym (fresh_drawn s b q marks store j))

    joined_at : drawn s b render_fresh q (j + k) marks store
        ≡ then_drawn (drawn s b render_fresh q j marks store) (λ ms. drawn s b z q k ms store)
    joined_at =
        joined_here
        ∙ (λ t.
        then_drawn (drawn s b render_fresh q j marks store)
        (λ ms.
        drawn s b
        (record { pen = sym pen t; in_use = z.in_use; row = sym row t; width = z.width; rule = z.rule; listed = sym listed t })
        q k ms store))

  pub joined : (z : RenderState) (k : ℕ) → StoppedAt (drawn s b render_fresh q j marks store) z
      → drawn s b render_fresh q (j + k) marks store ≡ then_drawn (drawn s b render_fresh q j marks store) (λ ms. drawn s b z q k ms store)
  joined z k there =
      let d = fresh_drawn s b q marks store j in
      joined_at z (there.row ∙ ap (λ (y : Drawn). y.row) d) (there.listed ∙ ap (λ (y : Drawn). y.listed) d) (there.pen ∙ ap (λ (y : Drawn). y.pen) d) k
