-- The machine: one turn closes the innermost open row or enters the next row. Turned to its end, it renders as the rules do, since each turn
-- keeps what the open rows mean, and less is left.
-- Assumes nothing.
use mathlib.Core.Path.{◌≡◌, refl, ap, ap₂, sym, ◌∙◌, subst}
use Prim.Native.Nat.{ℕ, zero, suc, ◌+◌, ◌*◌, ◌-◌, ◌≤◌, ◌<◌}
use native.Mathlib.Omega.{arith}
use native.Mathlib.Numerals.{add-one}
use mathlib.Core.Bool.{Bool, true, false, cond, ◌&&◌}
use mathlib.Core.List.{List}
use lib.ListN.{length, set}
use lib.Dec.{eqb}
use borrow.Author.Tests.{ne_eqb, eq-eqb, eqb-true, eqb-false}
use Rattle.rows.specs.Limits.{MAX_DEPTH}
use Rattle.rows.specs.Kinds.{GROUP, INDENT, INDENT_NEXT, WRAP_PARENT, LINE_OR_SPACE, IF_WRAP, CALL}
use Rattle.laws.proofs.Numbers.{lt_of}
use Rattle.laws.proofs.Booleans.{both}
use Rattle.rows.specs.Node.{wrapped}
use Rattle.rows.specs.View.{View, nodes_at, node_at}
use Rattle.rows.specs.Nesting.{Nests}
use Rattle.rows.proofs.Decode.{nodes_none}
use Rattle.rows.proofs.Nested.{nests_le, nests_two, nests_pair, nests_kind, nests_after, nests_deep}
use Rattle.renderer_rules.specs.declared.Frame.{Frame}
use Rattle.renderer_rules.specs.Renderer.{Page, Renderer, render_node, render_nodes, group_wraps, insert}
use Rattle.renderer_rules.specs.Frames.{frame_at, part_end, part_limit, wrap_at, Under, At}
use Rattle.renderer_rules.specs.Machine.{Machine, started, opened, reopened, closed_to, frame_of, call_frame, closing, enter_group}
use Rattle.renderer_rules.specs.Machine.{enter_indent, enter_next, enter_leaf, enter_if, enter_call, enter, leave, turn_at, turn}
use Rattle.renderer_rules.specs.Safe.{one_if}
use Rattle.renderer_rules.specs.Stops.{rest, meaning}
use Rattle.renderer_rules.proofs.Meaning.{pop, frame_other, frame_same, open_group}
use Rattle.renderer_rules.proofs.Meaning.{open_indent, open_next, open_if_first, open_if_second, open_call, call_on}
use Rattle.renderer_rules.proofs.Opened.{at_leaf, at_block, at_pop_suc, at_top_suc, advance_leaf, at_first_lem, at_second, at_call, at_on}

-- how many turns the open rows can still take
unfoldable pub weight : List Frame → ℕ → ℕ
weight fs zero = 0
weight fs (suc d) = suc (one_if (frame_at fs d).first) + weight fs d

weight_ge : (fs : List Frame) (d : ℕ) → d ≤ weight fs d
unfolding weight
weight_ge fs zero = omega arith
weight_ge fs (suc d) = let a = weight_ge fs d in omega arith

weight_set : (v : View) (pg : Page) (stop : ℕ) (fs : List Frame) (k d : ℕ) (f : Frame) → d ≤ k → weight (set fs k f) d ≡ weight fs d
unfolding weight
weight_set v pg stop fs k zero f h = refl
weight_set v pg stop fs k (suc d) f h =
    ap₂ (λ (x : Frame) (n : ℕ). suc (one_if x.first) + n) (frame_other v pg stop fs k d f h) (weight_set v pg stop fs k d f (omega arith))

weight_top : (v : View) (pg : Page) (stop : ℕ) (fs : List Frame) (d : ℕ) (f : Frame)
    → d < length fs → weight (set fs d f) (suc d) ≡ suc (one_if f.first) + weight fs d
unfolding weight
weight_top v pg stop fs d f h =
    ap₂ (λ (x : Frame) (n : ℕ). suc (one_if x.first) + n) (frame_same v pg stop fs d f h) (weight_set v pg stop fs d d f (omega arith))

weight_suc : (fs : List Frame) (d : ℕ) → weight fs (suc d) ≡ suc (one_if (frame_at fs d).first) + weight fs d
unfolding weight
weight_suc fs d = refl

bit_le2 : (b : Bool) → one_if b ≤ 1
bit_le2 true = omega arith
bit_le2 false = omega arith

abbrev pub left : ℕ → Machine → ℕ
left stop m = (stop - m.next) * 3 + weight m.frames m.depth

module _ (v : View) (pg : Page) (stop : ℕ) where
  abbrev pub means : Machine → Renderer
  means m = meaning v pg stop m.frames m.depth m.next m.state

  abbrev pub Fine : Machine → Type 0
  Fine m = At v stop m.frames m.depth m.next

  module _ (m : Machine) (a : Fine m) (h : m.next < part_limit v stop m.frames m.depth) where
    roomy : m.depth < length m.frames
    roomy = rw a.size (nests_deep a.good h)

    leaf_same : WRAP_PARENT ≤ v.kind m.next → v.kind m.next ≤ LINE_OR_SPACE → means (enter_leaf v pg m) ≡ means m
    unfolding enter_leaf
    leaf_same k l =
        ap (λ (j : ℕ). meaning v pg stop m.frames m.depth j (render_node pg (node_at v m.next) (wrap_at m.frames m.depth) m.state))
        (sym (add-one m.next))
        ∙ advance_leaf v pg stop m.frames m.depth m.next m.state a h k l

    if_same : v.kind m.next ≡ IF_WRAP → means (enter_if v pg m) ≡ means m
    unfolding enter_if
    if_same k = go (wrapped m.state.marks (v.number m.next)) refl
      where
        go : (b : Bool) → wrapped m.state.marks (v.number m.next) ≡ b
            → means (cond b (opened m (frame_of m.next (wrap_at m.frames m.depth) true) (suc m.next) m.state)
            (opened m (frame_of m.next (wrap_at m.frames m.depth) false) (v.second m.next) m.state))
            ≡ means m
        go true e = open_if_first v pg stop m.frames m.depth m.next m.state roomy (nests_after a.good h) k (nests_two a.good h k).0 e
        go false e = open_if_second v pg stop m.frames m.depth m.next m.state roomy (nests_after a.good h) k (nests_two a.good h k).0 e

    group_same : v.kind m.next ≡ GROUP → means (enter_group v pg m) ≡ means m
    unfolding enter_group
    group_same k = open_group v pg stop m.frames m.depth m.next m.state _ roomy (nests_after a.good h) k refl

    indent_same : v.kind m.next ≡ INDENT → means (enter_indent v pg m) ≡ means m
    unfolding enter_indent
    indent_same k = open_indent v pg stop m.frames m.depth m.next m.state roomy (nests_after a.good h) k

    next_same : v.kind m.next ≡ INDENT_NEXT → means (enter_next v pg m) ≡ means m
    unfolding enter_next
    next_same k = open_next v pg stop m.frames m.depth m.next m.state roomy (nests_after a.good h) k

    call_same : v.kind m.next ≡ CALL → means (enter_call v pg m) ≡ means m
    unfolding enter_call
    call_same k =
        open_call v pg stop m.frames m.depth m.next m.state _ _ roomy (nests_after a.good h) k (nests_pair a.good h k).split refl refl

    enter_same : (k : ℕ) → v.kind m.next ≡ k → means (enter v pg m) ≡ means m
    unfolding enter
    enter_same zero e = rw e (group_same e)
    enter_same (suc zero) e = rw e (indent_same e)
    enter_same (suc (suc zero)) e = rw e (next_same e)
    enter_same (suc (suc (suc zero))) e = rw e (leaf_same (omega arith) (omega arith))
    enter_same (suc (suc (suc (suc zero)))) e = rw e (leaf_same (omega arith) (omega arith))
    enter_same (suc (suc (suc (suc (suc zero))))) e = rw e (leaf_same (omega arith) (omega arith))
    enter_same (suc (suc (suc (suc (suc (suc zero)))))) e = rw e (leaf_same (omega arith) (omega arith))
    enter_same (suc (suc (suc (suc (suc (suc (suc zero))))))) e = rw e (leaf_same (omega arith) (omega arith))
    enter_same (suc (suc (suc (suc (suc (suc (suc (suc zero)))))))) e = rw e (leaf_same (omega arith) (omega arith))
    enter_same (suc (suc (suc (suc (suc (suc (suc (suc (suc zero))))))))) e = rw e (leaf_same (omega arith) (omega arith))
    enter_same (suc (suc (suc (suc (suc (suc (suc (suc (suc (suc zero)))))))))) e = rw e (if_same e)
    enter_same (suc (suc (suc (suc (suc (suc (suc (suc (suc (suc (suc zero))))))))))) e = rw e (call_same e)
    enter_same (suc (suc (suc (suc (suc (suc (suc (suc (suc (suc (suc (suc k)))))))))))) e = absurd (let z = nests_kind a.good h in omega arith)

    -- what a turn must keep: the rows nest, and less is left
    less_open : (f : Frame) (k : ℕ) → m.next < k → left stop (opened m f k m.state) < left stop m
    less_open f k j =
        let w = weight_top v pg stop m.frames m.depth f roomy in
        let b = bit_le2 f.first in
        let l = a.low in
        omega arith

    Kept : Machine → Type 0
    Kept n = Fine n × (left stop n < left stop m)

    block_fine : (f : Frame) (t : Renderer) → v.kind m.next ≤ INDENT_NEXT → f.row ≡ m.next → f.first ≡ false
        → Fine (opened m f (suc m.next) t) × (left stop (opened m f (suc m.next) t) < left stop m)
    block_fine f t k e y =
        let x = at_block v pg stop m.frames m.depth m.next f a h k e y in (
          subst (λ (n : ℕ). At v stop (set m.frames m.depth f) n (suc m.next)) (add-one m.depth)
              (subst (λ (n : ℕ). At v stop (set m.frames m.depth f) (m.depth + 1) n) (add-one m.next) x),
          less_open f (suc m.next) (omega arith),
        )

    group_fine : v.kind m.next ≡ GROUP → Fine (enter_group v pg m) × (left stop (enter_group v pg m) < left stop m)
    unfolding enter_group
    group_fine k = block_fine _ m.state (omega arith) refl refl

    indent_fine : v.kind m.next ≡ INDENT → Fine (enter_indent v pg m) × (left stop (enter_indent v pg m) < left stop m)
    unfolding enter_indent
    indent_fine k = block_fine _ m.state (omega arith) refl refl

    next_fine : v.kind m.next ≡ INDENT_NEXT → Fine (enter_next v pg m) × (left stop (enter_next v pg m) < left stop m)
    unfolding enter_next
    next_fine k = block_fine _ m.state (omega arith) refl refl

    leaf_fine : WRAP_PARENT ≤ v.kind m.next → v.kind m.next ≤ LINE_OR_SPACE → Fine (enter_leaf v pg m) × (left stop (enter_leaf v pg m) < left stop m)
    unfolding enter_leaf
    leaf_fine k l =
        let x = at_leaf v pg stop m.frames m.depth m.next a h k l in
        let z = a.low in
        (subst (λ (n : ℕ). At v stop m.frames m.depth n) (add-one m.next) x, omega arith)

    if_fine : v.kind m.next ≡ IF_WRAP → Fine (enter_if v pg m) × (left stop (enter_if v pg m) < left stop m)
    unfolding enter_if
    if_fine k = go (wrapped m.state.marks (v.number m.next))
      where
        w : Bool
        w = wrap_at m.frames m.depth

        go : (b : Bool)
            → Fine (cond b (opened m (frame_of m.next w true) (suc m.next) m.state)
            (opened m (frame_of m.next w false) (v.second m.next) m.state))
            × (left stop (cond b (opened m (frame_of m.next w true) (suc m.next) m.state)
            (opened m (frame_of m.next w false) (v.second m.next) m.state))
            < left stop m)
        go true = (
          at_first_lem v pg stop m.frames m.depth m.next (frame_of m.next w true) a h k refl refl,
          less_open (frame_of m.next w true) (suc m.next) (omega arith),
        )
        go false = (
          at_second v pg stop m.frames m.depth m.next (frame_of m.next w false) a h k refl refl,
          less_open (frame_of m.next w false) (v.second m.next) (let u = (nests_two a.good h k).0.up in omega arith),
        )

    call_fine : v.kind m.next ≡ CALL → Fine (enter_call v pg m) × (left stop (enter_call v pg m) < left stop m)
    unfolding enter_call
    call_fine k = (at_call v pg stop m.frames m.depth m.next _ a h k refl refl, less_open _ (suc m.next) (omega arith))

    enter_fine : (k : ℕ) → v.kind m.next ≡ k → Fine (enter v pg m) × (left stop (enter v pg m) < left stop m)
    unfolding enter
    enter_fine zero e = rw e (group_fine e)
    enter_fine (suc zero) e = rw e (indent_fine e)
    enter_fine (suc (suc zero)) e = rw e (next_fine e)
    enter_fine (suc (suc (suc zero))) e = rw e (leaf_fine (omega arith) (omega arith))
    enter_fine (suc (suc (suc (suc zero)))) e = rw e (leaf_fine (omega arith) (omega arith))
    enter_fine (suc (suc (suc (suc (suc zero))))) e = rw e (leaf_fine (omega arith) (omega arith))
    enter_fine (suc (suc (suc (suc (suc (suc zero)))))) e = rw e (leaf_fine (omega arith) (omega arith))
    enter_fine (suc (suc (suc (suc (suc (suc (suc zero))))))) e = rw e (leaf_fine (omega arith) (omega arith))
    enter_fine (suc (suc (suc (suc (suc (suc (suc (suc zero)))))))) e = rw e (leaf_fine (omega arith) (omega arith))
    enter_fine (suc (suc (suc (suc (suc (suc (suc (suc (suc zero))))))))) e = rw e (leaf_fine (omega arith) (omega arith))
    enter_fine (suc (suc (suc (suc (suc (suc (suc (suc (suc (suc zero)))))))))) e = rw e (if_fine e)
    enter_fine (suc (suc (suc (suc (suc (suc (suc (suc (suc (suc (suc zero))))))))))) e = rw e (call_fine e)
    enter_fine (suc (suc (suc (suc (suc (suc (suc (suc (suc (suc (suc (suc k)))))))))))) e = absurd (let z = nests_kind a.good h in omega arith)

  -- the innermost row's open part is done
  module _ (m : Machine) (k : ℕ) (a : At v stop m.frames (suc k) m.next) (e : m.next ≡ part_end v (frame_at m.frames k)) where
    roomy_top : k < length m.frames
    roomy_top = let d = a.deep in rw a.size (omega arith)

    leave_same : means (leave v pg m k) ≡ meaning v pg stop m.frames (suc k) m.next m.state
    unfolding leave part_end
    leave_same = go (eqb (v.kind (frame_at m.frames k).row) CALL && (frame_at m.frames k).first) refl
      where
        c : Bool
        c = group_wraps pg (nodes_at v m.next (v.after (frame_at m.frames k).row)) m.state

        on : Machine
        on =
            reopened m k (call_frame (frame_at m.frames k).row c false (frame_at m.frames k).deeper (frame_at m.frames k).made)
            (insert c (v.number2 (frame_at m.frames k).row) m.state)

        off : Machine
        off = closed_to m k (v.after (frame_at m.frames k).row) (closing v pg (frame_at m.frames k) m.state)

        go : (b : Bool) → (eqb (v.kind (frame_at m.frames k).row) CALL && (frame_at m.frames k).first) ≡ b
            → means (cond b on off) ≡ meaning v pg stop m.frames (suc k) m.next m.state
        go true q =
            let x = both (eqb (v.kind (frame_at m.frames k).row) CALL) (frame_at m.frames k).first q in
            call_on v pg stop m.frames k m.next m.state c roomy_top
            (eqb-true (v.kind (frame_at m.frames k).row) 11 x.0) x.1 (e ∙ rw x.1) refl
        go false q = sym (pop v pg stop m.frames k m.next m.state (omega arith))

    leave_fine : Fine (leave v pg m k) × (left stop (leave v pg m k) < (stop - m.next) * 3 + weight m.frames (suc k))
    unfolding leave part_end
    leave_fine = go (eqb (v.kind (frame_at m.frames k).row) CALL && (frame_at m.frames k).first) refl
      where
        c : Bool
        c = group_wraps pg (nodes_at v m.next (v.after (frame_at m.frames k).row)) m.state

        on : Machine
        on =
            reopened m k (call_frame (frame_at m.frames k).row c false (frame_at m.frames k).deeper (frame_at m.frames k).made)
            (insert c (v.number2 (frame_at m.frames k).row) m.state)

        off : Machine
        off = closed_to m k (v.after (frame_at m.frames k).row) (closing v pg (frame_at m.frames k) m.state)

        go : (b : Bool) → (eqb (v.kind (frame_at m.frames k).row) CALL && (frame_at m.frames k).first) ≡ b
            → Fine (cond b on off) × (left stop (cond b on off) < (stop - m.next) * 3 + weight m.frames (suc k))
        go true q =
            let x = both (eqb (v.kind (frame_at m.frames k).row) CALL) (frame_at m.frames k).first q in
            let y : one_if (frame_at m.frames k).first ≡ 1 = ap one_if x.1 in
            let w = weight_top v pg stop m.frames k (call_frame (frame_at m.frames k).row c false (frame_at m.frames k).deeper (frame_at m.frames k).made)
            roomy_top in
            let u = weight_suc m.frames k in (
              at_on v pg stop m.frames k m.next (call_frame (frame_at m.frames k).row c false (frame_at m.frames k).deeper (frame_at m.frames k).made) a e
                  refl refl,
              omega arith,
            )
        go false q =
            let u = weight_suc m.frames k in
            let g = nests_le (at_top_suc v pg stop m.frames k m.next a).later in
            (at_pop_suc v pg stop m.frames k m.next a, omega arith)

  unfoldable pub is_done : Machine → Bool
  is_done m = eqb m.depth 0 && eqb m.next stop

  pub record Turned (m n : Machine) : Type 0 where
    pub fine : Fine n
    pub less : left stop n < left stop m
    pub same : means n ≡ means m

  pub limit_suc : (fs : List Frame) (k : ℕ) → part_limit v stop fs (suc k) ≡ part_end v (frame_at fs k)
  unfolding part_limit
  limit_suc fs k = refl

  pub limit_none : (fs : List Frame) → part_limit v stop fs zero ≡ stop
  unfolding part_limit
  limit_none fs = refl

  entered : (m : Machine) → Fine m → m.next < part_limit v stop m.frames m.depth → Turned m (enter v pg m)
  entered m a h =
      let x = enter_fine m a h (v.kind m.next) refl in
      record { fine = x.0; less = x.1; same = enter_same m a h (v.kind m.next) refl }

  -- a row is ahead in the open part
  pub not_done : (m : Machine) → Fine m → is_done m ≡ false → m.depth ≡ 0 → m.next < part_limit v stop m.frames m.depth
  unfolding is_done
  not_done m a n e =
      let l : part_limit v stop m.frames m.depth ≡ stop = rw e (limit_none m.frames) in
      let z : eqb m.next stop ≡ false = rw e at n in
      lt_of m.next (part_limit v stop m.frames m.depth) (nests_le a.good) (λ q. eqb-false m.next stop z (q ∙ l))

  pub in_part : (m : Machine) (k : ℕ) → m.depth ≡ suc k → Fine m → (m.next ≡ part_end v (frame_at m.frames k) → ⊥)
      → m.next < part_limit v stop m.frames m.depth
  in_part m k e a n =
      let l : part_limit v stop m.frames m.depth ≡ part_end v (frame_at m.frames k) = ap (part_limit v stop m.frames) e ∙ limit_suc m.frames k in
      lt_of m.next (part_limit v stop m.frames m.depth) (nests_le a.good) (λ z. n (z ∙ l))

  turned_at : (d : ℕ) (m : Machine) → m.depth ≡ d → Fine m → is_done m ≡ false → Turned m (turn_at v pg d m)
  unfolding turn_at
  turned_at zero m e a n = entered m a (not_done m a n e)
  turned_at (suc k) m e a n = go (eqb m.next (part_end v (frame_at m.frames k))) refl
    where
      a2 : At v stop m.frames (suc k) m.next
      a2 = subst (λ (d : ℕ). At v stop m.frames d m.next) e a

      go : (b : Bool) → eqb m.next (part_end v (frame_at m.frames k)) ≡ b → Turned m (cond b (leave v pg m k) (enter v pg m))
      go true q =
          let i = eqb-true m.next (part_end v (frame_at m.frames k)) q in
          let x = leave_fine m k a2 i in
          record {
            fine = x.0;
            less = subst (λ (d : ℕ). left stop (leave v pg m k) < (stop - m.next) * 3 + weight m.frames d) (sym e) x.1;
            same = leave_same m k a2 i ∙ ap (λ (d : ℕ). meaning v pg stop m.frames d m.next m.state) (sym e);
          }
      go false q = entered m a (in_part m k e a (eqb-false m.next (part_end v (frame_at m.frames k)) q))

  pub turned : (m : Machine) → Fine m → is_done m ≡ false → Turned m (turn v pg m)
  unfolding turn
  turned m a n = turned_at m.depth m refl a n

  -- turned to the end
  unfoldable pub run : ℕ → Machine → Machine
  run zero m = m
  run (suc f) m = cond (is_done m) m (run f (turn v pg m))

  pub done_means : (m : Machine) → is_done m ≡ true → means m ≡ m.state
  unfolding is_done meaning rest part_limit render_nodes
  done_means m e =
      let x = both (eqb m.depth 0) (eqb m.next stop) e in
      rw (eqb-true m.depth 0 x.0) (rw (nodes_none v m.next stop (let z = eqb-true m.next stop x.1 in omega arith)))

  pub spent : (m : Machine) → Fine m → left stop m ≤ 0 → is_done m ≡ true
  unfolding is_done
  spent m a l =
      let w = weight_ge m.frames m.depth in
      let d : m.depth ≡ 0 = omega arith in
      let g = nests_le a.good in
      let k : part_limit v stop m.frames m.depth ≡ stop = rw d (limit_none m.frames) in
      let i : m.next ≡ stop = omega arith in
      rw (eq-eqb m.depth 0 d, eq-eqb m.next stop i)

  run_step : (m : Machine) (f : ℕ) (b : Bool) → is_done m ≡ b → Fine m → left stop m ≤ suc f
      → (Fine (turn v pg m) → left stop (turn v pg m) ≤ f → (run f (turn v pg m)).state ≡ means (turn v pg m))
      → (cond b m (run f (turn v pg m))).state ≡ means m
  run_step m f true q a l rec = sym (done_means m q)
  run_step m f false q a l rec = let t = turned m a q in let y = t.less in rec t.fine (omega arith) ∙ t.same

  -- THE MACHINE RENDERS AS THE RULES DO
  pub run_means : (f : ℕ) (m : Machine) → Fine m → left stop m ≤ f → (run f m).state ≡ means m
  unfolding run
  run_means zero m a l = sym (done_means m (spent m a l))
  run_means (suc f) m a l = run_step m f (is_done m) refl a l (λ x y. run_means f (turn v pg m) x y)

-- rows that nest, from any state: the machine's text, marks and numbers are those of the recursive rules on the tree of the rows
pub machine_renders : (v : View) (pg : Page) (from stop : ℕ) (fs : List Frame) (st : Renderer) → Nests v from stop 0 → length fs ≡ MAX_DEPTH
    → (run v pg stop ((stop - from) * 3) (started fs from st)).state ≡ render_nodes pg (nodes_at v from stop) true st
unfolding meaning rest part_limit wrap_at weight Under
machine_renders v pg from stop fs st g e =
    run_means v pg stop ((stop - from) * 3) (started fs from st)
    (record { good = g; under = tt; low = omega arith; size = e; deep = omega arith }) (omega arith)

-- WHAT A TURN IS, for the code that takes it
module _ (v : View) (pg : Page) where
  turn_enter_at : (stop d : ℕ) (m : Machine) → (m.next < part_limit v stop m.frames d) → turn_at v pg d m ≡ enter v pg m
  unfolding turn_at part_limit
  turn_enter_at stop zero m h = refl
  turn_enter_at stop (suc k) m h = rw (ne_eqb m.next (part_end v (frame_at m.frames k)) (λ e. omega arith))

  pub turn_enter : (stop : ℕ) (m : Machine) → m.next < part_limit v stop m.frames m.depth → turn v pg m ≡ enter v pg m
  unfolding turn
  turn_enter stop m h = turn_enter_at stop m.depth m h

  pub turn_leave : (m : Machine) (k : ℕ) → m.depth ≡ suc k → m.next ≡ part_end v (frame_at m.frames k) → turn v pg m ≡ leave v pg m k
  unfolding turn turn_at
  turn_leave m k e h = rw (e, eq-eqb m.next (part_end v (frame_at m.frames k)) h)

  pub enter_0 : (m : Machine) → v.kind m.next ≡ GROUP → enter v pg m ≡ enter_group v pg m
  unfolding enter
  enter_0 m e = rw e

  pub enter_1 : (m : Machine) → v.kind m.next ≡ INDENT → enter v pg m ≡ enter_indent v pg m
  unfolding enter
  enter_1 m e = rw e

  pub enter_2 : (m : Machine) → v.kind m.next ≡ INDENT_NEXT → enter v pg m ≡ enter_next v pg m
  unfolding enter
  enter_2 m e = rw e

  pub enter_10 : (m : Machine) → v.kind m.next ≡ IF_WRAP → enter v pg m ≡ enter_if v pg m
  unfolding enter
  enter_10 m e = rw e

  pub enter_leaf_lem : (m : Machine) (k : ℕ) → v.kind m.next ≡ k → 3 ≤ k → k ≤ 9 → enter v pg m ≡ enter_leaf v pg m
  unfolding enter
  enter_leaf_lem m zero e a b = absurd (omega arith)
  enter_leaf_lem m (suc zero) e a b = absurd (omega arith)
  enter_leaf_lem m (suc (suc zero)) e a b = absurd (omega arith)
  enter_leaf_lem m (suc (suc (suc zero))) e a b = rw e
  enter_leaf_lem m (suc (suc (suc (suc zero)))) e a b = rw e
  enter_leaf_lem m (suc (suc (suc (suc (suc zero))))) e a b = rw e
  enter_leaf_lem m (suc (suc (suc (suc (suc (suc zero)))))) e a b = rw e
  enter_leaf_lem m (suc (suc (suc (suc (suc (suc (suc zero))))))) e a b = rw e
  enter_leaf_lem m (suc (suc (suc (suc (suc (suc (suc (suc zero)))))))) e a b = rw e
  enter_leaf_lem m (suc (suc (suc (suc (suc (suc (suc (suc (suc zero))))))))) e a b = rw e
  enter_leaf_lem m (suc (suc (suc (suc (suc (suc (suc (suc (suc (suc n)))))))))) e a b = absurd (omega arith)

  pub enter_11 : (m : Machine) → v.kind m.next ≡ CALL → enter v pg m ≡ enter_call v pg m
  unfolding enter
  enter_11 m e = rw e
