-- One turn of the loop that counts: rows without parts are passed, then a row is entered or left.
-- Assumes nothing.
use mathlib.Core.Path.{◌≡◌, refl, ap, sym, ◌∙◌, subst}
use mathlib.Core.Logic.{◌⊎◌, inl, inr}
use Prim.Native.Nat.{ℕ, zero, suc, ◌+◌, ◌*◌, ◌-◌, ◌≤◌, ◌<◌, min}
use native.Mathlib.Omega.{arith}
use native.Mathlib.Decide.{dec_lt}
use mathlib.Core.Bool.{Bool, true, false, cond, ◌&&◌}
use mathlib.Core.List.{List}
use lib.ListN.{length}
use lib.Dec.{eqb, ltb}
use borrow.Author.Tests.{lt-ltb}
use Rattle.rows.specs.Kinds.{CALL, number_of}
use Rattle.rows.specs.Places.{KIND}
use Rattle.rows.specs.View.{View, view_of, cell}
use Rattle.rows.specs.Node.{wrapped}
use Rattle.rows.specs.declared.kinds.Kind.{Kind}
use Rattle.rows.specs.declared.texts.Rows.{Rows}
use Rattle.rows.proofs.Nested.{nests_le, nests_two, nests_kind}
use Rattle.std.specs.Prelude.{Option, Some, None}
use Rattle.renderer_rules.specs.declared.Frame.{Frame}
use Rattle.renderer_rules.specs.Page.{page_of}
use Rattle.renderer_rules.specs.Renderer.{Page}
use Rattle.renderer_rules.specs.Frames.{frame_at, part_end, part_limit, wrap_at, At}
use Rattle.renderer_rules.specs.Machine.{Machine, opened, frame_of, enter_group, enter_indent, enter_next, enter_leaf, enter_if, enter_call, enter, leave, turn}
use Rattle.renderer_rules.proofs.Opened.{at_top_suc}
use Rattle.renderer_rules.proofs.Machine.{Fine, weight, turn_enter, turn_leave, limit_suc, limit_none}
use Rattle.renderer.specs.declared.frames.Frames.{Frames}
use Rattle.renderer.specs.declared.run.Renderer.{Renderer as Held}
use Rattle.renderer.specs.Run.{run_of, machine_of, Follows, Ready, Entering, Leaves, Left, Turns, Unwritten}
use Rattle.renderer.specs.Halts.{times, parts_in, PassedTo, Passed}
use Rattle.renderer.proofs.Stepped.{turns, leaves, left_follows}
use Rattle.renderer.proofs.Halting.{Halting, size, ready, halting_leaves, leaves_less, halting_enter, enter_less, halting_close, close_less}

-- ---- how far a turn goes on
pick : (b : Bool) (n : ℕ) (x y : Machine) → n ≤ x.next → n ≤ y.next → n ≤ (cond b x y).next
pick true n x y h l = h
pick false n x y h l = l

module _ (v : View) (pg : Page) (stop : ℕ) where
  pub enter_up : (m : Machine) → Fine v pg stop m → m.next < part_limit v stop m.frames m.depth → (k : ℕ) → v.kind m.next ≡ k
      → suc m.next ≤ (enter v pg m).next
  unfolding enter enter_group enter_indent enter_next enter_leaf enter_if enter_call
  enter_up m a h zero e = rw e (omega arith)
  enter_up m a h (suc zero) e = rw e (omega arith)
  enter_up m a h (suc (suc zero)) e = rw e (omega arith)
  enter_up m a h (suc (suc (suc zero))) e = rw e (omega arith)
  enter_up m a h (suc (suc (suc (suc zero)))) e = rw e (omega arith)
  enter_up m a h (suc (suc (suc (suc (suc zero))))) e = rw e (omega arith)
  enter_up m a h (suc (suc (suc (suc (suc (suc zero)))))) e = rw e (omega arith)
  enter_up m a h (suc (suc (suc (suc (suc (suc (suc zero))))))) e = rw e (omega arith)
  enter_up m a h (suc (suc (suc (suc (suc (suc (suc (suc zero)))))))) e = rw e (omega arith)
  enter_up m a h (suc (suc (suc (suc (suc (suc (suc (suc (suc zero))))))))) e = rw e (omega arith)
  enter_up m a h (suc (suc (suc (suc (suc (suc (suc (suc (suc (suc zero)))))))))) e =
      let u = (nests_two a.good h e).0.up in
      rw e (go (wrapped m.state.marks (v.number m.next)) (omega arith))
    where
      go : (b : Bool) → suc m.next ≤ v.second m.next
          → suc m.next ≤ (cond b (opened m (frame_of m.next (wrap_at m.frames m.depth) true) (suc m.next) m.state)
          (opened m (frame_of m.next (wrap_at m.frames m.depth) false) (v.second m.next) m.state)).next
      go true u = omega arith
      go false u = u
  enter_up m a h (suc (suc (suc (suc (suc (suc (suc (suc (suc (suc (suc zero))))))))))) e = rw e (omega arith)
  enter_up m a h (suc (suc (suc (suc (suc (suc (suc (suc (suc (suc (suc (suc k)))))))))))) e = absurd (let z = nests_kind a.good h in omega arith)

  pub leave_up : (m : Machine) (k : ℕ) → At v stop m.frames (suc k) m.next → m.next ≡ part_end v (frame_at m.frames k) → m.next ≤ (leave v pg m k).next
  unfolding leave
  leave_up m k a e =
      let l = nests_le (at_top_suc v pg stop m.frames k m.next a).later in
      pick (eqb (v.kind (frame_at m.frames k).row) CALL && (frame_at m.frames k).first) m.next _ _ (omega arith) (omega arith)

-- ---- the innermost row as the code has it
pub wrap_is : (fs : List Frame) (d : ℕ) (f : Frame) → f ≡ cond (ltb 0 d) (frame_at fs (d - 1)) (frame_of 0 true false) → f.wrap ≡ wrap_at fs d
unfolding wrap_at
wrap_is fs zero f e = ap (λ (x : Frame). x.wrap) e
wrap_is fs (suc d) f e =
    let z : suc d - 1 ≡ d = omega arith in
    let i : f ≡ frame_at fs d = e ∙ rw (lt-ltb 0 (suc d) (omega arith), z) refl in
    ap (λ (x : Frame). x.wrap) i

pub end_is : (v : View) (stop : ℕ) (fs : List Frame) (d : ℕ) (f : Frame) (end : ℕ) → f ≡ cond (ltb 0 d) (frame_at fs (d - 1)) (frame_of 0 true false)
    → end ≡ cond (ltb 0 d) (part_end v f) stop → end ≡ part_limit v stop fs d
unfolding part_limit
end_is v stop fs zero f end e h = h
end_is v stop fs (suc d) f end e h =
    let z : suc d - 1 ≡ d = omega arith in
    let i : f ≡ frame_at fs d = e ∙ rw (lt-ltb 0 (suc d) (omega arith), z) refl in
    h ∙ rw (lt-ltb 0 (suc d) (omega arith)) (ap (part_end v) i)

pub innermost_at : (fs : List Frame) (d : ℕ) (f : Frame) → f ≡ cond (ltb 0 d) (frame_at fs (d - 1)) (frame_of 0 true false) → 0 < d
    → f ≡ frame_at fs (d - 1)
innermost_at fs d f e h = e ∙ rw (lt-ltb 0 d h) refl

pub passed_low : (store : List ℕ) (end next : ℕ) (kind : Option Kind) → PassedTo store end next kind → next ≤ end
unfolding PassedTo
passed_low store end next None e = omega arith
passed_low store end next (Some k) e = let x = e.0 in omega arith

module _ (store source image : List ℕ) (stop a : ℕ) (r0 : Held) where
  abbrev H : Held → ℕ → Type 0
  H q left = Halting store source image stop a r0 q left

  -- the widths and the output's length are those of the start
  pub ready_now : (q : Held) (left : ℕ) (g : H q left) → Ready store source image q.max.0 (length q.out.now) stop q.marks.now q.out.now (run_of q)
  ready_now q left g = rw (g.lent.max, size store source image stop a r0 q left g) (ready store source image stop a r0 q left g)

  from_now : (q : Held) (left : ℕ) (g : H q left) (f : Page → Machine → Machine) (p : Held)
      → Follows (length q.out.now) (f (page_of q.max.0 source image)) q.marks.now q.out.now (run_of q) p.marks.now p.out.now (run_of p)
      → Follows (length r0.out.now) (f (page_of r0.max.0 source image)) q.marks.now q.out.now (run_of q) p.marks.now p.out.now (run_of p)
  from_now q left g f p t = rw (g.lent.max, size store source image stop a r0 q left g) at t

  module _ (q : Held) (left : ℕ) (g : H q left) where
    -- rows without parts
    module _ (rows : Rows) (s : rows.store.now ≡ store) (c : rows.source.now ≡ source) (i : rows.image.now ≡ image) (end : ℕ) (p : Held) (kind : Option Kind)
        (d : Passed rows end q p kind) (l : end ≤ part_limit (view_of store) stop q.frames.items q.frames.depth) (n : end ≤ q.next + left) where
      follows : Follows (length r0.out.now) (times d.count (turn (view_of store) (page_of r0.max.0 source image))) q.marks.now q.out.now (run_of q)
          p.marks.now p.out.now (run_of p)
      follows =
          from_now q left g (λ (pg : Page). times d.count (turn (view_of store) pg)) p
          (rw (s, c, i) at d.turns.follows)

      few : d.count ≤ left
      few = let x = passed_low rows.store.now end p.next kind d.ends in let y = d.next in omega arith

      pub passed_on : (left2 : ℕ) → left2 + p.next ≡ left + q.next → H p left2
      unfolding view_of
      passed_on left2 e =
          let x = passed_low rows.store.now end p.next kind d.ends in
          let y = d.next in
          let z = few in
          subst (H p) (let w : left - d.count ≡ left2 = omega arith in w)
          (halting_leaves store source image stop a r0 q left g p d.count follows d.turns.lent
          (λ j u w. rw s at d.leaves j u (omega arith))
          (omega arith) z)

      pub passed_less : (stop - p.next) * 3 + weight p.frames.items p.frames.depth ≤ (stop - q.next) * 3 + weight q.frames.items q.frames.depth
      unfolding view_of
      passed_less =
          let x = passed_low rows.store.now end p.next kind d.ends in
          let y = d.next in
          leaves_less store source image stop a r0 q left g p d.count follows d.turns.lent (λ j u w. rw s at d.leaves j u (omega arith)) (omega arith)

    -- a row is entered
    module _ (p : Held) (h : q.next < part_limit (view_of store) stop q.frames.items q.frames.depth)
        (t : Turns (enter (view_of store) (page_of q.max.0 source image)) q p) where
      pub entering : Entering store source image q.max.0 (length q.out.now) stop q.marks.now q.out.now (run_of q)
      entering = record { ready = ready_now q left g; inside = h }

      turn_follows : Follows (length r0.out.now) (turn (view_of store) (page_of r0.max.0 source image)) q.marks.now q.out.now (run_of q) p.marks.now p.out.now
          (run_of p)
      turn_follows =
          from_now q left g (λ (pg : Page). turn (view_of store) pg) p
          (turns store source image q.max.0 (length q.out.now) stop q.marks.now q.out.now (run_of q) p.marks.now p.out.now (run_of p) entering t.follows)

      pub entered_on : 1 ≤ left → H p (left - 1)
      entered_on c = halting_enter store source image stop a r0 q left g p turn_follows t.lent h c

      pub entered_less : (stop - p.next) * 3 + weight p.frames.items p.frames.depth < (stop - q.next) * 3 + weight q.frames.items q.frames.depth
      entered_less = enter_less store source image stop a r0 q left g p turn_follows t.lent h

      pub entered_up : suc q.next ≤ p.next
      unfolding machine_of
      entered_up =
          let pg = page_of r0.max.0 source image in
          let m = machine_of (run_of q) q.marks.now g.text g.entered in
          let s = turn_follows.goes r0.out.now g.text g.entered g.wrote in
          subst (λ (x : Machine). suc q.next ≤ x.next) (sym (turn_enter (view_of store) pg stop m h) ∙ s.same)
          (enter_up (view_of store) pg stop m g.fine h ((view_of store).kind q.next) refl)

    -- the innermost row is left
    module _ (p : Held) (h : 0 < q.frames.depth) (f : Frame) (i : f ≡ frame_at q.frames.items (q.frames.depth - 1)) (e : q.next ≡ part_end (view_of store) f)
      where
        pub leaving : Leaves store (run_of q) f
        leaving = leaves store source image q.max.0 (length q.out.now) stop q.marks.now q.out.now (run_of q) (ready_now q left g) f h i e

        module _ (t : Left store q.max.0 q.marks.now (run_of q) f p.marks.now (run_of p)) (u : Unwritten q p) where
          close_follows : Follows (length r0.out.now) (turn (view_of store) (page_of r0.max.0 source image)) q.marks.now q.out.now (run_of q) p.marks.now
              p.out.now (run_of p)
          close_follows =
              from_now q left g (λ (pg : Page). turn (view_of store) pg) p
              (rw u.out
              (left_follows store source image q.max.0 (length q.out.now) stop q.marks.now q.out.now (run_of q) (ready_now q left g) f h i p.marks.now
              (run_of p) e t))

          at_end : part_limit (view_of store) stop q.frames.items q.frames.depth ≤ q.next
          at_end = go q.frames.depth h i
            where
              go : (d : ℕ) → 0 < d → f ≡ frame_at q.frames.items (d - 1) → part_limit (view_of store) stop q.frames.items d ≤ q.next
              go zero h i = absurd (omega arith)
              go (suc d) h i =
                  let z : suc d - 1 ≡ d = omega arith in
                  let y : f ≡ frame_at q.frames.items d = i ∙ ap (frame_at q.frames.items) z in
                  let x : part_limit (view_of store) stop q.frames.items (suc d) ≡ q.next =
                  limit_suc (view_of store) (page_of 0 source image) stop q.frames.items d ∙ ap (part_end (view_of store)) (sym y) ∙ sym e in
                  omega arith

          pub closed_on : H p left
          closed_on = halting_close store source image stop a r0 q left g p close_follows u.lent h at_end

          pub closed_less : (stop - p.next) * 3 + weight p.frames.items p.frames.depth < (stop - q.next) * 3 + weight q.frames.items q.frames.depth
          closed_less = close_less store source image stop a r0 q left g p close_follows u.lent h

          pub closed_up : q.next ≤ p.next
          unfolding machine_of
          closed_up =
              let pg = page_of r0.max.0 source image in
              let m = machine_of (run_of q) q.marks.now g.text g.entered in
              let s = close_follows.goes r0.out.now g.text g.entered g.wrote in
              go q.frames.depth refl s.same
            where
              go : (d : ℕ) → q.frames.depth ≡ d → turn (view_of store) (page_of r0.max.0 source image) (machine_of (run_of q) q.marks.now g.text g.entered)
                  ≡ machine_of (run_of p) p.marks.now
                  (turn (view_of store) (page_of r0.max.0 source image) (machine_of (run_of q) q.marks.now g.text g.entered)).state.buf
                  (turn (view_of store) (page_of r0.max.0 source image) (machine_of (run_of q) q.marks.now g.text g.entered)).entered
                  → q.next ≤ p.next
              go zero k s = absurd (omega arith)
              go (suc d) k s =
                  let pg = page_of r0.max.0 source image in
                  let m = machine_of (run_of q) q.marks.now g.text g.entered in
                  let z : q.frames.depth - 1 ≡ d = omega arith in
                  let y : q.next ≡ part_end (view_of store) (frame_at q.frames.items d) =
                  e ∙ ap (part_end (view_of store)) (i ∙ ap (frame_at q.frames.items) z) in
                  subst (λ (x : Machine). q.next ≤ x.next) (sym (turn_leave (view_of store) pg m d k y) ∙ s)
                  (leave_up (view_of store) pg stop m d (subst (λ (x : ℕ). At (view_of store) stop q.frames.items x q.next) k g.fine) y)

-- `mark` is no part of the run
abbrev pub with_mark : Held → ℕ → Held
with_mark q m = record { marks = q.marks; out = q.out; max = q.max; writing = q.writing; frames = q.frames; next = q.next; mark = m }

pub remarked : (store source image : List ℕ) (stop a : ℕ) (r0 q : Held) (left m : ℕ) → Halting store source image stop a r0 q left
    → Halting store source image stop a r0 (with_mark q m) left
unfolding machine_of
remarked store source image stop a r0 q left m g =
    record {
      resuming = g.resuming;
      small = g.small;
      text = g.text;
      entered = g.entered;
      wrote = g.wrote;
      fine = g.fine;
      safe = g.safe;
      due = g.due;
      enough = g.enough;
      same = g.same;
      lent = record { max = g.lent.max; marks = g.lent.marks; out = g.lent.out };
    }

-- ---- once rows without parts are passed, as the loop has it
pub record Behind (store source image : List ℕ) (stop a : ℕ) (r0 q p : Held) (f : Frame) (mark end until : ℕ) (kind : Option Kind) : Type 0 where
  pub halting : Halting store source image stop a r0 p (mark - p.next)
  pub low : p.next ≤ mark
  pub limit : end ≡ part_limit (view_of store) stop p.frames.items p.frames.depth
  pub innermost : f ≡ cond (ltb 0 p.frames.depth) (frame_at p.frames.items (p.frames.depth - 1)) (frame_of 0 true false)
  pub less : (stop - p.next) * 3 + weight p.frames.items p.frames.depth ≤ (stop - q.next) * 3 + weight q.frames.items q.frames.depth
  pub until_is : until ≡ min end mark
  pub ends : PassedTo store until p.next kind

pub behind : (store source image : List ℕ) (stop a : ℕ) (r0 q p : Held) (f : Frame) (mark end until : ℕ) (kind : Option Kind)
    → Halting store source image stop a r0 q (mark - q.next) → q.next ≤ mark
    → f ≡ cond (ltb 0 q.frames.depth) (frame_at q.frames.items (q.frames.depth - 1)) (frame_of 0 true false)
    → end ≡ cond (ltb 0 q.frames.depth) (part_end (view_of store) f) stop → until ≡ min end mark
    → (rows : Rows) → rows.store.now ≡ store → rows.source.now ≡ source → rows.image.now ≡ image → (answer : Option Kind) → Passed rows until q p answer
    → answer ≡ kind
    → Behind store source image stop a r0 q p f mark end until kind
behind store source image stop a r0 q p f mark end until kind g l i h u rows s c m answer given is =
    let d : Passed rows until q p kind = subst (Passed rows until q p) is given in
    let e = end_is (view_of store) stop q.frames.items q.frames.depth f end i h in
    let x = passed_low rows.store.now until p.next kind d.ends in
    record {
      halting =
          passed_on store source image stop a r0 q (mark - q.next) g rows s c m until p kind d (omega arith) (omega arith) (mark - p.next) (omega arith);
      low = omega arith;
      limit = e ∙ sym (ap (λ (y : Frames). part_limit (view_of store) stop y.items y.depth) d.frames);
      innermost = i ∙ sym (ap (λ (y : Frames). cond (ltb 0 y.depth) (frame_at y.items (y.depth - 1)) (frame_of 0 true false)) d.frames);
      less = passed_less store source image stop a r0 q (mark - q.next) g rows s c m until p kind d (omega arith) (omega arith);
      until_is = u;
      ends = subst (λ (y : List ℕ). PassedTo y until p.next kind) s d.ends;
    }

pub some_depth : (d : ℕ) → (d ≡ 0 → ⊥) → 0 < d
some_depth d h = omega arith

module _ (store source image : List ℕ) (stop a : ℕ) (r0 q p : Held) (f : Frame) (mark end until : ℕ) where
  -- a row with parts is next
  module _ (kind : Kind) (b : Behind store source image stop a r0 q p f mark end until (Some kind)) where
    pub some_low : p.next < until
    unfolding PassedTo
    some_low = b.ends.0

    pub some_kind : cell store p.next KIND ≡ number_of kind
    unfolding PassedTo
    some_kind = b.ends.1.0

    pub some_parts : parts_in (number_of kind) ≡ true
    unfolding PassedTo
    some_parts = b.ends.1.1

    pub some_inside : p.next < part_limit (view_of store) stop p.frames.items p.frames.depth
    some_inside = let x = some_low in let y = b.until_is in let z = b.limit in omega arith

    pub some_left : p.next < mark
    some_left = let x = some_low in let y = b.until_is in omega arith

  -- the open part is done, or the allotment is spent
  module _ (b : Behind store source image stop a r0 q p f mark end until None) where
    pub none_at : p.next ≡ until
    unfolding PassedTo
    none_at = b.ends

    pub none_ends : (p.next ≡ end → ⊥) ⊎ (p.frames.depth ≡ 0)
        → (p.frames.depth ≡ 0) × (p.next ≡ stop) ⊎ (mark - p.next ≡ 0) × (p.next < part_limit (view_of store) stop p.frames.items p.frames.depth)
    none_ends (inl n) = let x = none_at in let y = b.until_is in let z = b.limit in inr (omega (arith, n), not_end end p.next z n (omega arith))
      where
        not_end : (e n : ℕ) → e ≡ part_limit (view_of store) stop p.frames.items p.frames.depth → (n ≡ e → ⊥) → n ≤ e
            → n < part_limit (view_of store) stop p.frames.items p.frames.depth
        not_end e n z h l = omega arith
    none_ends (inr d) =
        let x = none_at in
        let y = b.until_is in
        let z : end ≡ stop =
        b.limit ∙ ap (part_limit (view_of store) stop p.frames.items) d ∙ limit_none (view_of store) (page_of 0 source image) stop p.frames.items in
        go (dec_lt mark end) (omega arith)
      where
        go : Dec (mark < end) → end ≡ stop
            → (p.frames.depth ≡ 0) × (p.next ≡ stop) ⊎ (mark - p.next ≡ 0) × (p.next < part_limit (view_of store) stop p.frames.items p.frames.depth)
        go (yes h) z = let x = none_at in let y = b.until_is in let w = b.limit in inr (omega arith, omega arith)
        go (no h) z = let x = none_at in let y = b.until_is in inl (d, omega arith)

    pub at_part : 0 < p.frames.depth → p.next ≡ end → p.next ≡ part_end (view_of store) f
    at_part d e = e ∙ b.limit ∙ go p.frames.depth d (innermost_at p.frames.items p.frames.depth f b.innermost d)
      where
        go : (d : ℕ) → 0 < d → f ≡ frame_at p.frames.items (d - 1) → part_limit (view_of store) stop p.frames.items d ≡ part_end (view_of store) f
        go zero h i = absurd (omega arith)
        go (suc d) h i =
            let z : suc d - 1 ≡ d = omega arith in
            limit_suc (view_of store) (page_of 0 source image) stop p.frames.items d
            ∙ ap (part_end (view_of store)) (sym (i ∙ ap (frame_at p.frames.items) z))
