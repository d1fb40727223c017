-- Rows without parts, one after the other: each is a turn that leaves the open rows as they are.
-- Assumes nothing.
use mathlib.Core.Path.{◌≡◌, refl, ap, sym, ◌∙◌, subst}
use Prim.Native.Nat.{ℕ, zero, suc, ◌+◌, ◌≤◌, ◌<◌}
use native.Mathlib.Omega.{arith}
use mathlib.Core.Bool.{Bool, true, false, ◌&&◌}
use mathlib.Core.List.{List}
use lib.ListN.{length}
use lib.Dec.{eqb, leb}
use borrow.Author.Tests.{ne_eqb, eqb-true, lt-leb}
use Rattle.rows.specs.Kinds.{WRAP_PARENT, LINE_OR_SPACE}
use Rattle.rows.specs.View.{View, view_of}
use Rattle.renderer_rules.specs.declared.Frame.{Frame}
use Rattle.renderer_rules.specs.Limits.{START_MARGIN}
use Rattle.renderer_rules.specs.Page.{page_of}
use Rattle.renderer_rules.specs.Renderer.{Page}
use Rattle.renderer_rules.specs.Frames.{part_limit, At}
use Rattle.renderer_rules.specs.Machine.{Machine, enter_leaf, turn}
use Rattle.renderer_rules.specs.Safe.{Safe, SmallTexts}
use Rattle.renderer_rules.proofs.Machine.{Fine, left, is_done, turned, turn_enter, enter_leaf_lem, limit_none}
use Rattle.renderer_rules.proofs.Safe.{turn_safe}
use Rattle.renderer_rules.proofs.Allot.{allot, allot_turn, wants_row}
use Rattle.renderer.specs.Run.{Running, machine_of, Shows, Follows, Ready}
use Rattle.renderer.specs.Halts.{times}
use Rattle.renderer.proofs.Written.{over_length}

module _ (v : View) (pg : Page) (stop : ℕ) where
  -- a row is ahead in the open part: the machine is not done
  pub ahead_not_done : (m : Machine) → m.next < part_limit v stop m.frames m.depth → is_done v pg stop m ≡ false
  unfolding is_done
  ahead_not_done m h = go (eqb m.depth 0) refl
    where
      go : (b : Bool) → eqb m.depth 0 ≡ b → (b && eqb m.next stop) ≡ false
      go true e =
          let l : part_limit v stop m.frames m.depth ≡ stop = ap (part_limit v stop m.frames) (eqb-true m.depth 0 e) ∙ limit_none v pg stop m.frames in
          ne_eqb m.next stop (λ q. omega arith)
      go false e = refl

  abbrev pub leaf_at : ℕ → Type 0
  leaf_at i = (WRAP_PARENT ≤ v.kind i) × (v.kind i ≤ LINE_OR_SPACE)

  -- what k such turns leave
  pub record LeafRun (base k : ℕ) (m n : Machine) : Type 0 where
    pub frames : n.frames ≡ m.frames
    pub depth : n.depth ≡ m.depth
    pub next : n.next ≡ m.next + k
    pub entered : n.entered ≡ m.entered + k
    pub fine : Fine v pg stop n
    pub less : left stop n + k ≤ left stop m
    pub safe : Safe v base n
    pub allots : (f a : ℕ) → left stop m ≤ f → m.entered + k ≤ a → allot v pg stop f a n ≡ allot v pg stop f a m

  same_frames : (n : Machine) → (enter_leaf v pg n).frames ≡ n.frames
  unfolding enter_leaf
  same_frames n = refl

  same_depth : (n : Machine) → (enter_leaf v pg n).depth ≡ n.depth
  unfolding enter_leaf
  same_depth n = refl

  next_one : (n : Machine) → (enter_leaf v pg n).next ≡ suc n.next
  unfolding enter_leaf
  next_one n = refl

  entered_one : (n : Machine) → (enter_leaf v pg n).entered ≡ suc n.entered
  unfolding enter_leaf
  entered_one n = refl

  both_ways : (w c : Bool) → c ≡ false → (w && c) ≡ false
  both_ways true c e = e
  both_ways false c e = refl

  module _ (base : ℕ) (s : SmallTexts v pg) (b : base ≤ START_MARGIN) where
    step : (k : ℕ) (m n : Machine) → LeafRun base k m n → leaf_at n.next → n.next < part_limit v stop n.frames n.depth
        → LeafRun base (suc k) m (turn v pg n)
    step k m n r h i =
        let e : turn v pg n ≡ enter_leaf v pg n = turn_enter v pg stop n i ∙ enter_leaf_lem v pg n (v.kind n.next) refl h.0 h.1 in
        let d = ahead_not_done n i in
        let t = turned v pg stop n r.fine d in
        let l = t.less in
        let y = r.less in
        record {
          frames = ap (λ (x : Machine). x.frames) e ∙ same_frames n ∙ r.frames;
          depth = ap (λ (x : Machine). x.depth) e ∙ same_depth n ∙ r.depth;
          next = (let x = ap (λ (x : Machine). x.next) e ∙ next_one n in let z = r.next in omega arith);
          entered = (let x = ap (λ (x : Machine). x.entered) e ∙ entered_one n in let z = r.entered in omega arith);
          fine = t.fine;
          less = omega arith;
          safe = turn_safe v pg stop base n r.fine d s b r.safe;
          allots = λ f a p q.
              let z = r.entered in
              allot_turn v pg stop f a n r.fine (omega arith) d (both_ways (wants_row v pg stop n) (leb a n.entered) (lt-leb a n.entered (omega arith)))
              ∙ r.allots f a p (omega arith);
        }

    pub leaf_run : (k : ℕ) (m : Machine) → Fine v pg stop m → Safe v base m → ((i : ℕ) → m.next ≤ i → i < m.next + k → leaf_at i)
        → m.next + k ≤ part_limit v stop m.frames m.depth → LeafRun base k m (times k (turn v pg) m)
    unfolding times
    leaf_run zero m a y h l =
        record {
          frames = refl;
          depth = refl;
          next = omega arith;
          entered = omega arith;
          fine = a;
          less = omega arith;
          safe = y;
          allots = λ f a p q. refl;
        }
    leaf_run (suc k) m a y h l =
        let r = leaf_run k m a y (λ i p q. h i p (omega arith)) (omega arith) in
        let x = r.next in
        let e : part_limit v stop (times k (turn v pg) m).frames (times k (turn v pg) m).depth ≡ part_limit v stop m.frames m.depth =
        ap (λ (fs : List Frame). part_limit v stop fs (times k (turn v pg) m).depth) r.frames ∙ ap (part_limit v stop m.frames) r.depth in
        step k m (times k (turn v pg) m) r (h (times k (turn v pg) m).next (omega arith) (omega arith)) (omega arith)

module _ (store source image : List ℕ) (max limit stop : ℕ) where
  abbrev v : View
  v = view_of store

  abbrev pg : Page
  pg = page_of max source image

  -- one turn more
  pub follows_more : (k : ℕ) (marks out : List ℕ) (r : Running) (marks2 out2 : List ℕ) (q : Running) (marks3 out3 : List ℕ) (p : Running)
      → Follows limit (times k (turn v pg)) marks out r marks2 out2 q → Follows limit (turn v pg) marks2 out2 q marks3 out3 p
      → Follows limit (times (suc k) (turn v pg)) marks out r marks3 out3 p
  unfolding times
  follows_more k marks out r marks2 out2 q marks3 out3 p f g = record {
    goes = λ o b n w.
        let x = f.goes o b n w in
        let m = times k (turn v pg) (machine_of r marks b n) in
        subst (λ (y : Machine). Shows limit o marks3 out3 p (turn v pg y)) (sym x.same) (g.goes o m.state.buf m.entered x.wrote);
  }

  -- no turn
  pub follows_none : (marks out : List ℕ) (r : Running) → Follows limit (times 0 (turn v pg)) marks out r marks out r
  unfolding times machine_of
  follows_none marks out r = record { goes = λ o b n w. record { same = refl; wrote = w } }

  -- a turn leaves the run ready for the next
  module _ (marks out : List ℕ) (r : Running) (y : Ready store source image max limit stop marks out r) where
    abbrev m : Machine
    m = machine_of r marks y.text 0

    fine_now : Fine v pg stop m
    unfolding machine_of
    fine_now = y.at

    not_done_now : r.next < part_limit v stop r.frames r.depth → is_done v pg stop m ≡ false
    unfolding machine_of
    not_done_now h = ahead_not_done v pg stop m h

    module _ (h : r.next < part_limit v stop r.frames r.depth) (marks2 out2 : List ℕ) (q : Running)
        (s : Shows limit y.before marks2 out2 q (turn v pg (machine_of r marks y.text 0))) where
      fits : limit ≤ length out2
      fits =
          let e : length out ≡ length y.before = ap length y.wrote.written ∙ over_length limit y.before 0 y.text in
          let g : length out2 ≡ length y.before = ap length s.wrote.written ∙ over_length limit y.before 0 (turn v pg m).state.buf in
          let h = y.fits in
          omega arith

      at : At v stop q.frames q.depth q.next
      unfolding machine_of
      at = subst (λ (x : Machine). At v stop x.frames x.depth x.next) s.same (turned v pg stop m fine_now (not_done_now h)).fine

      safe : Safe v y.base (machine_of q marks2 (turn v pg m).state.buf 0)
      unfolding machine_of
      safe =
          let x = subst (λ (x : Machine). Safe v y.base x) s.same (turn_safe v pg stop y.base m fine_now (not_done_now h) y.small y.low y.safe) in
          record { sum = x.sum; low = x.low; column = x.column; bytes = x.bytes }

      ready_shown : Ready store source image max limit stop marks2 out2 q
      ready_shown =
          record {
            room = y.room;
            few = y.few;
            fits = fits;
            small = y.small;
            at = at;
            base = y.base;
            low = y.low;
            before = y.before;
            text = (turn v pg m).state.buf;
            wrote = s.wrote;
            safe = safe;
          }

    pub ready_on : r.next < part_limit v stop r.frames r.depth → (marks2 out2 : List ℕ) (q : Running)
        → Follows limit (turn v pg) marks out r marks2 out2 q → Ready store source image max limit stop marks2 out2 q
    ready_on h marks2 out2 q f = ready_shown h marks2 out2 q (f.goes y.before y.text 0 y.wrote)
