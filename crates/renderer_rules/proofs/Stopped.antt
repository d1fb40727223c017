-- An allotment in the machine is the stop that the rules have: after n rows more it stands where row n + 1 is entered, or is done.
-- Assumes nothing.
use mathlib.Core.Path.{◌≡◌, refl, ap, ap₂, sym, ◌∙◌, subst}
use Prim.Native.Nat.{ℕ, zero, suc, ◌+◌, ◌≤◌, ◌<◌, min}
use native.Mathlib.Omega.{arith}
use mathlib.Core.Bool.{Bool, true, false, cond, ◌&&◌}
use mathlib.Core.List.{List, [], ◌∷◌}
use lib.ListN.{length, get_or, drop}
use lib.Dec.{eqb, leb}
use borrow.Author.Tests.{ne_eqb, eq-eqb, eqb-true, ltb-true, ltb-false, lt-leb, le-leb}
use Rattle.laws.proofs.Booleans.{both}
use Rattle.rows.specs.Kinds.{GROUP, INDENT, INDENT_NEXT, WRAP_PARENT, LINE_OR_SPACE, IF_WRAP, CALL}
use Rattle.rows.specs.Node.{wrapped}
use Rattle.rows.specs.View.{View, nodes_at}
use Rattle.rows.proofs.Decode.{nodes_none}
use Rattle.rows.proofs.Nested.{nests_le, nests_two, nests_pair, nests_kind, nests_after, nests_deep, nests_leaf}
use Rattle.renderer_rules.specs.Renderer.{Page, Renderer, group_wraps, insert}
use Rattle.renderer_rules.specs.Frames.{frame_at, part_end, part_limit, wrap_at, At}
use Rattle.renderer_rules.specs.Machine.{Machine, opened, reopened, closed_to, frame_of, call_frame, closing, enter_group, enter_indent, enter_next, enter_leaf}
use Rattle.renderer_rules.specs.Machine.{enter_if, enter_call, enter, leave, turn_at, turn}
use Rattle.renderer_rules.specs.Stops.{listed_rows, Stop, stop_at, entered, behind, ahead}
use Rattle.renderer_rules.proofs.Machine.{Fine, left, is_done, means, turned, spent, done_means, not_done, limit_suc}
use Rattle.renderer_rules.proofs.Allot.{wants_row, allot}
use Rattle.renderer_rules.proofs.Stops.{group_ahead, indent_ahead, next_ahead, if_first_ahead, if_second_ahead, call_ahead, arguments_ahead}
use Rattle.renderer_rules.proofs.Stops.{closed_ahead, leaf_ahead}

module _ (v : View) (pg : Page) (stop : ℕ) where
  -- where the machine stands, and the rows that the rules still enter
  abbrev pub stop_of : Machine → Stop
  stop_of m = stop_at m.next (listed_rows m.frames m.depth) m.state

  abbrev pub ahead_of : Machine → List Stop
  ahead_of m = ahead v pg stop m.frames m.depth m.next m.state

  -- where it stands in the end
  abbrev pub done_at : Machine → Stop
  done_at m = stop_at stop [] (means v pg stop m)

  -- what a turn that enters a row does
  pub record Enters (m n : Machine) : Type 0 where
    pub first : ahead_of m ≡ (stop_of m ∷ ahead_of n)
    pub one : n.entered ≡ suc m.entered

  -- and one that enters none
  pub record Closes (m n : Machine) : Type 0 where
    pub same : ahead_of n ≡ ahead_of m
    pub none : n.entered ≡ m.entered

  module _ (m : Machine) (a : Fine v pg stop m) (h : m.next < part_limit v stop m.frames m.depth) where
    roomy : m.depth < length m.frames
    roomy = rw a.size (nests_deep a.good h)

    if_enters : v.kind m.next ≡ IF_WRAP → Enters m (enter_if v pg m)
    unfolding enter_if
    if_enters k = go (wrapped m.state.marks (v.number m.next)) refl
      where
        go : (b : Bool) → wrapped m.state.marks (v.number m.next) ≡ b
            → Enters m (cond b (opened m (frame_of m.next (wrap_at m.frames m.depth) true) (suc m.next) m.state)
            (opened m (frame_of m.next (wrap_at m.frames m.depth) false) (v.second m.next) m.state))
        go true e = record {
          first = if_first_ahead v pg stop m.frames m.depth m.next m.state roomy (nests_after a.good h) k (nests_two a.good h k).0 e;
          one = refl;
        }
        go false e = record {
          first = if_second_ahead v pg stop m.frames m.depth m.next m.state roomy (nests_after a.good h) k (nests_two a.good h k).0 e;
          one = refl;
        }

    group_enters : v.kind m.next ≡ GROUP → Enters m (enter_group v pg m)
    unfolding enter_group
    group_enters k = record { first = group_ahead v pg stop m.frames m.depth m.next m.state _ roomy (nests_after a.good h) k refl; one = refl }

    indent_enters : v.kind m.next ≡ INDENT → Enters m (enter_indent v pg m)
    unfolding enter_indent
    indent_enters k = record { first = indent_ahead v pg stop m.frames m.depth m.next m.state roomy (nests_after a.good h) k; one = refl }

    next_enters : v.kind m.next ≡ INDENT_NEXT → Enters m (enter_next v pg m)
    unfolding enter_next
    next_enters k = record { first = next_ahead v pg stop m.frames m.depth m.next m.state roomy (nests_after a.good h) k; one = refl }

    call_enters : v.kind m.next ≡ CALL → Enters m (enter_call v pg m)
    unfolding enter_call
    call_enters k = record {
      first = call_ahead v pg stop m.frames m.depth m.next m.state _ _ roomy (nests_after a.good h) k
          (nests_pair a.good h k).split refl refl;
      one = refl;
    }

    leaf_enters : WRAP_PARENT ≤ v.kind m.next → v.kind m.next ≤ LINE_OR_SPACE → Enters m (enter_leaf v pg m)
    unfolding enter_leaf
    leaf_enters k l = record {
      first = leaf_ahead v pg stop m.frames m.depth m.next m.state (nests_after a.good h) k l (nests_leaf a.good h k l).next;
      one = refl;
    }

    enter_enters : (k : ℕ) → v.kind m.next ≡ k → Enters m (enter v pg m)
    unfolding enter
    enter_enters zero e = rw e (group_enters e)
    enter_enters (suc zero) e = rw e (indent_enters e)
    enter_enters (suc (suc zero)) e = rw e (next_enters e)
    enter_enters (suc (suc (suc zero))) e = rw e (leaf_enters (omega arith) (omega arith))
    enter_enters (suc (suc (suc (suc zero)))) e = rw e (leaf_enters (omega arith) (omega arith))
    enter_enters (suc (suc (suc (suc (suc zero))))) e = rw e (leaf_enters (omega arith) (omega arith))
    enter_enters (suc (suc (suc (suc (suc (suc zero)))))) e = rw e (leaf_enters (omega arith) (omega arith))
    enter_enters (suc (suc (suc (suc (suc (suc (suc zero))))))) e = rw e (leaf_enters (omega arith) (omega arith))
    enter_enters (suc (suc (suc (suc (suc (suc (suc (suc zero)))))))) e = rw e (leaf_enters (omega arith) (omega arith))
    enter_enters (suc (suc (suc (suc (suc (suc (suc (suc (suc zero))))))))) e = rw e (leaf_enters (omega arith) (omega arith))
    enter_enters (suc (suc (suc (suc (suc (suc (suc (suc (suc (suc zero)))))))))) e = rw e (if_enters e)
    enter_enters (suc (suc (suc (suc (suc (suc (suc (suc (suc (suc (suc zero))))))))))) e = rw e (call_enters e)
    enter_enters (suc (suc (suc (suc (suc (suc (suc (suc (suc (suc (suc (suc k)))))))))))) e = absurd (let z = nests_kind a.good h in omega arith)

  module _ (m : Machine) (k : ℕ) (d : m.depth ≡ suc k) (a : At v stop m.frames (suc k) m.next) (e : m.next ≡ part_end v (frame_at m.frames k)) where
    roomy_top : k < length m.frames
    roomy_top = let z = a.deep in rw a.size (omega arith)

    ahead_depth : ahead_of m ≡ ahead v pg stop m.frames (suc k) m.next m.state
    ahead_depth = ap (λ (x : ℕ). ahead v pg stop m.frames x m.next m.state) d

    leave_closes : Closes m (leave v pg m k)
    unfolding leave part_end
    leave_closes = go (eqb (v.kind (frame_at m.frames k).row) CALL && (frame_at m.frames k).first) refl
      where
        c : Bool
        c = group_wraps pg (nodes_at v m.next (v.after (frame_at m.frames k).row)) m.state

        on : Machine
        on = reopened m k (call_frame (frame_at m.frames k).row c false (frame_at m.frames k).deeper (frame_at m.frames k).made)
            (insert c (v.number2 (frame_at m.frames k).row) m.state)

        off : Machine
        off = closed_to m k (v.after (frame_at m.frames k).row) (closing v pg (frame_at m.frames k) m.state)

        go : (b : Bool) → (eqb (v.kind (frame_at m.frames k).row) CALL && (frame_at m.frames k).first) ≡ b → Closes m (cond b on off)
        go true q =
            let x = both (eqb (v.kind (frame_at m.frames k).row) CALL) (frame_at m.frames k).first q in
            record {
              same = arguments_ahead v pg stop m.frames k m.next m.state c roomy_top (eqb-true (v.kind (frame_at m.frames k).row) 11 x.0) x.1 (e
                  ∙ rw x.1) refl ∙ sym ahead_depth;
              none = refl;
            }
        go false q = record { same = sym (ahead_depth ∙ closed_ahead v pg stop m.frames k m.next m.state (omega arith) q); none = refl }

  -- a turn enters the next row exactly where one is ahead in the open part
  turn_enters_at : (d : ℕ) (m : Machine) → m.depth ≡ d → Fine v pg stop m → m.next < part_limit v stop m.frames d → Enters m (turn_at v pg d m)
  unfolding turn_at
  turn_enters_at zero m e a h = enter_enters m a (subst (λ (x : ℕ). m.next < part_limit v stop m.frames x) (sym e) h) (v.kind m.next) refl
  turn_enters_at (suc k) m e a h =
      let l = limit_suc v pg stop m.frames k in
      rw (ne_eqb m.next (part_end v (frame_at m.frames k)) (λ q. omega arith))
      (enter_enters m a (subst (λ (x : ℕ). m.next < part_limit v stop m.frames x) (sym e) h) (v.kind m.next) refl)

  turn_closes_at : (d : ℕ) (m : Machine) → m.depth ≡ d → Fine v pg stop m → is_done v pg stop m ≡ false → part_limit v stop m.frames d ≤ m.next
      → Closes m (turn_at v pg d m)
  unfolding turn_at
  turn_closes_at zero m e a n h =
      let z = not_done v pg stop m a n e in
      let y : part_limit v stop m.frames m.depth ≡ part_limit v stop m.frames 0 = ap (part_limit v stop m.frames) e in
      absurd (omega arith)
  turn_closes_at (suc k) m e a n h =
      let l = limit_suc v pg stop m.frames k in
      let a2 : At v stop m.frames (suc k) m.next = subst (λ (d : ℕ). At v stop m.frames d m.next) e a in
      let g = nests_le a2.good in
      let q : m.next ≡ part_end v (frame_at m.frames k) = omega arith in
      rw (eq-eqb m.next (part_end v (frame_at m.frames k)) q) (leave_closes m k e a2 q)

  pub turn_enters : (m : Machine) → Fine v pg stop m → wants_row v pg stop m ≡ true → Enters m (turn v pg m)
  unfolding turn wants_row
  turn_enters m a w = turn_enters_at m.depth m refl a (ltb-true _ _ w)

  pub turn_closes : (m : Machine) → Fine v pg stop m → is_done v pg stop m ≡ false → wants_row v pg stop m ≡ false → Closes m (turn v pg m)
  unfolding turn wants_row
  turn_closes m a n w = turn_closes_at m.depth m refl a n (ltb-false _ _ w)

  -- where all is done, no row is ahead
  none_ahead : (m : Machine) → is_done v pg stop m ≡ true → ahead_of m ≡ []
  unfolding is_done ahead behind part_limit entered listed_rows
  none_ahead m e =
      let x = both (eqb m.depth 0) (eqb m.next stop) e in
      rw (eqb-true m.depth 0 x.0) (rw (nodes_none v m.next stop (let z = eqb-true m.next stop x.1 in omega arith)))

  stop_done : (m : Machine) → is_done v pg stop m ≡ true → stop_of m ≡ done_at m
  unfolding is_done listed_rows
  stop_done m e =
      let x = both (eqb m.depth 0) (eqb m.next stop) e in
      let d : m.depth ≡ 0 = eqb-true m.depth 0 x.0 in
      let n : m.next ≡ stop = eqb-true m.next stop x.1 in
      ap (λ (r : Renderer). stop_at m.next (listed_rows m.frames m.depth) r) (sym (done_means v pg stop m e))
      ∙ ap₂ (λ (i d : ℕ). stop_at i (listed_rows m.frames d) (means v pg stop m)) n d

  -- THE STOP OF THE MACHINE IS THAT OF THE RULES, and so is its count
  pub record Stops (k : ℕ) (m n : Machine) : Type 0 where
    pub stops : stop_of n ≡ get_or (ahead_of m) k (done_at m)
    pub count : n.entered ≡ m.entered + min k (length (ahead_of m))
    pub rest : ahead_of n ≡ drop k (ahead_of m)
    pub final : means v pg stop n ≡ means v pg stop m
    pub fine : Fine v pg stop n

  stops_done : (k : ℕ) (m : Machine) → Fine v pg stop m → is_done v pg stop m ≡ true → Stops k m m
  stops_done k m a e = go k (ahead_of m) (none_ahead m e)
    where
      go : (k : ℕ) (l : List Stop) → ahead_of m ≡ [] → Stops k m m
      go k l q = record {
        stops = stop_done m e ∙ rw q (at_none k);
        count = rw q (omega arith);
        rest = q ∙ rw q (drop_none k);
        final = refl;
        fine = a;
      }
        where
          at_none : (k : ℕ) → done_at m ≡ get_or [] k (done_at m)
          at_none zero = refl
          at_none (suc k) = refl

          drop_none : (k : ℕ) → ◌≡◌ {A = List Stop} [] (drop k [])
          drop_none zero = refl
          drop_none (suc k) = refl

  stops_here : (m : Machine) → Fine v pg stop m → wants_row v pg stop m ≡ true → Stops 0 m m
  stops_here m a w =
      let t = turn_enters m a w in
      record { stops = rw t.first refl; count = omega arith; rest = refl; final = refl; fine = a }

  stops_enter : (k : ℕ) (m n : Machine) → Fine v pg stop m → Enters m (turn v pg m) → means v pg stop (turn v pg m) ≡ means v pg stop m
      → Stops k (turn v pg m) n → Stops (suc k) m n
  stops_enter k m n a t s r = record {
    stops = r.stops ∙ ap (λ (x : Renderer). get_or (ahead_of (turn v pg m)) k (stop_at stop [] x)) s ∙ rw t.first refl;
    count = (let c = r.count in let o = t.one in let l : length (ahead_of m) ≡ suc (length (ahead_of (turn v pg m))) = ap length t.first in omega arith);
    rest = r.rest ∙ rw t.first refl;
    final = r.final ∙ s;
    fine = r.fine;
  }

  stops_close : (k : ℕ) (m n : Machine) → Fine v pg stop m → Closes m (turn v pg m) → means v pg stop (turn v pg m) ≡ means v pg stop m
      → Stops k (turn v pg m) n → Stops k m n
  stops_close k m n a t s r = record {
    stops = r.stops ∙ ap (λ (x : Renderer). get_or (ahead_of (turn v pg m)) k (stop_at stop [] x)) s ∙ ap (λ (l : List Stop). get_or l k (done_at m)) t.same;
    count = (let c = r.count in let o = t.none in let l : length (ahead_of (turn v pg m)) ≡ length (ahead_of m) = ap length t.same in omega arith);
    rest = r.rest ∙ ap (drop k) t.same;
    final = r.final ∙ s;
    fine = r.fine;
  }

  module _ (f k : ℕ) (m : Machine) (a : Fine v pg stop m) (e : is_done v pg stop m ≡ false)
      (rec : (j : ℕ) → Stops j (turn v pg m) (allot v pg stop f ((turn v pg m).entered + j) (turn v pg m))) where
    same_meaning : means v pg stop (turn v pg m) ≡ means v pg stop m
    same_meaning = (turned v pg stop m a e).same

    enters : wants_row v pg stop m ≡ true → (k : ℕ) → Stops k m (cond (leb (m.entered + k) m.entered) m (allot v pg stop f (m.entered + k) (turn v pg m)))
    enters w zero = rw (le-leb (m.entered + 0) m.entered (omega arith)) (stops_here m a w)
    enters w (suc j) =
        let u = turn_enters m a w in
        let q : (turn v pg m).entered + j ≡ m.entered + suc j = (let o = u.one in omega arith) in
        rw (lt-leb (m.entered + suc j) m.entered (omega arith))
        (subst (λ (n : ℕ). Stops (suc j) m (allot v pg stop f n (turn v pg m))) q (stops_enter j m _ a u same_meaning (rec j)))

    wants : (w : Bool) → wants_row v pg stop m ≡ w → Stops k m (cond (w && leb (m.entered + k) m.entered) m (allot v pg stop f (m.entered + k) (turn v pg m)))
    wants true w = enters w k
    wants false w =
        let u = turn_closes m a e w in
        let q : (turn v pg m).entered + k ≡ m.entered + k = (let o = u.none in omega arith) in
        subst (λ (n : ℕ). Stops k m (allot v pg stop f n (turn v pg m))) q (stops_close k m _ a u same_meaning (rec k))

  allot_step : (f k : ℕ) (m : Machine) → Fine v pg stop m → (b : Bool) → is_done v pg stop m ≡ b
      → (b ≡ false → (j : ℕ) → Stops j (turn v pg m) (allot v pg stop f ((turn v pg m).entered + j) (turn v pg m)))
      → Stops k m (cond b m (cond (wants_row v pg stop m && leb (m.entered + k) m.entered) m (allot v pg stop f (m.entered + k) (turn v pg m))))
  allot_step f k m a true e rec = stops_done k m a e
  allot_step f k m a false e rec = wants f k m a e (rec refl) (wants_row v pg stop m) refl

  pub allot_stops : (f k : ℕ) (m : Machine) → Fine v pg stop m → left stop m ≤ f → Stops k m (allot v pg stop f (m.entered + k) m)
  unfolding allot
  allot_stops zero k m a l = stops_done k m a (spent v pg stop m a l)
  allot_stops (suc f) k m a l =
      allot_step f k m a (is_done v pg stop m) refl
      (λ e j. let t = turned v pg stop m a e in let y = t.less in allot_stops f j (turn v pg m) t.fine (omega arith))

  -- no more rows are ahead than turns are left
  few_step : (m : Machine) → Fine v pg stop m → is_done v pg stop m ≡ false → length (ahead_of (turn v pg m)) ≤ left stop (turn v pg m)
      → length (ahead_of m) ≤ left stop m
  few_step m a e r = go (wants_row v pg stop m) refl
    where
      go : (w : Bool) → wants_row v pg stop m ≡ w → length (ahead_of m) ≤ left stop m
      go true w =
          let l : length (ahead_of m) ≡ suc (length (ahead_of (turn v pg m))) = ap length (turn_enters m a w).first in
          let t = (turned v pg stop m a e).less in
          omega arith
      go false w =
          let l : length (ahead_of (turn v pg m)) ≡ length (ahead_of m) = ap length (turn_closes m a e w).same in
          let t = (turned v pg stop m a e).less in
          omega arith

  few_done : (m : Machine) → is_done v pg stop m ≡ true → length (ahead_of m) ≤ left stop m
  few_done m e = let l : length (ahead_of m) ≡ 0 = ap length (none_ahead m e) in omega arith

  few_by : (b : Bool) (m : Machine) → is_done v pg stop m ≡ b → Fine v pg stop m → (b ≡ false → length (ahead_of (turn v pg m)) ≤ left stop (turn v pg m))
      → length (ahead_of m) ≤ left stop m
  few_by true m e a r = few_done m e
  few_by false m e a r = few_step m a e (r refl)

  few_ahead : (f : ℕ) (m : Machine) → Fine v pg stop m → left stop m ≤ f → length (ahead_of m) ≤ left stop m
  few_ahead zero m a l = few_done m (spent v pg stop m a l)
  few_ahead (suc f) m a l =
      few_by (is_done v pg stop m) m refl a (λ e. let t = turned v pg stop m a e in let y = t.less in few_ahead f (turn v pg m) t.fine (omega arith))

  pub ahead_few : (m : Machine) → Fine v pg stop m → length (ahead_of m) ≤ left stop m
  ahead_few m a = few_ahead (left stop m) m a (omega arith)
