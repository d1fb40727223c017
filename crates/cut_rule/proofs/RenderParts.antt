-- Rendering in one go is rendering to a stop and then on. One go clears the marks of all rows before it starts, a list of calls those of its own
-- rows before each call: the same, since rows neither read nor change marks past their numbers (`draw_past`). And where so many rows end is the
-- same for every stop that has as many, so that one go to the further of two stops ends where a call to the nearer one does.
-- Assumes nothing but the laws of the parts.
use mathlib.Core.Path.{◌≡◌, refl, sym, ap, ap₂, subst, ◌∙◌}
use Rattle.std.specs.Prelude.{None}
use mathlib.Core.List.{List, [], ◌∷◌, ◌++◌}
use mathlib.Core.Bool.{Bool, true, false, cond}
use borrow.Author.Tests.{ltb-true}
use lib.Dec.{ltb}
use Prim.Native.Nat.{ℕ, ◌+◌, ◌-◌, ◌≤◌, min, max}
use native.Mathlib.Omega.{arith}
use native.Mathlib.Decide.{dec_le}
use Rattle.std.proofs.lemmas.List.{append_cancel_left}
use lib.ListN.{length, take, replicate, length-append, length-take, length-replicate, replicate-append-replicate}
use Rattle.renderer_rules.specs.Stops.{OpenRow}
use Rattle.renderer_rules.specs.Listed.{reads_from}
use Rattle.cut_rule.specs.Rules.{RenderTo, RenderResult}
use Rattle.cut_rule.specs.Laws.{SameBefore, then_rendered, to_stop, RenderLaws, RoomLaws}
use Rattle.cut_rule.specs.States.{RenderChoice, RenderState, render_fresh}
use Rattle.cut_rule.specs.Parts.{Drawn, RuleParts, read_from, with_cleared, drawn_of, rendered_of, rules}
use Rattle.cut_rule.specs.PartLaws.{LayoutPartLaws, with_past, then_drawn, StoppedAt, drawn_fresh, all_entered, Right, RenderPartLaws}
use Rattle.cut_rule.proofs.Table.{LegalWidth, LegalRule, same_as_carried, render_told}
use Rattle.cut_rule.proofs.LayoutParts.{rows_fit}

replicate_split : (n a b : ℕ) → n ≡ a + b → replicate {A = ℕ} n 0 ≡ replicate a 0 ++ replicate b 0
replicate_split n a b e = ap (λ (k : ℕ). replicate {A = ℕ} k 0) e ∙ sym (replicate-append-replicate a b 0)

-- a call reads from its next row or from one before it
pub read_first : (ls : List OpenRow) (n : ℕ) → reads_from ls n ≤ n
read_first [] n = omega arith
read_first (l ∷ ls) n = go (ltb l.row n) refl
  where
    go : (b : Bool) → ltb l.row n ≡ b → cond b l.row n ≤ n
    go true e = let h = ltb-true l.row n e in omega arith
    go false e = omega arith

-- what follows a rendering is told by the whole and by that rendering
then_cancel : (one x y : Drawn) → then_drawn one (λ ms. x) ≡ then_drawn one (λ ms. y) → x ≡ y
then_cancel one x y e = λ i. record {
  pen = (e i).pen;
  listed = (e i).listed;
  row = (e i).row;
  marks = (e i).marks;
  text = texts i;
  entered = counts i;
}
  where
    texts : x.text ≡ y.text
    texts = append_cancel_left one.text x.text y.text (ap (λ (d : Drawn). d.text) e)

    counts : x.entered ≡ y.entered
    counts = omega (arith, ap (λ (d : Drawn). d.entered) e)

module _ (P : RuleParts) (D : RenderPartLaws P) where
  length_cleared : (marks : List ℕ) (n : ℕ) → length (with_cleared P marks n) ≡ length marks + (n - length marks)
  length_cleared marks n = omega (arith, length-append marks (replicate (n - length marks) 0), length-replicate {A = ℕ} (n - length marks) 0)

  drawn_marks : (s : RenderState) (q : RenderTo RenderChoice) (n : ℕ) (marks store : List ℕ)
      → length (drawn_of P s q n marks store).marks ≡ length marks + (P.needed store (read_from s) q.stop - length marks)
  drawn_marks s q n marks store =
      let m = P.needed store (read_from s) q.stop in
      D.draw_marks s q n (with_cleared P marks m) store ∙ length_cleared marks m

  -- what a call gives, by what is drawn and the marks then in use
  abbrev given : RenderChoice → Drawn → ℕ → RenderResult RenderState
  given c y used = record {
    state = record { pen = y.pen; in_use = used; row = y.row; width = c.width; rule = c.rule; listed = y.listed };
    marks = y.marks;
    text = y.text;
    entered = y.entered;
  }

  -- ---- rows from the stop on are not read
  fresh_same : (q : RenderTo RenderChoice) (n : ℕ) (store other : List ℕ) → Right P q store → SameBefore q.stop store other
      → rendered_of P render_fresh q n [] store ≡ rendered_of P render_fresh q n [] other
  fresh_same q n store other u e =
      let h = D.needed_local store other 0 q.stop e in
      ap₂ (λ (y : Drawn) (k : ℕ). given q.choice y (max 0 k))
      (D.draw_local q n (with_cleared P [] (P.needed store 0 q.stop)) store other u e
      ∙ ap (λ (k : ℕ). drawn_fresh P q n (with_cleared P [] k) other) h)
      h

  -- ---- stops, with marks enough
  module _ (c : RenderChoice) (marks store : List ℕ) where
    abbrev stop_at : ℕ → ℕ → Drawn
    stop_at n k = drawn_fresh P (to_stop n c) k marks store

    abbrev all_to : ℕ → ℕ
    all_to n = all_entered P (to_stop n c) marks store

    abbrev RightTo : ℕ → Type 0
    RightTo n = Right P (to_stop n c) store

    more_entered : (f t : ℕ) → f ≤ t → RightTo f → RightTo t → all_to f ≤ all_to t
    more_entered f t h u v =
        let a = D.enters (to_stop t c) (all_to f) marks store v in
        let b = D.enters (to_stop f c) (all_to f) marks store u in
        let e = ap (λ (y : Drawn). y.entered) (D.further_stop c f t (all_to f) marks store h u v (omega arith)) in
        omega (arith, a, b, e)

    -- the first n rows before f are the first n before t, if they are not past t
    as_many : (f t n : ℕ) → RightTo f → RightTo t → n ≤ all_to f → (stop_at f n).row ≤ t → n ≤ all_to t
    as_many f t n u v h l = go (dec_le f t)
      where
        go : Dec (f ≤ t) → n ≤ all_to t
        go (yes g) = omega (arith, more_entered f t g u v)
        go (no g) = D.nearer_stop c t f n marks store (omega arith) v u h l

    same_stop : (f t n : ℕ) → RightTo f → RightTo t → n ≤ all_to f → n ≤ all_to t → stop_at t n ≡ stop_at f n
    same_stop f t n u v h g = go (dec_le f t)
      where
        go : Dec (f ≤ t) → stop_at t n ≡ stop_at f n
        go (yes l) = D.further_stop c f t n marks store l u v h
        go (no l) = sym (D.further_stop c t f n marks store (omega arith) v u g)

    right_most : (f t : ℕ) → RightTo f → RightTo t → RightTo (max f t)
    right_most f t u v = go (dec_le f t)
      where
        go : Dec (f ≤ t) → RightTo (max f t)
        go (yes l) = let e : t ≡ max f t = omega arith in subst RightTo e v
        go (no l) = let e : f ≡ max f t = omega arith in subst RightTo e u

    -- n rows before f, and then k with stop t, are one go
    one_go : (s : RenderState) (f t n k : ℕ) → RightTo f → RightTo t → P.needed store 0 t ≤ length marks → n ≤ all_to f → (stop_at f n).row ≤ t
        → StoppedAt (stop_at f n) s
        → stop_at (max f t) (n + min k (all_to t - n)) ≡ then_drawn (stop_at f n) (λ ms. P.draw s (to_stop t c) k ms store)
    one_go s f t n k u v m h l there =
        let g = as_many f t n u v h l in
        let same = same_stop f t n u v h g in
        let e : n + min k (all_to t - n) ≡ min (n + k) (all_to t) = omega arith in
        let a : min (n + k) (all_to t) ≤ all_to t = omega arith in
        let b : all_to t ≤ all_to (max f t) = more_entered t (max f t) (omega arith) v (right_most f t u v) in
        ap (λ (j : ℕ). stop_at (max f t) j) e
        ∙ same_stop t (max f t) (min (n + k) (all_to t)) v (right_most f t u v) a (omega arith)
        ∙ sym (D.runs_out (to_stop t c) (n + k) marks store v)
        ∙ D.draw_join s (to_stop t c) n k marks store v m (subst (λ (y : Drawn). StoppedAt y s) (sym same) there)
        ∙ ap (λ (y : Drawn). then_drawn y (λ ms. P.draw s (to_stop t c) k ms store)) same

    -- and going on reads no rows from t on, since one go to t does not
    going_same : (s : RenderState) (f t n k : ℕ) (other : List ℕ) → RightTo f → RightTo t → P.needed store 0 t ≤ length marks → n ≤ all_to f
        → (stop_at f n).row ≤ t → StoppedAt (stop_at f n) s → SameBefore t store other
        → P.draw s (to_stop t c) k (stop_at f n).marks store ≡ P.draw s (to_stop t c) k (stop_at f n).marks other
    going_same s f t n k other u v m h l there e =
        let g = as_many f t n u v h l in
        let same = same_stop f t n u v h g in
        let here = subst (λ (y : Drawn). StoppedAt y s) (sym same) there in
        let q = to_stop t c in
        let one = D.draw_local q n marks store other v e in
        let there_other = subst (λ (y : Drawn). StoppedAt y s) one here in
        let m_other : P.needed other 0 t ≤ length marks = omega (arith, m, D.needed_local store other 0 t e) in
        let whole =
        sym (D.draw_join s q n k marks store v m here)
        ∙ D.draw_local q (n + k) marks store other v e
        ∙ D.draw_join s q n k marks other (D.right_local c store other t e v) m_other there_other
        ∙ ap (λ (y : Drawn). then_drawn y (λ ms. P.draw s q k ms other)) (sym one) in
        subst (λ (y : Drawn). P.draw s q k y.marks store ≡ P.draw s q k y.marks other) same
        (then_cancel (stop_at t n) (P.draw s q k (stop_at t n).marks store) (P.draw s q k (stop_at t n).marks other) whole)

  -- ---- and each with the marks that its own rows need
  module _ (p : RenderTo RenderChoice) (n t k : ℕ) (store : List ℕ) (right₁ : Right P p store) (right₂ : Right P (to_stop t p.choice) store) where
    abbrev far : ℕ
    far = max p.stop t

    -- the marks that rows before p's stop need, before t, before both, and those that a call to t reads
    abbrev before : ℕ
    before = P.needed store 0 p.stop

    abbrev before_t : ℕ
    before_t = P.needed store 0 t

    abbrev all : ℕ
    all = P.needed store 0 far

    abbrev one : Drawn
    one = drawn_of P render_fresh p n [] store

    abbrev stopped : RenderState
    stopped = (rendered_of P render_fresh p n [] store).state

    abbrev more : ℕ
    more = P.needed store (read_from stopped) t

    abbrev zeros : List ℕ
    zeros = replicate (more - length one.marks) 0

    abbrev cleared : List ℕ
    cleared = with_cleared P [] all

    one_marks : length one.marks ≡ before
    one_marks = omega (arith, drawn_marks render_fresh p n [] store)

    far_needs : all ≡ max before before_t
    far_needs = go (dec_le p.stop t)
      where
        go : Dec (p.stop ≤ t) → all ≡ max before before_t
        go (yes h) =
            let e : far ≡ t = omega arith in
            let f : all ≡ before_t = ap (P.needed store 0) e in
            omega (arith, D.needed_join store p.stop t h)
        go (no h) =
            let e : far ≡ p.stop = omega arith in
            let f : all ≡ before = ap (P.needed store 0) e in
            omega (arith, D.needed_join store t p.stop (omega arith))

    -- marks of fewer rows, with zeros behind
    cleared_past : (q : RenderTo RenderChoice) (j : ℕ) → Right P q store → P.needed store 0 q.stop ≤ all
        → drawn_fresh P q j cleared store
        ≡ with_past (drawn_fresh P q j (with_cleared P [] (P.needed store 0 q.stop)) store) (replicate (all - P.needed store 0 q.stop) 0)
    cleared_past q j u h =
        let own = P.needed store 0 q.stop in
        ap (λ (ms : List ℕ). drawn_fresh P q j ms store) (replicate_split (all - 0) (own - 0) (all - own) (omega arith))
        ∙ D.draw_past q j (with_cleared P [] own) (replicate (all - own) 0) store u (omega (arith, length_cleared [] own))

    same_all : (q : RenderTo RenderChoice) → Right P q store → P.needed store 0 q.stop ≤ all
        → all_entered P q cleared store ≡ all_entered P q (with_cleared P [] (P.needed store 0 q.stop)) store
    same_all q u h = ap (λ (y : Drawn). y.entered) (cleared_past q q.stop u h)

    module _ (enough : n ≤ (rendered_of P render_fresh p p.stop [] store).entered) (in_reach : stopped.row ≤ t) where
      from_next : read_from stopped ≤ stopped.row
      from_next = read_first stopped.listed stopped.row

      -- the call to t clears as many marks as one go has more than the first call
      zeros_are : all - before ≡ more - length one.marks
      zeros_are =
          let r = D.stop_row p n (with_cleared P [] before) store right₁ in
          let a = D.needed_join store (read_from stopped) p.stop (omega (arith, from_next)) in
          let b = D.needed_join store (read_from stopped) t (omega (arith, from_next)) in
          omega (arith, a, b, far_needs, one_marks)

      in_use_are : max 0 all ≡ max (max 0 before) more
      in_use_are =
          let r = D.stop_row p n (with_cleared P [] before) store right₁ in
          let a = D.needed_join store (read_from stopped) p.stop (omega (arith, from_next)) in
          let b = D.needed_join store (read_from stopped) t (omega (arith, from_next)) in
          omega (arith, a, b, far_needs)

      -- the rows before p's stop, with the marks of all rows cleared
      one_past : drawn_fresh P p n cleared store ≡ with_past one zeros
      one_past =
          cleared_past p n right₁ (omega (arith, far_needs))
          ∙ ap (λ (j : ℕ). with_past one (replicate j 0)) zeros_are

      past : (drawn_fresh P p n cleared store).row ≡ stopped.row
      past = ap (λ (y : Drawn). y.row) one_past

      stopped_there : StoppedAt (drawn_fresh P p n cleared store) stopped
      stopped_there = record {
        row = sym past;
        listed = sym (ap (λ (y : Drawn). y.listed) one_past);
        pen = sym (ap (λ (y : Drawn). y.pen) one_past);
      }

      abbrev onward : Drawn → Drawn
      onward y = then_drawn y (λ ms. P.draw stopped (to_stop t p.choice) k ms store)

      all_drawn : drawn_of P render_fresh (to_stop far p.choice) (n + min k ((rendered_of P render_fresh (to_stop t p.choice) t [] store).entered - n)) [] store
          ≡ onward (with_past one zeros)
      all_drawn =
          ap (λ (j : ℕ). drawn_fresh P (to_stop far p.choice) (n + min k (j - n)) cleared store)
          (sym (same_all (to_stop t p.choice) right₂ (omega (arith, far_needs))))
          ∙ one_go p.choice cleared store stopped p.stop t n k right₁ right₂ (omega (arith, far_needs, length_cleared [] all))
          (omega (arith, enough, same_all p right₁ (omega (arith, far_needs))))
          (omega (arith, in_reach, past)) stopped_there
          ∙ ap onward one_past

      joined : rendered_of P render_fresh (to_stop far p.choice) (n + min k ((rendered_of P render_fresh (to_stop t p.choice) t [] store).entered - n)) [] store
          ≡ then_rendered (rendered_of P render_fresh p n [] store) (λ s marks. rendered_of P s (to_stop t p.choice) k marks store)
      joined = ap₂ (λ (y : Drawn) (j : ℕ). given p.choice y j) all_drawn in_use_are

      due_same : (other : List ℕ) → SameBefore t store other
          → rendered_of P stopped (to_stop t p.choice) k one.marks store ≡ rendered_of P stopped (to_stop t p.choice) k one.marks other
      due_same other e =
          let h = D.needed_local store other (read_from stopped) t e in
          let q = to_stop t p.choice in
          ap₂ (λ (y : Drawn) (j : ℕ). given p.choice y (max stopped.in_use j))
          (subst (λ (ms : List ℕ). P.draw stopped q k ms store ≡ P.draw stopped q k ms other) (ap (λ (y : Drawn). y.marks) one_past)
          (going_same p.choice cleared store stopped p.stop t n k other right₁ right₂ (omega (arith, far_needs, length_cleared [] all))
          (omega (arith, enough, same_all p right₁ (omega (arith, far_needs)))) (omega (arith, in_reach, past)) stopped_there e)
          ∙ ap (λ (j : ℕ). P.draw stopped q k (with_cleared P one.marks j) other) h)
          h

  -- as many rows are entered with more marks
  more_rows : (c : RenderChoice) (f t : ℕ) (store : List ℕ) → f ≤ t → Right P (to_stop f c) store → Right P (to_stop t c) store
      → (rendered_of P render_fresh (to_stop f c) f [] store).entered ≤ (rendered_of P render_fresh (to_stop t c) t [] store).entered
  more_rows c f t store h u v =
      let m = with_cleared P [] (P.needed store 0 (max f t)) in
      let needs = far_needs (to_stop f c) 0 t 0 store u v in
      omega (
        arith,
        same_all (to_stop f c) 0 t 0 store u v (to_stop f c) u (omega (arith, needs)),
        same_all (to_stop f c) 0 t 0 store u v (to_stop t c) v (omega (arith, needs)),
        more_entered c m store f t h u v,
      )

  -- a call can choose width and rule, and the rows before row n are right
  pub record Whole (c : RenderChoice) (rows : List ℕ) (n : ℕ) : Type 0 where
    pub legal : LegalWidth c.width
    pub rule : LegalRule c.rule
    pub right : P.wrong_row c rows 0 n ≡ None

  pub render_laws : RenderLaws (rules P)
  render_laws = record {
    WholeRows = Whole;
    accepted_none =
        λ q s store marks e.
        let t = (render_told P q s store marks e).checked in
        record { legal = t.width.legal; rule = t.legal; right = D.none_wrong q.to.choice store };
    accepted_whole =
        λ q s store marks e w.
        let t = (render_told P q s store marks e).checked in
        record {
          legal = w.legal;
          rule = w.rule;
          right =
              D.right_join q.to.choice store (read_from s) q.to.stop (omega (arith, read_first s.listed s.row, t.fits.row.not_past)) w.right t.right;
        };
    accepted_not_past = λ q s store marks e. (render_told P q s store marks e).checked.fits.row.not_past;
    accepted_same = λ p n rows q store marks w e.
        let t = (render_told P q (rendered_of P render_fresh p n [] rows).state store marks e).checked in
        ap₂ (λ (x y : ℕ). record { width = x; rule = y })
        (same_as_carried q.to.choice.width p.choice.width (omega (arith, w.legal.least)) t.width.same)
        (same_as_carried q.to.choice.rule p.choice.rule w.rule.least t.fits.rule);
    reads_first = λ s. read_first s.listed s.row;
    fresh_next = refl;
    due_next = λ p n rows w. D.stop_row p n (with_cleared P [] (P.needed rows 0 p.stop)) rows w.right;
    due_whole = λ p n rows w. record {
      legal = w.legal;
      rule = w.rule;
      right = D.stop_top p n (with_cleared P [] (P.needed rows 0 p.stop)) rows w.right;
    };
    fresh_use = refl;
    due_use = λ p n rows w. omega (arith, drawn_marks render_fresh p n [] rows);
    grows = λ s p n marks rows. omega (arith, drawn_marks s p n marks rows);
    whole_local = λ c rows others n e w. record { legal = w.legal; rule = w.rule; right = D.right_local c rows others n e w.right };
    fresh_local = λ p n rows others w e. fresh_same p n rows others w.right e;
    due_local = λ p n t k rows others u v h l e. due_same p n t k rows u.right v.right h l others e;
    runs_out = λ p n rows w.
        let m = P.needed rows 0 p.stop in
        ap (λ (y : Drawn). given p.choice y (max 0 m)) (D.runs_out p n (with_cleared P [] m) rows w.right);
    enters_more = λ c f t rows h u v. more_rows c f t rows h u.right v.right;
    goes_on = λ p n t k rows u v h l. joined p n t k rows u.right v.right h l;
  }

  pub whole : (c : RenderChoice) (rows : List ℕ) (n : ℕ) → render_laws.WholeRows c rows n → Whole c rows n
  unfolding render_laws
  whole c rows n k = k

  pub as_whole : (c : RenderChoice) (rows : List ℕ) (n : ℕ) → Whole c rows n → render_laws.WholeRows c rows n
  unfolding render_laws
  as_whole c rows n k = k

  pub room_laws : LayoutPartLaws P → RoomLaws (rules P)
  room_laws L = record {
    rows_fit = rows_fit P L;
    marks_fit = λ q s store marks e.
        omega (
          arith,
          (render_told P q s store marks e).marks_enough,
          length-take s.in_use marks,
          drawn_marks s q.to q.allotment (take s.in_use marks) store,
        );
  }
