-- One call: where what stands is what is due, an accepted call leaves what is due at its stop. For layout that is `goes_on` of layout, and more
-- rows behind leave the rendering of those before a stop as it was; for rendering it is `goes_on` of rendering, with the stops in either order, and
-- the rows read are laid out.
-- Assumes nothing but the laws.
use mathlib.Core.Path.{◌≡◌, refl, sym, ap, subst, ◌∙◌}
use Rattle.std.specs.Prelude.{Option, None, Some}
use mathlib.Core.List.{List, [], ◌++◌}
use Prim.Native.Nat.{ℕ, ◌+◌, ◌-◌, ◌*◌, ◌≤◌, ◌<◌, min, max}
use native.Mathlib.Nat.{zero-add}
use native.Mathlib.Omega.{arith}
use native.Mathlib.Decide.{dec_lt, dec_le}
use lib.ListN.{length, take, drop, length-append}
use Rattle.rows.specs.Places.{PLACES}
use Rattle.refusals.specs.Refusals.{Refusal, unless}
use Rattle.cut_rule.specs.Rules.{LayoutArgs, RenderArgs, LayoutResult, RenderResult, Rules}
use Rattle.cut_rule.specs.Run.{write_front, Call, layout_call, render_call, Carried, refusal, rendered, accepted, call}
use Rattle.cut_rule.specs.Plain.{RenderedTo, Progress, layout_due, render_due, total, further, left_due, laid_due, rendered_due, due, onward}
use Rattle.cut_rule.specs.Plain.{plain_call, IsAccepted, ReadsLaid}
use Rattle.cut_rule.specs.Laws.{then_laid, LayoutLaws, SameBefore, then_rendered, to_stop, RenderLaws}
use Rattle.cut_rule.proofs.Memory.{write_behind, write_again, take_front, same_before}

module _ (R : Rules) (L : LayoutLaws R) (D : RenderLaws R) where
  abbrev pub LaidTo : Type 0
  LaidTo = Option (LayoutArgs R.LayoutChoice)

  abbrev pub ShownTo : Type 0
  ShownTo = Option (RenderedTo R.RenderChoice)

  -- ---- what stays true on the way
  abbrev pub LaidOk : LaidTo → Type 0
  LaidOk None = Unit {0}
  LaidOk (Some p) = L.Fits p

  -- the rows before the furthest stop are laid out and whole, and no more were entered than there are
  pub record ShownOk (rows : List ℕ) (p : RenderedTo R.RenderChoice) : Type 0 where
    pub laid : PLACES * p.to.stop ≤ length rows
    pub whole : D.WholeRows p.to.choice rows p.to.stop
    pub within : p.entered ≤ total R rows p.to

  abbrev pub RenderedOk : List ℕ → ShownTo → Type 0
  RenderedOk rows None = Unit {0}
  RenderedOk rows (Some p) = ShownOk rows p

  pub record ProgressOk (f : Progress R) : Type 0 where
    pub laid_ok : LaidOk f.laid_to_of
    pub rendered_ok : RenderedOk (laid_due R f).rows f.rendered_to

  -- ---- layout
  laid_row : (o : LaidTo) → LaidOk o → PLACES * R.next_row (layout_due R o).state ≡ length (layout_due R o).rows
  laid_row None k = ap (λ (n : ℕ). PLACES * n) L.fresh_row
  laid_row (Some p) k = L.due_row p k

  laid_on : (o : LaidTo) (q : LayoutArgs R.LayoutChoice) (store : List ℕ) → LaidOk o
      → R.layout_refusal q (layout_due R o).state store ≡ None
      → R.layout R.layout_fresh_of q ≡ then_laid (layout_due R o) (λ s. R.layout s q)
  laid_on None q store k e = refl
  laid_on (Some p) q store k e = L.goes_on p q k (L.accepted_fits q _ store e) (L.accepted_after p q store k e)

  -- more rows behind do not change what the rows before the rendering stop give
  rendered_more : (o : ShownTo) (rows more : List ℕ) → RenderedOk rows o
      → render_due R (rows ++ more) o ≡ render_due R rows o
  rendered_more None rows more k = refl
  rendered_more (Some p) rows more k =
      sym (D.fresh_local p.to p.entered rows (rows ++ more) k.whole (sym (same_before p.to.stop rows more k.laid)))

  rendered_ok_more : (o : ShownTo) (rows more : List ℕ) → RenderedOk rows o → RenderedOk (rows ++ more) o
  rendered_ok_more None rows more k = tt
  rendered_ok_more (Some p) rows more k =
      let e = sym (same_before p.to.stop rows more k.laid) in
      record {
        laid = omega (arith, length-append rows more, k.laid);
        whole = D.whole_local p.to.choice rows (rows ++ more) p.to.stop e k.whole;
        within =
            subst (λ (y : RenderResult R.RenderState). p.entered ≤ y.entered) (D.fresh_local p.to p.to.stop rows (rows ++ more) k.whole e) k.within;
      }

  layout_step : (s m : List ℕ) (f : Progress R) (q : LayoutArgs R.LayoutChoice) → ProgressOk f → IsAccepted R (due R s m f) (layout_call q)
      → accepted R (due R s m f) (layout_call q) ≡ due R s m (onward R f (layout_call q))
  layout_step s m f q k e =
      ap (λ (st : List ℕ). filled st joined shown) (write_behind _ one.rows two.rows s (laid_row f.laid_to_of k.laid_ok))
      ∙ ap (λ (d : RenderResult R.RenderState). made joined d) (sym (rendered_more f.rendered_to one.rows two.rows k.rendered_ok))
      ∙ ap (λ (l : LayoutResult R.LayoutState). made l (render_due R l.rows f.rendered_to)) (sym (laid_on f.laid_to_of q _ k.laid_ok e))
    where
      one : LayoutResult R.LayoutState
      one = laid_due R f

      two : LayoutResult R.LayoutState
      two = R.layout one.state q

      joined : LayoutResult R.LayoutState
      joined = then_laid one (λ s. R.layout s q)

      shown : RenderResult R.RenderState
      shown = render_due R one.rows f.rendered_to

      filled : List ℕ → LayoutResult R.LayoutState → RenderResult R.RenderState → Carried R
      filled st l d =
          record { store = st; marks = write_front d.marks m; layout_state_of = l.state; render_state_of = d.state; text = d.text; left = Some l.left }

      made : LayoutResult R.LayoutState → RenderResult R.RenderState → Carried R
      made l d = filled (write_front l.rows s) l d

  layout_ok : (s m : List ℕ) (f : Progress R) (q : LayoutArgs R.LayoutChoice) → ProgressOk f → IsAccepted R (due R s m f) (layout_call q)
      → ProgressOk (onward R f (layout_call q))
  layout_ok s m f q k e = record {
    laid_ok = L.accepted_fits q _ _ e;
    rendered_ok = subst (λ (l : LayoutResult R.LayoutState). RenderedOk l.rows f.rendered_to) (sym (laid_on f.laid_to_of q _ k.laid_ok e))
        (rendered_ok_more f.rendered_to (laid_due R f).rows _ k.rendered_ok);
  }

  -- ---- rendering
  abbrev next_in : List ℕ → ShownTo → ℕ
  next_in rows o = R.next_of (render_due R rows o).state

  abbrev from_in : List ℕ → ShownTo → ℕ
  from_in rows o = R.reads_from (render_due R rows o).state

  rendered_use : (rows : List ℕ) (o : ShownTo) → RenderedOk rows o
      → R.in_use (render_due R rows o).state ≡ length (render_due R rows o).marks
  rendered_use rows None k = D.fresh_use
  rendered_use rows (Some p) k = D.due_use p.to p.entered rows k.whole

  -- the rows before the next one are laid out
  pub next_laid : (rows : List ℕ) (o : ShownTo) → RenderedOk rows o → PLACES * next_in rows o ≤ length rows
  next_laid rows None k = omega (arith, D.fresh_next)
  next_laid rows (Some p) k = omega (arith, D.due_next p.to p.entered rows k.whole, k.laid)

  from_laid : (rows : List ℕ) (o : ShownTo) → RenderedOk rows o → PLACES * from_in rows o ≤ length rows
  from_laid rows o k = omega (arith, D.reads_first (render_due R rows o).state, next_laid rows o k)

  -- the rows before those that a call reads are whole under the choice of the next accepted call
  rendered_whole : (rows : List ℕ) (o : ShownTo) (q : RenderArgs R.RenderChoice) (store marks : List ℕ) → RenderedOk rows o
      → R.render_refusal q (render_due R rows o).state store marks ≡ None → D.WholeRows q.to.choice rows (from_in rows o)
  rendered_whole rows None q store marks k e =
      let z : from_in rows None ≡ 0 = omega (arith, D.reads_first R.render_fresh_of, D.fresh_next) in
      subst (D.WholeRows q.to.choice rows) (sym z) (D.whole_local q.to.choice store rows 0 refl (D.accepted_none q _ store marks e))
  rendered_whole rows (Some p) q store marks k e =
      subst (λ (c : R.RenderChoice). D.WholeRows c rows (from_in rows (Some p))) (D.accepted_same p.to p.entered rows q store marks k.whole e)
      (D.due_whole p.to p.entered rows k.whole)

  -- an accepted call after p, with p's choice: what it moves on to is one go, and its rows are whole and enough
  module _ (rows : List ℕ) (p : RenderedTo R.RenderChoice) (q : RenderArgs R.RenderChoice) (k : ShownOk rows p) (g : p.to.choice ≡ q.to.choice)
      (w : D.WholeRows q.to.choice rows q.to.stop) where
    before : D.WholeRows q.to.choice rows p.to.stop
    before = subst (λ (c : R.RenderChoice). D.WholeRows c rows p.to.stop) g k.whole

    within_before : p.entered ≤ total R rows (to_stop p.to.stop q.to.choice)
    within_before = subst (λ (c : R.RenderChoice). p.entered ≤ total R rows (to_stop p.to.stop c)) g k.within

    joins : next_in rows (Some p) ≤ q.to.stop
        → render_due R rows (Some (further R rows (Some p) q)) ≡ then_rendered (render_due R rows (Some p)) (λ s ms. R.render s q.to q.allotment ms rows)
    joins h =
        subst
        (λ (c : R.RenderChoice).
        R.render R.render_fresh_of (to_stop (max p.to.stop q.to.stop) c) (p.entered + min q.allotment (total R rows (to_stop q.to.stop c) - p.entered)) [] rows
        ≡ then_rendered (render_due R rows (Some p)) (λ s ms. R.render s (to_stop q.to.stop c) q.allotment ms rows))
        g
        (D.goes_on p.to p.entered q.to.stop q.allotment rows k.whole (subst (λ (c : R.RenderChoice). D.WholeRows c rows q.to.stop) (sym g) w) k.within h)

    further_ok : PLACES * q.to.stop ≤ length rows → ShownOk rows (further R rows (Some p) q)
    further_ok l = go (dec_le p.to.stop q.to.stop)
      where
        at : (n : ℕ) → n ≡ max p.to.stop q.to.stop → PLACES * n ≤ length rows → D.WholeRows q.to.choice rows n
            → p.entered + min q.allotment (total R rows q.to - p.entered) ≤ total R rows (to_stop n q.to.choice)
            → ShownOk rows (further R rows (Some p) q)
        at n i a u h = record {
          laid = subst (λ (j : ℕ). PLACES * j ≤ length rows) i a;
          whole = subst (D.WholeRows q.to.choice rows) i u;
          within =
              subst (λ (j : ℕ). p.entered + min q.allotment (total R rows q.to - p.entered) ≤ total R rows (to_stop j q.to.choice)) i h;
        }

        go : Dec (p.to.stop ≤ q.to.stop) → ShownOk rows (further R rows (Some p) q)
        go (yes h) =
            at q.to.stop (omega arith) l w
            (omega (arith, within_before, D.enters_more q.to.choice p.to.stop q.to.stop rows h before w))
        go (no h) =
            at p.to.stop (omega arith) k.laid before
            (omega (arith, within_before, D.enters_more q.to.choice q.to.stop p.to.stop rows (omega arith) w before))

  rendered_on : (rows : List ℕ) (o : ShownTo) (q : RenderArgs R.RenderChoice) (store marks : List ℕ) → RenderedOk rows o
      → R.render_refusal q (render_due R rows o).state store marks ≡ None → next_in rows o ≤ q.to.stop → D.WholeRows q.to.choice rows q.to.stop
      → render_due R rows (Some (further R rows o q)) ≡ then_rendered (render_due R rows o) (λ s ms. R.render s q.to q.allotment ms rows)
  rendered_on rows None q store marks k e h w =
      let y = R.render R.render_fresh_of q.to q.allotment [] rows in
      sym (D.runs_out q.to q.allotment rows w)
      ∙ ap (λ (n : ℕ). record { state = y.state; marks = y.marks; text = y.text; entered = n }) (sym (zero-add y.entered))
  rendered_on rows (Some p) q store marks k e h w = joins rows p q k (D.accepted_same p.to p.entered rows q store marks k.whole e) w h

  rendered_ok_on : (rows : List ℕ) (o : ShownTo) (q : RenderArgs R.RenderChoice) (store marks : List ℕ) → RenderedOk rows o
      → R.render_refusal q (render_due R rows o).state store marks ≡ None → PLACES * q.to.stop ≤ length rows → D.WholeRows q.to.choice rows q.to.stop
      → ShownOk rows (further R rows o q)
  rendered_ok_on rows None q store marks k e l w = record { laid = l; whole = w; within = omega arith }
  rendered_ok_on rows (Some p) q store marks k e l w =
      further_ok rows p q k (D.accepted_same p.to p.entered rows q store marks k.whole e) w l

  -- what a call reads of the store are the rows due
  same_read : (rows others : List ℕ) (o : ShownTo) (q : RenderArgs R.RenderChoice) (store marks : List ℕ) → RenderedOk rows o
      → R.render_refusal q (render_due R rows o).state store marks ≡ None → next_in rows o ≤ q.to.stop → D.WholeRows q.to.choice rows q.to.stop
      → SameBefore q.to.stop rows others
      → R.render (render_due R rows o).state q.to q.allotment (render_due R rows o).marks rows
      ≡ R.render (render_due R rows o).state q.to q.allotment (render_due R rows o).marks others
  same_read rows others None q store marks k e h w same = D.fresh_local q.to q.allotment rows others w same
  same_read rows others (Some p) q store marks k e h w same =
      let g = D.accepted_same p.to p.entered rows q store marks k.whole e in
      let y = render_due R rows (Some p) in
      subst
      (λ (c : R.RenderChoice).
      R.render y.state (to_stop q.to.stop c) q.allotment y.marks rows ≡ R.render y.state (to_stop q.to.stop c) q.allotment y.marks others)
      g
      (D.due_local p.to p.entered q.to.stop q.allotment rows others k.whole
      (subst (λ (c : R.RenderChoice). D.WholeRows c rows q.to.stop) (sym g) w) k.within h same)

  module _ (s m : List ℕ) (f : Progress R) (q : RenderArgs R.RenderChoice) (k : ProgressOk f) (e : IsAccepted R (due R s m f) (render_call q))
      (reads : ReadsLaid R (due R s m f) (render_call q)) where
    abbrev rows : List ℕ
    rows = (laid_due R f).rows

    not_past : next_in rows f.rendered_to ≤ q.to.stop
    not_past = D.accepted_not_past q _ _ _ e

    -- the stop is among the rows laid out
    stop_laid : PLACES * q.to.stop ≤ length rows
    stop_laid = go (dec_lt (R.reads_from (due R s m f).render_state_of) q.to.stop)
      where
        go : Dec (R.reads_from (due R s m f).render_state_of < q.to.stop) → PLACES * q.to.stop ≤ length rows
        go (yes h) = omega (arith, reads (q.to.stop - 1) (omega arith) (omega arith), laid_row f.laid_to_of k.laid_ok)
        go (no h) = omega (arith, from_laid rows f.rendered_to k.rendered_ok)

    -- what the store holds before the stop are the rows due
    same_rows : (n : ℕ) → PLACES * n ≤ length rows → SameBefore n (due R s m f).store rows
    same_rows n h = same_before n rows (drop (length rows) s) h

    marks_due_of : take (R.in_use (due R s m f).render_state_of) (due R s m f).marks ≡ (rendered_due R f).marks
    marks_due_of = take_front _ (rendered_due R f).marks m (rendered_use rows f.rendered_to k.rendered_ok)

    whole : D.WholeRows q.to.choice rows q.to.stop
    whole =
        D.whole_local q.to.choice (due R s m f).store rows q.to.stop (same_rows q.to.stop stop_laid)
        (D.accepted_whole q _ (due R s m f).store _ e
        (D.whole_local q.to.choice rows (due R s m f).store (from_in rows f.rendered_to)
        (sym (same_rows _ (from_laid rows f.rendered_to k.rendered_ok)))
        (rendered_whole rows f.rendered_to q _ _ k.rendered_ok e)))

    render_step : accepted R (due R s m f) (render_call q) ≡ due R s m (onward R f (render_call q))
    render_step =
        ap (λ (d : RenderResult R.RenderState). filled (write_front d.marks (write_front one.marks m)) d.state (one.text ++ d.text)) same_two
        ∙ ap (λ (ms : List ℕ). filled ms two.state (one.text ++ two.text))
        (write_again one.marks two.marks m (D.grows one.state q.to q.allotment one.marks rows))
        ∙ ap (λ (d : RenderResult R.RenderState). filled (write_front d.marks m) d.state d.text)
        (sym (rendered_on rows f.rendered_to q _ _ k.rendered_ok e not_past whole))
      where
        one : RenderResult R.RenderState
        one = rendered_due R f

        two : RenderResult R.RenderState
        two = R.render one.state q.to q.allotment one.marks rows

        same_two : rendered R (due R s m f) q ≡ two
        same_two =
            ap (λ (ms : List ℕ). R.render one.state q.to q.allotment ms (due R s m f).store) marks_due_of
            ∙ sym (same_read rows (due R s m f).store f.rendered_to q _ _ k.rendered_ok e not_past whole (sym (same_rows q.to.stop stop_laid)))

        filled : List ℕ → R.RenderState → List ℕ → Carried R
        filled ms st t =
            record {
              store = write_front rows s;
              marks = ms;
              layout_state_of = (laid_due R f).state;
              render_state_of = st;
              text = t;
              left = left_due R f.laid_to_of;
            }

    render_ok : ProgressOk (onward R f (render_call q))
    render_ok = record { laid_ok = k.laid_ok; rendered_ok = rendered_ok_on rows f.rendered_to q _ _ k.rendered_ok e stop_laid whole }

  -- ---- both
  step : (s m : List ℕ) (f : Progress R) (c : Call R) → ProgressOk f → IsAccepted R (due R s m f) c → ReadsLaid R (due R s m f) c
      → (accepted R (due R s m f) c ≡ due R s m (onward R f c)) × ProgressOk (onward R f c)
  step s m f (layout_call q) k e r = (layout_step s m f q k e, layout_ok s m f q k e)
  step s m f (render_call q) k e r = (render_step s m f q k e r, render_ok s m f q k e r)

  -- one call, from what is due before it, leaves what is due after it; both runs ask the same table of the same, so they part ways nowhere
  pub one_call : (s m : List ℕ) (f : Progress R) (c : Call R) → ProgressOk f → (IsAccepted R (due R s m f) c → ReadsLaid R (due R s m f) c)
      → (call R (due R s m f) c ≡ due R s m (plain_call R s m f c)) × ProgressOk (plain_call R s m f c)
  one_call s m f c k r = go (refusal R (due R s m f) c) refl
    where
      go : (o : Option Refusal) → refusal R (due R s m f) c ≡ o
          → (unless o (due R s m f) (accepted R (due R s m f) c) ≡ due R s m (unless o f (onward R f c)))
          × ProgressOk (unless o f (onward R f c))
      go (Some n) e = (refl, k)
      go None e = step s m f c k e (r e)
