-- In the new mode an accepted close leaves no comment, and so a document that calls close from fresh holds the whole list.
-- Assumes nothing.
use mathlib.Core.Path.{◌≡◌, refl, sym, ap, ap₂, subst₂, ◌∙◌}
use mathlib.Core.Bool.{Bool, true, not}
use Rattle.std.specs.Prelude.{Option, None, Some}
use mathlib.Core.List.{List, [], ◌∷◌}
use Prim.Native.Nat.{ℕ, ◌-◌}
use native.Mathlib.Omega.{arith}
use lib.Dec.{eqb}
use lib.ListN.{length, take, drop, length-map, length-drop}
use lib.Seq.{take_all}
use Rattle.laws.proofs.Booleans.{false_true}
use Rattle.image.specs.Read.{Read, got, bad, Image, read_earlier, document_of, outcome, read_refusal}
use Rattle.image.proofs.Earlier.{none_either}
use Rattle.ast.specs.Syntax.{Declaration}
use Rattle.acts.specs.Act.{St, Act}
use Rattle.tree.specs.CommentList.{comments_of}
use Rattle.comments.specs.Listed.{given, Listed}
use Rattle.comments.proofs.Accepted.{accepted_listed}
use Rattle.layout.specs.Closing.{call_rule}
use Rattle.layout_facts.specs.Foot.{AtFoot}
use Rattle.layout_facts.proofs.Foot.{call_places}
use Rattle.refusals.specs.Refusals.{Refusal, unless}
use Rattle.cut_rule.specs.Rules.{LayoutArgs}
use Rattle.cut_rule.specs.Run.{Call, layout_call, render_call, Carried, start, refusal, accepted, call, run}
use Rattle.cut_rule.specs.CutRule.{comments_in}
use Rattle.cut_rule.specs.States.{LayoutChoice, LayoutState, NEW_MODE}
use Rattle.cut_rule.specs.Tests.{rows_in}
use Rattle.cut_rule.specs.Parts.{Piece, laid_of}
use Rattle.cut_rule.proofs.Table.{LayoutFits, layout_fits, layout_told}
use Rattle.cut_rule.proofs.LayoutOnly.{layouts, layout_only, none_read}
use Rattle.whole_run.specs.Parts.{accepted_tree, listed, keeps_waiting, parts_of}
use Rattle.whole_run.specs.Demands.{rules_of}
use Rattle.whole_run.specs.Foot.{AllPlaced, ClosingPlacesAll, ClosedHoldsAll}
use Rattle.whole_run.proofs.Demands.{rules_cut}
use Rattle.whole_run.proofs.Whole.{call_piece_lem}

module _ (s b : List ℕ) where
  abbrev ds : List Declaration
  ds = (accepted_tree b (read_earlier s b)).declarations

  pub list : read_refusal (read_earlier s b) ≡ None → Listed s b
  list h = go (read_earlier s b) refl h
    where
      go : (r : Read Image) → read_earlier s b ≡ r → read_refusal r ≡ None → Listed s b
      go (bad n p) e h = let z : ◌≡◌ {A = ℕ} 0 1 = cc in absurd (omega arith)
      go (got i end) e h = accepted_listed s b (document_of i) (record { answer = ap outcome e })

  -- ---- one call
  placed_all : (rows : ℕ) (q : LayoutArgs LayoutChoice) (z : LayoutState) → read_refusal (read_earlier s b) ≡ None
      → LayoutFits (length ds) (length (comments_of b)) (length s) rows q z
      → q.close ≡ true
      → q.choice.mode ≡ NEW_MODE
      → AllPlaced s b (laid_of (parts_of s b) z q)
  placed_all rows q z h fits closes new =
      let c = z.cursor in
      let from : St = record { number = c.number; pos = c.position; placed = c.placed } in
      let part = take (q.stop - z.declaration) (drop z.declaration ds) in
      let act : Bool → Bool → Act = λ x y. call_rule (given s b) (accepted_tree b (read_earlier s b)) (not z.begun) part (eqb z.declaration 0) x y in
      let due = call_piece_lem (read_earlier s b) s b z q fits.stop.from fits.stop.to in
      let w : AtFoot s b (act q.close (keeps_waiting q.choice.mode) from) =
      subst₂ (λ (x y : Bool). AtFoot s b (act x y from)) (sym closes) (sym (ap keeps_waiting new))
      (call_places (list h) (accepted_tree b (read_earlier s b)) (not z.begun) part (eqb z.declaration 0) from fits.places.placed)
      in
      let placed : (laid_of (parts_of s b) z q).state.cursor.placed ≡ length (comments_of b) = ap (λ (p : Piece). p.cursor.placed) due ∙ w.placed in
      record {
        placed = placed ∙ sym (length-map (comments_of b) _);
        position = ap (λ (p : Piece). p.cursor.position) due ∙ w.position;
        left = omega (arith, placed);
      }

  -- ---- a list of calls
  record NoneLeft (w : Carried (rules_of s b)) : Type 0 where
    none_left : w.layout_state_of.closed ≡ true → w.layout_state_of.mode ≡ NEW_MODE → w.left ≡ Some 0

  after : (w : Carried (rules_of s b)) (c : Call (rules_of s b)) → NoneLeft w → NoneLeft (call (rules_of s b) w c)
  after w (layout_call q) h = go (refusal (rules_of s b) w (layout_call q)) refl
    where
      go : (o : Option Refusal) → refusal (rules_of s b) w (layout_call q) ≡ o → NoneLeft (unless o w (accepted (rules_of s b) w (layout_call q)))
      go (Some r) e = h
      go None e =
          let t = layout_told (parts_of s b) q w.layout_state_of w.store e in
          record { none_left = λ x y. ap Some (placed_all (rows_in w.store) q w.layout_state_of (none_either q.archive s b t.image) t.fits x y).left }
  after w (render_call q) h = go (refusal (rules_of s b) w (render_call q))
    where
      go : (o : Option Refusal) → NoneLeft (unless o w (accepted (rules_of s b) w (render_call q)))
      go (Some r) = h
      go None = record { none_left = h.none_left }

  after_all : (calls : List (Call (rules_of s b))) (w : Carried (rules_of s b)) → NoneLeft w → NoneLeft (run (rules_of s b) w calls)
  after_all [] w h = h
  after_all (c ∷ cs) w h = after_all cs (call (rules_of s b) w c) (after w c h)

pub closing_places_all : ClosingPlacesAll
closing_places_all s b store q z h tests closes new =
    placed_all s b (rows_in store) q z h
    (layout_fits (length (ds s b)) (length (comments_of b)) (length s) (rows_in store) q z tests) closes new

pub closed_holds_all : ClosedHoldsAll
closed_holds_all s b store₀ marks₀ calls closed new =
    let r = rules_of s b in
    let w₀ = start r store₀ marks₀ in
    let left = (after_all s b calls w₀ (record { none_left = λ x y. false_true x })).none_left closed new in
    let same = layout_only r calls w₀ w₀ (record { store = refl; state = refl; left = refl }) in
    let placed = (run r w₀ (layouts r calls)).layout_state_of.cursor.placed in
    let kept = (rules_cut (read_earlier s b) s b store₀ marks₀ (layouts r calls) (none_read r calls w₀)).comments 0 (sym same.left ∙ left) in
    record {
      all =
          ap₂ (λ (m : List ℕ) (z : LayoutState). comments_in m z.cursor.row) same.store same.state
          ∙ kept.first
          ∙ take_all placed (listed s b) (omega (arith, kept.others, length-drop placed (listed s b)));
      left = left;
    }
