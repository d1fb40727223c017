-- Demand 3 for document 01's states and table: what the parts owe gives the laws, and the laws the rule.
-- Assumes nothing but the laws of the parts.
use mathlib.Core.Path.{◌≡◌}
use Rattle.std.specs.Prelude.{Option, None, Some}
use mathlib.Core.List.{List}
use Prim.Native.Nat.{ℕ, ◌*◌, ◌≤◌}
use lib.ListN.{length}
use Rattle.rows.specs.Places.{PLACES}
use Rattle.cut_rule.specs.Rules.{LayoutArgs, RenderTo}
use Rattle.cut_rule.specs.Run.{Call, start}
use Rattle.cut_rule.specs.Plain.{RenderedTo, Progress, at_first, laid_due, plain, AllReadLaid}
use Rattle.cut_rule.specs.States.{LayoutChoice, RenderChoice}
use Rattle.rows.specs.Node.{Text}
use Rattle.cut_rule.specs.CutRule.{CutRule}
use Rattle.cut_rule.specs.Parts.{RuleParts, rules}
use Rattle.cut_rule.specs.PartLaws.{LayoutPartLaws, RenderPartLaws, CommentPartLaws}
use Rattle.cut_rule.proofs.Rule.{cut_rule, cut_answers, progress_ok, comments_kept, all_ahead, same_room}
use Rattle.cut_rule.proofs.Steps.{LaidOk, RenderedOk}
use Rattle.cut_rule.proofs.LayoutParts.{FitsParts, layout_laws, fitting}
use Rattle.cut_rule.specs.Allotments.{OneRendering}
use Rattle.cut_rule.proofs.Allotments.{one_rendering}
use Rattle.cut_rule.proofs.RenderParts.{Whole, render_laws, whole, as_whole, room_laws}
use Rattle.cut_rule.proofs.CommentParts.{comment_laws}

pub parts_cut : (P : RuleParts) (listed : List Text) → LayoutPartLaws P → RenderPartLaws P → CommentPartLaws P listed
    → (store₀ marks₀ : List ℕ) (calls : List (Call (rules P))) → AllReadLaid (rules P) (start (rules P) store₀ marks₀) calls
    → CutRule (rules P) listed store₀ marks₀ calls
parts_cut P listed L D K store₀ marks₀ calls a = record {
  same = cut_rule (rules P) (layout_laws P L) (render_laws P D) store₀ marks₀ calls a;
  answered = cut_answers (rules P) (layout_laws P L) (render_laws P D) store₀ marks₀ calls a;
  comments = comments_kept (rules P) (layout_laws P L) (render_laws P D) listed (comment_laws P L listed K) store₀ marks₀ calls a;
  ahead = all_ahead (rules P) (layout_laws P L) (render_laws P D) listed (comment_laws P L listed K) store₀ marks₀ calls a;
  room = same_room (rules P) (room_laws P D L) (start (rules P) store₀ marks₀) calls;
}

-- ---- how far layout and rendering came
-- the arguments of the last accepted layout call fit; and the rows before the furthest stop are laid out, and 11 lets them pass
module _ (P : RuleParts) (L : LayoutPartLaws P) (D : RenderPartLaws P) where
  abbrev pub LaidFits : Option (LayoutArgs LayoutChoice) → Type 0
  LaidFits None = Unit {0}
  LaidFits (Some q) = FitsParts P L q

  abbrev pub RenderedRight : List ℕ → Option (RenderedTo RenderChoice) → Type 0
  RenderedRight rows None = Unit {0}
  RenderedRight rows (Some p) = (PLACES * p.to.stop ≤ length rows) × (P.wrong_row p.to.choice rows 0 p.to.stop ≡ None)

  pub record CameTo (f : Progress (rules P)) : Type 0 where
    pub laid : LaidFits f.laid_to_of
    pub rendered : RenderedRight (laid_due (rules P) f).rows f.rendered_to

  pub came_to : (store₀ marks₀ : List ℕ) (calls : List (Call (rules P))) → AllReadLaid (rules P) (start (rules P) store₀ marks₀) calls
      → CameTo (plain (rules P) store₀ marks₀ (at_first (rules P)) calls)
  came_to store₀ marks₀ calls a =
      let f = plain (rules P) store₀ marks₀ (at_first (rules P)) calls in
      let k = progress_ok (rules P) (layout_laws P L) (render_laws P D) store₀ marks₀ calls a in
      record { laid = fits f.laid_to_of k.laid_ok; rendered = right (laid_due (rules P) f).rows f.rendered_to k.rendered_ok }
    where
      fits : (o : Option (LayoutArgs LayoutChoice)) → LaidOk (rules P) (layout_laws P L) (render_laws P D) o → LaidFits o
      fits None k = tt
      fits (Some q) k = fitting P L q k

      right : (rows : List ℕ) (o : Option (RenderedTo RenderChoice)) → RenderedOk (rules P) (layout_laws P L) (render_laws P D) rows o → RenderedRight rows o
      right rows None k = tt
      right rows (Some p) k = (k.laid, (whole P D p.to.choice rows p.to.stop k.whole).right)

-- ---- however the allotments fall
pub parts_one_rendering : (P : RuleParts) (D : RenderPartLaws P) (store : List ℕ) (q : RenderTo RenderChoice) → Whole P D q.choice store q.stop
    → OneRendering (rules P) store q
parts_one_rendering P D store q w = one_rendering (rules P) (render_laws P D) store q (as_whole P D q.choice store q.stop w)
