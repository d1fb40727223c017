-- The plain run: it "gets source, image, what store and marks held at first and the calls' arguments, and no answer".
use Rattle.std.specs.Prelude.{◌≡◌, List, [], ◌∷◌, ℕ, ◌+◌, ◌-◌, ◌≤◌, ◌<◌, min, max, Option, None, Some}
use Rattle.cut_rule.specs.Rules.{LayoutArgs, RenderTo, RenderArgs, LayoutResult, RenderResult, Rules}
use Rattle.refusals.specs.Refusals.{unless}
use Rattle.refusals.specs.Answers.{Answer}
use Rattle.cut_rule.specs.Run.{write_front, Call, layout_call, render_call, Carried, refusal, call, CallResult, answer}

-- "the furthest stop and how many rows were entered", with "what else the accepted calls of a kind chose"
pub record RenderedTo (Choice : Type 0) : Type 0 where
  pub to : RenderTo Choice
  pub entered : ℕ

module _ (R : Rules) where
  -- "It keeps how far layout and rendering came", with "what else the accepted calls of a kind chose"; none where no call of the kind was
  -- accepted yet.
  pub record Progress : Type 0 where
    pub laid_to_of : Option (LayoutArgs R.LayoutChoice)
    pub rendered_to : Option (RenderedTo R.RenderChoice)

  -- "both fresh at first"
  abbrev pub at_first : Progress
  at_first = record { laid_to_of = None; rendered_to = None }

  -- "Due are the rows and layout state there": layout from fresh in one go; "with no accepted call that state stays fresh"
  abbrev pub layout_due : Option (LayoutArgs R.LayoutChoice) → LayoutResult R.LayoutState
  layout_due None = record { state = R.layout_fresh_of; rows = []; left = 0 }
  layout_due (Some q) = R.layout R.layout_fresh_of q

  -- "the marks in use, text and rendering state that the rows before the other stop give from fresh in one go", of which "its one go enters that
  -- many"
  abbrev pub render_due : List ℕ → Option (RenderedTo R.RenderChoice) → RenderResult R.RenderState
  render_due rows None = record { state = R.render_fresh_of; marks = []; text = []; entered = 0 }
  render_due rows (Some p) = R.render R.render_fresh_of p.to p.entered [] rows

  -- how many rows are entered before a stop in all: as many as there are rows suffice
  abbrev pub total : List ℕ → RenderTo R.RenderChoice → ℕ
  total rows to = (R.render R.render_fresh_of to to.stop [] rows).entered

  -- "the furthest stop and how many rows were entered, to which an accepted call adds its allotment or, if fewer, the rows still to be entered
  -- before its own stop"
  abbrev pub further : List ℕ → Option (RenderedTo R.RenderChoice) → RenderArgs R.RenderChoice → RenderedTo R.RenderChoice
  further rows None q = record { to = q.to; entered = min q.allotment (total rows q.to) }
  further rows (Some p) q = record {
    to = record { stop = max p.to.stop q.to.stop; choice = q.to.choice };
    entered = p.entered + min q.allotment (total rows q.to - p.entered);
  }

  -- the comments left, once a layout call is accepted
  abbrev pub left_due : Option (LayoutArgs R.LayoutChoice) → Option ℕ
  left_due None = None
  left_due (Some q) = Some (layout_due (Some q)).left

  -- both, by how far layout and rendering came
  abbrev pub laid_due : Progress → LayoutResult R.LayoutState
  laid_due f = layout_due f.laid_to_of

  abbrev pub rendered_due : Progress → RenderResult R.RenderState
  rendered_due f = render_due (laid_due f).rows f.rendered_to

  -- what is due there, in memories that held store₀ and marks₀ at first
  abbrev pub due : List ℕ → List ℕ → Progress → Carried R
  due store₀ marks₀ f = record {
    store = write_front (laid_due f).rows store₀;
    marks = write_front (rendered_due f).marks marks₀;
    layout_state_of = (laid_due f).state;
    render_state_of = (rendered_due f).state;
    text = (rendered_due f).text;
    left = left_due f.laid_to_of;
  }

  -- "An accepted layout call sets the one to its stop, closed or not"; an accepted rendering call moves the other on over the rows due
  abbrev pub onward : Progress → Call R → Progress
  onward f (layout_call q) = record { laid_to_of = Some q; rendered_to = f.rendered_to }
  onward f (render_call q) = record { laid_to_of = f.laid_to_of; rendered_to = Some (further (laid_due f).rows f.rendered_to q) }

  -- "the table below, read on what is due before a call, says whether it is accepted"; "a refused one neither"
  abbrev pub plain_call : List ℕ → List ℕ → Progress → Call R → Progress
  plain_call store₀ marks₀ f c = unless (refusal R (due store₀ marks₀ f) c) f (onward f c)

  abbrev pub plain : List ℕ → List ℕ → Progress → List (Call R) → Progress
  plain store₀ marks₀ f [] = f
  plain store₀ marks₀ f (c ∷ cs) = plain store₀ marks₀ (plain_call store₀ marks₀ f c) cs

  -- the answers that the table and the rules give on what is due before each call
  abbrev pub answers_due : List ℕ → List ℕ → Progress → List (Call R) → List (Answer (CallResult R))
  answers_due store₀ marks₀ f [] = []
  answers_due store₀ marks₀ f (c ∷ cs) = answer R (due store₀ marks₀ f) c ∷ answers_due store₀ marks₀ (plain_call store₀ marks₀ f c) cs

  abbrev pub IsAccepted : Carried R → Call R → Type 0
  IsAccepted w c = refusal R w c ≡ None

  -- each row that a call reads, from its first listed row or its next row to its stop, is laid out
  abbrev pub ReadsLaid : Carried R → Call R → Type 0
  ReadsLaid w (layout_call q) = Unit {0}
  ReadsLaid w (render_call q) = (k : ℕ) → R.reads_from w.render_state_of ≤ k → k < q.to.stop → k < R.next_row w.layout_state_of

  -- No accepted call reads rows not yet laid out. What the store held at first may pass for rows: once a call has rendered them and layout has
  -- overwritten them, the text is not the one that the rows due give (proofs/Example.antt has such a list).
  abbrev pub AllReadLaid : Carried R → List (Call R) → Type 0
  AllReadLaid w [] = Unit {0}
  AllReadLaid w (c ∷ cs) = (IsAccepted w c → ReadsLaid w c) × AllReadLaid (call R w c) cs

  -- the same, told by the plain run alone
  abbrev pub AllReadDue : List ℕ → List ℕ → Progress → List (Call R) → Type 0
  AllReadDue store₀ marks₀ f [] = Unit {0}
  AllReadDue store₀ marks₀ f (c ∷ cs) =
      (IsAccepted (due store₀ marks₀ f) c → ReadsLaid (due store₀ marks₀ f) c) × AllReadDue store₀ marks₀ (plain_call store₀ marks₀ f c) cs
