-- What the cut rule needs of the rules and of the table. How layout and rendering go on is asked only of states that are due.
use Rattle.std.specs.Prelude.{◌≡◌, false, List, [], ◌++◌, ℕ, ◌+◌, ◌-◌, ◌*◌, ◌≤◌, min, max, length, take, drop, None}
use Rattle.rows.specs.Places.{PLACES}
use Rattle.cut_rule.specs.Rules.{LayoutArgs, RenderTo, RenderArgs, LayoutResult, RenderResult, Rules}
use Rattle.rows.specs.Node.{Text}
use Rattle.cut_rule.specs.Plain.{total}
use Rattle.cut_rule.specs.CutRule.{comments_in}

-- q can go on where p stopped: p did not close, its stop is not past q's, and both chose the same
pub record LayoutAfter {C : Type 0} (p q : LayoutArgs C) : Type 0 where
  pub not_closed : p.close ≡ false
  pub not_past : p.stop ≤ q.stop
  pub same : p.choice ≡ q.choice

-- layout, and then on from the state there
abbrev pub then_laid : {S : Type 0} → LayoutResult S → (S → LayoutResult S) → LayoutResult S
then_laid one go = record { state = (go one.state).state; rows = one.rows ++ (go one.state).rows; left = (go one.state).left }

-- rendering, and then on from the state and the marks there
abbrev pub then_rendered : {S : Type 0} → RenderResult S → (S → List ℕ → RenderResult S) → RenderResult S
then_rendered one go = record {
  state = (go one.state one.marks).state;
  marks = (go one.state one.marks).marks;
  text = one.text ++ (go one.state one.marks).text;
  entered = one.entered + (go one.state one.marks).entered;
}

pub record LayoutLaws (R : Rules) : Type 1 where
  -- the arguments fit this source and image: 1 to 7 do not refuse, and the stop is at most the number of declarations
  pub Fits : LayoutArgs R.LayoutChoice → Type 0
  -- from the table
  pub accepted_fits : (q : LayoutArgs R.LayoutChoice) (s : R.LayoutState) (store : List ℕ) → R.layout_refusal q s store ≡ None → Fits q
  pub accepted_after : (p q : LayoutArgs R.LayoutChoice) (store : List ℕ) → Fits p
      → R.layout_refusal q (R.layout R.layout_fresh_of p).state store ≡ None → LayoutAfter p q
  -- the next row is the number of rows laid out
  pub fresh_row : R.next_row R.layout_fresh_of ≡ 0
  pub due_row : (p : LayoutArgs R.LayoutChoice) → Fits p
      → PLACES * R.next_row (R.layout R.layout_fresh_of p).state ≡ length (R.layout R.layout_fresh_of p).rows
  -- layout to q in one go is layout to p and then, from the state there, to q
  pub goes_on : (p q : LayoutArgs R.LayoutChoice) → Fits p → Fits q → LayoutAfter p q
      → R.layout R.layout_fresh_of q ≡ then_laid (R.layout R.layout_fresh_of p) (λ s. R.layout s q)

-- two stores have the same rows before row n
abbrev pub SameBefore : ℕ → List ℕ → List ℕ → Type 0
SameBefore n rows others = take (PLACES * n) rows ≡ take (PLACES * n) others

-- the same choice, to another stop
abbrev pub to_stop : {C : Type 0} → ℕ → C → RenderTo C
to_stop n c = record { stop = n; choice = c }

pub record RenderLaws (R : Rules) : Type 1 where
  -- a call can choose c, and under it the rows before row n pass 11 as rows from 0 to a stop n: so a top row ends at n
  pub WholeRows : R.RenderChoice → List ℕ → ℕ → Type 0
  -- from the table: 11, read from the first listed row or the next row on "as if none stood ahead"; 12, the next row past the stop; a choice that
  -- differs
  pub accepted_none : (q : RenderArgs R.RenderChoice) (s : R.RenderState) (store marks : List ℕ)
      → R.render_refusal q s store marks ≡ None → WholeRows q.to.choice store 0
  pub accepted_whole : (q : RenderArgs R.RenderChoice) (s : R.RenderState) (store marks : List ℕ)
      → R.render_refusal q s store marks ≡ None → WholeRows q.to.choice store (R.reads_from s) → WholeRows q.to.choice store q.to.stop
  pub accepted_not_past : (q : RenderArgs R.RenderChoice) (s : R.RenderState) (store marks : List ℕ)
      → R.render_refusal q s store marks ≡ None → R.next_of s ≤ q.to.stop
  pub accepted_same : (p : RenderTo R.RenderChoice) (n : ℕ) (rows : List ℕ) (q : RenderArgs R.RenderChoice) (store marks : List ℕ)
      → WholeRows p.choice rows p.stop
      → R.render_refusal q (R.render R.render_fresh_of p n [] rows).state store marks ≡ None → p.choice ≡ q.to.choice
  -- the next row is not past the stop; a call reads from it or from a row before it, and where a due state reads from, a top row starts
  pub reads_first : (s : R.RenderState) → R.reads_from s ≤ R.next_of s
  pub fresh_next : R.next_of R.render_fresh_of ≡ 0
  pub due_next : (p : RenderTo R.RenderChoice) (n : ℕ) (rows : List ℕ) → WholeRows p.choice rows p.stop
      → R.next_of (R.render R.render_fresh_of p n [] rows).state ≤ p.stop
  pub due_whole : (p : RenderTo R.RenderChoice) (n : ℕ) (rows : List ℕ) → WholeRows p.choice rows p.stop
      → WholeRows p.choice rows (R.reads_from (R.render R.render_fresh_of p n [] rows).state)
  -- the marks in use are as many as the state says, and they only grow
  pub fresh_use : R.in_use R.render_fresh_of ≡ 0
  pub due_use : (p : RenderTo R.RenderChoice) (n : ℕ) (rows : List ℕ) → WholeRows p.choice rows p.stop
      → R.in_use (R.render R.render_fresh_of p n [] rows).state ≡ length (R.render R.render_fresh_of p n [] rows).marks
  pub grows : (s : R.RenderState) (p : RenderTo R.RenderChoice) (n : ℕ) (marks rows : List ℕ) → length marks ≤ length (R.render s p n marks rows).marks
  -- Rows from the stop on are not read where those before it are whole: by a fresh state, and by a due one with the marks there. Of any state it does
  -- not hold, since one can list a row that ends behind the stop.
  pub whole_local : (c : R.RenderChoice) (rows others : List ℕ) (n : ℕ) → SameBefore n rows others → WholeRows c rows n → WholeRows c others n
  pub fresh_local : (p : RenderTo R.RenderChoice) (n : ℕ) (rows others : List ℕ) → WholeRows p.choice rows p.stop → SameBefore p.stop rows others
      → R.render R.render_fresh_of p n [] rows ≡ R.render R.render_fresh_of p n [] others
  pub due_local : (p : RenderTo R.RenderChoice) (n t k : ℕ) (rows others : List ℕ) → WholeRows p.choice rows p.stop → WholeRows p.choice rows t
      → n ≤ total R rows p → R.next_of (R.render R.render_fresh_of p n [] rows).state ≤ t → SameBefore t rows others
      → (let one = R.render R.render_fresh_of p n [] rows in
      R.render one.state (to_stop t p.choice) k one.marks rows ≡ R.render one.state (to_stop t p.choice) k one.marks others)
  -- "It enters all it was given unless the rows run out."
  pub runs_out : (p : RenderTo R.RenderChoice) (n : ℕ) (rows : List ℕ) → WholeRows p.choice rows p.stop
      → R.render R.render_fresh_of p n [] rows ≡ R.render R.render_fresh_of p (min n (total R rows p)) [] rows
  pub enters_more : (c : R.RenderChoice) (f t : ℕ) (rows : List ℕ) → f ≤ t → WholeRows c rows f → WholeRows c rows t
      → total R rows (to_stop f c) ≤ total R rows (to_stop t c)
  -- n of the rows before p's stop and then, from the state and the marks there, k with stop t are one go to the further of the stops, whichever that
  -- is; those still to be entered before t may be fewer than k
  pub goes_on : (p : RenderTo R.RenderChoice) (n t k : ℕ) (rows : List ℕ) → WholeRows p.choice rows p.stop → WholeRows p.choice rows t
      → n ≤ total R rows p → R.next_of (R.render R.render_fresh_of p n [] rows).state ≤ t
      → R.render R.render_fresh_of (to_stop (max p.stop t) p.choice) (n + min k (total R rows (to_stop t p.choice) - n)) [] rows
      ≡ then_rendered (R.render R.render_fresh_of p n [] rows) (λ s marks. R.render s (to_stop t p.choice) k marks rows)

-- `listed` is the comment list, trailing white space cut.
pub record CommentLaws (R : Rules) (L : LayoutLaws R) (listed : List Text) : Type 0 where
  -- of the rows due anywhere, the comments are the first `placed` of the list, in order
  pub first_placed : (q : LayoutArgs R.LayoutChoice) → L.Fits q
      → comments_in (R.layout R.layout_fresh_of q).rows (R.next_row (R.layout R.layout_fresh_of q).state)
      ≡ take (R.placed (R.layout R.layout_fresh_of q).state) listed
  -- what is left is the rest
  pub rest_left : (q : LayoutArgs R.LayoutChoice) → L.Fits q
      → (R.layout R.layout_fresh_of q).left ≡ length (drop (R.placed (R.layout R.layout_fresh_of q).state) listed)

-- What 8 and 9 refuse. Only that no memory grows rests on these.
pub record RoomLaws (R : Rules) : Type 0 where
  pub rows_fit : (q : LayoutArgs R.LayoutChoice) (s : R.LayoutState) (store : List ℕ) → R.layout_refusal q s store ≡ None
      → PLACES * R.next_row s + length (R.layout s q).rows ≤ length store
  pub marks_fit : (q : RenderArgs R.RenderChoice) (s : R.RenderState) (store marks : List ℕ) → R.render_refusal q s store marks ≡ None
      → length (R.render s q.to q.allotment (take (R.in_use s) marks) store).marks ≤ length marks
