-- What the parts owe: from these alone come the laws of Laws.antt, and so the cut rule.
use Rattle.std.specs.Prelude.{◌≡◌, List, ◌++◌, ℕ, ◌+◌, ◌-◌, ◌*◌, ◌≤◌, ◌<◌, min, max, length, take, drop, None}
use Rattle.rows.specs.Places.{PLACES}
use Rattle.rows.specs.Node.{Text}
use Rattle.cut_rule.specs.CutRule.{comments_in}
use Rattle.cut_rule.specs.Rules.{RenderTo}
use Rattle.cut_rule.specs.Laws.{SameBefore, to_stop}
use Rattle.renderer_rules.specs.Listed.{reads_from}
use Rattle.cut_rule.specs.States.{LayoutChoice, RenderChoice, Cursor, RenderState, render_fresh}
use Rattle.cut_rule.specs.Parts.{Piece, Drawn, RuleParts}

-- a piece moves the next row by the rows that it adds
pub record Counts (c : Cursor) (p : Piece) : Type 0 where
  pub row : PLACES * p.cursor.row ≡ PLACES * c.row + length p.rows

pub record LayoutPartLaws (P : RuleParts) : Type 0 where
  pub shebang_counts : (k : LayoutChoice) (c : Cursor) → Counts c (P.shebang k c)
  pub declaration_counts : (k : LayoutChoice) (n : ℕ) (c : Cursor) → n < P.declarations → Counts c (P.declaration k n c)
  pub final_counts : (k : LayoutChoice) (c : Cursor) → Counts c (P.final k c)

-- a piece places the next so many comments of the list, in order, each as one row
pub record PlacesNext (listed : List Text) (c : Cursor) (p : Piece) : Type 0 where
  pub more : c.placed ≤ p.cursor.placed
  pub within : p.cursor.placed ≤ length listed
  pub next : comments_in p.rows (p.cursor.row - c.row) ≡ take (p.cursor.placed - c.placed) (drop c.placed listed)

pub record CommentPartLaws (P : RuleParts) (listed : List Text) : Type 0 where
  pub all_listed : P.comments ≡ length listed
  pub shebang_places : (k : LayoutChoice) (c : Cursor) → c.placed ≤ length listed → PlacesNext listed c (P.shebang k c)
  pub declaration_places : (k : LayoutChoice) (n : ℕ) (c : Cursor) → n < P.declarations → c.placed ≤ length listed
      → PlacesNext listed c (P.declaration k n c)
  pub final_places : (k : LayoutChoice) (c : Cursor) → c.placed ≤ length listed → PlacesNext listed c (P.final k c)

-- rendering, with more marks behind
abbrev pub with_past : Drawn → List ℕ → Drawn
with_past one past = record {
  pen = one.pen;
  listed = one.listed;
  row = one.row;
  marks = one.marks ++ past;
  text = one.text;
  entered = one.entered;
}

-- rendering, and then on with the marks there
abbrev pub then_drawn : Drawn → (List ℕ → Drawn) → Drawn
then_drawn one go = record {
  pen = (go one.marks).pen;
  listed = (go one.marks).listed;
  row = (go one.marks).row;
  marks = (go one.marks).marks;
  text = one.text ++ (go one.marks).text;
  entered = one.entered + (go one.marks).entered;
}

-- a state where a rendering stopped: at its next row, with the rows that it lists and the pen that it left
pub record StoppedAt (one : Drawn) (s : RenderState) : Type 0 where
  pub row : s.row ≡ one.row
  pub listed : s.listed ≡ one.listed
  pub pen : s.pen ≡ one.pen

module _ (P : RuleParts) where
  -- a rendering from fresh, and how many rows are entered before its stop in all
  abbrev pub drawn_fresh : RenderTo RenderChoice → ℕ → List ℕ → List ℕ → Drawn
  drawn_fresh q n marks store = P.draw render_fresh q n marks store

  abbrev pub all_entered : RenderTo RenderChoice → List ℕ → List ℕ → ℕ
  all_entered q marks store = (drawn_fresh q q.stop marks store).entered

  -- the rows before a stop pass 11
  abbrev pub Right : RenderTo RenderChoice → List ℕ → Type 0
  Right q store = P.wrong_row q.choice store 0 q.stop ≡ None

  pub record RenderPartLaws : Type 0 where
    pub none_wrong : (c : RenderChoice) (store : List ℕ) → P.wrong_row c store 0 0 ≡ None
    -- rows that pass the test, and then rows that pass it "as if none stood ahead", pass it together
    pub right_join : (c : RenderChoice) (store : List ℕ) (n m : ℕ) → n ≤ m → P.wrong_row c store 0 n ≡ None → P.wrong_row c store n m ≡ None
        → P.wrong_row c store 0 m ≡ None
    pub needed_join : (store : List ℕ) (n m : ℕ) → n ≤ m → P.needed store 0 m ≡ max (P.needed store 0 n) (P.needed store n m)
    -- rows from the stop on are not read
    pub right_local : (c : RenderChoice) (store other : List ℕ) (n : ℕ) → SameBefore n store other → P.wrong_row c store 0 n ≡ None
        → P.wrong_row c other 0 n ≡ None
    pub needed_local : (store other : List ℕ) (i n : ℕ) → SameBefore n store other → P.needed store i n ≡ P.needed other i n
    pub draw_local : (q : RenderTo RenderChoice) (n : ℕ) (marks store other : List ℕ) → Right q store → SameBefore q.stop store other
        → drawn_fresh q n marks store ≡ drawn_fresh q n marks other
    -- marks are changed in place
    pub draw_marks : (s : RenderState) (q : RenderTo RenderChoice) (n : ℕ) (marks store : List ℕ) → length (P.draw s q n marks store).marks ≡ length marks
    -- marks past the numbers of the rows are neither read nor changed: in one go they are cleared first, in a list of calls later
    pub draw_past : (q : RenderTo RenderChoice) (n : ℕ) (marks past store : List ℕ) → Right q store → P.needed store 0 q.stop ≤ length marks
        → drawn_fresh q n (marks ++ past) store ≡ with_past (drawn_fresh q n marks store) past
    -- the next row is at most the stop, and where its state reads from, a top row starts
    pub stop_row : (q : RenderTo RenderChoice) (n : ℕ) (marks store : List ℕ) → Right q store → (drawn_fresh q n marks store).row ≤ q.stop
    pub stop_top : (q : RenderTo RenderChoice) (n : ℕ) (marks store : List ℕ) → Right q store
        → P.wrong_row q.choice store 0 (reads_from (drawn_fresh q n marks store).listed (drawn_fresh q n marks store).row) ≡ None
    -- "It enters all it was given unless the rows run out."
    pub enters : (q : RenderTo RenderChoice) (n : ℕ) (marks store : List ℕ) → Right q store
        → (drawn_fresh q n marks store).entered ≡ min n (all_entered q marks store)
    pub runs_out : (q : RenderTo RenderChoice) (n : ℕ) (marks store : List ℕ) → Right q store
        → drawn_fresh q n marks store ≡ drawn_fresh q (min n (all_entered q marks store)) marks store
    -- where so many rows end is the same for a further stop; and where that is not past a nearer stop, the nearer one has as many
    pub further_stop : (c : RenderChoice) (f t n : ℕ) (marks store : List ℕ) → f ≤ t → Right (to_stop f c) store → Right (to_stop t c) store
        → n ≤ all_entered (to_stop f c) marks store
        → drawn_fresh (to_stop t c) n marks store ≡ drawn_fresh (to_stop f c) n marks store
    pub nearer_stop : (c : RenderChoice) (t f n : ℕ) (marks store : List ℕ) → t ≤ f → Right (to_stop t c) store → Right (to_stop f c) store
        → n ≤ all_entered (to_stop f c) marks store → (drawn_fresh (to_stop f c) n marks store).row ≤ t
        → n ≤ all_entered (to_stop t c) marks store
    -- j rows, and then k from the state there, are j + k
    pub draw_join : (s : RenderState) (q : RenderTo RenderChoice) (j k : ℕ) (marks store : List ℕ) → Right q store
        → P.needed store 0 q.stop ≤ length marks → StoppedAt (drawn_fresh q j marks store) s
        → drawn_fresh q (j + k) marks store ≡ then_drawn (drawn_fresh q j marks store) (λ ms. P.draw s q k ms store)
