-- A small instance: the laws of the parts can hold together, lists of calls compute, and the rule needs its hypothesis. Two declarations, each
-- of which places a comment; each row is a top row, and rendering writes the nine numbers of each row that it enters.
-- Assumes nothing.
use mathlib.Core.Path.{◌≡◌, refl, sym, ap, ◌∙◌}
use mathlib.Core.Bool.{Bool, true, false, cond}
use Rattle.std.specs.Prelude.{Option, None, Some}
use mathlib.Core.List.{List, [], ◌∷◌, ◌++◌}
use Prim.Native.Nat.{ℕ, zero, suc, ◌+◌, ◌-◌, ◌*◌, ◌≤◌, ◌<◌, min}
use native.Mathlib.Omega.{arith}
use borrow.Author.Tests.{leb-true, le-leb, ltb-true}
use lib.Dec.{ltb, leb}
use lib.ListN.{length, get_or, take, drop, replicate, take-append-drop, length-take}
use lib.Seq.{take-take}
use Rattle.rows.specs.Kinds.{INDENT, INDENT_NEXT, STR}
use Rattle.rows.specs.Places.{PLACES}
use Rattle.rows.specs.View.{view_of}
use Rattle.renderer_rules.specs.Limits.{MAX_INDENT, MAX_COLUMN}
use Rattle.renderer_rules.specs.Renderer.{indent_less, next_indent_less}
use Rattle.renderer_rules.specs.Drift.{enclosing}
use Rattle.renderer_rules.specs.Stops.{OpenRow, trailing}
use Rattle.renderer_rules.specs.Listed.{reads_from, same_rows, closed_all, can_close_all}
use Rattle.refusals.specs.Refusals.{Refusal, any, first}
use Rattle.refusals.specs.Answers.{Answer, refused, accepted}
use Rattle.cut_rule.specs.Run.{Call, layout_call, render_call, Carried, start, run, CallResult, laid_out, written, answers}
use Rattle.cut_rule.specs.Rules.{RenderArgs}
use Rattle.cut_rule.specs.Laws.{SameBefore}
use Rattle.cut_rule.specs.Plain.{Progress, at_first, due, plain, AllReadLaid}
use Rattle.rows.specs.Node.{Text}
use Rattle.cut_rule.specs.CutRule.{comments_in, CutRule}
use Rattle.cut_rule.specs.States.{OLD_MODE, NEW_MODE, RenderChoice, Cursor, LayoutState, RenderState, layout_fresh, render_fresh}
use Rattle.cut_rule.specs.Limits.{REFERENCE_WIDTH, MIN_RULE, MAX_ALLOTMENT}
use Rattle.cut_rule.specs.Tests.{begun_tests, pen_tests, mark_tests, width_tests, rule_tests, listed_tests}
use Rattle.cut_rule.specs.Parts.{Piece, Drawn, RuleParts, render_table, rules}
use Rattle.cut_rule.specs.PartLaws.{Counts, LayoutPartLaws, PlacesNext, CommentPartLaws, then_drawn, StoppedAt, RenderPartLaws}
use Rattle.cut_rule.proofs.Document.{parts_cut}

abbrev listed : List Text
listed = record { origin = 0; start = 0; size = 1 } ∷ record { origin = 0; start = 1; size = 1 } ∷ []

abbrev placing : Bool → Cursor → Piece
placing true c = record {
  cursor = record { row = c.row + 1; number = c.number; placed = c.placed + 1; position = c.position };
  rows = 4 ∷ 0 ∷ 0 ∷ 0 ∷ (c.row + 1) ∷ 0 ∷ c.placed ∷ 1 ∷ 0 ∷ [];
}
placing false c = record { cursor = c; rows = [] }

abbrev line : Cursor → Piece
line c = record {
  cursor = record { row = c.row + 1; number = c.number; placed = c.placed; position = c.position };
  rows = 7 ∷ 0 ∷ 0 ∷ 0 ∷ (c.row + 1) ∷ 0 ∷ 0 ∷ 0 ∷ 0 ∷ [];
}

abbrev in_store : Bool → Option ℕ
in_store true = None
in_store false = Some 0

-- the numbers of the rows from one up to another; and of the next n
abbrev rows_text : ℕ → ℕ → List ℕ → List ℕ
rows_text i j store = drop (PLACES * i) (take (PLACES * j) store)

abbrev drawn_rows : RenderState → ℕ → List ℕ → List ℕ → Drawn
drawn_rows s n marks store = record {
  pen = s.pen;
  listed = [];
  row = s.row + n;
  marks = marks;
  text = rows_text s.row (s.row + n) store;
  entered = n;
}

-- by what refuses the strict reading, and not the earlier one
abbrev small_by : Option Refusal → RuleParts
small_by order = record {
  source_size = 100;
  declarations = 2;
  comments = 2;
  layout_image = λ archive. cond archive None order;
  other_rule = λ rule. false;
  render_image_of = λ c. None;
  shebang = λ k c. record { cursor = c; rows = [] };
  declaration = λ k n c. placing (ltb c.placed 2) c;
  final = λ k. line;
  wrong_row = λ c store i n. in_store (leb (PLACES * n) (length store));
  needed = λ store i n. 1;
  draw = λ s q n marks store. drawn_rows s (min n (q.stop - s.row)) marks store;
}

abbrev small : RuleParts
small = small_by None

placing_counts : (b : Bool) (c : Cursor) → Counts c (placing b c)
placing_counts true c = record { row = omega arith }
placing_counts false c = record { row = omega arith }

layout_parts : LayoutPartLaws small
layout_parts = record {
  shebang_counts = λ k c. record { row = omega arith };
  declaration_counts = λ k n c l. placing_counts (ltb c.placed 2) c;
  final_counts = λ k c. record { row = omega arith };
}

none_more : (r k : ℕ) (rows : List ℕ) → comments_in rows (r - r) ≡ take (k - k) (drop k listed)
none_more r k rows = let e : r - r ≡ 0 = omega arith in let f : k - k ≡ 0 = omega arith in rw (e, f)

one_more : (r k : ℕ) (c : Text) (rows : List ℕ) → comments_in rows 1 ≡ c ∷ [] → take 1 (drop k listed) ≡ c ∷ []
    → comments_in rows (r + 1 - r) ≡ take (k + 1 - k) (drop k listed)
one_more r k c rows g h =
    let e : r + 1 - r ≡ 1 = omega arith in
    let f : k + 1 - k ≡ 1 = omega arith in
    ap (comments_in rows) e ∙ g ∙ sym h ∙ ap (λ (j : ℕ). take j (drop k listed)) (sym f)

listed_at : (k : ℕ) → k < 2 → take 1 (drop k listed) ≡ record { origin = 0; start = k; size = 1 } ∷ []
listed_at zero h = refl
listed_at (suc zero) h = refl
listed_at (suc (suc k)) h = absurd (omega arith)

placing_places : (b : Bool) (c : Cursor) → ltb c.placed 2 ≡ b → c.placed ≤ 2 → PlacesNext listed c (placing b c)
placing_places true c e h =
    let l : c.placed < 2 = ltb-true c.placed 2 e in
    record { more = omega arith; within = omega arith; next = one_more c.row c.placed _ (placing true c).rows refl (listed_at c.placed l) }
placing_places false c e h = record { more = omega arith; within = h; next = none_more c.row c.placed [] }

comment_parts : CommentPartLaws small listed
comment_parts = record {
  all_listed = refl;
  shebang_places = λ k c h. record { more = omega arith; within = h; next = none_more c.row c.placed [] };
  declaration_places = λ k n c l h. placing_places (ltb c.placed 2) c refl h;
  final_places = λ k c h. record {
    more = omega arith;
    within = h;
    next = (let e : c.row + 1 - c.row ≡ 1 = omega arith in let f : c.placed - c.placed ≡ 0 = omega arith in rw (e, f));
  };
}

stop_in : (n : ℕ) (store : List ℕ) → in_store (leb (PLACES * n) (length store)) ≡ None → PLACES * n ≤ length store
stop_in n store e = go (leb (PLACES * n) (length store)) refl e
  where
    go : (b : Bool) → leb (PLACES * n) (length store) ≡ b → in_store b ≡ None → PLACES * n ≤ length store
    go true g f = leb-true (PLACES * n) (length store) g
    go false g f = let z : ◌≡◌ {A = ℕ} 0 1 = cc in absurd (omega arith)

right_in : (n : ℕ) (store : List ℕ) → PLACES * n ≤ length store → in_store (leb (PLACES * n) (length store)) ≡ None
right_in n store h = ap in_store (le-leb (PLACES * n) (length store) h)

parts_join : (store : List ℕ) (n m : ℕ) → n ≤ m → rows_text 0 m store ≡ rows_text 0 n store ++ rows_text n m store
parts_join store n m h =
    sym (take-append-drop (PLACES * n) (take (PLACES * m) store))
    ∙ ap (λ (r : List ℕ). r ++ drop (PLACES * n) (take (PLACES * m) store)) (take-take (PLACES * n) (PLACES * m) store (omega arith))

parts_local : (i j n : ℕ) (store other : List ℕ) → j ≤ n → SameBefore n store other → rows_text i j store ≡ rows_text i j other
parts_local i j n store other h e =
    ap (drop (PLACES * i))
    (sym (take-take (PLACES * j) (PLACES * n) store (omega arith))
    ∙ ap (take (PLACES * j)) e
    ∙ take-take (PLACES * j) (PLACES * n) other (omega arith))

-- as many rows, from as many before
same_count : (marks store : List ℕ) (n m : ℕ) → n ≡ m → drawn_rows render_fresh n marks store ≡ drawn_rows render_fresh m marks store
same_count marks store n m e = ap (λ (j : ℕ). drawn_rows render_fresh j marks store) e

rows_join : (s : RenderState) (stop j k : ℕ) (marks store : List ℕ) → StoppedAt (drawn_rows render_fresh (min j (stop - 0)) marks store) s
    → drawn_rows render_fresh (min (j + k) (stop - 0)) marks store
    ≡ then_drawn (drawn_rows render_fresh (min j (stop - 0)) marks store) (λ ms. drawn_rows s (min k (stop - s.row)) ms store)
rows_join s stop j k marks store there = λ i. record {
  pen = sym there.pen i;
  listed = [];
  row = rows i;
  marks = marks;
  text = texts i;
  entered = counts i;
}
  where
    at : s.row ≡ 0 + min j (stop - 0)
    at = there.row

    last : ℕ
    last = s.row + min k (stop - s.row)

    rows : 0 + min (j + k) (stop - 0) ≡ s.row + min k (stop - s.row)
    rows = omega (arith, at)

    counts : min (j + k) (stop - 0) ≡ min j (stop - 0) + min k (stop - s.row)
    counts = omega (arith, at)

    texts : rows_text 0 (0 + min (j + k) (stop - 0)) store
        ≡ rows_text 0 (0 + min j (stop - 0)) store ++ rows_text s.row (s.row + min k (stop - s.row)) store
    texts =
        ap (λ (m : ℕ). rows_text 0 m store) rows
        ∙ parts_join store s.row (s.row + min k (stop - s.row)) (omega arith)
        ∙ ap (λ (n : ℕ). rows_text 0 n store ++ rows_text s.row (s.row + min k (stop - s.row)) store) at

render_parts : RenderPartLaws small
render_parts = record {
  none_wrong = λ c store. right_in 0 store (omega arith);
  right_join = λ c store n m h e f. f;
  needed_join = λ store n m h. refl;
  right_local = λ c store other n e f.
      let h : PLACES * n ≤ length store = stop_in n store f in
      right_in n other (omega (arith, ap length e, length-take (PLACES * n) store, length-take (PLACES * n) other));
  needed_local = λ store other i n e. refl;
  draw_local = λ q n marks store other u e.
      let j = min n (q.stop - 0) in
      ap (λ (r : List ℕ). record { pen = render_fresh.pen; listed = []; row = 0 + j; marks = marks; text = r; entered = j })
      (parts_local 0 (0 + j) q.stop store other (omega arith) e);
  draw_marks = λ s q n marks store. refl;
  draw_past = λ q n marks past store e h. refl;
  stop_row = λ q n marks store e. omega arith;
  stop_top = λ q n marks store e. right_in (0 + min n (q.stop - 0)) store (omega (arith, stop_in q.stop store e));
  enters = λ q n marks store e. omega arith;
  runs_out = λ q n marks store e.
      same_count marks store (min n (q.stop - 0)) (min (min n (min q.stop (q.stop - 0))) (q.stop - 0)) (omega arith);
  further_stop = λ c f t n marks store l u v h. same_count marks store (min n (t - 0)) (min n (f - 0)) (omega arith);
  nearer_stop = λ c t f n marks store l u v h r. omega arith;
  draw_join = λ s q j k marks store e h there. rows_join s q.stop j k marks store there;
}

-- the rule holds of the instance
example : (store₀ marks₀ : List ℕ) (calls : List (Call (rules small))) → AllReadLaid (rules small) (start (rules small) store₀ marks₀) calls
    → CutRule (rules small) listed store₀ marks₀ calls
example = parts_cut small listed layout_parts render_parts comment_parts

-- ---- lists of calls
abbrev lay_by : ℕ → ℕ → ℕ → Bool → Call (rules small)
lay_by rule mode n b = layout_call (record { stop = n; close = b; choice = record { mode = mode; rule = rule }; archive = false })

abbrev lay_in : ℕ → ℕ → Bool → Call (rules small)
lay_in mode n b = lay_by MIN_RULE mode n b

abbrev lay_to : ℕ → Bool → Call (rules small)
lay_to n b = lay_in OLD_MODE n b

abbrev render_args : ℕ → ℕ → ℕ → ℕ → ℕ → RenderArgs RenderChoice
render_args allotment rule width n room =
    record { to = record { stop = n; choice = record { width = width; rule = rule } }; allotment = allotment; room = room }

-- with the largest allotment
abbrev render_by : ℕ → ℕ → ℕ → ℕ → Call (rules small)
render_by rule width n room = render_call (render_args MAX_ALLOTMENT rule width n room)

abbrev render_at : ℕ → ℕ → ℕ → Call (rules small)
render_at width n room = render_by MIN_RULE width n room

abbrev render_to : ℕ → ℕ → Call (rules small)
render_to n room = render_at REFERENCE_WIDTH n room

-- number and place of a refusal; 100 and the comments left; 200, the bytes written and the rows entered
abbrev numbers_by : (P : RuleParts) → List (Answer (CallResult (rules P))) → List (List ℕ)
numbers_by P [] = []
numbers_by P (refused r ∷ rest) = (r.number ∷ r.place ∷ []) ∷ numbers_by P rest
numbers_by P (accepted (laid_out s n) ∷ rest) = (100 ∷ n ∷ []) ∷ numbers_by P rest
numbers_by P (accepted (written s n k) ∷ rest) = (200 ∷ n ∷ k ∷ []) ∷ numbers_by P rest

abbrev as_numbers : List (Answer (CallResult (rules small))) → List (List ℕ)
as_numbers = numbers_by small

-- a store of three rows and two numbers, which held 9s, and two marks, which held 5s
abbrev nines : List ℕ
nines = replicate 29 9

abbrev fives : List ℕ
fives = 5 ∷ 5 ∷ []

-- Refused: a stop past the declarations, closing before the last of them, no room for the text, a stop before the next row, a store too
-- short, a stop past the store, and layout once closed.
abbrev tried : List (Call (rules small))
tried =
    lay_to 3 false
    ∷ lay_to 1 true
    ∷ lay_to 1 false
    ∷ render_to 1 8
    ∷ render_to 1 9
    ∷ render_to 0 9
    ∷ lay_to 2 false
    ∷ render_to 4 9
    ∷ lay_to 2 true
    ∷ lay_to 2 false
    ∷ render_to 3 18
    ∷ render_to 3 0
    ∷ []

tried_answers : as_numbers (answers (rules small) (start (rules small) nines fives) tried)
    ≡ (12 ∷ 0 ∷ []) ∷ (12 ∷ 0 ∷ []) ∷ (100 ∷ 1 ∷ []) ∷ (10 ∷ 9 ∷ []) ∷ (200 ∷ 9 ∷ 1 ∷ []) ∷ (12 ∷ 0 ∷ [])
    ∷ (100 ∷ 0 ∷ []) ∷ (11 ∷ 0 ∷ []) ∷ (100 ∷ 0 ∷ []) ∷ (12 ∷ 0 ∷ []) ∷ (200 ∷ 18 ∷ 2 ∷ []) ∷ (200 ∷ 0 ∷ 0 ∷ []) ∷ []
unfolding can_close_all
tried_answers = refl

tried_short : as_numbers (answers (rules small) (start (rules small) (replicate 26 9) []) (lay_to 2 true ∷ lay_to 2 false ∷ render_to 1 9 ∷ []))
    ≡ (8 ∷ 3 ∷ []) ∷ (100 ∷ 0 ∷ []) ∷ (9 ∷ 1 ∷ []) ∷ []
unfolding can_close_all
tried_short = refl

tried_store : (run (rules small) (start (rules small) nines fives) tried).store
    ≡ 4 ∷ 0 ∷ 0 ∷ 0 ∷ 1 ∷ 0 ∷ 0 ∷ 1 ∷ 0 ∷ 4 ∷ 0 ∷ 0 ∷ 0 ∷ 2 ∷ 0 ∷ 1 ∷ 1 ∷ 0 ∷ 7 ∷ 0 ∷ 0 ∷ 0 ∷ 3 ∷ 0 ∷ 0 ∷ 0 ∷ 0 ∷ 9 ∷ 9 ∷ []
unfolding can_close_all
tried_store = refl

tried_marks : (run (rules small) (start (rules small) nines fives) tried).marks ≡ 0 ∷ 5 ∷ []
unfolding can_close_all
tried_marks = refl

-- a mode over 1; and, once begun in the new mode, the old one
tried_modes : as_numbers (answers (rules small) (start (rules small) nines fives)
    (lay_in 2 1 false ∷ lay_in NEW_MODE 1 false ∷ lay_in OLD_MODE 2 false ∷ lay_in NEW_MODE 2 true ∷ []))
    ≡ (12 ∷ 0 ∷ []) ∷ (100 ∷ 1 ∷ []) ∷ (12 ∷ 0 ∷ []) ∷ (100 ∷ 0 ∷ []) ∷ []
tried_modes = refl

-- a state that has not begun carries no mode and no rule
abbrev not_begun : ℕ → ℕ → LayoutState
not_begun mode rule = record { begun = false; closed = false; declaration = 0; cursor = layout_fresh.cursor; mode = mode; rule = rule }

tried_fresh : any (begun_tests (not_begun 0 0)) ∷ any (begun_tests (not_begun NEW_MODE 0)) ∷ any (begun_tests (not_begun 0 MIN_RULE)) ∷ []
    ≡ false ∷ true ∷ true ∷ []
tried_fresh = refl

-- 20: none, and one past the last; a rule that differs from the carried one is 12, of either kind of call, each held to its own
tried_rules : as_numbers (answers (rules small) (start (rules small) nines fives)
    (lay_by 0 0 1 false ∷ lay_by 4 3 9 true ∷ lay_by 2 0 1 false ∷ lay_by 3 0 2 false ∷ render_by 0 39 9 9 ∷ render_by 3 80 1 9 ∷ render_by 2 39 1 9 ∷ []))
    ≡ (20 ∷ 0 ∷ []) ∷ (20 ∷ 0 ∷ []) ∷ (100 ∷ 1 ∷ []) ∷ (12 ∷ 0 ∷ []) ∷ (20 ∷ 0 ∷ []) ∷ (200 ∷ 9 ∷ 1 ∷ []) ∷ (12 ∷ 0 ∷ []) ∷ []
unfolding can_close_all
tried_rules = refl

-- none carried yet, the carried one, another, and one that no call could have chosen
tried_carried : any (rule_tests 2 0) ∷ any (rule_tests 2 2) ∷ any (rule_tests 2 3) ∷ any (rule_tests 2 7) ∷ [] ≡ false ∷ false ∷ true ∷ true ∷ []
tried_carried = refl

-- ---- a list of comments that runs backwards: the strict entry refuses each of its calls, and the archive entry goes on where it stopped
abbrev backwards : RuleParts
backwards = small_by (Some (record { number = 7; place = 15 }))

abbrev entry : Bool → ℕ → Bool → Call (rules backwards)
entry archive n b =
    layout_call (record { stop = n; close = b; choice = record { mode = OLD_MODE; rule = MIN_RULE }; archive = archive })

tried_entries : numbers_by backwards (answers (rules backwards) (start (rules backwards) nines fives)
    (entry false 1 false ∷ entry true 1 false ∷ entry false 2 false ∷ entry true 3 false ∷ entry true 2 true ∷ []))
    ≡ (7 ∷ 15 ∷ []) ∷ (100 ∷ 1 ∷ []) ∷ (7 ∷ 15 ∷ []) ∷ (12 ∷ 0 ∷ []) ∷ (100 ∷ 0 ∷ []) ∷ []
tried_entries = refl

-- where no order refuses, the entries may take turns, whatever mode and rule are carried
abbrev entries_mixed : List (Call (rules small))
entries_mixed =
    lay_to 1 false
    ∷ layout_call (record { stop = 2; close = false; choice = record { mode = NEW_MODE; rule = MIN_RULE }; archive = true })
    ∷ layout_call (record { stop = 2; close = false; choice = record { mode = OLD_MODE; rule = MIN_RULE }; archive = true })
    ∷ lay_to 2 true
    ∷ []

tried_mixed : as_numbers (answers (rules small) (start (rules small) nines fives) entries_mixed)
    ≡ (100 ∷ 1 ∷ []) ∷ (12 ∷ 0 ∷ []) ∷ (100 ∷ 0 ∷ []) ∷ (100 ∷ 0 ∷ []) ∷ []
tried_mixed = refl

-- 12's limits of a rendering state: each at its limit, and one past it; marks in use that are 0 and 1, a mark of 2, more marks than there are
abbrev pen_at : ℕ → ℕ → ℕ → Bool
pen_at indent next column = any (pen_tests (record { indent = indent; next_indent = next; column = record { 0 = column } }))

tried_pens : pen_at MAX_INDENT MAX_INDENT MAX_COLUMN ∷ pen_at (suc MAX_INDENT) 0 0 ∷ pen_at 0 (suc MAX_INDENT) 0 ∷ pen_at 0 0 72057594037927937 ∷ []
    ≡ false ∷ true ∷ true ∷ true ∷ []
tried_pens = refl

tried_used : any (mark_tests (0 ∷ 1 ∷ 2 ∷ []) 2) ∷ any (mark_tests (0 ∷ 1 ∷ 2 ∷ []) 3) ∷ any (mark_tests (0 ∷ 1 ∷ []) 3) ∷ [] ≡ false ∷ true ∷ true ∷ []
tried_used = refl

-- 15: under 40, over 200, the largest number; at both limits; differing from a carried width, and from one that no call could have chosen
abbrev width_at : ℕ → ℕ → Bool
width_at width carried = any (width_tests width carried)

tried_widths : width_at 39 0 ∷ width_at 201 0 ∷ width_at 0 0 ∷ width_at 18446744073709551615 0 ∷ width_at 100 80 ∷ width_at 100 7 ∷ width_at 7 7 ∷ []
    ≡ true ∷ true ∷ true ∷ true ∷ true ∷ true ∷ true ∷ []
tried_widths = refl

tried_legal : width_at 40 0 ∷ width_at 200 0 ∷ width_at 100 100 ∷ [] ≡ false ∷ false ∷ false ∷ []
tried_legal = refl

-- 15 comes after 11 and 12 and before 9 and 10; an accepted call that reads nothing chooses too
tried_order : as_numbers (answers (rules small) (start (rules small) nines [])
    (lay_to 1 false ∷ render_at 39 4 0 ∷ render_at 39 1 0 ∷ render_to 1 0 ∷ []))
    ≡ (100 ∷ 1 ∷ []) ∷ (11 ∷ 0 ∷ []) ∷ (15 ∷ 0 ∷ []) ∷ (9 ∷ 1 ∷ []) ∷ []
unfolding can_close_all
tried_order = refl

tried_choice : as_numbers (answers (rules small) (start (rules small) nines fives)
    (lay_to 1 false ∷ render_at 100 0 0 ∷ render_at 80 1 0 ∷ render_at 100 1 0 ∷ render_at 100 1 9 ∷ render_at 80 0 9 ∷ render_at 80 1 9 ∷ []))
    ≡ (100 ∷ 1 ∷ []) ∷ (200 ∷ 0 ∷ 0 ∷ []) ∷ (15 ∷ 0 ∷ []) ∷ (10 ∷ 9 ∷ []) ∷ (200 ∷ 9 ∷ 1 ∷ []) ∷ (12 ∷ 0 ∷ []) ∷ (15 ∷ 0 ∷ []) ∷ []
unfolding can_close_all
tried_choice = refl

-- ---- allotments
abbrev render_some : ℕ → ℕ → ℕ → Call (rules small)
render_some allotment n room = render_call (render_args allotment MIN_RULE REFERENCE_WIDTH n room)

-- three rows laid out, and then these calls
abbrev laid_then : List (Call (rules small)) → Carried (rules small)
laid_then calls = run (rules small) (start (rules small) nines fives) (lay_to 2 true ∷ calls)

abbrev laid_answers : List (Call (rules small)) → List (List ℕ)
laid_answers calls = as_numbers (answers (rules small) (start (rules small) nines fives) (lay_to 2 true ∷ calls))

abbrev laid_progress : List (Call (rules small)) → Progress (rules small)
laid_progress calls = plain (rules small) nines fives (at_first (rules small)) (lay_to 2 true ∷ calls)

-- one row, one more, and more than are left; then none is. However they fall, they are one rendering.
abbrev pieces : List (Call (rules small))
pieces = render_some 1 3 9 ∷ render_some 1 3 9 ∷ render_some 5 3 9 ∷ []

tried_pieces : laid_answers (pieces ++ (render_some 1 3 0 ∷ []))
    ≡ (100 ∷ 0 ∷ []) ∷ (200 ∷ 9 ∷ 1 ∷ []) ∷ (200 ∷ 9 ∷ 1 ∷ []) ∷ (200 ∷ 9 ∷ 1 ∷ []) ∷ (200 ∷ 0 ∷ 0 ∷ []) ∷ []
unfolding can_close_all
tried_pieces = refl

pieces_joined : laid_then pieces ≡ laid_then (render_to 3 27 ∷ [])
unfolding can_close_all
pieces_joined = refl

-- The furthest stop is kept: a call with a nearer one enters those before its own, and may find none; a nearer one than the next row is 12.
abbrev nearer : List (Call (rules small))
nearer = render_some 1 3 9 ∷ render_some 5 2 9 ∷ render_some 5 2 9 ∷ render_some 5 1 9 ∷ []

tried_nearer : laid_answers nearer ≡ (100 ∷ 0 ∷ []) ∷ (200 ∷ 9 ∷ 1 ∷ []) ∷ (200 ∷ 9 ∷ 1 ∷ []) ∷ (200 ∷ 0 ∷ 0 ∷ []) ∷ (12 ∷ 0 ∷ []) ∷ []
unfolding can_close_all
tried_nearer = refl

nearer_came_to : (laid_progress nearer).rendered_to ≡ Some (record { to = (render_args 0 MIN_RULE REFERENCE_WIDTH 3 0).to; entered = 2 })
unfolding can_close_all
nearer_came_to = refl

-- and a further one moves on
further_came_to : (laid_progress (render_some 5 1 9 ∷ render_some 1 3 9 ∷ [])).rendered_to
    ≡ Some (record { to = (render_args 0 MIN_RULE REFERENCE_WIDTH 3 0).to; entered = 2 })
unfolding can_close_all
further_came_to = refl

-- the comments ahead of a stop: none yet, one, both
abbrev ahead_of : List (Call (rules small)) → List Text
ahead_of calls = comments_in (laid_then calls).store (laid_then calls).render_state_of.row

tried_ahead : ahead_of [] ∷ ahead_of (render_some 1 3 9 ∷ []) ∷ ahead_of (render_some 2 3 18 ∷ []) ∷ ahead_of pieces ∷ []
    ≡ [] ∷ take 1 listed ∷ listed ∷ listed ∷ []
unfolding can_close_all
tried_ahead = refl

-- 22 comes after 15 and before 9 and 10, whether rows are left or not
tried_none : as_numbers (answers (rules small) (start (rules small) nines [])
    (lay_to 2 true
    ∷ render_call (render_args 0 MIN_RULE 39 3 0)
    ∷ render_some 0 3 0
    ∷ render_some 0 0 0
    ∷ render_some 1 3 0
    ∷ []))
    ≡ (100 ∷ 0 ∷ []) ∷ (15 ∷ 0 ∷ []) ∷ (22 ∷ 0 ∷ []) ∷ (22 ∷ 0 ∷ []) ∷ (9 ∷ 1 ∷ []) ∷ []
unfolding can_close_all
tried_none = refl

-- ---- rows that a state lists, over an `Indent` of an `IndentNext` of two texts and of a third
abbrev nested_row : ℕ → ℕ → List ℕ
nested_row kind after = kind ∷ 0 ∷ 0 ∷ 0 ∷ after ∷ 0 ∷ 0 ∷ 0 ∷ 0 ∷ []

abbrev nested : List ℕ
nested = nested_row INDENT 5 ++ (nested_row INDENT_NEXT 4 ++ (nested_row STR 3 ++ (nested_row STR 4 ++ nested_row STR 5)))

-- a row listed, which wraps or not
abbrev open_row : ℕ → Bool → OpenRow
open_row i wraps = record { row = i; wraps = wraps; way = trailing }

-- the number of the refusal of a call to the stop 5 from row n with these rows listed, at this `indent` and `next_indent`; 0 if none
abbrev refused_from : ℕ → ℕ → ℕ → ℕ → ℕ → List OpenRow → ℕ
refused_from allotment n indent next room rows =
    number_or
    (first
    (render_table small (render_args allotment MIN_RULE REFERENCE_WIDTH 5 room)
    (record {
      pen = record { indent = indent; next_indent = next; column = record { 0 = 0 } };
      in_use = 0;
      row = n;
      width = 0;
      rule = 0;
      listed = rows;
    })
    nested fives))
  where
    number_or : Option Refusal → ℕ
    number_or None = 0
    number_or (Some r) = r.number

-- None listed; all that enclose row 3; those from the second on; before row 4, which one encloses.
tried_listed : refused_from 1 3 0 0 9 []
    ∷ refused_from 1 3 0 0 9 (open_row 0 false ∷ open_row 1 false ∷ [])
    ∷ refused_from 1 3 0 0 9 (open_row 1 false ∷ [])
    ∷ refused_from 1 4 0 0 9 (open_row 0 false ∷ [])
    ∷ []
    ≡ 0 ∷ 0 ∷ 0 ∷ 0 ∷ []
unfolding view_of enclosing same_rows can_close_all closed_all indent_less next_indent_less
tried_listed = refl

-- One left out, one twice, one that doesn't enclose row 4, the next row itself, one where all is done.
tried_others : refused_from 1 3 0 0 9 (open_row 0 false ∷ [])
    ∷ refused_from 1 3 0 0 9 (open_row 0 false ∷ open_row 0 false ∷ open_row 1 false ∷ [])
    ∷ refused_from 1 4 0 0 9 (open_row 0 false ∷ open_row 1 false ∷ [])
    ∷ refused_from 1 3 0 0 9 (open_row 0 false ∷ open_row 1 false ∷ open_row 3 false ∷ [])
    ∷ refused_from 1 5 0 0 9 (open_row 0 false ∷ [])
    ∷ []
    ≡ 23 ∷ 23 ∷ 23 ∷ 23 ∷ 23 ∷ []
unfolding view_of enclosing same_rows can_close_all closed_all indent_less next_indent_less
tried_others = refl

-- Both wrap, and closing takes two steps back, the outer one from `indent`: too few, enough, and enough in all but none of `indent`.
tried_closing : refused_from 1 3 1 0 9 (open_row 0 true ∷ open_row 1 true ∷ [])
    ∷ refused_from 1 3 2 0 9 (open_row 0 true ∷ open_row 1 true ∷ [])
    ∷ refused_from 1 3 1 1 9 (open_row 0 true ∷ open_row 1 true ∷ [])
    ∷ refused_from 1 3 0 2 9 (open_row 0 true ∷ open_row 1 true ∷ [])
    ∷ []
    ≡ 23 ∷ 0 ∷ 0 ∷ 23 ∷ []
unfolding view_of enclosing same_rows can_close_all closed_all indent_less next_indent_less
tried_closing = refl

-- 22 comes before 23, and 23 before 10
tried_first : refused_from 0 3 0 0 9 (open_row 0 false ∷ []) ∷ refused_from 1 3 0 0 8 (open_row 0 false ∷ []) ∷ refused_from 1 3 0 0 8 [] ∷ []
    ≡ 22 ∷ 23 ∷ 10 ∷ []
unfolding view_of enclosing same_rows can_close_all closed_all indent_less next_indent_less
tried_first = refl

-- at most 256, whatever they are
tried_many : any (listed_tests (view_of nested) (record {
  pen = render_fresh.pen;
  in_use = 0;
  row = 3;
  width = 0;
  rule = 0;
  listed = replicate 257 (open_row 1 false);
})) ≡ true
tried_many = refl

-- 9 and 11 read from the first listed row if that is the earlier
tried_read : reads_from [] 3 ∷ reads_from (open_row 1 false ∷ open_row 2 false ∷ []) 3 ∷ reads_from (open_row 4 false ∷ []) 3 ∷ [] ≡ 3 ∷ 1 ∷ 3 ∷ []
tried_read = refl

-- Why no accepted call may read rows not yet laid out: this one writes what the store held at first, and due is then a row of layout's.
abbrev early : List (Call (rules small))
early = render_to 1 9 ∷ lay_to 1 false ∷ []

early_answers : as_numbers (answers (rules small) (start (rules small) nines fives) early) ≡ (200 ∷ 9 ∷ 1 ∷ []) ∷ (100 ∷ 1 ∷ []) ∷ []
unfolding can_close_all
early_answers = refl

early_differs : run (rules small) (start (rules small) nines fives) early
    ≡ due (rules small) nines fives (plain (rules small) nines fives (at_first (rules small)) early)
    → ⊥
unfolding can_close_all
early_differs e = let first : ◌≡◌ {A = ℕ} 9 4 = ap (λ (w : Carried (rules small)). get_or w.text 0 0) e in omega arith
