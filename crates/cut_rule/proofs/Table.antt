-- What an accepted call tells: each line of the table lets it pass, and so does each group of tests of 12, 15, 22 and 23.
-- Assumes nothing.
use mathlib.Core.Path.{◌≡◌, refl, sym}
use mathlib.Core.Bool.{Bool, true, false, not, ◌&&◌, ◌||◌}
use Rattle.std.specs.Prelude.{None}
use mathlib.Core.List.{List, [], ◌∷◌, ◌++◌}
use Prim.Native.Nat.{ℕ, zero, suc, ◌≤◌}
use borrow.Author.Tests.{ltb-false, eqb-true, ne_eqb, not-false}
use native.Mathlib.Omega.{arith}
use lib.Dec.{ltb, eqb}
use lib.ListN.{length, take}
use Rattle.laws.proofs.Booleans.{or_first, or_rest, false_true, true_false}
use Rattle.rows.specs.Limits.{MAX_ROWS, MAX_NUMBER}
use Rattle.rows.specs.View.{View, view_of}
use Rattle.renderer_rules.specs.Limits.{MAX_INDENT, MAX_COLUMN}
use Rattle.renderer_rules.specs.Listed.{listed_those, can_close_all}
use Rattle.refusals.specs.Refusals.{first, refuse_if, refuse_at, any}
use Rattle.refusals.proofs.Groups.{none_left, none_right, passes_left, passes_right, passes_line, passes_others, not_if, not_at}
use Rattle.cut_rule.specs.Limits.{MIN_WIDTH, MAX_WIDTH, MIN_RULE, MAX_RULE, MAX_LISTED}
use Rattle.cut_rule.specs.Rules.{LayoutArgs, RenderArgs}
use Rattle.renderer_rules.specs.declared.Pen.{Pen}
use Rattle.cut_rule.specs.States.{LayoutChoice, RenderChoice, LayoutState, RenderState, NEW_MODE}
use Rattle.cut_rule.specs.Tests.{rows_in, odd_mark, places_tests, limit_tests, begun_tests, stop_tests, mode_tests}
use Rattle.cut_rule.specs.Tests.{layout_tests_in, row_tests, pen_tests, mark_tests, render_tests, width_tests, differs, rule_tests, chosen_tests}
use Rattle.cut_rule.specs.Tests.{allotment_tests, listed_tests}
use Rattle.cut_rule.specs.Parts.{RuleParts, layout_tests, rows_needed, before_rows, rows_line, layout_table, rule_line, width_line}
use Rattle.cut_rule.specs.Parts.{allotment_line, listed_line, read_from, marks_for, before_marks, marks_line, before_text, text_line, render_table}

-- no test of a list holds, and the first is one of two numbers
first_within : (a b : ℕ) (rest : Bool) → (ltb a b || rest) ≡ false → b ≤ a
first_within a b rest e = ltb-false a b (or_first (ltb a b) rest e)

-- ---- rules of width
-- a rule that a caller may choose
pub record LegalRule (rule : ℕ) : Type 0 where
  pub least : MIN_RULE ≤ rule
  pub most : rule ≤ MAX_RULE

pub rule_legal : (other : Bool) (rule : ℕ) → any (chosen_tests other rule) ≡ false → LegalRule rule
rule_legal other rule e = record {
  least = first_within rule MIN_RULE _ e;
  most = first_within MAX_RULE rule _ (or_rest (ltb rule MIN_RULE) _ e);
}

rule_same : (rule carried : ℕ) → any (rule_tests rule carried) ≡ false → differs rule carried ≡ false
rule_same rule carried e = or_first (differs rule carried) _ e

-- A carried choice that a call could make is not 0, so that one that doesn't differ from it is the same.
pub same_as_carried : (chosen carried : ℕ) → 1 ≤ carried → differs chosen carried ≡ false → carried ≡ chosen
same_as_carried chosen carried h e =
    eqb-true carried chosen (same (eqb carried 0) (eqb carried chosen) (ne_eqb carried 0 (λ z. omega (arith, z))) e)
  where
    same : (x y : Bool) → x ≡ false → (not x && not y) ≡ false → y ≡ true
    same true y e g = true_false e
    same false true e g = refl
    same false false e g = true_false g

-- ---- 12 of layout, group by group
pub record PlacesFit (declarations comments size rows : ℕ) (s : LayoutState) : Type 0 where
  pub declaration : s.declaration ≤ declarations
  pub placed : s.cursor.placed ≤ comments
  pub position : s.cursor.position ≤ size
  pub row : s.cursor.row ≤ rows

places_fit : (declarations comments size rows : ℕ) (s : LayoutState) → any (places_tests declarations comments size rows s) ≡ false
    → PlacesFit declarations comments size rows s
places_fit declarations comments size rows s e =
    let e2 = or_rest (ltb declarations s.declaration) _ e in
    let e3 = or_rest (ltb comments s.cursor.placed) _ e2 in
    let e4 = or_rest (ltb size s.cursor.position) _ e3 in
    record {
      declaration = first_within declarations s.declaration _ e;
      placed = first_within comments s.cursor.placed _ e2;
      position = first_within size s.cursor.position _ e3;
      row = first_within rows s.cursor.row _ e4;
    }

pub record LimitsFit (s : LayoutState) : Type 0 where
  pub row : s.cursor.row ≤ MAX_ROWS
  pub number : s.cursor.number ≤ MAX_NUMBER

limits_fit : (s : LayoutState) → any (limit_tests s) ≡ false → LimitsFit s
limits_fit s e = record {
  row = first_within MAX_ROWS s.cursor.row _ e;
  number = first_within MAX_NUMBER s.cursor.number _ (or_rest (ltb MAX_ROWS s.cursor.row) _ e);
}

pub record StopFits (declarations : ℕ) (q : LayoutArgs LayoutChoice) (s : LayoutState) : Type 0 where
  pub from : s.declaration ≤ q.stop
  pub to : q.stop ≤ declarations
  pub not_closed : s.closed ≡ false
  pub closes_at_end : q.close ≡ true → q.stop ≡ declarations

only_there : (c t : Bool) → c ≡ true → (c && not t) ≡ false → t ≡ true
only_there true true h e = refl
only_there true false h e = sym e
only_there false true h e = refl
only_there false false h e = h

stop_fits : (declarations : ℕ) (q : LayoutArgs LayoutChoice) (s : LayoutState) → any (stop_tests declarations q s) ≡ false
    → StopFits declarations q s
stop_fits declarations q s e =
    let e2 = or_rest (ltb q.stop s.declaration) _ e in
    let e3 = or_rest (ltb declarations q.stop) _ e2 in
    record {
      from = first_within q.stop s.declaration _ e;
      to = first_within declarations q.stop _ e2;
      not_closed = or_first s.closed _ e3;
      closes_at_end =
          λ h.
          eqb-true q.stop declarations
          (only_there q.close (eqb q.stop declarations) h (or_first (q.close && not (eqb q.stop declarations)) _ (or_rest s.closed _ e3)));
    }

-- the choice is a mode, and the carried one once begun
pub record ModeFits (c : LayoutChoice) (s : LayoutState) : Type 0 where
  pub known : c.mode ≤ NEW_MODE
  pub same : s.begun ≡ true → c.mode ≡ s.mode

mode_fits : (c : LayoutChoice) (s : LayoutState) → any (mode_tests c s) ≡ false → ModeFits c s
mode_fits c s e =
    let e2 = or_rest (ltb NEW_MODE c.mode) _ e in
    record {
      known = first_within NEW_MODE c.mode _ e;
      same = λ b. carried s.begun b (or_first (s.begun && not (eqb c.mode s.mode)) _ e2);
    }
  where
    carried : (begun : Bool) → begun ≡ true → (begun && not (eqb c.mode s.mode)) ≡ false → c.mode ≡ s.mode
    carried true b e = eqb-true c.mode s.mode (not-false (eqb c.mode s.mode) e)
    carried false b e = false_true b

-- a state that 12 lets pass
pub record LayoutFits (declarations comments size rows : ℕ) (q : LayoutArgs LayoutChoice) (s : LayoutState) : Type 0 where
  pub places : PlacesFit declarations comments size rows s
  pub limits : LimitsFit s
  pub stop : StopFits declarations q s
  pub mode : ModeFits q.choice s
  pub rule : differs q.choice.rule s.rule ≡ false

pub layout_fits : (declarations comments size rows : ℕ) (q : LayoutArgs LayoutChoice) (s : LayoutState)
    → any (layout_tests_in declarations comments size rows q s) ≡ false → LayoutFits declarations comments size rows q s
layout_fits declarations comments size rows q s e =
    let places = places_tests declarations comments size rows s in
    let stop = stop_tests declarations q s in
    let mode = mode_tests q.choice s in
    let rule = rule_tests q.choice.rule s.rule in
    let chosen = mode ++ rule in
    let e2 = none_right places (limit_tests s ++ (begun_tests s ++ (stop ++ chosen))) e in
    let e3 = none_right (limit_tests s) (begun_tests s ++ (stop ++ chosen)) e2 in
    let e4 = none_right (begun_tests s) (stop ++ chosen) e3 in
    let e5 = none_right stop chosen e4 in
    record {
      places = places_fit declarations comments size rows s (none_left places (limit_tests s ++ (begun_tests s ++ (stop ++ chosen))) e);
      limits = limits_fit s (none_left (limit_tests s) (begun_tests s ++ (stop ++ chosen)) e2);
      stop = stop_fits declarations q s (none_left stop chosen e4);
      mode = mode_fits q.choice s (none_left mode rule e5);
      rule = rule_same q.choice.rule s.rule (none_right mode rule e5);
    }

-- ---- 12 of rendering, group by group
pub record RowFits (rows stop row : ℕ) : Type 0 where
  pub stored : row ≤ rows
  pub not_past : row ≤ stop

row_fits : (rows stop row : ℕ) → any (row_tests rows stop row) ≡ false → RowFits rows stop row
row_fits rows stop row e = record {
  stored = first_within rows row _ e;
  not_past = first_within stop row _ (or_rest (ltb rows row) _ e);
}

pub record PenFits (z : Pen) : Type 0 where
  pub indent : z.indent ≤ MAX_INDENT
  pub next_indent : z.next_indent ≤ MAX_INDENT
  pub column : z.column.0 ≤ MAX_COLUMN

pen_fits : (z : Pen) → any (pen_tests z) ≡ false → PenFits z
pen_fits z e =
    let e2 = or_rest (ltb MAX_INDENT z.indent) _ e in
    let e3 = or_rest (ltb MAX_INDENT z.next_indent) _ e2 in
    record {
      indent = first_within MAX_INDENT z.indent _ e;
      next_indent = first_within MAX_INDENT z.next_indent _ e2;
      column = first_within MAX_COLUMN z.column.0 _ e3;
    }

pub record MarksFit (marks : List ℕ) (used : ℕ) : Type 0 where
  pub there : used ≤ length marks
  pub even : odd_mark (take used marks) ≡ false

marks_fit : (marks : List ℕ) (used : ℕ) → any (mark_tests marks used) ≡ false → MarksFit marks used
marks_fit marks used e = record {
  there = first_within (length marks) used _ e;
  even = or_first (odd_mark (take used marks)) _ (or_rest (ltb (length marks) used) _ e);
}

pub record RenderFits (q : RenderArgs RenderChoice) (s : RenderState) (store marks : List ℕ) : Type 0 where
  pub row : RowFits (rows_in store) q.to.stop s.row
  pub pen : PenFits s.pen
  pub used : MarksFit marks s.in_use
  pub rule : differs q.to.choice.rule s.rule ≡ false

pub render_fits : (q : RenderArgs RenderChoice) (s : RenderState) (store marks : List ℕ) → any (render_tests q s store marks) ≡ false
    → RenderFits q s store marks
render_fits q s store marks e =
    let row = row_tests (rows_in store) q.to.stop s.row in
    let pen = pen_tests s.pen in
    let mark = mark_tests marks s.in_use in
    let rule = rule_tests q.to.choice.rule s.rule in
    let e2 = none_right row (pen ++ (mark ++ rule)) e in
    let e3 = none_right pen (mark ++ rule) e2 in
    record {
      row = row_fits (rows_in store) q.to.stop s.row (none_left row (pen ++ (mark ++ rule)) e);
      pen = pen_fits s.pen (none_left pen (mark ++ rule) e2);
      used = marks_fit marks s.in_use (none_left mark rule e3);
      rule = rule_same q.to.choice.rule s.rule (none_right mark rule e3);
    }

-- ---- 15
-- a width that a caller may choose
pub record LegalWidth (width : ℕ) : Type 0 where
  pub least : MIN_WIDTH ≤ width
  pub most : width ≤ MAX_WIDTH

pub record WidthFits (width carried : ℕ) : Type 0 where
  pub legal : LegalWidth width
  pub same : differs width carried ≡ false

pub width_fits : (width carried : ℕ) → any (width_tests width carried) ≡ false → WidthFits width carried
width_fits width carried e =
    let e2 = or_rest (ltb width MIN_WIDTH) _ e in
    let e3 = or_rest (ltb MAX_WIDTH width) _ e2 in
    record {
      legal = record { least = first_within width MIN_WIDTH _ e; most = first_within MAX_WIDTH width _ e2 };
      same = or_first (differs width carried) _ e3;
    }

-- ---- 22 and 23
some_allotted : (n : ℕ) → any (allotment_tests n) ≡ false → 1 ≤ n
some_allotted n e = ne_zero n (or_first (eqb n 0) _ e)
  where
    ne_zero : (n : ℕ) → eqb n 0 ≡ false → 1 ≤ n
    ne_zero zero e = true_false e
    ne_zero (suc n) e = omega arith

-- rows that 23 lets pass
pub record ListedFits (v : View) (s : RenderState) : Type 0 where
  pub few : length s.listed ≤ MAX_LISTED
  pub those : listed_those v s.listed s.row ≡ true
  pub closable : can_close_all v s.listed s.pen ≡ true

pub listed_fits : (v : View) (s : RenderState) → any (listed_tests v s) ≡ false → ListedFits v s
listed_fits v s e =
    let e2 = or_rest (ltb MAX_LISTED (length s.listed)) _ e in
    let e3 = or_rest (not (listed_those v s.listed s.row)) _ e2 in
    record {
      few = first_within MAX_LISTED (length s.listed) _ e;
      those = not-false (listed_those v s.listed s.row) (or_first (not (listed_those v s.listed s.row)) _ e2);
      closable = not-false (can_close_all v s.listed s.pen) (or_first (not (can_close_all v s.listed s.pen)) _ e3);
    }

-- ---- the lines
module _ (P : RuleParts) where
  pub record LayoutTold (q : LayoutArgs LayoutChoice) (s : LayoutState) (store : List ℕ) : Type 0 where
    pub legal : LegalRule q.choice.rule
    pub image : P.layout_image q.archive ≡ None
    pub fits : LayoutFits P.declarations P.comments P.source_size (rows_in store) q s
    pub room : rows_needed P q s ≤ rows_in store

  pub layout_told : (q : LayoutArgs LayoutChoice) (s : LayoutState) (store : List ℕ) → first (layout_table P q s store) ≡ None
      → LayoutTold q s store
  layout_told q s store e =
      let needs = rows_needed P q s in
      let tests = any (layout_tests P q s store) in
      let other = P.other_rule q.choice.rule in
      let line_20 = rule_line other q.choice.rule in
      let line_12 = refuse_if tests 12 0 in
      let line_8 = refuse_if (ltb (rows_in store) needs) 8 needs in
      let before = passes_left (before_rows P q s store) (rows_line P q s store) e in
      let behind = passes_right (before_rows P q s store) (rows_line P q s store) e in
      let image = P.layout_image q.archive in
      let after_20 = passes_others line_20 (image ∷ line_12 ∷ []) before in
      record {
        legal =
            rule_legal other q.choice.rule
            (not_if (any (chosen_tests other q.choice.rule)) 20 0 (passes_line line_20 (image ∷ line_12 ∷ []) before));
        image = passes_line image (line_12 ∷ []) after_20;
        fits =
            layout_fits P.declarations P.comments P.source_size (rows_in store) q s
            (not_if tests 12 0 (passes_line line_12 [] (passes_others image (line_12 ∷ []) after_20)));
        room = ltb-false (rows_in store) needs (not_if (ltb (rows_in store) needs) 8 needs (passes_line line_8 [] behind));
      }

  -- what the lines before 9 tell
  pub record RenderChecked (q : RenderArgs RenderChoice) (s : RenderState) (store marks : List ℕ) : Type 0 where
    pub legal : LegalRule q.to.choice.rule
    pub right : P.wrong_row q.to.choice store (read_from s) q.to.stop ≡ None
    pub fits : RenderFits q s store marks
    pub width : WidthFits q.to.choice.width s.width
    pub allotted : 1 ≤ q.allotment
    pub listed : ListedFits (view_of store) s

  pub render_checked : (q : RenderArgs RenderChoice) (s : RenderState) (store marks : List ℕ) → first (before_marks P q s store marks) ≡ None
      → RenderChecked q s store marks
  render_checked q s store marks e =
      let c = q.to.choice in
      let found = P.wrong_row c store (read_from s) q.to.stop in
      let tests = any (render_tests q s store marks) in
      let other = P.other_rule c.rule in
      let line_20 = rule_line other c.rule in
      let line_11 = refuse_at found 11 in
      let line_12 = refuse_if tests 12 0 in
      let line_15 = width_line c s in
      let line_22 = allotment_line q.allotment in
      let line_23 = listed_line s store in
      let last = line_22 ∷ line_23 ∷ [] in
      let others = P.render_image_of c ∷ line_11 ∷ line_12 ∷ line_15 ∷ last in
      let behind = passes_others (P.render_image_of c) (line_11 ∷ line_12 ∷ line_15 ∷ last) (passes_others line_20 others e) in
      let after_11 = passes_others line_11 (line_12 ∷ line_15 ∷ last) behind in
      let after_12 = passes_others line_12 (line_15 ∷ last) after_11 in
      let after_15 = passes_others line_15 last after_12 in
      let after_22 = passes_others line_22 (line_23 ∷ []) after_15 in
      record {
        legal = rule_legal other c.rule (not_if (any (chosen_tests other c.rule)) 20 0 (passes_line line_20 others e));
        right = not_at found 11 (passes_line line_11 (line_12 ∷ line_15 ∷ last) behind);
        fits = render_fits q s store marks (not_if tests 12 0 (passes_line line_12 (line_15 ∷ last) after_11));
        width = width_fits c.width s.width (not_if (any (width_tests c.width s.width)) 15 0 (passes_line line_15 last after_12));
        allotted =
            some_allotted q.allotment (not_if (any (allotment_tests q.allotment)) 22 0 (passes_line line_22 (line_23 ∷ []) after_15));
        listed =
            listed_fits (view_of store) s (not_if (any (listed_tests (view_of store) s)) 23 0 (passes_line line_23 [] after_22));
      }

  -- and 9
  pub record RenderTold (q : RenderArgs RenderChoice) (s : RenderState) (store marks : List ℕ) : Type 0 where
    pub checked : RenderChecked q s store marks
    pub marks_enough : marks_for P q s store ≤ length marks

  pub before_told : (q : RenderArgs RenderChoice) (s : RenderState) (store marks : List ℕ) → first (before_text P q s store marks) ≡ None
      → RenderTold q s store marks
  before_told q s store marks e =
      let needs = marks_for P q s store in
      let line-9 = refuse_if (ltb (length marks) needs) 9 needs in
      let behind = passes_right (before_marks P q s store marks) (marks_line P q s store marks) e in
      record {
        checked = render_checked q s store marks (passes_left (before_marks P q s store marks) (marks_line P q s store marks) e);
        marks_enough = ltb-false (length marks) needs (not_if (ltb (length marks) needs) 9 needs (passes_line line-9 [] behind));
      }

  pub render_told : (q : RenderArgs RenderChoice) (s : RenderState) (store marks : List ℕ) → first (render_table P q s store marks) ≡ None
      → RenderTold q s store marks
  render_told q s store marks e = before_told q s store marks (passes_left (before_text P q s store marks) (text_line P q s store marks) e)
