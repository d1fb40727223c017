-- Layout in one go is layout piece by piece: the shebang, the declarations in order, the final `Line`. So layout to a stop and then on is layout
-- to the later stop, and the next row counts the rows.
-- Assumes nothing but the laws of the parts.
use mathlib.Core.Path.{◌≡◌, refl, sym, ap, ap₂, ◌∙◌}
use mathlib.Core.Bool.{Bool, true, false}
use Rattle.std.specs.Prelude.{None}
use mathlib.Core.List.{List, ◌++◌, append-nil, append_assoc}
use Prim.Native.Nat.{ℕ, zero, suc, ◌+◌, ◌-◌, ◌*◌, ◌≤◌}
use native.Mathlib.Nat.{sub-zero, zero-add, suc-add}
use native.Mathlib.Omega.{arith}
use lib.ListN.{length, length-append}
use Rattle.rows.specs.Places.{PLACES}
use Rattle.cut_rule.specs.Rules.{LayoutArgs, LayoutResult}
use Rattle.cut_rule.specs.Laws.{LayoutAfter, then_laid, LayoutLaws}
use Rattle.refusals.specs.Refusals.{first}
use Rattle.cut_rule.specs.States.{LayoutChoice, Cursor, LayoutState, layout_fresh}
use Rattle.cut_rule.specs.Parts.{Piece, RuleParts, still, and_then, begin, several, end, call_piece, laid_of, layout_table, rules}
use Rattle.cut_rule.specs.PartLaws.{Counts, LayoutPartLaws}
use Rattle.cut_rule.proofs.Table.{LegalRule, same_as_carried, layout_told}

pub counts_then : (c : Cursor) (p : Piece) (g : Cursor → Piece) → Counts c p → Counts p.cursor (g p.cursor) → Counts c (and_then p g)
counts_then c p g u v = record { row = omega (arith, u.row, v.row, length-append p.rows (g p.cursor).rows) }

module _ (P : RuleParts) where
  -- ---- pieces one after the other
  abbrev piece : Cursor → List ℕ → Piece
  piece c r = record { cursor = c; rows = r }

  abbrev glue : Piece → Piece → Piece
  glue x y = record { cursor = y.cursor; rows = x.rows ++ y.rows }

  module _ (k : LayoutChoice) where
    glue_several : (n d : ℕ) (x : Piece) → glue x (several P k n d (still x.cursor)) ≡ several P k n d x
    glue_several zero d x = ap (piece x.cursor) (append-nil x.rows)
    glue_several (suc n) d x =
        let y = several P k n d (still x.cursor) in
        let one = P.declaration k (d + n) in
        ap (piece (one y.cursor).cursor) (sym (append_assoc x.rows y.rows (one y.cursor).rows))
        ∙ ap (λ (z : Piece). and_then z one) (glue_several n d x)

    several_add : (i n d : ℕ) (x : Piece) → several P k i (d + n) (several P k n d x) ≡ several P k (i + n) d x
    several_add zero n d x = ap (λ (j : ℕ). several P k j d x) (sym (zero-add n))
    several_add (suc i) n d x =
        let e : d + n + i ≡ d + (i + n) = omega arith in
        ap (λ (j : ℕ). and_then (several P k i (d + n) (several P k n d x)) (P.declaration k j)) e
        ∙ ap (λ (y : Piece). and_then y (P.declaration k (d + (i + n)))) (several_add i n d x)
        ∙ ap (λ (j : ℕ). several P k j d x) (sym (suc-add i n))

    glue_end : (b : Bool) (x y : Piece) → glue x (end P k b y) ≡ end P k b (glue x y)
    glue_end false x y = refl
    glue_end true x y = ap (piece (P.final k y.cursor).cursor) (sym (append_assoc x.rows y.rows (P.final k y.cursor).rows))

    -- ---- the document from fresh, before declaration n
    abbrev pub up_to : ℕ → Piece
    up_to n = several P k n 0 (P.shebang k layout_fresh.cursor)

  pub from_fresh : (q : LayoutArgs LayoutChoice) → call_piece P layout_fresh q ≡ end P q.choice q.close (up_to q.choice q.stop)
  from_fresh q = ap (λ (n : ℕ). end P q.choice q.close (up_to q.choice n)) (sub-zero q.stop)

  -- where a call to p, not closing, left layout
  abbrev stopped_at : LayoutChoice → ℕ → LayoutChoice → LayoutState
  stopped_at k n held = record { begun = true; closed = false; declaration = n; cursor = (up_to k n).cursor; mode = held.mode; rule = held.rule }

  piece_on : (n : ℕ) (held : LayoutChoice) (q : LayoutArgs LayoutChoice) → n ≤ q.stop
      → call_piece P layout_fresh q ≡ glue (up_to q.choice n) (call_piece P (stopped_at q.choice n held) q)
  piece_on n held q h =
      let k = q.choice in
      let x = up_to k n in
      let m : (q.stop - n) + n ≡ q.stop = omega arith in
      from_fresh q
      ∙ ap (λ (j : ℕ). end P k q.close (up_to k j)) (sym m)
      ∙ ap (λ (y : Piece). end P k q.close y)
      (sym (several_add k (q.stop - n) n 0 (P.shebang k layout_fresh.cursor))
      ∙ ap (λ (d : ℕ). several P k (q.stop - n) d x) (zero-add n)
      ∙ sym (glue_several k (q.stop - n) n x))
      ∙ sym (glue_end k q.close x (several P k (q.stop - n) n (still x.cursor)))

  stopped : (p : LayoutArgs LayoutChoice) → p.close ≡ false → call_piece P layout_fresh p ≡ up_to p.choice p.stop
  stopped p e = from_fresh p ∙ ap (λ (b : Bool). end P p.choice b (up_to p.choice p.stop)) e

  -- ---- the next row counts the rows
  module _ (L : LayoutPartLaws P) where
    counts_several : (k : LayoutChoice) (n d : ℕ) (c : Cursor) (p : Piece) → d + n ≤ P.declarations → Counts c p → Counts c (several P k n d p)
    counts_several k zero d c p h u = u
    counts_several k (suc n) d c p h u =
        counts_then c (several P k n d p) (P.declaration k (d + n)) (counts_several k n d c p (omega arith) u)
        (L.declaration_counts k (d + n) (several P k n d p).cursor (omega arith))

    counts_begin : (k : LayoutChoice) (b : Bool) (c : Cursor) → Counts c (begin P k b c)
    counts_begin k true c = record { row = omega arith }
    counts_begin k false c = L.shebang_counts k c

    counts_end : (k : LayoutChoice) (b : Bool) (c : Cursor) (p : Piece) → Counts c p → Counts c (end P k b p)
    counts_end k false c p u = u
    counts_end k true c p u = counts_then c p (P.final k) u (L.final_counts k p.cursor)

    pub counts_piece : (s : LayoutState) (q : LayoutArgs LayoutChoice) → s.declaration ≤ q.stop → q.stop ≤ P.declarations
        → Counts s.cursor (call_piece P s q)
    counts_piece s q h g =
        let k = q.choice in
        let d = s.declaration in
        let p = begin P k s.begun s.cursor in
        counts_end k q.close s.cursor (several P k (q.stop - d) d p)
        (counts_several k (q.stop - d) d s.cursor p (omega arith) (counts_begin k s.begun s.cursor))

  module _ (L : LayoutPartLaws P) where
    pub record FitsParts (q : LayoutArgs LayoutChoice) : Type 0 where
      pub legal : LegalRule q.choice.rule
      pub to : q.stop ≤ P.declarations
      pub closes_at_end : q.close ≡ true → q.stop ≡ P.declarations

    goes_on : (p q : LayoutArgs LayoutChoice) → LayoutAfter p q → laid_of P layout_fresh q ≡ then_laid (laid_of P layout_fresh p) (λ s. laid_of P s q)
    goes_on p q a =
        ap laid_as (piece_on p.stop p.choice q a.not_past)
        ∙ ap parted (ap (λ (k : LayoutChoice). up_to k p.stop) (sym a.same) ∙ sym (stopped p a.not_closed))
      where
        laid_as : Piece → LayoutResult LayoutState
        laid_as y = record {
          state = record { begun = true; closed = q.close; declaration = q.stop; cursor = y.cursor; mode = q.choice.mode; rule = q.choice.rule };
          rows = y.rows;
          left = P.comments - y.cursor.placed;
        }

        parted : Piece → LayoutResult LayoutState
        parted x =
            let k = p.choice in
            laid_as
            (glue x
            (call_piece P (record { begun = true; closed = p.close; declaration = p.stop; cursor = x.cursor; mode = k.mode; rule = k.rule }) q))

    pub layout_laws : LayoutLaws (rules P)
    layout_laws = record {
      Fits = FitsParts;
      accepted_fits = λ q s store e. record {
        legal = (layout_told P q s store e).legal;
        to = (layout_told P q s store e).fits.stop.to;
        closes_at_end = (layout_told P q s store e).fits.stop.closes_at_end;
      };
      accepted_after = λ p q store k e. record {
        not_closed = (layout_told P q (laid_of P layout_fresh p).state store e).fits.stop.not_closed;
        not_past = (layout_told P q (laid_of P layout_fresh p).state store e).fits.stop.from;
        same =
            let t = (layout_told P q (laid_of P layout_fresh p).state store e).fits in
            ap₂ (λ (m r : ℕ). record { mode = m; rule = r }) (sym (t.mode.same refl))
            (same_as_carried q.choice.rule p.choice.rule k.legal.least t.rule);
      };
      fresh_row = refl;
      due_row = λ p k. omega (arith, (counts_piece L layout_fresh p (omega arith) k.to).row);
      goes_on = λ p q k l a. goes_on p q a;
    }

    pub fitting : (q : LayoutArgs LayoutChoice) → layout_laws.Fits q → FitsParts q
    unfolding layout_laws
    fitting q k = k

    pub rows_fit : (q : LayoutArgs LayoutChoice) (s : LayoutState) (store : List ℕ) → first (layout_table P q s store) ≡ None
        → PLACES * s.cursor.row + length (call_piece P s q).rows ≤ length store
    rows_fit q s store e =
        let t = layout_told P q s store e in
        omega (arith, t.room, (counts_piece L s q t.fits.stop.from t.fits.stop.to).row)
