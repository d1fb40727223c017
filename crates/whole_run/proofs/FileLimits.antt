-- A file's text and columns are limited: by the sum over its rows (renderer_rules/proofs/Most.antt) and what its nodes measure together
-- (renderer_rules/proofs/Columns.antt), since each text lies inside its origin and each width stands in two bytes.
-- Assumes nothing.
use mathlib.Core.Path.{◌≡◌, refl, ap}
use mathlib.Core.Bool.{Bool, true, false, cond, not, ◌&&◌, ◌||◌}
use Rattle.std.specs.Prelude.{None}
use mathlib.Core.List.{List, [], ◌∷◌}
use Prim.Native.Nat.{ℕ, zero, suc, ◌+◌, ◌*◌, ◌-◌, ◌≤◌, ◌<◌}
use native.Mathlib.Omega.{arith}
use native.Mathlib.Decide.{dec_lt}
use native.Mathlib.Nat.{sub-zero}
use lib.Dec.{leb, eqb}
use lib.ListN.{length, get_or, replicate}
use borrow.Author.Tests.{leb-true, eqb-true, not-false}
use Rattle.laws.proofs.Booleans.{and_right}
use Rattle.image.specs.Limits.{MAX_SOURCE}
use Rattle.image.proofs.Versions.{stored_small}
use Rattle.image.specs.Read.{header_fits, any_version, source_fits, read_earlier}
use Rattle.image.proofs.Accepted.{headed}
use Rattle.rows.specs.Node.{Text, Node, Nodes, group, indent, indent_next, wrap_parent, comment}
use Rattle.rows.specs.Node.{str, ascii, line, empty_line, line_or_space, if_wrap, call, ◌then◌}
use Rattle.rows.specs.Node as node
use Rattle.rows.specs.Rows.{size, sizes}
use Rattle.rows.specs.Places.{KIND, NUMBER, SECOND_NUMBER, SECOND, AFTER, ORIGIN, START, SIZE, WIDTH}
use Rattle.rows.specs.Texts.{origin_text}
use Rattle.rows.specs.View.{View, cell, view_of, nodes_at}
use Rattle.rows.specs.Words.{words}
use Rattle.rows.specs.Nesting.{RangeIn, Nests, over, leaf, block, two, pair}
use Rattle.rows.proofs.Nested.{leaf_within}
use Rattle.rows.proofs.Table.{words_size}
use Rattle.comments.specs.Listed.{given}
use Rattle.layout_facts.specs.Sound.{Inside, Supplied, TextsOf, TextsIn}
use Rattle.layout_facts.proofs.Limits.{closed_within}
use Rattle.renderer_rules.specs.Check.{uses_number, uses_number2, uses_second, uses_text, uses_width, text_fits, no_text_fits, places_fit}
use Rattle.renderer_rules.specs.Page.{text_bytes}
use Rattle.renderer_rules.specs.Renderer.{Page}
use Rattle.renderer_rules.proofs.ByRule.{fits_by}
use Rattle.renderer_rules.proofs.Most.{text_most, text_size}
use Rattle.renderer_rules.proofs.MostByRows.{row_most, rows_most, nested_most}
use Rattle.widths.proofs.ByRule.{by_fits}
use Rattle.node_widths.specs.Summed.{summed, summed_all, str_columns}
use Rattle.node_widths.specs.Measured.{ascii_columns, rule_page}
use Rattle.renderer_rules.proofs.Columns.{measure, measures, column_most}
use Rattle.refusals.specs.Refusals.{refuse_if}
use Rattle.refusals.proofs.Groups.{passes_line, passes_others, not_if}
use Rattle.cut_rule.specs.States.{render_fresh}
use Rattle.cut_rule.specs.Parts.{Drawn}
use Rattle.whole_run.specs.Parts.{keeps_waiting, page, formed_line, render_image, renderer_of}
use Rattle.whole_run.specs.Demands.{laid_to}
use Rattle.whole_run.specs.File.{file_rows}
use Rattle.whole_run.specs.FileLimits.{MAX_IMAGE, RowsTextLimited, FileTextLimited, AreBytes, FileColumnLimited}
use Rattle.whole_run.specs.Built.{layout_choice, render_choice, built, laid, marks_due}
use Rattle.whole_run.proofs.Right.{Right, right}
use Rattle.whole_run.proofs.Whole.{fmt_parsed_lem}
use Rattle.whole_run.proofs.AllRows.{all_rows}
use Rattle.whole_run.proofs.Limits.{stood, all_limited}
use Rattle.whole_run.proofs.FileTable.{laid_passed, rows_fit}
use Rattle.whole_run.proofs.File.{image_passes, layout_args}

-- ---- each row of rows that nest ends by their end
module _ (v : View) (k : ℕ) where
  -- row i, one inside it, or one behind it
  ends_in : {i j : ℕ} → RangeIn v i j → (i < k → k < v.after i → v.after k ≤ v.after i) → (v.after i ≤ k → v.after k ≤ j) → i ≤ k → v.after k ≤ j
  ends_in {i} {j} w f g p = go (dec_lt i k) (dec_lt k (v.after i))
    where
      go : Dec (i < k) → Dec (k < v.after i) → v.after k ≤ j
      go (no l) n =
          let z : k ≡ i = omega arith in
          rw z w.to
      go (yes l) (yes n) = omega (arith, f l n, w.to)
      go (yes l) (no n) = g (omega arith)

  -- in the first part, or in the second
  ends_either : {m e : ℕ} → m ≤ e → (k < m → v.after k ≤ m) → (m ≤ k → v.after k ≤ e) → v.after k ≤ e
  ends_either {m} {e} h f g = go (dec_lt k m)
    where
      go : Dec (k < m) → v.after k ≤ e
      go (yes l) = omega (arith, f l)
      go (no l) = g (omega arith)

  ends_by : {i j d : ℕ} → Nests v i j d → i ≤ k → k < j → v.after k ≤ j
  ends_by (over e) p q = absurd (omega arith)
  ends_by (leaf a b e f m g) p q = ends_in (leaf_within e f) (λ l n. absurd (omega arith)) (λ l. ends_by g (omega arith) q) p
  ends_by (block a w m g r) p q = ends_in w (λ l n. ends_by g l n) (λ l. ends_by r l q) p
  ends_by (two a w t m g h r) p q =
      let u = t.to in
      ends_in w (λ l n. ends_either (omega arith) (λ o. ends_by g l o) (λ o. ends_by h o n)) (λ l. ends_by r l q) p
  ends_by (pair a w t m g h r) p q = ends_in w (λ l n. ends_either t.to (λ o. ends_by g l o) (λ o. ends_by h o n)) (λ l. ends_by r l q) p

-- ---- the bytes that a row adds, where lines start at the left
row_most_lem : (store : List ℕ) (i k : ℕ) → cell store i SIZE ≤ MAX_IMAGE → cell store i AFTER ≤ file_rows → row_most 0 store i k ≤ MAX_IMAGE + 2
row_most_lem store i zero h a = omega arith
row_most_lem store i (suc zero) h a = omega arith
row_most_lem store i (suc (suc zero)) h a = omega arith
row_most_lem store i (suc (suc (suc zero))) h a = omega arith
row_most_lem store i (suc (suc (suc (suc zero)))) h a = omega arith
row_most_lem store i (suc (suc (suc (suc (suc zero))))) h a = omega arith
row_most_lem store i (suc (suc (suc (suc (suc (suc zero)))))) h a = omega arith
row_most_lem store i (suc (suc (suc (suc (suc (suc (suc zero))))))) h a = omega arith
row_most_lem store i (suc (suc (suc (suc (suc (suc (suc (suc zero)))))))) h a = omega arith
row_most_lem store i (suc (suc (suc (suc (suc (suc (suc (suc (suc zero))))))))) h a = omega arith
row_most_lem store i (suc (suc (suc (suc (suc (suc (suc (suc (suc (suc zero)))))))))) h a = omega arith
row_most_lem store i (suc (suc (suc (suc (suc (suc (suc (suc (suc (suc (suc zero))))))))))) h a = omega arith
row_most_lem store i (suc (suc (suc (suc (suc (suc (suc (suc (suc (suc (suc (suc k)))))))))))) h a = omega arith

rows_sum : (n : ℕ) (store : List ℕ) (i : ℕ) → ((k : ℕ) → i ≤ k → k < i + n → row_most 0 store k (cell store k KIND) ≤ MAX_IMAGE + 2)
    → rows_most n 0 store i ≤ n * (MAX_IMAGE + 2)
unfolding rows_most
rows_sum zero store i h = omega arith
rows_sum (suc n) store i h =
    let a = h i (omega arith) (omega arith) in
    let r = rows_sum n store (suc i) (λ k p q. h k (omega arith) (omega arith)) in
    omega arith

-- ---- source and image within their limits
record Sized (s b : List ℕ) : Type 0 where
  source : length s ≤ MAX_SOURCE
  image : length b ≤ MAX_IMAGE

sized : (rule : ℕ) (s b : List ℕ) → render_image rule s b ≡ None → Sized s b
unfolding source_fits
sized rule s b e =
    let one = refuse_if (not (source_fits s)) 1 0 in
    let two = formed_line rule s in
    let three = refuse_if (not (header_fits any_version b)) 3 0 in
    let f = not_if (not (source_fits s)) 1 0 (passes_line one (two ∷ three ∷ []) e) in
    let behind = passes_others two (three ∷ []) (passes_others one (two ∷ three ∷ []) e) in
    let h = headed any_version b (not-false _ (not_if (not (header_fits any_version b)) 3 0 (passes_line three [] behind))) in
    record { source = leb-true (length s) MAX_SOURCE (not-false _ f); image = omega (arith, h.size, h.short) }

module _ {s b : List ℕ} (z : Sized s b) where
  origin_size : (o : ℕ) → length (get_or (s ∷ b ∷ words ∷ []) o []) ≤ MAX_IMAGE
  origin_size zero = omega (arith, z.source)
  origin_size (suc zero) = z.image
  origin_size (suc (suc zero)) = omega (arith, words_size)
  origin_size (suc (suc (suc o))) = omega arith

  -- ---- rows
  text_short : (store : List ℕ) (i : ℕ) → places_fit s b store i ≡ true → cell store i SIZE ≤ MAX_IMAGE
  unfolding places_fit origin_text
  text_short store i e =
      let kind = cell store i KIND in
      let numbers =
      (uses_number kind || eqb (cell store i NUMBER) 0)
      && ((uses_number2 kind || eqb (cell store i SECOND_NUMBER) 0) && (uses_second kind || eqb (cell store i SECOND) 0))
      in
      let width = uses_width kind || eqb (cell store i WIDTH) 0 in
      let texts = cond (uses_text kind) (text_fits s b store i) (no_text_fits store i) in
      go (uses_text kind) (and_right width texts (and_right numbers (width && texts) e))
    where
      go : (c : Bool) → cond c (text_fits s b store i) (no_text_fits store i) ≡ true → cell store i SIZE ≤ MAX_IMAGE
      go true h =
          let f =
          leb-true (cell store i START + cell store i SIZE) (length (get_or (s ∷ b ∷ words ∷ []) (cell store i ORIGIN) []))
          (and_right (leb (cell store i ORIGIN) 2) _ h)
          in
          omega (arith, origin_size (cell store i ORIGIN))
      go false h =
          let f = eqb-true (cell store i SIZE) 0 (and_right (eqb (cell store i START) 0) _ (and_right (eqb (cell store i ORIGIN) 0) _ h)) in
          omega arith

  rows_sized : (rule : ℕ) (store : List ℕ) (n : ℕ) → n ≤ file_rows → Right rule s b store 0 n → rows_most n 0 store 0 ≤ n * (MAX_IMAGE + 2)
  unfolding view_of
  rows_sized rule store n few r =
      rows_sum n store 0
      (λ k p q.
      let e = ends_by (view_of store) k r.nests p (omega arith) in
      row_most_lem store k (cell store k KIND) (text_short store k (fits_by rule s b store k (r.places k p (omega arith)))) (omega arith))

  -- ---- nodes
  inside_size : (t : Text) → Inside (given s b) t → t.size ≤ MAX_IMAGE
  inside_size t i = omega (arith, i.fits, origin_size t.origin)

  module _ (bytes : AreBytes b) (max rule chosen : ℕ) where
    -- the page, and what a `Str` is given
    abbrev p : Page
    p = rule_page max rule s b

    abbrev f : ℕ → Text → ℕ
    f = str_columns chosen s b

    supplied_width : (w : ℕ) (t : Text) → Supplied (given s b) w t → w ≤ 65535
    supplied_width w t p = omega (arith, p.same, stored_small b p.at (bytes (p.at + 13)) (bytes (p.at + 13 + 1)))

    part_short : (t : Text) → length (text_bytes s b t) ≤ t.size
    part_short t = text_size s b t

    str_fits : (w : ℕ) (t : Text) → Inside (given s b) t → Supplied (given s b) w t → f w t ≤ MAX_IMAGE
    unfolding str_columns
    str_fits w t i p =
        by_fits chosen w (text_bytes s b t) MAX_IMAGE (omega (arith, supplied_width w t p)) (omega (arith, part_short t, inside_size t i))

    ascii_fits : (t : Text) → Inside (given s b) t → p.columns t ≤ MAX_IMAGE
    unfolding ascii_columns str_columns
    ascii_fits t i = by_fits rule t.size (text_bytes s b t) MAX_IMAGE (inside_size t i) (omega (arith, part_short t, inside_size t i))

    mutual
      unfolding measure TextsOf size summed

      node_measure : (n : Node) → TextsOf (given s b) n → measure p (summed f n) ≤ MAX_IMAGE * size n
      node_measure (group n ns) t = let h = nodes_measure ns t in omega arith
      node_measure (indent ns) t = let h = nodes_measure ns t in omega arith
      node_measure (indent_next ns) t = let h = nodes_measure ns t in omega arith
      node_measure wrap_parent t = omega arith
      node_measure (comment x) t = omega arith
      node_measure (str w x) t = let h = str_fits w x t.0 t.1 in omega arith
      node_measure (ascii x) t = let h = ascii_fits x t in omega arith
      node_measure line t = omega arith
      node_measure empty_line t = omega arith
      node_measure line_or_space t = omega arith
      node_measure (if_wrap n a c) t = let h = node_measure a t.0 in let g = node_measure c t.1 in omega arith
      node_measure (call n e k a) t = let h = nodes_measure e t.0 in let g = nodes_measure a t.1 in omega arith

      nodes_measure : (ns : Nodes) → TextsIn (given s b) ns → measures p (summed_all f ns) ≤ MAX_IMAGE * sizes ns
      nodes_measure node.none t = omega arith
      nodes_measure (n then ns) t = let h = node_measure n t.0 in let g = nodes_measure ns t.1 in omega arith

pub rows_text_limited : RowsTextLimited
rows_text_limited c s b store marks n few image e =
    let r = right c.rule s b store 0 n (omega arith) e in
    let ns = nodes_at (view_of store) 0 n in
    let h = text_most c.width (ascii_columns c.rule s b) s b ns 0 true (renderer_of render_fresh.pen marks) refl refl in
    let t = nested_most store 0 r.nests in
    let k = rows_sized (sized c.rule s b image) c.rule store n few r in
    let m : rows_most (n - 0) 0 store 0 ≡ rows_most n 0 store 0 = ap (λ (x : ℕ). rows_most x 0 store 0) (sub-zero n) in
    omega arith

-- ---- a file
pub file_text_limited : FileTextLimited
file_text_limited s b c h =
    let g = (fmt_parsed_lem (read_earlier s b) s b).closed_in (layout_choice c) in
    let l = laid_to (read_earlier s b) s b (layout_args s b c) in
    let marks : List ℕ = replicate (marks_due s b c) 0 in
    let row = l.state.cursor.row in
    let n = sizes (nodes_at (view_of l.rows) 0 row) + row in
    let e = ap (λ (d : Drawn). length d.text) (g.drawn_due_of (render_choice c) render_fresh n marks refl refl (omega arith)) in
    let all =
    ap (λ (d : Drawn). length d.text)
    (all_rows s b render_fresh (record { stop = row; choice = render_choice c }) n marks l.rows refl (omega arith)) in
    let read = (laid_passed s b c file_rows h).earlier in
    let m =
    rows_text_limited (render_choice c) s b l.rows marks l.state.cursor.row (omega (arith, g.row_due, rows_fit s b c file_rows h))
    (image_passes s b c.rule read)
    (((all_limited s b read).closed (layout_choice c)).right c.rule)
    in
    omega arith

pub file_column_limited : FileColumnLimited
file_column_limited k s b marks c bytes h =
    let read = (laid_passed s b c file_rows h).earlier in
    let z = sized k.rule s b (image_passes s b k.rule read) in
    let m = nodes_measure z bytes k.width k.rule c.rule (built s b c).nodes (closed_within (stood s b read).stood (keeps_waiting c.mode)).texts in
    omega (arith, column_most (page k s b) (laid s b c) marks, rows_fit s b c file_rows h)
