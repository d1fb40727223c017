-- Rows that layout laid pass the row check, refusal 11, under every rule: they nest, as the rows of any nodes do, they are not too deep, and each
-- is right by itself.
-- Assumes nothing.
use Prim.Native.Nat.{ℕ, zero, suc, ◌+◌, ◌*◌, ◌-◌, ◌≤◌, ◌<◌}
use mathlib.Core.Path.{◌≡◌, refl, sym, ap, ap₂, ◌∙◌}
use mathlib.Core.Bool.{Bool, true, false, cond, not, ◌&&◌, ◌||◌}
use mathlib.Core.List.{List, ◌++◌}
use Rattle.std.specs.Prelude.{None as nothing}
use native.Mathlib.Omega.{arith}
use lib.ListN.{length, get_or, length-append}
use lib.Seq.{get_or-append-add}
use lib.Dec.{leb, eqb}
use borrow.Author.Tests.{le-leb}
use Rattle.rows.specs.Limits.{MAX_ROWS}
use Rattle.rows.specs.Places.{KIND, PLACES}
use Rattle.rows.specs.Node.{Text, Nodes}
use Rattle.rows.specs.Rows.{sizes, depths, row, rows}
use Rattle.rows.specs.View.{cell, view_of}
use Rattle.rows.specs.Nesting.{Nests}
use Rattle.rows.proofs.Sizes.{length_rows}
use Rattle.rows.proofs.Flatten.{Holds, all_nest}
use Rattle.rows.specs.Texts.{origin_text}
use Rattle.widths.specs.Rules.{SUPPLIED}
use Rattle.renderer_rules.specs.Check.{uses_number, uses_number2, uses_second, uses_text, uses_width, places_fit, wrong_place, text_whole, whole_at}
use Rattle.renderer_rules.specs.Check.{places_fit_by, wrong_place_by}
use Rattle.renderer_rules.proofs.ByRule.{supplied_same, both_by, whole_start}
use Rattle.renderer_rules.proofs.Checked.{nested_accepted}
use Rattle.node_widths.specs.Summed.{summed_all}
use Rattle.node_widths.proofs.Summed.{sizes_same, depths_same, kept, keeps_all}
use Rattle.acts.specs.Act.{Given}
use Rattle.layout_facts.specs.Sound.{origin_of, Inside, TextsIn}
use Rattle.layout_facts.specs.Right.{RightRow, group, indent, indent_next, wrap_parent, comment, str, ascii, line, empty_line, line_or_space, if_wrap, call}
use Rattle.layout_facts.specs.Right.{RightRows, none, more}
use Rattle.layout_facts.proofs.Rights.{right_long, right_rows}

-- ---- one row
-- the test of a row's places, on what stands there
abbrev fits : Given → ℕ → ℕ → ℕ → ℕ → Text → ℕ → Bool
fits g kind n k second t w =
    ((uses_number kind || eqb n 0) && ((uses_number2 kind || eqb k 0) && (uses_second kind || eqb second 0)))
    && ((uses_width kind || eqb w 0)
    && cond (uses_text kind) (leb t.origin 2 && leb (t.start + t.size) (length (origin_text g.source g.image t.origin)))
    (eqb t.origin 0 && (eqb t.start 0 && eqb t.size 0)))

row_fits : (g : Given) (store : List ℕ) (i kind n k second after : ℕ) (t : Text) (w : ℕ) (l : List ℕ)
    → Holds store i (row kind n k second after t w ++ l) → fits g kind n k second t w ≡ true → places_fit g.source g.image store i ≡ true
unfolding places_fit
row_fits g store i kind n k second after t w l h e =
    rw (
      h.at 0 (omega arith),
      h.at 1 (omega arith),
      h.at 2 (omega arith),
      h.at 3 (omega arith),
      h.at 5 (omega arith),
      h.at 6 (omega arith),
      h.at 7 (omega arith),
      h.at 8 (omega arith),
    ) e

text_fits : (g : Given) (t : Text) → Inside g t
    → leb t.origin 2 && leb (t.start + t.size) (length (origin_text g.source g.image t.origin)) ≡ true
unfolding origin_text
text_fits g t i = rw (le-leb t.origin 2 i.origin, le-leb (t.start + t.size) _ i.fits)

right_fits : {g : Given} {x : List ℕ} (store : List ℕ) (i : ℕ) (l : List ℕ) → RightRow g x → Holds store i (x ++ l)
    → places_fit g.source g.image store i ≡ true
right_fits {g} store i l (group n after) h = row_fits g store i 0 n 0 0 after _ 0 l h refl
right_fits {g} store i l (indent after) h = row_fits g store i 1 0 0 0 after _ 0 l h refl
right_fits {g} store i l (indent_next after) h = row_fits g store i 2 0 0 0 after _ 0 l h refl
right_fits {g} store i l (wrap_parent after) h = row_fits g store i 3 0 0 0 after _ 0 l h refl
right_fits {g} store i l (comment after t j) h = row_fits g store i 4 0 0 0 after t 0 l h (rw (text_fits g t j))
right_fits {g} store i l (str after t w j) h = row_fits g store i 5 0 0 0 after t w l h (rw (text_fits g t j))
right_fits {g} store i l (ascii after t j) h = row_fits g store i 6 0 0 0 after t 0 l h (rw (text_fits g t j))
right_fits {g} store i l (line after) h = row_fits g store i 7 0 0 0 after _ 0 l h refl
right_fits {g} store i l (empty_line after) h = row_fits g store i 8 0 0 0 after _ 0 l h refl
right_fits {g} store i l (line_or_space after) h = row_fits g store i 9 0 0 0 after _ 0 l h refl
right_fits {g} store i l (if_wrap n second after) h = row_fits g store i 10 n 0 second after _ 0 l h refl
right_fits {g} store i l (call n k second after) h = row_fits g store i 11 n k second after _ 0 l h refl

-- ---- its text
whole_text : (g : Given) (store : List ℕ) (i kind after w : ℕ) (t : Text) (l : List ℕ) → Holds store i (row kind 0 0 0 after t w ++ l) → Inside g t
    → text_whole g.source g.image store i ≡ true
unfolding origin_text
whole_text g store i kind after w t l h j =
    sym (whole_start g.source g.image store i (origin_of g t) (rw (h.at 5 (omega arith))) (rw (h.at 6 (omega arith), h.at 7 (omega arith)) j.fits))
    ∙ rw (h.at 6 (omega arith), h.at 7 (omega arith)) (ap₂ (λ (x y : Bool). x && not y) j.formed j.uncut)

-- a row without a text, and one with a text
no_text : (g : Given) (store : List ℕ) (i kind : ℕ) → cell store i KIND ≡ kind → uses_text kind ≡ false → whole_at g.source g.image store i ≡ true
no_text g store i kind e u = rw e (rw u)

some_text : (g : Given) (store : List ℕ) (i kind : ℕ) → cell store i KIND ≡ kind → uses_text kind ≡ true → text_whole g.source g.image store i ≡ true
    → whole_at g.source g.image store i ≡ true
some_text g store i kind e u h = rw e (rw u h)

right_whole : {g : Given} {x : List ℕ} (store : List ℕ) (i : ℕ) (l : List ℕ) → RightRow g x → Holds store i (x ++ l)
    → whole_at g.source g.image store i ≡ true
right_whole {g} store i l (group n after) h = no_text g store i 0 (h.at 0 (omega arith)) refl
right_whole {g} store i l (indent after) h = no_text g store i 1 (h.at 0 (omega arith)) refl
right_whole {g} store i l (indent_next after) h = no_text g store i 2 (h.at 0 (omega arith)) refl
right_whole {g} store i l (wrap_parent after) h = no_text g store i 3 (h.at 0 (omega arith)) refl
right_whole {g} store i l (comment after t j) h = some_text g store i 4 (h.at 0 (omega arith)) refl (whole_text g store i 4 after 0 t l h j)
right_whole {g} store i l (str after t w j) h = some_text g store i 5 (h.at 0 (omega arith)) refl (whole_text g store i 5 after w t l h j)
right_whole {g} store i l (ascii after t j) h = some_text g store i 6 (h.at 0 (omega arith)) refl (whole_text g store i 6 after 0 t l h j)
right_whole {g} store i l (line after) h = no_text g store i 7 (h.at 0 (omega arith)) refl
right_whole {g} store i l (empty_line after) h = no_text g store i 8 (h.at 0 (omega arith)) refl
right_whole {g} store i l (line_or_space after) h = no_text g store i 9 (h.at 0 (omega arith)) refl
right_whole {g} store i l (if_wrap n second after) h = no_text g store i 10 (h.at 0 (omega arith)) refl
right_whole {g} store i l (call n k second after) h = no_text g store i 11 (h.at 0 (omega arith)) refl

-- ---- all of them
holds_next : (store : List ℕ) (i : ℕ) (x l : List ℕ) → length x ≡ 9 → Holds store i (x ++ l) → Holds store (i + 1) l
holds_next store i x l nine h =
    record {
      at =
          λ k b.
          let e : (i + 1) * 9 + k ≡ i * 9 + (length x + k) = omega arith in
          ap (λ (j : ℕ). get_or store j 0) e ∙ h.at (length x + k) (omega (arith, length-append x l)) ∙ get_or-append-add x l k 0;
    }

all_fit : {g : Given} {l : List ℕ} (rule : ℕ) (store : List ℕ) (i k : ℕ) → RightRows g l → Holds store i l → 9 * k < length l
    → places_fit_by rule g.source g.image store (i + k) ≡ true
all_fit rule store i k none h b = absurd (omega arith)
all_fit {g} rule store i zero (more {x} {xs} p ps) h b =
    let e : i + 0 ≡ i = omega arith in
    rw e (both_by rule g.source g.image store i (right_fits store i xs p h) (right_whole store i xs p h))
all_fit {g} rule store i (suc k) (more {x} {xs} p ps) h b =
    let e : i + suc k ≡ i + 1 + k = omega arith in
    rw e (all_fit rule store (i + 1) k ps (holds_next store i x xs (right_long p) h) (omega (arith, length-append x xs, right_long p)))

-- Nodes that are not over 256 deep and whose texts lie inside their origins, whatever is written in their `Str`s: their rows, in the store and not
-- too many, are not refused by 11, whatever rule is chosen.
pub laid_passes : (rule : ℕ) (f : ℕ → Text → ℕ) (g : Given) (ns : Nodes) (store : List ℕ) (r : ℕ) → Holds store r (rows (summed_all f ns) r) → depths ns ≤ 256
    → TextsIn g ns → r + sizes ns ≤ MAX_ROWS → (r + sizes ns) * PLACES ≤ length store
    → wrong_place_by rule g.source g.image store r (r + sizes ns) ≡ nothing
unfolding wrong_place_by
laid_passes rule f g ns store r h d t few room =
    let fits = places_fit_by rule g.source g.image store in
    let ms = summed_all f ns in
    let same : sizes ms ≡ sizes ns = sizes_same f ns in
    let nests : Nests (view_of store) r (r + sizes ns) 0 = rw same at (all_nest ms store r 0 h (omega (arith, depths_same f ns))) in
    rw (le-leb (r + sizes ns) MAX_ROWS few, le-leb ((r + sizes ns) * PLACES) (length store) room)
    (nested_accepted fits (view_of store) (r + sizes ns) 0 r nests
    (λ k a b.
    let e : r + (k - r) ≡ k = omega arith in
    let f : fits (r + (k - r)) ≡ true = all_fit rule store r (k - r) (right_rows f ns g r t) h (omega (arith, length_rows ms r)) in
    rw e at f))

-- as `fmt_parsed` gives them, under supplied widths
pub not_refused : (g : Given) (ns : Nodes) (store : List ℕ) (r : ℕ) → Holds store r (rows ns r) → depths ns ≤ 256 → TextsIn g ns
    → r + sizes ns ≤ MAX_ROWS → (r + sizes ns) * PLACES ≤ length store
    → wrong_place g.source g.image store r (r + sizes ns) ≡ nothing
not_refused g ns store r h d t few room =
    sym (supplied_same g.source g.image store r (r + sizes ns))
    ∙ laid_passes SUPPLIED kept g ns store r (rw (keeps_all ns) h) d t few room
