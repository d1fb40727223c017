-- The passes by an edition are the passes by its rule; where widths are supplied a pass changes nothing.
-- Assumes nothing.
use mathlib.Core.Path.{◌≡◌, refl, ap, ◌∙◌, sym}
use Prim.Native.Nat.{ℕ, zero, suc, ◌+◌, ◌*◌}
use mathlib.Core.Bool.{Bool, true, false, cond}
use mathlib.Core.List.{List}
use lib.ListN.{set}
use lib.Seq.{set-get_or}
use lib.Dec.{eqb}
use Rattle.std.specs.Prelude.{None, Some}
use Rattle.rows.specs.Kinds.{STR}
use Rattle.rows.specs.Places.{KIND, WIDTH, PLACES}
use Rattle.rows.specs.Node.{Text}
use Rattle.rows.specs.View.{cell}
use Rattle.renderer_rules.specs.Page.{text_bytes, row_text}
use Rattle.widths.specs.Rules.{edition_of}
use Rattle.widths.specs.declared.Edition.{Edition}
use Rattle.widths.proofs.ByRule.{by_edition, by_none}
use Rattle.node_widths.specs.Summed.{str_columns}
use Rattle.node_widths.specs.Measured.{ascii_columns}
use Rattle.row_widths.specs.Passes.{columns_in, any_width, pass, row_summed, row_turned}

module _ (rule : ℕ) (e : Edition) (h : edition_of rule ≡ Some e) (source image : List ℕ) where
  -- ---- one text
  str_by : (w : ℕ) (t : Text) → columns_in e source image t ≡ str_columns rule source image w t
  unfolding str_columns
  str_by w t = sym (by_edition rule w (text_bytes source image t) e h)

  ascii_by : (t : Text) → columns_in e source image t ≡ ascii_columns rule source image t
  unfolding ascii_columns
  ascii_by t = str_by t.size t

-- ---- rows
pass_same : (a b : List ℕ → ℕ → List ℕ) → ((s : List ℕ) (i : ℕ) → a s i ≡ b s i) → (n : ℕ) (s : List ℕ) (i : ℕ) → pass a n s i ≡ pass b n s i
unfolding pass
pass_same a b e zero s i = refl
pass_same a b e (suc n) s i = pass_same a b e n (a s i) (suc i) ∙ ap (λ (t : List ℕ). pass b n t (suc i)) (e s i)

summed_same : (f g : ℕ → Text → ℕ) → ((w : ℕ) (t : Text) → f w t ≡ g w t) → (s : List ℕ) (i : ℕ) → row_summed f s i ≡ row_summed g s i
unfolding row_summed
summed_same f g e s i = rw (e (cell s i WIDTH) (row_text s i))

turned_same : (f g : Text → ℕ) → ((t : Text) → f t ≡ g t) → (s : List ℕ) (i : ℕ) → row_turned f s i ≡ row_turned g s i
unfolding row_turned
turned_same f g e s i = rw (e (row_text s i))

pub sums_by : (rule : ℕ) (e : Edition) → edition_of rule ≡ Some e → (source image : List ℕ) (n : ℕ) (s : List ℕ) (i : ℕ)
    → pass (row_summed (any_width (columns_in e source image))) n s i ≡ pass (row_summed (str_columns rule source image)) n s i
sums_by rule e h source image =
    let f = any_width (columns_in e source image) in
    let g = str_columns rule source image in
    pass_same (row_summed f) (row_summed g) (summed_same f g (str_by rule e h source image))

pub turns_by : (rule : ℕ) (e : Edition) → edition_of rule ≡ Some e → (source image : List ℕ) (n : ℕ) (s : List ℕ) (i : ℕ)
    → pass (row_turned (columns_in e source image)) n s i ≡ pass (row_turned (ascii_columns rule source image)) n s i
turns_by rule e h source image =
    let f = columns_in e source image in
    let g = ascii_columns rule source image in
    pass_same (row_turned f) (row_turned g) (turned_same f g (ascii_by rule e h source image))

-- ---- supplied widths
row_stays : (f : ℕ → Text → ℕ) → ((w : ℕ) (t : Text) → f w t ≡ w) → (s : List ℕ) (i : ℕ) → row_summed f s i ≡ s
unfolding row_summed
row_stays f e s i =
    ap (λ (w : ℕ). cond (eqb (cell s i KIND) STR) (set s (i * PLACES + WIDTH) w) s) (e (cell s i WIDTH) (row_text s i)) ∙ go (eqb (cell s i KIND) STR)
  where
    go : (x : Bool) → cond x (set s (i * PLACES + WIDTH) (cell s i WIDTH)) s ≡ s
    go true = set-get_or s (i * PLACES + WIDTH) 0
    go false = refl

stays : (step : List ℕ → ℕ → List ℕ) → ((s : List ℕ) (i : ℕ) → step s i ≡ s) → (n : ℕ) (s : List ℕ) (i : ℕ) → pass step n s i ≡ s
unfolding pass
stays step e zero s i = refl
stays step e (suc n) s i = stays step e n (step s i) (suc i) ∙ e s i

pub sums_stay : (rule : ℕ) (source image : List ℕ) (n : ℕ) (s : List ℕ) (i : ℕ) → edition_of rule ≡ None
    → pass (row_summed (str_columns rule source image)) n s i ≡ s
unfolding str_columns
sums_stay rule source image n s i h =
    let f = str_columns rule source image in
    stays (row_summed f) (row_stays f (λ w t. by_none rule w (text_bytes source image t) h)) n s i
