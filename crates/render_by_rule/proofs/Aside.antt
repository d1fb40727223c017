-- Marks put aside for a dry run change no text row: what may be turned may be turned in the dry run too.
-- Assumes nothing.
use mathlib.Core.Path.{◌≡◌, sym, ◌∙◌}
use Prim.Native.Nat.{ℕ}
use native.Mathlib.Omega.{arith}
use mathlib.Core.List.{List, []}
use Rattle.rows.specs.Kinds.{ASCII}
use Rattle.rows.specs.Places.{KIND, NUMBER}
use Rattle.rows.specs.View.{cell}
use Rattle.marks.specs.Marks.{numbers_of, Held, put_aside}
use Rattle.marks.proofs.Seen.{aside_place, aside_width}
use Rattle.row_widths.specs.Passes.{Unturned}

module _ (n u : ℕ) (h : Held) (i : ℕ) where
  -- the store that is left
  abbrev aside : List ℕ
  aside = (put_aside n u h i).rows

  kind_same : (k : ℕ) → cell aside k KIND ≡ cell h.rows k KIND
  kind_same k = aside_place n u h i k KIND (omega arith)

  no_numbers : (k : ℕ) → cell h.rows k KIND ≡ ASCII → numbers_of h.rows k ≡ []
  no_numbers k e = rw e

  pub aside_unturned : (from to : ℕ) → Unturned h.rows from to → Unturned aside from to
  aside_unturned from to t =
      record {
        number = λ k a b e. aside_place n u h i k NUMBER (omega arith) ∙ t.number k a b (sym (kind_same k) ∙ e);
        width =
            λ k a b e.
            let same = sym (kind_same k) ∙ e in
            aside_width n u h i k (no_numbers k same) ∙ t.width k a b same;
        unmarked = λ k a b e. aside_place n u h i k NUMBER (omega arith) ∙ t.unmarked k a b (sym (kind_same k) ∙ e);
      }
