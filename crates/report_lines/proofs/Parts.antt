-- Cells as they are put: blanks before a text, and one behind others.
-- Assumes nothing.
use Rattle.std.proofs.Common.{◌≡◌, sym, ap, ◌∙◌, List, [], ◌∷◌, ◌++◌, ℕ, ◌+◌, ◌-◌, ◌<◌, length, take, replicate, map, append_assoc, append-nil, get_or}
use Rattle.std.proofs.lemmas.List.{map_more}
use Rattle.lines.specs.Lines.{decimal}
use Rattle.report_lines.specs.Table.{COLUMNS, BLANK, cell, cells}

pub whole_cell : (line text : List ℕ) (k : ℕ) → k ≡ COLUMNS - length text → (line ++ replicate k BLANK) ++ text ≡ line ++ cell text
unfolding cell
whole_cell line text k e = rw e (append_assoc line (replicate (COLUMNS - length text) BLANK) text)

cells_more : (texts : List (List ℕ)) (text : List ℕ) → cells (texts ++ (text ∷ [])) ≡ cells texts ++ (BLANK ∷ cell text)
unfolding cells
cells_more [] text = append-nil (BLANK ∷ cell text)
cells_more (first ∷ texts) text =
    ap (λ (l : List ℕ). (BLANK ∷ cell first) ++ l) (cells_more texts text)
    ∙ sym (append_assoc (BLANK ∷ cell first) (cells texts) (BLANK ∷ cell text))

pub none_yet : (line : List ℕ) → line ≡ line ++ cells []
unfolding cells
none_yet line = sym (append-nil line)

pub one_more : (line : List ℕ) {one two three : List ℕ} (numbers : List ℕ) (i : ℕ) → i < length numbers
    → one ≡ line ++ cells (map decimal (take i numbers))
    → two ≡ one ++ (BLANK ∷ [])
    → three ≡ two ++ cell (decimal (get_or numbers i 0))
    → three ≡ line ++ cells (map decimal (take (i + 1) numbers))
one_more line numbers i h p q r =
    let number : List ℕ = decimal (get_or numbers i 0) in
    let texts : List (List ℕ) = map decimal (take i numbers) in
    let more : cells (map decimal (take (i + 1) numbers)) ≡ cells texts ++ (BLANK ∷ cell number) =
    ap cells (map_more decimal numbers i 0 h) ∙ cells_more texts number
    in
    rw (more, r, q, p) (
    append_assoc (line ++ cells texts) (BLANK ∷ []) (cell number) ∙ append_assoc line (cells texts) (BLANK ∷ cell number)
    )
