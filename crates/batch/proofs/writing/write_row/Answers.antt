-- The three cells stand where they are put.
use Rattle.std.proofs.Common.{◌≡◌, sym, ap, ◌∙◌, List, [], ◌∷◌, ◌++◌, ℕ, ◌+◌, ◌≤◌, length, take, drop, append_assoc, arith}
use lib.Seq.{sets, sets-eq, drop-drop}
use Rattle.batch.specs.Whole.{cells}
use Rattle.batch.proofs.writing.write_row.Goals as goal

stored : (table part : List ℕ) (at k : ℕ) (row : List ℕ) → part ≡ row → k ≡ length row → at + length row ≤ length table
    → take at table ++ (part ++ drop k (drop at table)) ≡ sets table at row
stored table part at k row e f h =
    rw (e, f) (
    ap (λ (l : List ℕ). take at table ++ (row ++ l)) (drop-drop (length row) at table)
    ∙ sym (append_assoc (take at table) row (drop (at + length row) table))
    ∙ sym (sets-eq row table at h)
    )

pub returns : goal.returns
returns c =
    let row = c.args.row in
    stored c.args.table.now _ c.args.at _ (cells row)
    (c.copy_from_slice.ensures.after ∙ ap (λ (n : ℕ). n ∷ row.place ∷ row.bytes ∷ []) c.from.ensures)
    (omega arith)
    (omega (arith, c.requires.0))
