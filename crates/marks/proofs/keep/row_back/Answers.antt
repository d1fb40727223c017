use mathlib.Core.Path.{refl, ap}
use mathlib.Core.List.{List}
use Prim.Native.Nat.{ℕ}
use lib.ListN.{get_or}
use Rattle.marks.proofs.Aside.{back_two, back_one, back_none}
use Rattle.marks.proofs.keep.row_back.Goals as goal

pub returns-in-Two : goal.returns-in-Two
returns-in-Two c =
    back_two c.args.store.now c.args.marks.now c.args.row _ _ _ _ _ _ _ _ c.in-Two.ensures
    refl (ap (λ (l : List ℕ). get_or l 1 0) c.to_le_bytes.ensures) c.put.ensures
    (ap (λ (l : List ℕ). get_or l 0 0) c.to_le_bytes.ensures) c.put-in-Two.ensures

pub returns-in-One : goal.returns-in-One
returns-in-One c =
    back_one c.args.store.now c.args.marks.now c.args.row _ _ _ _ _ c.in-One.ensures
    refl (ap (λ (l : List ℕ). get_or l 0 0) c.to_le_bytes.ensures) c.put-in-One.ensures

pub returns-in-None : goal.returns-in-None
returns-in-None c = back_none _ c.args.row _ c.in-None.ensures
