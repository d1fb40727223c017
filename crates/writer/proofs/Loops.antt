-- The loop over the children of a record.
-- Assumes nothing.
use mathlib.Core.Path.{◌≡◌, sym, ap, ◌∙◌}
use mathlib.Core.List.{List}
use Prim.Native.Nat.{ℕ, zero, suc, ◌+◌, ◌-◌, ◌≤◌, ◌<◌}
use native.Mathlib.Omega.{arith}
use lib.ListN.{length}
use Rattle.image.specs.Grammar.{after}
use Rattle.image.specs.Read.{Read}
use Rattle.image.specs.Write.{Plain, written, writtens}
use Rattle.steps.specs.Writer.{children_from, record_from}
use Rattle.writer.specs.Steps.{child_from}
use Rattle.writer.specs.Put.{AtChildren, Ran, fault, closed, up_to, put_by, child_by}
use Rattle.writer.proofs.Runs.{was_child, turn_closed, turn_wrong, turn_next}
use Rattle.writer.proofs.Bounds.{behind}

-- The whole run over the children ends as the run from here on does, with turns enough for the bytes that are left.
pub record Going (one : ℕ → ℕ → Read Plain) (l : List ℕ) (whole : Ran) (row at pos : ℕ) (out : List ℕ) : Type 0 where
  pub turns : ℕ
  pub enough : length l - at ≤ turns
  pub inside : at ≤ length l
  pub due : AtChildren row at pos
  pub same : whole ≡ put_by writtens pos out (children_from one l (suc turns) row at)

module _ (l : List ℕ) (left : ℕ) (whole : Ran) (row at pos : ℕ) (out : List ℕ) (g : Going (record_from l left) l whole row at pos out) where
  pub goes_closed : (e : ℕ) (o : List ℕ) → closed e o ≡ child_by pos out (child_from (record_from l left) l row at) → up_to e pos o ≡ whole
  goes_closed e o h = turn_closed (record_from l left) l g.turns row at pos out e o h ∙ sym g.same

  pub goes_wrong : (n q : ℕ) → fault n q ≡ child_by pos out (child_from (record_from l left) l row at) → fault n q ≡ whole
  goes_wrong n q h = turn_wrong (record_from l left) l g.turns row at pos out n q h ∙ sym g.same

  pub goes_on : (e q : ℕ) (o : List ℕ) → up_to e q o ≡ child_by pos out (child_from (record_from l left) l row at)
      → (at < e) × ((e ≤ length l) × Going (record_from l left) l whole (after row) e q o)
  goes_on e q o h = go g.turns g.enough g.same
    where
      go : (n : ℕ) → length l - at ≤ n → whole ≡ put_by writtens pos out (children_from (record_from l left) l (suc n) row at)
          → (at < e) × ((e ≤ length l) × Going (record_from l left) l whole (after row) e q o)
      go n le s =
          let w = was_child pos out (child_from (record_from l left) l row at) e q o h in
          let k = w.2 in
          let xw : w.0 ≡ k.what = cc k.reads in
          let b = behind l left row at pos g.due w.0 e w.1 in
          let same : pos + length (written w.0) ≡ q = ap (λ (x : Plain). pos + length (written x)) xw ∙ sym k.place in
          (b.0, (b.1, turn n le s b.0 b.1 (rw same at b.2)))
        where
          turn : (n : ℕ) → length l - at ≤ n → whole ≡ put_by writtens pos out (children_from (record_from l left) l (suc n) row at)
              → at < e → e ≤ length l → AtChildren (after row) e q → Going (record_from l left) l whole (after row) e q o
          turn zero le s a b d = absurd (omega arith)
          turn (suc m) le s a b d =
              record {
                turns = m;
                enough = omega arith;
                inside = b;
                due = d;
                same = s ∙ turn_next (record_from l left) l (suc m) row at pos out e q o h;
              }
