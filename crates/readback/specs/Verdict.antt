-- Document 02, 11/14, "Trees that would read back differently": the verdict on a tree, and the answer to a source and an image.
use Rattle.std.specs.Prelude.{List, [], ◌∷◌, ◌++◌, ℕ, min}
use Rattle.refusals.specs.Answers.{Answer, refused, accepted}
use Rattle.image.specs.Read.{Tree, Trees, absent, node, nil, ◌▸◌, Read, got, bad, Image, read_all}
use Rattle.readback.specs.declared.Verdict.{Verdict}
use Rattle.readback.specs.declared.Verdict.TheVariants.{Same, Differs}
use Rattle.readback.specs.Operands.{broken}

-- the operands that break a rule, of all records of a tree
unfoldable mutual
  pub offenders : List ℕ → Tree → List ℕ
  offenders b absent = []
  offenders b (node h ts) = broken b h.at ++ offenders_in b ts

  pub offenders_in : List ℕ → Trees → List ℕ
  offenders_in b nil = []
  offenders_in b (t ▸ ts) = offenders b t ++ offenders_in b ts

-- the least of n and some numbers
unfoldable pub least : ℕ → List ℕ → ℕ
least n [] = n
least n (x ∷ xs) = least (min n x) xs

-- "The verdict is yes exactly when none does; otherwise the first that does in reading order, by its offset": reading order is that of offsets
abbrev pub verdict_on : List ℕ → Verdict
verdict_on [] = Same
verdict_on (x ∷ xs) = Differs (least x xs)

-- "Refused: 1 to 7, as the image reader."
abbrev pub verdict_by : List ℕ → Read Image → Answer Verdict
verdict_by b (got i end) = accepted (verdict_on (offenders b i.tree))
verdict_by b (bad n p) = refused (record { number = n; place = p })

abbrev pub verdict_due : List ℕ → List ℕ → Answer Verdict
verdict_due s b = verdict_by b (read_all s b)

-- the verdict in numbers: 1 and 0 for yes, 0 and the operand's offset for no
abbrev pub told_verdict : Verdict → List ℕ
told_verdict Same = 1 ∷ 0 ∷ []
told_verdict (Differs at) = 0 ∷ at ∷ []
