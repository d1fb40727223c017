-- Two texts that hold pieces, one after the other, hold those of both.
-- Assumes nothing.
use mathlib.Core.Path.{◌≡◌, sym, ap, subst, ◌∙◌}
use mathlib.Core.Bool.{Bool}
use mathlib.Core.List.{List, ◌∷◌, ◌++◌, append_assoc}
use Prim.Native.Nat.{ℕ}
use Rattle.renderer_rules.specs.Holds.{Each, nothing, byte, HoldsInOrder, rest, piece}

each_join : {test : ℕ → Bool} {t u : List ℕ} → Each test t → Each test u → Each test (t ++ u)
each_join nothing k = k
each_join (byte e h) k = byte e (each_join h k)

module _ {A : Type 0} {test : ℕ → Bool} {W : A → List ℕ → Type 0} where
  holds_behind : {front t : List ℕ} {ps : List A} → Each test front → HoldsInOrder test W ps t → HoldsInOrder test W ps (front ++ t)
  holds_behind f (rest h) = rest (each_join f h)
  holds_behind {front} f (piece p {ps} {before} {this} {behind} h i k) =
      subst (λ (t : List ℕ). HoldsInOrder test W (p ∷ ps) t) (append_assoc front before (this ++ behind)) (piece p (each_join f h) i k)

  pub holds_join : {ps qs : List A} {t u : List ℕ} → HoldsInOrder test W ps t → HoldsInOrder test W qs u → HoldsInOrder test W (ps ++ qs) (t ++ u)
  holds_join (rest h) k = holds_behind h k
  holds_join {qs = qs} {u = u} (piece p {ps} {before} {this} {behind} h i k) l =
      let e : before ++ (this ++ (behind ++ u)) ≡ (before ++ (this ++ behind)) ++ u =
      ap (λ (t : List ℕ). before ++ t) (sym (append_assoc this behind u)) ∙ sym (append_assoc before (this ++ behind) u)
      in
      subst (λ (t : List ℕ). HoldsInOrder test W (p ∷ (ps ++ qs)) t) e (piece p h i (holds_join k l))
