-- The formula at a place, put by its parts: the bytes fit, and they are its steps.
-- Assumes nothing.
use mathlib.Core.Path.{◌≡◌, refl, ap, ◌∙◌}
use mathlib.Core.List.{List, [], ◌∷◌, ◌++◌}
use Prim.Native.Nat.{ℕ, ◌+◌, ◌*◌, ◌≤◌}
use native.Mathlib.Omega.{arith}
use lib.ListN.{length, length-append}
use Rattle.image.specs.Bytes.{be16}
use Rattle.image.specs.Kinds.{PATH_EXPR, BIN_OP}
use Rattle.steps.specs.Steps.{tree_steps}
use Rattle.writer.specs.declared.output.Output.{Output}
use Rattle.writer.specs.Appends.{Appends}
use Rattle.formulas.specs.Formulas.{Op, Formula, path, binary, negation, parentheses, place, size}
use Rattle.formulas.proofs.Places.{exchanged}
use Rattle.formula_images.specs.declared.shapes.Spot.{Spot}
use Rattle.formula_images.specs.declared.shapes.Operator.{Operator}
use Rattle.formula_images.specs.declared.shapes.Shape.TheVariants.{Path}
use Rattle.formula_images.specs.Images.{text_of, path_of, operator_of}
use Rattle.formula_images.specs.Parts.{There, formula_of, op_of, Double, Single, Comes, steps_in, formula_steps}
use Rattle.formula_images.proofs.Steps.{appends_join, appends_as, text_length, opens, closes, a_is, negation_is, parentheses_is, binary_is}

-- ---- how many bytes
path_length : length (formula_steps path) ≡ 41
unfolding tree_steps be16
path_length = ap length a_is

pub operator_length : (x : ℕ) → length (steps_in (operator_of x)) ≡ 13
unfolding tree_steps
operator_length x = refl

negation_length : (f : Formula) → length (formula_steps (negation f)) ≡ length (formula_steps f) + 11
negation_length f = ap length (negation_is f) ∙ omega (arith, length-append (formula_steps f) closes)

parentheses_length : (f : Formula) → length (formula_steps (parentheses f)) ≡ length (formula_steps f) + 11
parentheses_length f = ap length (parentheses_is f) ∙ omega (arith, length-append (formula_steps f) closes)

binary_length : (o : Op) (l r : Formula) → length (formula_steps (binary o l r)) ≡ length (formula_steps l) + length (formula_steps r) + 24
binary_length o l r =
    let x = formula_steps l in
    let y = steps_in (operator_of (place o)) in
    let z = formula_steps r in
    ap length (binary_is o l r)
    ∙ omega (
      arith,
      length-append x (y ++ (z ++ closes)),
      length-append y (z ++ closes),
      length-append z closes,
      operator_length (place o),
    )

-- a path has the most for its size
bytes_most : (f : Formula) → length (formula_steps f) ≤ 41 * size f
unfolding size
bytes_most path = omega (arith, path_length)
bytes_most (binary o l r) = let x = bytes_most l in let y = bytes_most r in omega (arith, binary_length o l r)
bytes_most (negation f) = let x = bytes_most f in omega (arith, negation_length f)
bytes_most (parentheses f) = let x = bytes_most f in omega (arith, parentheses_length f)

pub bytes_at : (s : Spot) → There s → length (formula_steps (formula_of s)) ≤ 41 * s.size
bytes_at s t = omega (arith, bytes_most (formula_of s), (exchanged s.size).sized s.place t.inside)

-- ---- a path
pub path_done : (s : Spot) {o p q t : Output} → Comes s Path → Appends (opens PATH_EXPR) o p → Appends (steps_in (path_of (0x61 ∷ []))) p q
    → Appends closes q t → Appends (formula_steps (formula_of s)) o t
path_done s c x y z = appends_as (ap formula_steps c.1 ∙ a_is) (appends_join x (appends_join y z))

-- ---- one operand
module _ (s inner : Spot) (over : Formula → Formula) (kind : ℕ) (c : Single s over inner) where
  pub single_done : {o p q t : Output} → ((f : Formula) → formula_steps (over f) ≡ opens kind ++ (formula_steps f ++ closes))
      → Appends (opens kind) o p → Appends (formula_steps (formula_of inner)) p q → Appends closes q t → Appends (formula_steps (formula_of s)) o t
  single_done is x y z = appends_as (ap formula_steps c.is ∙ is (formula_of inner)) (appends_join x (appends_join y z))

  pub single_close : {o p q : Output} → o.pos + 41 * s.size ≤ 512 → Appends (opens kind) o p → Appends (formula_steps (formula_of inner)) p q
      → q.pos + 1 ≤ 512
  single_close room x y = omega (arith, x.place, y.place, c.sizes, bytes_at inner c.there)

-- ---- two operands
module _ (s : Spot) (op : Operator) (left right : Spot) (c : Double s op left right) where
  abbrev middle : List ℕ
  middle = steps_in (operator_of (place (op_of op)))

  pub double_operator : {o p q : Output} → o.pos + 41 * s.size ≤ 512 → Appends (opens BIN_OP) o p → Appends (formula_steps (formula_of left)) p q
      → q.pos + 13 ≤ 512
  double_operator room x y = omega (arith, x.place, y.place, c.both.sizes, bytes_at left c.both.first, c.both.second.least)

  pub double_right : {o p q t : Output} → o.pos + 41 * s.size ≤ 512 → Appends (opens BIN_OP) o p → Appends (formula_steps (formula_of left)) p q
      → Appends middle q t → t.pos + 41 * right.size ≤ 512
  double_right room x y z =
      omega (arith, x.place, y.place, z.place, operator_length (place (op_of op)), c.both.sizes, bytes_at left c.both.first)

  pub double_close : {o p q t u : Output} → o.pos + 41 * s.size ≤ 512 → Appends (opens BIN_OP) o p → Appends (formula_steps (formula_of left)) p q
      → Appends middle q t → Appends (formula_steps (formula_of right)) t u → u.pos + 1 ≤ 512
  double_close room x y z w =
      omega (
        arith,
        x.place,
        y.place,
        z.place,
        w.place,
        operator_length (place (op_of op)),
        c.both.sizes,
        bytes_at left c.both.first,
        bytes_at right c.both.second,
      )

  pub double_done : {o p q t u v : Output} → Appends (opens BIN_OP) o p → Appends (formula_steps (formula_of left)) p q → Appends middle q t
      → Appends (formula_steps (formula_of right)) t u → Appends closes u v → Appends (formula_steps (formula_of s)) o v
  double_done x y z w e =
      appends_as (ap formula_steps c.is ∙ binary_is (op_of op) (formula_of left) (formula_of right))
      (appends_join x (appends_join y (appends_join z (appends_join w e))))

-- ---- the whole
-- where the type goes
pub front_place : {o p q t u : Output} → o.pos ≡ 0 → Appends (opens 1) o p → Appends (5 ∷ []) p q → Appends (opens 11) q t
    → Appends (steps_in (text_of (0x63 ∷ []))) t u → u.pos ≡ 40
front_place z a b c d = omega (arith, z, a.place, b.place, c.place, d.place, text_length (0x63 ∷ []))
