-- What a test of what stands at a record says of the number of its kind.
-- Assumes nothing.
use mathlib.Core.Path.{◌≡◌, refl, sym, ap, ◌∙◌}
use mathlib.Core.Bool.{Bool, true, false, not}
use Prim.Native.Nat.{ℕ, ◌+◌}
use native.Mathlib.Omega.{arith}
use denote.Enum.Declared.{tag_of}
use denote.Enum.Bare.{sameb, same_true, same_false, tag_one, differs_true, differs_false}
use Rattle.std.proofs.Common.{rules}
use Rattle.layout.specs.contracts.kinds.Expr as expr
use Rattle.layout.specs.contracts.kinds.Pattern as pattern
use Rattle.layout.specs.contracts.kinds.FStringPart as part
use Rattle.layout.specs.declared.kinds.Expr.{Expr}
use Rattle.layout.specs.declared.kinds.Expr.TheVariants as exprs
use Rattle.layout.specs.declared.kinds.Pattern.{Pattern}
use Rattle.layout.specs.declared.kinds.Pattern.TheVariants as patterns
use Rattle.layout.specs.declared.kinds.FStringPart.{FStringPart}
use Rattle.layout.specs.declared.kinds.FStringPart.TheVariants as parts
use Rattle.layout.specs.Numbers.{expr_number, pattern_number, part_number}

tag_number : (k : Expr) → tag_of expr.the_type k + 50 ≡ expr_number k
tag_number exprs.Return = refl
tag_number exprs.Literal = refl
tag_number exprs.Block = refl
tag_number exprs.Match = refl
tag_number exprs.FunctionCall = refl
tag_number exprs.Access = refl
tag_number exprs.Path = refl
tag_number exprs.Record = refl
tag_number exprs.TypedRecord = refl
tag_number exprs.List = refl
tag_number exprs.Not = refl
tag_number exprs.Assign = refl
tag_number exprs.CompoundAssign = refl
tag_number exprs.BinOp = refl
tag_number exprs.Negate = refl
tag_number exprs.IfElse = refl
tag_number exprs.While = refl
tag_number exprs.For = refl
tag_number exprs.QuestionMark = refl
tag_number exprs.FString = refl
tag_number exprs.Parentheses = refl

one_expr : (k x : Expr) → expr_number k ≡ expr_number x → k ≡ x
one_expr k x e = tag_one expr.the_type (search rules) k x (omega (arith, tag_number k, tag_number x, e))

module _ {n : ℕ} (k x : Expr) {r : Bool} (e : n ≡ expr_number k) where
  pub is_expr : r ≡ sameb expr.the_type k x → r ≡ true → n ≡ expr_number x
  is_expr f g = e ∙ ap expr_number (same_true expr.the_type (search rules) k x (sym f ∙ g))

  pub other_expr : r ≡ sameb expr.the_type k x → r ≡ false → n ≡ expr_number x → ⊥
  other_expr f g h = same_false expr.the_type k x (sym f ∙ g) (one_expr k x (sym e ∙ h))

  pub undiffering_expr : r ≡ not (sameb expr.the_type k x) → r ≡ false → n ≡ expr_number x
  undiffering_expr f g = e ∙ ap expr_number (differs_false expr.the_type (search rules) k x (sym f ∙ g))

  pub differing_expr : r ≡ not (sameb expr.the_type k x) → r ≡ true → n ≡ expr_number x → ⊥
  differing_expr f g h = differs_true expr.the_type k x (sym f ∙ g) (one_expr k x (sym e ∙ h))

one_pattern : (k x : Pattern) → pattern_number k ≡ pattern_number x → k ≡ x
one_pattern patterns.Underscore patterns.Underscore e = refl
one_pattern patterns.Underscore patterns.EnumVariant e = absurd (omega (arith, e))
one_pattern patterns.EnumVariant patterns.Underscore e = absurd (omega (arith, e))
one_pattern patterns.EnumVariant patterns.EnumVariant e = refl

module _ {n : ℕ} (k x : Pattern) {r : Bool} (e : n ≡ pattern_number k) where
  pub is_pattern : r ≡ sameb pattern.the_type k x → r ≡ true → n ≡ pattern_number x
  is_pattern f g = e ∙ ap pattern_number (same_true pattern.the_type (search rules) k x (sym f ∙ g))

  pub other_pattern : r ≡ sameb pattern.the_type k x → r ≡ false → n ≡ pattern_number x → ⊥
  other_pattern f g h = same_false pattern.the_type k x (sym f ∙ g) (one_pattern k x (sym e ∙ h))

one_part : (k x : FStringPart) → part_number k ≡ part_number x → k ≡ x
one_part parts.String parts.String e = refl
one_part parts.String parts.Expr e = absurd (omega (arith, e))
one_part parts.Expr parts.String e = absurd (omega (arith, e))
one_part parts.Expr parts.Expr e = refl

module _ {n : ℕ} (k x : FStringPart) {r : Bool} (e : n ≡ part_number k) where
  pub is_part : r ≡ sameb part.the_type k x → r ≡ true → n ≡ part_number x
  is_part f g = e ∙ ap part_number (same_true part.the_type (search rules) k x (sym f ∙ g))

  pub other_part : r ≡ sameb part.the_type k x → r ≡ false → n ≡ part_number x → ⊥
  other_part f g h = same_false part.the_type k x (sym f ∙ g) (one_part k x (sym e ∙ h))
