-- The tests of two precedences, as tests of their numbers.
-- Assumes nothing.
use mathlib.Core.Path.{◌≡◌, refl, sym, ap, ◌∙◌}
use mathlib.Core.Bool.{true, false, not}
use borrow.Author.Tests.{eq-eqb, not-true}
use denote.Enum.Declared.{tag_of}
use denote.Enum.Bare.{sameb, differs_false}
use Rattle.std.proofs.Common.{rules, ltb}
use Rattle.std.specs.Ordering.{partial_lt}
use Rattle.layout.specs.contracts.forms.Precedence.{the_type}
use Rattle.layout.specs.contracts.forms.PrecedencePartialOrd.TheImpl.{partial_cmp-value}
use Rattle.layout.specs.declared.forms.Precedence.{Precedence}
use Rattle.layout.specs.declared.forms.Precedence.TheVariants.{Bottom, LogicalOr, LogicalAnd, Comparison, AddSub, MulDiv, Exp, Not, Chain, Unit}
use Rattle.layout.specs.Ranks.{rank}

tag_rank : (p : Precedence) → tag_of the_type p ≡ rank p
tag_rank Bottom = refl
tag_rank LogicalOr = refl
tag_rank LogicalAnd = refl
tag_rank Comparison = refl
tag_rank AddSub = refl
tag_rank MulDiv = refl
tag_rank Exp = refl
tag_rank Not = refl
tag_rank Chain = refl
tag_rank Unit = refl

pub rank_same : (p q : Precedence) → not (sameb the_type p q) ≡ false → rank p ≡ rank q
rank_same p q e = ap rank (differs_false the_type (search rules) p q e)

pub rank_apart : (p q : Precedence) → not (sameb the_type p q) ≡ true → rank p ≡ rank q → ⊥
rank_apart p q e f =
    let g = eq-eqb _ _ (tag_rank p ∙ f ∙ sym (tag_rank q)) in
    let h : sameb the_type p q ≡ false = not-true _ e in
    cc

-- `<`
pub below_rank : (p q : Precedence) → partial_lt (partial_cmp-value).it p q ≡ ltb (rank p) (rank q)
below_rank p q = search rules
