-- A kind and its number, each from the other.
-- Assumes nothing.
use mathlib.Core.Path.{◌≡◌, refl, sym, ap, ◌∙◌}
use Prim.Native.Nat.{ℕ, zero, suc, ◌≤◌}
use native.Mathlib.Omega.{arith}
use Rattle.std.specs.Prelude.{Option, Some, None}
use Rattle.rows.specs.Kinds.{CALL, Cases, case_of, number_of, kind_of}
use Rattle.rows.specs.declared.kinds.Kind.{Kind}
use Rattle.rows.specs.declared.kinds.Kind.TheVariants as kinds

abbrev number_or : ℕ → Option Kind → ℕ
number_or n None = n
number_or n (Some k) = number_of k

number_back : (n : ℕ) → number_or n (kind_of n) ≡ n
number_back zero = refl
number_back (suc zero) = refl
number_back (suc (suc zero)) = refl
number_back (suc (suc (suc zero))) = refl
number_back (suc (suc (suc (suc zero)))) = refl
number_back (suc (suc (suc (suc (suc zero))))) = refl
number_back (suc (suc (suc (suc (suc (suc zero)))))) = refl
number_back (suc (suc (suc (suc (suc (suc (suc zero))))))) = refl
number_back (suc (suc (suc (suc (suc (suc (suc (suc zero)))))))) = refl
number_back (suc (suc (suc (suc (suc (suc (suc (suc (suc zero))))))))) = refl
number_back (suc (suc (suc (suc (suc (suc (suc (suc (suc (suc zero)))))))))) = refl
number_back (suc (suc (suc (suc (suc (suc (suc (suc (suc (suc (suc zero))))))))))) = refl
number_back (suc (suc (suc (suc (suc (suc (suc (suc (suc (suc (suc (suc n)))))))))))) = refl

-- the number that has a kind is the kind's
pub is_kind : (n : ℕ) (k : Kind) → kind_of n ≡ Some k → n ≡ number_of k
is_kind n k e = sym (number_back n) ∙ ap (number_or n) e

-- a number that has no kind has the case of none
pub no_case : {A : Type 0} (c : Cases A) (n : ℕ) → kind_of n ≡ None → case_of c n ≡ c.no_kind
no_case c zero e = absurd (cc)
no_case c (suc zero) e = absurd (cc)
no_case c (suc (suc zero)) e = absurd (cc)
no_case c (suc (suc (suc zero))) e = absurd (cc)
no_case c (suc (suc (suc (suc zero)))) e = absurd (cc)
no_case c (suc (suc (suc (suc (suc zero))))) e = absurd (cc)
no_case c (suc (suc (suc (suc (suc (suc zero)))))) e = absurd (cc)
no_case c (suc (suc (suc (suc (suc (suc (suc zero))))))) e = absurd (cc)
no_case c (suc (suc (suc (suc (suc (suc (suc (suc zero)))))))) e = absurd (cc)
no_case c (suc (suc (suc (suc (suc (suc (suc (suc (suc zero))))))))) e = absurd (cc)
no_case c (suc (suc (suc (suc (suc (suc (suc (suc (suc (suc zero)))))))))) e = absurd (cc)
no_case c (suc (suc (suc (suc (suc (suc (suc (suc (suc (suc (suc zero))))))))))) e = absurd (cc)
no_case c (suc (suc (suc (suc (suc (suc (suc (suc (suc (suc (suc (suc n)))))))))))) e = refl

kind_back : (k : Kind) → kind_of (number_of k) ≡ Some k
kind_back kinds.Group = refl
kind_back kinds.Indent = refl
kind_back kinds.IndentNext = refl
kind_back kinds.WrapParent = refl
kind_back kinds.Comment = refl
kind_back kinds.Str = refl
kind_back kinds.Ascii = refl
kind_back kinds.Line = refl
kind_back kinds.EmptyLine = refl
kind_back kinds.LineOrSpace = refl
kind_back kinds.IfWrap = refl
kind_back kinds.Call = refl

-- a number is of one kind at most
pub number_same : (a b : Kind) → number_of a ≡ number_of b → a ≡ b
number_same a b e = let p = kind_back a in let q = kind_back b in let r = ap kind_of e in cc

pub not_number : {a : Kind} (b : Kind) {n : ℕ} → n ≡ number_of a → (a ≡ b → ⊥) → n ≡ number_of b → ⊥
not_number {a} b e f q = f (number_same a b (sym e ∙ q))

-- a number up to the last kind's has a kind
pub some_kind : (n : ℕ) → n ≤ CALL → kind_of n ≡ None → ⊥
some_kind zero l e = cc
some_kind (suc zero) l e = cc
some_kind (suc (suc zero)) l e = cc
some_kind (suc (suc (suc zero))) l e = cc
some_kind (suc (suc (suc (suc zero)))) l e = cc
some_kind (suc (suc (suc (suc (suc zero))))) l e = cc
some_kind (suc (suc (suc (suc (suc (suc zero)))))) l e = cc
some_kind (suc (suc (suc (suc (suc (suc (suc zero))))))) l e = cc
some_kind (suc (suc (suc (suc (suc (suc (suc (suc zero)))))))) l e = cc
some_kind (suc (suc (suc (suc (suc (suc (suc (suc (suc zero))))))))) l e = cc
some_kind (suc (suc (suc (suc (suc (suc (suc (suc (suc (suc zero)))))))))) l e = cc
some_kind (suc (suc (suc (suc (suc (suc (suc (suc (suc (suc (suc zero))))))))))) l e = cc
some_kind (suc (suc (suc (suc (suc (suc (suc (suc (suc (suc (suc (suc n)))))))))))) l e = omega arith
