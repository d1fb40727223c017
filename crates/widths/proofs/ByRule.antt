-- What a text measures by a rule: what is supplied under the first, the sum by an edition under the others, and never more than either.
-- Assumes nothing.
use mathlib.Core.Path.{◌≡◌, refl, ap}
use mathlib.Core.List.{List}
use Prim.Native.Nat.{ℕ, zero, suc, ◌+◌, ◌≤◌}
use native.Mathlib.Omega.{arith}
use lib.ListN.{length}
use Rattle.std.specs.Prelude.{Option, None, Some}
use Rattle.text.specs.Utf8.{char_at}
use Rattle.text.specs.declared.utf8.Char.{Char}
use Rattle.text.proofs.Characters.{at_inside}
use Rattle.widths.specs.Widths.{codes_from, codes, sum, text_width}
use Rattle.widths.specs.Editions.{rule_width, table_of}
use Rattle.widths.specs.Rules.{SUPPLIED, edition_of, columns_of, columns_by}
use Rattle.widths.specs.declared.Edition.{Edition}
use Rattle.widths.proofs.Narrow.{bytes_enough}
use Rattle.widths.proofs.Editions.{by_the_rule, usable}

-- ---- by rule
pub by_supplied : (w : ℕ) (t : List ℕ) → columns_by SUPPLIED w t ≡ w
unfolding columns_by edition_of
by_supplied w t = refl

pub by_none : (rule w : ℕ) (t : List ℕ) → edition_of rule ≡ None → columns_by rule w t ≡ w
unfolding columns_by
by_none rule w t e = ap (columns_of w t) e

pub by_edition : (rule w : ℕ) (t : List ℕ) (e : Edition) → edition_of rule ≡ Some e → columns_by rule w t ≡ text_width (rule_width e) t
unfolding columns_by
by_edition rule w t e q = ap (columns_of w t) q

-- ---- a text takes no more columns than bytes
few_from : (e : Edition) (m : ℕ) (s : List ℕ) (at : ℕ) → at ≤ length s → at + sum (rule_width e) (codes_from m s at) ≤ length s
unfolding codes_from sum
few_from e zero s at h = omega arith
few_from e (suc m) s at h = go (char_at s at) refl (few_from e m s)
  where
    go : (d : Option Char) → char_at s at ≡ d → ((at : ℕ) → at ≤ length s → at + sum (rule_width e) (codes_from m s at) ≤ length s)
        → at + sum (rule_width e) (codes_from (suc m) s at) ≤ length s
    go None q more = rw (q, codes_from) (omega arith)
    go (Some c) q more =
        let i = at_inside s at c q in
        let few = bytes_enough (table_of e) s at c (usable e).small q in
        let later = more (at + c.bytes) i.1 in
        rw (q, codes_from) (omega (arith, few, later, by_the_rule e c.code))

pub few_columns : (e : Edition) (s : List ℕ) → text_width (rule_width e) s ≤ length s
unfolding codes
few_columns e s = let f = few_from e (length s) s 0 (omega arith) in omega arith

-- so what is measured fits where what is supplied and the bytes fit
pub by_fits : (rule w : ℕ) (t : List ℕ) (most : ℕ) → w ≤ most → length t ≤ most → columns_by rule w t ≤ most
unfolding columns_by
by_fits rule w t most a b = go (edition_of rule)
  where
    go : (o : Option Edition) → columns_of w t o ≤ most
    go None = a
    go (Some e) = omega (arith, few_columns e t)
