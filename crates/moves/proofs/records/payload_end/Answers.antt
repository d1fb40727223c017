-- By the kind: behind the text, behind the byte, or behind the head.
use mathlib.Core.Path.{◌≡◌, sym, ap, ◌∙◌}
use mathlib.Core.Bool.{Bool, true, false}
use Prim.Native.Nat.{ℕ, ◌+◌}
use lib.Dec.{eqb}
use borrow.Author.Tests.{eqb-true, eqb-false, ne_eqb}
use Rattle.std.specs.Prelude.{Some}
use Rattle.image.specs.Grammar.{has_byte, first_child}
use Rattle.image.specs.KindNumbers.{kind_number, kind_of}
use Rattle.image.specs.declared.kinds.Kind.{Kind}
use Rattle.image.proofs.Known.{numbered, no_payload}
use Rattle.moves.proofs.records.payload_end.Goals as goal

a_text : (k : ℕ) (x : Kind) → Some x ≡ kind_of k → eqb (kind_number x) 2 ≡ true → k ≡ 2
a_text k x e t = numbered k x (sym e) ∙ eqb-true _ _ t

no_text : (k : ℕ) (x : Kind) → Some x ≡ kind_of k → eqb (kind_number x) 2 ≡ false → ¬ (k ≡ 2)
no_text k x e f z = eqb-false _ _ f (sym (numbered k x (sym e)) ∙ z)

byte_by : {t : Bool} (k : ℕ) (x : Kind) → Some x ≡ kind_of k → has_byte (kind_number x) ≡ t → has_byte k ≡ t
byte_by k x e h = ap has_byte (numbered k x (sym e)) ∙ h

pub returns-in_default : goal.returns-in_default
unfolding first_child
returns-in_default c =
    let (n, h) = no_payload _ c.in_default.ensures in
    rw (ne_eqb _ _ n, h)

pub returns-then-is_text : goal.returns-then-is_text
unfolding first_child
returns-then-is_text c =
    rw (a_text _ _ c.in-Some.ensures (sym c.is_text.ensures ∙ c.if-is_text.true)) (ap (λ (m : ℕ). c.args.at + 4 + m) c.num32.ensures.same)

pub returns-then-has_byte : goal.returns-then-has_byte
unfolding first_child
returns-then-has_byte c =
    rw (
      ne_eqb _ _ (no_text _ _ c.in-Some.ensures (sym c.is_text.ensures ∙ c.if-is_text.false)),
      byte_by _ _ c.in-Some.ensures (sym c.has_byte.ensures ∙ c.if-has_byte.true),
    )

pub returns : goal.returns
unfolding first_child
returns c =
    rw (
      ne_eqb _ _ (no_text _ _ c.in-Some.ensures (sym c.is_text.ensures ∙ c.if-is_text.false)),
      byte_by _ _ c.in-Some.ensures (sym c.has_byte.ensures ∙ c.if-has_byte.false),
    )
