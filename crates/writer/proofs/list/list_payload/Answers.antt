-- By the kind: the width and the text, the byte, or nothing.
use mathlib.Core.Path.{◌≡◌, sym, ap, ap₂, ◌∙◌}
use mathlib.Core.Bool.{Bool, true, false}
use Rattle.std.specs.Prelude.{Some}
use Prim.Native.Nat.{ℕ, ◌+◌, ◌-◌}
use lib.ListN.{length}
use native.Mathlib.Omega.{arith}
use lib.Dec.{eqb}
use borrow.Author.Tests.{eqb-true, eqb-false, ne_eqb}
use Rattle.image.specs.Bytes.{part}
use Rattle.image.specs.Grammar.{has_byte, first_child}
use Rattle.image.specs.KindNumbers.{kind_number, kind_of}
use Rattle.image.specs.declared.kinds.Kind.{Kind}
use Rattle.image.proofs.Exact.{part_length}
use Rattle.image.proofs.Known.{numbered, no_payload as unknown}
use Rattle.writer.proofs.Standing.{text_payload, byte_payload, no_payload, payload_byte_inside}
use Rattle.writer.proofs.list.list_payload.Goals as goal

a_text : (k : ℕ) (x : Kind) → Some x ≡ kind_of k → eqb (kind_number x) 2 ≡ true → k ≡ 2
a_text k x e t = numbered k x (sym e) ∙ eqb-true _ _ t

no_text : (k : ℕ) (x : Kind) → Some x ≡ kind_of k → eqb (kind_number x) 2 ≡ false → ¬ (k ≡ 2)
no_text k x e f z = eqb-false _ _ f (sym (numbered k x (sym e)) ∙ z)

byte_by : {t : Bool} (k : ℕ) (x : Kind) → Some x ≡ kind_of k → has_byte (kind_number x) ≡ t → has_byte k ≡ t
byte_by k x e h = ap has_byte (numbered k x (sym e)) ∙ h

pub returns-in_default-clause-first : goal.returns-in_default-clause-first
unfolding first_child
returns-in_default-clause-first c =
    let (n, h) = unknown _ c.in_default.ensures in
    rw (ne_eqb _ _ n, h)

pub returns-in_default-clause-put : goal.returns-in_default-clause-put
returns-in_default-clause-put c =
    let (n, h) = unknown _ c.in_default.ensures in
    no_payload c.args.image.now _ (λ i. omega (arith, c.type_inv.image i)) c.requires.whole _ _ n h

pub slice_bounds-copy-end : goal.slice_bounds-copy-end
slice_bounds-copy-end c =
    let w = c.requires.whole.width (a_text _ _ c.in-Some.ensures (sym c.is_text.ensures ∙ c.if-is_text.true)) in
    omega (arith, w, c.requires.whole.inside)

pub overflow_sub-stop : goal.overflow_sub-stop
overflow_sub-stop c =
    let w = c.requires.whole.width (a_text _ _ c.in-Some.ensures (sym c.is_text.ensures ∙ c.if-is_text.true)) in
    omega (arith, w, c.num32.ensures.same)

pub slice_bounds-copy-count-then-is_text : goal.slice_bounds-copy-count-then-is_text
slice_bounds-copy-count-then-is_text c =
    let w = c.requires.whole.width (a_text _ _ c.in-Some.ensures (sym c.is_text.ensures ∙ c.if-is_text.true)) in
    omega (arith, w, c.num32.ensures.same)

pub slice_bounds-copy-start-then-is_text : goal.slice_bounds-copy-start-then-is_text
slice_bounds-copy-start-then-is_text c =
    let w = c.requires.whole.width (a_text _ _ c.in-Some.ensures (sym c.is_text.ensures ∙ c.if-is_text.true)) in
    omega (arith, w, c.num32.ensures.same)

pub returns-then-is_text-clause-first : goal.returns-then-is_text-clause-first
unfolding first_child
returns-then-is_text-clause-first c =
    rw (a_text _ _ c.in-Some.ensures (sym c.is_text.ensures ∙ c.if-is_text.true)) (ap (λ (m : ℕ). c.args.at + 4 + m) c.num32.ensures.same)

pub returns-then-is_text-clause-put : goal.returns-then-is_text-clause-put
returns-then-is_text-clause-put c =
    let b = c.args.image.now in
    let mid = c.args.at + 13 + 2 in
    let stop = c.args.at + 4 + c.num32.result in
    let pos = c.args.out.now.pos in
    let k = a_text _ _ c.in-Some.ensures (sym c.is_text.ensures ∙ c.if-is_text.true) in
    let w = c.requires.whole.width k in
    let two : length (part (c.args.at + 13) mid b) ≡ 2 = part_length b (c.args.at + 13) mid (omega arith)
    (omega (arith, w, c.requires.whole.inside)) ∙ omega arith in
    let all : length (part mid stop b) ≡ stop - mid =
    part_length b mid stop (omega (arith, w, c.num32.ensures.same)) (omega (arith, c.requires.whole.inside, c.num32.ensures.same)) in
    let three : c.copy.new.self.pos ≡ pos + 3 = omega (arith, c.put.ensures.place, c.copy.ensures.place, two) in
    let seven : c.put32.new.self.pos ≡ pos + 7 = omega (arith, c.put32.ensures.place, three) in
    rw (c.copy-then-is_text.ensures.place ∙ ap₂ (λ (x y : ℕ). x + y) seven all)
    (text_payload b _ (λ i. omega (arith, c.type_inv.image i)) c.requires.whole _ _ _ _ _
    _ _ k (ap (λ (m : ℕ). c.args.at + 4 + m) c.num32.ensures.same)
    c.requires.short c.put.ensures.bytes (rw c.put.ensures.place at c.copy.ensures.bytes) (rw three at c.put32.ensures.bytes)
    (rw seven at c.copy-then-is_text.ensures.bytes))

pub bounds-image-first : goal.bounds-image-first
bounds-image-first c =
    payload_byte_inside c.args.image.now _ c.requires.whole (no_text _ _ c.in-Some.ensures (sym c.is_text.ensures ∙ c.if-is_text.false))
    (byte_by _ _ c.in-Some.ensures (sym c.has_byte.ensures ∙ c.if-has_byte.true))

pub returns-then-has_byte-clause-first : goal.returns-then-has_byte-clause-first
unfolding first_child
returns-then-has_byte-clause-first c =
    rw (
      ne_eqb _ _ (no_text _ _ c.in-Some.ensures (sym c.is_text.ensures ∙ c.if-is_text.false)),
      byte_by _ _ c.in-Some.ensures (sym c.has_byte.ensures ∙ c.if-has_byte.true),
    )

pub returns-then-has_byte-clause-put : goal.returns-then-has_byte-clause-put
returns-then-has_byte-clause-put c =
    let two : c.put-then-has_byte-2.new.self.pos ≡ c.args.out.now.pos + 2 =
    omega (arith, c.put-then-has_byte.ensures.place, c.put-then-has_byte-2.ensures.place) in
    rw two (byte_payload c.args.image.now _ (λ i. omega (arith, c.type_inv.image i)) c.requires.whole _ _ _ _
    (no_text _ _ c.in-Some.ensures (sym c.is_text.ensures ∙ c.if-is_text.false))
    (byte_by _ _ c.in-Some.ensures (sym c.has_byte.ensures ∙ c.if-has_byte.true))
    c.put-then-has_byte.ensures.bytes (rw c.put-then-has_byte.ensures.place at c.put-then-has_byte-2.ensures.bytes))

pub returns-clause-first : goal.returns-clause-first
unfolding first_child
returns-clause-first c =
    rw (
      ne_eqb _ _ (no_text _ _ c.in-Some.ensures (sym c.is_text.ensures ∙ c.if-is_text.false)),
      byte_by _ _ c.in-Some.ensures (sym c.has_byte.ensures ∙ c.if-has_byte.false),
    )

pub returns-clause-put : goal.returns-clause-put
returns-clause-put c =
    no_payload c.args.image.now _ (λ i. omega (arith, c.type_inv.image i)) c.requires.whole _ _
    (no_text _ _ c.in-Some.ensures (sym c.is_text.ensures ∙ c.if-is_text.false))
    (byte_by _ _ c.in-Some.ensures (sym c.has_byte.ensures ∙ c.if-has_byte.false))
