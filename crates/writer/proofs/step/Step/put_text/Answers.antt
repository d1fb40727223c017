-- The width's two bytes and the text stand in the list as they stand in the image.
use mathlib.Core.Path.{◌≡◌, sym, ap, ap₂, ◌∙◌}
use Prim.Native.Nat.{ℕ, ◌+◌}
use lib.ListN.{length}
use Rattle.image.specs.Bytes.{part}
use Rattle.image.proofs.Exact.{part_length}
use native.Mathlib.Omega.{arith}
use Rattle.writer.specs.Put.{put_by}
use Rattle.writer.proofs.Seen.{stood, is_standing, not_short, text_not, text_short}
use Rattle.writer.proofs.Runs.{is_held, text_held, text_ill}
use Rattle.writer.proofs.step.Step.put_text.Goals as goal

pub returns-then-not-stands-clause-put : goal.returns-then-not-stands-clause-put
returns-then-not-stands-clause-put c =
    rw c.at.ensures (sym (ap (put_by _ _ _) (text_not _ _ (text_short _ _ (sym c.stands.ensures ∙ c.if-not-stands.true)))))

pub returns-then-steps-text-clause-put : goal.returns-then-steps-text-clause-put
returns-then-steps-text-clause-put c =
    rw c.at-then-steps-text.ensures (sym (ap (put_by _ _ _) (text_not _ _ (not_short _ _ _ _ (omega (
      arith,
      (stood _ _ _ _ (sym c.stands.ensures ∙ c.if-not-stands.false)).0,
      c.num32-n.ensures.same,
      c.if-steps-text.true,
    ))))))

pub returns-then-not-is_text-clause-put : goal.returns-then-not-is_text-clause-put
returns-then-not-is_text-clause-put c =
    rw c.at-then-not-is_text.ensures (sym (ap (put_by _ _ _) (text_ill _ _ _ c.num32-n.ensures.same (is_standing _ _ _ _ (omega (
      arith,
      (stood _ _ _ _ (sym c.stands.ensures ∙ c.if-not-stands.false)).0,
      c.num32-n.ensures.same,
      c.if-steps-text.false,
    )) (stood _ _ _ _ (sym c.stands.ensures ∙ c.if-not-stands.false)).1)
    (sym c.is_text.ensures ∙ c.if-not-is_text.true))))

pub returns-clause-put : goal.returns-clause-put
returns-clause-put c =
    let l = c.args.self.now.steps.now in
    let at = c.args.self.now.at in
    let n = c.num32-n.result in
    let s = stood _ _ _ _ (sym c.stands.ensures ∙ c.if-not-stands.false) in
    let two : length (part (at + 1) (at + 3) l) ≡ 2 = part_length l (at + 1) (at + 3) (omega arith) (omega (arith, s.0)) ∙ omega arith in
    let all : length (part (at + 7) (at + 7 + n) l) ≡ n =
    part_length l (at + 7) (at + 7 + n) (omega arith) (omega (arith, s.0, c.if-steps-text.false)) ∙ omega arith in
    let first : c.copy.new.self.pos ≡ c.args.out.now.pos + 2 = c.copy.ensures.place ∙ ap (λ (m : ℕ). c.args.out.now.pos + m) two in
    let last : c.copy-2.new.self.pos ≡ c.args.out.now.pos + 2 + n =
    c.copy-2.ensures.place ∙ ap₂ (λ (a b : ℕ). a + b) first all in
    rw last (is_held _ _ _ _ _ _ _ (text_held _ _ _ _ c.args.self.now.bytes _ _ _ c.num32-n.ensures.same
    (is_standing _ _ _ _ (omega (arith, s.0, c.num32-n.ensures.same, c.if-steps-text.false)) s.1)
    (sym c.is_text.ensures ∙ c.if-not-is_text.false) c.copy.ensures.bytes (rw first at c.copy-2.ensures.bytes)))
