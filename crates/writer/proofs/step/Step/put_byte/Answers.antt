-- Two tests, and one byte.
use mathlib.Core.Path.{refl, sym, ap, ◌∙◌}
use Rattle.writer.specs.Put.{put_by}
use Rattle.writer.proofs.Seen.{byte_not}
use Rattle.writer.proofs.Runs.{is_held, byte_held, byte_high}
use Rattle.writer.proofs.step.Step.put_byte.Goals as goal

pub returns-then-not-stands-clause-put : goal.returns-then-not-stands-clause-put
returns-then-not-stands-clause-put c =
    rw c.at.ensures (sym (ap (put_by _ _ _) (byte_not _ _ _ (sym c.stands.ensures ∙ c.if-not-stands.true))))

pub returns-then-top-byte-clause-put : goal.returns-then-top-byte-clause-put
returns-then-top-byte-clause-put c =
    rw c.at-then-top-byte.ensures (sym
    (ap (put_by _ _ _) (byte_high _ _ _ _ refl (sym c.stands.ensures ∙ c.if-not-stands.false) c.if-top-byte.true)))

pub returns-clause-put : goal.returns-clause-put
returns-clause-put c =
    rw c.put.ensures.place (is_held _ _ _ _ _ _ _ (byte_held _ _ _ _ _ _ _ refl
    (sym c.stands.ensures ∙ c.if-not-stands.false) c.if-top-byte.false c.put.ensures.bytes))
