-- The parts, one behind the other.
use mathlib.Core.Path.{◌≡◌, sym, ap, ◌∙◌}
use mathlib.Core.List.{List}
use Prim.Native.Nat.{ℕ, ◌-◌, ◌%◌}
use native.Mathlib.Omega.{arith}
use lib.Seq.{sets}
use Rattle.image.specs.Limits.{MAX_COMMENTS}
use Rattle.image.specs.Write.{bytes4, bytes2}
use Rattle.tree.specs.Contents.{pair_bytes}
use Rattle.steps.specs.Writer.{comments_from}
use Rattle.writer.proofs.Imaged.{put_got}
use Rattle.writer.proofs.whole.put_front.Goals as goal

pub returns : goal.returns
returns c cs end reads low =
    let five : c.put32.new.self.pos ≡ 5 = omega (arith, c.put.ensures.place, c.put32.ensures.place) in
    let seven : c.put16.new.self.pos ≡ 7 = omega (arith, c.put16.ensures.place, five) in
    let last = put_got pair_bytes 7 _ (comments_from c.args.steps.now MAX_COMMENTS 0 0) c.put_comments.result _ cs _
    (rw seven at c.put_comments.ensures.put) reads low in
    c.bytes-1.given.1.1 (sym (c.put_comments.ensures.same ∙ c.put16.ensures.name ∙ c.put32.ensures.name ∙ c.put.ensures.name))
    ∙ last
    ∙ ap (λ (u : List ℕ). sets u 7 (pair_bytes cs))
    (rw five at c.put16.ensures.bytes ∙ ap (λ (u : List ℕ). sets u 5 (bytes2 c.args.comments))
    (rw c.put.ensures.place at c.put32.ensures.bytes ∙ ap (λ (u : List ℕ). sets u 1 (bytes4 ((c.args.length - 5) % 4294967296))) c.put.ensures.bytes))
