-- So many comments are put, and the others are ahead.
use mathlib.Core.Path.{◌≡◌}
use Prim.Native.Nat.{ℕ, ◌+◌, ◌*◌}
use Rattle.std.specs.Slice.Iter.{chunks_rest, chunks_size}
use Rattle.image.specs.Bytes.{part}
use Rattle.writer.specs.Put.{Same}
use Rattle.writer.proofs.Listed.{Pairs}
use Rattle.writer.proofs.list.list_comments.Given as goal

abbrev pub invariant-loop-pair : goal.invariant-loop-pair
invariant-loop-pair l = record {
  done : ℕ;
  eight : chunks_size l.pair-iterator ≡ 8;
  rest : chunks_rest l.pair-iterator ≡ part (7 + 8 * done) (7 + 8 * l.count) l.image;
  pairs : Pairs l.image l.count l.fn.out.bytes.now done (7 + 8 * done) l.out.pos l.out.bytes.now;
  same : Same l.fn.out l.out;
}
