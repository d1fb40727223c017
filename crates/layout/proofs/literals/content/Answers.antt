use mathlib.Core.Path.{◌≡◌}
use mathlib.Core.Bool.{true, ◌&&◌}
use mathlib.Core.List.{List}
use Prim.Native.Nat.{ℕ, ◌≤◌}
use lib.Dec.{leb}
use borrow.Author.Tests.{leb-true}
use Rattle.text.specs.Newlines.{is_range}
use Rattle.text.specs.Utf8.{boundary}
use Rattle.laws.proofs.Booleans.{and_left}
use native.Mathlib.Omega.{arith}
use Rattle.acts.proofs.Laws.{lays}
use Rattle.layout.proofs.Lays.{laid_as}
use Rattle.layout.proofs.literals.content.Goals as goal

range_order : (s : List ℕ) (m n : ℕ) → is_range s m n ≡ true → m ≤ n
unfolding is_range
range_order s m n e = leb-true m n (and_left (leb m n) (boundary s m) (and_left (leb m n && boundary s m) (boundary s n) e))

pub overflow_sub-size : goal.overflow_sub-size
overflow_sub-size c =
    let o = range_order _ _ _ c.requires.held.1.range in
    omega (arith, o, c.start-from.ensures, c.end-to.ensures, c.requires.held.1.start, c.requires.held.1.end)

pub push-requires : goal.push-requires
push-requires c =
    record {
      room = rw (c.start-from.ensures, c.end-to.ensures, c.requires.held.1.start, c.requires.held.1.end) c.requires.room;
      small = omega arith;
    }

pub returns : goal.returns
returns c =
    laid_as (cc) (record {
      of = λ p h. rw (← h.1.start, ← h.1.end, ← c.start-from.ensures, ← c.end-to.ensures) (lays c.push.ensures.laid);
    })
