-- Closing that keeps the comments that wait leaves none, and ends at the source's end: by 7 each comment starts before it.
-- Assumes nothing.
use Prim.Native.Nat.{ℕ, zero, suc, ◌+◌, ◌≤◌, ◌<◌, min}
use mathlib.Core.Path.{◌≡◌, refl}
use mathlib.Core.Bool.{Bool, true, false, cond, ◌&&◌}
use mathlib.Core.List.{List, [], ◌∷◌}
use Rattle.std.specs.Prelude.{Option, None as nothing, Some}
use native.Mathlib.Omega.{arith}
use lib.Dec.{ltb}
use lib.ListN.{length}
use borrow.Author.Tests.{lt-ltb}
use Rattle.text.proofs.Counts.{range_inside}
use Rattle.ast.specs.Syntax.{Span, Ident, Declaration, SyntaxTree}
use Rattle.text.specs.Newlines.{count_newlines, newline_places, is_range}
use Rattle.text.specs.Utf8.{within, boundary}
use Rattle.rows.specs.Node.{join}
use Rattle.acts.specs.Act.{Given, St, Out, Act, next, ◌⨟◌, ◌⨟!◌, when, skip, move_to, pop, step_alone}
use Rattle.comments.specs.Comments.{nth, front, newlines, ignore_newlines, pop_comment, waits, pop_comments, after_comments, pop_whitespace}
use Rattle.tree.specs.CommentList.{comments_of}
use Rattle.comments.specs.Listed.{given, Listed}
use Rattle.comments.proofs.Fronts.{count_of, none_left, inside, good}
use Rattle.layout.specs.Layout.{shebang_rule, declarations_rule}
use Rattle.layout.specs.Closing.{closing, call_rule}
use Rattle.layout_facts.specs.Placing.{Places}
use Rattle.layout_facts.specs.Foot.{AtFoot, ClosingLeavesNone, NewlinesDropped, NewlinesKept}
use Rattle.layout_facts.proofs.Placing.{places_skip}
use Rattle.layout_facts.proofs.InOrder.{places_shebang, places_declarations}
use Rattle.layout_facts.proofs.Gaps.{before_free}

none_past : {A : Type 0} (xs : List A) (k : ℕ) → nth xs k ≡ nothing → length xs ≤ k
unfolding nth
none_past [] k e = omega arith
none_past (x ∷ xs) zero e = let z : ◌≡◌ {A = ℕ} 0 1 = cc in absurd (omega arith)
none_past (x ∷ xs) (suc k) e = omega (arith, none_past xs k e)

-- all comments are placed
record Popped (b : List ℕ) (o : Out) : Type 0 where
  placed : o.placed ≡ length (comments_of b)

module _ {s b : List ℕ} (list : Listed s b) where
  abbrev g : Given
  g = given s b

  starts_before : (k : ℕ) (c : Span) → nth (comments_of b) k ≡ Some c → c.start < length s
  starts_before k c e =
      let w = good list k c e in
      omega (arith, w.order, range_inside s c.start c.end w.range)

  one_placed : (leading : Bool) (c : Span) (z : St) → (pop_comment g leading c z).placed ≡ z.placed + 1
  unfolding pop_comment ◌⨟◌
  one_placed leading c z = (before_free g leading c.start (next z (pop z))).placed

  -- a loop with a turn for each comment that waits
  all_popped : (n : ℕ) (leading : Bool) (z : St) → z.placed ≤ length (comments_of b) → length (comments_of b) ≤ n + z.placed
      → Popped b (pop_comments g n (length s) leading z)
  unfolding pop_comments ◌⨟◌
  all_popped zero leading z h k = record { placed = omega arith }
  all_popped (suc n) leading z h k = turn (front g z) refl (all_popped n true)
    where
      turn : (f : Option Span) → front g z ≡ f
          → ((y : St) → y.placed ≤ length (comments_of b) → length (comments_of b) ≤ n + y.placed
          → Popped b (pop_comments g n (length s) true y))
          → Popped b
          (elim f [
            | nothing ↦ skip z
            | Some c ↦ cond (ltb c.start (length s)) (pop_comment g leading c ⨟ pop_comments g n (length s) true) skip z
          ])
      turn nothing e more = record { placed = omega (arith, none_past (comments_of b) z.placed e) }
      turn (Some c) e more =
          let y = next z (pop_comment g leading c z) in
          let w = more y (omega (arith, one_placed leading c z, inside b z.placed c e, count_of b)) (omega (arith, one_placed leading c z)) in
          rw (lt-ltb c.start (length s) (starts_before z.placed c e)) (record { placed = w.placed })

  -- where none waits
  ignored : (y : St) → front g y ≡ nothing → (ignore_newlines g (length s) y).pos ≡ length s
  unfolding ignore_newlines
  ignored y e = go (front g y) e
    where
      go : (f : Option Span) → f ≡ nothing → (move_to (elim f [ nothing ↦ length s | Some c ↦ min (length s) c.start ]) y).pos ≡ length s
      go nothing e = refl
      go (Some c) e = let z : ◌≡◌ {A = ℕ} 0 1 = cc in absurd (omega arith)

  -- `pop_whitespace` asked for the source's length, with neither newlines after the comments nor newlines alone
  all_waiting : (leading : Bool) (z : St) → z.placed ≤ length (comments_of b)
      → AtFoot s b (step_alone (pop_whitespace g (length s) leading false false) z)
  unfolding pop_whitespace ◌⨟!◌ ◌⨟◌ ignore_newlines
  all_waiting leading z h = last (waits g (length s) z)
    where
      loop : Act
      loop = pop_comments g (length (comments_of b)) (length s) leading

      popped : (loop z).placed ≡ length (comments_of b)
      popped = (all_popped (length (comments_of b)) leading z h (omega arith)).placed

      done : AtFoot s b ((loop ⨟ ignore_newlines g (length s)) z)
      done = record { placed = popped; position = ignored (next z (loop z)) (none_left b (loop z).placed (omega (arith, popped, count_of b))) }

      last : (w : Bool) → AtFoot s b ((loop ⨟ step_alone (after_comments g (w && false) (length s) false)) z)
      last true = done
      last false = done

  closing_places : (t : SyntaxTree) (z : St) → z.placed ≤ length (comments_of b) → AtFoot s b (closing g t true z)
  unfolding ◌⨟◌
  closing_places t z h =
      let w = all_waiting _ z h in
      record { placed = w.placed; position = w.position }

  begun_places : (begins : Bool) (i : Option Ident) → Places g (when begins (shebang_rule g i))
  begun_places true i = places_shebang g i
  begun_places false i = places_skip

  -- a call that closes
  pub call_places : (t : SyntaxTree) (begins : Bool) (ds : List Declaration) (first : Bool) (z : St) → z.placed ≤ length (comments_of b)
      → AtFoot s b (call_rule g t begins ds first true true z)
  unfolding ◌⨟◌
  call_places t begins ds first z h =
      let y = next z (when begins (shebang_rule g t.shebang) z) in
      let x = next y (declarations_rule g ds first y) in
      let i = ((begun_places begins t.shebang).from z h).within in
      let w = closing_places t x ((places_declarations g ds first).from y i).within in
      record { placed = w.placed; position = w.position }

pub closing_leaves_none : ClosingLeavesNone
closing_leaves_none s b list t z h = closing_places list t z h

-- ---- newlines before the first comment
pub newlines_dropped : NewlinesDropped
unfolding ◌⨟◌ ◌⨟!◌ join nth newlines ignore_newlines pop_comment pop_comments pop_whitespace
newlines_dropped = refl

pub newlines_kept : NewlinesKept
unfolding ◌⨟◌ ◌⨟!◌ join nth newlines ignore_newlines pop_comment pop_comments pop_whitespace count_newlines newline_places is_range boundary within
newlines_kept d = refl
