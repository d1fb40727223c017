-- Parts that may be absent: the length of the record says whether they are there.
-- Assumes nothing.
use mathlib.Core.Path.{◌≡◌, sym, subst, ◌∙◌}
use mathlib.Core.Bool.{Bool}
use mathlib.Core.List.{List}
use Rattle.std.specs.Prelude.{Option, None, Some}
use Prim.Native.Nat.{ℕ, ◌+◌}
use native.Mathlib.Omega.{arith}
use Rattle.image.specs.Bytes.{be32}
use Rattle.image.specs.Read.{stop_at, kind_at}
use Rattle.ast.specs.Syntax.{Idents, TypeExpr, expr, Pattern, underscore, enum_variant, MaybeExpr}
use Rattle.ast.specs.Syntax.{no_expr, some_expr, MaybeBlock, no_block, some_block, Ident}
use Rattle.tree.specs.At.{Ends, IdentAt, Maybe, TypeAt, PatternAt, ExprAt, MaybeExprAt, BlockAt, MaybeBlockAt}
use Rattle.acts.specs.Act.{◌⨟◌, says}
use Rattle.acts.specs.Laid.{Room}
use Rattle.acts.specs.declared.Cursor.{Cursor}
use Rattle.acts.proofs.Laws.{Lays, lays_then, lays_skip, room_first, room_next}
use Rattle.comments.specs.Comments.{pop_trailing_comment}
use Rattle.comments.specs.Listed.{given}
use Rattle.layout.specs.Numbers.{HasKind}
use Rattle.layout.specs.Layout.{ident, type_expr, ident_elems, let_type, maybe_expr, otherwise, last_rule, before_stmt, block_rule, pattern}
use Rattle.layout.specs.Promises.{HasIn}
use Rattle.comments.specs.Record.{Whole, InImage}
use Rattle.acts.specs.declared.words.Word.{Word}
use Rattle.layout.specs.Elems.{IdentElem, HasListIn}
use Rattle.layout.specs.Forms.{expr_with, after_word, maybe_after, last_from, MaybeTypeAt}
use Rattle.layout.proofs.Places.{head_whole, type_whole, expr_whole, block_whole, maybe_list}
use Rattle.layout.proofs.Runs.{list_of, ident_elems_lem, parens}
use Rattle.layout.proofs.Lays.{LaysAs, LaysList}

module _ {s b : List ℕ} {at : ℕ} where
  -- ---- an expression
  pub has_expr : (k : Word) {c : Cursor} → (be32 b at ≡ 0 → ⊥) → HasIn MaybeExprAt (maybe_after k) s b at c → HasIn ExprAt (after_word k 0) s b at c
  unfolding MaybeExprAt maybe_expr
  has_expr k {c} f h = go h.tree h.held h.room
    where
      go : (m : MaybeExpr) → MaybeExprAt s b m at → Room (maybe_after k (given s b) m) c → HasIn ExprAt (after_word k 0) s b at c
      go no_expr a room = absurd (f a.zero)
      go (some_expr e) a room = record { accepted = h.accepted; tree = e; held = a; room = room }

  pub no_maybe : (k : Word) {x : List ℕ} {c : Cursor} → be32 b at ≡ 0 → LaysAs MaybeExprAt (maybe_after k) s b at x c x c
  unfolding MaybeExprAt maybe_expr
  no_maybe k {x} {c} e = record { of = go }
    where
      go : (m : MaybeExpr) → MaybeExprAt s b m at → Lays (maybe_after k (given s b) m) x c x c
      go no_expr a = lays_skip
      go (some_expr i) a = absurd (omega (arith, e, (expr_whole s b at i a).long))

  pub some_maybe : (k : Word) {x y : List ℕ} {c d : Cursor} → (be32 b at ≡ 0 → ⊥) → LaysAs ExprAt (after_word k 0) s b at x c y d
      → LaysAs MaybeExprAt (maybe_after k) s b at x c y d
  unfolding MaybeExprAt maybe_expr
  some_maybe k {x} {y} {c} {d} f l = record { of = go }
    where
      go : (m : MaybeExpr) → MaybeExprAt s b m at → Lays (maybe_after k (given s b) m) x c y d
      go no_expr a = absurd (f a.zero)
      go (some_expr e) a = l.of e a

  -- ---- the last expression of a block
  pub has_last : (first : Bool) {n : ℕ} {c : Cursor} → (be32 b at ≡ 0 → ⊥) → n ≡ be32 b (at + 5) → HasIn MaybeExprAt (last_from first) s b at c
      → HasIn ExprAt (λ g e. before_stmt g first n ⨟ expr_with 0 g e ⨟ pop_trailing_comment g) s b at c
  unfolding MaybeExprAt ExprAt last_rule
  has_last first {n} {c} f q h = go h.tree h.held h.room
    where
      go : (m : MaybeExpr) → MaybeExprAt s b m at → Room (last_from first (given s b) m) c
          → HasIn ExprAt (λ g e. before_stmt g first n ⨟ expr_with 0 g e ⨟ pop_trailing_comment g) s b at c
      go no_expr a room = absurd (f a.zero)
      go (some_expr (expr p i)) a room =
          record {
            accepted = h.accepted;
            tree = expr p i;
            held = a;
            room =
                subst
                (λ (j : ℕ). Room (before_stmt (given s b) first j ⨟ expr_with 0 (given s b) (expr p i) ⨟ pop_trailing_comment (given s b)) c)
                (sym (q ∙ a.0.start)) room;
          }

  pub no_last : (first : Bool) {x : List ℕ} {c : Cursor} → be32 b at ≡ 0 → LaysAs MaybeExprAt (last_from first) s b at x c x c
  unfolding MaybeExprAt last_rule
  no_last first {x} {c} e = record { of = go }
    where
      go : (m : MaybeExpr) → MaybeExprAt s b m at → Lays (last_from first (given s b) m) x c x c
      go no_expr a = lays_skip
      go (some_expr i) a = absurd (omega (arith, e, (expr_whole s b at i a).long))

  pub some_last : (first : Bool) {n : ℕ} {x y z w : List ℕ} {c d e f : Cursor} → (be32 b at ≡ 0 → ⊥) → n ≡ be32 b (at + 5)
      → Lays (before_stmt (given s b) first n) x c y d → LaysAs ExprAt (expr_with 0) s b at y d z e → Lays (pop_trailing_comment (given s b)) z e w f
      → LaysAs MaybeExprAt (last_from first) s b at x c w f
  unfolding MaybeExprAt ExprAt last_rule
  some_last first {n} {x} {y} {z} {w} {c} {d} {e} {f} g q l m t = record { of = go }
    where
      go : (i : MaybeExpr) → MaybeExprAt s b i at → Lays (last_from first (given s b) i) x c w f
      go no_expr a = absurd (g a.zero)
      go (some_expr (expr p i)) a =
          lays_then (subst (λ (j : ℕ). Lays (before_stmt (given s b) first j) x c y d) (q ∙ a.0.start) l) (lays_then (m.of (expr p i) a) t)

  -- ---- the type of a `let`
  pub has_type : {c : Cursor} → (be32 b at ≡ 0 → ⊥) → HasIn MaybeTypeAt let_type s b at c → HasIn TypeAt (λ g t. says ": " ⨟ type_expr g t) s b at c
  unfolding Maybe
  has_type {c} f h = go h.tree h.held h.room
    where
      go : (m : Option TypeExpr) → MaybeTypeAt s b m at → Room (let_type (given s b) m) c → HasIn TypeAt (λ g t. says ": " ⨟ type_expr g t) s b at c
      go None a room = absurd (f a.zero)
      go (Some t) a room = record { accepted = h.accepted; tree = t; held = a; room = room }

  pub no_type : {x : List ℕ} {c : Cursor} → be32 b at ≡ 0 → LaysAs MaybeTypeAt let_type s b at x c x c
  unfolding Maybe
  no_type {x} {c} e = record { of = go }
    where
      go : (m : Option TypeExpr) → MaybeTypeAt s b m at → Lays (let_type (given s b) m) x c x c
      go None a = lays_skip
      go (Some t) a = absurd (omega (arith, e, (type_whole s b at t a).long))

  pub some_type : {x y z : List ℕ} {c d e : Cursor} → (be32 b at ≡ 0 → ⊥) → Lays (says ": ") x c y d → LaysAs TypeAt type_expr s b at y d z e
      → LaysAs MaybeTypeAt let_type s b at x c z e
  unfolding Maybe
  some_type {x} {y} {z} {c} {d} {e} f w l = record { of = go }
    where
      go : (m : Option TypeExpr) → MaybeTypeAt s b m at → Lays (let_type (given s b) m) x c z e
      go None a = absurd (f a.zero)
      go (Some t) a = lays_then w (l.of t a)

  -- ---- the block of an `else`
  pub has_block : {c : Cursor} → (be32 b at ≡ 0 → ⊥) → HasIn MaybeBlockAt otherwise s b at c → HasIn BlockAt (λ g k. says " else " ⨟ block_rule g k) s b at c
  unfolding MaybeBlockAt otherwise
  has_block {c} f h = go h.tree h.held h.room
    where
      go : (m : MaybeBlock) → MaybeBlockAt s b m at → Room (otherwise (given s b) m) c → HasIn BlockAt (λ g k. says " else " ⨟ block_rule g k) s b at c
      go no_block a room = absurd (f a.zero)
      go (some_block k) a room = record { accepted = h.accepted; tree = k; held = a; room = room }

  pub no_else : {x : List ℕ} {c : Cursor} → be32 b at ≡ 0 → LaysAs MaybeBlockAt otherwise s b at x c x c
  unfolding MaybeBlockAt otherwise
  no_else {x} {c} e = record { of = go }
    where
      go : (m : MaybeBlock) → MaybeBlockAt s b m at → Lays (otherwise (given s b) m) x c x c
      go no_block a = lays_skip
      go (some_block k) a = absurd (omega (arith, e, (block_whole s b at k a).long))

  pub some_else : {x y z : List ℕ} {c d e : Cursor} → (be32 b at ≡ 0 → ⊥) → Lays (says " else ") x c y d → LaysAs BlockAt block_rule s b at y d z e
      → LaysAs MaybeBlockAt otherwise s b at x c z e
  unfolding MaybeBlockAt otherwise
  some_else {x} {y} {z} {c} {d} {e} f w l = record { of = go }
    where
      go : (m : MaybeBlock) → MaybeBlockAt s b m at → Lays (otherwise (given s b) m) x c z e
      go no_block a = absurd (f a.zero)
      go (some_block k) a = lays_then w (l.of k a)

-- ---- patterns
pub record PatternParts (s b : List ℕ) (at : ℕ) (c : Cursor) : Type 0 where
  pub whole : Whole b at
  pub name : HasIn IdentAt ident s b (at + 13) c
  pub fields : InImage b (stop_at b (at + 13))
  pub ends : Ends s b (stop_at b (at + 13)) at

module _ {s b : List ℕ} {at : ℕ} where
  pub any_room : {c : Cursor} → kind_at b at ≡ 82 → HasIn PatternAt pattern s b at c → Room (says "_") c
  unfolding PatternAt pattern
  any_room {c} e h = go h.tree h.held h.room
    where
      go : (p : Pattern) → PatternAt s b p at → Room (pattern (given s b) p) c → Room (says "_") c
      go underscore a room = room
      go (enum_variant i None) a room = absurd (omega (arith, e, a.0.head.kinds))
      go (enum_variant i (Some is)) a room = absurd (omega (arith, e, a.0.head.kinds))

  pub pattern_parts : {c : Cursor} → (kind_at b at ≡ 82 → ⊥) → HasIn PatternAt pattern s b at c → PatternParts s b at c
  unfolding PatternAt pattern
  pattern_parts {c} f h = go h.tree h.held h.room
    where
      parts : (i : Ident) (is : Option Idents) → PatternAt s b (enum_variant i is) at → Room (ident (given s b) i) c → PatternParts s b at c
      parts i is a room =
          record {
            whole = head_whole a.0.head;
            name = record { accepted = h.accepted; tree = i; held = a.1; room = room };
            fields = maybe_list s b (stop_at b (at + 13)) is a.2;
            ends = a.3;
          }

      go : (p : Pattern) → PatternAt s b p at → Room (pattern (given s b) p) c → PatternParts s b at c
      go underscore a room = absurd (f a.0.head.kinds)
      go (enum_variant i None) a room = parts i None a room
      go (enum_variant i (Some is)) a room = parts i (Some is) a (room_first _ room)

  pub fields_whole : {c : Cursor} → (kind_at b at ≡ 82 → ⊥) → (be32 b (stop_at b (at + 13)) ≡ 0 → ⊥) → HasIn PatternAt pattern s b at c
      → Whole b (stop_at b (at + 13))
  unfolding PatternAt Maybe
  fields_whole f g h = go h.tree h.held
    where
      go : (p : Pattern) → PatternAt s b p at → Whole b (stop_at b (at + 13))
      go underscore a = absurd (f a.0.head.kinds)
      go (enum_variant i None) a = absurd (g a.2.zero)
      go (enum_variant i (Some is)) a = head_whole a.2.head

  pub fields_list : {x y : List ℕ} {c d : Cursor} → (kind_at b at ≡ 82 → ⊥) → (be32 b (stop_at b (at + 13)) ≡ 0 → ⊥)
      → LaysAs IdentAt ident s b (at + 13) x c y d → HasIn PatternAt pattern s b at c
      → HasListIn IdentElem parens (be32 b (stop_at b (at + 13) + 9)) s b (stop_at b (at + 13)) d
  unfolding PatternAt Maybe pattern
  fields_list {c = c} {d = d} f g l h = go h.tree h.held h.room
    where
      go : (p : Pattern) → PatternAt s b p at → Room (pattern (given s b) p) c
          → HasListIn IdentElem parens (be32 b (stop_at b (at + 13) + 9)) s b (stop_at b (at + 13)) d
      go underscore a room = absurd (f a.0.head.kinds)
      go (enum_variant i None) a room = absurd (g a.2.zero)
      go (enum_variant i (Some is)) a room =
          record {
            accepted = h.accepted;
            tree = ident_elems (given s b) is.elems;
            held =
                list_of a.2.head
                (ident_elems_lem s b (stop_at b (stop_at b (at + 13))) (stop_at b (at + 13) + 13) is.elems a.2.elems);
            span = is.span;
            ended = a.2.head.end;
            room = room_next room (l.of i a.1);
          }

  pub any_pattern : {x y : List ℕ} {c d : Cursor} → kind_at b at ≡ 82 → Lays (says "_") x c y d → LaysAs PatternAt pattern s b at x c y d
  unfolding PatternAt pattern
  any_pattern {x} {y} {c} {d} e l = record { of = go }
    where
      go : (p : Pattern) → PatternAt s b p at → Lays (pattern (given s b) p) x c y d
      go underscore a = l
      go (enum_variant i None) a = absurd (omega (arith, e, a.0.head.kinds))
      go (enum_variant i (Some is)) a = absurd (omega (arith, e, a.0.head.kinds))

  pub bare_pattern : {x y : List ℕ} {c d : Cursor} → (kind_at b at ≡ 82 → ⊥) → be32 b (stop_at b (at + 13)) ≡ 0
      → LaysAs IdentAt ident s b (at + 13) x c y d → LaysAs PatternAt pattern s b at x c y d
  unfolding PatternAt Maybe pattern
  bare_pattern {x} {y} {c} {d} f e l = record { of = go }
    where
      go : (p : Pattern) → PatternAt s b p at → Lays (pattern (given s b) p) x c y d
      go underscore a = absurd (f a.0.head.kinds)
      go (enum_variant i None) a = l.of i a.1
      go (enum_variant i (Some is)) a = absurd (omega (arith, e, a.2.head.long))

  pub full_pattern : {x y z : List ℕ} {c d e : Cursor} → (kind_at b at ≡ 82 → ⊥) → (be32 b (stop_at b (at + 13)) ≡ 0 → ⊥)
      → LaysAs IdentAt ident s b (at + 13) x c y d
      → LaysList IdentElem parens (be32 b (stop_at b (at + 13) + 9)) s b (stop_at b (at + 13)) y d z e
      → LaysAs PatternAt pattern s b at x c z e
  unfolding PatternAt Maybe pattern
  full_pattern {x} {y} {z} {c} {d} {e} f g l m = record { of = go }
    where
      go : (p : Pattern) → PatternAt s b p at → Lays (pattern (given s b) p) x c z e
      go underscore a = absurd (f a.0.head.kinds)
      go (enum_variant i None) a = absurd (g a.2.zero)
      go (enum_variant i (Some is)) a =
          lays_then (l.of i a.1)
          (m.of (ident_elems (given s b) is.elems)
          (list_of a.2.head (ident_elems_lem s b (stop_at b (stop_at b (at + 13))) (stop_at b (at + 13) + 13) is.elems a.2.elems))
          is.span a.2.head.end)

pub pattern_has_kind : (s b : List ℕ) (at : ℕ) (p : Pattern) → PatternAt s b p at → HasKind 82 83 b at
unfolding PatternAt
pattern_has_kind s b at underscore a =
    record { whole = head_whole a.0.head; least = omega (arith, a.0.head.kinds); most = omega (arith, a.0.head.kinds) }
pattern_has_kind s b at (enum_variant i is) a =
    record { whole = head_whole a.0.head; least = omega (arith, a.0.head.kinds); most = omega (arith, a.0.head.kinds) }
