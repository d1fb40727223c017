-- Laws of blocks, statements and the parts of f-strings.
-- Assumes nothing.
use mathlib.Core.Path.{◌≡◌, refl, sym, ap, subst, ◌∙◌}
use mathlib.Core.Bool.{Bool, true, false, not, ◌&&◌, ◌||◌}
use mathlib.Core.List.{List}
use Prim.Native.Nat.{ℕ, ◌+◌, ◌≤◌, ◌<◌}
use native.Mathlib.Omega.{arith}
use lib.ListN.{length}
use lib.Dec.{eqb, leb}
use borrow.Author.Tests.{eq-eqb, ne_eqb}
use Rattle.image.specs.Bytes.{be32}
use Rattle.image.specs.Read.{stop_at, kind_at}
use Rattle.ast.specs.Syntax.{Span, Import, Expr, expr, MaybeExpr, no_expr, some_expr, Block, braces, Stmts, no_stmts, ◌∷ˢ◌, Stmt, stmt}
use Rattle.ast.specs.Syntax.{let', import_stmt, does, Parts, no_parts, string, value, Form, return', literal, block, match', function_call}
use Rattle.ast.specs.Syntax.{access, path, record'}
use Rattle.ast.specs.Syntax.{typed_record, list, not', assign, compound_assign, bin_op, negate, if_else, while, for, question_mark, f_string, parentheses}
use Rattle.tree.specs.FormKinds.{form_kind}
use Rattle.tree.specs.At.{Ends, ImportAt, ExprAt, MaybeExprAt, BlockAt, StmtsAt, StmtAt, PartsAt}
use Rattle.rows.specs.Node.{line}
use Rattle.acts.specs.Act.{Act, ◌⨟◌, push, says, grouped, indented, when, Given}
use Rattle.acts.specs.Laid.{Room}
use Rattle.acts.specs.Does.{Opens, Marks}
use Rattle.acts.specs.declared.State.{State}
use Rattle.acts.specs.declared.parts.Branch.TheVariants.{Group, Indent}
use Rattle.acts.proofs.Closes.{closes_group, closes_indent}
use Rattle.acts.specs.declared.Cursor.{Cursor}
use Rattle.acts.proofs.Laws.{Lays, lays_then, lays_skip, room_first, room_next}
use Rattle.comments.specs.Listed.{given}
use Rattle.comments.specs.AllIn.{AllIn}
use Rattle.comments.proofs.Offsets.{in_first, in_none}
use Rattle.layout.specs.Layout.{import_path, is_braced, none_of, is_empty, gap, stmts_rule, stmt_rule}
use Rattle.layout.specs.Layout.{before_stmt, after_stmt, block_start, block_rule, parts_rule, placeholder}
use Rattle.layout.specs.Promises.{HasIn, HasAllIn, Readable}
use Rattle.comments.specs.Record.{Whole}
use Rattle.layout.specs.Numbers.{HasKind}
use Rattle.layout.specs.Forms.{expr_with, stmts_from, last_from, LetAt, let_rule, SpanAt, content_rule, Part, text, PartAt, part_rule}
use Rattle.layout.specs.Forms as forms
use Rattle.layout.proofs.Places.{head_whole, expr_whole, stmt_whole}
use Rattle.layout.proofs.ExprForms.{kind_of}
use Rattle.layout.proofs.Lays.{LaysAll, LaysAs}

-- ---- a block by its parts
abbrev pub BlockPartsAt : List ℕ → List ℕ → Span × Stmts × MaybeExpr → ℕ → Type 0
BlockPartsAt s b x at =
    Whole b at
    × Whole b (at + 13)
    × StmtsAt s b x.1 (at + 13 + 13) (stop_at b (at + 13))
    × MaybeExprAt s b x.2 (stop_at b (at + 13))
    × Ends s b (stop_at b (at + 13)) at

pub record BlockStands (s b : List ℕ) (at : ℕ) : Type 0 where
  pub tree : Span × Stmts × MaybeExpr
  pub held : BlockPartsAt s b tree at

module _ (s b : List ℕ) where
  no_stmts_lem : (from to : ℕ) (ss : Stmts) → StmtsAt s b ss from to → eqb to from ≡ none_of ss
  unfolding StmtsAt
  no_stmts_lem from to no_stmts a = eq-eqb to from (sym a.same)
  no_stmts_lem from to (x ∷ˢ ss) a = ne_eqb to from (λ e. omega (arith, e, a.1.least, (stmt_whole s b from x a.0).long))

  no_expr_lem : (at : ℕ) (ss : Stmts) (m : MaybeExpr) → MaybeExprAt s b m at → none_of ss && eqb (be32 b at) 0 ≡ is_empty ss m
  unfolding MaybeExprAt
  no_expr_lem at no_stmts no_expr a = eq-eqb (be32 b at) 0 a.zero
  no_expr_lem at (x ∷ˢ ss) no_expr a = refl
  no_expr_lem at no_stmts (some_expr e) a = ne_eqb (be32 b at) 0 (λ q. omega (arith, q, (expr_whole s b at e a).long))
  no_expr_lem at (x ∷ˢ ss) (some_expr e) a = refl

-- what the tests of a block say
abbrev pub NoStmts : List ℕ → ℕ → Bool
NoStmts b at = eqb (stop_at b (at + 13)) (at + 13 + 13)

abbrev pub NoParts : List ℕ → ℕ → Bool
NoParts b at = eqb (stop_at b (at + 13)) (at + 13 + 13) && eqb (be32 b (stop_at b (at + 13))) 0

-- what stands between the braces of a block
abbrev pub body_rule : Given → Block → Act
body_rule g (braces s ss last) =
    indented (stmts_from true g ss ⨟ last_from (none_of ss) g last ⨟ gap g s.end (not (is_empty ss last)) false false)

-- the steps of a block and of what stands between its braces, by the answers of these tests and where the span ends
abbrev pub block_steps : Bool → Given → Block → Act
block_steps empty g k = grouped (λ id. block_start empty ⨟ body_rule g k ⨟ push line ⨟ says "}")

abbrev pub body_steps : Bool → Bool → ℕ → Given → Span × Stmts × MaybeExpr → Act
body_steps none empty n g x = indented (stmts_from true g x.1 ⨟ last_from none g x.2 ⨟ gap g n (not empty) false false)

module _ (s b : List ℕ) (at : ℕ) where
  none_same : (ss : Stmts) → StmtsAt s b ss (at + 13 + 13) (stop_at b (at + 13)) → NoStmts b at ≡ none_of ss
  none_same ss a = no_stmts_lem s b (at + 13 + 13) (stop_at b (at + 13)) ss a

  empty_same : (ss : Stmts) (last : MaybeExpr) → StmtsAt s b ss (at + 13 + 13) (stop_at b (at + 13)) → MaybeExprAt s b last (stop_at b (at + 13))
      → NoParts b at ≡ is_empty ss last
  empty_same ss last a e =
      ap (λ (t : Bool). t && eqb (be32 b (stop_at b (at + 13))) 0) (none_same ss a) ∙ no_expr_lem s b (stop_at b (at + 13)) ss last e

  -- the parts alone
  pub block_parts : (k : Block) → BlockAt s b k at → BlockStands s b at
  unfolding BlockAt
  block_parts (braces p ss last) a =
      record { tree = (p, ss, last); held = (head_whole a.0, head_whole a.1.head, a.2, a.3, a.4) }

-- the steps of a block, with its parts
module _ {s b : List ℕ} {at : ℕ} where
  pub block_has : {empty : Bool} {c : Cursor} → empty ≡ NoParts b at → HasIn BlockAt block_rule s b at c → HasIn BlockAt (block_steps empty) s b at c
  unfolding BlockAt block_rule
  block_has {empty} {c} r h = go h.tree h.held h.room
    where
      go : (k : Block) → BlockAt s b k at → Room (block_rule (given s b) k) c → HasIn BlockAt (block_steps empty) s b at c
      go (braces p ss last) a room =
          record {
            accepted = h.accepted;
            tree = braces p ss last;
            held = a;
            room =
                subst (λ (t : Bool). Room (block_steps t (given s b) (braces p ss last)) c)
                (sym (r ∙ empty_same s b at ss last a.2 a.3)) room;
          }

  pub body_has : {none empty : Bool} {n : ℕ} {c : Cursor} → none ≡ NoStmts b at → empty ≡ NoParts b at → n ≡ be32 b (at + 9)
      → HasIn BlockAt body_rule s b at c → HasIn BlockPartsAt (body_steps none empty n) s b at c
  unfolding BlockAt
  body_has {none} {empty} {n} {c} q r i h = go h.tree h.held h.room
    where
      go : (k : Block) → BlockAt s b k at → Room (body_rule (given s b) k) c → HasIn BlockPartsAt (body_steps none empty n) s b at c
      go (braces p ss last) a room =
          record {
            accepted = h.accepted;
            tree = (p, ss, last);
            held = (head_whole a.0, head_whole a.1.head, a.2, a.3, a.4);
            room =
                subst (λ (t : Bool). Room (body_steps t empty n (given s b) (p, ss, last)) c) (sym (q ∙ none_same s b at ss a.2))
                (subst (λ (t : Bool). Room (body_steps (none_of ss) t n (given s b) (p, ss, last)) c) (sym (r ∙ empty_same s b at ss last a.2 a.3))
                (subst (λ (j : ℕ). Room (body_steps (none_of ss) (is_empty ss last) j (given s b) (p, ss, last)) c) (sym (i ∙ a.0.end)) room));
          }

  pub body_laid : {none empty : Bool} {n : ℕ} {r : ℕ} {x x₁ x₄ x₅ : State} {x₂ x₃ : List ℕ} {c₂ c₃ : Cursor} → none ≡ NoStmts b at → empty ≡ NoParts b at
      → n ≡ be32 b (at + 9) → Opens Indent x x₁ r
      → LaysAll StmtsAt (stmts_from true) s b (at + 13 + 13) (stop_at b (at + 13)) x₁.store.now x₁.cursor x₂ c₂
      → LaysAs MaybeExprAt (last_from none) s b (stop_at b (at + 13)) x₂ c₂ x₃ c₃
      → Lays (gap (given s b) n (not empty) false false) x₃ c₃ x₄.store.now x₄.cursor
      → Marks 4 r x₄.cursor.row x₄ x₅ → LaysAs BlockAt body_rule s b at x.store.now x.cursor x₅.store.now x₅.cursor
  unfolding BlockAt
  body_laid {none} {empty} {n} {r} {x} {x₁} {x₄} {x₅} {x₂} {x₃} {c₂} {c₃} q e i o l m g z = record { of = go }
    where
      go : (k : Block) → BlockAt s b k at → Lays (body_rule (given s b) k) x.store.now x.cursor x₅.store.now x₅.cursor
      go (braces p ss last) a =
          let none' : none ≡ none_of ss = q ∙ none_same s b at ss a.2 in
          let empty' : empty ≡ is_empty ss last = e ∙ empty_same s b at ss last a.2 a.3 in
          let g' : Lays (gap (given s b) p.end (not (is_empty ss last)) false false) x₃ c₃ x₄.store.now x₄.cursor =
          subst (λ (t : Bool). Lays (gap (given s b) p.end (not t) false false) x₃ c₃ x₄.store.now x₄.cursor) empty'
          (subst (λ (j : ℕ). Lays (gap (given s b) j (not empty) false false) x₃ c₃ x₄.store.now x₄.cursor) (i ∙ a.0.end) g) in
          let m' : Lays (last_from (none_of ss) (given s b) last) x₂ c₂ x₃ c₃ =
          subst (λ (t : Bool). Lays (last_from t (given s b) last) x₂ c₂ x₃ c₃) none' (m.of last a.3) in
          closes_indent o (lays_then (l.of ss a.2) (lays_then m' g')) z

  pub block_laid : {empty : Bool} {r : ℕ} {x x₁ x₅ x₆ : State} {x₂ x₃ x₄ : List ℕ} {c₂ c₃ c₄ : Cursor} → empty ≡ NoParts b at → Opens Group x x₁ r
      → Lays (block_start empty) x₁.store.now x₁.cursor x₂ c₂ → LaysAs BlockAt body_rule s b at x₂ c₂ x₃ c₃ → Lays (push line) x₃ c₃ x₄ c₄
      → Lays (says "}") x₄ c₄ x₅.store.now x₅.cursor
      → Marks 4 r x₅.cursor.row x₅ x₆ → LaysAs BlockAt block_rule s b at x.store.now x.cursor x₆.store.now x₆.cursor
  unfolding BlockAt block_rule
  block_laid {empty} {r} {x} {x₁} {x₅} {x₆} {x₂} {x₃} {x₄} {c₂} {c₃} {c₄} e o l m n w z = record { of = go }
    where
      go : (k : Block) → BlockAt s b k at → Lays (block_rule (given s b) k) x.store.now x.cursor x₆.store.now x₆.cursor
      go (braces p ss last) a =
          let empty' : empty ≡ is_empty ss last = e ∙ empty_same s b at ss last a.2 a.3 in
          let l' : Lays (block_start (is_empty ss last)) x₁.store.now x₁.cursor x₂ c₂ =
          subst (λ (t : Bool). Lays (block_start t) x₁.store.now x₁.cursor x₂ c₂) empty' l in
          closes_group _ o (lays_then l' (lays_then (m.of (braces p ss last) a) (lays_then n w))) z

-- ---- statements one after the other
pub record MoreStmts (first : Bool) (s b : List ℕ) (p to : ℕ) (c : Cursor) : Type 0 where
  pub accepted : Readable b
  pub stmt : Stmt
  pub held : StmtAt s b stmt p
  pub whole : Whole b p
  pub least : stop_at b p ≤ to
  pub inside : to ≤ length b
  pub rest : Stmts
  pub rest_held : StmtsAt s b rest (stop_at b p) to
  pub room :
      Room
      (before_stmt (given s b) first (be32 b (p + 5))
      ⨟ stmt_rule (given s b) stmt
      ⨟ after_stmt (given s b) (be32 b (p + 9))
      ⨟ stmts_from false (given s b) rest)
      c

module _ (first : Bool) {s b : List ℕ} {p to : ℕ} {c : Cursor} where
  pub stmts_first : p < to → HasAllIn StmtsAt (stmts_from first) s b p to c → MoreStmts first s b p to c
  unfolding StmtsAt StmtAt stmts_rule
  stmts_first lt h = go h.tree h.held h.room
    where
      go : (ss : Stmts) → StmtsAt s b ss p to → Room (stmts_from first (given s b) ss) c → MoreStmts first s b p to c
      go no_stmts a room = absurd (omega (arith, a.same))
      go (stmt q f ∷ˢ ss) a room =
          let steps : ℕ → ℕ → Act =
          λ i j.
          before_stmt (given s b) first i
          ⨟ stmt_rule (given s b) (stmt q f)
          ⨟ after_stmt (given s b) j
          ⨟ stmts_from false (given s b) ss in
          record {
            accepted = h.accepted;
            stmt = stmt q f;
            held = a.0;
            whole = stmt_whole s b p (stmt q f) a.0;
            least = a.1.least;
            inside = h.inside;
            rest = ss;
            rest_held = a.2;
            room =
                subst (λ (i : ℕ). Room (steps i (be32 b (p + 9))) c) (sym a.0.0.start)
                (subst (λ (j : ℕ). Room (steps q.start j) c) (sym a.0.0.end) room);
          }

  module _ {i : ℕ} (m : MoreStmts first s b p to c) (u : i ≡ be32 b (p + 5)) where
    begun : Room
        (before_stmt (given s b) first i
        ⨟ stmt_rule (given s b) m.stmt
        ⨟ after_stmt (given s b) (be32 b (p + 9))
        ⨟ stmts_from false (given s b) m.rest)
        c
    begun = rw u m.room

    pub before_stmt_room : Room (before_stmt (given s b) first i) c
    before_stmt_room = room_first _ begun

    pub stmt_has : {x y : List ℕ} {d : Cursor} → Lays (before_stmt (given s b) first i) x c y d → HasIn StmtAt stmt_rule s b p d
    stmt_has l = record { accepted = m.accepted; tree = m.stmt; held = m.held; room = room_first _ (room_next begun l) }

    module _ {j : ℕ} (v : j ≡ be32 b (p + 9)) {x y z : List ℕ} {d e : Cursor} (l : Lays (before_stmt (given s b) first i) x c y d)
        (k : LaysAs StmtAt stmt_rule s b p y d z e) where
      done : Room (after_stmt (given s b) j ⨟ stmts_from false (given s b) m.rest) e
      done = rw v (room_next (room_next begun l) (k.of m.stmt m.held))

      pub after_stmt_room : Room (after_stmt (given s b) j) e
      after_stmt_room = room_first _ done

      pub stmts_rest : {w : List ℕ} {f : Cursor} → Lays (after_stmt (given s b) j) z e w f → HasAllIn StmtsAt (stmts_from false) s b (stop_at b p) to f
      stmts_rest n =
          record { accepted = m.accepted; tree = m.rest; held = m.rest_held; inside = m.inside; room = room_next done n }

module _ {s b : List ℕ} {p to : ℕ} where
  pub stmts_none : (first : Bool) {x : List ℕ} {c : Cursor} → to ≤ p → LaysAll StmtsAt (stmts_from first) s b p to x c x c
  unfolding StmtsAt stmts_rule
  stmts_none first {x} {c} le = record { of = go }
    where
      go : (ss : Stmts) → StmtsAt s b ss p to → Lays (stmts_from first (given s b) ss) x c x c
      go no_stmts a = lays_skip
      go (i ∷ˢ ss) a = absurd (omega (arith, a.1.least, (stmt_whole s b p i a.0).long))

  pub stmts_more : (first : Bool) {m n : ℕ} {x y z w v : List ℕ} {c d e f g : Cursor} → p < to → m ≡ be32 b (p + 5) → n ≡ be32 b (p + 9)
      → Lays (before_stmt (given s b) first m) x c y d → LaysAs StmtAt stmt_rule s b p y d z e → Lays (after_stmt (given s b) n) z e w f
      → LaysAll StmtsAt (stmts_from false) s b (stop_at b p) to w f v g → LaysAll StmtsAt (stmts_from first) s b p to x c v g
  unfolding StmtsAt StmtAt stmts_rule
  stmts_more first {m} {n} {x} {y} {z} {w} {v} {c} {d} {e} {f} {g} lt i j l t k r = record { of = go }
    where
      go : (ss : Stmts) → StmtsAt s b ss p to → Lays (stmts_from first (given s b) ss) x c v g
      go no_stmts a = absurd (omega (arith, a.same))
      go (stmt q h ∷ˢ ss) a =
          lays_then (subst (λ (u : ℕ). Lays (before_stmt (given s b) first u) x c y d) (i ∙ a.0.0.start) l)
          (lays_then (t.of (stmt q h) a.0)
          (lays_then (subst (λ (u : ℕ). Lays (after_stmt (given s b) u) z e w f) (j ∙ a.0.0.end) k) (r.of ss a.2)))

-- ---- a statement by its kind
abbrev pub ImportStmtAt : List ℕ → List ℕ → Span × Import → ℕ → Type 0
ImportStmtAt s b x at = StmtAt s b (stmt x.0 (import_stmt x.1)) at

abbrev pub DoesAt : List ℕ → List ℕ → Span × Expr → ℕ → Type 0
DoesAt s b x at = StmtAt s b (stmt x.0 (does x.1)) at

module _ {s b : List ℕ} {at : ℕ} where
  pub let_has : {c : Cursor} → kind_at b at ≡ 30 → HasIn StmtAt stmt_rule s b at c → HasIn LetAt let_rule s b at c
  unfolding StmtAt stmt_rule
  let_has {c} e h = go h.tree h.held h.room
    where
      go : (x : Stmt) → StmtAt s b x at → Room (stmt_rule (given s b) x) c → HasIn LetAt let_rule s b at c
      go (stmt p (let' i t v)) a room = record { accepted = h.accepted; tree = (p, i, t, v); held = a; room = room }
      go (stmt p (import_stmt i)) a room = absurd (omega (arith, e, a.0.kinds))
      go (stmt p (does v)) a room = absurd (omega (arith, e, a.0.kinds))

  pub import_has : {c : Cursor} → kind_at b at ≡ 31 → HasIn StmtAt stmt_rule s b at c
      → HasIn ImportStmtAt (λ g x. says "import " ⨟ import_path g x.1 ⨟ says ";") s b at c
  unfolding StmtAt stmt_rule
  import_has {c} e h = go h.tree h.held h.room
    where
      go : (x : Stmt) → StmtAt s b x at → Room (stmt_rule (given s b) x) c
          → HasIn ImportStmtAt (λ g x. says "import " ⨟ import_path g x.1 ⨟ says ";") s b at c
      go (stmt p (let' i t v)) a room = absurd (omega (arith, e, a.0.kinds))
      go (stmt p (import_stmt i)) a room = record { accepted = h.accepted; tree = (p, i); held = a; room = room }
      go (stmt p (does v)) a room = absurd (omega (arith, e, a.0.kinds))

  pub let_laid : {x y : List ℕ} {c d : Cursor} → kind_at b at ≡ 30 → LaysAs LetAt let_rule s b at x c y d → LaysAs StmtAt stmt_rule s b at x c y d
  unfolding StmtAt stmt_rule
  let_laid {x} {y} {c} {d} e l = record { of = go }
    where
      go : (z : Stmt) → StmtAt s b z at → Lays (stmt_rule (given s b) z) x c y d
      go (stmt p (let' i t v)) a = l.of (p, i, t, v) a
      go (stmt p (import_stmt i)) a = absurd (omega (arith, e, a.0.kinds))
      go (stmt p (does v)) a = absurd (omega (arith, e, a.0.kinds))

  pub import_stmt_lem : {x x₁ x₂ x₃ : List ℕ} {c c₁ c₂ c₃ : Cursor} → kind_at b at ≡ 31 → Lays (says "import ") x c x₁ c₁
      → LaysAs ImportAt import_path s b (at + 13) x₁ c₁ x₂ c₂ → Lays (says ";") x₂ c₂ x₃ c₃ → LaysAs StmtAt stmt_rule s b at x c x₃ c₃
  unfolding StmtAt stmt_rule
  import_stmt_lem {x} {x₁} {x₂} {x₃} {c} {c₁} {c₂} {c₃} e l m n = record { of = go }
    where
      go : (z : Stmt) → StmtAt s b z at → Lays (stmt_rule (given s b) z) x c x₃ c₃
      go (stmt p (let' i t v)) a = absurd (omega (arith, e, a.0.kinds))
      go (stmt p (import_stmt i)) a = lays_then l (lays_then (m.of i a.1.0) n)
      go (stmt p (does v)) a = absurd (omega (arith, e, a.0.kinds))

-- the test for the semicolon
abbrev pub Braced : List ℕ → ℕ → Bool
Braced b at = eqb (kind_at b at) 52 || eqb (kind_at b at) 53 || (leb 65 (kind_at b at) && leb (kind_at b at) 67)

-- by the kind's number as by its name
by_name : (p : Span) (f : Form) → (eqb (form_kind f) 52 || eqb (form_kind f) 53 || (leb 65 (form_kind f) && leb (form_kind f) 67)) ≡ is_braced (expr p f)
by_name q (return' k e) = refl
by_name q (literal s w) = refl
by_name q (block b) = refl
by_name q (match' e s a) = refl
by_name q (function_call e s es) = refl
by_name q (access e i) = refl
by_name q (path p) = refl
by_name q (record' s es) = refl
by_name q (typed_record p s es) = refl
by_name q (list es) = refl
by_name q (not' e) = refl
by_name q (assign p e) = refl
by_name q (compound_assign p o e) = refl
by_name q (bin_op l s o r) = refl
by_name q (negate e) = refl
by_name q (if_else c b e) = refl
by_name q (while c b) = refl
by_name q (for i e b) = refl
by_name q (question_mark e) = refl
by_name q (f_string ps) = refl
by_name q (parentheses e) = refl

is_braced_lem : (s b : List ℕ) (at : ℕ) (e : Expr) → ExprAt s b e at → Braced b at ≡ is_braced e
is_braced_lem s b at (expr p f) a = ap (λ (n : ℕ). eqb n 52 || eqb n 53 || (leb 65 n && leb n 67)) (kind_of s b at p f a) ∙ by_name p f

-- an expression as a statement, with its semicolon by that test
abbrev pub does_steps : List ℕ → ℕ → Given → Span × Expr → Act
does_steps b at g x = grouped (λ id. expr_with 0 g x.1 ⨟ when (not (Braced b (at + 13))) (says ";"))

module _ {s b : List ℕ} {at : ℕ} where
  pub does_has : {c : Cursor} → (kind_at b at ≡ 30 → ⊥) → (kind_at b at ≡ 31 → ⊥) → HasIn StmtAt stmt_rule s b at c → HasIn DoesAt (does_steps b at) s b at c
  unfolding StmtAt stmt_rule
  does_has {c} f g h = go h.tree h.held h.room
    where
      go : (x : Stmt) → StmtAt s b x at → Room (stmt_rule (given s b) x) c → HasIn DoesAt (does_steps b at) s b at c
      go (stmt p (let' i t v)) a room = absurd (f a.0.kinds)
      go (stmt p (import_stmt i)) a room = absurd (g a.0.kinds)
      go (stmt p (does v)) a room =
          record {
            accepted = h.accepted;
            tree = (p, v);
            held = a;
            room =
                subst (λ (t : Bool). Room (grouped (λ id. expr_with 0 (given s b) v ⨟ when (not t) (says ";"))) c)
                (sym (is_braced_lem s b (at + 13) v a.1.0)) room;
          }

  pub does_laid : {r : ℕ} {x x₁ x₃ x₄ : State} {x₂ : List ℕ} {c₂ : Cursor} → (kind_at b at ≡ 30 → ⊥) → (kind_at b at ≡ 31 → ⊥)
      → Opens Group x x₁ r → LaysAs ExprAt (expr_with 0) s b (at + 13) x₁.store.now x₁.cursor x₂ c₂
      → Lays (when (not (Braced b (at + 13))) (says ";")) x₂ c₂ x₃.store.now x₃.cursor → Marks 4 r x₃.cursor.row x₃ x₄
      → LaysAs StmtAt stmt_rule s b at x.store.now x.cursor x₄.store.now x₄.cursor
  unfolding StmtAt stmt_rule
  does_laid {r} {x} {x₁} {x₃} {x₄} {x₂} {c₂} f g o l m z = record { of = go }
    where
      go : (y : Stmt) → StmtAt s b y at → Lays (stmt_rule (given s b) y) x.store.now x.cursor x₄.store.now x₄.cursor
      go (stmt p (let' i t v)) a = absurd (f a.0.kinds)
      go (stmt p (import_stmt i)) a = absurd (g a.0.kinds)
      go (stmt p (does v)) a =
          let m' : Lays (when (not (is_braced v)) (says ";")) x₂ c₂ x₃.store.now x₃.cursor =
          subst (λ (t : Bool). Lays (when (not t) (says ";")) x₂ c₂ x₃.store.now x₃.cursor) (is_braced_lem s b (at + 13) v a.1.0) m in
          closes_group _ o (lays_then (l.of v a.1.0) m') z

-- ---- the parts of an f-string one after the other
pub record MoreParts (s b : List ℕ) (p to : ℕ) (c : Cursor) : Type 0 where
  pub accepted : Readable b
  pub part : Part
  pub held : PartAt s b part p
  pub whole : Whole b p
  pub least : stop_at b p ≤ to
  pub inside : to ≤ length b
  pub rest : Parts
  pub rest_held : PartsAt s b rest (stop_at b p) to
  pub room : Room (part_rule (given s b) part ⨟ parts_rule (given s b) rest) c

module _ {s b : List ℕ} {p to : ℕ} {c : Cursor} where
  pub parts_first : p < to → HasAllIn PartsAt parts_rule s b p to c → MoreParts s b p to c
  unfolding PartsAt parts_rule
  parts_first lt h = go h.tree h.held h.room
    where
      go : (ps : Parts) → PartsAt s b ps p to → Room (parts_rule (given s b) ps) c → MoreParts s b p to c
      go no_parts a room = absurd (omega (arith, a.same))
      go (string q ps) a room =
          record {
            accepted = h.accepted;
            part = text q;
            held = (a.0, a.1);
            whole = head_whole a.0;
            least = a.2.least;
            inside = h.inside;
            rest = ps;
            rest_held = a.3;
            room = room;
          }
      go (value e ps) a room =
          record {
            accepted = h.accepted;
            part = forms.value e;
            held = (a.0, a.1, a.2);
            whole = head_whole a.0.head;
            least = a.3.least;
            inside = h.inside;
            rest = ps;
            rest_held = a.4;
            room = room;
          }

  pub part_has : MoreParts s b p to c → HasIn PartAt part_rule s b p c
  part_has m = record { accepted = m.accepted; tree = m.part; held = m.held; room = room_first _ m.room }

  pub parts_rest : {x y : List ℕ} {d : Cursor} (m : MoreParts s b p to c) → LaysAs PartAt part_rule s b p x c y d
      → HasAllIn PartsAt parts_rule s b (stop_at b p) to d
  parts_rest m l =
      record {
        accepted = m.accepted;
        tree = m.rest;
        held = m.rest_held;
        inside = m.inside;
        room = room_next m.room (l.of m.part m.held);
      }

module _ {s b : List ℕ} {p to : ℕ} where
  pub parts_none : {x : List ℕ} {c : Cursor} → to ≤ p → LaysAll PartsAt parts_rule s b p to x c x c
  unfolding PartsAt parts_rule
  parts_none {x} {c} le = record { of = go }
    where
      go : (ps : Parts) → PartsAt s b ps p to → Lays (parts_rule (given s b) ps) x c x c
      go no_parts a = lays_skip
      go (string q ps) a = absurd (omega (arith, a.0.long, a.2.least))
      go (value e ps) a = absurd (omega (arith, a.0.head.long, a.3.least))

  pub parts_more : {x y z : List ℕ} {c d e : Cursor} → p < to → LaysAs PartAt part_rule s b p x c y d
      → LaysAll PartsAt parts_rule s b (stop_at b p) to y d z e → LaysAll PartsAt parts_rule s b p to x c z e
  unfolding PartsAt parts_rule
  parts_more {x} {y} {z} {c} {d} {e} lt l r = record { of = go }
    where
      go : (ps : Parts) → PartsAt s b ps p to → Lays (parts_rule (given s b) ps) x c z e
      go no_parts a = absurd (omega (arith, a.same))
      go (string q ps) a = lays_then (l.of (text q) (a.0, a.1)) (r.of ps a.3)
      go (value i ps) a = lays_then (l.of (forms.value i) (a.0, a.1, a.2)) (r.of ps a.4)

-- ---- a part by its kind
pub part_whole : (s b : List ℕ) (at : ℕ) (x : Part) → PartAt s b x at → Whole b at
part_whole s b at (text p) a = head_whole a.0
part_whole s b at (forms.value e) a = head_whole a.0.head

pub part_has_kind : (s b : List ℕ) (at : ℕ) (x : Part) → PartAt s b x at → HasKind 84 85 b at
part_has_kind s b at (text p) a = record { whole = head_whole a.0; least = omega (arith, a.0.kinds); most = omega (arith, a.0.kinds) }
part_has_kind s b at (forms.value e) a =
    record { whole = head_whole a.0.head; least = omega (arith, a.0.head.kinds); most = omega (arith, a.0.head.kinds) }

pub stmt_has_kind : (s b : List ℕ) (at : ℕ) (x : Stmt) → StmtAt s b x at → HasKind 30 32 b at
unfolding StmtAt
stmt_has_kind s b at (stmt p (let' x y z)) a = record { whole = head_whole a.0; least = omega (arith, a.0.kinds); most = omega (arith, a.0.kinds) }
stmt_has_kind s b at (stmt p (import_stmt x)) a = record { whole = head_whole a.0; least = omega (arith, a.0.kinds); most = omega (arith, a.0.kinds) }
stmt_has_kind s b at (stmt p (does x)) a = record { whole = head_whole a.0; least = omega (arith, a.0.kinds); most = omega (arith, a.0.kinds) }

abbrev pub ValueAt : List ℕ → List ℕ → Expr → ℕ → Type 0
ValueAt s b e at = ExprAt s b e (at + 13) × Ends s b (at + 13) at

module _ {s b : List ℕ} {at : ℕ} where
  pub text_has : {c : Cursor} → kind_at b at ≡ 84 → HasIn PartAt part_rule s b at c → HasIn SpanAt content_rule s b at c
  text_has {c} e h = go h.tree h.held h.room
    where
      go : (x : Part) → PartAt s b x at → Room (part_rule (given s b) x) c → HasIn SpanAt content_rule s b at c
      go (text p) a room = record { accepted = h.accepted; tree = p; held = (84, a.0); room = room }
      go (forms.value i) a room = absurd (omega (arith, e, a.0.head.kinds))

  pub value_has : {c : Cursor} → (kind_at b at ≡ 84 → ⊥) → HasIn PartAt part_rule s b at c
      → HasIn ValueAt (λ g e. says "{" ⨟ expr_with 0 g e ⨟ says "}") s b at c
  unfolding placeholder
  value_has {c} f h = go h.tree h.held h.room
    where
      go : (x : Part) → PartAt s b x at → Room (part_rule (given s b) x) c → HasIn ValueAt (λ g e. says "{" ⨟ expr_with 0 g e ⨟ says "}") s b at c
      go (text p) a room = absurd (f a.0.kinds)
      go (forms.value i) a room = record { accepted = h.accepted; tree = i; held = (a.1, a.2); room = room }

  pub text_laid : {x y : List ℕ} {c d : Cursor} → kind_at b at ≡ 84 → LaysAs SpanAt content_rule s b at x c y d → LaysAs PartAt part_rule s b at x c y d
  text_laid {x} {y} {c} {d} e l = record { of = go }
    where
      go : (z : Part) → PartAt s b z at → Lays (part_rule (given s b) z) x c y d
      go (text p) a = l.of p (84, a.0)
      go (forms.value i) a = absurd (omega (arith, e, a.0.head.kinds))

  pub value_laid : {x y z w : List ℕ} {c d e f : Cursor} → (kind_at b at ≡ 84 → ⊥) → Lays (says "{") x c y d
      → LaysAs ExprAt (expr_with 0) s b (at + 13) y d z e → Lays (says "}") z e w f → LaysAs PartAt part_rule s b at x c w f
  unfolding placeholder
  value_laid {x} {y} {z} {w} {c} {d} {e} {f} g l m n = record { of = go }
    where
      go : (u : Part) → PartAt s b u at → Lays (part_rule (given s b) u) x c w f
      go (text p) a = absurd (g a.0.kinds)
      go (forms.value i) a = lays_then l (lays_then (m.of i a.1) n)

-- statements, and parts of f-strings, one after the other lie in the image
pub stmts_in : (s b : List ℕ) (from to : ℕ) (ss : Stmts) → StmtsAt s b ss from to → AllIn b from to
unfolding StmtsAt
stmts_in s b from to no_stmts a = in_none b from to (omega (arith, a.same))
stmts_in s b from to (x ∷ˢ ss) a =
    let w = stmt_whole s b from x a.0 in
    in_first b from to (omega (arith, w.long, a.1.least)) w.fits (stmts_in s b (stop_at b from) to ss a.2)

pub parts_in : (s b : List ℕ) (from to : ℕ) (ps : Parts) → PartsAt s b ps from to → AllIn b from to
unfolding PartsAt
parts_in s b from to no_parts a = in_none b from to (omega (arith, a.same))
parts_in s b from to (string q ps) a =
    in_first b from to (omega (arith, a.0.long, a.2.least)) a.0.fits (parts_in s b (stop_at b from) to ps a.3)
parts_in s b from to (value e ps) a =
    in_first b from to (omega (arith, a.0.head.long, a.3.least)) a.0.head.fits (parts_in s b (stop_at b from) to ps a.4)
