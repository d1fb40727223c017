-- Laws of a chain of operators of one precedence. A step down the left operands takes one operator off the chain, and a step back up lays
-- it, so that both walks speak of the same chain.
-- Assumes nothing.
use mathlib.Core.Path.{◌≡◌, refl, sym, ap, subst, ◌∙◌}
use mathlib.Core.List.{List}
use mathlib.Core.Bool.{Bool, false}
use Prim.Native.Nat.{ℕ, ◌+◌, ◌-◌, ◌*◌, ◌≤◌, ◌<◌}
use native.Mathlib.Omega.{arith}
use borrow.Author.Tests.{eq-eqb, ne_eqb}
use borrow.Author.Count.{below_more}
use lib.ListN.{get_or, length, set}
use lib.Seq.{get_or-set_same, get_or-set_other}
use Rattle.image.specs.Bytes.{be32}
use Rattle.image.specs.Read.{stop_at, kind_at}
use Rattle.ast.specs.Syntax.{Span, Expr, expr, return', literal, block, match', function_call, access, path, record', typed_record}
use Rattle.ast.specs.Syntax.{list, not', assign, compound_assign, bin_op, negate, if_else, while, for, question_mark, f_string, parentheses}
use Rattle.tree.specs.At.{ExprAt, left_depth}
use Rattle.rows.specs.Node.{line_or_space}
use Rattle.acts.specs.Act.{Given, Act, push, grouped, indented, ◌⨟◌}
use Rattle.acts.specs.Laid.{Room}
use Rattle.acts.specs.Does.{Opens, Marks}
use Rattle.acts.specs.declared.State.{State}
use Rattle.acts.specs.declared.parts.Branch.TheVariants.{Group, Indent}
use Rattle.acts.proofs.Closes.{closes_group, closes_indent}
use Rattle.acts.specs.declared.Cursor.{Cursor}
use Rattle.acts.proofs.Laws.{Lays, lays_then, room_first, room_next}
use Rattle.comments.specs.Listed.{given}
use Rattle.layout.specs.Layout.{Operands, leftmost, popped, binop, binop_precedence, expr_with_precedence, expr_form, operands, operator}
use Rattle.layout.specs.Promises.{Readable, HasIn}
use Rattle.comments.specs.Record.{InImage}
use Rattle.layout.specs.Forms.{four, Of, expr_with, form_rule, OperatorAt, operator_rule}
use Rattle.layout.specs.Chains.{Above, top, up, grown, Starts}
use Rattle.layout.proofs.Places.{within, expr_whole}
use Rattle.layout.proofs.ExprForms.{expr_is}
use Rattle.layout.proofs.Lays.{LaysAs}

-- an operator of the chain's precedence goes on with the chain; another, and what is no operator, is a chain of one
module _ (g : Given) (m : Span) (l : Expr) (t : Span) (o : ℕ) (r : Expr) where
  operands_step : (q : ℕ) → binop_precedence o ≡ q → operands g q (expr m (bin_op l t o r)) ≡ popped g (operands g q l) t o (expr_with 0 g r)
  unfolding expr_with_precedence
  operands_step q h = rw (eq-eqb _ _ h)

  stop_prec : (q : ℕ) → (binop_precedence o ≡ q → ⊥) → operands g q (expr m (bin_op l t o r)) ≡ leftmost (expr_with q g (expr m (bin_op l t o r)))
  unfolding expr_with_precedence
  stop_prec q h = rw (ne_eqb _ _ h)

  form_operands : (outer : ℕ) → expr_form g m (bin_op l t o r) outer ≡ binop (operands g (binop_precedence o) (expr m (bin_op l t o r)))
  unfolding expr_with_precedence
  form_operands outer = rw (eq-eqb (binop_precedence o) (binop_precedence o) refl)

module _ (s b : List ℕ) (p q : ℕ) where
  pub stop_kind : (x : Expr) → ExprAt s b x p → (kind_at b p ≡ 63 → ⊥) → operands (given s b) q x ≡ leftmost (expr_with q (given s b) x)
  unfolding expr_with_precedence ExprAt
  stop_kind (expr m (return' x y)) a h = refl
  stop_kind (expr m (literal x y)) a h = refl
  stop_kind (expr m (block x)) a h = refl
  stop_kind (expr m (match' x y z)) a h = refl
  stop_kind (expr m (function_call x y z)) a h = refl
  stop_kind (expr m (access x y)) a h = refl
  stop_kind (expr m (path x)) a h = refl
  stop_kind (expr m (record' x y)) a h = refl
  stop_kind (expr m (typed_record x y z)) a h = refl
  stop_kind (expr m (list x)) a h = refl
  stop_kind (expr m (not' x)) a h = refl
  stop_kind (expr m (assign x y)) a h = refl
  stop_kind (expr m (compound_assign x y z)) a h = refl
  stop_kind (expr m (bin_op x y z w)) a h = absurd (h a.0.kinds)
  stop_kind (expr m (negate x)) a h = refl
  stop_kind (expr m (if_else x y z)) a h = refl
  stop_kind (expr m (while x y)) a h = refl
  stop_kind (expr m (for x y z)) a h = refl
  stop_kind (expr m (question_mark x)) a h = refl
  stop_kind (expr m (f_string x)) a h = refl
  stop_kind (expr m (parentheses x)) a h = refl

module _ {q : ℕ} {s b : List ℕ} {e : Expr} {at : ℕ} where
  grown_operands : {p : ℕ} {x : Expr} (a : Above q s b e at p x) → operands (given s b) q e ≡ grown a (operands (given s b) q x)
  unfolding grown
  grown_operands top = refl
  grown_operands (up {o = o} {x = x} {r = r} {m = m} {t = t} i j k a) =
      grown_operands a ∙ ap (λ (c : Operands). grown a c) (operands_step (given s b) m x t o r q j)

  grown_head : {p : ℕ} {x : Expr} (a : Above q s b e at p x) (c : Operands) → (grown a c).left ≡ c.left
  unfolding grown
  grown_head top c = refl
  grown_head (up {o = o} {r = r} {t = t} i j k a) c = grown_head a (popped (given s b) c t o (expr_with 0 (given s b) r))

  -- how far down the chain x stands
  pub above_size : {p : ℕ} {x : Expr} → Above q s b e at p x → (at ≤ p) × (be32 b p + (p - at) ≤ be32 b at)
  unfolding ExprAt
  above_size top = (omega arith, omega arith)
  above_size (up {p = p} {p' = p'} i j k a) =
      let h = above_size a in
      subst (λ (n : ℕ). (at ≤ n) × (be32 b n + (n - at) ≤ be32 b at)) (sym i) (omega (arith, h.0), omega (arith, h.0, h.1, k.1.4.same))

  -- each step down takes one from the operators that are left
  above_depth : {p : ℕ} {x : Expr} → Above q s b e at p x → p + 13 * left_depth x ≡ at + 13 * left_depth e
  unfolding left_depth
  above_depth top = refl
  above_depth (up {p = p} {p' = p'} {x = x} i j k a) = omega (arith, i, above_depth a)

  -- room for a chain is room for its steps
  pub chain_room : {p : ℕ} {x : Expr} (a : Above q s b e at p x) (h : Act) {c : Cursor} → Room (binop (grown a (leftmost h))) c
      → Room (grouped (λ id. h ⨟ push line_or_space ⨟ indented (grown a (leftmost h)).ops)) c
  unfolding binop
  chain_room a h {c} room =
      subst (λ (z : Act). Room (grouped (λ id. z ⨟ push line_or_space ⨟ indented (grown a (leftmost h)).ops)) c) (grown_head a (leftmost h)) room

  -- and for the operators up to one of them
  room_below : {p : ℕ} {x : Expr} (a : Above q s b e at p x) (z : Operands) {c : Cursor} → Room (grown a z).ops c → Room z.ops c
  unfolding grown
  room_below top z room = room
  room_below (up {o = o} {r = r} {t = t} i j k a) z room = room_first _ (room_below a (popped (given s b) z t o (expr_with 0 (given s b) r)) room)

  pub chain_laid : {p : ℕ} {x : Expr} (a : Above q s b e at p x) (h : Act) {r i : ℕ} {s₀ s₁ s₃ s₄ s₅ s₆ s₇ : State} {s₂ : List ℕ} {c₂ : Cursor}
      → Opens Group s₀ s₁ r → Lays h s₁.store.now s₁.cursor s₂ c₂ → Lays (push line_or_space) s₂ c₂ s₃.store.now s₃.cursor
      → Opens Indent s₃ s₄ i → Lays (grown a (leftmost h)).ops s₄.store.now s₄.cursor s₅.store.now s₅.cursor
      → Marks 4 i s₅.cursor.row s₅ s₆ → Marks 4 r s₆.cursor.row s₆ s₇
      → Lays (binop (grown a (leftmost h))) s₀.store.now s₀.cursor s₇.store.now s₇.cursor
  unfolding binop
  chain_laid a h {s₁ = s₁} {s₂ = s₂} {c₂ = c₂} o l m i t k j =
      closes_group _ o
      (lays_then (subst (λ (z : Act). Lays z s₁.store.now s₁.cursor s₂ c₂) (sym (grown_head a (leftmost h))) l)
      (lays_then m (closes_indent i t k)))
      j

-- the whole chain, from its leftmost operand on
pub chain_form : (s b : List ℕ) (t : Span × (Expr × Span × ℕ × Expr)) (q at left : ℕ) (w : Starts q s b (expr t.0 (four bin_op t.1)) at left)
    → binop_precedence t.1.2 ≡ q
    → form_rule (four bin_op) 0 (given s b) t ≡ binop (grown w.above (leftmost (expr_with q (given s b) w.tree)))
unfolding expr_with_precedence
chain_form s b t q at left w same =
    let g = given s b in
    form_operands g t.0 t.1.0 t.1.1 t.1.2 t.1.3 0
    ∙ ap (λ (p : ℕ). binop (operands g p (expr t.0 (four bin_op t.1)))) same
    ∙ ap (λ (z : Operands). binop z) (grown_operands w.above ∙ ap (λ (z : Operands). grown w.above z) w.stop)

-- ---- down
module _ (s b : List ℕ) (p q n : ℕ) (kind : kind_at b p ≡ 63) (op : n ≡ binop_precedence (get_or b (stop_at b (p + 13) + 13) 0)) where
  pub down : {e x : Expr} {at : ℕ} → n ≡ q → Above q s b e at p x → ExprAt s b x p → (y : Expr) × Above q s b e at (p + 13) y × ExprAt s b y (p + 13)
  unfolding ExprAt
  down {e} {x} {at} same a held =
      let y = expr_is s b p 63 kind x held in
      let v = expr y.0.0 (four bin_op y.0.1) in
      let held' : ExprAt s b v p = subst (λ (u : Expr). ExprAt s b u p) (sym y.1) held in
      let a' : Above q s b e at p v = subst (λ (u : Expr). Above q s b e at p u) (sym y.1) a in
      (y.0.1.0, up refl (ap binop_precedence (sym held'.1.1.which.byte) ∙ sym op ∙ same) held' a', held'.1.0)

  pub stop_op : (x : Expr) → (n ≡ q → ⊥) → ExprAt s b x p → operands (given s b) q x ≡ leftmost (expr_with q (given s b) x)
  unfolding ExprAt
  stop_op x other held =
      let y = expr_is s b p 63 kind x held in
      let z = y.0.1 in
      let held' : ExprAt s b (expr y.0.0 (four bin_op z)) p = subst (λ (u : Expr). ExprAt s b u p) (sym y.1) held in
      subst (λ (u : Expr). operands (given s b) q u ≡ leftmost (expr_with q (given s b) u)) y.1
      (stop_prec (given s b) y.0.0 z.0 z.1 z.2 z.3 q (λ h. other (op ∙ ap binop_precedence held'.1.1.which.byte ∙ h)))

-- what the symbol of an operator needs
pub record Symbol (b : List ℕ) (p : ℕ) : Type 0 where
  pub operand : InImage b (p + 13)
  pub byte : stop_at b (p + 13) + 14 ≤ length b
  pub known : get_or b (stop_at b (p + 13) + 13) 0 < 14

pub symbol_of : (s b : List ℕ) (p : ℕ) → kind_at b p ≡ 63 → (x : Expr) → ExprAt s b x p → Symbol b p
unfolding ExprAt
symbol_of s b p kind x held =
    let y = expr_is s b p 63 kind x held in
    let h : ExprAt s b (expr y.0.0 (four bin_op y.0.1)) p = subst (λ (u : Expr). ExprAt s b u p) (sym y.1) held in
    record {
      operand = within (expr_whole s b (p + 13) y.0.1.0 h.1.0);
      byte = omega (arith, h.1.1.ends.same, h.1.1.head.fits);
      known = rw h.1.1.which.byte h.1.2;
    }

-- one more offset in the stack
pub filled_more : (ops : List ℕ) (at n p : ℕ) → n < length ops → p ≡ at + 13 * n → ((i : ℕ) → i < n → get_or ops i 0 ≡ at + 13 * i)
    → (i : ℕ) → i < n + 1 → get_or (set ops n p) i 0 ≡ at + 13 * i
filled_more ops at n p lt e f =
    below_more (λ (i : ℕ). get_or (set ops n p) i 0 ≡ at + 13 * i) n (λ i h. get_or-set_other ops n i p 0 (omega arith) ∙ f i h)
    (get_or-set_same ops n p 0 lt ∙ e)

-- an operator has depth, so the stack has room for it
pub room_left : (s b : List ℕ) (t : Span × (Expr × Span × ℕ × Expr)) (at p q n : ℕ) (x : Expr) → Of (four bin_op) s b t at
    → Above q s b (expr t.0 (four bin_op t.1)) at p x → ExprAt s b x p → kind_at b p ≡ 63 → p ≡ at + 13 * n → n < 64
unfolding left_depth ExprAt
room_left s b t at p q n x whole a held kind e =
    let y = expr_is s b p 63 kind x held in
    let one : 1 ≤ left_depth x = subst (λ (u : Expr). 1 ≤ left_depth u) y.1 (omega arith) in
    omega (arith, above_depth a, whole.1.5, one, e)

-- ---- back up
-- the operator above x, whose record is at m
pub record AboveAt (q : ℕ) (s b : List ℕ) (e : Expr) (at m : ℕ) : Type 0 where
  pub tree : Span × (Expr × Span × ℕ × Expr)
  pub held : Of (four bin_op) s b tree m
  pub above : Above q s b e at m (expr tree.0 (four bin_op tree.1))

pub above_at : {q : ℕ} {s b : List ℕ} {e : Expr} {at p : ℕ} {x : Expr} (m : ℕ) → at < p → p ≡ m + 13 → Above q s b e at p x → AboveAt q s b e at m
above_at m lt i top = absurd (omega arith)
above_at {q} {s} {b} {e} {at} m lt i (up {p = p} {o = o} {x = x} {r = r} {m = w} {t = t} j f k a) =
    let z : p ≡ m = omega (arith, i, j) in
    record {
      tree = (w, (x, t, o, r));
      held = subst (λ (v : ℕ). ExprAt s b (expr w (bin_op x t o r)) v) z k;
      above = subst (λ (v : ℕ). Above q s b e at v (expr w (bin_op x t o r))) z a;
    }

-- how far the operators of a chain are laid: those above p are left
pub record Going (q : ℕ) (s b : List ℕ) (e : Expr) (at p : ℕ) (first : Bool) (all : Operands)
    (x : List ℕ) (c : Cursor) (x' : List ℕ) (c' : Cursor) : Type 0 where
  pub low : Expr
  pub above : Above q s b e at p low
  pub done : Operands
  pub begun : done.first ≡ first
  pub laid : Lays done.ops x c x' c'
  pub same : grown above done ≡ all
  pub room : Room all.ops c

-- the operator that is next, with its right operand
pub record NextOperator (f : Bool) (s b : List ℕ) (m : ℕ) (c : Cursor) : Type 0 where
  pub symbol : Span × ℕ
  pub symbol_held : OperatorAt s b symbol (stop_at b (m + 13))
  pub right : Expr
  pub right_held : ExprAt s b right (stop_at b (stop_at b (m + 13)))
  pub room : Room (operator_rule f (given s b) symbol ⨟ expr_with 0 (given s b) right) c

pub going_next : {q : ℕ} {s b : List ℕ} {e : Expr} {at p m : ℕ} {f : Bool} {all : Operands} {x x₁ : List ℕ} {c c₁ : Cursor}
    → at < p → p ≡ m + 13 → Going q s b e at p f all x c x₁ c₁ → NextOperator f s b m c₁
unfolding grown ExprAt
going_next {q} {s} {b} {e} {at} {p} {m} {f} {all} {x} {x₁} {c} {c₁} lt i g = go p g.low g.above lt i g.same
  where
    go : (n : ℕ) (y : Expr) (a : Above q s b e at n y) → at < n → n ≡ m + 13 → grown a g.done ≡ all → NextOperator f s b m c₁
    go n y top lt' j h = absurd (omega arith)
    go n y (up {p = p'} {o = o} {r = r} {m = w} {t = t} j' _ k a) lt' j h =
        let z : p' ≡ m = omega (arith, j, j') in
        let longer : Operands = popped (given s b) g.done t o (expr_with 0 (given s b) r) in
        let below : Room longer.ops c = room_below a longer (subst (λ (v : Operands). Room v.ops c) (sym h) g.room) in
        let next : Room (operator (given s b) g.done.first t o ⨟ expr_with 0 (given s b) r) c₁ = room_next below g.laid in
        subst (λ (v : ℕ). NextOperator f s b v c₁) z
        (record {
          symbol = (t, o);
          symbol_held = (k.1.1, k.1.2);
          right = r;
          right_held = k.1.3;
          room = subst (λ (v : Bool). Room (operator (given s b) v t o ⨟ expr_with 0 (given s b) r) c₁) g.begun next;
        })

module _ {f : Bool} {s b : List ℕ} {m : ℕ} {c : Cursor} (k : Readable b) (n : NextOperator f s b m c) where
  pub operator_has : HasIn OperatorAt (operator_rule f) s b (stop_at b (m + 13)) c
  operator_has = record { accepted = k; tree = n.symbol; held = n.symbol_held; room = room_first _ n.room }

  pub right_has : {x y : List ℕ} {d : Cursor} → LaysAs OperatorAt (operator_rule f) s b (stop_at b (m + 13)) x c y d
      → HasIn ExprAt (expr_with 0) s b (stop_at b (stop_at b (m + 13))) d
  right_has l =
      record { accepted = k; tree = n.right; held = n.right_held; room = room_next n.room (l.of n.symbol n.symbol_held) }

pub going_step : {q : ℕ} {s b : List ℕ} {e : Expr} {at p m : ℕ} {f : Bool} {all : Operands} {x x₁ x₂ x₃ : List ℕ} {c c₁ c₂ c₃ : Cursor}
    → at < p → p ≡ m + 13 → Going q s b e at p f all x c x₁ c₁
    → LaysAs OperatorAt (operator_rule f) s b (stop_at b (m + 13)) x₁ c₁ x₂ c₂
    → LaysAs ExprAt (expr_with 0) s b (stop_at b (stop_at b (m + 13))) x₂ c₂ x₃ c₃ → Going q s b e at m false all x c x₃ c₃
unfolding grown ExprAt
going_step {q} {s} {b} {e} {at} {p} {m} {f} {all} {x} {x₁} {x₂} {x₃} {c} {c₁} {c₂} {c₃} lt i g op right = go p g.low g.above lt i g.same
  where
    go : (n : ℕ) (y : Expr) (a : Above q s b e at n y) → at < n → n ≡ m + 13 → grown a g.done ≡ all → Going q s b e at m false all x c x₃ c₃
    go n y top lt' j h = absurd (omega arith)
    go n y (up {p = p'} {o = o} {r = r} {m = w} {t = t} j' _ k a) lt' j h =
        let z : m ≡ p' = omega (arith, j, j') in
        let op' : LaysAs OperatorAt (operator_rule f) s b (stop_at b (p' + 13)) x₁ c₁ x₂ c₂ =
        subst (λ (v : ℕ). LaysAs OperatorAt (operator_rule f) s b (stop_at b (v + 13)) x₁ c₁ x₂ c₂) z op in
        let right' : LaysAs ExprAt (expr_with 0) s b (stop_at b (stop_at b (p' + 13))) x₂ c₂ x₃ c₃ =
        subst (λ (v : ℕ). LaysAs ExprAt (expr_with 0) s b (stop_at b (stop_at b (v + 13))) x₂ c₂ x₃ c₃) z right in
        let here : Going q s b e at p' false all x c x₃ c₃ =
        record {
          low = expr w (bin_op y t o r);
          above = a;
          done = popped (given s b) g.done t o (expr_with 0 (given s b) r);
          begun = refl;
          laid =
              lays_then g.laid
              (lays_then
              (subst (λ (v : Bool). Lays (operator (given s b) v t o) x₁ c₁ x₂ c₂) (sym g.begun) (op'.of (t, o) (k.1.1, k.1.2)))
              (right'.of r k.1.3));
          same = h;
          room = g.room;
        } in
        subst (λ (v : ℕ). Going q s b e at v false all x c x₃ c₃) (sym z) here

pub going_end : {q : ℕ} {s b : List ℕ} {e : Expr} {at p : ℕ} {f : Bool} {all : Operands} {x x' : List ℕ} {c c' : Cursor} → p ≤ at
    → Going q s b e at p f all x c x' c' → Lays all.ops x c x' c'
unfolding grown
going_end {q} {s} {b} {e} {at} {p} {f} {all} {x} {x'} {c} {c'} le g = go p g.low g.above le g.same
  where
    go : (n : ℕ) (y : Expr) (a : Above q s b e at n y) → n ≤ at → grown a g.done ≡ all → Lays all.ops x c x' c'
    go n y top le' h = subst (λ (z : Operands). Lays z.ops x c x' c') h g.laid
    go n y (up i j k a) le' h = absurd (omega (arith, i, (above_size a).0))
