-- From the kind byte of an expression's record to the form of the expression.
-- Assumes nothing.
use mathlib.Core.Path.{◌≡◌, refl, sym, ap, subst, ◌∙◌}
use mathlib.Core.Bool.{Bool, true, false, not}
use mathlib.Core.List.{List}
use Prim.Native.Nat.{ℕ, ◌≤◌}
use native.Mathlib.Omega.{arith}
use lib.Dec.{eqb}
use Rattle.image.specs.Read.{kind_at}
use Rattle.ast.specs.Syntax.{Span, Expr, expr, Form, return', literal, block, match', function_call, access, path, record', typed_record}
use Rattle.ast.specs.Syntax.{list, not', assign, compound_assign, bin_op, negate, if_else, while, for, question_mark, f_string, parentheses}
use Rattle.tree.specs.FormKinds.{form_kind}
use Rattle.tree.specs.At.{ExprAt}
use Rattle.acts.specs.Act.{Act, ◌⨟◌, when}
use Rattle.acts.specs.Laid.{Room}
use Rattle.acts.specs.declared.Cursor.{Cursor}
use Rattle.comments.specs.Comments.{pop_trailing_comment}
use Rattle.comments.specs.Listed.{given}
use Rattle.layout.specs.Layout.{expr_with_precedence, is_block}
use Rattle.layout.specs.Promises.{HasIn}
use Rattle.layout.specs.Numbers.{HasKind}
use Rattle.layout.proofs.Places.{expr_whole}
use Rattle.layout.specs.Forms.{two, three, four, Of, form_rule, form_with, expr_with}
use Rattle.acts.proofs.Laws.{Lays, lays_then}
use Rattle.layout.proofs.Lays.{LaysAs}

-- e is of the form mk
abbrev pub IsForm : {X : Type 0} → (X → Form) → Expr → Type 0
IsForm {X} mk e = (x : Span × X) × (expr x.0 (mk x.1) ≡ e)

abbrev pick : Bool → Type 0 → Type 0 → Type 0
pick true a b = a
pick false a b = b

-- the form that each kind says
abbrev FormIs : ℕ → Expr → Type 0
FormIs k e =
    pick (eqb k 50) (IsForm (two return') e)
    (pick (eqb k 51) (IsForm (two literal) e)
    (pick (eqb k 52) (IsForm block e)
    (pick (eqb k 53) (IsForm (three match') e)
    (pick (eqb k 54) (IsForm (three function_call) e)
    (pick (eqb k 55) (IsForm (two access) e)
    (pick (eqb k 56) (IsForm path e)
    (pick (eqb k 57) (IsForm (two record') e)
    (pick (eqb k 58) (IsForm (three typed_record) e)
    (pick (eqb k 59) (IsForm list e)
    (pick (eqb k 60) (IsForm not' e)
    (pick (eqb k 61) (IsForm (two assign) e)
    (pick (eqb k 62) (IsForm (three compound_assign) e)
    (pick (eqb k 63) (IsForm (four bin_op) e)
    (pick (eqb k 64) (IsForm negate e)
    (pick (eqb k 65) (IsForm (three if_else) e)
    (pick (eqb k 66) (IsForm (two while) e)
    (pick (eqb k 67) (IsForm (three for) e)
    (pick (eqb k 68) (IsForm question_mark e)
    (pick (eqb k 69) (IsForm f_string e)
    (IsForm parentheses e))))))))))))))))))))

form_range : (f : Form) → (50 ≤ form_kind f) × (form_kind f ≤ 70)
form_range (return' x y) = (omega arith, omega arith)
form_range (literal x y) = (omega arith, omega arith)
form_range (block x) = (omega arith, omega arith)
form_range (match' x y z) = (omega arith, omega arith)
form_range (function_call x y z) = (omega arith, omega arith)
form_range (access x y) = (omega arith, omega arith)
form_range (path x) = (omega arith, omega arith)
form_range (record' x y) = (omega arith, omega arith)
form_range (typed_record x y z) = (omega arith, omega arith)
form_range (list x) = (omega arith, omega arith)
form_range (not' x) = (omega arith, omega arith)
form_range (assign x y) = (omega arith, omega arith)
form_range (compound_assign x y z) = (omega arith, omega arith)
form_range (bin_op x y z w) = (omega arith, omega arith)
form_range (negate x) = (omega arith, omega arith)
form_range (if_else x y z) = (omega arith, omega arith)
form_range (while x y) = (omega arith, omega arith)
form_range (for x y z) = (omega arith, omega arith)
form_range (question_mark x) = (omega arith, omega arith)
form_range (f_string x) = (omega arith, omega arith)
form_range (parentheses x) = (omega arith, omega arith)

module _ (s b : List ℕ) (at : ℕ) where
  pub expr_is : (k : ℕ) → kind_at b at ≡ k → (e : Expr) → ExprAt s b e at → FormIs k e
  unfolding ExprAt
  expr_is k q (expr p (return' x y)) a = subst (λ (n : ℕ). FormIs n (expr p (return' x y))) (sym a.0.kinds ∙ q) ((p, (x, y)), refl)
  expr_is k q (expr p (literal x y)) a = subst (λ (n : ℕ). FormIs n (expr p (literal x y))) (sym a.0.kinds ∙ q) ((p, (x, y)), refl)
  expr_is k q (expr p (block x)) a = subst (λ (n : ℕ). FormIs n (expr p (block x))) (sym a.0.kinds ∙ q) ((p, x), refl)
  expr_is k q (expr p (match' x y z)) a = subst (λ (n : ℕ). FormIs n (expr p (match' x y z))) (sym a.0.kinds ∙ q) ((p, (x, y, z)), refl)
  expr_is k q (expr p (function_call x y z)) a = subst (λ (n : ℕ). FormIs n (expr p (function_call x y z))) (sym a.0.kinds ∙ q) ((p, (x, y, z)), refl)
  expr_is k q (expr p (access x y)) a = subst (λ (n : ℕ). FormIs n (expr p (access x y))) (sym a.0.kinds ∙ q) ((p, (x, y)), refl)
  expr_is k q (expr p (path x)) a = subst (λ (n : ℕ). FormIs n (expr p (path x))) (sym a.0.kinds ∙ q) ((p, x), refl)
  expr_is k q (expr p (record' x y)) a = subst (λ (n : ℕ). FormIs n (expr p (record' x y))) (sym a.0.kinds ∙ q) ((p, (x, y)), refl)
  expr_is k q (expr p (typed_record x y z)) a = subst (λ (n : ℕ). FormIs n (expr p (typed_record x y z))) (sym a.0.kinds ∙ q) ((p, (x, y, z)), refl)
  expr_is k q (expr p (list x)) a = subst (λ (n : ℕ). FormIs n (expr p (list x))) (sym a.0.kinds ∙ q) ((p, x), refl)
  expr_is k q (expr p (not' x)) a = subst (λ (n : ℕ). FormIs n (expr p (not' x))) (sym a.0.kinds ∙ q) ((p, x), refl)
  expr_is k q (expr p (assign x y)) a = subst (λ (n : ℕ). FormIs n (expr p (assign x y))) (sym a.0.kinds ∙ q) ((p, (x, y)), refl)
  expr_is k q (expr p (compound_assign x y z)) a = subst (λ (n : ℕ). FormIs n (expr p (compound_assign x y z))) (sym a.0.kinds ∙ q) ((p, (x, y, z)), refl)
  expr_is k q (expr p (bin_op x y z w)) a = subst (λ (n : ℕ). FormIs n (expr p (bin_op x y z w))) (sym a.0.kinds ∙ q) ((p, (x, y, z, w)), refl)
  expr_is k q (expr p (negate x)) a = subst (λ (n : ℕ). FormIs n (expr p (negate x))) (sym a.0.kinds ∙ q) ((p, x), refl)
  expr_is k q (expr p (if_else x y z)) a = subst (λ (n : ℕ). FormIs n (expr p (if_else x y z))) (sym a.0.kinds ∙ q) ((p, (x, y, z)), refl)
  expr_is k q (expr p (while x y)) a = subst (λ (n : ℕ). FormIs n (expr p (while x y))) (sym a.0.kinds ∙ q) ((p, (x, y)), refl)
  expr_is k q (expr p (for x y z)) a = subst (λ (n : ℕ). FormIs n (expr p (for x y z))) (sym a.0.kinds ∙ q) ((p, (x, y, z)), refl)
  expr_is k q (expr p (question_mark x)) a = subst (λ (n : ℕ). FormIs n (expr p (question_mark x))) (sym a.0.kinds ∙ q) ((p, x), refl)
  expr_is k q (expr p (f_string x)) a = subst (λ (n : ℕ). FormIs n (expr p (f_string x))) (sym a.0.kinds ∙ q) ((p, x), refl)
  expr_is k q (expr p (parentheses x)) a = subst (λ (n : ℕ). FormIs n (expr p (parentheses x))) (sym a.0.kinds ∙ q) ((p, x), refl)

  pub kind_of : (p : Span) (f : Form) → ExprAt s b (expr p f) at → kind_at b at ≡ form_kind f
  unfolding ExprAt
  kind_of p f a = a.0.kinds

  pub is_block_lem : (e : Expr) → ExprAt s b e at → eqb (kind_at b at) 52 ≡ is_block e
  is_block_lem (expr p f) a = ap (λ (n : ℕ). eqb n 52) (kind_of p f a)

  pub expr_kind : (e : Expr) → ExprAt s b e at → (50 ≤ kind_at b at) × (kind_at b at ≤ 70)
  expr_kind (expr p f) a = let h = form_range f in let e = kind_of p f a in (omega (arith, h.0, e), omega (arith, h.1, e))

  pub expr_has_kind : (e : Expr) → ExprAt s b e at → HasKind 50 70 b at
  expr_has_kind e a = let k = expr_kind e a in record { whole = expr_whole s b at e a; least = k.0; most = k.1 }

-- an expression whose form is known
module _ {s b : List ℕ} {at : ℕ} {X : Type 0} (mk : X → Form) (f : (e : Expr) → ExprAt s b e at → IsForm mk e) where
  pub expr_has : (outer : ℕ) {c : Cursor} → HasIn ExprAt (form_with outer) s b at c → HasIn (Of mk) (form_rule mk outer) s b at c
  unfolding expr_with_precedence
  expr_has outer {c} h =
      let x = f h.tree h.held in
      record {
        accepted = h.accepted;
        tree = x.0;
        held = subst (λ (e : Expr). ExprAt s b e at) (sym x.1) h.held;
        room = subst (λ (e : Expr). Room (form_with outer (given s b) e) c) (sym x.1) h.room;
      }

  pub expr_laid : (outer : ℕ) {x y : List ℕ} {c d : Cursor} → LaysAs (Of mk) (form_rule mk outer) s b at x c y d
      → LaysAs ExprAt (form_with outer) s b at x c y d
  unfolding expr_with_precedence
  expr_laid outer {x} {y} {c} {d} l =
      record {
        of =
            λ e a.
            let z = f e a in
            subst (λ (u : Expr). Lays (form_with outer (given s b) u) x c y d) z.1
            (l.of z.0 (subst (λ (u : Expr). ExprAt s b u at) (sym z.1) a));
      }

-- an expression, and the comment after it
module _ (outer : ℕ) {s b : List ℕ} {at : ℕ} where
  pub whole_has : {c : Cursor} → HasIn ExprAt (expr_with outer) s b at c → HasIn ExprAt (λ g e. form_with outer g e ⨟ pop_trailing_comment g) s b at c
  unfolding expr_with_precedence
  whole_has {c} h = go h.tree h.held h.room
    where
      go : (e : Expr) → ExprAt s b e at → Room (expr_with outer (given s b) e) c
          → HasIn ExprAt (λ g e. form_with outer g e ⨟ pop_trailing_comment g) s b at c
      go (expr p f) a room = record { accepted = h.accepted; tree = expr p f; held = a; room = room }

  pub whole_laid : {x y z : List ℕ} {c d e : Cursor} → LaysAs ExprAt (form_with outer) s b at x c y d → Lays (pop_trailing_comment (given s b)) y d z e
      → LaysAs ExprAt (expr_with outer) s b at x c z e
  unfolding expr_with_precedence
  whole_laid {x} {y} {z} {c} {d} {e} l m = record { of = go }
    where
      go : (i : Expr) → ExprAt s b i at → Lays (expr_with outer (given s b) i) x c z e
      go (expr p f) a = lays_then (l.of (expr p f) a) m

-- the comma after an arm
pub comma_laid : (s b : List ℕ) (at : ℕ) (e : Expr) (a : Act) {x y : List ℕ} {c d : Cursor} → ExprAt s b e at
    → Lays (when (not (eqb (kind_at b at) 52)) a) x c y d → Lays (when (not (is_block e)) a) x c y d
comma_laid s b at e a {x} {y} {c} {d} h l = subst (λ (t : Bool). Lays (when (not t) a) x c y d) (is_block_lem s b at e h) l

pub comma_room : (s b : List ℕ) (at : ℕ) (e : Expr) (a : Act) {c : Cursor} → ExprAt s b e at → Room (when (not (is_block e)) a) c
    → Room (when (not (eqb (kind_at b at) 52)) a) c
comma_room s b at e a {c} h room = subst (λ (t : Bool). Room (when (not t) a) c) (sym (is_block_lem s b at e h)) room
