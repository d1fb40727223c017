-- From the kind byte of a type's record to the form of the type.
-- Assumes nothing.
use mathlib.Core.Path.{◌≡◌, refl, sym, subst, ◌∙◌}
use mathlib.Core.Bool.{Bool, true, false}
use mathlib.Core.List.{List}
use Prim.Native.Nat.{ℕ, ◌+◌, ◌≤◌}
use native.Mathlib.Omega.{arith}
use lib.ListN.{length}
use lib.Dec.{eqb}
use Rattle.image.specs.Bytes.{be32}
use Rattle.image.specs.Read.{stop_at, kind_at}
use Rattle.ast.specs.Syntax.{Span, TypeExpr, type, TypeForm, option, type_path, never, unit}
use Rattle.ast.specs.Syntax.{record_type, TypeArgs, no_args, args, Types, no_types, ◌∷ᵗ◌}
use Rattle.tree.specs.At.{Head, TypeAt, TypeArgsAt, TypesAt}
use Rattle.acts.specs.Laid.{Room}
use Rattle.acts.specs.declared.Cursor.{Cursor}
use Rattle.acts.proofs.Laws.{Lays, lays_skip}
use Rattle.comments.specs.Listed.{given}
use Rattle.layout.proofs.Places.{head_whole, type_whole}
use Rattle.layout.proofs.Runs.{list_of, type_elems_lem, parens, brackets}
use Rattle.layout.specs.Layout.{type_expr, type_args, type_elems, variant_types, last_span}
use Rattle.layout.specs.Promises.{HasIn, Readable}
use Rattle.comments.specs.Record.{Whole}
use Rattle.layout.specs.Numbers.{HasKind}
use Rattle.layout.specs.Elems.{TypeElem, HasListIn}
use Rattle.layout.specs.Forms.{OfType, type_rule, two, SomeTypesAt, LastEnd}
use Rattle.layout.proofs.Lays.{LaysAs, LaysList}

-- t is of the form mk
abbrev pub IsType : {X : Type 0} → (X → TypeForm) → TypeExpr → Type 0
IsType {X} mk t = (x : Span × X) × (type x.0 (mk x.1) ≡ t)

abbrev pick : Bool → Type 0 → Type 0 → Type 0
pick true a b = a
pick false a b = b

abbrev pub never_of : Unit {0} → TypeForm
never_of x = never

abbrev pub unit_of : Unit {0} → TypeForm
unit_of x = unit

-- the form that each kind says
abbrev TypeIs : ℕ → TypeExpr → Type 0
TypeIs k t =
    pick (eqb k 40) (IsType option t)
    (pick (eqb k 41) (IsType (two type_path) t)
    (pick (eqb k 42) (IsType never_of t) (pick (eqb k 43) (IsType unit_of t) (IsType (two record_type) t))))

module _ (s b : List ℕ) (at : ℕ) where
  pub type_is : (k : ℕ) → kind_at b at ≡ k → (t : TypeExpr) → TypeAt s b t at → TypeIs k t
  unfolding TypeAt
  type_is k q (type p (option t)) a = subst (λ (n : ℕ). TypeIs n (type p (option t))) (sym a.0.kinds ∙ q) ((p, t), refl)
  type_is k q (type p (type_path x y)) a = subst (λ (n : ℕ). TypeIs n (type p (type_path x y))) (sym a.0.kinds ∙ q) ((p, (x, y)), refl)
  type_is k q (type p never) a = subst (λ (n : ℕ). TypeIs n (type p never)) (sym a.0.kinds ∙ q) ((p, tt), refl)
  type_is k q (type p unit) a = subst (λ (n : ℕ). TypeIs n (type p unit)) (sym a.0.kinds ∙ q) ((p, tt), refl)
  type_is k q (type p (record_type x y)) a = subst (λ (n : ℕ). TypeIs n (type p (record_type x y))) (sym a.0.kinds ∙ q) ((p, (x, y)), refl)

  pub type_kind : (t : TypeExpr) → TypeAt s b t at → (40 ≤ kind_at b at) × (kind_at b at ≤ 44)
  unfolding TypeAt
  type_kind (type p (option t)) a = (omega (arith, a.0.kinds), omega (arith, a.0.kinds))
  type_kind (type p (type_path x y)) a = (omega (arith, a.0.kinds), omega (arith, a.0.kinds))
  type_kind (type p never) a = (omega (arith, a.0.kinds), omega (arith, a.0.kinds))
  type_kind (type p unit) a = (omega (arith, a.0.kinds), omega (arith, a.0.kinds))
  type_kind (type p (record_type x y)) a = (omega (arith, a.0.kinds), omega (arith, a.0.kinds))

  pub type_has_kind : (t : TypeExpr) → TypeAt s b t at → HasKind 40 44 b at
  type_has_kind t a = let k = type_kind t a in record { whole = type_whole s b at t a; least = k.0; most = k.1 }

-- a type whose form is known
module _ {s b : List ℕ} {at : ℕ} {X : Type 0} (mk : X → TypeForm) (f : (t : TypeExpr) → TypeAt s b t at → IsType mk t) where
  pub type_has : {c : Cursor} → HasIn TypeAt type_expr s b at c → HasIn (OfType mk) (type_rule mk) s b at c
  unfolding type_expr
  type_has {c} h =
      let x = f h.tree h.held in
      record {
        accepted = h.accepted;
        tree = x.0;
        held = subst (λ (t : TypeExpr). TypeAt s b t at) (sym x.1) h.held;
        room = subst (λ (t : TypeExpr). Room (type_expr (given s b) t) c) (sym x.1) h.room;
      }

  pub type_laid : {x y : List ℕ} {c d : Cursor}
      → LaysAs (OfType mk) (type_rule mk) s b at x c y d → LaysAs TypeAt type_expr s b at x c y d
  unfolding type_expr
  type_laid {x} {y} {c} {d} l =
      record {
        of =
            λ t a.
            let z = f t a in
            subst (λ (u : TypeExpr). Lays (type_expr (given s b) u) x c y d) z.1
            (l.of z.0 (subst (λ (u : TypeExpr). TypeAt s b u at) (sym z.1) a));
      }

-- ---- the arguments of a path, and the types of a variant
pub args_whole : (s b : List ℕ) (at : ℕ) → (be32 b at ≡ 0 → ⊥) → (q : TypeArgs) → TypeArgsAt s b q at → Whole b at
unfolding TypeArgsAt
args_whole s b at f no_args a = absurd (f a.zero)
args_whole s b at f (args p ts) a = head_whole a.0

module _ {s b : List ℕ} {at : ℕ} where
  pub args_list : {c : Cursor} → (be32 b at ≡ 0 → ⊥) → HasIn TypeArgsAt type_args s b at c → HasListIn TypeElem brackets (be32 b (at + 9)) s b at c
  unfolding TypeArgsAt type_args
  args_list {c} f h = go h.tree h.held h.room
    where
      go : (q : TypeArgs) → TypeArgsAt s b q at → Room (type_args (given s b) q) c → HasListIn TypeElem brackets (be32 b (at + 9)) s b at c
      go no_args a room = absurd (f a.zero)
      go (args p ts) a room =
          record {
            accepted = h.accepted;
            tree = type_elems (given s b) ts;
            held = list_of a.0 (type_elems_lem s b (stop_at b at) (at + 13) ts a.1);
            span = p;
            ended = a.0.end;
            room = room;
          }

  pub no_args_lem : {x : List ℕ} {c : Cursor} → be32 b at ≡ 0 → LaysAs TypeArgsAt type_args s b at x c x c
  unfolding TypeArgsAt type_args
  no_args_lem {x} {c} e = record { of = go }
    where
      go : (q : TypeArgs) → TypeArgsAt s b q at → Lays (type_args (given s b) q) x c x c
      go no_args a = lays_skip
      go (args p ts) a = absurd (omega (arith, e, a.0.long))

  pub some_args : {x y : List ℕ} {c d : Cursor} → (be32 b at ≡ 0 → ⊥) → LaysList TypeElem brackets (be32 b (at + 9)) s b at x c y d
      → LaysAs TypeArgsAt type_args s b at x c y d
  unfolding TypeArgsAt type_args
  some_args {x} {y} {c} {d} f l = record { of = go }
    where
      go : (q : TypeArgs) → TypeArgsAt s b q at → Lays (type_args (given s b) q) x c y d
      go no_args a = absurd (f a.zero)
      go (args p ts) a = l.of (type_elems (given s b) ts) (list_of a.0 (type_elems_lem s b (stop_at b at) (at + 13) ts a.1)) p a.0.end

module _ (s b : List ℕ) (from to : ℕ) where
  pub some_types : (from ≡ to → ⊥) → to ≤ length b → (ts : Types) → TypesAt s b ts from to → SomeTypesAt b from to
  unfolding TypesAt
  some_types f le no_types a = absurd (f a.same)
  some_types f le (t ∷ᵗ ts) a = record { source = s; first = t; more = ts; held = a; inside = le }

  pub no_types_lem : {x : List ℕ} {c : Cursor} → from ≡ to → (ts : Types) → TypesAt s b ts from to → Lays (variant_types (given s b) ts) x c x c
  unfolding TypesAt
  no_types_lem e no_types a = lays_skip
  no_types_lem e (t ∷ᵗ ts) a = absurd (omega (arith, e, a.1.least, (type_whole s b from t a.0).long))

pub types_laid : {s b : List ℕ} {at r : ℕ} {x y : List ℕ} {c d : Cursor} {n : ℕ} {q : Span} → (at + 13 ≡ stop_at b at → ⊥) → Head s b n q at
    → LastEnd b (at + 13) (stop_at b at) r → LaysList TypeElem parens r s b at x c y d
    → (ts : Types) → TypesAt s b ts (at + 13) (stop_at b at) → Lays (variant_types (given s b) ts) x c y d
unfolding TypesAt
types_laid f h e l no_types a = absurd (f a.same)
types_laid {s} {b} {at} f h e l (t ∷ᵗ ts) a =
    l.of (type_elems (given s b) (t ∷ᵗ ts)) (list_of h (type_elems_lem s b (stop_at b at) (at + 13) (t ∷ᵗ ts) a)) (last_span t ts) (e.of s t ts a)

pub types_list : {s b : List ℕ} {at r : ℕ} {c : Cursor} {n : ℕ} {q : Span} → Readable b → (at + 13 ≡ stop_at b at → ⊥) → Head s b n q at
    → LastEnd b (at + 13) (stop_at b at) r → (ts : Types) → TypesAt s b ts (at + 13) (stop_at b at) → Room (variant_types (given s b) ts) c
    → HasListIn TypeElem parens r s b at c
unfolding TypesAt
types_list k f h e no_types a room = absurd (f a.same)
types_list {s} {b} {at} k f h e (t ∷ᵗ ts) a room =
    record {
      accepted = k;
      tree = type_elems (given s b) (t ∷ᵗ ts);
      held = list_of h (type_elems_lem s b (stop_at b at) (at + 13) (t ∷ᵗ ts) a);
      span = last_span t ts;
      ended = e.of s t ts a;
      room = room;
    }
