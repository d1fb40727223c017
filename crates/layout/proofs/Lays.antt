-- What layout functions promise, as it is joined: whichever part stands at an offset, its rule is laid where there is room for it. A promise of
-- `Contracts` is made of such a fact, and gives it back.
-- Assumes nothing.
use mathlib.Core.Path.{◌≡◌}
use mathlib.Core.List.{List, []}
use Prim.Native.Nat.{ℕ, ◌≤◌}
use lib.ListN.{length}
use Rattle.ast.specs.Syntax.{Span, Expr}
use Rattle.tree.specs.At.{ExprAt}
use Rattle.acts.specs.Act.{Given, Act}
use Rattle.acts.specs.Laid.{Room}
use Rattle.acts.specs.declared.Cursor.{Cursor}
use Rattle.acts.specs.declared.State.{State}
use Rattle.acts.proofs.Laws.{Lays}
use Rattle.comments.specs.Listed.{given}
use Rattle.comments.specs.declared.parsed.Parsed.{Parsed}
use Rattle.layout.specs.declared.forms.ListForm.{ListForm}
use Rattle.layout.specs.Layout.{Elem, leftmost}
use Rattle.layout.specs.Promises.{Readable, HasIn, LaidAs, LaidAll}
use Rattle.layout.specs.Elems.{ListOf, list_rule, LaidList, LaidEmpty}
use Rattle.layout.specs.Chains.{Above, grown, Filled, LaidTail}

pub record LaysAs {T : Type 0} (R : List ℕ → List ℕ → T → ℕ → Type 0) (rule : Given → T → Act)
    (s b : List ℕ) (at : ℕ) (x : List ℕ) (c : Cursor) (y : List ℕ) (d : Cursor) : Type 0 where
  pub of : (t : T) → R s b t at → Lays (rule (given s b) t) x c y d

pub record LaysAll {T : Type 0} (R : List ℕ → List ℕ → T → ℕ → ℕ → Type 0) (rule : Given → T → Act)
    (s b : List ℕ) (from to : ℕ) (x : List ℕ) (c : Cursor) (y : List ℕ) (d : Cursor) : Type 0 where
  pub of : (t : T) → R s b t from to → Lays (rule (given s b) t) x c y d

pub record LaysList (P : List ℕ → List ℕ → Elem → ℕ → Type 0) (form : ListForm) (end : ℕ)
    (s b : List ℕ) (at : ℕ) (x : List ℕ) (c : Cursor) (y : List ℕ) (d : Cursor) : Type 0 where
  pub of : (es : List Elem) → ListOf P s b es at → (p : Span) → end ≡ p.end → Lays (list_rule form (given s b) es p) x c y d

pub record LaysEmpty (form : ListForm) (end : ℕ) (s b : List ℕ) (x : List ℕ) (c : Cursor) (y : List ℕ) (d : Cursor) : Type 0 where
  pub of : (p : Span) → end ≡ p.end → Lays (list_rule form (given s b) [] p) x c y d

pub record LaysTail (s b : List ℕ) (at left : ℕ) (x : List ℕ) (c : Cursor) (y : List ℕ) (d : Cursor) : Type 0 where
  pub of : (q : ℕ) (e : Expr) → ExprAt s b e at → (l : Expr) (a : Above q s b e at left l) (h : Act) → Lays (grown a (leftmost h)).ops x c y d

module _ {T : Type 0} {rule : Given → T → Act} {p : Parsed} {x y : State} where
  module _ {R : List ℕ → List ℕ → T → ℕ → Type 0} {at : ℕ} where
    pub lays_as : Readable p.image.now → LaidAs R rule p at x y
        → LaysAs R rule p.source.now p.image.now at x.store.now x.cursor y.store.now y.cursor
    lays_as k l = record { of = λ t a. record { does = λ room. l.of (record { accepted = k; tree = t; held = a; room = room }) } }

    pub laid_as : y.store.ghost_name ≡ x.store.ghost_name
        → LaysAs R rule p.source.now p.image.now at x.store.now x.cursor y.store.now y.cursor → LaidAs R rule p at x y
    laid_as e l = record { of = λ h. (l.of h.tree h.held).does h.room; same = e }

  module _ {R : List ℕ → List ℕ → T → ℕ → ℕ → Type 0} {from to : ℕ} where
    pub lays_all : Readable p.image.now → to ≤ length p.image.now → LaidAll R rule p from to x y
        → LaysAll R rule p.source.now p.image.now from to x.store.now x.cursor y.store.now y.cursor
    lays_all k i l = record { of = λ t a. record { does = λ room. l.of (record { accepted = k; tree = t; held = a; inside = i; room = room }) } }

    pub laid_all : y.store.ghost_name ≡ x.store.ghost_name
        → LaysAll R rule p.source.now p.image.now from to x.store.now x.cursor y.store.now y.cursor → LaidAll R rule p from to x y
    laid_all e l = record { of = λ h. (l.of h.tree h.held).does h.room; same = e }

module _ {form : ListForm} {end : ℕ} {p : Parsed} {x y : State} where
  module _ {P : List ℕ → List ℕ → Elem → ℕ → Type 0} {at : ℕ} where
    pub lays_list : Readable p.image.now → LaidList P form end p at x y
        → LaysList P form end p.source.now p.image.now at x.store.now x.cursor y.store.now y.cursor
    lays_list i l =
        record {
          of =
              λ es a q e.
              record { does = λ room. l.of (record { accepted = i; tree = es; held = a; span = q; ended = e; room = room }) };
        }

    pub laid_list : y.store.ghost_name ≡ x.store.ghost_name
        → LaysList P form end p.source.now p.image.now at x.store.now x.cursor y.store.now y.cursor → LaidList P form end p at x y
    laid_list e l = record { of = λ h. (l.of h.tree h.held h.span h.ended).does h.room; same = e }

  pub lays_empty : Readable p.image.now → LaidEmpty form end p x y
      → LaysEmpty form end p.source.now p.image.now x.store.now x.cursor y.store.now y.cursor
  lays_empty i l = record { of = λ q e. record { does = λ room. l.of (record { accepted = i; span = q; ended = e; room = room }) } }

  pub laid_empty : y.store.ghost_name ≡ x.store.ghost_name
      → LaysEmpty form end p.source.now p.image.now x.store.now x.cursor y.store.now y.cursor → LaidEmpty form end p x y
  laid_empty e l = record { of = λ h. (l.of h.span h.ended).does h.room; same = e }

module _ {p : Parsed} {at left : ℕ} {ops : List ℕ} {x y : State} where
  pub lays_tail : Readable p.image.now → Filled ops at left → LaidTail p at left ops x y
      → LaysTail p.source.now p.image.now at left x.store.now x.cursor y.store.now y.cursor
  lays_tail k f l =
      record {
        of =
            λ q e i j a h.
            record {
              does =
                  λ room.
                  l.of
                  (record {
                    accepted = k;
                    tree = e;
                    held = i;
                    precedence = q;
                    low = j;
                    above = a;
                    filled = f;
                    head = h;
                    room = room;
                  });
            };
      }

  pub laid_tail : y.store.ghost_name ≡ x.store.ghost_name
      → LaysTail p.source.now p.image.now at left x.store.now x.cursor y.store.now y.cursor → LaidTail p at left ops x y
  laid_tail e l = record { of = λ h. (l.of h.precedence h.tree h.held h.low h.above h.head).does h.room; same = e }

-- a part that stands there, with room for another rule at another cursor
pub has_at : {T : Type 0} {R : List ℕ → List ℕ → T → ℕ → Type 0} {rule rule' : Given → T → Act} {s b : List ℕ} {at : ℕ} {c d : Cursor}
    (h : HasIn R rule s b at c) → Room (rule' (given s b) h.tree) d → HasIn R rule' s b at d
has_at h room = record { accepted = h.accepted; tree = h.tree; held = h.held; room = room }
