-- Lists whose elements are laid by a closure: a closure that lays a part of the syntax tree wherever it stands lays each element of a list.
-- Assumes nothing.
use mathlib.Core.Path.{sym, subst}
use mathlib.Core.List.{List, [], ◌∷◌}
use Prim.Native.Nat.{ℕ, ◌+◌, ◌≤◌}
use native.Mathlib.Omega.{arith}
use denote.Ref.{MutBor}
use Rattle.std.specs.Fn.{Shared}
use Rattle.image.specs.Read.{stop_at}
use Rattle.acts.specs.Act.{Given, Act}
use Rattle.acts.specs.Laid.{Room, Laid}
use Rattle.acts.specs.declared.Cursor.{Cursor}
use Rattle.acts.specs.declared.State.{State}
use Rattle.comments.specs.declared.parsed.Parsed.{Parsed}
use Rattle.layout.specs.declared.forms.ListForm.{ListForm}
use Rattle.layout.specs.Layout.{Elem}
use Rattle.layout.specs.Promises.{Readable, Has, LaidAs}
use Rattle.layout.specs.Elems.{Is, Laying, ElemsAt, ListOf, HasListIn, HasList, LaidList}
use Rattle.layout.proofs.Lays.{LaysList, lays_list}

module _ (P Q : List ℕ → List ℕ → Elem → ℕ → Type 0) {s b : List ℕ} where
  elems_by : (low to : ℕ) → ((e : Elem) (p : ℕ) → low ≤ p → stop_at b p ≤ to → P s b e p → Q s b e p)
      → (es : List Elem) (at : ℕ) → low ≤ at → ElemsAt P s b es at to → ElemsAt Q s b es at to
  unfolding ElemsAt
  elems_by low to f [] at h a = a
  elems_by low to f (e ∷ es) at h a = (
    record { start = a.0.start; long = a.0.long; item = f e at h a.1.least a.0.item },
    a.1,
    elems_by low to f es (stop_at b at) (omega arith) a.2,
  )

  module _ (at : ℕ) (f : (e : Elem) (p : ℕ) → at + 13 ≤ p → stop_at b p ≤ stop_at b at → P s b e p → Q s b e p) where
    list_by : {es : List Elem} → ListOf P s b es at → ListOf Q s b es at
    list_by {es} a =
        record { long = a.long; fits = a.fits; elems = elems_by (at + 13) (stop_at b at) f es (at + 13) (omega arith) a.elems }

    has_by : {form : ListForm} {end : ℕ} {c : Cursor} → HasListIn P form end s b at c → HasListIn Q form end s b at c
    has_by h = record { accepted = h.accepted; tree = h.tree; held = list_by h.held; span = h.span; ended = h.ended; room = h.room }

    lays_by : {form : ListForm} {end : ℕ} {x y : List ℕ} {c d : Cursor} → LaysList Q form end s b at x c y d
        → LaysList P form end s b at x c y d
    lays_by l = record { of = λ es a. l.of es (list_by a) }

-- a closure that lays the parts of a list, each wherever it stands within the list's record
module _ {T : Type 0} (R : List ℕ → List ℕ → T → ℕ → Type 0) (rule : Given → T → Act) {p : Parsed} (at : ℕ)
    {F : Type 0} {g : Shared F (MutBor State × (ℕ × Unit {0})) (Unit {0} × (MutBor State × Unit {0}))} {f : F}
    (takes :
    (i : ℕ) → at + 13 ≤ i → stop_at p.image.now i ≤ stop_at p.image.now at
    → (x : MutBor State) → Has R rule p i x.now.cursor → g.pre f (x, (i, tt)))
    (lays : (i : ℕ) (x y : MutBor State) → g.post f (x, (i, tt)) (tt, (y, tt)) → LaidAs R rule p i x.now y.now) where
  laying : Readable p.image.now → (e : Elem) (i : ℕ) → at + 13 ≤ i → stop_at p.image.now i ≤ stop_at p.image.now at
      → Is R rule p.source.now p.image.now e i → Laying g f p.source.now p.image.now e i
  laying k e i low high t =
      let has : (c : Cursor) → Room e.act c → Has R rule p i c =
      λ c room. record { accepted = k; tree = t.tree; held = t.held; room = subst (λ (r : Act). Room r c) (sym t.same) room } in
      record {
        takes = λ x room. takes i low high x (has x.now.cursor room);
        lays =
            λ x y room r.
            let l = lays i x y r in
            record {
              laid = subst (λ (a : Act). Laid a x.now.store.now x.now.cursor y.now.store.now y.now.cursor) t.same (l.of (has x.now.cursor room));
              same = l.same;
            };
      }

  pub has_each : {form : ListForm} {end : ℕ} {c : Cursor} → HasList (Is R rule) form end p at c → HasList (Laying g f) form end p at c
  has_each h = has_by (Is R rule) (Laying g f) at (laying h.accepted) h

  pub lays_each : Readable p.image.now → {form : ListForm} {end : ℕ} {x y : State} → LaidList (Laying g f) form end p at x y
      → LaysList (Is R rule) form end p.source.now p.image.now at x.store.now x.cursor y.store.now y.cursor
  lays_each k l = lays_by (Is R rule) (Laying g f) at (laying k) (lays_list k l)
