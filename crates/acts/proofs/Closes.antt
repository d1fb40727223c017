-- Laws of nodes with parts, from state to state: a node is opened, its parts are laid, and it is closed. The row that `open` returned is the
-- one that is closed, and closing leaves the cursor where it is.
-- Assumes nothing.
use mathlib.Core.Path.{◌≡◌, sym, ap, subst, ◌∙◌}
use mathlib.Core.List.{List}
use Prim.Native.Nat.{ℕ, ◌+◌, ◌-◌, ◌*◌}
use native.Mathlib.Omega.{arith}
use lib.ListN.{set}
use Rattle.rows.specs.Node.{Node, if_wrap}
use Rattle.rows.specs.Rows.{no_text}
use Rattle.acts.specs.Act.{Act, push, grouped, indented, indented_next, called}
use Rattle.acts.specs.declared.Cursor.{Cursor}
use Rattle.acts.specs.declared.State.{State}
use Rattle.acts.specs.declared.parts.Branch.TheVariants.{Group, Indent, IndentNext, Call}
use Rattle.acts.specs.Laid.{Room, Laid}
use Rattle.acts.specs.Does.{Does, Opens, Marks, Pushed}
use Rattle.acts.proofs.Laws.{Lays}
use Rattle.acts.proofs.Nested.{lays_group, lays_indent, lays_indent_next, lays_called, laid_if_wrap}

-- the place that is set, where the row is another by name
pub at_row : {place r q to : ℕ} {u v : State} → r ≡ q → Marks place r to u v → v.store.now ≡ set u.store.now (9 * q + place) to
at_row {place} {to = to} {u = u} {v = v} e m = subst (λ (x : ℕ). v.store.now ≡ set u.store.now (9 * x + place) to) e m.stored

-- a step that ends with a row's closing
ends : {a : Act} {s : List ℕ} {c : Cursor} {r to : ℕ} {u v : State} → Marks 4 r to u v → Lays a s c v.store.now u.cursor
    → Lays a s c v.store.now v.cursor
ends {a} {s} {c} {v = v} m l = subst (λ (x : Cursor). Lays a s c v.store.now x) (sym m.stays) l

-- the same of what is laid, and of room, and a step that goes on from there
pub laid_stays : {a : Act} {place r to : ℕ} {s : List ℕ} {c : Cursor} {u v : State} → Marks place r to u v → Laid a s c v.store.now u.cursor
    → Laid a s c v.store.now v.cursor
laid_stays {a} {s = s} {c = c} {v = v} m l = subst (λ (x : Cursor). Laid a s c v.store.now x) (sym m.stays) l

pub room_stays : {a : Act} {place r to : ℕ} {u v : State} → Marks place r to u v → Room a u.cursor → Room a v.cursor
room_stays {a} m room = subst (λ (x : Cursor). Room a x) (sym m.stays) room

pub laid_from : {a : Act} {place r to : ℕ} {s : List ℕ} {c : Cursor} {u v : State} → Marks place r to u v → Laid a v.store.now v.cursor s c
    → Laid a v.store.now u.cursor s c
laid_from {a} {s = s} {c = c} {v = v} m l = subst (λ (x : Cursor). Laid a v.store.now x s c) m.stays l

-- the row of an indent, from inside it
pub indent_at : {r : ℕ} {s t : State} → Opens Indent s t r → r ≡ t.cursor.row - 1
indent_at o = omega (arith, o.row, ap (λ (x : Cursor). x.row) o.opened.moved)

pub closes_group : (a : ℕ → Act) {r : ℕ} {s t u v : State} → Opens Group s t r
    → Lays (a s.cursor.number) t.store.now t.cursor u.store.now u.cursor → Marks 4 r u.cursor.row u v
    → Lays (grouped a) s.store.now s.cursor v.store.now v.cursor
closes_group a o l m = ends m (lays_group a o.opened l (at_row o.row m))

pub closes_indent : {a : Act} {r : ℕ} {s t u v : State} → Opens Indent s t r
    → Lays a t.store.now t.cursor u.store.now u.cursor → Marks 4 r u.cursor.row u v
    → Lays (indented a) s.store.now s.cursor v.store.now v.cursor
closes_indent o l m = ends m (lays_indent o.opened l (at_row o.row m))

pub closes_indent_next : {a : Act} {r : ℕ} {s t u v : State} → Opens IndentNext s t r
    → Lays a t.store.now t.cursor u.store.now u.cursor → Marks 4 r u.cursor.row u v
    → Lays (indented_next a) s.store.now s.cursor v.store.now v.cursor
closes_indent_next o l m = ends m (lays_indent_next o.opened l (at_row o.row m))

-- both parts of a call, whose second part starts where the first ends
pub closes_call : {a b : Act} {r second : ℕ} {s t v w x : State} {y : List ℕ} {d : Cursor} → Opens Call s t r
    → Lays a t.store.now t.cursor y d → second ≡ d.row → Lays b y d v.store.now v.cursor
    → Marks 3 r second v w → Marks 4 r w.cursor.row w x → Lays (called a b) s.store.now s.cursor x.store.now x.cursor
closes_call {a} {b} {second = second} {s} {t} {v} {w} {x} {y} {d} o p e q m n =
    let e₃ : w.store.now ≡ set v.store.now (9 * s.cursor.row + 3) d.row =
    at_row o.row m ∙ ap (λ (i : ℕ). set v.store.now (9 * s.cursor.row + 3) i) e in
    let e₄ : x.store.now ≡ set w.store.now (9 * s.cursor.row + 4) v.cursor.row =
    at_row o.row n ∙ ap (λ (c : Cursor). set w.store.now (9 * s.cursor.row + 4) c.row) m.stays in
    subst (λ (c : Cursor). Lays (called a b) s.store.now s.cursor x.store.now c) (sym (n.stays ∙ m.stays))
    (lays_called o.opened p q e₃ e₄)

-- the same for `IfWrap`, whose parts are a node each
pub closes_if_wrap : {n : ℕ} {x y : Node} {s t u v w z : State} → Pushed 10 n 0 no_text 0 s t → Does (push x) t u → Does (push y) u v
    → Marks 3 s.cursor.row u.cursor.row v w → Marks 4 s.cursor.row w.cursor.row w z → Does (push (if_wrap n x y)) s z
closes_if_wrap {n} {x} {y} {s} {t} {u} {v} {w} {z} o p q m k =
    let e₄ : z.store.now ≡ set w.store.now (9 * s.cursor.row + 4) v.cursor.row =
    k.stored ∙ ap (λ (c : Cursor). set w.store.now (9 * s.cursor.row + 4) c.row) m.stays in
    record {
      laid =
          subst (λ (c : Cursor). Laid (push (if_wrap n x y)) s.store.now s.cursor z.store.now c) (sym (k.stays ∙ m.stays))
          (laid_if_wrap o.written p.laid q.laid m.stored e₄);
      same = k.same ∙ m.same ∙ q.same ∙ p.same ∙ o.same;
    }
