-- Laws of identifiers one after the other, and of an identifier's text.
-- Assumes nothing.
use mathlib.Core.Path.{◌≡◌, sym, ap, subst, ◌∙◌}
use mathlib.Core.Bool.{Bool}
use mathlib.Core.List.{List, [], ◌∷◌}
use Prim.Native.Nat.{ℕ, ◌+◌, ◌-◌, ◌≤◌, ◌<◌}
use native.Mathlib.Omega.{arith}
use lib.ListN.{length}
use Rattle.image.specs.Read.{width_bytes, stored_width, stop_at}
use Rattle.ast.specs.Syntax.{Ident}
use Rattle.tree.specs.At.{IdentAt, IdentsAt}
use Rattle.rows.specs.Node.{str}
use Rattle.acts.specs.Act.{Act, push, ◌⨟◌}
use Rattle.acts.specs.Laid.{text, Room}
use Rattle.acts.specs.declared.Cursor.{Cursor}
use Rattle.acts.proofs.Laws.{Lays, lays_then, lays_skip, room_first, room_next}
use Rattle.comments.specs.Listed.{given}
use Rattle.comments.specs.AllIn.{AllIn}
use Rattle.comments.proofs.Offsets.{in_first, in_none}
use Rattle.layout.specs.Layout.{ident, path_next, path_more}
use Rattle.layout.specs.Promises.{Readable, HasIn, HasAllIn}
use Rattle.layout.proofs.Lays.{LaysAll, LaysAs}

-- the text that the numbers of its record say
module _ {s b : List ℕ} {at v w f n : ℕ} {i : Ident} (a : IdentAt s b i at)
    (p : w ≡ stored_width b at) (e : v ≡ width_bytes b) (q : f ≡ at + 13 + v) (r : n ≡ stop_at b at - f) where
  same : push (str w (text 1 f n)) ≡ ident (given s b) i
  same =
      let wide : w ≡ i.width = p ∙ a.wide in
      let h : f ≡ i.start = q ∙ ap (λ (x : ℕ). at + 13 + x) e ∙ a.starts in
      let k : n ≡ i.size = omega (arith, a.ends, a.starts) in
      rw (wide, h, k)

  pub ident_room : {c : Cursor} → Room (ident (given s b) i) c → Room (push (str w (text 1 f n))) c
  ident_room {c} room = subst (λ (z : Act). Room z c) (sym same) room

  pub ident_laid : {x y : List ℕ} {c d : Cursor} → Lays (push (str w (text 1 f n))) x c y d → Lays (ident (given s b) i) x c y d
  ident_laid {x} {y} {c} {d} l = subst (λ (z : Act). Lays z x c y d) same l

-- the first of the identifiers that are left, and those after it
pub record More (breaks : Bool) (s b : List ℕ) (p to : ℕ) (c : Cursor) : Type 0 where
  pub accepted : Readable b
  pub first : Ident
  pub held : IdentAt s b first p
  pub least : stop_at b p ≤ to
  pub inside : to ≤ length b
  pub rest : List Ident
  pub rest_held : IdentsAt s b rest (stop_at b p) to
  pub room : Room (path_next (given s b) breaks first ⨟ path_more (given s b) breaks rest) c

module _ (breaks : Bool) {s b : List ℕ} {p to : ℕ} {c : Cursor} where
  pub idents_first : p < to → HasAllIn IdentsAt (λ g. path_more g breaks) s b p to c → More breaks s b p to c
  unfolding IdentsAt path_more
  idents_first lt h = go h.tree h.held h.room
    where
      go : (is : List Ident) → IdentsAt s b is p to → Room (path_more (given s b) breaks is) c → More breaks s b p to c
      go [] a room = absurd (omega (arith, a.same))
      go (i ∷ is) a room =
          record {
            accepted = h.accepted;
            first = i;
            held = a.0;
            least = a.1.least;
            inside = h.inside;
            rest = is;
            rest_held = a.2;
            room = room;
          }

  pub first_has : More breaks s b p to c → HasIn IdentAt (λ g. path_next g breaks) s b p c
  first_has m = record { accepted = m.accepted; tree = m.first; held = m.held; room = room_first _ m.room }

  pub rest_has : {x y : List ℕ} {d : Cursor} (m : More breaks s b p to c) → LaysAs IdentAt (λ g. path_next g breaks) s b p x c y d
      → HasAllIn IdentsAt (λ g. path_more g breaks) s b (stop_at b p) to d
  rest_has m l =
      record {
        accepted = m.accepted;
        tree = m.rest;
        held = m.rest_held;
        inside = m.inside;
        room = room_next m.room (l.of m.first m.held);
      }

module _ {s b : List ℕ} {p to : ℕ} where
  module _ (breaks : Bool) {x : List ℕ} {c : Cursor} where
    pub idents_none : to ≤ p → LaysAll IdentsAt (λ g. path_more g breaks) s b p to x c x c
    unfolding IdentsAt path_more
    idents_none h = record { of = go }
      where
        go : (is : List Ident) → IdentsAt s b is p to → Lays (path_more (given s b) breaks is) x c x c
        go [] a = lays_skip
        go (i ∷ is) a = absurd (omega (arith, a.0.head.long, a.1.least))

  module _ (breaks : Bool) {x y z : List ℕ} {c d e : Cursor} where
    pub idents_more : p < to → LaysAs IdentAt (λ g. path_next g breaks) s b p x c y d
        → LaysAll IdentsAt (λ g. path_more g breaks) s b (stop_at b p) to y d z e → LaysAll IdentsAt (λ g. path_more g breaks) s b p to x c z e
    unfolding IdentsAt path_more
    idents_more lt l m = record { of = go }
      where
        go : (is : List Ident) → IdentsAt s b is p to → Lays (path_more (given s b) breaks is) x c z e
        go [] a = absurd (omega (arith, a.same))
        go (i ∷ is) a = lays_then (l.of i a.0) (m.of is a.2)

-- identifiers one after the other lie in the image
pub idents_in : (s b : List ℕ) (from to : ℕ) (is : List Ident) → to ≤ length b → IdentsAt s b is from to → AllIn b from to
unfolding IdentsAt
idents_in s b from to [] h a = in_none b from to (omega (arith, a.same))
idents_in s b from to (i ∷ is) h a =
    in_first b from to (omega (arith, a.0.head.long, a.1.least)) (omega (arith, a.1.least, h)) (idents_in s b (stop_at b from) to is h a.2)
