-- What a run that is ready gives to each function that a step calls, and that each result follows the machine.
-- Assumes nothing.
use mathlib.Core.Path.{◌≡◌, refl, ap, sym, ◌∙◌, subst}
use Prim.Native.Nat.{ℕ, zero, suc, ◌+◌, ◌*◌, ◌-◌, ◌≤◌, ◌<◌}
use native.Mathlib.Omega.{arith}
use native.Mathlib.Numerals.{add-one}
use mathlib.Core.Bool.{Bool, true, false, cond, ◌&&◌, ◌||◌}
use mathlib.Core.List.{List}
use lib.ListN.{length}
use lib.Dec.{ltb, eqb}
use borrow.Author.Tests.{eqb-true, eqb-false, le-ltb, ltb-true, ltb-false}
use Rattle.renderer.specs.Limits.{BEFORE_ROW, MAX_MARGIN}
use Rattle.rows.specs.Limits.{MAX_ROWS}
use Rattle.rows.specs.Kinds.{GROUP, INDENT, INDENT_NEXT, WRAP_PARENT, CALL}
use Rattle.rows.specs.Places.{KIND, SECOND, AFTER, WIDTH, PLACES}
use Rattle.rows.specs.View.{View, view_of, cell}
use Rattle.rows.specs.Nesting.{Nests, Nested}
use Rattle.rows.proofs.Nested.{nests_le, nests_deep, nests_block, nests_pair, nests_kind, nests_weaken}
use Rattle.renderer_rules.specs.declared.Frame.{Frame}
use Rattle.renderer_rules.specs.Page.{page_of}
use Rattle.renderer_rules.specs.Renderer.{Page, Renderer, on_pen, indent_more, indent_less, next_indent_more, next_indent_less}
use Rattle.renderer_rules.specs.Frames.{frame_at, part_end, part_limit, wrap_at, Open}
use Rattle.renderer_rules.specs.Machine.{closing, closes, frame_of, enter, turn}
use Rattle.renderer_rules.proofs.Opened.{at_top, limit_pos}
use Rattle.renderer_rules.proofs.Machine.{turn_enter}
use Rattle.renderer_rules.specs.Safe.{steps, ins, steps_back, ins_of}
use Rattle.renderer_rules.proofs.Safe.{steps_le, closing_plain, closing_indent, closing_next, closing_call, indent_steps, next_steps, call_steps}
use Rattle.renderer_rules.specs.declared.Pen.{Pen}
use Rattle.renderer.specs.Writing.{set_pen, WritingRoom}
use Rattle.renderer.specs.Run.{Running, machine_of, Follows, Ready, Enters}
use Rattle.renderer.specs.Run.{Entering, Leaves, Backs, Left, goes_on, ends, opened_run}
use Rattle.renderer.proofs.Followed.{shows_as, indent_follows, next_follows, arguments_follows, closed_follows}

pub parts_high : (k : ℕ) → 3 ≤ k → ltb 9 k ≡ (ltb k 3 || ltb 9 k)
parts_high k h = sym (rw (le-ltb k 3 h))

pub with_parts : (k : ℕ) (b : Bool) → b ≡ (ltb k 3 || ltb 9 k) → b ≡ true → 3 ≤ k → 9 < k
with_parts k b e t h = ltb-true 9 k (parts_high k h ∙ sym e ∙ t)

pub without_parts : (k : ℕ) (b : Bool) → b ≡ (ltb k 3 || ltb 9 k) → b ≡ false → (3 ≤ k) × (k ≤ 9)
without_parts k b e f = go (ltb k 3) (ltb 9 k) refl refl (sym e ∙ f)
  where
    go : (x y : Bool) → ltb k 3 ≡ x → ltb 9 k ≡ y → (x || y) ≡ false → (3 ≤ k) × (k ≤ 9)
    go true y p q h = absurd (let z : ◌≡◌ {A = ℕ} 0 1 = cc in omega arith)
    go false true p q h = absurd (let z : ◌≡◌ {A = ℕ} 0 1 = cc in omega arith)
    go false false p q h = (ltb-false k 3 p, ltb-false 9 k q)

pub indents_low : (k : ℕ) → k ≤ 11 → (3 ≤ k → 9 < k) → (k ≡ 11 → ⊥) → (k ≡ 10 → ⊥) → k < 3
indents_low k l h a b = go (ltb k 3) refl
  where
    go : (x : Bool) → ltb k 3 ≡ x → k < 3
    go true p = ltb-true k 3 p
    go false p = absurd (let y = h (ltb-false k 3 p) in omega arith)

module _ (store source image : List ℕ) (max limit stop : ℕ) (marks out : List ℕ) (r : Running) where
  abbrev v : View
  v = view_of store

  abbrev pg : Page
  pg = page_of max source image

  module _ (y : Ready store source image max limit stop marks out r) where
    margin : r.writing.pen.indent + r.writing.pen.next_indent ≤ MAX_MARGIN
    unfolding machine_of
    margin =
        let a = y.safe.sum in
        let b = y.low in
        let c = steps_le v r.frames r.depth in
        let d = y.at.deep in
        omega arith

    column : r.writing.pen.column.0 < BEFORE_ROW
    unfolding machine_of
    column =
        let a = y.safe.column in
        let b = nests_le y.at.good in
        let c = y.at.low in
        let d = y.few in
        omega arith

    bytes : r.writing.at.0 < BEFORE_ROW
    unfolding machine_of
    bytes =
        let a = y.safe.bytes in
        let e = y.wrote.bytes in
        let b = nests_le y.at.good in
        let c = y.at.low in
        let d = y.few in
        omega arith

    pub pen_room : WritingRoom BEFORE_ROW limit out r.writing
    pen_room = record { fits = y.fits; indent = margin; column = column; at = bytes }

    pub top_row : (f : Frame) → 0 < r.depth → f ≡ frame_at r.frames (r.depth - 1) → f.row * PLACES + WIDTH < length store
    top_row f h e =
        let a = (at_top v pg stop r.frames r.depth r.next h y.at).row in
        let b = y.room in
        rw e (omega arith)

    top_few : (f : Frame) → 0 < r.depth → f ≡ frame_at r.frames (r.depth - 1) → f.row < MAX_ROWS
    top_few f h e =
        let a = (at_top v pg stop r.frames r.depth r.next h y.at).row in
        let b = y.few in
        rw e (omega arith)

    range : (from to d : ℕ) → to ≤ stop → Nests v from to d → Nested store from to
    range from to d h g =
        let a = y.room in
        let b = y.few in
        record { room = omega arith; few = omega arith; nests = nests_weaken 0 (omega arith) g }

  module _ (n : Entering store source image max limit stop marks out r) where
    row_in : r.next < stop
    row_in = let a = n.inside in let b = n.ready.at.low in omega arith

    pub enters : Enters store r
    enters =
        let a = row_in in
        let b = n.ready.room in
        let c = n.ready.few in
        record {
          depth = nests_deep n.ready.at.good n.inside;
          row = omega arith;
          few = omega arith;
          indent = margin n.ready;
          column = column n.ready;
        }

    pub group_range : cell store r.next KIND ≡ GROUP → Nested store (r.next + 1) (cell store r.next AFTER)
    unfolding view_of
    group_range k =
        let b = nests_block n.ready.at.good n.inside (omega arith) in
        let w = b.within.to in
        let l = n.ready.at.low in
        rw (add-one r.next) (range n.ready (suc r.next) (cell store r.next AFTER) (suc r.depth) (omega arith) b.parts)

    pub callee_range : cell store r.next KIND ≡ CALL → Nested store (r.next + 1) (cell store r.next SECOND)
    unfolding view_of
    callee_range k =
        let b = nests_pair n.ready.at.good n.inside k in
        let w = b.within.to in
        let s = b.split.to in
        let l = n.ready.at.low in
        rw (add-one r.next) (range n.ready (suc r.next) (cell store r.next SECOND) (suc r.depth) (omega arith) b.first)

    pub argument_range : cell store r.next KIND ≡ CALL → Nested store (cell store r.next SECOND) (cell store r.next AFTER)
    unfolding view_of
    argument_range k =
        let b = nests_pair n.ready.at.good n.inside k in
        let w = b.within.to in
        let l = n.ready.at.low in
        range n.ready (cell store r.next SECOND) (cell store r.next AFTER) (suc r.depth) (omega arith) b.second

    pub kind_low : cell store r.next KIND ≤ CALL
    unfolding view_of
    kind_low = nests_kind n.ready.at.good n.inside

  -- an `Indent` or an `IndentNext`
  pub indents_follow : (kind : ℕ) (q : Running) (w : Bool) → kind ≡ cell store r.next KIND → (kind ≡ GROUP → ⊥) → kind < WRAP_PARENT
      → w ≡ wrap_at r.frames r.depth
      → q
      ≡ opened_run r (frame_of r.next w false) (r.next + 1)
      (set_pen (cond (eqb kind 1) (indent_more w r.writing.pen) (next_indent_more w r.writing.pen)) r.writing)
      → Follows limit (enter v pg) marks out r marks out q
  indents_follow zero q w k a b e o = absurd (a refl)
  indents_follow (suc zero) q w k a b e o = indent_follows store source image max limit marks out r q w (sym k) e o
  indents_follow (suc (suc zero)) q w k a b e o = next_follows store source image max limit marks out r q w (sym k) e o
  indents_follow (suc (suc (suc n))) q w k a b e o = absurd (omega arith)

  -- A turn that enters a row.
  pub turns : (marks2 out2 : List ℕ) (q : Running) → Entering store source image max limit stop marks out r
      → Follows limit (enter v pg) marks out r marks2 out2 q
      → Follows limit (turn v pg) marks out r marks2 out2 q
  unfolding machine_of
  turns marks2 out2 q n g =
      record { goes = λ o b k w. shows_as limit o marks2 out2 q _ _ (turn_enter v pg stop (machine_of r marks b k) n.inside) (g.goes o b k w) }

  module _ (y : Ready store source image max limit stop marks out r) where
    module _ (f : Frame) (h : 0 < r.depth) (i : f ≡ frame_at r.frames (r.depth - 1)) where
      opened_row : Open v stop r.frames (r.depth - 1)
      opened_row = at_top v pg stop r.frames r.depth r.next h y.at

      limit_is : part_limit v stop r.frames r.depth ≡ part_end v f
      limit_is = limit_pos v pg stop r.frames r.depth h ∙ ap (part_end v) (sym i)

      in_depth : (d : ℕ) → r.depth ≡ d → (ins_of v f ≤ r.writing.pen.indent) × (steps_back v f ≤ r.writing.pen.indent + r.writing.pen.next_indent)
      unfolding machine_of steps ins
      in_depth zero e = absurd (omega arith)
      in_depth (suc d) e =
          let k : r.depth - 1 ≡ d = omega arith in
          let j : f ≡ frame_at r.frames d = i ∙ ap (frame_at r.frames) k in
          let s = subst (λ (x : ℕ). r.writing.pen.indent + r.writing.pen.next_indent ≡ y.base + steps v r.frames x) e y.safe.sum in
          let l = subst (λ (x : ℕ). ins v r.frames x ≤ r.writing.pen.indent) e y.safe.low in
          let a = ap (ins_of v) j in
          let b = ap (steps_back v) j in
          (omega arith, omega arith)

      backs : Backs (cell store f.row KIND) f r.writing.pen
      unfolding view_of
      backs =
          let x = in_depth r.depth refl in
          record {
            indent = λ k w. let a = (indent_steps v f true k w).1 in let b = x.0 in omega arith;
            next = λ k w. let a = (next_steps v f true k w).0 in let b = x.1 in omega arith;
            call = λ k w. let a = (call_steps v f true k w).0 in let b = x.1 in omega arith;
          }

      pub leaves : r.next ≡ part_end v f → Leaves store r f
      unfolding view_of
      leaves z =
          record {
            pos = h;
            depth = y.at.deep;
            row = top_row y f h i;
            few = top_few y f h i;
            indent = let m = margin y in omega arith;
            column = column y;
            backs = backs;
            arguments =
                λ k e.
                let w = nests_le opened_row.after in
                let l = opened_row.low in
                let j = ap (λ (x : Frame). v.after x.row) i in
                range y r.next (cell store f.row AFTER) (suc (r.depth - 1)) (omega arith)
                (rw (z, i) opened_row.later);
          }

      closing_closes : (t : Renderer) → (cell store f.row KIND ≡ CALL → f.first ≡ false)
          → closing v pg f t ≡ on_pen (closes (cell store f.row KIND) f.wrap f.deeper) t
      unfolding view_of
      closing_closes t e =
          go (eqb (cell store f.row KIND) INDENT) (eqb (cell store f.row KIND) INDENT_NEXT) (eqb (cell store f.row KIND) CALL) refl refl refl
        where
          go : (a b c : Bool) → eqb (cell store f.row KIND) INDENT ≡ a → eqb (cell store f.row KIND) INDENT_NEXT ≡ b
              → eqb (cell store f.row KIND) CALL ≡ c
              → closing v pg f t
              ≡ on_pen (λ (p : Pen). cond a (indent_less f.wrap p) (cond b (next_indent_less f.wrap p) (cond c (next_indent_less f.deeper p) p))) t
          go true b c p q s = closing_indent v pg f t (eqb-true _ 1 p)
          go false true c p q s = closing_next v pg f t (eqb-true _ 2 q)
          go false false true p q s = closing_call v pg f t (eqb-true _ 11 s) (e (eqb-true _ 11 s))
          go false false false p q s = closing_plain v pg f t (cell store f.row KIND) refl (eqb-false _ 1 p) (eqb-false _ 2 q) (eqb-false _ 11 s)

      not_on : (cell store f.row KIND ≡ CALL → f.first ≡ false) → (eqb (v.kind f.row) CALL && f.first) ≡ false
      unfolding view_of
      not_on e = go (eqb (cell store f.row KIND) CALL) refl
        where
          go : (b : Bool) → eqb (cell store f.row KIND) CALL ≡ b → (b && f.first) ≡ false
          go true q = e (eqb-true _ 11 q)
          go false q = refl

      -- A turn that leaves the innermost row.
      pub left_follows : (marks2 : List ℕ) (q : Running) → r.next ≡ part_end v f → Left store max marks r f marks2 q
          → Follows limit (turn v pg) marks out r marks2 out q
      unfolding view_of
      left_follows marks2 q z (goes_on k e a) = arguments_follows store source image max limit marks out r h f i z marks2 q k e a
      left_follows marks2 q z (ends e m o) =
          subst (λ (x : List ℕ). Follows limit (turn v pg) marks out r x out q) (sym m)
          (closed_follows store source image max limit marks out r h f i z
          (closes (cell store f.row KIND) f.wrap f.deeper)
          q
          (not_on e)
          (λ t. closing_closes t e)
          o)
