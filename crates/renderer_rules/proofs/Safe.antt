-- What keeps the machine's numbers in range: `indent` and `next_indent` together are what they were at first and the steps of the open rows,
-- so that no step back goes under 0; the column and the bytes grow by less than 2 ^ 34 a row.
-- Assumes nothing.
use mathlib.Core.Path.{◌≡◌, refl, ap, ap₂, sym, ◌∙◌, subst}
use Prim.Native.Nat.{ℕ, zero, suc, ◌+◌, ◌*◌, ◌-◌, ◌≤◌, ◌<◌}
use native.Mathlib.Omega.{arith}
use mathlib.Core.Bool.{Bool, true, false, cond, not, ◌&&◌, ◌||◌}
use mathlib.Core.List.{List, [], ◌∷◌, ◌++◌}
use lib.ListN.{length, set, replicate, length-append, length-replicate}
use lib.Dec.{ltb, eqb}
use borrow.Author.Tests.{eqb-true, eqb-false, ne_eqb, ltb-true, ltb-false}
use Rattle.rows.specs.Kinds.{GROUP, INDENT, INDENT_NEXT, WRAP_PARENT, LINE_OR_SPACE, IF_WRAP, CALL}
use Rattle.rows.specs.Node.{wrapped}
use Rattle.rows.specs.View.{View, nodes_at, node_at}
use Rattle.rows.proofs.Decode.{node_parent, node_comment, node_str, node_ascii, node_line, node_empty, node_space}
use Rattle.rows.proofs.Nested.{nests_le, nests_two, nests_kind, nests_deep}
use Rattle.laws.proofs.Booleans.{both}
use Rattle.renderer_rules.specs.declared.Frame.{Frame}
use Rattle.renderer_rules.specs.declared.Pen.{Pen}
use Rattle.renderer_rules.specs.Renderer.{Page, Renderer, with_buf, with_next_indent, on_pen, on_new_line, push_str, at_column}
use Rattle.renderer_rules.specs.Renderer.{new_line, margin, comment, text, insert, indent_more, indent_less, next_indent_more}
use Rattle.renderer_rules.specs.Renderer.{next_indent_less, group_wraps, trailing_call, callee_wraps, render_node}
use Rattle.renderer_rules.proofs.Margin.{render_kept}
use Rattle.renderer_rules.specs.Frames.{frame_at, part_end, part_limit, wrap_at, At}
use Rattle.renderer_rules.specs.Machine.{Machine, opened, reopened, closed_to, frame_of, call_frame, closing, first_part, second_part, enter_group}
use Rattle.renderer_rules.specs.Machine.{enter_indent, enter_next, enter_leaf, enter_if, enter_call, enter, leave, turn_at, turn}
use Rattle.renderer_rules.specs.Limits.{START_MARGIN}
use Rattle.renderer_rules.specs.Safe.{one_if, steps_back, ins_of, steps, ins, SmallTexts, Safe}
use Rattle.renderer_rules.proofs.Meaning.{frame_other, frame_same}
use Rattle.renderer_rules.proofs.Opened.{at_top_suc}
use Rattle.renderer_rules.proofs.Machine.{Fine, is_done, not_done, in_part}

pub bit_le : (b : Bool) → one_if b ≤ 1
bit_le true = omega arith
bit_le false = omega arith

step_le : (v : View) (f : Frame) → steps_back v f ≤ 1
unfolding steps_back
step_le v f =
    bit_le ((eqb (v.kind f.row) INDENT && f.wrap) || ((eqb (v.kind f.row) INDENT_NEXT && f.wrap) || (eqb (v.kind f.row) CALL && f.deeper)))

or_ge : (a b : Bool) → one_if a ≤ one_if (a || b)
or_ge true b = omega arith
or_ge false true = omega arith
or_ge false false = omega arith

pub in_le : (v : View) (f : Frame) → ins_of v f ≤ steps_back v f
unfolding ins_of steps_back
in_le v f = or_ge (eqb (v.kind f.row) INDENT && f.wrap) ((eqb (v.kind f.row) INDENT_NEXT && f.wrap) || (eqb (v.kind f.row) CALL && f.deeper))

pub steps_le : (v : View) (fs : List Frame) (d : ℕ) → steps v fs d ≤ d
unfolding steps
steps_le v fs zero = omega arith
steps_le v fs (suc d) = let a = steps_le v fs d in let b = step_le v (frame_at fs d) in omega arith

pub ins_le : (v : View) (fs : List Frame) (d : ℕ) → ins v fs d ≤ steps v fs d
unfolding ins steps
ins_le v fs zero = omega arith
ins_le v fs (suc d) = let a = ins_le v fs d in let b = in_le v (frame_at fs d) in omega arith

-- what the end of a row does, by its kind
pub closing_plain : (v : View) (pg : Page) (f : Frame) (s : Renderer) (k : ℕ) → v.kind f.row ≡ k → (k ≡ 1 → ⊥) → (k ≡ 2 → ⊥)
    → (k ≡ 11 → ⊥)
    → closing v pg f s ≡ s
unfolding closing
closing_plain v pg f s zero e a b c = rw e
closing_plain v pg f s (suc zero) e a b c = absurd (a refl)
closing_plain v pg f s (suc (suc zero)) e a b c = absurd (b refl)
closing_plain v pg f s (suc (suc (suc zero))) e a b c = rw e
closing_plain v pg f s (suc (suc (suc (suc zero)))) e a b c = rw e
closing_plain v pg f s (suc (suc (suc (suc (suc zero))))) e a b c = rw e
closing_plain v pg f s (suc (suc (suc (suc (suc (suc zero)))))) e a b c = rw e
closing_plain v pg f s (suc (suc (suc (suc (suc (suc (suc zero))))))) e a b c = rw e
closing_plain v pg f s (suc (suc (suc (suc (suc (suc (suc (suc zero)))))))) e a b c = rw e
closing_plain v pg f s (suc (suc (suc (suc (suc (suc (suc (suc (suc zero))))))))) e a b c = rw e
closing_plain v pg f s (suc (suc (suc (suc (suc (suc (suc (suc (suc (suc zero)))))))))) e a b c = rw e
closing_plain v pg f s (suc (suc (suc (suc (suc (suc (suc (suc (suc (suc (suc zero))))))))))) e a b c = absurd (c refl)
closing_plain v pg f s (suc (suc (suc (suc (suc (suc (suc (suc (suc (suc (suc (suc k)))))))))))) e a b c = rw e

pub closing_indent : (v : View) (pg : Page) (f : Frame) (s : Renderer) → v.kind f.row ≡ INDENT → closing v pg f s ≡ on_pen (indent_less f.wrap) s
unfolding closing
closing_indent v pg f s k = rw k

pub closing_next : (v : View) (pg : Page) (f : Frame) (s : Renderer) → v.kind f.row ≡ INDENT_NEXT
    → closing v pg f s ≡ on_pen (next_indent_less f.wrap) s
unfolding closing
closing_next v pg f s k = rw k

pub closing_call : (v : View) (pg : Page) (f : Frame) (s : Renderer) → v.kind f.row ≡ CALL
    → f.first ≡ false → closing v pg f s ≡ on_pen (next_indent_less f.deeper) s
unfolding closing
closing_call v pg f s k e = rw (k, e)

pub plain_step : (v : View) (f : Frame) → (v.kind f.row ≡ INDENT → ⊥) → (v.kind f.row ≡ INDENT_NEXT → ⊥)
    → (v.kind f.row ≡ CALL → ⊥) → steps_back v f ≡ 0
unfolding steps_back
plain_step v f a b c = rw (ne_eqb (v.kind f.row) INDENT a, ne_eqb (v.kind f.row) INDENT_NEXT b, ne_eqb (v.kind f.row) CALL c)

pub indent_steps : (v : View) (f : Frame) (b : Bool) → v.kind f.row ≡ INDENT → f.wrap ≡ b → (steps_back v f ≡ one_if b) × (ins_of v f ≡ one_if b)
unfolding steps_back ins_of
indent_steps v f true k e = (rw (k, e), rw (k, e))
indent_steps v f false k e = (rw (k, e), rw (k, e))

pub next_steps : (v : View) (f : Frame) (b : Bool) → v.kind f.row ≡ INDENT_NEXT → f.wrap ≡ b → (steps_back v f ≡ one_if b) × (ins_of v f ≡ 0)
unfolding steps_back ins_of
next_steps v f true k e = (rw (k, e), rw k)
next_steps v f false k e = (rw (k, e), rw k)

pub call_steps : (v : View) (f : Frame) (b : Bool) → v.kind f.row ≡ CALL → f.deeper ≡ b → (steps_back v f ≡ one_if b) × (ins_of v f ≡ 0)
unfolding steps_back ins_of
call_steps v f true k e = (rw (k, e), rw k)
call_steps v f false k e = (rw (k, e), rw k)

-- how far the column and the bytes grow
pub record Grows (k : ℕ) (s t : Renderer) : Type 0 where
  pub column : t.pen.column.0 ≤ s.pen.column.0 + 4 * s.pen.indent + k
  pub bytes : length t.buf ≤ length s.buf + 4 * s.pen.indent + k

grows_more : (k l : ℕ) (s t : Renderer) → k ≤ l → Grows k s t → Grows l s t
grows_more k l s t h g = let a = g.column in let b = g.bytes in record { column = omega arith; bytes = omega arith }

text_grows : (x : List ℕ) (w : ℕ) (s : Renderer) → Grows (length x + w) s (text x w s)
unfolding text push_str at_column margin
text_grows x w s = go (ltb 0 s.pen.column.0)
  where
    line : Bool → Renderer
    line b = cond b s (at_column (4 * s.pen.indent) (push_str (replicate (4 * s.pen.indent) 0x20) s))

    go : (b : Bool) → Grows (length x + w) s (at_column ((line b).pen.column.0 + w) (push_str x (line b)))
    go true = record { column = omega arith; bytes = simp length-append (omega arith) }
    go false = record { column = omega arith; bytes = simp (length-append, length-replicate) (omega arith) }

comment_grows : (x : List ℕ) (s : Renderer) → Grows (length x + 2) s (comment x s)
unfolding comment push_str at_column margin
comment_grows x s = go (ltb 0 s.pen.column.0)
  where
    line : Bool → Renderer
    line b = cond b (push_str (0x20 ∷ []) s) (at_column (4 * s.pen.indent) (push_str (replicate (4 * s.pen.indent) 0x20) s))

    go : (b : Bool) → Grows (length x + 2) s (at_column 0 (push_str (x ++ (0x0A ∷ [])) (line b)))
    go true = record { column = omega arith; bytes = simp length-append (omega arith) }
    go false = record { column = omega arith; bytes = simp (length-append, length-replicate) (omega arith) }

line_grows : (s : Renderer) → Grows 1 s (new_line s)
unfolding new_line
line_grows s = go (ltb 0 s.pen.column.0)
  where
    go : (b : Bool) → Grows 1 s (on_pen on_new_line (with_buf (s.buf ++ cond b (0x0A ∷ []) []) s))
    go true = record { column = omega arith; bytes = simp length-append (omega arith) }
    go false = record { column = omega arith; bytes = simp length-append (omega arith) }

empty_grows : (s : Renderer) → Grows 2 s (new_line (push_str (0x0A ∷ []) s))
unfolding push_str
empty_grows s =
    let g = line_grows (push_str (0x0A ∷ []) s) in
    let b = g.bytes in
    let c = g.column in
    let l = length-append s.buf (0x0A ∷ []) in
    record { column = omega arith; bytes = omega arith }

still_grows : (s : Renderer) → Grows 0 s s
still_grows s = record { column = omega arith; bytes = omega arith }

cond_grows : (k : ℕ) (b : Bool) (s t u : Renderer) → Grows k s t → Grows k s u → Grows k s (cond b t u)
cond_grows k true s t u p q = p
cond_grows k false s t u p q = q

leaf_grows : (v : View) (pg : Page) (i : ℕ) (w : Bool) (s : Renderer) (k : ℕ) → SmallTexts v pg → v.kind i ≡ k → 3 ≤ k → k ≤ 9
    → Grows 8589934592 s (render_node pg (node_at v i) w s)
unfolding render_node
leaf_grows v pg i w s zero m e a b = absurd (omega arith)
leaf_grows v pg i w s (suc zero) m e a b = absurd (omega arith)
leaf_grows v pg i w s (suc (suc zero)) m e a b = absurd (omega arith)
leaf_grows v pg i w s (suc (suc (suc zero))) m e a b = rw (node_parent v i e) (grows_more 0 8589934592 s s (omega arith) (still_grows s))
leaf_grows v pg i w s (suc (suc (suc (suc zero)))) m e a b =
    let h = m.bytes i in
    rw (node_comment v i e)
    (grows_more (length (pg.bytes (v.text i)) + 2) 8589934592 s (comment (pg.bytes (v.text i)) s) (omega arith) (comment_grows (pg.bytes (v.text i)) s))
leaf_grows v pg i w s (suc (suc (suc (suc (suc zero))))) m e a b =
    let h = m.bytes i in
    let g = m.width i in
    rw (node_str v i e)
    (grows_more (length (pg.bytes (v.text i)) + v.width i) 8589934592 s
    (text (pg.bytes (v.text i)) (v.width i) s)
    (omega arith)
    (text_grows (pg.bytes (v.text i)) (v.width i) s))
leaf_grows v pg i w s (suc (suc (suc (suc (suc (suc zero)))))) m e a b =
    let h = m.bytes i in
    let g = m.columns i in
    rw (node_ascii v i e)
    (grows_more (length (pg.bytes (v.text i)) + pg.columns (v.text i)) 8589934592 s
    (text (pg.bytes (v.text i)) (pg.columns (v.text i)) s)
    (omega arith)
    (text_grows (pg.bytes (v.text i)) (pg.columns (v.text i)) s))
leaf_grows v pg i w s (suc (suc (suc (suc (suc (suc (suc zero))))))) m e a b =
    rw (node_line v i e)
    (cond_grows 8589934592 w s
    (new_line s)
    s
    (grows_more 1 8589934592 s (new_line s) (omega arith) (line_grows s))
    (grows_more 0 8589934592 s s (omega arith) (still_grows s)))
leaf_grows v pg i w s (suc (suc (suc (suc (suc (suc (suc (suc zero)))))))) m e a b =
    rw (node_empty v i e) (grows_more 2 8589934592 s (new_line (push_str (0x0A ∷ []) s)) (omega arith) (empty_grows s))
leaf_grows v pg i w s (suc (suc (suc (suc (suc (suc (suc (suc (suc zero))))))))) m e a b =
    rw (node_space v i e)
    (cond_grows 8589934592 w s
    (new_line s)
    (text (0x20 ∷ []) 1 s)
    (grows_more 1 8589934592 s (new_line s) (omega arith) (line_grows s))
    (grows_more 2 8589934592 s (text (0x20 ∷ []) 1 s) (omega arith) (text_grows (0x20 ∷ []) 1 s)))
leaf_grows v pg i w s (suc (suc (suc (suc (suc (suc (suc (suc (suc (suc n)))))))))) m e a b = absurd (omega arith)

module _ (v : View) (pg : Page) (stop : ℕ) where
  steps_set : (fs : List Frame) (k d : ℕ) (f : Frame) → d ≤ k → steps v (set fs k f) d ≡ steps v fs d
  unfolding steps
  steps_set fs k zero f h = refl
  steps_set fs k (suc d) f h = ap₂ ◌+◌ (ap (steps_back v) (frame_other v pg stop fs k d f h)) (steps_set fs k d f (omega arith))

  ins_set : (fs : List Frame) (k d : ℕ) (f : Frame) → d ≤ k → ins v (set fs k f) d ≡ ins v fs d
  unfolding ins
  ins_set fs k zero f h = refl
  ins_set fs k (suc d) f h = ap₂ ◌+◌ (ap (ins_of v) (frame_other v pg stop fs k d f h)) (ins_set fs k d f (omega arith))

  steps_top : (fs : List Frame) (d : ℕ) (f : Frame) → d < length fs → steps v (set fs d f) (suc d) ≡ steps_back v f + steps v fs d
  unfolding steps
  steps_top fs d f h = ap₂ (λ (x : Frame) (n : ℕ). steps_back v x + n) (frame_same v pg stop fs d f h) (steps_set fs d d f (omega arith))

  ins_top : (fs : List Frame) (d : ℕ) (f : Frame) → d < length fs → ins v (set fs d f) (suc d) ≡ ins_of v f + ins v fs d
  unfolding ins
  ins_top fs d f h = ap₂ (λ (x : Frame) (n : ℕ). ins_of v x + n) (frame_same v pg stop fs d f h) (ins_set fs d d f (omega arith))

  steps_suc : (fs : List Frame) (d : ℕ) → steps v fs (suc d) ≡ steps_back v (frame_at fs d) + steps v fs d
  unfolding steps
  steps_suc fs d = refl

  ins_suc : (fs : List Frame) (d : ℕ) → ins v fs (suc d) ≡ ins_of v (frame_at fs d) + ins v fs d
  unfolding ins
  ins_suc fs d = refl

  opened_safe : (base : ℕ) (m : Machine) (f : Frame) (k : ℕ) (t : Renderer) (x z : ℕ) → Safe v base m → m.depth < length m.frames
      → steps_back v f ≡ x
      → ins_of v f ≡ z
      → m.next ≤ k
      → t.pen.indent + t.pen.next_indent ≡ m.state.pen.indent + m.state.pen.next_indent + x
      → m.state.pen.indent + z ≤ t.pen.indent
      → t.pen.column.0 ≡ m.state.pen.column.0
      → t.buf ≡ m.state.buf
      → Safe v base (opened m f k t)
  opened_safe base m f k t x z s h a b n c e p q =
      let u = steps_top m.frames m.depth f h in
      let w = ins_top m.frames m.depth f h in
      let l = s.sum in
      let o = s.low in
      let g = s.column in
      let y = s.bytes in
      let j = ap length q in
      record { sum = omega arith; low = omega arith; column = omega arith; bytes = omega arith }

  module _ (base : ℕ) (m : Machine) (a : Fine v pg stop m) (h : m.next < part_limit v stop m.frames m.depth) (s : Safe v base m) where
    roomy : m.depth < length m.frames
    roomy = rw a.size (nests_deep a.good h)

    group_safe : v.kind m.next ≡ GROUP → Safe v base (enter_group v pg m)
    unfolding enter_group insert steps_back ins_of
    group_safe k =
        opened_safe base m _ _ _ 0 0 s roomy (rw k) (rw k) (omega arith) (omega arith) (omega arith) refl refl

    indent_step : (b : Bool) → v.kind m.next ≡ INDENT → steps_back v (frame_of m.next b false) ≡ one_if b
    unfolding steps_back
    indent_step true k = rw k
    indent_step false k = rw k

    next_step : (b : Bool) → v.kind m.next ≡ INDENT_NEXT → steps_back v (frame_of m.next b false) ≡ one_if b
    unfolding steps_back
    next_step true k = rw k
    next_step false k = rw k

    call_step : (w b x : Bool) → v.kind m.next ≡ CALL → steps_back v (call_frame m.next w true b x) ≡ one_if b
    unfolding steps_back
    call_step w true x k = rw k
    call_step w false x k = rw k

    if_step : (w b : Bool) → v.kind m.next ≡ IF_WRAP → steps_back v (frame_of m.next w b) ≡ 0
    unfolding steps_back
    if_step w b k = rw k

    in_indent : (b : Bool) → v.kind m.next ≡ INDENT → ins_of v (frame_of m.next b false) ≡ one_if b
    unfolding ins_of
    in_indent b k = rw k

    no_ins : (f : Frame) → f.row ≡ m.next → (v.kind m.next ≡ INDENT → ⊥) → ins_of v f ≡ 0
    unfolding ins_of
    no_ins f e k = rw (e, ne_eqb (v.kind m.next) INDENT k)

    indent_more_sum : (b : Bool) (p : Pen) → (indent_more b p).indent + (indent_more b p).next_indent ≡ p.indent + p.next_indent + one_if b
    unfolding indent_more
    indent_more_sum true p = omega arith
    indent_more_sum false p = omega arith

    indent_more_low : (b : Bool) (p : Pen) → p.indent + one_if b ≤ (indent_more b p).indent
    unfolding indent_more
    indent_more_low true p = omega arith
    indent_more_low false p = omega arith

    next_sum : (b : Bool) (p : Pen) → (next_indent_more b p).indent + (next_indent_more b p).next_indent ≡ p.indent + p.next_indent + one_if b
    unfolding next_indent_more
    next_sum true p = omega arith
    next_sum false p = omega arith

    indent_safe : v.kind m.next ≡ INDENT → Safe v base (enter_indent v pg m)
    unfolding enter_indent indent_more
    indent_safe k =
        let w = wrap_at m.frames m.depth in
        opened_safe base m (frame_of m.next w false) (suc m.next) (on_pen (indent_more w) m.state) (one_if w) (one_if w) s roomy
        (indent_step w k)
        (in_indent w k)
        (omega arith)
        (indent_more_sum w m.state.pen)
        (indent_more_low w m.state.pen)
        refl
        refl

    next_safe : v.kind m.next ≡ INDENT_NEXT → Safe v base (enter_next v pg m)
    unfolding enter_next next_indent_more
    next_safe k =
        let w = wrap_at m.frames m.depth in
        opened_safe base m (frame_of m.next w false) (suc m.next) (on_pen (next_indent_more w) m.state) (one_if w) 0 s roomy
        (next_step w k)
        (no_ins (frame_of m.next w false) refl (λ e. omega arith))
        (omega arith)
        (next_sum w m.state.pen)
        (omega arith)
        refl
        refl

    if_safe : v.kind m.next ≡ IF_WRAP → Safe v base (enter_if v pg m)
    unfolding enter_if
    if_safe k = go (wrapped m.state.marks (v.number m.next))
      where
        w : Bool
        w = wrap_at m.frames m.depth

        go : (b : Bool)
            → Safe v base
            (cond b (opened m (frame_of m.next w true) (suc m.next) m.state)
            (opened m (frame_of m.next w false) (v.second m.next) m.state))
        go true =
            opened_safe base m (frame_of m.next w true) (suc m.next) m.state 0 0 s roomy (if_step w true k)
            (no_ins (frame_of m.next w true) refl (λ e. omega arith))
            (omega arith)
            (omega arith)
            (omega arith)
            refl
            refl
        go false =
            let u = (nests_two a.good h k).0.up in
            opened_safe base m (frame_of m.next w false) (v.second m.next) m.state 0 0 s roomy (if_step w false k)
            (no_ins (frame_of m.next w false) refl (λ e. omega arith))
            (omega arith)
            (omega arith)
            (omega arith)
            refl
            refl

    call_safe : v.kind m.next ≡ CALL → Safe v base (enter_call v pg m)
    unfolding enter_call next_indent_more insert
    call_safe k =
        let t = trailing_call pg (first_part v m.next) (second_part v m.next) m.state in
        let b = callee_wraps pg t (first_part v m.next) (second_part v m.next) m.state in
        opened_safe base m (call_frame m.next b true (not t && b) (not t)) (suc m.next)
        (on_pen (next_indent_more (not t && b)) (insert b (v.number m.next) m.state)) (one_if (not t && b)) 0 s roomy
        (call_step b (not t && b) (not t) k)
        (no_ins (call_frame m.next b true (not t && b) (not t)) refl (λ e. omega arith))
        (omega arith)
        (next_sum (not t && b) m.state.pen)
        (omega arith)
        refl
        refl

    leaf_safe : SmallTexts v pg → base ≤ START_MARGIN → WRAP_PARENT ≤ v.kind m.next → v.kind m.next ≤ LINE_OR_SPACE → Safe v base (enter_leaf v pg m)
    unfolding enter_leaf
    leaf_safe z y k l =
        let w = wrap_at m.frames m.depth in
        let r = render_kept (node_at v m.next) pg w m.state in
        let g = leaf_grows v pg m.next w m.state (v.kind m.next) z refl k l in
        let b = steps_le v m.frames m.depth in
        let d = a.deep in
        let u = s.sum in
        let o = s.low in
        let x = s.column in
        let q = s.bytes in
        let r1 = r.sum in
        let r2 = r.low in
        let g1 = g.column in
        let g2 = g.bytes in
        record { sum = omega arith; low = omega arith; column = omega arith; bytes = omega arith }

    enter_safe : SmallTexts v pg → base ≤ START_MARGIN → (k : ℕ) → v.kind m.next ≡ k → Safe v base (enter v pg m)
    unfolding enter
    enter_safe z y zero e = rw e (group_safe e)
    enter_safe z y (suc zero) e = rw e (indent_safe e)
    enter_safe z y (suc (suc zero)) e = rw e (next_safe e)
    enter_safe z y (suc (suc (suc zero))) e = rw e (leaf_safe z y (omega arith) (omega arith))
    enter_safe z y (suc (suc (suc (suc zero)))) e = rw e (leaf_safe z y (omega arith) (omega arith))
    enter_safe z y (suc (suc (suc (suc (suc zero))))) e = rw e (leaf_safe z y (omega arith) (omega arith))
    enter_safe z y (suc (suc (suc (suc (suc (suc zero)))))) e = rw e (leaf_safe z y (omega arith) (omega arith))
    enter_safe z y (suc (suc (suc (suc (suc (suc (suc zero))))))) e = rw e (leaf_safe z y (omega arith) (omega arith))
    enter_safe z y (suc (suc (suc (suc (suc (suc (suc (suc zero)))))))) e = rw e (leaf_safe z y (omega arith) (omega arith))
    enter_safe z y (suc (suc (suc (suc (suc (suc (suc (suc (suc zero))))))))) e = rw e (leaf_safe z y (omega arith) (omega arith))
    enter_safe z y (suc (suc (suc (suc (suc (suc (suc (suc (suc (suc zero)))))))))) e = rw e (if_safe e)
    enter_safe z y (suc (suc (suc (suc (suc (suc (suc (suc (suc (suc (suc zero))))))))))) e = rw e (call_safe e)
    enter_safe z y (suc (suc (suc (suc (suc (suc (suc (suc (suc (suc (suc (suc k)))))))))))) e =
        absurd (let x = nests_kind a.good h in omega arith)

  -- the state is closed: a step is taken back from `indent`, or from `next_indent` where that is over 0
  indent_less_safe : (base k : ℕ) (m : Machine) (b : Bool) → Safe v base (closed_to m (suc k) m.next m.state) → (n : ℕ) → m.next ≤ n
      → (steps_back v (frame_at m.frames k) ≡ one_if b) × (ins_of v (frame_at m.frames k) ≡ one_if b)
      → Safe v base (closed_to m k n (on_pen (indent_less b) m.state))
  unfolding indent_less
  indent_less_safe base k m true g n h x =
      let a = x.0 in
      let b = x.1 in
      let c = steps_suc m.frames k in
      let d = ins_suc m.frames k in
      let g1 = g.sum in
      let g2 = g.low in
      let g3 = g.column in
      let g4 = g.bytes in
      record { sum = omega arith; low = omega arith; column = omega arith; bytes = omega arith }
  indent_less_safe base k m false g n h x =
      let a = x.0 in
      let b = x.1 in
      let c = steps_suc m.frames k in
      let d = ins_suc m.frames k in
      let g1 = g.sum in
      let g2 = g.low in
      let g3 = g.column in
      let g4 = g.bytes in
      record { sum = omega arith; low = omega arith; column = omega arith; bytes = omega arith }

  next_indent_less_safe : (base k : ℕ) (m : Machine) (b : Bool) → Safe v base (closed_to m (suc k) m.next m.state) → (n : ℕ) → m.next ≤ n
      → (steps_back v (frame_at m.frames k) ≡ one_if b) × (ins_of v (frame_at m.frames k) ≡ 0)
      → Safe v base (closed_to m k n (on_pen (next_indent_less b) m.state))
  unfolding next_indent_less indent_less
  next_indent_less_safe base k m true g n h x = go (ltb 0 m.state.pen.next_indent) refl
    where
      go : (b : Bool) → ltb 0 m.state.pen.next_indent ≡ b
          → Safe v base
          (closed_to m k n (on_pen (λ (p : Pen). cond b (with_next_indent (p.next_indent - 1) p) (indent_less true p)) m.state))
      go true q =
          let a = x.0 in
          let b = x.1 in
          let c = steps_suc m.frames k in
          let d = ins_suc m.frames k in
          let g1 = g.sum in
          let g2 = g.low in
          let g3 = g.column in
          let g4 = g.bytes in
          let p = ltb-true 0 m.state.pen.next_indent q in
          record { sum = omega arith; low = omega arith; column = omega arith; bytes = omega arith }
      go false q =
          let a = x.0 in
          let b = x.1 in
          let c = steps_suc m.frames k in
          let l = ins_le v m.frames k in
          let g1 = g.sum in
          let g3 = g.column in
          let g4 = g.bytes in
          let p = ltb-false 0 m.state.pen.next_indent q in
          record { sum = omega arith; low = omega arith; column = omega arith; bytes = omega arith }
  next_indent_less_safe base k m false g n h x =
      let a = x.0 in
      let b = x.1 in
      let c = steps_suc m.frames k in
      let d = ins_suc m.frames k in
      let g1 = g.sum in
      let g2 = g.low in
      let g3 = g.column in
      let g4 = g.bytes in
      record { sum = omega arith; low = omega arith; column = omega arith; bytes = omega arith }

  module _ (base : ℕ) (m : Machine) (k : ℕ) (a : At v stop m.frames (suc k) m.next) (e : m.next ≡ part_end v (frame_at m.frames k))
      (s : Safe v base (closed_to m (suc k) m.next m.state))
    where
      f : Frame
      f = frame_at m.frames k

      later : m.next ≤ v.after (frame_at m.frames k).row
      later = let g = nests_le (at_top_suc v pg stop m.frames k m.next a).later in omega arith

      off_plain : (n : ℕ) → v.kind (frame_at m.frames k).row ≡ n → (n ≡ 1 → ⊥) → (n ≡ 2 → ⊥) → (n ≡ 11 → ⊥)
          → Safe v base
          (closed_to m k (v.after (frame_at m.frames k).row) (closing v pg (frame_at m.frames k) m.state))
      off_plain n q x y z =
          rw (closing_plain v pg (frame_at m.frames k) m.state n q x y z)
          (let b = plain_step v (frame_at m.frames k) (λ p. x (sym q ∙ p)) (λ p. y (sym q ∙ p)) (λ p. z (sym q ∙ p)) in
          let b2 = in_le v (frame_at m.frames k) in
          let c = steps_suc m.frames k in
          let d = ins_suc m.frames k in
          let g1 = s.sum in
          let g2 = s.low in
          let g3 = s.column in
          let g4 = s.bytes in
          let l = later in
          record { sum = omega arith; low = omega arith; column = omega arith; bytes = omega arith })

      off_indent : v.kind (frame_at m.frames k).row ≡ INDENT
          → Safe v base
          (closed_to m k (v.after (frame_at m.frames k).row) (closing v pg (frame_at m.frames k) m.state))
      off_indent q =
          rw (closing_indent v pg (frame_at m.frames k) m.state q)
          (indent_less_safe base k m (frame_at m.frames k).wrap s
          (v.after (frame_at m.frames k).row)
          later
          (indent_steps v (frame_at m.frames k) (frame_at m.frames k).wrap q refl))

      off_next : v.kind (frame_at m.frames k).row ≡ INDENT_NEXT
          → Safe v base
          (closed_to m k (v.after (frame_at m.frames k).row) (closing v pg (frame_at m.frames k) m.state))
      off_next q =
          rw (closing_next v pg (frame_at m.frames k) m.state q)
          (next_indent_less_safe base k m (frame_at m.frames k).wrap s
          (v.after (frame_at m.frames k).row)
          later
          (next_steps v (frame_at m.frames k) (frame_at m.frames k).wrap q refl))

      off_call : v.kind (frame_at m.frames k).row ≡ CALL → (frame_at m.frames k).first ≡ false
          → Safe v base
          (closed_to m k (v.after (frame_at m.frames k).row) (closing v pg (frame_at m.frames k) m.state))
      off_call q y =
          rw (closing_call v pg (frame_at m.frames k) m.state q y)
          (next_indent_less_safe base k m (frame_at m.frames k).deeper s
          (v.after (frame_at m.frames k).row)
          later
          (call_steps v (frame_at m.frames k) (frame_at m.frames k).deeper q refl))

      off_safe : (x y z : Bool) → eqb (v.kind (frame_at m.frames k).row) INDENT ≡ x → eqb (v.kind (frame_at m.frames k).row) INDENT_NEXT ≡ y
          → eqb (v.kind (frame_at m.frames k).row) CALL ≡ z
          → (z && (frame_at m.frames k).first) ≡ false
          → Safe v base
          (closed_to m k (v.after (frame_at m.frames k).row) (closing v pg (frame_at m.frames k) m.state))
      off_safe true y z p q r g = off_indent (eqb-true _ 1 p)
      off_safe false true z p q r g = off_next (eqb-true _ 2 q)
      off_safe false false true p q r g = off_call (eqb-true _ 11 r) g
      off_safe false false false p q r g =
          off_plain (v.kind (frame_at m.frames k).row) refl (eqb-false _ 1 p) (eqb-false _ 2 q) (eqb-false _ 11 r)

      -- the arguments of a `Call` are opened: the same steps
      on_safe : (c : Bool) → v.kind (frame_at m.frames k).row ≡ CALL
          → Safe v base
          (reopened m k (call_frame (frame_at m.frames k).row c false (frame_at m.frames k).deeper (frame_at m.frames k).made)
          (insert c (v.number2 (frame_at m.frames k).row) m.state))
      unfolding insert
      on_safe c q =
          let deep = a.deep in
          let h : k < length m.frames = rw a.size (omega arith) in
          let new = call_frame (frame_at m.frames k).row c false (frame_at m.frames k).deeper (frame_at m.frames k).made in
          let u = steps_top m.frames k new h in
          let w = ins_top m.frames k new h in
          let x = call_steps v new (frame_at m.frames k).deeper q refl in
          let y = call_steps v (frame_at m.frames k) (frame_at m.frames k).deeper q refl in
          let x0 = x.0 in
          let x1 = x.1 in
          let y0 = y.0 in
          let y1 = y.1 in
          let c0 = steps_suc m.frames k in
          let d0 = ins_suc m.frames k in
          let g1 = s.sum in
          let g2 = s.low in
          record { sum = omega arith; low = omega arith; column = s.column; bytes = s.bytes }

      leave_safe : Safe v base (leave v pg m k)
      unfolding leave
      leave_safe = go (eqb (v.kind (frame_at m.frames k).row) CALL && (frame_at m.frames k).first) refl
        where
          c : Bool
          c = group_wraps pg (nodes_at v m.next (v.after (frame_at m.frames k).row)) m.state

          on : Machine
          on =
              reopened m k (call_frame (frame_at m.frames k).row c false (frame_at m.frames k).deeper (frame_at m.frames k).made)
              (insert c (v.number2 (frame_at m.frames k).row) m.state)

          off : Machine
          off = closed_to m k (v.after (frame_at m.frames k).row) (closing v pg (frame_at m.frames k) m.state)

          go : (b : Bool) → (eqb (v.kind (frame_at m.frames k).row) CALL && (frame_at m.frames k).first) ≡ b → Safe v base (cond b on off)
          go true q = on_safe c (eqb-true _ 11 (both (eqb (v.kind (frame_at m.frames k).row) CALL) (frame_at m.frames k).first q).0)
          go false q = off_safe _ _ _ refl refl refl q

  turn_safe_at : (base d : ℕ) (m : Machine) → m.depth ≡ d → Fine v pg stop m → is_done v pg stop m ≡ false → SmallTexts v pg
      → base ≤ START_MARGIN → Safe v base m
      → Safe v base (turn_at v pg d m)
  unfolding turn_at
  turn_safe_at base zero m e a n z y s = enter_safe base m a (not_done v pg stop m a n (omega arith)) s z y (v.kind m.next) refl
  turn_safe_at base (suc k) m e a n z y s = go (eqb m.next (part_end v (frame_at m.frames k))) refl
    where
      go : (b : Bool) → eqb m.next (part_end v (frame_at m.frames k)) ≡ b → Safe v base (cond b (leave v pg m k) (enter v pg m))
      go true q =
          leave_safe base m k (subst (λ (d : ℕ). At v stop m.frames d m.next) e a) (eqb-true m.next _ q)
          (record {
            sum = subst (λ (d : ℕ). m.state.pen.indent + m.state.pen.next_indent ≡ base + steps v m.frames d) e s.sum;
            low = subst (λ (d : ℕ). ins v m.frames d ≤ m.state.pen.indent) e s.low;
            column = s.column;
            bytes = s.bytes;
          })
      go false q = enter_safe base m a (in_part v pg stop m k e a (eqb-false m.next _ q)) s z y (v.kind m.next) refl

  -- a turn keeps the numbers in range
  pub turn_safe : (base : ℕ) (m : Machine) → Fine v pg stop m → is_done v pg stop m ≡ false → SmallTexts v pg → base ≤ START_MARGIN → Safe v base m
      → Safe v base (turn v pg m)
  unfolding turn
  turn_safe base m a n z y s = turn_safe_at base m.depth m refl a n z y s
