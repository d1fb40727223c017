-- Closing listed rows with no further row: what 23 lets pass keeps the machine's numbers in range, and a margin that is kept stays kept.
-- Assumes nothing.
use mathlib.Core.Path.{◌≡◌, refl}
use Prim.Native.Nat.{ℕ, ◌+◌, ◌-◌, ◌≤◌}
use native.Mathlib.Omega.{arith}
use mathlib.Core.Bool.{Bool, true, false, cond, not, ◌||◌}
use mathlib.Core.List.{List, [], ◌∷◌}
use lib.Dec.{ltb, eqb}
use borrow.Author.Tests.{ltb-true, ltb-false, lt-ltb}
use Rattle.laws.proofs.Booleans.{both}
use Rattle.rows.specs.Kinds.{INDENT, INDENT_NEXT, CALL}
use Rattle.rows.specs.View.{View}
use Rattle.renderer_rules.specs.declared.Pen.{Pen}
use Rattle.renderer_rules.specs.Renderer.{indent_less, next_indent_less}
use Rattle.renderer_rules.specs.Safe.{one_if}
use Rattle.renderer_rules.specs.Machine.{closes}
use Rattle.renderer_rules.specs.Stops.{OpenRow, is_deeper}
use Rattle.renderer_rules.specs.Listed.{closed_pen, can_close, closed_all, can_close_all}

-- a pen with the same sum and no smaller `indent`
pub record PenKept (p q : Pen) : Type 0 where
  pub sum : q.indent + q.next_indent ≡ p.indent + p.next_indent
  pub low : p.indent ≤ q.indent

-- ---- one step back, from `indent`, and as `IndentNext` and `Call` take it
indent_back : (w : Bool) (p q : Pen) → PenKept p q → (not w || ltb 0 p.indent) ≡ true
    → ((not w || ltb 0 q.indent) ≡ true) × PenKept (indent_less w p) (indent_less w q)
unfolding indent_less
indent_back true p q k e =
    let h = ltb-true 0 p.indent e in
    let s = k.sum in
    let l = k.low in
    (lt-ltb 0 q.indent (omega arith), record { sum = omega arith; low = omega arith })
indent_back false p q k e = (refl, k)

next_back : (w : Bool) (p q : Pen) → PenKept p q → (not w || ltb 0 (p.indent + p.next_indent)) ≡ true
    → ((not w || ltb 0 (q.indent + q.next_indent)) ≡ true) × PenKept (next_indent_less w p) (next_indent_less w q)
unfolding next_indent_less indent_less
next_back false p q k e = (refl, k)
next_back true p q k e =
    let h = ltb-true 0 (p.indent + p.next_indent) e in
    let s = k.sum in
    (lt-ltb 0 (q.indent + q.next_indent) (omega arith), go (ltb 0 p.next_indent) (ltb 0 q.next_indent) refl refl)
  where
    back : Bool → Pen → Pen
    back b z = cond b (record { indent = z.indent; next_indent = z.next_indent - 1; column = z.column })
        (record { indent = z.indent - 1; next_indent = z.next_indent; column = z.column })

    go : (b c : Bool) → ltb 0 p.next_indent ≡ b → ltb 0 q.next_indent ≡ c → PenKept (back b p) (back c q)
    go true true x y = let h = ltb-true 0 p.next_indent x in let i = ltb-true 0 q.next_indent y in let s = k.sum in let l = k.low in
        record { sum = omega arith; low = omega arith }
    go true false x y = let h = ltb-true 0 p.next_indent x in let i = ltb-false 0 q.next_indent y in let s = k.sum in let l = k.low in
        record { sum = omega arith; low = omega arith }
    go false true x y = let h = ltb-false 0 p.next_indent x in let i = ltb-true 0 q.next_indent y in let s = k.sum in let l = k.low in
        record { sum = omega arith; low = omega arith }
    go false false x y = let h = ltb-false 0 p.next_indent x in let i = ltb-false 0 q.next_indent y in let s = k.sum in let l = k.low in
        let z = ltb-true 0 (p.indent + p.next_indent) e in record { sum = omega arith; low = omega arith }

-- ---- a row, and all
pub row_kept : (kind : ℕ) (wraps deeper : Bool) (p q : Pen) → PenKept p q → can_close kind wraps deeper p ≡ true
    → (can_close kind wraps deeper q ≡ true) × PenKept (closes kind wraps deeper p) (closes kind wraps deeper q)
row_kept kind wraps deeper p q k e = go (eqb kind INDENT) (eqb kind INDENT_NEXT) (eqb kind CALL) e
  where
    can : Bool → Bool → Bool → Pen → Bool
    can a b c z =
        cond a (not wraps || ltb 0 z.indent)
        (cond b (not wraps || ltb 0 (z.indent + z.next_indent)) (cond c (not deeper || ltb 0 (z.indent + z.next_indent)) true))

    shut : Bool → Bool → Bool → Pen → Pen
    shut a b c z = cond a (indent_less wraps z) (cond b (next_indent_less wraps z) (cond c (next_indent_less deeper z) z))

    go : (a b c : Bool) → can a b c p ≡ true → (can a b c q ≡ true) × PenKept (shut a b c p) (shut a b c q)
    go true b c e = indent_back wraps p q k e
    go false true c e = next_back wraps p q k e
    go false false true e = next_back deeper p q k e
    go false false false e = (refl, k)

pub closed_kept : (v : View) (ls : List OpenRow) (p q : Pen) → PenKept p q → can_close_all v ls p ≡ true
    → (can_close_all v ls q ≡ true) × PenKept (closed_all v ls p) (closed_all v ls q)
unfolding can_close_all closed_all
closed_kept v [] p q k e = (refl, k)
closed_kept v (l ∷ ls) p q k e =
    let x = both (can_close_all v ls p) (can_close (v.kind l.row) l.wraps (is_deeper l.way) (closed_all v ls p)) e in
    let y = closed_kept v ls p q k x.0 in
    let z = row_kept (v.kind l.row) l.wraps (is_deeper l.way) (closed_all v ls p) (closed_all v ls q) y.1 x.1 in
    (rw (y.0, z.0), z.1)

-- ---- the steps that closing takes back: in all, and from `indent` in any case
unfoldable pub back_of : View → OpenRow → ℕ
back_of v l =
    one_if (cond (eqb (v.kind l.row) INDENT) l.wraps (cond (eqb (v.kind l.row) INDENT_NEXT) l.wraps (cond (eqb (v.kind l.row) CALL) (is_deeper l.way) false)))

unfoldable pub in_of : View → OpenRow → ℕ
in_of v l = one_if (cond (eqb (v.kind l.row) INDENT) l.wraps false)

unfoldable pub back_all : View → List OpenRow → ℕ
back_all v [] = 0
back_all v (l ∷ ls) = back_of v l + back_all v ls

unfoldable pub in_all : View → List OpenRow → ℕ
in_all v [] = 0
in_all v (l ∷ ls) = in_of v l + in_all v ls

record Back (p q : Pen) (n i : ℕ) : Type 0 where
  sum : q.indent + q.next_indent + n ≡ p.indent + p.next_indent
  low : q.indent + i ≤ p.indent

indent_step : (w : Bool) (p : Pen) → (not w || ltb 0 p.indent) ≡ true → Back p (indent_less w p) (one_if w) (one_if w)
unfolding indent_less
indent_step true p e = let h = ltb-true 0 p.indent e in record { sum = omega arith; low = omega arith }
indent_step false p e = record { sum = omega arith; low = omega arith }

next_step : (w : Bool) (p : Pen) → (not w || ltb 0 (p.indent + p.next_indent)) ≡ true → Back p (next_indent_less w p) (one_if w) 0
unfolding next_indent_less indent_less
next_step false p e = record { sum = omega arith; low = omega arith }
next_step true p e = go (ltb 0 p.next_indent) refl
  where
    back : Bool → Pen
    back b = cond b (record { indent = p.indent; next_indent = p.next_indent - 1; column = p.column })
        (record { indent = p.indent - 1; next_indent = p.next_indent; column = p.column })

    go : (b : Bool) → ltb 0 p.next_indent ≡ b → Back p (back b) 1 0
    go true x = let h = ltb-true 0 p.next_indent x in record { sum = omega arith; low = omega arith }
    go false x = let h = ltb-false 0 p.next_indent x in let z = ltb-true 0 (p.indent + p.next_indent) e in record { sum = omega arith; low = omega arith }

row_back : (v : View) (l : OpenRow) (p : Pen) → can_close (v.kind l.row) l.wraps (is_deeper l.way) p ≡ true
    → Back p (closed_pen v l p) (back_of v l) (in_of v l)
unfolding back_of in_of
row_back v l p e = go (eqb (v.kind l.row) INDENT) (eqb (v.kind l.row) INDENT_NEXT) (eqb (v.kind l.row) CALL) e
  where
    can : Bool → Bool → Bool → Bool
    can a b c =
        cond a (not l.wraps || ltb 0 p.indent)
        (cond b (not l.wraps || ltb 0 (p.indent + p.next_indent)) (cond c (not (is_deeper l.way) || ltb 0 (p.indent + p.next_indent)) true))

    shut : Bool → Bool → Bool → Pen
    shut a b c = cond a (indent_less l.wraps p) (cond b (next_indent_less l.wraps p) (cond c (next_indent_less (is_deeper l.way) p) p))

    go : (a b c : Bool) → can a b c ≡ true → Back p (shut a b c) (one_if (cond a l.wraps (cond b l.wraps (cond c (is_deeper l.way) false))))
        (one_if (cond a l.wraps false))
    go true b c e = indent_step l.wraps p e
    go false true c e = next_step l.wraps p e
    go false false true e = next_step (is_deeper l.way) p e
    go false false false e = record { sum = omega arith; low = omega arith }

all_back : (v : View) (ls : List OpenRow) (p : Pen) → can_close_all v ls p ≡ true → Back p (closed_all v ls p) (back_all v ls) (in_all v ls)
unfolding can_close_all closed_all back_all in_all
all_back v [] p e = record { sum = omega arith; low = omega arith }
all_back v (l ∷ ls) p e =
    let x = both (can_close_all v ls p) (can_close (v.kind l.row) l.wraps (is_deeper l.way) (closed_all v ls p)) e in
    let a = all_back v ls p x.0 in
    let b = row_back v l (closed_all v ls p) x.1 in
    let s = a.sum in
    let t = b.sum in
    let m = a.low in
    let n = b.low in
    record { sum = omega arith; low = omega arith }

-- WHAT 23 LETS PASS: each step back finds a step to take
pub closable : (v : View) (ls : List OpenRow) (p : Pen) → can_close_all v ls p ≡ true → (back_all v ls ≤ p.indent + p.next_indent) × (in_all v ls ≤ p.indent)
closable v ls p e = let a = all_back v ls p e in let s = a.sum in let l = a.low in (omega arith, omega arith)
