-- Closing listed rows, of pens alone: it takes at most one step for each row, and a margin that is kept stays kept.
-- Assumes nothing.
use mathlib.Core.Path.{◌≡◌, refl, ap, sym, ◌∙◌, subst}
use mathlib.Core.Bool.{Bool, true, false, cond}
use mathlib.Core.List.{List, [], ◌∷◌, ◌++◌}
use Prim.Native.Nat.{ℕ, zero, suc, ◌+◌, ◌-◌, ◌≤◌}
use native.Mathlib.Omega.{arith}
use lib.Dec.{ltb, eqb}
use lib.ListN.{length, take, drop, length-take}
use Rattle.std.proofs.lemmas.List.{take-append-drop, drop-append-le}
use Rattle.laws.proofs.Booleans.{both}
use Rattle.rows.specs.Kinds.{INDENT, INDENT_NEXT, CALL}
use Rattle.rows.specs.View.{View}
use Rattle.renderer_rules.specs.declared.Pen.{Pen}
use Rattle.renderer_rules.specs.Renderer.{indent_less, next_indent_less}
use Rattle.renderer_rules.specs.Machine.{closes}
use Rattle.renderer_rules.specs.Stops.{OpenRow, is_deeper}
use Rattle.renderer_rules.specs.Listed.{closed_pen, can_close, closed_all, can_close_all}
use Rattle.renderer_rules.proofs.Closable.{PenKept, closed_kept}
use Rattle.stop_facts.specs.Margin.{sum_of, PenMarginKept}

pub kept_here : (p : Pen) → PenKept p p
kept_here p = record { sum = refl; low = omega arith }

pub kept_on : {p q r : Pen} → PenKept p q → PenKept q r → PenKept p r
kept_on a b = record { sum = b.sum ∙ a.sum; low = (let x = a.low in let y = b.low in omega arith) }

pub as_margin : {p q : Pen} → PenKept p q → PenMarginKept p q
as_margin k = record { sum = k.sum; low = k.low }

pub as_kept : {p q : Pen} → PenMarginKept p q → PenKept p q
as_kept k = record { sum = k.sum; low = k.low }

-- ---- at most one step for each row
in_most : (w : Bool) (p : Pen) → sum_of p ≤ sum_of (indent_less w p) + 1
unfolding indent_less
in_most true p = omega arith
in_most false p = omega arith

next_most : (w : Bool) (p : Pen) → sum_of p ≤ sum_of (next_indent_less w p) + 1
unfolding next_indent_less indent_less
next_most false p = omega arith
next_most true p = go (ltb 0 p.next_indent)
  where
    back : Bool → Pen
    back b = cond b (record { indent = p.indent; next_indent = p.next_indent - 1; column = p.column })
        (record { indent = p.indent - 1; next_indent = p.next_indent; column = p.column })

    go : (b : Bool) → sum_of p ≤ sum_of (back b) + 1
    go true = omega arith
    go false = omega arith

closes_most : (kind : ℕ) (wraps deeper : Bool) (p : Pen) → sum_of p ≤ sum_of (closes kind wraps deeper p) + 1
closes_most kind wraps deeper p = go (eqb kind INDENT) (eqb kind INDENT_NEXT) (eqb kind CALL)
  where
    shut : Bool → Bool → Bool → Pen
    shut a b c = cond a (indent_less wraps p) (cond b (next_indent_less wraps p) (cond c (next_indent_less deeper p) p))

    go : (a b c : Bool) → sum_of p ≤ sum_of (shut a b c) + 1
    go true b c = in_most wraps p
    go false true c = next_most wraps p
    go false false true = next_most deeper p
    go false false false = omega arith

pub closed_most : (v : View) (ls : List OpenRow) (p : Pen) → sum_of p ≤ sum_of (closed_all v ls p) + length ls
unfolding closed_all
closed_most v [] p = omega arith
closed_most v (l ∷ ls) p =
    let x = closed_most v ls p in
    let y = closes_most (v.kind l.row) l.wraps (is_deeper l.way) (closed_all v ls p) in
    omega arith

-- ---- some rows around others
pub closed_append : (v : View) (a b : List OpenRow) (p : Pen) → closed_all v (a ++ b) p ≡ closed_all v a (closed_all v b p)
unfolding closed_all
closed_append v [] b p = refl
closed_append v (l ∷ a) b p = ap (closed_pen v l) (closed_append v a b p)

can_outer : (v : View) (a b : List OpenRow) (p : Pen) → can_close_all v (a ++ b) p ≡ true → can_close_all v a (closed_all v b p) ≡ true
unfolding can_close_all
can_outer v [] b p e = refl
can_outer v (l ∷ a) b p e =
    let can : Pen → Bool = can_close (v.kind l.row) l.wraps (is_deeper l.way) in
    let x = both (can_close_all v (a ++ b) p) (can (closed_all v (a ++ b) p)) e in
    rw (can_outer v a b p x.0) (ap can (sym (closed_append v a b p)) ∙ x.1)

pub can_inner : (v : View) (d : ℕ) (ls : List OpenRow) (p : Pen) → can_close_all v ls p ≡ true → can_close_all v (drop d ls) p ≡ true
unfolding can_close_all
can_inner v zero ls p e = e
can_inner v (suc d) [] p e = e
can_inner v (suc d) (l ∷ ls) p e = can_inner v d ls p (both (can_close_all v ls p) (can_close (v.kind l.row) l.wraps (is_deeper l.way) (closed_all v ls p)) e).0

-- the rows from d on are those up to k and those from k on
parted : (d k : ℕ) (ls more : List OpenRow) → d ≤ k → k ≤ length ls → drop d (take k ls ++ more) ≡ drop d (take k ls) ++ more
parted d k ls more h l = drop-append-le d (take k ls) more (let x = length-take k ls in omega arith)

-- THE ROWS AROUND THE K-TH CLOSE ALIKE, where what stands within them is closed to a margin that is kept
pub around_kept : (v : View) (d k : ℕ) (ls more : List OpenRow) (p q : Pen) → d ≤ k → k ≤ length ls → can_close_all v ls p ≡ true
    → PenKept (closed_all v (drop k ls) p) (closed_all v more q)
    → PenKept (closed_all v (drop d ls) p) (closed_all v (drop d (take k ls ++ more)) q)
around_kept v d k ls more p q h l e x =
    let a = drop d (take k ls) in
    let all : drop d ls ≡ a ++ drop k ls = ap (drop d) (sym (take-append-drop k ls)) ∙ parted d k ls (drop k ls) h l in
    let can = can_outer v a (drop k ls) p (ap (λ (z : List OpenRow). can_close_all v z p) (sym all) ∙ can_inner v d ls p e) in
    let y = (closed_kept v a (closed_all v (drop k ls) p) (closed_all v more q) x can).1 in
    subst (λ (z : Pen). PenKept z (closed_all v (drop d (take k ls ++ more)) q))
    (sym (ap (λ (z : List OpenRow). closed_all v z p) all ∙ closed_append v a (drop k ls) p))
    (subst (PenKept (closed_all v a (closed_all v (drop k ls) p)))
    (sym (ap (λ (z : List OpenRow). closed_all v z q) (parted d k ls more h l) ∙ closed_append v a more q)) y)
