-- Over calls: each goes on from the state that the one before answered, over a store that has the range of the row as it was. What closing the listed
-- rows from this one down leaves is read from that range alone.
-- Assumes nothing.
use mathlib.Core.Path.{◌≡◌, refl, ap, sym, ◌∙◌, subst}
use mathlib.Core.Bool.{Bool, true, false, cond}
use mathlib.Core.List.{List, [], ◌∷◌, map}
use Prim.Native.Nat.{ℕ, zero, suc, ◌+◌, ◌-◌, ◌≤◌, ◌<◌}
use native.Mathlib.Omega.{arith}
use native.Mathlib.Decide.{dec_lt}
use lib.Dec.{ltb, eqb}
use lib.ListN.{length, take, drop, get_or}
use borrow.Author.Tests.{eqb-true}
use Rattle.laws.proofs.Booleans.{both, true_false}
use Rattle.rows.specs.View.{View, view_of}
use Rattle.renderer_rules.specs.declared.Pen.{Pen}
use Rattle.renderer_rules.specs.Machine.{closes}
use Rattle.renderer_rules.specs.Stops.{OpenRow, is_deeper}
use Rattle.renderer_rules.specs.Drift.{enclosing, around}
use Rattle.renderer_rules.specs.Listed.{same_rows, closed_all}
use Rattle.renderer_rules.proofs.Closable.{PenKept}
use Rattle.renderer_rules.proofs.Drift.{around_none}
use Rattle.cut_rule.specs.States.{RenderState}
use Rattle.cut_rule.specs.Parts.{read_from}
use Rattle.cut_rule.proofs.RenderParts.{read_first}
use Rattle.cut_rule.proofs.Table.{RenderChecked, render_told}
use Rattle.whole_run.specs.Parts.{parts_of}
use Rattle.stop_facts.specs.Margin.{sum_of, RowAt, StillOpen, left, StaysKept, Asked, SameRows, state_after, state_over, Goes}
use Rattle.stop_facts.specs.Margin.{StayOpen, Finishes, KeptOverCalls}
use Rattle.stop_facts.proofs.Start.{those_same}
use Rattle.stop_facts.proofs.MarginPens.{kept_here, kept_on, as_margin, as_kept}
use Rattle.stop_facts.proofs.MarginRows.{Rising, next_there}
use Rattle.stop_facts.proofs.MarginCalls.{rises, stays_kept}

-- ---- closing reads the kinds of the rows that are closed
kinds_same : (v u : View) (n i : ℕ) (ls : List OpenRow) (p : Pen) → Rising u n i ls → ((k : ℕ) → i ≤ k → k < n → v.kind k ≡ u.kind k)
    → closed_all v ls p ≡ closed_all u ls p
unfolding Rising closed_all
kinds_same v u n i [] p r f = refl
kinds_same v u n i (l ∷ ls) p r f =
    let x = r.0 in
    ap (λ (k : ℕ). closes k l.wraps (is_deeper l.way) (closed_all v ls p)) (f l.row r.0 r.1)
    ∙ ap (closes (u.kind l.row) l.wraps (is_deeper l.way)) (kinds_same v u n (suc l.row) ls p r.3 (λ k h t. f k (omega arith) t))

-- the rows from the one at place d on lie from it on, and it encloses row n
record Under (v : View) (n i : ℕ) (ls : List OpenRow) : Type 0 where
  rise : Rising v n i ls
  on : n < v.after i

rise_from : (v : View) (n lo i x : ℕ) (ls : List OpenRow) → Rising v n lo ls → (d : ℕ) → d < length ls → get_or (map (λ l. l.row) ls) d x ≡ i
    → Under v n i (drop d ls)
unfolding Rising
rise_from v n lo i x [] r d h e = absurd (omega arith)
rise_from v n lo i x (l ∷ ls) r zero h e = record {
  rise = (omega arith, r.1, r.2, r.3);
  on = subst (λ (k : ℕ). n < v.after k) e r.2;
}
rise_from v n lo i x (l ∷ ls) r (suc d) h e = rise_from v n (suc l.row) i x ls r.3 d (omega arith) e

all_dropped : (ls : List OpenRow) (d : ℕ) → length ls ≤ d → drop d ls ≡ []
all_dropped [] zero h = refl
all_dropped [] (suc d) h = refl
all_dropped (l ∷ ls) zero h = absurd (omega arith)
all_dropped (l ∷ ls) (suc d) h = all_dropped ls d (omega arith)

none_same : (v u : View) (ls : List OpenRow) (p : Pen) → ls ≡ [] → closed_all v ls p ≡ closed_all u ls p
unfolding closed_all
none_same v u ls p e = rw e

-- ---- so many rows are listed from one on as enclose the next
same_count : (ls : List OpenRow) (is : List ℕ) → same_rows ls is ≡ true → length ls ≡ length is
unfolding same_rows
same_count [] [] e = refl
same_count [] (i ∷ is) e = true_false (sym e)
same_count (l ∷ ls) [] e = true_false (sym e)
same_count (l ∷ ls) (i ∷ is) e = ap suc (same_count ls is (both (eqb l.row i) (same_rows ls is) e).1)

count_from : (v : View) (k lo n i x : ℕ) (ls : List OpenRow) (d : ℕ) → lo + k ≡ n → same_rows ls (enclosing k v lo n) ≡ true → d < length ls
    → get_or (map (λ l. l.row) ls) d x ≡ i
    → length ls - d ≡ length (around v i n)
unfolding same_rows enclosing
count_from v k lo n i x [] d s e h o = absurd (omega arith)
count_from v zero lo n i x (l ∷ ls) d s e h o = true_false (sym e)
count_from v (suc k) lo n i x (l ∷ ls) d s e h o =
    go (ltb n (v.after lo)) refl d e h o (λ d e h o. count_from v k (suc lo) n i x ls d (omega arith) e h o)
    (λ e. count_from v k (suc lo) n i x (l ∷ ls) d (omega arith) e h o)
  where
    inner : List ℕ
    inner = enclosing k v (suc lo) n

    go : (b : Bool) → ltb n (v.after lo) ≡ b → (d : ℕ) → same_rows (l ∷ ls) (cond b (lo ∷ inner) inner) ≡ true → d < length (l ∷ ls)
        → get_or (map (λ l. l.row) (l ∷ ls)) d x ≡ i
        → ((d : ℕ) → same_rows ls inner ≡ true → d < length ls → get_or (map (λ l. l.row) ls) d x ≡ i → length ls - d ≡ length (around v i n))
        → (same_rows (l ∷ ls) inner ≡ true → length (l ∷ ls) - d ≡ length (around v i n))
        → length (l ∷ ls) - d ≡ length (around v i n)
    go false b d e h o one all = all e
    go true b zero e h o one all =
        let y = both (eqb l.row lo) (same_rows ls inner) e in
        let f : lo ≡ i = sym (eqb-true l.row lo y.0) ∙ o in
        let c : n - lo ≡ suc k = omega arith in
        let z : around v lo n ≡ (lo ∷ inner) = ap (λ (m : ℕ). enclosing m v lo n) c ∙ rw b in
        let u : length (l ∷ ls) - 0 ≡ length (l ∷ ls) = omega arith in
        u ∙ ap suc (same_count ls inner y.1) ∙ sym (ap length (ap (λ (j : ℕ). around v j n) (sym f) ∙ z))
    go true b (suc d) e h o one all =
        let y = both (eqb l.row lo) (same_rows ls inner) e in
        let u : length (l ∷ ls) - suc d ≡ length ls - d = omega arith in
        u ∙ one d y.1 (omega arith) o

-- ---- rows that are the same in two stores
kind_same : (i j : ℕ) (store other : List ℕ) → SameRows i j store other → (k : ℕ) → i ≤ k → k < j → (view_of store).kind k ≡ (view_of other).kind k
unfolding view_of
kind_same i j store other e k h l = e k 0 h l (omega arith)

after_same : (i j : ℕ) (store other : List ℕ) → SameRows i j store other → i < j → (view_of store).after i ≡ (view_of other).after i
unfolding view_of
after_same i j store other e l = e i 4 (omega arith) l (omega arith)

module _ (s b rows : List ℕ) (i d : ℕ) (p : Pen) (real : i < (view_of rows).after i) where
  -- where the row's range ends
  abbrev to : ℕ
  to = (view_of rows).after i

  -- a state within the row, after calls; `store` is that of the last
  record Mid (z : RenderState) : Type 0 where
    store : List ℕ
    unchanged : SameRows i to rows store
    at : RowAt i d z
    kept : PenKept p (left (view_of store) d z)
    low : sum_of z.pen ≤ sum_of p + (length z.listed - d)

  module _ (z : RenderState) (m : Mid z) (c : Asked) (g : Goes s b rows i z c) where
    checked : RenderChecked (parts_of s b) c.args z c.store c.marks
    checked = (render_told (parts_of s b) c.args z c.store c.marks g.accepted).checked

    stays : StaysKept s b z c.args.to (take z.in_use c.marks) c.store c.args.allotment i d
    stays =
        stays_kept s b z c.args.to (take z.in_use c.marks) c.store checked.right checked.listed checked.fits.row.not_past c.args.allotment i d m.at

    -- it is the same that would be left, by the store of the last call and by this call's
    same_left : left (view_of m.store) d z ≡ left (view_of c.store) d z
    same_left = go (dec_lt d (length z.listed))
      where
        go : Dec (d < length z.listed) → left (view_of m.store) d z ≡ left (view_of c.store) d z
        go (no h) = none_same (view_of m.store) (view_of c.store) (drop d z.listed) z.pen (all_dropped z.listed d (omega arith))
        go (yes h) =
            let r = rises s b z c.args.to (take z.in_use c.marks) c.store checked.right checked.listed checked.fits.row.not_past in
            let x = rise_from (view_of c.store) z.row (read_from z) i z.row z.listed r d h m.at.row in
            let e = after_same i to rows c.store g.unchanged real in
            let on = x.on in
            kinds_same (view_of m.store) (view_of c.store) z.row i (drop d z.listed) z.pen x.rise
            (λ k a l. sym (kind_same i to rows m.store m.unchanged k a (omega arith)) ∙ kind_same i to rows c.store g.unchanged k a (omega arith))

    before : PenKept p (left (view_of c.store) d z)
    before = subst (PenKept p) same_left m.kept

    -- the listed rows from row i on are those that enclose the next one
    counted : length z.listed - d ≡ length (around (view_of c.store) i z.row)
    counted = go (dec_lt d (length z.listed))
      where
        v : View
        v = view_of c.store

        same : same_rows z.listed (around v (read_from z) z.row) ≡ true
        same = those_same v z.listed z.row checked.listed.those

        go : Dec (d < length z.listed) → length z.listed - d ≡ length (around v i z.row)
        go (yes h) =
            let l = read_first z.listed z.row in
            count_from v (z.row - read_from z) (read_from z) z.row i z.row z.listed d (omega arith) same h m.at.row
        go (no h) =
            let e : i ≡ z.row = sym m.at.row ∙ next_there z.listed z.row d (omega arith) in
            let k : length z.listed - d ≡ 0 = omega arith in
            k ∙ sym (ap length (ap (λ (j : ℕ). around v j z.row) e ∙ around_none v z.row))

    next : StillOpen i d (state_after s b z c) → Mid (state_after s b z c)
    next e =
        let w = stays.within e in
        let x = before.sum in
        let y = w.low in
        record {
          store = c.store;
          unchanged = g.unchanged;
          at = record { deep = (let h = e.deep in omega arith); row = e.row };
          kept = kept_on before (as_kept w.margin);
          low = omega arith;
        }

    done : Finishes s b i d p z c
    done = record {
      margin = as_margin (kept_on before (as_kept stays.done));
      there = stays.there;
      behind = λ e. as_margin (kept_on before (as_kept (stays.behind e)));
      enclosing = counted;
    }

  over : (calls : List Asked) (z : RenderState) → Mid z → StayOpen s b rows i d z calls
      → (sum_of (state_over s b z calls).pen ≤ sum_of p + (length (state_over s b z calls).listed - d))
      × ((c : Asked) → Goes s b rows i (state_over s b z calls) c → Finishes s b i d p (state_over s b z calls) c)
  unfolding StayOpen
  over [] z m o = (m.low, λ c g. done z m c g)
  over (c ∷ cs) z m o = over cs (state_after s b z c) (next z m c o.0 o.1) o.2

-- THE MARGIN OVER CALLS
pub kept_over_calls : KeptOverCalls
unfolding closed_all
kept_over_calls s b rows z calls real o =
    let d = length z.listed in
    let none : drop d z.listed ≡ [] = all_dropped z.listed d (omega arith) in
    let x = over s b rows z.row d z.pen real calls z
    (record {
      store = rows;
      unchanged = λ k c h l t. refl;
      at = record { deep = omega arith; row = next_there z.listed z.row d (omega arith) };
      kept = subst (λ (ls : List OpenRow). PenKept z.pen (closed_all (view_of rows) ls z.pen)) (sym none) (kept_here z.pen);
      low = omega arith;
    }) o
    in
    record { low = x.0; done = x.1 }
