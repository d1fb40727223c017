-- The lookup, for any ordered table: the ranges that end before a code point are the first ones, and the next is the only one that can have it.
-- Assumes nothing.
use mathlib.Core.Path.{◌≡◌, refl, sym, ◌∙◌}
use mathlib.Core.Bool.{true, false}
use mathlib.Core.List.{List, [], ◌∷◌}
use Prim.Native.Nat.{ℕ, zero, suc, ◌≤◌, ◌<◌}
use native.Mathlib.Omega.{arith}
use lib.Dec.{ltb}
use lib.ListN.{length, get_or}
use borrow.Author.Tests.{ltb-true, ltb-false, lt-leb, lt-ltb}
use Rattle.std.specs.List.Sorted.{IsPartitionedBy, IsPartitionPoint}
use Rattle.laws.proofs.Booleans.{and_false}
use Rattle.text.specs.Utf8.{within}
use Rattle.text.proofs.Tests.{within_below, within_in}
use Rattle.widths.specs.Widths.{first, last, width, ascends, ordered, table_width}
use Rattle.widths.specs.declared.lookup.Entry.{Entry}
use Rattle.widths.proofs.Ordered.{ascending, one_before}

-- each range ends at n or after it, where the table ascends from n on
ends_after : (n : ℕ) (es : List Entry) (k : ℕ) (d : Entry) → ascends n es ≡ true → k < length es → n ≤ last (get_or es k d)
ends_after n [] k d h b = absurd (omega arith)
ends_after n (e ∷ es) zero d h b = let a = ascending n e es h in omega (arith, a.starts, a.ends)
ends_after n (e ∷ es) (suc k) d h b =
    let a = ascending n e es h in
    let later = ends_after (suc (last e)) es k d a.others (omega arith) in
    omega (arith, a.starts, a.ends, later)

-- a range that ends before a code point has none after it that does so first
pub parted : (n : ℕ) (es : List Entry) (c : ℕ) → ascends n es ≡ true → IsPartitionedBy (λ e. ltb (last e) c) es
parted n [] c h i j d p q t = absurd (omega arith)
parted n (e ∷ es) c h zero zero d p q t = t
parted n (e ∷ es) c h zero (suc j) d p q t =
    let a = ascending n e es h in
    let later = ends_after (suc (last e)) es j d a.others (omega arith) in
    lt-ltb (last e) c (omega (arith, later, ltb-true (last (get_or es j d)) c t))
parted n (e ∷ es) c h (suc i) zero d p q t = absurd (omega arith)
parted n (e ∷ es) c h (suc i) (suc j) d p q t =
    let a = ascending n e es h in parted (suc (last e)) es c a.others i j d (omega arith) (omega arith) t

-- ---- what the range behind those that end before a code point says
next_entry : (e : Entry) (es : List Entry) (c : ℕ) → last e < c → table_width (e ∷ es) c ≡ table_width es c
unfolding table_width within
next_entry e es c h = rw (lt-leb c (last e) h, and_false)

-- where the table is parted by a code point, into ranges that end before it and others
abbrev pub Parts : List Entry → ℕ → ℕ → Type 0
Parts es c i = IsPartitionPoint (λ e. ltb (last e) c ≡ true) (λ e. ltb (last e) c ≡ false) es i

behind : (e : Entry) (es : List Entry) (c i : ℕ) → Parts (e ∷ es) c (suc i) → Parts es c i
behind e es c i p = ((λ k d l m. p.0 (suc k) d (omega arith) (omega arith)), (λ k d l m. p.1 (suc k) d (omega arith) (omega arith)))

-- the range that is next says it, or none does
record Next (es : List Entry) (c i : ℕ) (d : Entry) : Type 0 where
  pub past : length es ≤ i → table_width es c ≡ 1
  pub early : i < length es → c < first (get_or es i d) → table_width es c ≡ 1
  pub found : i < length es → first (get_or es i d) ≤ c → table_width es c ≡ width (get_or es i d)

next : (n : ℕ) (es : List Entry) (c i : ℕ) (d : Entry) → ascends n es ≡ true → Parts es c i → Next es c i d
unfolding table_width
next n [] c i d h p = record { past = λ l. refl; early = λ l m. absurd (omega arith); found = λ l m. absurd (omega arith) }
next n (e ∷ es) c zero d h p =
    let a = ascending n e es h in
    let ends = ltb-false (last e) c (p.1 zero d (omega arith) (omega arith)) in
    record {
      past = λ l. absurd (omega arith);
      early = λ l m. rw (within_below (first e) (last e) c m) (one_before (suc (last e)) es c a.others (omega arith));
      found = λ l m. rw (within_in (first e) (last e) c m ends);
    }
next n (e ∷ es) c (suc i) d h p =
    let a = ascending n e es h in
    let more = next (suc (last e)) es c i d a.others (behind e es c i p) in
    let on = next_entry e es c (ltb-true (last e) c (p.0 zero d (omega arith) (omega arith))) in
    record {
      past = λ l. on ∙ more.past (omega arith);
      early = λ l m. on ∙ more.early (omega arith) m;
      found = λ l m. on ∙ more.found (omega arith) m;
    }

-- ---- what a lookup finds: d is the range at i
pub found_by : (es : List Entry) (c i : ℕ) (d : Entry) → ordered es ≡ true → Parts es c i → (true ≡ ltb i (length es)) × (d ≡ get_or es i d)
    → first d ≤ c → width d ≡ table_width es c
found_by es c i d h p l b =
    let n = next 0 es c i d h p in
    let inside = ltb-true i (length es) (sym l.0) in
    rw l.1 (sym (n.found inside (rw (sym l.1) b)))

pub early_by : (es : List Entry) (c i : ℕ) (d : Entry) → ordered es ≡ true → Parts es c i → (true ≡ ltb i (length es)) × (d ≡ get_or es i d)
    → c < first d → 1 ≡ table_width es c
early_by es c i d h p l b =
    let n = next 0 es c i d h p in
    let inside = ltb-true i (length es) (sym l.0) in
    sym (n.early inside (rw (sym l.1) b))

pub past_by : (es : List Entry) (c i : ℕ) → ordered es ≡ true → Parts es c i → false ≡ ltb i (length es) → 1 ≡ table_width es c
past_by es c i h p l = let n = next 0 es c i (record { 0 = 0; 1 = 0; 2 = 0 }) h p in sym (n.past (ltb-false i (length es) (sym l)))
