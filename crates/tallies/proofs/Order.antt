-- The totals are the sums over the files counted, which are the first 4,096 that document 01 does not refuse; sums are the same in any order.
-- Assumes nothing.
use mathlib.Core.Path.{◌≡◌, refl, sym, ap, ◌∙◌}
use mathlib.Core.Bool.{Bool}
use Rattle.std.specs.Prelude.{Option, None, Some}
use mathlib.Core.List.{List, [], ◌∷◌, map}
use Prim.Native.Nat.{ℕ, zero, suc, ◌+◌, ◌*◌, ◌≤◌, ◌<◌, max}
use native.Mathlib.Nat.{add_assoc, add_left_comm, zero-add, zero-max, add-zero, max-zero}
use native.Mathlib.Omega.{arith}
use borrow.Author.Tests.{le-leb}
use lib.ListN.{length, take, length-map}
use lib.Seq.{take_all}
use Rattle.refusals.specs.Refusals.{Refusal, unless, or_else, first, refuse_if}
use Rattle.tallies.specs.declared.Figures.{Figures}
use Rattle.tallies.specs.declared.Tallies.{Tallies}
use Rattle.tallies.specs.Tallies.{MAX_FILES, MAX_TALLY, fresh_tallies, together, added, tally_refusal}
use Rattle.tallies.specs.Order.{Reordered, none_left, same_first, first_two, one_by_one, Small, AllSmall, sum}
use Rattle.tallies.specs.Order.{totals, counted, accepted, Sums, AnyOrder, FirstCounted, AnyOrderOfFew}
use Rattle.tallies.proofs.Tests.{Passing, passes}

-- ---- figures together
max_assoc : (a b c : ℕ) → max (max a b) c ≡ max a (max b c)
max_assoc a b c = omega arith

max_left_comm : (a b c : ℕ) → max a (max b c) ≡ max b (max a c)
max_left_comm a b c = omega arith

together_assoc : (f g h : Figures) → together (together f g) h ≡ together f (together g h)
together_assoc f g h = simp (add_assoc, max_assoc)

together_swap : (f g h : Figures) → together f (together g h) ≡ together g (together f h)
together_swap f g h = simp (add_left_comm, max_left_comm)

-- what the tallies come to, with files that give fs
abbrev Total : Tallies → List Figures → Tallies
Total t fs = record { files = t.files + length fs; all = together t.all (sum fs) }

total_none : (t : Tallies) → t ≡ Total t []
unfolding sum
total_none t = simp (add-zero, max-zero)

total_more : (f : Figures) (t : Tallies) (fs : List Figures) → Total (added f t) fs ≡ Total t (f ∷ fs)
unfolding sum
total_more f t fs =
    let files : t.files + 1 + length fs ≡ t.files + length (f ∷ fs) = omega arith in
    rw (files, together_assoc t.all f (sum fs))

total_fresh : (fs : List Figures) → Total fresh_tallies fs ≡ record { files = length fs; all = sum fs }
total_fresh fs = simp (zero-add, zero-max)

-- ---- tallies that small files have made
-- each sum is at most the share of the bound that the files counted may have
record Held (t : Tallies) : Type 0 where
  bytes : MAX_FILES * t.all.bytes ≤ MAX_TALLY * t.files
  newlines : MAX_FILES * t.all.newlines ≤ MAX_TALLY * t.files
  column : t.all.column ≤ MAX_TALLY
  given : MAX_FILES * t.all.given ≤ MAX_TALLY * t.files
  wrapped : t.all.wrapped ≤ t.all.given
  placed : MAX_FILES * t.all.placed ≤ MAX_TALLY * t.files
  left : MAX_FILES * t.all.left ≤ MAX_TALLY * t.files

held_none : Held fresh_tallies
held_none = omega arith

held_added : (f : Figures) (t : Tallies) → Small f → Held t → Held (added f t)
held_added f t s h = omega arith

held_passes : (t : Tallies) → Held t → t.files < MAX_FILES → Passing t
held_passes t h l = omega arith

-- 14 lets them pass until 4,096 are counted
lets_pass : (t : Tallies) → Held t → t.files < MAX_FILES → tally_refusal t ≡ None
lets_pass t h l = ap (λ (b : Bool). refuse_if b 14 0) (passes t (held_passes t h l))

refuses : (t : Tallies) → MAX_FILES ≤ t.files → tally_refusal t ≡ Some (record { number = 14; place = 0 })
refuses t h = rw (le-leb MAX_FILES t.files h)

module _ {A : Type 0} (refusal : A → Option Refusal) (figures : A → Figures) where
  abbrev totals_of : Tallies → List A → Tallies
  totals_of = totals refusal figures

  abbrev counted_of : Tallies → List A → List A
  counted_of = counted refusal figures

  abbrev accepted_of : List A → List A
  accepted_of = accepted refusal figures

  -- ---- the sums
  -- going on from any tallies
  abbrev Onward : List A → Type 0
  Onward xs = (t : Tallies) → totals_of t xs ≡ Total t (map figures (counted_of t xs))

  onward_with : (o : Option Refusal) (x : A) (xs : List A) → Onward xs → (t : Tallies)
      → totals_of (unless o t (added (figures x) t)) xs
      ≡ Total t
      (map figures
      (unless o (counted_of (unless o t (added (figures x) t)) xs) (x ∷ counted_of (unless o t (added (figures x) t)) xs)))
  onward_with (Some r) x xs on t = on t
  onward_with None x xs on t =
      on (added (figures x) t) ∙ total_more (figures x) t (map figures (counted_of (added (figures x) t) xs))

  onward : (xs : List A) → Onward xs
  unfolding totals counted
  onward [] t = total_none t
  onward (x ∷ xs) t = onward_with (first (refusal x ∷ tally_refusal t ∷ [])) x xs (onward xs) t

  pub sums : Sums refusal figures
  sums xs =
      let ys : List A = counted_of fresh_tallies xs in
      onward xs fresh_tallies
      ∙ total_fresh (map figures ys)
      ∙ ap (λ (n : ℕ). record { files = n; all = sum (map figures ys) }) (length-map ys figures)

  -- ---- any order of the files counted
  same_many : {xs ys : List A} → Reordered xs ys → length xs ≡ length ys
  same_many none_left = refl
  same_many (same_first x r) = ap suc (same_many r)
  same_many (first_two x y xs) = refl
  same_many (one_by_one r s) = same_many r ∙ same_many s

  same_sum : {xs ys : List A} → Reordered xs ys → sum (map figures xs) ≡ sum (map figures ys)
  unfolding sum
  same_sum none_left = refl
  same_sum (same_first x r) = ap (together (figures x)) (same_sum r)
  same_sum (first_two x y xs) = together_swap (figures x) (figures y) (sum (map figures xs))
  same_sum (one_by_one r s) = same_sum r ∙ same_sum s

  pub any_order : AnyOrder refusal figures
  any_order xs ys r = sums xs ∙ (rw (same_many r, same_sum r)) ∙ sym (sums ys)

  -- ---- the files counted are the first that are accepted
  -- k more may be counted
  abbrev Going : List A → Type 0
  Going xs =
      (k : ℕ) (t : Tallies) → Held t → t.files + k ≡ MAX_FILES → AllSmall (map figures (accepted_of xs))
      → counted_of t xs ≡ take k (accepted_of xs)

  -- a file on top of tallies that 14 answers with p
  abbrev With : A → List A → Tallies → Option Refusal → List A
  With x xs t o = unless o (counted_of (unless o t (added (figures x) t)) xs) (x ∷ counted_of (unless o t (added (figures x) t)) xs)

  going_with : (o : Option Refusal) (x : A) (xs : List A) → Going xs → (k : ℕ) (t : Tallies) → Held t → t.files + k ≡ MAX_FILES
      → AllSmall (map figures (unless o (accepted_of xs) (x ∷ accepted_of xs)))
      → With x xs t (first (o ∷ tally_refusal t ∷ [])) ≡ take k (unless o (accepted_of xs) (x ∷ accepted_of xs))
  unfolding AllSmall
  going_with (Some r) x xs on k t h e small = on k t h e small
  going_with None x xs on zero t h e small =
      ap (λ (p : Option Refusal). With x xs t (or_else p None)) (refuses t (omega arith)) ∙ on zero t h e small.1
  going_with None x xs on (suc k) t h e small =
      ap (λ (p : Option Refusal). With x xs t (or_else p None)) (lets_pass t h (omega arith))
      ∙ ap (λ (l : List A). x ∷ l) (on k (added (figures x) t) (held_added (figures x) t small.0 h) (omega arith) small.1)

  going : (xs : List A) → Going xs
  unfolding counted accepted
  going [] zero t h e small = refl
  going [] (suc k) t h e small = refl
  going (x ∷ xs) k t h e small = going_with (refusal x) x xs (going xs) k t h e small

  pub first_counted : FirstCounted refusal figures
  first_counted xs small = going xs MAX_FILES fresh_tallies held_none (zero-add MAX_FILES) small

  -- ---- any order of a feed that is counted whole
  same_order : (xs : List A) → Reordered xs xs
  same_order [] = none_left
  same_order (x ∷ xs) = same_first x (same_order xs)

  first_accepted : (o : Option Refusal) (x : A) {ys zs : List A} → Reordered ys zs → Reordered (unless o ys (x ∷ ys)) (unless o zs (x ∷ zs))
  first_accepted (Some r) x q = q
  first_accepted None x q = same_first x q

  two_accepted : (o p : Option Refusal) (x y : A) (zs : List A)
      → Reordered (unless o (unless p zs (y ∷ zs)) (x ∷ unless p zs (y ∷ zs))) (unless p (unless o zs (x ∷ zs)) (y ∷ unless o zs (x ∷ zs)))
  two_accepted (Some r) p x y zs = same_order _
  two_accepted None (Some r) x y zs = same_order _
  two_accepted None None x y zs = first_two x y zs

  same_accepted : {xs ys : List A} → Reordered xs ys → Reordered (accepted_of xs) (accepted_of ys)
  unfolding accepted
  same_accepted none_left = none_left
  same_accepted (same_first x r) = first_accepted (refusal x) x (same_accepted r)
  same_accepted (first_two x y xs) = two_accepted (refusal x) (refusal y) x y (accepted_of xs)
  same_accepted (one_by_one r s) = one_by_one (same_accepted r) (same_accepted s)

  same_small : {xs ys : List A} → Reordered xs ys → AllSmall (map figures xs) → AllSmall (map figures ys)
  unfolding AllSmall
  same_small none_left h = tt
  same_small (same_first x r) h = (h.0, same_small r h.1)
  same_small (first_two x y xs) h = (h.1.0, (h.0, h.1.1))
  same_small (one_by_one r s) h = same_small s (same_small r h)

  all_counted : (xs : List A) → AllSmall (map figures (accepted_of xs)) → length (accepted_of xs) ≤ MAX_FILES → counted_of fresh_tallies xs ≡ accepted_of xs
  all_counted xs small few = first_counted xs small ∙ take_all MAX_FILES (accepted_of xs) few

  pub any_order_of_few : AnyOrderOfFew refusal figures
  any_order_of_few xs ys small few r =
      let a : Reordered (accepted_of xs) (accepted_of ys) = same_accepted r in
      let one : counted_of fresh_tallies xs ≡ accepted_of xs = all_counted xs small few in
      let other : counted_of fresh_tallies ys ≡ accepted_of ys = all_counted ys (same_small a small) (omega (arith, same_many a)) in
      any_order xs ys (rw (one, other) a)
