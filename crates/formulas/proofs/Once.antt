-- The list of all formulas of a size: every one, each once, in order.
-- Assumes nothing.
use mathlib.Core.Path.{◌≡◌, refl, sym, ap, ◌∙◌}
use mathlib.Core.List.{List, [], ◌∷◌, ◌++◌, map}
use mathlib.Core.Logic.{◌⊎◌, inl, inr, ⊎_elim}
use Prim.Native.Nat.{ℕ, zero, suc, ◌+◌, ◌-◌, ◌≤◌, ◌<◌}
use native.Mathlib.Omega.{arith}
use borrow.Author.Tests.{lt-ltb, le-ltb, eq-eqb}
use Rattle.formulas.specs.Formulas.{Op, plus, times, Formula, path, binary, negation, parentheses, place, size, kind}
use Rattle.formulas.specs.Formulas.{Order, less, same, compare, ◌then◌, heads, order, products, splits, of_size, up_to}
use Rattle.formulas.specs.Once.{Among, here, later, Ahead, Ascends, EachOnce}
use Rattle.formulas.specs.Once as once

-- ---- an order by one thing and then by another
compare_same : (x y : ℕ) → x ≡ y → compare x y ≡ same
compare_same x y e = rw (le-ltb x y (omega arith), eq-eqb x y e)

compare_less : (x y : ℕ) → x < y → compare x y ≡ less
compare_less x y l = rw (lt-ltb x y l)

alike : (x y : Order) → x ≡ same → (x then y) ≡ y
alike x y e = rw e

first : (x y : Order) → x ≡ less → (x then y) ≡ less
first x y e = rw e

-- of one size and one kind
heads_same : (f g : Formula) → size f ≡ size g → kind f ≡ kind g → heads f g ≡ same
heads_same f g e k = alike _ _ (compare_same (size f) (size g) e) ∙ compare_same (kind f) (kind g) k

heads_less : (f g : Formula) → size f ≡ size g → kind f < kind g → heads f g ≡ less
heads_less f g e k = alike _ _ (compare_same (size f) (size g) e) ∙ compare_less (kind f) (kind g) k

itself : (f : Formula) → order f f ≡ same
unfolding order
itself path = heads_same path path refl refl
itself (binary o l r) =
    alike _ _ (heads_same (binary o l r) (binary o l r) refl refl)
    ∙ alike _ _ (compare_same (place o) (place o) refl)
    ∙ alike _ _ (compare_same (size l) (size l) refl)
    ∙ alike _ _ (itself l)
    ∙ itself r
itself (negation f) = alike _ _ (heads_same (negation f) (negation f) refl refl) ∙ itself f
itself (parentheses f) = alike _ _ (heads_same (parentheses f) (parentheses f) refl refl) ∙ itself f

-- ---- membership
among_append : {f : Formula} (xs ys : List Formula) → Among f (xs ++ ys) → Among f xs ⊎ Among f ys
among_append [] ys m = inr m
among_append (x ∷ xs) ys once.here = inl once.here
among_append (x ∷ xs) ys (once.later m) = ⊎_elim (λ p. inl (once.later p)) (λ q. inr q) (among_append xs ys m)

in_left : {f : Formula} (xs ys : List Formula) → Among f xs → Among f (xs ++ ys)
in_left (x ∷ xs) ys once.here = once.here
in_left (x ∷ xs) ys (once.later m) = once.later (in_left xs ys m)
in_left {f = f} [] ys x₁ = elim x₁ [ ]

in_right : {f : Formula} (xs ys : List Formula) → Among f ys → Among f (xs ++ ys)
in_right [] ys m = m
in_right (x ∷ xs) ys m = once.later (in_right xs ys m)

record Mapped (g : Formula → Formula) (xs : List Formula) (f : Formula) : Type 0 where
  of : Formula
  among : Among of xs
  is : f ≡ g of

among_map : (g : Formula → Formula) {f : Formula} (xs : List Formula) → Among f (map g xs) → Mapped g xs f
among_map g (x ∷ xs) once.here = record { of = x; among = once.here; is = refl }
among_map g (x ∷ xs) (once.later m) = let k = among_map g xs m in record { of = k.of; among = once.later k.among; is = k.is }
among_map g {f = f} [] x₁ = elim x₁ [ ]

in_map : (g : Formula → Formula) {f : Formula} (xs : List Formula) → Among f xs → Among (g f) (map g xs)
in_map g (x ∷ xs) once.here = once.here
in_map g (x ∷ xs) (once.later m) = once.later (in_map g xs m)
in_map g {f = f} [] x₁ = elim x₁ [ ]

record Paired (o : Op) (ls rs : List Formula) (f : Formula) : Type 0 where
  left : Formula
  right : Formula
  in_ls : Among left ls
  in_rs : Among right rs
  is : f ≡ binary o left right

among_products : {o : Op} {f : Formula} (ls rs : List Formula) → Among f (products o ls rs) → Paired o ls rs f
unfolding products
among_products {o} (l ∷ ls) rs m =
    ⊎_elim
    (λ p. let k = among_map (binary o l) rs p in record { left = l; right = k.of; in_ls = once.here; in_rs = k.among; is = k.is })
    (λ q. let k = among_products ls rs q in record { left = k.left; right = k.right; in_ls = once.later k.in_ls; in_rs = k.in_rs; is = k.is })
    (among_append (map (binary o l) rs) (products o ls rs) m)
among_products {o = o} {f = f} [] rs m = elim m [ ]

in_products : {o : Op} {l r : Formula} (ls rs : List Formula) → Among l ls → Among r rs → Among (binary o l r) (products o ls rs)
unfolding products
in_products {o} {l} (x ∷ ls) rs once.here n = in_left (map (binary o l) rs) (products o ls rs) (in_map (binary o l) rs n)
in_products {o} (x ∷ ls) rs (once.later m) n = in_right (map (binary o x) rs) (products o ls rs) (in_products ls rs m n)
in_products {o = o} {l = l} {r = r} [] rs x₂ n = elim x₂ [ ]

-- of sizes i and j, the left not below k
record Halved (o : Op) (of : ℕ → List Formula) (k n : ℕ) (f : Formula) : Type 0 where
  i : ℕ
  j : ℕ
  left : Formula
  right : Formula
  in_ls : Among left (of i)
  in_rs : Among right (of j)
  is : f ≡ binary o left right
  sum : i + j ≡ k + n
  least : k ≤ i

among_splits : {o : Op} {f : Formula} (of : ℕ → List Formula) (k n : ℕ) → Among f (splits o of k n) → Halved o of k n f
unfolding splits
among_splits {o = o} {f = f} of k (suc n) m =
    ⊎_elim
    (λ p.
    let h = among_products (of k) (of (suc n)) p in
    record { i = k; j = suc n; left = h.left; right = h.right; in_ls = h.in_ls; in_rs = h.in_rs; is = h.is; sum = refl; least = omega arith })
    (λ q.
    let h : Halved o of (suc k) n f = among_splits {o = o} {f = f} of (suc k) n q in
    record {
      i = h.i;
      j = h.j;
      left = h.left;
      right = h.right;
      in_ls = h.in_ls;
      in_rs = h.in_rs;
      is = h.is;
      sum = omega (arith, h.sum);
      least = omega (arith, h.least);
    })
    (among_append (products o (of k) (of (suc n))) (splits o of (suc k) n) m)
among_splits {o = o} {f = f} of k zero m = elim m [ ]

in_splits : {o : Op} {l r : Formula} (of : ℕ → List Formula) (d k n i j : ℕ) → i ≡ k + d → i + j ≡ k + n → 1 ≤ j → Among l (of i)
    → Among r (of j) → Among (binary o l r) (splits o of k n)
unfolding splits
in_splits {o} of d k zero i j e s h m p = absurd (omega arith)
in_splits {o} of zero k (suc n) i j e s h m p =
    let ei : i ≡ k = omega arith in
    let ej : j ≡ suc n = omega arith in
    in_left (products o (of k) (of (suc n))) (splits o of (suc k) n) (in_products (of k) (of (suc n)) (rw ei at m) (rw ej at p))
in_splits {o} of (suc d) k (suc n) i j e s h m p =
    in_right (products o (of k) (of (suc n))) (splits o of (suc k) n) (in_splits of d (suc k) n i j (omega arith) (omega arith) h m p)

-- ---- every formula of a list has its size
abbrev Sized : (ℕ → List Formula) → Type 0
Sized of = (n : ℕ) (f : Formula) → Among f (of n) → size f ≡ n

split_size : {o : Op} {of : ℕ → List Formula} {f : Formula} (n : ℕ) → Sized of → Halved o of 1 n f → size f ≡ suc (suc n)
unfolding size
split_size n s h = ap size h.is ∙ omega (arith, s _ _ h.in_ls, s _ _ h.in_rs, h.sum)

list_sized : (of : ℕ → List Formula) → Sized of → Sized (of_size of)
unfolding of_size size
list_sized of s (suc zero) f once.here = refl
list_sized of s (suc (suc n)) f m =
    ⊎_elim
    (λ p. split_size n s (among_splits of 1 n p))
    (λ q.
    ⊎_elim
    (λ p. split_size n s (among_splits of 1 n p))
    (λ q.
    ⊎_elim
    (λ p. let k = among_map negation (of (suc n)) p in ap size k.is ∙ omega (arith, s _ _ k.among))
    (λ p. let k = among_map parentheses (of (suc n)) p in ap size k.is ∙ omega (arith, s _ _ k.among))
    (among_append (map negation (of (suc n))) (map parentheses (of (suc n))) q))
    (among_append (splits times of 1 n) _ q))
    (among_append (splits plus of 1 n) _ m)
list_sized of s zero f m = elim m [ ]
list_sized of s (suc zero) f (later x7) = elim x7 [ ]

sized : (t : ℕ) → Sized (up_to t)
unfolding up_to
sized (suc t) n f m = list_sized (up_to t) (sized t) n f m
sized zero n f m = elim m [ ]

-- ---- every formula is there
positive : (f : Formula) → 1 ≤ size f
unfolding size
positive path = omega arith
positive (binary o l r) = omega arith
positive (negation f) = omega arith
positive (parentheses f) = omega arith

in_binaries : (o : Op) {f : Formula} (of : ℕ → List Formula) (n : ℕ) → Among f (splits o of 1 n) → Among f (of_size of (suc (suc n)))
unfolding of_size
in_binaries plus of n m = in_left (splits plus of 1 n) _ m
in_binaries times of n m = in_right (splits plus of 1 n) _ (in_left (splits times of 1 n) _ m)

there : (f : Formula) (t n : ℕ) → size f ≡ n → n ≤ t → Among f (up_to t n)
unfolding up_to of_size size
there path zero n e h = absurd (omega arith)
there path (suc t) n e h = rw (← e) once.here
there (negation f) zero n e h = absurd (omega arith)
there (negation f) (suc t) zero e h = absurd (omega arith)
there (negation f) (suc t) (suc zero) e h = absurd (omega (arith, positive f))
there (negation f) (suc t) (suc (suc n)) e h =
    in_right (splits plus (up_to t) 1 n) _
    (in_right (splits times (up_to t) 1 n) _
    (in_left (map negation (up_to t (suc n))) _ (in_map negation (up_to t (suc n)) (there f t (suc n) (omega arith) (omega arith)))))
there (parentheses f) zero n e h = absurd (omega arith)
there (parentheses f) (suc t) zero e h = absurd (omega arith)
there (parentheses f) (suc t) (suc zero) e h = absurd (omega (arith, positive f))
there (parentheses f) (suc t) (suc (suc n)) e h =
    in_right (splits plus (up_to t) 1 n) _
    (in_right (splits times (up_to t) 1 n) _
    (in_right (map negation (up_to t (suc n))) _ (in_map parentheses (up_to t (suc n)) (there f t (suc n) (omega arith) (omega arith)))))
there (binary o l r) zero n e h = absurd (omega arith)
there (binary o l r) (suc t) zero e h = absurd (omega arith)
there (binary o l r) (suc t) (suc zero) e h = absurd (omega (arith, positive l, positive r))
there (binary o l r) (suc t) (suc (suc n)) e h =
    let x = positive l in
    let y = positive r in
    in_binaries o (up_to t) n
    (in_splits (up_to t) (size l - 1) 1 n (size l) (size r) (omega arith) (omega arith) y (there l t (size l) refl (omega arith))
    (there r t (size r) refl (omega arith)))

-- ---- which comes first
module _ (o : Op) (l r m s : Formula) where
  left_first : size l ≡ size m → size r ≡ size s → order l m ≡ less → order (binary o l r) (binary o m s) ≡ less
  unfolding order size
  left_first e f b =
      alike _ _ (heads_same (binary o l r) (binary o m s) (omega arith) refl)
      ∙ alike _ _ (compare_same (place o) (place o) refl)
      ∙ alike _ _ (compare_same (size l) (size m) e)
      ∙ first _ _ b

  smaller_first : size l < size m → size l + size r ≡ size m + size s → order (binary o l r) (binary o m s) ≡ less
  unfolding order size
  smaller_first lt e =
      alike _ _ (heads_same (binary o l r) (binary o m s) (omega arith) refl)
      ∙ alike _ _ (compare_same (place o) (place o) refl)
      ∙ first _ _ (compare_less (size l) (size m) lt)

right_first : (o : Op) (l r s : Formula) → size r ≡ size s → order r s ≡ less → order (binary o l r) (binary o l s) ≡ less
unfolding order size
right_first o l r s e b =
    alike _ _ (heads_same (binary o l r) (binary o l s) (omega arith) refl)
    ∙ alike _ _ (compare_same (place o) (place o) refl)
    ∙ alike _ _ (compare_same (size l) (size l) refl)
    ∙ alike _ _ (itself l)
    ∙ b

plus_first : (l r m s : Formula) → size l + size r ≡ size m + size s → order (binary plus l r) (binary times m s) ≡ less
unfolding order size
plus_first l r m s e = alike _ _ (heads_same (binary plus l r) (binary times m s) (omega arith) refl)

binary_first : (o : Op) (l r g : Formula) → size (binary o l r) ≡ size g → 63 < kind g → order (binary o l r) g ≡ less
unfolding order
binary_first o l r path e k = absurd (omega arith)
binary_first o l r (binary p m s) e k = absurd (omega arith)
binary_first o l r (negation g) e k = heads_less (binary o l r) (negation g) e k
binary_first o l r (parentheses g) e k = heads_less (binary o l r) (parentheses g) e k

negation_first : (f g : Formula) → size f ≡ size g → order (negation f) (parentheses g) ≡ less
unfolding order size
negation_first f g e = heads_less (negation f) (parentheses g) (omega arith) (omega arith)

negated : (f g : Formula) → size f ≡ size g → order f g ≡ less → order (negation f) (negation g) ≡ less
unfolding order size
negated f g e b = alike _ _ (heads_same (negation f) (negation g) (omega arith) refl) ∙ b

enclosed : (f g : Formula) → size f ≡ size g → order f g ≡ less → order (parentheses f) (parentheses g) ≡ less
unfolding order size
enclosed f g e b = alike _ _ (heads_same (parentheses f) (parentheses g) (omega arith) refl) ∙ b

-- ---- lists that ascend
ahead_among : {x y : Formula} {ys : List Formula} → Ahead x ys → Among y ys → order x y ≡ less
ahead_among (once.more b r) once.here = b
ahead_among (once.more b r) (once.later m) = ahead_among r m
ahead_among {y = y} once.none x4 = elim x4 [ ]

ahead_from : {x : Formula} (ys : List Formula) → ((y : Formula) → Among y ys → order x y ≡ less) → Ahead x ys
ahead_from [] f = once.none
ahead_from (y ∷ ys) f = once.more (f y once.here) (ahead_from ys (λ z m. f z (once.later m)))

ahead_append : {x : Formula} (xs ys : List Formula) → Ahead x xs → Ahead x ys → Ahead x (xs ++ ys)
ahead_append [] ys p q = q
ahead_append (z ∷ xs) ys (once.more b r) q = once.more b (ahead_append xs ys r q)

abbrev AllBefore : List Formula → List Formula → Type 0
AllBefore xs ys = (x y : Formula) → Among x xs → Among y ys → order x y ≡ less

ascends_append : (xs ys : List Formula) → Ascends xs → Ascends ys → AllBefore xs ys → Ascends (xs ++ ys)
ascends_append [] ys p q f = q
ascends_append (x ∷ xs) ys (once.more b r) q f =
    once.more (ahead_append xs ys b (ahead_from ys (λ y m. f x y once.here m))) (ascends_append xs ys r q (λ z y m n. f z y (once.later m) n))

ascends_map : (g : Formula → Formula) (xs : List Formula)
    → ((x y : Formula) → Among x xs → Among y xs → order x y ≡ less → order (g x) (g y) ≡ less) → Ascends xs → Ascends (map g xs)
ascends_map g [] f p = once.none
ascends_map g (x ∷ xs) f (once.more b r) =
    once.more {f = g x}
    (ahead_from (map g xs)
    (λ y m. let k = among_map g xs m in rw k.is (f x k.of once.here (once.later k.among) (ahead_among b k.among))))
    (ascends_map g xs (λ z y m n. f z y (once.later m) (once.later n)) r)

abbrev SizeIs : ℕ → List Formula → Type 0
SizeIs n fs = (f : Formula) → Among f fs → size f ≡ n

ascends_products : (o : Op) (i j : ℕ) (ls rs : List Formula) → SizeIs i ls → SizeIs j rs → Ascends ls → Ascends rs → Ascends (products o ls rs)
unfolding products
ascends_products o i j [] rs s t p q = once.none
ascends_products o i j (l ∷ ls) rs s t (once.more b p) q =
    ascends_append (map (binary o l) rs) (products o ls rs)
    (ascends_map (binary o l) rs (λ x y m n e. right_first o l x y (t x m ∙ sym (t y n)) e) q)
    (ascends_products o i j ls rs (λ f m. s f (once.later m)) t p q)
    (λ x y m n.
    let k = among_map (binary o l) rs m in
    let h = among_products ls rs n in
    rw (k.is, h.is)
    (left_first o l k.of h.left h.right (s l once.here ∙ sym (s h.left (once.later h.in_ls))) (t k.of k.among ∙ sym (t h.right h.in_rs))
    (ahead_among b h.in_ls)))

ascends_splits : (o : Op) (of : ℕ → List Formula) (k n : ℕ) → Sized of → ((m : ℕ) → Ascends (of m)) → Ascends (splits o of k n)
unfolding splits
ascends_splits o of k zero s p = once.none
ascends_splits o of k (suc n) s p =
    ascends_append (products o (of k) (of (suc n))) (splits o of (suc k) n)
    (ascends_products o k (suc n) (of k) (of (suc n)) (s k) (s (suc n)) (p k) (p (suc n)))
    (ascends_splits o of (suc k) n s p)
    (λ x y u v.
    let g = among_products (of k) (of (suc n)) u in
    let h = among_splits of (suc k) n v in
    rw (g.is, h.is)
    (smaller_first o g.left g.right h.left h.right (omega (arith, s _ _ g.in_ls, s _ _ h.in_ls, h.least))
    (omega (arith, s _ _ g.in_ls, s _ _ g.in_rs, s _ _ h.in_ls, s _ _ h.in_rs, h.sum))))

module _ (of : ℕ → List Formula) (s : Sized of) (n : ℕ) where
  binaries_first : (o : Op) (ys : List Formula) → ((y : Formula) → Among y ys → size y ≡ suc (suc n)) → ((y : Formula) → Among y ys → 63 < kind y)
      → AllBefore (splits o of 1 n) ys
  unfolding size
  binaries_first o ys f k x y u v =
      let g = among_splits of 1 n u in
      rw g.is (binary_first o g.left g.right y (omega (arith, s _ _ g.in_ls, s _ _ g.in_rs, g.sum, f y v)) (k y v))

  abbrev singles : List Formula
  singles = map negation (of (suc n)) ++ map parentheses (of (suc n))

  single_size : (y : Formula) → Among y singles → size y ≡ suc (suc n)
  unfolding size
  single_size y m =
      ⊎_elim
      (λ p. let k = among_map negation (of (suc n)) p in ap size k.is ∙ omega (arith, s _ _ k.among))
      (λ p. let k = among_map parentheses (of (suc n)) p in ap size k.is ∙ omega (arith, s _ _ k.among))
      (among_append (map negation (of (suc n))) (map parentheses (of (suc n))) m)

  single_kind : (y : Formula) → Among y singles → 63 < kind y
  single_kind y m =
      ⊎_elim
      (λ p. let k = among_map negation (of (suc n)) p in rw k.is (omega arith))
      (λ p. let k = among_map parentheses (of (suc n)) p in rw k.is (omega arith))
      (among_append (map negation (of (suc n))) (map parentheses (of (suc n))) m)

  ascends_singles : Ascends (of (suc n)) → Ascends singles
  ascends_singles p =
      ascends_append (map negation (of (suc n))) (map parentheses (of (suc n)))
      (ascends_map negation (of (suc n)) (λ x y m k e. negated x y (s _ _ m ∙ sym (s _ _ k)) e) p)
      (ascends_map parentheses (of (suc n)) (λ x y m k e. enclosed x y (s _ _ m ∙ sym (s _ _ k)) e) p)
      (λ x y u v.
      let g = among_map negation (of (suc n)) u in
      let h = among_map parentheses (of (suc n)) v in
      rw (g.is, h.is) (negation_first g.of h.of (s _ _ g.among ∙ sym (s _ _ h.among))))

  ascends_binaries : ((m : ℕ) → Ascends (of m)) → Ascends (splits times of 1 n ++ singles)
  ascends_binaries p =
      ascends_append (splits times of 1 n) singles (ascends_splits times of 1 n s p) (ascends_singles (p (suc n)))
      (binaries_first times singles single_size single_kind)

  plus_before : AllBefore (splits plus of 1 n) (splits times of 1 n ++ singles)
  plus_before x y u v =
      ⊎_elim
      (λ w.
      let g = among_splits of 1 n u in
      let h = among_splits of 1 n w in
      rw (g.is, h.is)
      (plus_first g.left g.right h.left h.right (omega (arith, s _ _ g.in_ls, s _ _ g.in_rs, s _ _ h.in_ls, s _ _ h.in_rs, g.sum, h.sum))))
      (λ w. binaries_first plus singles single_size single_kind x y u w)
      (among_append (splits times of 1 n) singles v)

list_ascends : (of : ℕ → List Formula) → Sized of → ((m : ℕ) → Ascends (of m)) → (n : ℕ) → Ascends (of_size of n)
unfolding of_size
list_ascends of s p zero = once.none
list_ascends of s p (suc zero) = once.more once.none once.none
list_ascends of s p (suc (suc n)) =
    ascends_append (splits plus of 1 n) (splits times of 1 n ++ singles of s n) (ascends_splits plus of 1 n s p) (ascends_binaries of s n p)
    (plus_before of s n)

ascends : (t n : ℕ) → Ascends (up_to t n)
unfolding up_to
ascends zero n = once.none
ascends (suc t) n = list_ascends (up_to t) (sized t) (ascends t) n

pub exactly_once : EachOnce
exactly_once n = record { all = λ f e. there f n n e (omega arith); sized = sized n n; ascending = ascends n n; itself = itself }
