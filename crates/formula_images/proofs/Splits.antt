-- A place among the formulas of a size, taken apart.
-- Assumes nothing.
use mathlib.Core.Path.{◌≡◌, refl, sym, ap, ◌∙◌}
use mathlib.Core.List.{List, ◌∷◌, [], ◌++◌, map}
use Prim.Native.Nat.{ℕ, zero, suc, ◌+◌, ◌*◌, ◌-◌, ◌/◌, ◌%◌, ◌≤◌, ◌<◌}
use native.Mathlib.Omega.{arith}
use native.Mathlib.Nat.{suc-mul, zero-mul, mul-zero, div-add-mod', div-lt_iff_lt-mul, mod-lt}
use lib.ListN.{length, length-append, get_or-append}
use lib.Seq.{get_or-append-add}
use Rattle.formulas.specs.Formulas.{Op, plus, times, Formula, path, binary, negation, parentheses, products, splits, of_size, up_to, formulas}
use Rattle.formulas.specs.Places.{at, formula_at}
use Rattle.formulas.proofs.Places.{map_at, map_length, product_at}
use Rattle.formula_images.specs.declared.shapes.Spot.{Spot}
use Rattle.formula_images.specs.declared.shapes.Operator.TheVariants.{Plus, Times}
use Rattle.formula_images.specs.Parts.{There, formula_of, Splits, Double, Single}

-- ---- the list of a size, by those of the sizes below it
splits_same : (o : Op) (of og : ℕ → List Formula) (b k n : ℕ) → 1 ≤ k → k + n ≤ b → ((i : ℕ) → i < b → of i ≡ og i)
    → splits o of k n ≡ splits o og k n
unfolding splits
splits_same o of og b k zero h l e = refl
splits_same o of og b k (suc n) h l e = rw (e k (omega arith), e (suc n) (omega arith), splits_same o of og b (suc k) n (omega arith) (omega arith) e)

of_size_same : (of og : ℕ → List Formula) (n : ℕ) → ((i : ℕ) → i < n → of i ≡ og i) → of_size of n ≡ of_size og n
unfolding of_size
of_size_same of og zero e = refl
of_size_same of og (suc zero) e = refl
of_size_same of og (suc (suc n)) e =
    rw (
      splits_same plus of og (suc (suc n)) 1 n (omega arith) (omega arith) e,
      splits_same times of og (suc (suc n)) 1 n (omega arith) (omega arith) e,
      e (suc n) (omega arith),
    )

stable : (t u n : ℕ) → n ≤ t → n ≤ u → up_to t n ≡ up_to u n
unfolding up_to of_size
stable zero zero n h k = refl
stable zero (suc u) zero h k = refl
stable zero (suc u) (suc n) h k = absurd (omega arith)
stable (suc t) zero zero h k = refl
stable (suc t) zero (suc n) h k = absurd (omega arith)
stable (suc t) (suc u) n h k = of_size_same (up_to t) (up_to u) n (λ i l. stable t u i (omega arith) (omega arith))

abbrev listed : ℕ → ℕ → List Formula
listed n m = splits plus formulas 1 n ++ (splits times formulas 1 n ++ (map negation (formulas m) ++ map parentheses (formulas m)))

pub by_size : (size : ℕ) → 2 ≤ size → formulas size ≡ listed (size - 2) (size - 1)
unfolding up_to of_size
by_size zero h = absurd (omega arith)
by_size (suc zero) h = absurd (omega arith)
by_size (suc (suc n)) h =
    let x : suc (suc n) - 2 ≡ n = omega arith in
    let y : suc (suc n) - 1 ≡ suc n = omega arith in
    rw (x, y) (of_size_same (up_to (suc n)) formulas (suc (suc n)) (λ i l. stable (suc n) i i (omega arith) (omega arith)))

-- ---- places
at_left : (xs ys : List Formula) (p : ℕ) → p < length xs → at (xs ++ ys) p ≡ at xs p
at_left xs ys p h = get_or-append xs ys path p h

at_right : (xs ys : List Formula) (p : ℕ) → length xs ≤ p → at (xs ++ ys) p ≡ at ys (p - length xs)
at_right xs ys p h =
    let e : p ≡ length xs + (p - length xs) = omega arith in
    ap (at (xs ++ ys)) e ∙ get_or-append-add xs ys (p - length xs) path

-- ---- those of one operator
products_length : (o : Op) (ls rs : List Formula) → length (products o ls rs) ≡ length ls * length rs
unfolding products
products_length o [] rs = sym (zero-mul (length rs))
products_length o (l ∷ ls) rs =
    length-append (map (binary o l) rs) (products o ls rs)
    ∙ omega (arith, map_length (binary o l) rs, products_length o ls rs, suc-mul (length ls) (length rs))

pub splits_length : (o : Op) (k m : ℕ)
    → length (splits o formulas k (suc m)) ≡ length (formulas k) * length (formulas (suc m)) + length (splits o formulas (suc k) m)
unfolding splits
splits_length o k m =
    length-append (products o (formulas k) (formulas (suc m))) (splits o formulas (suc k) m)
    ∙ ap (λ (n : ℕ). n + length (splits o formulas (suc k) m)) (products_length o (formulas k) (formulas (suc m)))

splits_none : (o : Op) (k : ℕ) → length (splits o formulas k 0) ≡ 0
unfolding splits
splits_none o k = refl

pub splits_later : (o : Op) (k m p : ℕ) → length (formulas k) * length (formulas (suc m)) ≤ p
    → at (splits o formulas k (suc m)) p ≡ at (splits o formulas (suc k) m) (p - length (formulas k) * length (formulas (suc m)))
unfolding splits
splits_later o k m p h =
    let e = products_length o (formulas k) (formulas (suc m)) in
    at_right (products o (formulas k) (formulas (suc m))) (splits o formulas (suc k) m) p (omega arith)
    ∙ ap (λ (n : ℕ). at (splits o formulas (suc k) m) (p - n)) e

pub splits_here : (o : Op) (k m p : ℕ) → p < length (formulas k) * length (formulas (suc m))
    → at (splits o formulas k (suc m)) p ≡ at (products o (formulas k) (formulas (suc m))) p
unfolding splits
splits_here o k m p h =
    let e = products_length o (formulas k) (formulas (suc m)) in
    at_left (products o (formulas k) (formulas (suc m))) (splits o formulas (suc k) m) p (omega arith)

-- ---- the loop over the left operand's size
pub record Going (size place k rest here : ℕ) : Type 0 where
  pub least : 1 ≤ k
  pub most : size ≤ 7
  pub both : k + 2 ≤ size
  pub pairs : here ≡ length (formulas k) * length (formulas (size - 1 - k))
  pub inside : rest < length (splits plus formulas k (size - 1 - k))
  pub same : (o : Op) → at (splits o formulas 1 (size - 2)) place ≡ at (splits o formulas k (size - 1 - k)) rest

pub going_first : (size : ℕ) → 2 ≤ size → (p : ℕ) → p < length (splits plus formulas 1 (size - 2)) → 1 + 2 ≤ size
going_first size h p l = go (size - 2) refl
  where
    go : (n : ℕ) → size - 2 ≡ n → 1 + 2 ≤ size
    go zero e = absurd (omega (arith, splits_none plus 1, ap (λ (n : ℕ). length (splits plus formulas 1 n)) e))
    go (suc n) e = omega arith

pub going_start : (size p here : ℕ) → 2 ≤ size → size ≤ 7 → p < length (splits plus formulas 1 (size - 2))
    → here ≡ length (formulas 1) * length (formulas (size - 1 - 1)) → Going size p 1 p here
going_start size p here h m l e =
    let x : size - 1 - 1 ≡ size - 2 = omega arith in
    record { least = omega arith; most = m; both = going_first size h p l; pairs = e; inside = rw x l; same = λ o. rw x }

module _ (size p k rest here : ℕ) (g : Going size p k rest here) where
  left : ℕ
  left = size - 1 - k - 1

  left_is : size - 1 - k ≡ suc left
  unfolding left
  left_is = omega (arith, g.both)

  pairs_is : here ≡ length (formulas k) * length (formulas (suc left))
  pairs_is = rw (← left_is) g.pairs

  inside_is : rest < length (splits plus formulas k (suc left))
  inside_is = rw (← left_is) g.inside

  pub going_more : here ≤ rest → k + 1 + 2 ≤ size
  unfolding left
  going_more h = go left refl
    where
      go : (n : ℕ) → left ≡ n → k + 1 + 2 ≤ size
      go zero e =
          let none = ap (λ (n : ℕ). length (splits plus formulas (suc k) n)) e in
          absurd (omega (arith, inside_is, splits_length plus k left, pairs_is, splits_none plus (suc k), none))
      go (suc n) e = omega (arith, e, g.both)

  pub going_again : (h : here ≤ rest) (next : ℕ) → next ≡ length (formulas (k + 1)) * length (formulas (size - 1 - (k + 1)))
      → Going size p (k + 1) (rest - here) next
  unfolding left
  going_again h next e =
      let x : k + 1 ≡ suc k = omega arith in
      let y : size - 1 - (k + 1) ≡ left = omega arith in
      let z = pairs_is in
      let low : length (formulas k) * length (formulas (suc left)) ≤ rest = omega arith in
      record {
        least = omega arith;
        most = g.most;
        both = going_more h;
        pairs = e;
        inside = rw (y, x) (omega (arith, inside_is, splits_length plus k left));
        same = λ o.
            g.same o
            ∙ ap (λ (n : ℕ). at (splits o formulas k n) rest) left_is
            ∙ splits_later o k left rest low
            ∙ ap (λ (n : ℕ). at (splits o formulas (suc k) left) (rest - n)) (sym z)
            ∙ rw (y, x);
      }

  module _ (low : rest < here) (rights : ℕ) (r : rights ≡ length (formulas (size - 1 - k))) where
    rights_is : rights ≡ length (formulas (suc left))
    rights_is = rw (← left_is) r

    below : rest < length (formulas k) * rights
    below = rw rights_is (omega (arith, pairs_is))

    pub rights_some : 1 ≤ rights
    rights_some = go rights refl
      where
        go : (n : ℕ) → rights ≡ n → 1 ≤ rights
        go zero e = absurd (omega (arith, mul-zero (length (formulas k)), ap (λ (n : ℕ). length (formulas k) * n) e, below))
        go (suc n) e = omega arith

    -- right operands have the size that is left
    module _ (size₂ : ℕ) (f : size₂ ≡ size - 1 - k) where
      abbrev pair : Spot × Spot
      pair = (record { size = k; place = rest / rights }, record { size = size₂; place = rest % rights })

      pub going_done : Splits size p pair
      going_done =
          let i : rest / rights < length (formulas k) = (div-lt_iff_lt-mul {k = rights} rights_some).1 below in
          let j : rest % rights < rights = mod-lt rest rights_some in
          let e : rest ≡ rest / rights * length (formulas (suc left)) + rest % rights = rw (← rights_is) (sym (div-add-mod' rest rights)) in
          record {
            both =
                record {
                  first = record { least = g.least; most = omega (arith, g.both, g.most); inside = i };
                  second = record { least = omega (arith, g.both, f); most = omega (arith, g.most, f); inside = rw f (rw (← r) j) };
                  sizes = omega (arith, g.both, f);
                };
            is = λ o.
                g.same o
                ∙ ap (λ (n : ℕ). at (splits o formulas k n) rest) left_is
                ∙ splits_here o k left rest (omega (arith, pairs_is))
                ∙ ap (at (products o (formulas k) (formulas (suc left)))) e
                ∙ product_at o (formulas k) (formulas (suc left)) (rest / rights) (rest % rights) i (rw (← rights_is) j)
                ∙ ap (λ (n : ℕ). binary o (formula_at k (rest / rights)) (formula_at n (rest % rights))) (sym (f ∙ left_is));
          }

-- ---- the whole size
pub path_comes : (s : Spot) → There s → s.size ≡ 1 → formula_of s ≡ path
unfolding up_to of_size
path_comes s t e = first s.size e s.place t.inside
  where
    first : (n : ℕ) → n ≡ 1 → (q : ℕ) → q < length (formulas n) → formula_at n q ≡ path
    first n e zero h = rw e
    first n e (suc q) h = absurd (omega (arith, ap (λ (m : ℕ). length (formulas m)) e))

-- `each` formulas are of each operator
abbrev Each : ℕ → ℕ → Type 0
Each size each = (each ≡ length (splits plus formulas 1 (size - 2))) × (each ≡ length (splits times formulas 1 (size - 2)))

module _ (s : Spot) (each : ℕ) (t : There s) (more : 2 ≤ s.size) (e : Each s.size each) where
  abbrev p : ℕ
  p = s.place

  abbrev smaller : List Formula
  smaller = formulas (s.size - 1)

  abbrev singles : List Formula
  singles = map negation smaller ++ map parentheses smaller

  abbrev products_of : Op → List Formula
  products_of o = splits o formulas 1 (s.size - 2)

  is_listed : formula_of s ≡ at (listed (s.size - 2) (s.size - 1)) p
  is_listed = ap (λ (fs : List Formula). at fs p) (by_size s.size more)

  count_listed : length (formulas s.size) ≡ each + (each + (length smaller + length smaller))
  count_listed =
      ap length (by_size s.size more)
      ∙ length-append (products_of plus) (products_of times ++ singles)
      ∙ omega (
        arith,
        e.0,
        e.1,
        length-append (products_of times) singles,
        length-append (map negation smaller) (map parentheses smaller),
        map_length negation smaller,
        map_length parentheses smaller,
      )

  pub plus_comes : p < each → (left right : Spot) → Splits s.size p (left, right) → Double s Plus left right
  plus_comes h left right o =
      record {
        both = o.both;
        is = is_listed ∙ at_left (products_of plus) (products_of times ++ singles) p (omega (arith, e.0)) ∙ o.is plus;
      }

  past_plus : each ≤ p → formula_of s ≡ at (products_of times ++ singles) (p - each)
  past_plus h =
      is_listed
      ∙ at_right (products_of plus) (products_of times ++ singles) p (omega (arith, e.0))
      ∙ ap (λ (n : ℕ). at (products_of times ++ singles) (p - n)) (sym e.0)

  pub times_comes : each ≤ p → p - each < each → (left right : Spot) → Splits s.size (p - each) (left, right) → Double s Times left right
  times_comes h l left right o =
      record {
        both = o.both;
        is = past_plus h ∙ at_left (products_of times) singles (p - each) (omega (arith, e.1)) ∙ o.is times;
      }

  past_times : each ≤ p → each ≤ p - each → formula_of s ≡ at singles (p - each - each)
  past_times h l =
      past_plus h
      ∙ at_right (products_of times) singles (p - each) (omega (arith, e.1))
      ∙ ap (λ (n : ℕ). at singles (p - each - n)) (sym e.1)

  module _ (h : each ≤ p) (l : each ≤ p - each) (inner : ℕ) (n : inner ≡ length smaller) where
    pub negation_comes : p - each - each < inner → Single s negation (record { size = s.size - 1; place = p - each - each })
    negation_comes k =
        let i : p - each - each < length smaller = omega (arith, n) in
        record {
          there = record { least = omega arith; most = omega (arith, t.most); inside = i };
          sizes = omega arith;
          is =
              past_times h l
              ∙ at_left (map negation smaller) (map parentheses smaller) (p - each - each) (omega (arith, map_length negation smaller))
              ∙ map_at negation smaller (p - each - each) i;
        }

    pub parentheses_comes : inner ≤ p - each - each → Single s parentheses (record { size = s.size - 1; place = p - each - each - inner })
    parentheses_comes k =
        let i : p - each - each - inner < length smaller = omega (arith, n, t.inside, count_listed) in
        let m = map_length negation smaller in
        record {
          there = record { least = omega arith; most = omega (arith, t.most); inside = i };
          sizes = omega arith;
          is =
              past_times h l
              ∙ at_right (map negation smaller) (map parentheses smaller) (p - each - each) (omega (arith, n))
              ∙ ap (λ (x : ℕ). at (map parentheses smaller) (p - each - each - x)) (m ∙ sym n)
              ∙ map_at parentheses smaller (p - each - each - inner) i;
        }
