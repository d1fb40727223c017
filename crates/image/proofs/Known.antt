-- Where something is due, only numbers of kinds are right: so a record's kind is found by its byte.
-- Assumes nothing.
use mathlib.Core.Path.{◌≡◌, refl, sym, ap, ◌∙◌}
use mathlib.Core.List.{List, [], ◌∷◌}
use mathlib.Core.Bool.{Bool, true, false, cond, ◌&&◌, ◌||◌}
use Prim.Native.Nat.{ℕ, zero, suc, ◌+◌, ◌-◌, ◌≤◌, ◌<◌}
use native.Mathlib.Omega.{arith}
use lib.Dec.{leb, eqb}
use borrow.Author.Tests.{le-leb, leb-true, eqb-true, eqb-false, ne_eqb}
use Rattle.std.specs.Prelude.{Option, None, Some}
use Rattle.std.specs.Bool.{then_some}
use Rattle.laws.proofs.Booleans.{and_left, and_right, clash}
use Rattle.image.specs.Bytes.{be32}
use Rattle.image.specs.Grammar.{kind_fits_of, payload_fits, has_byte}
use Rattle.image.specs.KindNumbers.{kind_number, kinds, kind_in, kind_of}
use Rattle.image.specs.Places.{due_number}
use Rattle.image.specs.Read.{kind_at, shape}
use Rattle.image.specs.declared.kinds.Kind.{Kind}
use Rattle.image.specs.declared.grammar.Due.{Due}
use Rattle.image.specs.declared.grammar.Due.TheVariants as due

-- ---- the kind of a number
numbered_in : (ks : List Kind) (n : ℕ) (k : Kind) → kind_in ks n ≡ Some k → n ≡ kind_number k
numbered_in [] n k e = cc
numbered_in (x ∷ ks) n k e = go (numbered_in ks n k) (eqb n (kind_number x)) refl e
  where
    go : (kind_in ks n ≡ Some k → n ≡ kind_number k) → (t : Bool) → eqb n (kind_number x) ≡ t
        → cond t (Some x) (kind_in ks n) ≡ Some k → n ≡ kind_number k
    go rest true w e =
        let same : x ≡ k = cc in
        eqb-true n (kind_number x) w ∙ ap kind_number same
    go rest false w e = rest e

pub numbered : (n : ℕ) (k : Kind) → kind_of n ≡ Some k → n ≡ kind_number k
unfolding kind_of
numbered n k e = numbered_in kinds n k e

-- ---- what is right has a kind
abbrev is_kind : Option Kind → Bool
is_kind None = false
is_kind (Some k) = true

abbrev all_from : ℕ → ℕ → Bool
all_from low zero = true
all_from low (suc n) = is_kind (kind_of low) && all_from (low + 1) n

one_of : (low n k : ℕ) → all_from low n ≡ true → low ≤ k → k < low + n → is_kind (kind_of k) ≡ true
one_of low zero k e h l = absurd (omega arith)
one_of low (suc n) k e h l = go (one_of (low + 1) n k) (eqb low k) refl
  where
    go : (all_from (low + 1) n ≡ true → low + 1 ≤ k → k < low + 1 + n → is_kind (kind_of k) ≡ true) → (t : Bool) → eqb low k ≡ t
        → is_kind (kind_of k) ≡ true
    go rest true w = rw (← eqb-true low k w) (and_left (is_kind (kind_of low)) (all_from (low + 1) n) e)
    go rest false w =
        let apart = eqb-false low k w in
        rest (and_right (is_kind (kind_of low)) (all_from (low + 1) n) e) (omega (arith, apart)) (omega arith)

one_to : (low high k : ℕ) → all_from low (suc (high - low)) ≡ true → leb low k && leb k high ≡ true → is_kind (kind_of k) ≡ true
one_to low high k e h =
    let a = leb-true low k (and_left (leb low k) (leb k high) h) in
    let b = leb-true k high (and_right (leb low k) (leb k high) h) in
    one_of low (suc (high - low)) k e a (omega arith)

a_list : (k : ℕ) → eqb k 3 ≡ true → is_kind (kind_of k) ≡ true
unfolding kind_of
a_list k e = rw (eqb-true k 3 e) refl

right : (d : Due) (k : ℕ) → kind_fits_of (due_number d) k ≡ true → is_kind (kind_of k) ≡ true
unfolding kind_fits_of kind_of
right due.Tree k e = one_to 1 1 k refl e
right due.Text k e = one_to 2 2 k refl e
right due.Path k e = one_to 4 4 k refl e
right due.Import k e = one_to 16 16 k refl e
right due.NameAndType k e = one_to 20 20 k refl e
right due.Variant k e = one_to 21 21 k refl e
right due.Field k e = one_to 22 22 k refl e
right due.Block k e = one_to 23 23 k refl e
right due.RecordFields k e = one_to 80 80 k refl e
right due.Arm k e = one_to 81 81 k refl e
right due.Operator k e = one_to 86 86 k refl e
right due.AssignOperator k e = one_to 86 86 k refl e
right due.Literal k e = one_to 87 87 k refl e
right due.Declaration k e = one_to 10 16 k refl e
right due.Statement k e = one_to 30 32 k refl e
right due.Type k e = one_to 40 44 k refl e
right due.Expr k e = one_to 50 70 k refl e
right due.Pattern k e = one_to 82 83 k refl e
right due.StringPart k e = one_to 84 85 k refl e
right due.Texts k e = a_list k e
right due.Imports k e = a_list k e
right due.NamesAndTypes k e = a_list k e
right due.Variants k e = a_list k e
right due.Arms k e = a_list k e
right due.Statements k e = a_list k e
right due.Types k e = a_list k e
right due.Exprs k e = a_list k e
right due.StringParts k e = a_list k e

-- ---- what the code makes of a byte: a kind, where a test that tells it right passes
abbrev pub kind_if : ℕ → Bool → Option Kind
kind_if k t = cond t (kind_of k) None

pub no_kind : (d : Due) (k : ℕ) (t : Bool) → (t ≡ true → kind_fits_of (due_number d) k ≡ true) → None ≡ kind_if k t → t ≡ false
no_kind d k false f e = refl
no_kind d k true f e = absurd (clash (is_kind (kind_of k)) (right d k (f refl)) (ap is_kind (sym e)))

pub a_kind : (k : ℕ) (t : Bool) (x : Kind) → Some x ≡ kind_if k t → (t ≡ true) × (k ≡ kind_number x)
a_kind k false x e = cc
a_kind k true x e = (refl, numbered k x (sym e))

-- a byte that is no kind's stands before no payload
pub no_payload : (k : ℕ) → None ≡ kind_of k → (¬ (k ≡ 2)) × (has_byte k ≡ false)
unfolding kind_of
no_payload k e = (not 2 refl, ne_or (ne_or (ne_eqb k 50 (not 50 refl)) (ne_eqb k 86 (not 86 refl))) (ne_eqb k 87 (not 87 refl)))
  where
    not : (n : ℕ) → is_kind (kind_of n) ≡ true → ¬ (k ≡ n)
    not n r same = clash (is_kind (kind_of n)) r (ap is_kind (sym (rw same at e)))

    ne_or : {a b : Bool} → a ≡ false → b ≡ false → a || b ≡ false
    ne_or f g = rw (f, g)

pub paid_kind : (b : List ℕ) (v p at end n : ℕ) (k : Kind) (y : Bool) → n ≡ be32 b at → 9 ≤ n → at + 4 + n ≤ end
    → kind_fits_of p (kind_at b at) ≡ true
    → Some k ≡ kind_of (kind_at b at) → y ≡ payload_fits b v p (kind_number k) (at + 13) (at + 4 + n)
    → then_some y k ≡ kind_if (kind_at b at) (shape b v p at end)
unfolding shape
paid_kind b v p at end n k y en l w f e paid =
    let same = numbered (kind_at b at) k (sym e) in
    let fits : kind_fits_of p (kind_number k) ≡ true = rw same at f in
    let found : Some k ≡ kind_of (kind_number k) = rw same at e in
    simp (← en, le-leb 9 n l, le-leb (at + 4 + n) end w, same, fits, ← paid) (go y found)
  where
    go : (y : Bool) → Some k ≡ kind_of (kind_number k) → then_some y k ≡ cond y (kind_of (kind_number k)) None
    go true g = g
    go false g = refl
