-- Whether the text of a row is whole, by what the code tests.
-- Assumes nothing.
use mathlib.Core.Path.{◌≡◌, refl, sym, ap, ◌∙◌}
use Rattle.std.specs.Prelude.{Some, None}
use Rattle.laws.proofs.Options.{never}
use Rattle.rows.specs.Kinds.{kind_of, number_of}
use Rattle.rows.specs.declared.kinds.Kind.{Kind}
use Rattle.rows.proofs.KindOf.{is_kind}
use Prim.Native.Nat.{ℕ, zero, suc, ◌+◌, ◌-◌, ◌≤◌}
use native.Mathlib.Omega.{arith}
use mathlib.Core.Bool.{Bool, true, false, cond, not, ◌&&◌, ◌||◌}
use mathlib.Core.List.{List, []}
use lib.ListN.{length, take, drop}
use lib.Dec.{leb, eqb}
use borrow.Author.Tests.{leb-true, ne_eqb}
use Rattle.laws.proofs.Booleans.{and_right}
use Rattle.rows.specs.Places.{KIND, NUMBER, SECOND_NUMBER, SECOND, ORIGIN, START, SIZE, WIDTH}
use Rattle.rows.specs.Texts.{origin_text}
use Rattle.rows.specs.View.{cell}
use Rattle.text.specs.Utf8.{run, prefix, well_formed, cuts}
use Rattle.text.proofs.Cuts.{uncut, starts}
use Rattle.renderer_rules.specs.Check.{uses_number, uses_number2, uses_second, uses_width, uses_text, text_fits, no_text_fits, places_fit, text_whole, whole_at}
use Rattle.renderer_rules.proofs.ByRule.{whole_start}

-- ---- a text of s
empty_formed : well_formed [] ≡ true
unfolding well_formed prefix run
empty_formed = refl

pub whole_empty : (s : List ℕ) (start size : ℕ) (r : Bool) → size ≡ 0 → r ≡ cuts s start
    → not r ≡ (well_formed (take size (drop start s)) && not (cuts s start))
whole_empty s start size r e q =
    ap not q
    ∙ ap (λ (x : Bool). x && not (cuts s start)) (sym empty_formed)
    ∙ ap (λ (n : ℕ). well_formed (take n (drop start s)) && not (cuts s start)) (sym e)

pub whole_some : (s : List ℕ) (start size end : ℕ) (r : Bool) → (size ≡ 0 → ⊥) → start + size ≤ length s → end ≡ start + size
    → r ≡ well_formed (take (end - start) (drop start s))
    → r ≡ (well_formed (take size (drop start s)) && not (cuts s start))
whole_some s start size end r n h e q =
    q
    ∙ go (well_formed (take (end - start) (drop start s))) refl
    ∙ ap (λ (k : ℕ). well_formed (take k (drop start s)) && not (cuts s start)) same
  where
    same : end - start ≡ size
    same = omega arith

    go : (x : Bool) → well_formed (take (end - start) (drop start s)) ≡ x → x ≡ (x && not (cuts s start))
    go true f = sym (ap not (uncut s start (starts s start end (omega (arith, n)) (omega arith) f)))
    go false f = refl

-- ---- the text of a row
module _ (source image s : List ℕ) (i : ℕ) where
  pub fits_text : places_fit source image s i ≡ true → uses_text (cell s i KIND) ≡ true → text_fits source image s i ≡ true
  unfolding places_fit
  fits_text h u =
      let kind = cell s i KIND in
      let rest = cond (uses_text kind) (text_fits source image s i) (no_text_fits s i) in
      let width = uses_width kind || eqb (cell s i WIDTH) 0 in
      let parts = (uses_number2 kind || eqb (cell s i SECOND_NUMBER) 0) && (uses_second kind || eqb (cell s i SECOND) 0) in
      let numbers = (uses_number kind || eqb (cell s i NUMBER) 0) && parts in
      let some = and_right width rest (and_right numbers (width && rest) h) in
      sym (ap (λ (x : Bool). cond x (text_fits source image s i) (no_text_fits s i)) u) ∙ some

  pub whole_text : uses_text (cell s i KIND) ≡ true → text_whole source image s i ≡ whole_at source image s i
  whole_text u = rw u

  pub whole_none : uses_text (cell s i KIND) ≡ false → true ≡ whole_at source image s i
  whole_none u = rw u

module _ (source image s : List ℕ) (i : ℕ) (h : text_fits source image s i ≡ true) where
  abbrev origin : List ℕ
  origin = origin_text source image (cell s i ORIGIN)

  pub inside : cell s i START + cell s i SIZE ≤ length origin
  inside =
      leb-true (cell s i START + cell s i SIZE) (length origin)
      (and_right (leb (cell s i ORIGIN) 2) (leb (cell s i START + cell s i SIZE) (length origin)) h)

  same : (well_formed (take (cell s i SIZE) (drop (cell s i START) origin)) && not (cuts origin (cell s i START))) ≡ text_whole source image s i
  same = whole_start source image s i origin refl inside

  pub empty_whole : (r : Bool) → cell s i SIZE ≡ 0 → r ≡ cuts origin (cell s i START) → not r ≡ text_whole source image s i
  empty_whole r e q = whole_empty origin (cell s i START) (cell s i SIZE) r e q ∙ same

  pub some_whole : (end : ℕ) (r : Bool) → (cell s i SIZE ≡ 0 → ⊥) → end ≡ cell s i START + cell s i SIZE
      → r ≡ well_formed (take (end - cell s i START) (drop (cell s i START) origin))
      → r ≡ text_whole source image s i
  some_whole end r n e q = whole_some origin (cell s i START) (cell s i SIZE) end r n inside e q ∙ same

-- ---- by a row's kind
pub text_of_kind : (n : ℕ) (k : Kind) → kind_of n ≡ Some k → true ≡ uses_text (number_of k) → uses_text n ≡ true
text_of_kind n k e h = ap uses_text (is_kind n k e) ∙ sym h

no_text_of_kind : (n : ℕ) (k : Kind) → kind_of n ≡ Some k → false ≡ uses_text (number_of k) → uses_text n ≡ false
no_text_of_kind n k e h = ap uses_text (is_kind n k e) ∙ sym h

past_texts : (n : ℕ) → 7 ≤ n → uses_text n ≡ false
past_texts n h = rw (ne_eqb n 4 (λ q. omega arith), ne_eqb n 5 (λ q. omega arith), ne_eqb n 6 (λ q. omega arith))

no_text_of_none : (n : ℕ) → kind_of n ≡ None → uses_text n ≡ false
no_text_of_none zero e = refl
no_text_of_none (suc zero) e = refl
no_text_of_none (suc (suc zero)) e = refl
no_text_of_none (suc (suc (suc zero))) e = refl
no_text_of_none (suc (suc (suc (suc zero)))) e = absurd (never _ e)
no_text_of_none (suc (suc (suc (suc (suc zero))))) e = absurd (never _ e)
no_text_of_none (suc (suc (suc (suc (suc (suc zero)))))) e = absurd (never _ e)
no_text_of_none (suc (suc (suc (suc (suc (suc (suc n))))))) e = past_texts (suc (suc (suc (suc (suc (suc (suc n))))))) (omega arith)

module _ (source image s : List ℕ) (i : ℕ) where
  pub kind_whole : (k : Kind) → kind_of (cell s i KIND) ≡ Some k → false ≡ uses_text (number_of k) → true ≡ whole_at source image s i
  kind_whole k e h = whole_none source image s i (no_text_of_kind (cell s i KIND) k e h)

  pub none_whole : kind_of (cell s i KIND) ≡ None → true ≡ whole_at source image s i
  none_whole e = whole_none source image s i (no_text_of_none (cell s i KIND) e)
