-- The comments at the start of a list of steps, one after the other.
-- Assumes nothing.
use mathlib.Core.Path.{◌≡◌, refl, sym, ap, ◌∙◌}
use mathlib.Core.Bool.{Bool, true, false, cond, ◌&&◌}
use mathlib.Core.List.{List, [], ◌∷◌, ◌++◌}
use Prim.Native.Nat.{ℕ, zero, suc, ◌+◌, ◌-◌, ◌*◌, ◌≤◌, ◌<◌}
use native.Mathlib.Omega.{arith}
use native.Mathlib.Numerals.{sub-one}
use lib.Dec.{ltb, leb, eqb}
use lib.ListN.{length, get_or, get_or-eq_default}
use lib.Seq.{sets}
use borrow.Author.Tests.{le-leb, lt-leb, leb-false}
use Rattle.laws.proofs.Booleans.{clash}
use Rattle.image.specs.Bytes.{be32, part}
use Rattle.image.specs.Read.{Read, got, bad, bind}
use Rattle.image.specs.Write.{bytes4, Bytes}
use Rattle.ast.specs.Syntax.{Span}
use Rattle.tree.specs.CommentList.{span}
use Rattle.steps.specs.Steps.{Step, comment_step}
use Rattle.tree.specs.Contents.{pair_bytes}
use Rattle.steps.specs.Writer.{step_from, pair_by, comments_from}
use Rattle.tree.proofs.Took.{took_four, took_join, took_is}
use Rattle.image.proofs.Got.{never}
use Rattle.writer.specs.Steps.{stands, taken}
use Rattle.writer.specs.Put.{Ran, fault, up_to, put_by}
use Rattle.writer.proofs.Seen.{stood, Seen, seen, comment, opened, text, payload, absent, close, wrong}
use Rattle.writer.proofs.Runs.{is_held, is_same}
use Rattle.writer.proofs.Stores.{sets_behind}

module _ (l : List ℕ) (at : ℕ) where
  comment_step_lem : stands l at 1 9 ≡ true → step_from l at ≡ got (comment_step (be32 l (at + 1)) (be32 l (at + 5))) (at + 9)
  unfolding step_from
  comment_step_lem e = let w = stood l at 1 9 e in rw (w.1, le-leb (at + 9) (length l) w.0)

  abbrev pair : ℕ → Read Span
  pair least = bind (step_from l at) (pair_by least at)

  pub pair_not : (least : ℕ) → stands l at 1 9 ≡ false → pair least ≡ bad 16 at
  pair_not least e = go (step_from l at) (seen l at)
    where
      go : (r : Read Step) → Seen l at r → bind r (pair_by least at) ≡ bad 16 at
      go _ (comment w) = absurd (clash _ w e)
      go _ (opened w) = refl
      go _ (text w) = refl
      go _ (payload w) = refl
      go _ (absent w) = refl
      go _ (close w) = refl
      go _ (wrong w) = refl

  abbrev pair_there : Span
  pair_there = span (be32 l (at + 1)) (be32 l (at + 5))

  -- behind the end of the one before, and not empty or reversed
  abbrev ordered : ℕ → Bool
  ordered least = leb least (be32 l (at + 1)) && ltb (be32 l (at + 1)) (be32 l (at + 5))

  pair_if : (least : ℕ) → stands l at 1 9 ≡ true → pair least ≡ cond (ordered least) (got pair_there (at + 9)) (bad 16 at)
  pair_if least e = rw (comment_step_lem e)

  pair_order : (least : ℕ) → stands l at 1 9 ≡ true → ordered least ≡ taken (pair least)
  pair_order least e = go (ordered least) ∙ sym (ap taken (pair_if least e))
    where
      go : (t : Bool) → t ≡ taken (cond t (got pair_there (at + 9)) (bad 16 at))
      go true = refl
      go false = refl

  pub pair_behind : (least : ℕ) → stands l at 1 9 ≡ true → least ≤ be32 l (at + 1) → ltb (be32 l (at + 1)) (be32 l (at + 5)) ≡ taken (pair least)
  pair_behind least e h =
      sym (ap (λ (t : Bool). t && ltb (be32 l (at + 1)) (be32 l (at + 5))) (le-leb least (be32 l (at + 1)) h)) ∙ pair_order least e

  pub pair_before : (least : ℕ) → stands l at 1 9 ≡ true → be32 l (at + 1) < least → leb least (be32 l (at + 1)) ≡ taken (pair least)
  pair_before least e h =
      let none : leb least (be32 l (at + 1)) ≡ false = lt-leb least (be32 l (at + 1)) h in
      none ∙ sym (ap (λ (t : Bool). t && ltb (be32 l (at + 1)) (be32 l (at + 5))) none) ∙ pair_order least e

  -- a pair that is taken, and one that is not
  was_pair : (least : ℕ) → taken (pair least) ≡ true → (at + 9 ≤ length l) × (pair least ≡ got pair_there (at + 9))
  was_pair least e = go (stands l at 1 9) refl
    where
      go : (t : Bool) → stands l at 1 9 ≡ t → (at + 9 ≤ length l) × (pair least ≡ got pair_there (at + 9))
      go true w = ((stood l at 1 9 w).0, rw (pair_if least w, pair_order least w ∙ e))
      go false w = absurd (clash _ e (ap taken (pair_not least w)))

  not_pair : (least : ℕ) → taken (pair least) ≡ false → pair least ≡ bad 16 at
  not_pair least e = go (stands l at 1 9) refl
    where
      go : (t : Bool) → stands l at 1 9 ≡ t → pair least ≡ bad 16 at
      go true w = rw (pair_if least w, pair_order least w ∙ e)
      go false w = pair_not least w

  -- past the list's end no comment stands
  is_comment : stands l at 1 1 ≡ eqb (get_or l at 0) 1
  unfolding stands
  is_comment = go (leb (at + 1) (length l)) refl
    where
      go : (t : Bool) → leb (at + 1) (length l) ≡ t → (t && eqb (get_or l at 0) 1) ≡ eqb (get_or l at 0) 1
      go true w = refl
      go false w = rw (get_or-eq_default l 0 {n = at} (omega (arith, leb-false (at + 1) (length l) w)))

  pub from_none : (n least : ℕ) → stands l at 1 1 ≡ false → comments_from l n least at ≡ got [] at
  unfolding comments_from
  from_none zero least e = rw (sym is_comment ∙ e)
  from_none (suc n) least e = rw (sym is_comment ∙ e)

  pub from_many : (n least : ℕ) → n ≡ 0 → stands l at 1 1 ≡ true → comments_from l n least at ≡ bad 16 at
  unfolding comments_from
  from_many zero least z e = rw (sym is_comment ∙ e)
  from_many (suc n) least z e = absurd (omega arith)

  pub from_wrong : (n least : ℕ) → stands l at 1 1 ≡ true → taken (pair least) ≡ false → comments_from l n least at ≡ bad 16 at
  unfolding comments_from
  from_wrong zero least e f = rw (sym is_comment ∙ e)
  from_wrong (suc n) least e f = rw (sym is_comment ∙ e, not_pair least f)

  -- what is taken from the next comment on
  abbrev rest : ℕ → Read (List Span)
  rest n = comments_from l (n - 1) (be32 l (at + 5)) (at + 9)

  from_next : (n least : ℕ) → ¬ (n ≡ 0) → stands l at 1 1 ≡ true → taken (pair least) ≡ true
      → comments_from l n least at ≡ bind (rest n) (λ cs end. got (pair_there ∷ cs) end)
  unfolding comments_from
  from_next zero least z e f = absurd (z refl)
  from_next (suc n) least z e f = rw (sub-one, sym is_comment ∙ e, (was_pair least f).1)

  -- ---- one comment is put
  pair_part : Bytes l → at + 9 ≤ length l → part (at + 1) (at + 9) l ≡ bytes4 (be32 l (at + 1)) ++ bytes4 (be32 l (at + 5))
  pair_part small h =
      took_is (took_join (took_four l (at + 1) (at + 5) (omega arith) (omega arith)) (took_four l (at + 5) (at + 9) (omega arith) h)) small

  next_put : (n least pos : ℕ) (out o : List ℕ) → Bytes l → ¬ (n ≡ 0) → stands l at 1 1 ≡ true → taken (pair least) ≡ true
      → o ≡ sets out pos (part (at + 1) (at + 9) l)
      → put_by pair_bytes pos out (comments_from l n least at) ≡ put_by pair_bytes (pos + 8) o (rest n)
  next_put n least pos out o small z e f h = rw (from_next n least z e f) (go (rest n))
    where
      both : List ℕ
      both = bytes4 (be32 l (at + 1)) ++ bytes4 (be32 l (at + 5))

      go : (r : Read (List Span)) → put_by pair_bytes pos out (bind r (λ cs end. got (pair_there ∷ cs) end)) ≡ put_by pair_bytes (pos + 8) o r
      go (bad m p) = refl
      go (got cs end) =
          is_same {q = pos + length (pair_bytes (pair_there ∷ cs))} {r = pos + 8 + length (pair_bytes cs)}
          (record {
            at = refl;
            place = omega arith;
            output = λ low.
                sym
                (ap (λ (u : List ℕ). sets u (pos + 8) (pair_bytes cs)) (h ∙ ap (sets out pos) (pair_part small (was_pair least f).0))
                ∙ sets_behind both (pair_bytes cs) out pos (pos + 8) refl);
          })

-- ---- the loop: the whole run ends as the run from here on does
pub record Listing (l : List ℕ) (whole : Ran) (left least at pos : ℕ) (out : List ℕ) : Type 0 where
  pub inside : at ≤ length l
  pub low : pos ≤ 7 + at
  pub same : whole ≡ put_by pair_bytes pos out (comments_from l left least at)

pub lists_on : {l : List ℕ} {whole : Ran} {left least at pos : ℕ} {out : List ℕ} → Listing l whole left least at pos out → (o : List ℕ) → Bytes l
    → ¬ (left ≡ 0) → stands l at 1 1 ≡ true → taken (bind (step_from l at) (pair_by least at)) ≡ true
    → o ≡ sets out pos (part (at + 1) (at + 9) l) → Listing l whole (left - 1) (be32 l (at + 5)) (at + 9) (pos + 8) o
lists_on {l} {whole} {left} {least} {at} {pos} {out} g o small z e f h =
    record {
      inside = (was_pair l at least f).0;
      low = omega (arith, g.low);
      same = g.same ∙ next_put l at left least pos out o small z e f h;
    }

pub pair_fits : (l : List ℕ) (least at : ℕ) → taken (bind (step_from l at) (pair_by least at)) ≡ true → at + 9 ≤ length l
pair_fits l least at e = (was_pair l at least e).0

-- no comment is left
pub lists_end : {l : List ℕ} {whole : Ran} {left least at pos : ℕ} {out : List ℕ} → Listing l whole left least at pos out → (o : List ℕ) → o ≡ out
    → stands l at 1 1 ≡ false → up_to at pos o ≡ whole
lists_end {l} {whole} {left} {least} {at} {pos} {out} g o e f =
    is_held pair_bytes pos out (comments_from l left least at) at pos o
    (record { what = []; reads = from_none l at left least f; place = omega arith; output = λ low. e })
    ∙ sym g.same

pub lists_wrong : {l : List ℕ} {whole : Ran} {left least at pos : ℕ} {out : List ℕ} → Listing l whole left least at pos out
    → comments_from l left least at ≡ bad 16 at → fault 16 at ≡ whole
lists_wrong {pos = pos} {out = out} g e = sym (g.same ∙ ap (put_by pair_bytes pos out) e)

-- ---- how many there are: nine bytes of the list for each
pub record Counted (l : List ℕ) (n at : ℕ) (cs : List Span) (end : ℕ) : Type 0 where
  pub ends : end ≡ at + 9 * length cs
  pub few : length cs ≤ n
  pub within : end ≤ length l

counted_none : (l : List ℕ) (n least at : ℕ) (cs : List Span) (end : ℕ) → at ≤ length l → stands l at 1 1 ≡ false
    → comments_from l n least at ≡ got cs end → Counted l n at cs end
counted_none l n least at cs end h s e =
    let w : got [] at ≡ got cs end = sym (from_none l at n least s) ∙ e in
    let none : [] ≡ cs = cc in
    let same : at ≡ end = cc in
    let len : length cs ≡ 0 = ap length (sym none) in
    record { ends = omega arith; few = omega arith; within = omega arith }

pub comments_got : (l : List ℕ) (n least at : ℕ) (cs : List Span) (end : ℕ) → at ≤ length l → comments_from l n least at ≡ got cs end
    → Counted l n at cs end
comments_got l zero least at cs end h e = go (stands l at 1 1) refl
  where
    go : (t : Bool) → stands l at 1 1 ≡ t → Counted l zero at cs end
    go false s = counted_none l zero least at cs end h s e
    go true s = never (sym (from_many l at zero least refl s) ∙ e)
comments_got l (suc m) least at cs end h e = go (comments_got l m (be32 l (at + 5)) (at + 9)) (stands l at 1 1) refl
  where
    others : Read (List Span)
    others = comments_from l m (be32 l (at + 5)) (at + 9)

    Later : Type 0
    Later = (xs : List Span) (q : ℕ) → at + 9 ≤ length l → others ≡ got xs q → Counted l m (at + 9) xs q

    rest_counted : Later → at + 9 ≤ length l → (r : Read (List Span)) → others ≡ r → bind r (λ xs q. got (pair_there l at ∷ xs) q) ≡ got cs end
        → Counted l (suc m) at cs end
    rest_counted later f (bad k p) o q = never q
    rest_counted later f (got xs q) o w =
        let tail : pair_there l at ∷ xs ≡ cs = cc in
        let same : q ≡ end = cc in
        let len : length cs ≡ suc (length xs) = ap length (sym tail) in
        let k = later xs q f o in
        record { ends = omega (arith, k.ends); few = omega (arith, k.few); within = omega (arith, k.within) }

    first : Later → stands l at 1 1 ≡ true → (t : Bool) → taken (bind (step_from l at) (pair_by least at)) ≡ t → Counted l (suc m) at cs end
    first later s false f = never (sym (from_wrong l at (suc m) least s f) ∙ e)
    first later s true f =
        rest_counted later (was_pair l at least f).0 others refl (rw sub-one at (sym (from_next l at (suc m) least (λ z. omega arith) s f) ∙ e))

    go : Later → (t : Bool) → stands l at 1 1 ≡ t → Counted l (suc m) at cs end
    go later false s = counted_none l (suc m) least at cs end h s e
    go later true s = first later s (taken (bind (step_from l at) (pair_by least at))) refl
