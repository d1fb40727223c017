-- A file more, and what is held after it.
-- Assumes nothing.
use mathlib.Core.Path.{◌≡◌, refl, sym, ap, ap₂, subst, ◌∙◌}
use Rattle.std.specs.Prelude.{Option, None, Some, Result, Ok, Err}
use mathlib.Core.List.{List, [], ◌∷◌, ◌++◌}
use Prim.Native.Nat.{ℕ, ◌+◌, ◌≤◌, ◌<◌, min}
use native.Mathlib.Omega.{arith}
use native.Mathlib.Decide.{dec_le, dec_lt}
use lib.ListN.{length, take, get_or, length-take, get_or-eq_default}
use lib.Seq.{take_all, get_or-take}
use Rattle.refusals.specs.Answers.{Answer, refused, accepted}
use Rattle.whole_run.specs.FileLimits.{AreBytes}
use Rattle.tallies.specs.Tallies.{no_figures}
use Rattle.figures.specs.Figures.{CountResult}
use Rattle.figures.specs.Order.{File}
use Rattle.feed.specs.Input.{source_length, image_length}
use Rattle.feed.specs.declared.Cut.{Cut}
use Rattle.report.specs.Report.{fresh_progress, answer_to, progress_by, source_in, image_in, progress_due, TakesBy, TakesNext, after_files}
use Rattle.report.specs.declared.progress.Progress.{Progress}
use Rattle.report.specs.declared.progress.Turn.{Turn}

-- ---- what came next
take_kept : (n : ℕ) (xs : List ℕ) → take (min n (length xs)) xs ≡ take n xs
take_kept n xs = go (dec_le n (length xs))
  where
    go : Dec (n ≤ length xs) → take (min n (length xs)) xs ≡ take n xs
    go (yes h) = let e : min n (length xs) ≡ n = omega arith in ap (λ (k : ℕ). take k xs) e
    go (no h) =
        let e : min n (length xs) ≡ length xs = omega arith in
        ap (λ (k : ℕ). take k xs) e ∙ take_all (length xs) xs (omega arith) ∙ sym (take_all n xs (omega arith))

module _ (lengths source image : List ℕ) (p : Progress) where
  pub whole_turn : (came : Result (Option ℕ) Cut) {o : Option ℕ} {bytes : ℕ} {r : Turn} (i j : ℕ) → came ≡ Ok o → o ≡ Some bytes
      → i ≡ min (source_length lengths) (length source) → j ≡ min (image_length lengths) (length image)
      → TakesBy p (answer_to p (take i source) (take j image)) r
      → TakesNext lengths source image p came r
  whole_turn came {r = r} i j e h f g s =
      let one : take i source ≡ source_in lengths source = ap (λ (k : ℕ). take k source) f ∙ take_kept (source_length lengths) source in
      let two : take j image ≡ image_in lengths image = ap (λ (k : ℕ). take k image) g ∙ take_kept (image_length lengths) image in
      rw (e, h) (subst (λ (a : Answer CountResult). TakesBy p a r) (ap₂ (answer_to p) one two) s)

-- ---- all files so far
-- these files give what is held
pub record Taken (p : Progress) : Type 0 where
  pub files : List File
  pub holds : p ≡ after_files fresh_progress files
  pub among : p.refused ≤ p.files

-- before the first of them, all is 0
pub taken_none : {p : Progress} → let t = p.tallies in
    (p.files ≡ 0)
    × ((p.refused ≡ 0)
    × ((t.files ≡ 0)
    × ((t.all.bytes ≡ 0)
    × ((t.all.newlines ≡ 0)
    × ((t.all.column ≡ 0) × ((t.all.given ≡ 0) × ((t.all.wrapped ≡ 0) × ((t.all.placed ≡ 0) × (t.all.left ≡ 0)))))))))
    → Taken p
unfolding after_files
taken_none {p} h =
    let f = h.1.1 in
    let all : p.tallies.all ≡ no_figures =
    λ i. record {
      bytes = f.1.0 i;
      newlines = f.1.1.0 i;
      column = f.1.1.1.0 i;
      given = f.1.1.1.1.0 i;
      wrapped = f.1.1.1.1.1.0 i;
      placed = f.1.1.1.1.1.1.0 i;
      left = f.1.1.1.1.1.1.1 i;
    }
    in
    record {
      files = [];
      holds = λ i. record { files = h.0 i; refused = h.1.0 i; tallies = record { files = f.0 i; all = all i } };
      among = omega arith;
    }

after_more : (p : Progress) (xs : List File) (x : File)
    → after_files p (xs ++ (x ∷ [])) ≡ progress_by (after_files p xs) (answer_to (after_files p xs) x.source x.image)
unfolding after_files
after_more p [] x = refl
after_more p (y ∷ ys) x = after_more (progress_by p (answer_to p y.source y.image)) ys x

still_among : (p : Progress) (a : Answer CountResult) → p.refused ≤ p.files → (progress_by p a).refused ≤ (progress_by p a).files
still_among p (refused r) h = omega arith
still_among p (accepted x) h = omega arith

-- the front of bytes are bytes
front_bytes : (n : ℕ) (xs : List ℕ) → AreBytes xs → AreBytes (take n xs)
front_bytes n xs h i = go (dec_lt i n)
  where
    go : Dec (i < n) → get_or (take n xs) i 0 ≤ 255
    go (yes l) = omega (arith, get_or-take n xs i 0 l, h i)
    go (no l) = omega (arith, get_or-eq_default (take n xs) 0 {n = i} (omega (arith, length-take n xs)))

module _ (lengths source image : List ℕ) (bytes : AreBytes image) where
  abbrev file_in : File
  file_in = record { source = source_in lengths source; image = image_in lengths image; bytes = front_bytes (image_length lengths) image bytes }

  taken_by : (p : Progress) (came : Result (Option ℕ) Cut) → Taken p → Taken (progress_due lengths source image p came)
  taken_by p (Ok None) t = t
  taken_by p (Err cut) t = t
  taken_by p (Ok (Some bytes)) t = record {
    files = t.files ++ (file_in ∷ []);
    holds =
        ap (λ (q : Progress). progress_by q (answer_to q file_in.source file_in.image)) t.holds
        ∙ sym (after_more fresh_progress t.files file_in);
    among = still_among p (answer_to p file_in.source file_in.image) t.among;
  }

  -- what a turn holds
  pub taken_turn : (p q : Progress) (came : Result (Option ℕ) Cut) → Taken p → q ≡ progress_due lengths source image p came → Taken q
  taken_turn p q came t e = subst Taken (sym e) (taken_by p came t)

-- ---- going on
-- a whole file is a file more
one_more : (p : Progress) (a : Answer CountResult) → (progress_by p a).files ≡ p.files + 1
one_more p (refused r) = refl
one_more p (accepted x) = refl
