-- The totals over files are the sums over those counted, and so the same in any order: tallies/proofs/Order.antt has it of files of any kind.
-- Assumes nothing.
use mathlib.Core.Path.{◌≡◌, refl, sym, ap, ◌∙◌}
use Rattle.std.specs.Prelude.{Option, None, Some}
use mathlib.Core.List.{List, [], ◌∷◌, map}
use Rattle.refusals.specs.Refusals.{Refusal, unless}
use Rattle.refusals.specs.Answers.{answer_by}
use Rattle.cut_rule.specs.Callers.{after_all, AllKept}
use Rattle.tallies.specs.declared.Figures.{Figures}
use Rattle.tallies.specs.declared.Tallies.{Tallies}
use Rattle.tallies.specs.Tallies.{fresh_tallies, added}
use Rattle.tallies.specs.Order.{AllSmall, refused_on, counted_on, totals, accepted}
use Rattle.tallies.proofs.Order.{sums, any_order, first_counted, any_order_of_few}
use Rattle.figures.specs.Figures.{count_result, count_answer}
use Rattle.figures.specs.Order.{File, refusal_of, figures_in, accepted_files, Made, tallies_after, after, Keeps, files}
use Rattle.figures.specs.Order.{TotalsAreSums, SameInAnyOrder, FirstAreCounted, SameFeedInAnyOrder}
use Rattle.figures.proofs.Bounds.{small}

-- ---- one file, by what is promised of it
held : (o : Option Refusal) (f : Figures) (t : Tallies) → tallies_after t (answer_by o (count_result f t)) ≡ unless o t (added f t)
held (Some r) f t = refl
held None f t = refl

pub one_more : (t : Tallies) (x : File) → tallies_after t (count_answer x.source x.image t) ≡ counted_on refusal_of figures_in t x
one_more t x = held (refused_on refusal_of figures_in t x) (figures_in x) t

-- one after another
kept_totals : (ms : List Made) (t : Tallies) → AllKept after Keeps t ms → after_all after t ms ≡ totals refusal_of figures_in t (files ms)
unfolding totals
kept_totals [] t k = refl
kept_totals (m ∷ ms) t k =
    kept_totals ms (after t m) k.1
    ∙ ap (λ (u : Tallies). totals refusal_of figures_in u (files ms)) (ap (tallies_after t) k.0 ∙ one_more t m.file)

-- ---- files that are accepted are small
small_file : (x : File) (o : Option Refusal) → refusal_of x ≡ o → (xs : List File) → AllSmall (map figures_in xs)
    → AllSmall (map figures_in (unless o xs (x ∷ xs)))
unfolding AllSmall
small_file x (Some r) e xs h = h
small_file x None e xs h = (small x.source x.image x.bytes e, h)

all_small : (xs : List File) → AllSmall (map figures_in (accepted_files xs))
unfolding accepted AllSmall
all_small [] = tt
all_small (x ∷ xs) = small_file x (refusal_of x) refl (accepted_files xs) (all_small xs)

-- ---- the totals
pub totals_are_sums : TotalsAreSums
totals_are_sums ms k = kept_totals ms fresh_tallies k ∙ sums refusal_of figures_in (files ms)

pub same_in_any_order : SameInAnyOrder
same_in_any_order ms ns k l r =
    kept_totals ms fresh_tallies k ∙ any_order refusal_of figures_in (files ms) (files ns) r ∙ sym (kept_totals ns fresh_tallies l)

pub first_are_counted : FirstAreCounted
first_are_counted xs = first_counted refusal_of figures_in xs (all_small xs)

pub same_feed_in_any_order : SameFeedInAnyOrder
same_feed_in_any_order ms ns k l r few =
    kept_totals ms fresh_tallies k
    ∙ any_order_of_few refusal_of figures_in (files ms) (files ns) (all_small (files ms)) few r
    ∙ sym (kept_totals ns fresh_tallies l)
