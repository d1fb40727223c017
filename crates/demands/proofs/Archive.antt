-- The moves refuse by their tables, and leave the output as it was where they do.
-- Assumes nothing.
use mathlib.Core.Path.{refl, ap, ◌∙◌}
use mathlib.Core.Bool.{false, ◌||◌}
use mathlib.Core.List.{List, [], ◌∷◌}
use Prim.Native.Nat.{ℕ, ◌+◌}
use lib.Dec.{eqb, ltb}
use lib.ListN.{length}
use Rattle.refusals.specs.Refusals.{refuse_if, refuse_at}
use Rattle.refusals.specs.Answers.{refusal_of}
use Rattle.refusals.proofs.Answers.{by_table}
use Rattle.image.specs.Limits.{MAX_BODY}
use Rattle.image.specs.Read.{read_refusal, reader_numbers}
use Rattle.image.proofs.Numbers.{numbers_with}
use Rattle.moves.specs.Moves.{read_forward, read_back, forward_image, back_image, forward_refusal, back_refusal, head_of, first_where, is_wrong, is_wide}
use Rattle.demands.specs.Archive.{move_numbers, Archive1}
use Rattle.demands.proofs.Demand1.{Under, under_if, under_at, under_first, under_read, under_more, answered, left_same, as_answer}

module _ (s b : List ℕ) (room : ℕ) where
  pub forward_under : Under move_numbers (forward_refusal s b room)
  forward_under =
      let wrong = head_of (first_where is_wrong b (read_forward s b)) in
      let bytes = length (forward_image s b) in
      under_first move_numbers (read_refusal (read_forward s b) ∷ refuse_at wrong 21 ∷ refuse_if (ltb room bytes) 17 bytes ∷ []) (
        under_more reader_numbers (21 ∷ 17 ∷ []) (read_refusal (read_forward s b))
            (under_read reader_numbers (read_forward s b) (numbers_with (eqb 1) false s b)),
        (under_at move_numbers wrong 21 refl, (under_if move_numbers (ltb room bytes) 17 bytes refl, tt)),
      )

  pub back_under : Under move_numbers (back_refusal s b room)
  back_under =
      let wide = head_of (first_where is_wide b (read_back s b)) in
      let bytes = length (back_image s b) in
      let long = ltb (5 + MAX_BODY) bytes || ltb room bytes in
      under_first move_numbers (read_refusal (read_back s b) ∷ refuse_at wide 21 ∷ refuse_if long 17 bytes ∷ []) (
        under_more reader_numbers (21 ∷ 17 ∷ []) (read_refusal (read_back s b))
            (under_read reader_numbers (read_back s b) (numbers_with (eqb 2) false s b)),
        (under_at move_numbers wide 21 refl, (under_if move_numbers long 17 bytes refl, tt)),
      )

pub archive_1 : Archive1
archive_1 = record {
  forward =
      λ s b out r out2 p.
      let o = forward_refusal s b (length out) in
      answered (as_answer _ r ∙ ap refusal_of p.0 ∙ by_table o _) (forward_under s b (length out)) (λ q f. p.1 ∙ left_same o q out _ f);
  back =
      λ s b out r out2 p.
      let o = back_refusal s b (length out) in
      answered (as_answer _ r ∙ ap refusal_of p.0 ∙ by_table o _) (back_under s b (length out)) (λ q f. p.1 ∙ left_same o q out _ f);
}
