-- A file formatted without an output, and with one that its text fits.
-- Assumes nothing.
use mathlib.Core.Path.{◌≡◌, refl, sym, ap, ◌∙◌}
use mathlib.Core.Bool.{Bool, true, false}
use Rattle.std.specs.Prelude.{Option, None, Some}
use mathlib.Core.List.{List, [], ◌∷◌}
use Prim.Native.Nat.{ℕ, ◌≤◌}
use native.Mathlib.Omega.{arith}
use lib.Dec.{ltb}
use lib.ListN.{length}
use borrow.Author.Tests.{le-ltb}
use Rattle.refusals.specs.Refusals.{Refusal, first, refuse_if, or_else, unless}
use Rattle.refusals.specs.Answers.{Answer, refused, accepted, answer_by}
use Rattle.refusals.proofs.Groups.{first_append}
use Rattle.cut_rule.specs.Run.{write_front}
use Rattle.whole_run.specs.Built.{FileChoice}
use Rattle.whole_run.specs.File.{file_rows, file_marks, file_before_text, file_text_line, file_refusal, FileResult, file_result, file_answer, file_output}
use Rattle.batch.specs.Batch.{Save, text_by, rendered, single}
use Rattle.batch.specs.Whole.{text_of}

module _ (c : FileChoice) (x : Save) where
  abbrev pub needed : ℕ
  needed = length (rendered c x)

  -- what refuses whatever the output has, and 10
  abbrev before : List (Option Refusal)
  before = file_before_text x.source x.image c file_rows file_marks

  abbrev pub early : Option Refusal
  early = first before

  abbrev ten : ℕ → Option Refusal
  ten room = first (file_text_line x.source x.image c room)

  -- what is given where nothing refuses
  abbrev pub result : FileResult
  result = file_result x.source x.image c

  table : (room : ℕ) → file_refusal x.source x.image c room ≡ or_else early (ten room)
  table room = first_append before (file_text_line x.source x.image c room)

  pub answer_by_lem : (room : ℕ) → file_answer x.source x.image c room ≡ answer_by (or_else early (ten room)) result
  answer_by_lem room = ap (λ (o : Option Refusal). answer_by o result) (table room)

  -- ---- room for the text
  pub single_by : single c x ≡ answer_by early result
  single_by =
      answer_by_lem needed
      ∙ ap (λ (t : Bool). answer_by (or_else early (first (refuse_if t 10 needed ∷ []))) result) (le-ltb needed needed (omega arith))
      ∙ go early
    where
      go : (o : Option Refusal) → answer_by (or_else o None) result ≡ answer_by o result
      go None = refl
      go (Some r) = refl

  text_by_lem : text_of c x ≡ text_by (answer_by early result) (rendered c x)
  text_by_lem = ap (λ (a : Answer FileResult). text_by a (rendered c x)) single_by

  -- refused whatever the output has
  module _ (r : Refusal) (e : early ≡ Some r) where
    pub no_text : text_of c x ≡ []
    no_text = text_by_lem ∙ ap (λ (o : Option Refusal). text_by (answer_by o result) (rendered c x)) e

    always : (room : ℕ) → file_answer x.source x.image c room ≡ refused r
    always room = answer_by_lem room ∙ ap (λ (o : Option Refusal). answer_by (or_else o (ten room)) result) e

    pub single_refused : single c x ≡ refused r
    single_refused = single_by ∙ ap (λ (o : Option Refusal). answer_by o result) e

    untouched : (out : List ℕ) → file_output x.source x.image c out ≡ write_front (text_of c x) out
    untouched out =
        ap (λ (o : Option Refusal). unless o out (write_front (rendered c x) out))
        (table (length out) ∙ ap (λ (o : Option Refusal). or_else o (ten (length out))) e)
        ∙ sym (ap (λ (t : List ℕ). write_front t out) no_text)

  -- refused for want of output alone
  module _ (e : early ≡ None) where
    pub all_text : text_of c x ≡ rendered c x
    all_text = text_by_lem ∙ ap (λ (o : Option Refusal). text_by (answer_by o result) (rendered c x)) e

    later : (room : ℕ) → file_refusal x.source x.image c room ≡ ten room
    later room = table room ∙ ap (λ (o : Option Refusal). or_else o (ten room)) e

    passes : (room : ℕ) → length (text_of c x) ≤ room → file_refusal x.source x.image c room ≡ None
    passes room h = later room ∙ ap (λ (t : Bool). first (refuse_if t 10 needed ∷ [])) (le-ltb room needed (omega (arith, ap length all_text)))

    pub single_accepted : single c x ≡ accepted result
    single_accepted = single_by ∙ ap (λ (o : Option Refusal). answer_by o result) e

  pub answer_roomy : (room : ℕ) → length (text_of c x) ≤ room → file_answer x.source x.image c room ≡ single c x
  answer_roomy room h = go early refl
    where
      go : (o : Option Refusal) → early ≡ o → file_answer x.source x.image c room ≡ single c x
      go (Some r) e = always r e room ∙ sym (single_refused r e)
      go None e = ap (λ (o : Option Refusal). answer_by o result) (passes e room h) ∙ sym (single_accepted e)

  pub output_roomy : (out : List ℕ) → length (text_of c x) ≤ length out → file_output x.source x.image c out ≡ write_front (text_of c x) out
  output_roomy out h = go early refl
    where
      go : (o : Option Refusal) → early ≡ o → file_output x.source x.image c out ≡ write_front (text_of c x) out
      go (Some r) e = untouched r e out
      go None e =
          ap (λ (o : Option Refusal). unless o out (write_front (rendered c x) out)) (passes e (length out) h)
          ∙ sym (ap (λ (t : List ℕ). write_front t out) (all_text e))

  -- ---- no output: 10 tells the text's bytes
  abbrev bare : Answer FileResult
  bare = file_answer x.source x.image c 0

  bare_by : early ≡ None → (t : Bool) → ltb 0 needed ≡ t → bare ≡ answer_by (first (refuse_if t 10 needed ∷ [])) result
  bare_by e t f = ap (λ (o : Option Refusal). answer_by o result) (later e 0 ∙ ap (λ (u : Bool). first (refuse_if u 10 needed ∷ [])) f)

  pub bare_text : (y : FileResult) → accepted y ≡ bare → y.bytes ≡ length (text_of c x)
  bare_text y h = go early refl (ltb 0 needed) refl
    where
      go : (o : Option Refusal) → early ≡ o → (t : Bool) → ltb 0 needed ≡ t → y.bytes ≡ length (text_of c x)
      go (Some r) e t f = let g = always r e 0 in let z : ◌≡◌ {A = ℕ} 0 1 = cc in absurd (omega arith)
      go None e true f = let g = bare_by e true f in let z : ◌≡◌ {A = ℕ} 0 1 = cc in absurd (omega arith)
      go None e false f =
          let g = bare_by e false f in
          let q : y ≡ result = cc in
          ap (λ (z : FileResult). z.bytes) q ∙ sym (ap length (all_text e))

  pub bare_ten : ((r : Refusal) → early ≡ Some r → r.number ≡ 10 → ⊥) → (p : ℕ) → refused (record { number = 10; place = p }) ≡ bare
      → p ≡ length (text_of c x)
  bare_ten other p h = go early refl (ltb 0 needed) refl
    where
      go : (o : Option Refusal) → early ≡ o → (t : Bool) → ltb 0 needed ≡ t → p ≡ length (text_of c x)
      go (Some r) e t f =
          let g = always r e 0 in
          let q : ◌≡◌ {A = Refusal} (record { number = 10; place = p }) r = cc in
          absurd (other r e (sym (ap (λ (y : Refusal). y.number) q)))
      go None e true f =
          let g = bare_by e true f in
          let q : ◌≡◌ {A = Refusal} (record { number = 10; place = p }) (record { number = 10; place = needed }) = cc in
          ap (λ (y : Refusal). y.place) q ∙ sym (ap length (all_text e))
      go None e false f = let g = bare_by e false f in let z : ◌≡◌ {A = ℕ} 0 1 = cc in absurd (omega arith)
