-- The writer's entries refuse by their tables, and turn lists into images and back.
-- Assumes nothing.
use mathlib.Core.Path.{◌≡◌, refl, sym, ap, ap₂, subst, ◌∙◌}
use mathlib.Core.Bool.{true, false, ◌||◌}
use Rattle.std.specs.Prelude.{Option, None, Some, Result, Ok, Err}
use mathlib.Core.List.{List, [], ◌∷◌, ◌++◌}
use Prim.Native.Nat.{ℕ, ◌+◌, ◌≤◌}
use native.Mathlib.Omega.{arith}
use lib.Dec.{eqb, ltb}
use lib.ListN.{length, take, drop}
use lib.Seq.{sets, take-append_seam}
use borrow.Author.Tests.{ltb-false, le-ltb}
use Rattle.laws.proofs.Booleans.{or_first, or_rest}
use Rattle.laws.proofs.Options as options
use Rattle.refusals.specs.Refusals.{Refusal, refuse_if, is_one_of, unless}
use Rattle.refusals.specs.Answers.{accepted, answer_by, refusal_of}
use Rattle.refusals.proofs.Groups.{passes_line, passes_others, not_if}
use Rattle.refusals.proofs.Answers.{by_table, accepted_by, sets_front}
use Rattle.image.specs.Limits.{MAX_BODY}
use Rattle.image.proofs.Numbers.{numbers_with}
use Rattle.image.specs.Read.{Read, got, bad, Image, read_version, read_refusal, reader_numbers}
use Rattle.steps.specs.Writer.{contents_from, image_due, writer_refusal}
use Rattle.steps.specs.OfImage.{steps_of, steps_by, steps_due, steps_of_refusal}
use Rattle.steps.specs.Exact.{Turns, OneList}
use Rattle.image.specs.Write.{Bytes}
use Rattle.steps.proofs.Numbers.{steps_number}
use Rattle.steps.proofs.Claims.{exactly_one, written_reads_back}
use Rattle.refusals.specs.Reasons.{answer_of, refusal_in}
use Rattle.refusals.specs.declared.Refused.{Refused}
use Rattle.writer.specs.Wrote.{Writes, Lists}
use Rattle.demands.specs.Generator.{writer_numbers, steps_numbers, Generator1, TheList, GivesBack, GeneratorLists}
use Rattle.demands.proofs.Demand1.{Under, under_if, under_first, under_read, under_more, answered, left_same, as_answer}

-- ---- demand 1
steps_under : (l : List ℕ) → Under writer_numbers (read_refusal (contents_from l))
steps_under l = under_read writer_numbers (contents_from l) (λ n p e. ap (λ (k : ℕ). is_one_of k writer_numbers) (steps_number l n p e))

pub write_under : (l : List ℕ) (room : ℕ) → Under writer_numbers (writer_refusal l room)
write_under l room =
    let long = ltb (5 + MAX_BODY) (length (image_due l)) || ltb room (length (image_due l)) in
    under_first writer_numbers (read_refusal (contents_from l) ∷ refuse_if long 17 (length (image_due l)) ∷ [])
    (steps_under l, (under_if writer_numbers long 17 (length (image_due l)) refl, tt))

pub list_under : (s b : List ℕ) (room : ℕ) → Under steps_numbers (steps_of_refusal s b room)
list_under s b room =
    let long = ltb room (length (steps_due s b)) in
    under_first steps_numbers (read_refusal (read_version 1 true s b) ∷ refuse_if long 17 (length (steps_due s b)) ∷ []) (
      under_more reader_numbers (17 ∷ []) (read_refusal (read_version 1 true s b))
          (under_read reader_numbers (read_version 1 true s b) (numbers_with (eqb 1) true s b)),
      (under_if steps_numbers long 17 (length (steps_due s b)) refl, tt),
    )

pub generator_1 : Generator1
generator_1 = record {
  write =
      λ l out r out2 p.
      answered (as_answer _ r ∙ ap refusal_of p.0 ∙ by_table (writer_refusal l (length out)) _) (write_under l (length out))
      (λ q f. p.1 ∙ left_same _ q out _ f);
  list =
      λ s b out r out2 p.
      answered (as_answer _ r ∙ ap refusal_of p.0 ∙ by_table (steps_of_refusal s b (length out)) _) (list_under s b (length out))
      (λ q f. p.1 ∙ left_same _ q out _ f);
}

-- ---- what stands at the start of an output
-- the table refuses nothing, and the first n bytes are those due
record Front (o : Option Refusal) (ws : List ℕ) (n : ℕ) (out2 : List ℕ) : Type 0 where
  pub passed : o ≡ None
  pub count : n ≡ length ws
  pub bytes : take n out2 ≡ ws

front : (o : Option Refusal) (ws out : List ℕ) (n : ℕ) (out2 : List ℕ) → accepted n ≡ answer_by o (length ws)
    → out2 ≡ unless o out (sets out 0 ws)
    → (o ≡ None → length ws ≤ length out)
    → Front o ws n out2
front o ws out n out2 e f fits =
    let a = accepted_by o n (length ws) e in
    let stored = f ∙ ap (λ (x : Option Refusal). unless x out (sets out 0 ws)) a.passes ∙ sets_front ws out (fits a.passes) in
    record {
      passed = a.passes;
      count = a.is;
      bytes = ap₂ (λ (k : ℕ) (x : List ℕ). take k x) a.is stored ∙ take-append_seam ws (drop (length ws) out);
    }

-- ---- the writer
-- a list that is accepted, and whose image is no longer than it may be and than the room
record Takes (l : List ℕ) (room : ℕ) : Type 0 where
  pub taken : read_refusal (contents_from l) ≡ None
  pub small : ltb (5 + MAX_BODY) (length (image_due l)) ≡ false
  pub fits : ltb room (length (image_due l)) ≡ false

takes : (l : List ℕ) (room : ℕ) → writer_refusal l room ≡ None → Takes l room
takes l room e =
    let long = ltb (5 + MAX_BODY) (length (image_due l)) in
    let past = ltb room (length (image_due l)) in
    let line = refuse_if (long || past) 17 (length (image_due l)) in
    let last = passes_line line [] (passes_others (read_refusal (contents_from l)) (line ∷ []) e) in
    let short : (long || past) ≡ false = not_if (long || past) 17 (length (image_due l)) last in
    record { taken = passes_line (read_refusal (contents_from l)) (line ∷ []) e; small = or_first long past short; fits = or_rest long past short }

-- so it is in every output that has room for the image
given_room : (l : List ℕ) (room more : ℕ) → Takes l room → length (image_due l) ≤ more → writer_refusal l more ≡ None
given_room l room more t h = rw (t.taken, t.small, le-ltb more (length (image_due l)) h)

written_front : (l out : List ℕ) (n : ℕ) (out2 : List ℕ) → Writes l out (Ok n) out2 → Front (writer_refusal l (length out)) (image_due l) n out2
written_front l out n out2 p =
    front (writer_refusal l (length out)) (image_due l) out n out2 p.0 p.1
    (λ e. ltb-false (length out) (length (image_due l)) (takes l (length out) e).fits)

turns_by : (l b : List ℕ) (room : ℕ) → Takes l room → image_due l ≡ b → Turns l b
turns_by l b room t i =
    let fits = subst (λ (x : List ℕ). length (image_due l) ≤ length x) i (omega arith) in
    let none_at : writer_refusal l (length b) ≡ None = given_room l room (length b) t fits in
    record { taken = ap (λ (o : Option Refusal). answer_by o (length (image_due l))) none_at ∙ ap (λ (x : List ℕ). accepted (length x)) i; image = i }

written_turns : (l out : List ℕ) (n : ℕ) (out2 b : List ℕ) → Writes l out (Ok n) out2 → take n out2 ≡ b → Turns l b
written_turns l out n out2 b p e =
    let f = written_front l out n out2 p in
    turns_by l b (length out) (takes l (length out) f.passed) (sym f.bytes ∙ e)

-- an answer that gives a number
is_ok : (r : Result ℕ Refused) (k : ℕ) → answer_of (λ n. n) r ≡ accepted k → r ≡ Ok k
is_ok (Ok n) k e = let f : n ≡ k = cc in ap (λ (m : ℕ). Ok m) f
is_ok (Err r) k e = absurd (cc)

turned_by : (l b out : List ℕ) (r : Result ℕ Refused) (out2 : List ℕ) → Turns l b → Writes l out r out2 → length b ≤ length out
    → (r ≡ Ok (length b)) × (out2 ≡ sets out 0 b)
turned_by l b out r out2 t p h =
    let passed : writer_refusal l (length b) ≡ None = (accepted_by (writer_refusal l (length b)) (length b) (length (image_due l)) (sym t.taken)).passes in
    let due : length (image_due l) ≡ length b = ap length t.image in
    let none_at : writer_refusal l (length out) ≡ None = given_room l (length b) (length out) (takes l (length b) passed) (omega (arith, due, h)) in (
      is_ok r _ (p.0 ∙ ap (λ (o : Option Refusal). answer_by o (length (image_due l))) none_at ∙ ap (λ (x : List ℕ). accepted (length x)) t.image),
      p.1 ∙ ap (λ (o : Option Refusal). unless o out (sets out 0 (image_due l))) none_at ∙ ap (λ (x : List ℕ). sets out 0 x) t.image,
    )

-- ---- the steps of an image
-- it was read, and its steps stand at the start of the output
record Listed (s b : List ℕ) (m : ℕ) (out2 : List ℕ) : Type 0 where
  pub image : Image
  pub end : ℕ
  pub read : read_version 1 true s b ≡ got image end
  pub steps : take m out2 ≡ steps_of b image

listed : (s b out : List ℕ) (m : ℕ) (out2 : List ℕ) → Lists s b out (Ok m) out2 → Listed s b m out2
listed s b out m out2 p = go (read_version 1 true s b) refl
  where
    due : List ℕ
    due = steps_due s b

    line : Option Refusal
    line = refuse_if (ltb (length out) (length due)) 17 (length due)

    fits : steps_of_refusal s b (length out) ≡ None → length due ≤ length out
    fits e =
        ltb-false (length out) (length due)
        (not_if (ltb (length out) (length due)) 17 (length due) (passes_line line [] (passes_others (read_refusal (read_version 1 true s b)) (line ∷ []) e)))

    whole : Front (steps_of_refusal s b (length out)) due m out2
    whole = front (steps_of_refusal s b (length out)) due out m out2 p.0 p.1 fits

    go : (x : Read Image) → read_version 1 true s b ≡ x → Listed s b m out2
    go (got i end) e = record { image = i; end = end; read = e; steps = whole.bytes ∙ ap (steps_by b) e }
    go (bad n q) e =
        absurd (options.never _ (sym (ap read_refusal e) ∙ passes_line (read_refusal (read_version 1 true s b)) (line ∷ []) whole.passed))

-- ---- the two sentences
the_list : (s b out : List ℕ) (m : ℕ) (out2 : List ℕ) → Bytes b → Lists s b out (Ok m) out2 → TheList b (take m out2)
the_list s b out m out2 small p =
    let x = listed s b out m out2 p in
    let one : OneList b x.image = exactly_one s b x.image x.end small x.read in
    let turns : Turns (take m out2) b = subst (λ (l : List ℕ). Turns l b) (sym x.steps) one.turns in
    record {
      turned = λ out3 r out4 q h. turned_by (take m out2) b out3 r out4 turns q h;
      only = λ l2 out3 n out4 small-2 q e. one.only l2 small-2 (written_turns l2 out3 n out4 b q e) ∙ sym x.steps;
    }

-- a refusal of the steps of an image is the reader's, or 17
refused_as : (s b out : List ℕ) (r : Result ℕ Refused) (out2 : List ℕ) (q : Refusal) → Lists s b out r out2 → refusal_in r ≡ Some q
    → ((n p : ℕ) → read_version 1 true s b ≡ bad n p → is_one_of n (1 ∷ 2 ∷ 6 ∷ 7 ∷ []) ≡ true)
    → is_one_of q.number (1 ∷ 2 ∷ 6 ∷ 7 ∷ 17 ∷ []) ≡ true
refused_as s b out r out2 q p e by =
    let due = steps_due s b in
    let ns : List ℕ = 1 ∷ 2 ∷ 6 ∷ 7 ∷ [] in
    let read = under_read ns (read_version 1 true s b) by in
    (under_first (ns ++ (17 ∷ [])) (read_refusal (read_version 1 true s b) ∷ refuse_if (ltb (length out) (length due)) 17 (length due) ∷ []) (
      under_more ns (17 ∷ []) (read_refusal (read_version 1 true s b)) read,
      (under_if (ns ++ (17 ∷ [])) (ltb (length out) (length due)) 17 (length due) refl, tt),
    )
    ).of q (sym (as_answer (λ n. n) r ∙ ap refusal_of p.0 ∙ by_table (steps_of_refusal s b (length out)) (length due)) ∙ e)

gives_back : (l out : List ℕ) (n : ℕ) (out2 : List ℕ) → Bytes l → Writes l out (Ok n) out2 → GivesBack l (take n out2)
gives_back l out n out2 small p =
    let b = take n out2 in
    let turns : Turns l b = written_turns l out n out2 b p refl in
    record {
      refused_by = λ s out3 r out4 q h e. refused_as s b out3 r out4 q h e (written_reads_back s l b small turns).refused_by;
      gives = λ s out3 m out4 h.
          let x = listed s b out3 m out4 h in
          x.steps ∙ (written_reads_back s l b small turns).gives x.image x.end x.read;
    }

pub generator_lists : GeneratorLists
generator_lists = record { one = the_list; back = gives_back }
