-- The listed rows of a rendering state: read from an array's numbers, and put behind an answer's.
-- Assumes nothing.
use mathlib.Core.Path.{◌≡◌, refl, sym, ap, ap₂, ◌∙◌}
use mathlib.Core.List.{List, [], ◌∷◌, ◌++◌, map}
use Prim.Native.Nat.{ℕ, zero, suc, ◌+◌, ◌-◌, ◌≤◌, ◌<◌, min}
use native.Mathlib.Omega.{arith}
use native.Mathlib.Numerals.{add-one}
use lib.ListN.{length, get_or, set, take, drop, replicate, length-append, length-map, length-take, length-drop}
use lib.Seq.{sets, sets-eq, paste, paste-zero, paste-suc, set_at, take-suc, get_or-drop, length-take-le}
use Rattle.std.specs.Prelude.{Option, None, Result, Ok, Err, MatchResult, IsOkAnd}
use Rattle.std.proofs.lemmas.List.{map-append}
use Rattle.std.proofs.lemmas.Result.{MatchResult-at_ok}
use Rattle.refusals.specs.Refusals.{Refusal, unless}
use Rattle.refusals.specs.Answers.{Answer, accepted, numbers_of}
use Rattle.refusals.specs.Reasons.{answer_of}
use Rattle.refusals.specs.declared.Refused.{Refused}
use Rattle.refusals.proofs.Answers.{accepted_by}
use Rattle.cut_rule.specs.Run.{CallResult, written, write_front}
use Rattle.cut_rule.specs.Entries.{render_answer, render_gives, render_marks, render_output}
use Rattle.cut_rule.specs.States as states
use Rattle.whole_run.specs.Demands.{rules_of}
use Rattle.listed_rows.specs.Numbers.{row_number, open_row}
use Rattle.listed_rows.proofs.Numbers.{numbers_rows}
use Rattle.render_call.specs.declared.RenderArgs.{RenderArgs}
use Rattle.render_call.specs.declared.RenderState.{RenderState}
use Rattle.render_call.specs.declared.Written.{Written}
use Rattle.render_call.specs.Calls.{to_args, to_state, listed_of, rendering_answer}
use Rattle.render_call.specs.Whole.{RenderCalled}
use Rattle.render_call.proofs.Opening.{listed_few, listed_count}
use Rattle.exports.specs.Numbers.{listed_number, render_state, render_list, render_args, told_call}
use Rattle.exports.specs.Calls.{state_told, Renders}
use Rattle.exports.specs.Given.{written_numbers}

-- ---- read
pub record Filling (l listed : List ℕ) (count k : ℕ) : Type 0 where
  pub low : k ≤ count
  pub is : listed ≡ map listed_number (take k (drop 8 l)) ++ replicate (256 - k) 0

pub filling_more : (l listed : List ℕ) (count k v : ℕ) → Filling l listed count k → k < count → count ≤ 256 → length l ≡ 264
    → v ≡ listed_number (get_or l (8 + k) 0) → Filling l (set listed k v) count (k + 1)
filling_more l listed count k v f h few size e =
    let rows = drop 8 l in
    let long : length rows ≡ 256 = (let d = length-drop 8 l in omega arith) in
    let xs = map listed_number (take k rows) in
    let as_long : length xs ≡ k = length-map (take k rows) listed_number ∙ length-take-le k rows (omega arith) in
    let one : 256 - k ≡ suc (256 - (k + 1)) = omega arith in
    let more : map listed_number (take (k + 1) rows) ≡ xs ++ (v ∷ []) =
    ap (λ (m : ℕ). map listed_number (take m rows)) (add-one k)
    ∙ ap (map listed_number) (take-suc rows k 0 (omega arith))
    ∙ map-append listed_number (take k rows) (get_or rows k 0 ∷ [])
    ∙ ap (λ (n : ℕ). xs ++ (listed_number n ∷ [])) (get_or-drop 8 l k 0)
    ∙ ap (λ (n : ℕ). xs ++ (n ∷ [])) (sym e) in
    record {
      low = omega arith;
      is =
          ap (λ (t : List ℕ). set t k v) f.is
          ∙ ap (λ (m : ℕ). set (xs ++ replicate m 0) k v) one
          ∙ set_at xs 0 (replicate (256 - (k + 1)) 0) v k as_long
          ∙ seam xs v (replicate (256 - (k + 1)) 0)
          ∙ ap (λ (t : List ℕ). t ++ replicate (256 - (k + 1)) 0) (sym more);
    }
  where
    seam : (xs : List ℕ) (v : ℕ) (ys : List ℕ) → xs ++ (v ∷ ys) ≡ (xs ++ (v ∷ [])) ++ ys
    seam [] v ys = refl
    seam (x ∷ xs) v ys = ap (λ t. x ∷ t) (seam xs v ys)

-- as many as there are, or as are counted
took : (xs : List ℕ) (n k : ℕ) → k ≡ min n (length xs) → take k xs ≡ take n xs
took [] zero zero e = refl
took [] (suc n) zero e = refl
took [] n (suc k) e = absurd (omega arith)
took (x ∷ xs) zero zero e = refl
took (x ∷ xs) zero (suc k) e = absurd (omega arith)
took (x ∷ xs) (suc n) zero e = absurd (omega arith)
took (x ∷ xs) (suc n) (suc k) e = ap (λ t. x ∷ t) (took xs n k (omega arith))

pub filling_end : (l listed : List ℕ) (count k : ℕ) → Filling l listed count k → count ≤ k → count ≡ min (get_or l 7 0) 256 → length l ≡ 264
    → listed ≡ render_list l
filling_end l listed count k f h e size =
    let n = get_or l 7 0 in
    let low = f.low in
    let long : length (drop 8 l) ≡ 256 = (let d = length-drop 8 l in omega arith) in
    let same : take k (drop 8 l) ≡ take n (drop 8 l) = took (drop 8 l) n k (omega arith) in
    let as_many : k ≡ length (take n (drop 8 l)) = (let t = length-take n (drop 8 l) in omega arith) in
    f.is ∙ ap₂ (λ (t : List ℕ) (m : ℕ). map listed_number t ++ replicate (256 - m) 0) same as_many

-- ---- put
pub record Putting (old new listed : List ℕ) (count k : ℕ) : Type 0 where
  pub low : k ≤ count
  pub is : new ≡ paste old 11 listed k

pub putting_start : (old listed : List ℕ) (count : ℕ) → Putting old old listed count 0
putting_start old listed count = record { low = omega arith; is = paste-zero old 11 listed }

pub putting_more : (old new listed : List ℕ) (count k v : ℕ) → Putting old new listed count k → k < count → count ≤ length listed → 11 + k < length old
    → v ≡ get_or listed k 0 → Putting old (set new (11 + k) v) listed count (k + 1)
putting_more old new listed count k v p h few room e =
    record {
      low = omega arith;
      is =
          ap₂ (λ (t : List ℕ) (n : ℕ). set t (11 + k) n) p.is e
          ∙ paste-suc old 11 listed k 0 room (omega arith)
          ∙ ap (paste old 11 listed) (sym (add-one k));
    }

pub putting_end : (old new listed : List ℕ) (count k : ℕ) → Putting old new listed count k → count ≤ k → count ≤ length listed
    → 11 + count ≤ length old → new ≡ sets old 11 (take count listed)
putting_end old new listed count k p h few room =
    let low = p.low in
    let e : k ≡ count = omega arith in
    let size = length-take-le count listed few in
    p.is
    ∙ ap (paste old 11 listed) e
    ∙ sym (sets-eq (take count listed) old 11 (omega arith) ∙ ap (λ (n : ℕ). take 11 old ++ take count listed ++ drop (11 + n) old) size)

-- the rows that an accepted call lists are as many as the list has room for, or fewer
pub few_listed : (s b : List ℕ) (z : states.RenderState) (args : RenderArgs) (store marks out listed : List ℕ) (r : Result Written Refused) (w : Written)
    (store2 marks2 out2 listed2 : List ℕ) → r ≡ Ok w → RenderCalled s b z args store marks out listed r store2 marks2 out2 listed2
    → w.state.listed_rows ≤ length listed2
few_listed s b z args store marks out listed r w store2 marks2 out2 listed2 e c =
    let R = rules_of s b in
    let q = to_args args (length out) in
    let gives = render_gives R q z store marks in
    let by = accepted_by (R.render_refusal q z store marks) (written (to_state w.state listed2) w.bytes.0 w.entered)
    (written gives.state (length gives.text) gives.entered) (sym (ap (rendering_answer s b listed2) e) ∙ c.answer) in
    let same : to_state w.state listed2 ≡ gives.state = state_of by.is in
    let count : w.state.listed_rows ≡ length gives.state.listed =
    sym (listed_count listed2 w.state.listed_rows) ∙ ap (λ (t : states.RenderState). length t.listed) same in
    let list : listed2 ≡ write_front (map row_number gives.state.listed) listed =
    c.list_left_of ∙ ap (λ (o : Option Refusal). unless o listed (write_front (map row_number gives.state.listed) listed)) by.passes in
    let size : length listed2 ≡ length (map row_number gives.state.listed) + length (drop (length (map row_number gives.state.listed)) listed) =
    ap length list ∙ length-append (map row_number gives.state.listed) (drop (length (map row_number gives.state.listed)) listed) in
    let as_many = length-map gives.state.listed row_number in
    omega arith
  where
    state_of : {t u : states.RenderState} {n m k j : ℕ} → ◌≡◌ {A = CallResult (rules_of s b)} (written t n k) (written u m j) → t ≡ u
    state_of e = cc

numbers_back : (xs : List ℕ) → map row_number (map open_row xs) ≡ xs
numbers_back [] = refl
numbers_back (x ∷ xs) = ap₂ (λ (y : ℕ) (ys : List ℕ). y ∷ ys) (numbers_rows.1 x) (numbers_back xs)

-- an accepted answer's other numbers, and its listed rows behind them
pub told_listed : (s b out listed : List ℕ) (r : Result Written Refused) (w : Written) (a : Answer (CallResult (rules_of s b))) → r ≡ Ok w
    → w.state.listed_rows ≤ length listed → rendering_answer s b listed r ≡ a
    → sets (sets out 0 (0 ∷ written_numbers w)) 11 (take w.state.listed_rows listed) ≡ numbers_of (told_call s b) a out
told_listed s b out listed r w a is few e =
    let n = w.state.listed_rows in
    let rows : map row_number (listed_of n listed) ≡ take n listed =
    ap (map row_number) (listed_few listed n few) ∙ numbers_back (take n listed) in
    sym
    (ap₂ (λ (m : ℕ) (l : List ℕ). sets (sets out 0 (0 ∷ take 9 (written_numbers w) ++ (m ∷ []))) 11 l) (listed_count listed n) rows)
    ∙ ap (λ (x : Answer (CallResult (rules_of s b))). numbers_of (told_call s b) x out) (sym (ap (rendering_answer s b listed) is) ∙ e)

-- what a rendering call that is accepted leaves, of an array's numbers
pub renders : (s b store marks output state args out listed : List ℕ) (z : RenderState) (q : RenderArgs) (r : Result Written Refused) (w : Written)
    (m : Result (List ℕ) Refused) (store2 marks2 output2 listed2 put out2 : List ℕ) → z ≡ render_state state → listed ≡ render_list state
    → q ≡ render_args args → r ≡ Ok w → RenderCalled s b (to_state z listed) q store marks output listed r store2 marks2 output2 listed2
    → MatchResult r (λ x. IsOkAnd m (λ y. y ≡ written_numbers x)) (λ e. m ≡ Err e) → put ≡ numbers_of (λ l. l) (answer_of (λ l. l) m) out
    → out2 ≡ sets put 11 (take w.state.listed_rows listed2) → Renders s b store marks output state args out store2 marks2 output2 out2
renders s b store marks output state args out listed z q r w m store2 marks2 output2 listed2 put out2 f h g e c o p t =
    let few = few_listed s b (to_state z listed) q store marks output listed r w store2 marks2 output2 listed2 e c in
    let given : m ≡ Ok (written_numbers w) = told_ok m (written_numbers w)
    (MatchResult-at_ok (λ x. IsOkAnd m (λ y. y ≡ written_numbers x)) (λ x. m ≡ Err x) w e o) in
    let front : put ≡ sets out 0 (0 ∷ written_numbers w) =
    p ∙ ap (λ (x : Result (List ℕ) Refused). numbers_of (λ l. l) (answer_of (λ l. l) x) out) given in
    record {
      store_left_of = c.store_left_of;
      marks_left_of = c.marks_left_of ∙ (λ i. render_marks (rules_of s b) (to_args (g i) (length output)) (to_state (f i) (h i)) store marks);
      output_left_of = c.output_left_of
          ∙ (λ i. render_output (rules_of s b) (to_args (g i) (length output)) (to_state (f i) (h i)) store marks output);
      told_as =
          t
          ∙ ap (λ (l : List ℕ). sets l 11 (take w.state.listed_rows listed2)) front
          ∙ told_listed s b out listed2 r w
          (render_answer (rules_of s b) (to_args (render_args args) (length output)) (state_told state) store marks) e few
          (c.answer ∙ (λ i. render_answer (rules_of s b) (to_args (g i) (length output)) (to_state (f i) (h i)) store marks));
    }
  where
    told_ok : (k : Result (List ℕ) Refused) (v : List ℕ) → IsOkAnd k (λ y. y ≡ v) → k ≡ Ok v
    told_ok (Ok y) v h = ap (λ (x : List ℕ). Ok x) h
    told_ok (Err y) v h = absurd h
