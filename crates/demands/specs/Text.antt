-- The text holds every comment, and it is the program that was read: of what each entry writes, by what it promises and nothing else.
-- proofs/Text.antt proves it. What is said of a text: `HoldsFirst`, `IsProgram` and `TextKept` (crates/whole_run/specs/Text.antt); what a
-- program is written of: `tokens_of` (crates/layout_facts/specs/Tokens.antt).
use Rattle.std.specs.Prelude.{◌≡◌, true, List, [], ◌∷◌, ◌++◌, map, ℕ, ◌*◌, ◌-◌, length, get_or, take, None, Ok}
use Rattle.rows.specs.declared.units.Bytes.{Bytes}
use Rattle.refusals.specs.Refusals.{Refusal}
use Rattle.refusals.specs.Answers.{refused}
use Rattle.cut_rule.specs.Run.{Carried, start}
use Rattle.cut_rule.specs.Plain.{AllReadLaid}
use Rattle.cut_rule.specs.Callers.{after_all, AllKept}
use Rattle.cut_rule.specs.States.{NEW_MODE}
use Rattle.whole_run.specs.Parts.{listed}
use Rattle.whole_run.specs.Demands.{rules_of}
use Rattle.whole_run.specs.Text.{HoldsFirst, IsProgram, AllRendered, TextKept}
use Rattle.whole_run.specs.Built.{FileChoice, reference_choice, built}
use Rattle.stop_facts.specs.SoFar.{KeptInside, comments_before_next}
use Rattle.file.specs.Whole.{Formats, to_choice, source_of, image_of}
use Rattle.file.specs.Reply.{program_refusal, Replies}
use Rattle.batch.specs.Batch.{Save, all_saves, saves_by, single}
use Rattle.batch.specs.Whole.{Batches}
use Rattle.exports.specs.Numbers.{file_choice}
use Rattle.exports.specs.Calls.{FormatsFile}
use Rattle.exports.specs.Saves.{FormatsBatch}
use Rattle.demands.specs.Demand3.{fresh_caller, Made, Promised, after_made, call_made, held}
use Rattle.demands.specs.Linked.{fresh_holder, LinkedCall, LinkedPromised, after_linked, call_linked, held_linked}

-- ---- a whole file
-- `file::format_file`: the n bytes that it wrote are the program, and all comments but the last so many, those that it told to be left
abbrev pub FileIsTheProgram : Type 0
FileIsTheProgram =
    (s b : List ℕ) (c : FileChoice) (out : List ℕ) (n : Bytes) (left rows numbers : ℕ) (out2 : List ℕ)
    → Formats s b c out (Ok (record { bytes = n; left = left; rows = rows; numbers = numbers })) out2
    → IsProgram s b (length (listed s b) - left) (take n.0 out2)

-- so they hold these comments
abbrev pub FileHolds : Type 0
FileHolds =
    (s b : List ℕ) (c : FileChoice) (out : List ℕ) (n : Bytes) (left rows numbers : ℕ) (out2 : List ℕ)
    → Formats s b c out (Ok (record { bytes = n; left = left; rows = rows; numbers = numbers })) out2
    → HoldsFirst s b (length (listed s b) - left) (take n.0 out2)

-- in the new mode all of the list
abbrev pub NewModeFileHoldsAll : Type 0
NewModeFileHoldsAll =
    (s b : List ℕ) (c : FileChoice) (out : List ℕ) (n : Bytes) (left rows numbers : ℕ) (out2 : List ℕ) → c.mode ≡ NEW_MODE
    → Formats s b c out (Ok (record { bytes = n; left = left; rows = rows; numbers = numbers })) out2
    → IsProgram s b (length (listed s b)) (take n.0 out2)

-- `rrufthim_format`, which other languages link: 0, the bytes written and the comments left are the first three numbers of its answer
abbrev pub LinkedFileIsTheProgram : Type 0
LinkedFileIsTheProgram =
    (s b choice output out output2 out2 : List ℕ) → length out ≡ 5 → FormatsFile s b choice output out output2 out2 → get_or out2 0 0 ≡ 0
    → IsProgram s b (length (listed s b) - get_or out2 2 0) (take (get_or out2 1 0) output2)

-- the program `rotofmt`, for a frame that is not refused: the bytes that it writes
abbrev pub ReplyIsTheProgram : Type 0
ReplyIsTheProgram =
    (frame out : List ℕ) (n : ℕ) (out2 : List ℕ) → Replies frame out n out2 → program_refusal frame ≡ None
    → IsProgram (source_of frame) (image_of frame) (built (source_of frame) (image_of frame) reference_choice).placed (take n out2)

-- ---- lists of calls
-- `layout_call::layout_call` and `render_call::render_call`: of every list of calls from fresh, refused ones among them, in which no accepted
-- call reads rows not yet laid out, at every moment, and of the text so far whenever no row is open
abbrev pub CallsAreTheProgram : Type 0
CallsAreTheProgram =
    (s b store₀ marks₀ listed₀ : List ℕ) (made : List Made) → AllKept after_made (Promised s b) (fresh_caller store₀ marks₀ listed₀) made
    → AllReadLaid (rules_of s b) (start (rules_of s b) store₀ marks₀) (map (call_made s b) made)
    → TextKept s b (held s b (after_all after_made (fresh_caller store₀ marks₀ listed₀) made))

-- the same of `rrufthim_layout` and `rrufthim_render`
abbrev pub LinkedCallsAreTheProgram : Type 0
LinkedCallsAreTheProgram =
    (s b store₀ marks₀ : List ℕ) (made : List LinkedCall) → AllKept after_linked (LinkedPromised s b) (fresh_holder store₀ marks₀) made
    → AllReadLaid (rules_of s b) (start (rules_of s b) store₀ marks₀) (map (call_linked s b) made)
    → TextKept s b (held_linked s b (after_all after_linked (fresh_holder store₀ marks₀) made))

-- Wherever a rendering stopped, inside a row too (document 02, 12): the text is made of the first so many pieces of the rows laid out, and the comments
-- among these are those of the rows before the next one, the first so many of the list
abbrev pub CallsKeptInside : Type 0
CallsKeptInside =
    (s b store₀ marks₀ listed₀ : List ℕ) (made : List Made) → AllKept after_made (Promised s b) (fresh_caller store₀ marks₀ listed₀) made
    → AllReadLaid (rules_of s b) (start (rules_of s b) store₀ marks₀) (map (call_made s b) made)
    → KeptInside s b (held s b (after_all after_made (fresh_caller store₀ marks₀ listed₀) made))

abbrev pub LinkedCallsKeptInside : Type 0
LinkedCallsKeptInside =
    (s b store₀ marks₀ : List ℕ) (made : List LinkedCall) → AllKept after_linked (LinkedPromised s b) (fresh_holder store₀ marks₀) made
    → AllReadLaid (rules_of s b) (start (rules_of s b) store₀ marks₀) (map (call_linked s b) made)
    → KeptInside s b (held_linked s b (after_all after_linked (fresh_holder store₀ marks₀) made))

-- so at every moment it holds the comments of the rows before the next one
abbrev pub CommentsHeldSoFar : Type 0
CommentsHeldSoFar = (s b : List ℕ) (w : Carried (rules_of s b)) → KeptInside s b w → HoldsFirst s b (comments_before_next s b w) w.text

-- What that says of the comments alone, of either: once all rows laid out are rendered the text holds as many as are placed, and, where the
-- document is closed in the new mode, the whole list.
abbrev pub CallsHold : Type 0
CallsHold = (s b : List ℕ) (w : Carried (rules_of s b)) → TextKept s b w → AllRendered s b w → HoldsFirst s b w.layout_state_of.cursor.placed w.text

abbrev pub ClosedCallsHoldAll : Type 0
ClosedCallsHoldAll =
    (s b : List ℕ) (w : Carried (rules_of s b)) → TextKept s b w → AllRendered s b w → w.layout_state_of.closed ≡ true
    → w.layout_state_of.mode ≡ NEW_MODE
    → HoldsFirst s b (length (listed s b)) w.text

-- ---- a batch
-- the text of one of its files: the program, and in the new mode every comment
pub record SaveKept (c : FileChoice) (x : Save) (text : List ℕ) : Type 0 where
  pub placed : ℕ
  pub is_program : IsProgram x.source x.image placed text
  pub all : c.mode ≡ NEW_MODE → placed ≡ length (listed x.source x.image)

-- each file has its row in the table and, if it is accepted, its own text, as long as the row says; the texts stand one behind the other, with nothing between
pub data EachKept (c : FileChoice) : List Save → List ℕ → List ℕ → Type 0 where
  no_file : EachKept c [] [] []
  refused_one : {x : Save} {xs : List Save} {table texts : List ℕ} (r : Refusal) → single c x ≡ refused r → EachKept c xs table texts
      → EachKept c (x ∷ xs) (r.number ∷ r.place ∷ 0 ∷ table) texts
  text_of_one : {x : Save} {xs : List Save} {table texts : List ℕ} (text : List ℕ) → SaveKept c x text → EachKept c xs table texts
      → EachKept c (x ∷ xs) (0 ∷ 0 ∷ length text ∷ table) (text ++ texts)

-- `batch::format_batch`: three numbers a file, and the bytes of the texts
abbrev pub BatchIsThePrograms : Type 0
BatchIsThePrograms =
    (f : List ℕ) (c : FileChoice) (table out : List ℕ) (files bytes : ℕ) (table2 out2 : List ℕ)
    → Batches f c table out (Ok (record { files = files; bytes = bytes })) table2 out2
    → EachKept c (saves_by (all_saves f)) (take (3 * files) table2) (take bytes out2)

-- `rrufthim_batch`: 0, the files and the bytes are the numbers of its answer
abbrev pub LinkedBatchIsThePrograms : Type 0
LinkedBatchIsThePrograms =
    (f choice table output out table2 output2 out2 : List ℕ) → length out ≡ 3 → FormatsBatch f choice table output out table2 output2 out2
    → get_or out2 0 0 ≡ 0
    → EachKept (to_choice (file_choice choice)) (saves_by (all_saves f)) (take (3 * get_or out2 1 0) table2) (take (get_or out2 2 0) output2)
