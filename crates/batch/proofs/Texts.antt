-- The texts of all files and their rows: counted, and written one after the other.
-- Assumes nothing.
use mathlib.Core.Path.{◌≡◌, refl, sym, ap, ap₂, subst, ◌∙◌}
use Rattle.std.specs.Prelude.{None}
use mathlib.Core.List.{List, [], ◌∷◌, ◌++◌, append-nil}
use Prim.Native.Nat.{ℕ, ◌+◌, ◌-◌, ◌*◌, ◌≤◌, ◌<◌}
use native.Mathlib.Omega.{arith}
use lib.ListN.{length, take, drop, length-append, length-drop, drop_of_length-le}
use lib.Seq.{sets, length-sets, take_all}
use borrow.Rule.Slice.PartMut.{put_mid}
use Rattle.laws.proofs.Stores.{sets_append}
use Rattle.refusals.specs.Answers.{Answer, refused, accepted}
use Rattle.image.specs.Read.{read_refusal}
use Rattle.cut_rule.specs.Run.{write_front}
use Rattle.cut_rule.proofs.Memory.{write_sets}
use Rattle.whole_run.specs.File.{FileResult}
use Rattle.whole_run.specs.FileLimits.{FILE_TEXT}
use Rattle.whole_run.specs.Built.{FileChoice}
use Rattle.batch.specs.Batch.{MAX_SAVES, Save, frame_end, save_at, all_saves, saves_by, row_of, single, table_of, texts_of, table_due, texts_due}
use Rattle.batch.specs.Whole.{saved, IsFrame, text_of, cells, Saved, Room, Written}
use Rattle.batch.specs.declared.frames.Frame.{Frame}
use Rattle.batch.specs.declared.writing.Row.{Row}
use Rattle.batch.proofs.Buffer.{Files, starts, next, last, past_last, listed}
use Rattle.batch.proofs.Bounds.{texts_limited, row_text}

row_size : (a : Answer FileResult) → length (row_of a) ≡ 3
row_size (refused r) = refl
row_size (accepted x) = refl

module _ (c : FileChoice) where
  texts_more : (x : Save) (xs : List Save) → texts_of c (x ∷ xs) ≡ text_of c x ++ texts_of c xs
  unfolding texts_of
  texts_more x xs = refl

  rows_more : (x : Save) (xs : List Save) → table_of c (x ∷ xs) ≡ row_of (single c x) ++ table_of c xs
  unfolding table_of
  rows_more x xs = refl

  no_texts : texts_of c [] ≡ []
  unfolding texts_of
  no_texts = refl

  no_rows : table_of c [] ≡ []
  unfolding table_of
  no_rows = refl

  -- "three u32 a file"
  pub table_size : (xs : List Save) → length (table_of c xs) ≡ length xs * 3
  table_size [] = ap length no_rows
  table_size (x ∷ xs) =
      let h = table_size xs in
      let k = row_size (single c x) in
      let l = length-append (row_of (single c x)) (table_of c xs) in
      ap length (rows_more x xs) ∙ (omega arith)

  module _ (f : List ℕ) where
    -- ---- counted: with those before, the texts from here on are all
    pub record Adding (at bytes : ℕ) : Type 0 where
      pub inside : at ≤ length f
      pub rest : List Save
      pub files : Files f at rest
      pub same : bytes + length (texts_of c rest) ≡ length (texts_due c f)

    module _ (passes : read_refusal (all_saves f) ≡ None) where
      pub adding_none : Adding 0 0
      adding_none =
          record { inside = omega arith; rest = saves_by (all_saves f); files = (listed f MAX_SAVES 0 passes).files; same = omega arith }

      pub all_limited : length (texts_due c f) ≤ MAX_SAVES * FILE_TEXT
      all_limited = let h = (listed f MAX_SAVES 0 passes).few in let l = texts_limited c (saves_by (all_saves f)) in omega arith

    module _ (at bytes : ℕ) (p : Adding at bytes) where
      module _ (h : at < length f) (n : ℕ) (e : n ≡ length (text_of c (save_at f at))) where
        split : length (texts_of c p.rest) ≡ n + length (texts_of c (next f h p.files).others)
        split =
            ap (λ (xs : List Save). length (texts_of c xs)) (next f h p.files).is
            ∙ ap length (texts_more (save_at f at) (next f h p.files).others)
            ∙ length-append (text_of c (save_at f at)) (texts_of c (next f h p.files).others)
            ∙ ap (λ (k : ℕ). k + length (texts_of c (next f h p.files).others)) (sym e)

        adding_within : bytes + n ≤ length (texts_due c f)
        adding_within = omega (arith, split, p.same)

        adding_more : Adding (frame_end f at) (bytes + n)
        adding_more =
            record {
              inside = (next f h p.files).fits;
              rest = (next f h p.files).others;
              files = (next f h p.files).later;
              same = omega (arith, split, p.same);
            }

      -- the same of a frame that the code read
      module _ (x : Frame) (w : IsFrame f at x) (n : ℕ) (e : n ≡ length (text_of c (saved x))) where
        as_listed : n ≡ length (text_of c (save_at f at))
        as_listed = e ∙ ap (λ (y : Save). length (text_of c y)) w.file

        pub frame_within : bytes + n ≤ length (texts_due c f)
        frame_within = adding_within (starts f at x w) n as_listed

        pub frame_added : Adding x.end (bytes + n)
        frame_added = subst (λ (k : ℕ). Adding k (bytes + n)) (sym w.end) (adding_more (starts f at x w) n as_listed)

      pub adding_all : length f < frame_end f at → bytes ≡ length (texts_due c f)
      adding_all h =
          let z = ap (λ (xs : List Save). length (texts_of c xs)) (last f (past_last f h p.files) p.files) ∙ ap length no_texts in
          omega (arith, p.same)

    -- ---- written: what is left from here on makes the whole table and all texts
    pub record Putting (table₀ out₀ table out : List ℕ) (at cell text : ℕ) : Type 0 where
      pub inside : at ≤ length f
      pub rest : List Save
      pub files : Files f at rest
      pub rows : sets table cell (table_of c rest) ≡ write_front (table_due c f) table₀
      pub texts : sets out text (texts_of c rest) ≡ write_front (texts_due c f) out₀
      pub rows_fit : cell + length (table_of c rest) ≤ length table
      pub texts_fit : text + length (texts_of c rest) ≤ length out
      pub table_same : length table ≡ length table₀
      pub out_same : length out ≡ length out₀

    module _ (table₀ out₀ : List ℕ) where
      pub putting_none : Room c f table₀ out₀ → Putting table₀ out₀ table₀ out₀ 0 0 0
      putting_none r =
          record {
            inside = omega arith;
            rest = saves_by (all_saves f);
            files = (listed f MAX_SAVES 0 r.passes).files;
            rows = sym (write_sets 0 (table_due c f) table₀ (omega (arith, r.rows)));
            texts = sym (write_sets 0 (texts_due c f) out₀ (omega (arith, r.texts)));
            rows_fit = omega (arith, r.rows);
            texts_fit = omega (arith, r.texts);
            table_same = refl;
            out_same = refl;
          }

      module _ (table out : List ℕ) (at cell text : ℕ) (p : Putting table₀ out₀ table out at cell text) where
        pub putting_all : length f < frame_end f at → Written c f table₀ out₀ table out
        putting_all h =
            let e = last f (past_last f h p.files) p.files in
            record {
              rows = sym (ap (sets table cell) (ap (table_of c) e ∙ no_rows)) ∙ p.rows;
              texts = sym (ap (sets out text) (ap (texts_of c) e ∙ no_texts)) ∙ p.texts;
            }

        module _ (h : at < length f) where
          abbrev after : List Save
          after = (next f h p.files).others

          rows_split : table_of c p.rest ≡ row_of (single c (save_at f at)) ++ table_of c after
          rows_split = ap (table_of c) (next f h p.files).is ∙ rows_more (save_at f at) after

          texts_split : texts_of c p.rest ≡ text_of c (save_at f at) ++ texts_of c after
          texts_split = ap (texts_of c) (next f h p.files).is ∙ texts_more (save_at f at) after

          rows_count : length (table_of c p.rest) ≡ 3 + length (table_of c after)
          rows_count =
              ap length rows_split
              ∙ length-append (row_of (single c (save_at f at))) (table_of c after)
              ∙ ap (λ (n : ℕ). n + length (table_of c after)) (row_size (single c (save_at f at)))

          texts_count : length (texts_of c p.rest) ≡ length (text_of c (save_at f at)) + length (texts_of c after)
          texts_count = ap length texts_split ∙ length-append (text_of c (save_at f at)) (texts_of c after)

          putting_row : cell + 3 ≤ length table
          putting_row = omega (arith, rows_count, p.rows_fit)

          putting_bytes : text + length (text_of c (save_at f at)) ≤ length out
          putting_bytes = omega (arith, texts_count, p.texts_fit)

          -- the part of the output that is lent is what is behind the texts so far
          lent : take (length out - text) (drop text out) ≡ drop text out
          lent = take_all (length out - text) (drop text out) (omega (arith, length-drop text out))

          putting_text : length (text_of c (save_at f at)) ≤ length (take (length out - text) (drop text out))
          putting_text = omega (arith, putting_bytes, ap length lent, length-drop text out)

          module _ (row : Row) (part2 table2 : List ℕ) (s : Saved c (save_at f at) (take (length out - text) (drop text out)) row part2)
              (t : table2 ≡ sets table cell (cells row)) where
            abbrev out2 : List ℕ
            out2 = put_mid text (length out - text) out part2

            part_put : out2 ≡ sets out text (text_of c (save_at f at))
            part_put =
                let none-behind : drop (length out - text) (drop text out) ≡ [] =
                drop_of_length-le (drop text out) {i = length out - text} (omega (arith, length-drop text out))
                in
                ap₂ (λ (x y : List ℕ). take text out ++ (x ++ y)) (s.text_left ∙ ap (write_front (text_of c (save_at f at))) lent) none-behind
                ∙ ap (λ (x : List ℕ). take text out ++ x) (append-nil (write_front (text_of c (save_at f at)) (drop text out)))
                ∙ write_sets text (text_of c (save_at f at)) out putting_bytes

            putting_more : Putting table₀ out₀ table2 out2 (frame_end f at) (cell + 3) (text + row.bytes)
            putting_more =
                let n : row.bytes ≡ length (text_of c (save_at f at)) = row_text c (save_at f at) row.number row.place row.bytes s.row in
                let long : length table2 ≡ length table = ap length t ∙ length-sets table cell (cells row) in
                let wide : length out2 ≡ length out = ap length part_put ∙ length-sets out text (text_of c (save_at f at)) in
                record {
                  inside = (next f h p.files).fits;
                  rest = after;
                  files = (next f h p.files).later;
                  rows =
                      ap (λ (x : List ℕ). sets x (cell + 3) (table_of c after)) t
                      ∙ sym (sets_append (cells row) (table_of c after) table cell)
                      ∙ ap (λ (x : List ℕ). sets table cell (x ++ table_of c after)) s.row
                      ∙ sym (ap (sets table cell) rows_split)
                      ∙ p.rows;
                  texts =
                      ap₂ (λ (x : List ℕ) (k : ℕ). sets x (text + k) (texts_of c after)) part_put n
                      ∙ sym (sets_append (text_of c (save_at f at)) (texts_of c after) out text)
                      ∙ sym (ap (sets out text) texts_split)
                      ∙ p.texts;
                  rows_fit = omega (arith, rows_count, p.rows_fit);
                  texts_fit = omega (arith, texts_count, p.texts_fit);
                  table_same = long ∙ p.table_same;
                  out_same = wide ∙ p.out_same;
                }

        -- the same of a frame that the code read
        module _ (x : Frame) (w : IsFrame f at x) where
          pub frame_row : cell + 3 ≤ length table
          frame_row = putting_row (starts f at x w)

          pub frame_text : length (text_of c (saved x)) ≤ length (take (length out - text) (drop text out))
          frame_text =
              subst (λ (y : Save). length (text_of c y) ≤ length (take (length out - text) (drop text out))) (sym w.file) (putting_text (starts f at x w))

          pub frame_put : (row : Row) (part2 table2 : List ℕ) → Saved c (saved x) (take (length out - text) (drop text out)) row part2
              → table2 ≡ sets table cell (cells row)
              → Putting table₀ out₀ table2 (put_mid text (length out - text) out part2) x.end (cell + 3) (text + row.bytes)
          frame_put row part2 table2 s t =
              let listed = subst (λ (y : Save). Saved c y (take (length out - text) (drop text out)) row part2) w.file s in
              subst
              (λ (k : ℕ). Putting table₀ out₀ table2 (put_mid text (length out - text) out part2) k (cell + 3) (text + row.bytes))
              (sym w.end)
              (putting_more (starts f at x w) row part2 table2 listed t)
