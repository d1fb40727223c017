-- A whole list: what is measured, and the parts of its image as they are put.
-- Assumes nothing.
use mathlib.Core.Path.{◌≡◌, refl, sym, ap, ap₂, ◌∙◌}
use mathlib.Core.Bool.{Bool, true, false, ◌||◌}
use mathlib.Core.List.{List, [], ◌∷◌, ◌++◌, append-nil}
use Prim.Native.Nat.{ℕ, zero, suc, ◌+◌, ◌-◌, ◌*◌, ◌/◌, ◌%◌, ◌≤◌, ◌<◌}
use native.Mathlib.Omega.{arith}
use native.Mathlib.Nat.{mod-eq_of_lt}
use lib.Dec.{ltb}
use lib.ListN.{length, take, drop, set, length-append, length-drop, take-append-drop, drop_of_length-le}
use lib.Seq.{sets, take_all, length-take-le}
use borrow.Author.Tests.{lt-ltb, le-ltb, ltb-true, ltb-false}
use Rattle.laws.proofs.Stores.{sets_append}
use Rattle.std.specs.Prelude.{Result, Ok, Err}
use Rattle.refusals.specs.Refusals.{Refusal}
use Rattle.refusals.specs.Answers.{refused, accepted}
use Rattle.refusals.specs.Reasons.{number_of}
use Rattle.refusals.specs.declared.Refused.{Refused}
use Rattle.image.specs.Kinds.{TREE}
use Rattle.image.specs.Limits.{MAX_COMMENTS, MAX_RECORDS_DEEP}
use Rattle.image.specs.Grammar.{is_optional, place, after, row_of, row_under_of}
use Rattle.image.specs.Read.{Read, got, bad}
use Rattle.image.specs.Write.{Plain, Plains, bytes4, written, writtens, bytes2}
use Rattle.image.proofs.Shapes.{kind_range}
use Rattle.ast.specs.Syntax.{Span}
use Rattle.steps.specs.Steps.{list_bytes, payload_steps, tree_steps, child_steps, close_step}
use Rattle.tree.specs.Contents.{pair_bytes, Contents, image_of}
use Rattle.steps.specs.Writer.{comments_from, record_from, contents_from, image_by, image_due, writer_answer, writer_output}
use Rattle.tree.proofs.Fits.{Fits, fits, FitsRow, ends, gone, here}
use Rattle.steps.proofs.Taken.{list_append, record_taken}
use Rattle.steps.proofs.Sizes.{record_size, payload_size}
use Rattle.tree.proofs.WholeFits.{pairs_size}
use Rattle.writer.specs.Put.{put_of, put_by}
use Rattle.writer.specs.Wrote.{measures, measured}
use Rattle.writer.specs.declared.output.Output.{Output}
use Rattle.writer.specs.declared.whole.Measured.{Measured}
use Rattle.writer.proofs.Runs.{was_held, was_fault}
use Rattle.writer.proofs.Commented.{comments_got}

-- ---- the tree leaves room for the image's head: only one of its places may be empty
steady : {left row : ℕ} {xs : Plains} → FitsRow 2 left row xs → is_optional (place row) ≡ false → after row ≡ row
    → length (writtens xs) ≤ 2 * length (list_bytes (child_steps xs))
unfolding writtens child_steps
steady (ends c) o e = omega arith
steady (gone o' more) o e = let z : true ≡ false = sym o' ∙ o in let w : ◌≡◌ {A = ℕ} 0 1 = cc in absurd (omega arith)
steady (here {row = row} {x = y} {xs = ys} z x more) o e =
    let a = record_size x in
    let b = steady more (ap (λ (r : ℕ). is_optional (place r)) e ∙ o) (ap after e) in
    rw (
      length-append (written y) (writtens ys),
      list_append (tree_steps y) (child_steps ys),
      length-append (list_bytes (tree_steps y))
          (list_bytes (child_steps ys)),
    )
    (omega arith)

once : {left row : ℕ} {xs : Plains} → FitsRow 2 left row xs → is_optional (place (after row)) ≡ false → after (after row) ≡ after row
    → length (writtens xs) ≤ 2 * length (list_bytes (child_steps xs)) + 2
unfolding writtens child_steps
once (ends c) o e = omega arith
once (gone o' more) o e = let b = steady more o e in omega arith
once (here {row = row} {x = y} {xs = ys} z x more) o e =
    let a = record_size x in
    let b = steady more o e in
    rw (
      length-append (written y) (writtens ys),
      list_append (tree_steps y) (child_steps ys),
      length-append (list_bytes (tree_steps y))
          (list_bytes (child_steps ys)),
    )
    (omega arith)

root_size : {left p : ℕ} {x : Plain} → Fits 2 left p x → p ≡ TREE → length (written x) + 7 ≤ 2 * length (list_bytes (tree_steps x))
unfolding written tree_steps row_under_of row_of
root_size (fits {p = p} {kind = kind} {x = x} {xs = xs} right order pays row) e =
    let r = kind_range TREE kind refl (rw e at right) in
    let k : kind ≡ TREE = omega (arith, r.0, r.1) in
    let a = payload_size pays in
    let b = once (rw (e, k) at row) refl refl in
    let m : length (list_bytes (payload_steps kind x ++ (child_steps xs ++ (close_step ∷ []))))
    ≡ length (list_bytes (payload_steps kind x)) + (length (list_bytes (child_steps xs)) + 1) =
    simp (list_append, length-append) in
    omega (arith, length-append x (writtens xs))

pub tree_size : (l : List ℕ) (at : ℕ) (x : Plain) (end : ℕ) → record_from l MAX_RECORDS_DEEP TREE at ≡ got x end
    → (at ≤ end) × ((end ≤ length l) × (length (written x) + 7 ≤ 2 * (end - at)))
tree_size l at x end h =
    let r = record_taken l MAX_RECORDS_DEEP TREE at x end h in
    let t = r.1 in
    let s = root_size r.0 refl in
    (omega (arith, t.ends), (t.within, omega (arith, t.ends)))

-- ---- what is measured
module _ (l : List ℕ) where
  pub contents_pairs : (n p : ℕ) → comments_from l MAX_COMMENTS 0 0 ≡ bad n p → contents_from l ≡ bad n p
  unfolding contents_from
  contents_pairs n p e = rw e

  pub contents_tree : (cs : List Span) (at n p : ℕ) → comments_from l MAX_COMMENTS 0 0 ≡ got cs at → record_from l MAX_RECORDS_DEEP TREE at ≡ bad n p
      → contents_from l ≡ bad n p
  unfolding contents_from
  contents_tree cs at n p e f = rw (e, f)

  pub contents_spare : (cs : List Span) (at : ℕ) (x : Plain) (end : ℕ) → comments_from l MAX_COMMENTS 0 0 ≡ got cs at
      → record_from l MAX_RECORDS_DEEP TREE at ≡ got x end → end < length l → contents_from l ≡ bad 16 end
  unfolding contents_from
  contents_spare cs at x end e f h = rw (e, f, lt-ltb end (length l) h)

  contents_whole : (cs : List Span) (at : ℕ) (x : Plain) (end : ℕ) → comments_from l MAX_COMMENTS 0 0 ≡ got cs at
      → record_from l MAX_RECORDS_DEEP TREE at ≡ got x end → length l ≤ end → contents_from l ≡ got (record { comments = cs; tree = x }) end
  unfolding contents_from
  contents_whole cs at x end e f h = rw (e, f, le-ltb end (length l) h)

  image_length : (cs : List Span) (x : Plain)
      → length (image_of 1 (record { comments = cs; tree = x })) ≡ 7 + length (pair_bytes cs) + length (written x)
  image_length cs x = let e = length-append (pair_bytes cs) (written x) in omega arith

  pub is_measured : (cs : List Span) (at : ℕ) (x : Plain) (end pairs bytes : ℕ) → comments_from l MAX_COMMENTS 0 0 ≡ got cs at
      → record_from l MAX_RECORDS_DEEP TREE at ≡ got x end → length l ≤ end → pairs ≡ length (pair_bytes cs) → bytes ≡ length (written x)
      → measures at (7 + pairs + bytes) ≡ measured (contents_from l)
  is_measured cs at x end pairs bytes e f h p q =
      let k = comments_got l MAX_COMMENTS 0 0 cs at (omega arith) e in
      let a : at ≡ 9 * length cs = omega (arith, k.ends) in
      let n : 7 + pairs + bytes ≡ length (image_of 1 (record { comments = cs; tree = x })) = sym (image_length cs x ∙ omega arith) in
      ap₂ measures a n ∙ sym (ap measured (contents_whole cs at x end e f h))

  -- ---- what was measured
  same_measure : (a b x y : ℕ) → measures a b ≡ measures x y → (a ≡ x) × (b ≡ y)
  same_measure a b x y e =
      let m : ◌≡◌ {A = Measured} (record { tree = a; bytes = b }) (record { tree = x; bytes = y }) = cc in
      (ap (λ (z : Measured). z.tree) m, ap (λ (z : Measured). z.bytes) m)

  pub record Parts (at bytes : ℕ) : Type 0 where
    pub comments : List Span
    pub tree : Plain
    pub end : ℕ
    pub pairs : comments_from l MAX_COMMENTS 0 0 ≡ got comments at
    pub reads : record_from l MAX_RECORDS_DEEP TREE at ≡ got tree end
    pub count : at ≡ 9 * length comments
    pub few : length comments ≤ 8192
    pub inside : at ≤ length l
    pub image : image_due l ≡ image_of 1 (record { comments = comments; tree = tree })
    pub size : bytes ≡ 7 + 8 * length comments + length (written tree)

  parts_by : (at bytes : ℕ) (r : Read (List Span)) → comments_from l MAX_COMMENTS 0 0 ≡ r → measures at bytes ≡ measured (contents_from l)
      → Parts at bytes
  parts_by at bytes (bad n p) e h =
      let w : measures at bytes ≡ refused (record { number = n; place = p }) = h ∙ ap measured (contents_pairs n p e) in
      let z : ◌≡◌ {A = ℕ} 0 1 = cc in
      absurd (omega arith)
  parts_by at bytes (got cs a) e h = more (record_from l MAX_RECORDS_DEEP TREE a) refl
    where
      more : (r : Read Plain) → record_from l MAX_RECORDS_DEEP TREE a ≡ r → Parts at bytes
      more (bad n p) f =
          let w : measures at bytes ≡ refused (record { number = n; place = p }) = h ∙ ap measured (contents_tree cs a n p e f) in
          let z : ◌≡◌ {A = ℕ} 0 1 = cc in
          absurd (omega arith)
      more (got x end) f = done (ltb end (length l)) refl
        where
          done : (t : Bool) → ltb end (length l) ≡ t → Parts at bytes
          done true b =
              let w : measures at bytes ≡ refused (record { number = 16; place = end }) =
              h ∙ ap measured (contents_spare cs a x end e f (omega (arith, ltb-true end (length l) b))) in
              let z : ◌≡◌ {A = ℕ} 0 1 = cc in
              absurd (omega arith)
          done false b =
              let c = contents_whole cs a x end e f (omega (arith, ltb-false end (length l) b)) in
              let w : measures at bytes ≡ measures (9 * length cs) (length (image_of 1 (record { comments = cs; tree = x }))) = h ∙ ap measured c in
              let k = comments_got l MAX_COMMENTS 0 0 cs a (omega arith) e in
              let m = same_measure at bytes _ _ w in
              let p : at ≡ 9 * length cs = m.0 in
              let q : bytes ≡ length (image_of 1 (record { comments = cs; tree = x })) = m.1 in
              let same : a ≡ at = omega (arith, k.ends) in
              record {
                comments = cs;
                tree = x;
                end = end;
                pairs = e ∙ ap (got cs) same;
                reads = ap (record_from l MAX_RECORDS_DEEP TREE) (sym same) ∙ f;
                count = p;
                few = k.few;
                inside = omega (arith, k.within);
                image = ap image_by c;
                size = q ∙ image_length cs x ∙ ap (λ (n : ℕ). 7 + n + length (written x)) (pairs_size cs);
              }

  pub parts : (at bytes : ℕ) → measures at bytes ≡ measured (contents_from l) → Parts at bytes
  parts at bytes h = parts_by at bytes (comments_from l MAX_COMMENTS 0 0) refl h

-- ---- what is put
-- a run over what is accepted puts it
pub put_got : {A : Type 0} (f : A → List ℕ) (pos : ℕ) (out : List ℕ) (rd : Read A) (r : Result ℕ Refused) (o : Output) (a : A) (e : ℕ)
    → put_of r o ≡ put_by f pos out rd → rd ≡ got a e → pos + length (f a) < 4294967296 → o.bytes.now ≡ sets out pos (f a)
put_got f pos out rd (Ok x) o a e h g low =
    let k = was_held f pos out rd x o.pos o.bytes.now h in
    let w : got k.what x ≡ got a e = sym k.reads ∙ g in
    let same : k.what ≡ a = cc in
    k.output (rw (k.place, same) low) ∙ ap (λ (u : _). sets out pos (f u)) same
put_got f pos out rd (Err x) o a e h g low =
    let w : got a e ≡ bad (number_of x.reason) x.place = sym g ∙ was_fault f pos out rd (number_of x.reason) x.place h in
    let z : ◌≡◌ {A = ℕ} 0 1 = cc in
    absurd (omega arith)

-- a run over a part of the output that is lent
set_behind : (p q : List ℕ) (i k v : ℕ) → k ≡ length p + i → set (p ++ q) k v ≡ p ++ set q i v
set_behind [] q i k v e = ap (λ (j : ℕ). set q j v) (omega arith)
set_behind (x ∷ p) q i zero v e = absurd (omega arith)
set_behind (x ∷ p) q i (suc k) v e = ap (λ (u : List ℕ). x ∷ u) (set_behind p q i k v (omega arith))

sets_part : (p q ws : List ℕ) (i k : ℕ) → k ≡ length p + i → sets (p ++ q) k ws ≡ p ++ sets q i ws
sets_part p q [] i k e = refl
sets_part p q (w ∷ ws) i k e =
    ap (λ (u : List ℕ). sets u (suc k) ws) (set_behind p q i k w e) ∙ sets_part p (set q i w) ws (suc i) (suc k) (omega arith)

pub lent_part : (a : ℕ) (xs ys ws : List ℕ) → a ≤ length xs → ys ≡ sets (take (length xs - a) (drop a xs)) 0 ws
    → take a xs ++ (ys ++ drop (length xs - a) (drop a xs)) ≡ sets xs a ws
lent_part a xs ys ws h e =
    let long = length-drop a xs in
    let all : take (length xs - a) (drop a xs) ≡ drop a xs = take_all (length xs - a) (drop a xs) (omega arith) in
    let none : drop (length xs - a) (drop a xs) ≡ [] = drop_of_length-le (drop a xs) {i = length xs - a} (omega arith) in
    ap₂ (λ (u v : List ℕ). take a xs ++ (u ++ v)) (e ∙ ap (λ (u : List ℕ). sets u 0 ws) all) none
    ∙ ap (λ (u : List ℕ). take a xs ++ u) (append-nil (sets (drop a xs) 0 ws))
    ∙ sym (ap (λ (u : List ℕ). sets u a ws) (sym (take-append-drop a xs))
    ∙ sets_part (take a xs) (drop a xs) ws 0 a (omega (arith, length-take-le a xs h)))

pub whole_put : (l : List ℕ) (at bytes : ℕ) (k : Parts l at bytes) (out o₁ o₂ o₃ o₄ o₅ : List ℕ) → bytes ≤ 1048581 → o₁ ≡ set out 0 1
    → o₂ ≡ sets o₁ 1 (bytes4 ((bytes - 5) % 4294967296)) → o₃ ≡ sets o₂ 5 (bytes2 (at / 9)) → o₄ ≡ sets o₃ 7 (pair_bytes k.comments)
    → o₅ ≡ sets o₄ (7 + 8 * (at / 9)) (written k.tree) → o₅ ≡ sets out 0 (image_due l)
whole_put l at bytes k out o₁ o₂ o₃ o₄ o₅ h e₁ e₂ e₃ e₄ e₅ =
    let cs = k.comments in
    let t = written k.tree in
    let n : at / 9 ≡ length cs = omega (arith, k.count) in
    let pairs = pairs_size cs in
    let body = bytes2 (length cs) ++ (pair_bytes cs ++ t) in
    let long = length-append (pair_bytes cs) t in
    let size : (bytes - 5) % 4294967296 ≡ length body = mod-eq_of_lt (omega arith) ∙ omega (arith, k.size) in
    let f₂ : o₂ ≡ sets (set out 0 1) 1 (bytes4 (length body)) = e₂ ∙ ap₂ (λ (u : List ℕ) (m : ℕ). sets u 1 (bytes4 m)) e₁ size in
    let f₃ : o₃ ≡ sets o₂ 5 (bytes2 (length cs)) = e₃ ∙ ap (λ (m : ℕ). sets o₂ 5 (bytes2 m)) n in
    let f₅ : o₅ ≡ sets o₃ 7 (pair_bytes cs ++ t) =
    e₅ ∙ ap₂ (λ (u : List ℕ) (m : ℕ). sets u m t) e₄ (omega arith) ∙ sym (sets_append (pair_bytes cs) t o₃ 7) in
    f₅
    ∙ ap (λ (u : List ℕ). sets u 7 (pair_bytes cs ++ t)) f₃
    ∙ sym (sets_append (bytes2 (length cs)) (pair_bytes cs ++ t) o₂ 5)
    ∙ ap (λ (u : List ℕ). sets u 5 body) f₂
    ∙ sym (sets_append (bytes4 (length body)) body (set out 0 1) 1)
    ∙ ap (λ (u : List ℕ). sets out 0 u) (sym k.image)

-- ---- the answer
module _ (l out : List ℕ) where
  pub answers_wrong : (x : Refusal) → refused x ≡ measured (contents_from l)
      → (refused x ≡ writer_answer l (length out)) × (out ≡ writer_output l out)
  answers_wrong x h = go (contents_from l) refl
    where
      go : (r : Read Contents) → contents_from l ≡ r → (refused x ≡ writer_answer l (length out)) × (out ≡ writer_output l out)
      go (got c end) e = let w : refused x ≡ measured (got c end) = h ∙ ap measured e in cc
      go (bad m q) e =
          let w : refused x ≡ measured (bad m q) = h ∙ ap measured e in
          let a : x ≡ record { number = m; place = q } = cc in
          (rw e (ap refused a), rw e)

  module _ (at bytes : ℕ) (h : measures at bytes ≡ measured (contents_from l)) where
    due_length : (c : Contents) (end : ℕ) → contents_from l ≡ got c end → length (image_of 1 c) ≡ bytes
    due_length c end e = sym (same_measure l at bytes (9 * length c.comments) (length (image_of 1 c)) (h ∙ ap measured e)).1

    pub answers_long : (ltb 1048581 bytes || ltb (length out) bytes) ≡ true
        → (refused (record { number = 17; place = bytes }) ≡ writer_answer l (length out)) × (out ≡ writer_output l out)
    answers_long t = go (contents_from l) refl
      where
        go : (r : Read Contents) → contents_from l ≡ r
            → (refused (record { number = 17; place = bytes }) ≡ writer_answer l (length out)) × (out ≡ writer_output l out)
        go (bad m q) e = let w : measures at bytes ≡ measured (bad m q) = h ∙ ap measured e in let z : ◌≡◌ {A = ℕ} 0 1 = cc in absurd (omega arith)
        go (got c end) e =
            let n = due_length c end e in
            (rw (e, n, t), rw (e, n, t))

    pub answers_whole : (o : List ℕ) → (ltb 1048581 bytes || ltb (length out) bytes) ≡ false → o ≡ sets out 0 (image_due l)
        → (accepted bytes ≡ writer_answer l (length out)) × (o ≡ writer_output l out)
    answers_whole o t f = go (contents_from l) refl
      where
        go : (r : Read Contents) → contents_from l ≡ r → (accepted bytes ≡ writer_answer l (length out)) × (o ≡ writer_output l out)
        go (bad m q) e = let w : measures at bytes ≡ measured (bad m q) = h ∙ ap measured e in let z : ◌≡◌ {A = ℕ} 0 1 = cc in absurd (omega arith)
        go (got c end) e =
            let n = due_length c end e in
            (rw (e, n, t), f ∙ rw (e, n, t))
