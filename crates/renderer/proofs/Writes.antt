-- Laws of `Writes`: what the code writes is what the rules render, one text behind another.
-- Assumes nothing.
use mathlib.Core.Path.{◌≡◌, refl, ap, ap₂, sym, ◌∙◌, subst}
use Prim.Native.Nat.{ℕ, ◌+◌, ◌*◌, ◌≤◌, ◌<◌, max}
use native.Mathlib.Omega.{arith}
use native.Mathlib.Nat.{max-zero}
use mathlib.Core.Bool.{Bool, true, false, cond}
use mathlib.Core.List.{List, [], ◌∷◌, ◌++◌}
use lib.ListN.{length, replicate, length-append, length-replicate}
use lib.Dec.{ltb}
use borrow.Author.Tests.{lt-ltb, le-ltb}
use Rattle.renderer.specs.Limits.{BEFORE_ROW, IN_ROW, MAX_MARGIN}
use Rattle.renderer_rules.specs.Renderer.{Renderer, fresh_renderer, with_buf, with_column, on_new_line, push_str, at_column, new_line, margin, comment, text}
use Rattle.renderer_rules.specs.declared.Pen.{Pen}
use Rattle.renderer.specs.declared.writing.Writing.{Writing}
use Rattle.renderer.specs.Output.{written_over}
use Rattle.renderer.specs.Writing.{set_pen, writing, moved_to, writing_after, before_text, Writes, WritingRoom}
use Rattle.renderer.proofs.Written.{over_length, over_join}

-- from a renderer that set no column yet
zero_max : (c : ℕ) → max 0 c ≡ c
zero_max c = omega arith

plus_none : (n : ℕ) → n ≡ n + 0
plus_none n = omega arith

-- the output keeps its length, so that what is written next has the same limit
pub writes_length : (limit : ℕ) (s : Renderer) (out : List ℕ) (p : Writing) (out2 : List ℕ) (q : Writing)
    → Writes limit s out p out2 q
    → length out2 ≡ length out
writes_length limit s out p out2 q d = ap length d.written ∙ over_length limit out p.at.0 s.buf

module _ {s : Renderer} {out : List ℕ} {p : Writing} {out2 : List ℕ} {q : Writing} (d : Writes (length out) s out p out2 q) where
  pub then_over : {t : Renderer} {out3 : List ℕ} {r : Writing} → Writes (length out2) t out2 q out3 r → Writes (length out) t out2 q out3 r
  then_over {t} {out3} {r} e = subst (λ (n : ℕ). Writes n t out2 q out3 r) (writes_length (length out) s out p out2 q d) e

  pub room_over : {cap : ℕ} → WritingRoom cap (length out) out2 q → WritingRoom cap (length out2) out2 q
  room_over r = record { fits = omega arith; indent = r.indent; column = r.column; at = r.at }

-- nothing is written
pub writes_none : (limit : ℕ) (out : List ℕ) (p : Writing) → Writes limit (fresh_renderer p.pen []) out p out p
unfolding writing_after written_over
writes_none limit out p =
    record {
      after = ap₂ (writing p.pen) (plus_none p.at.0) (sym (max-zero p.widest.0));
      written = refl;
    }

-- what is written takes no column
pub push_writes : (limit : ℕ) (t out : List ℕ) (p : Writing) (out2 : List ℕ) (n : ℕ) → n ≡ length t
    → out2 ≡ written_over limit out p.at.0 t
    → Writes limit (push_str t (fresh_renderer p.pen [])) out p out2 (writing p.pen (p.at.0 + n) p.widest.0)
unfolding push_str writing_after
push_writes limit t out p out2 n e w = record { after = rw (e, max-zero p.widest.0); written = w }

pub push_pen : (limit : ℕ) (t out : List ℕ) (p : Writing) (out2 : List ℕ) (q : Writing)
    → Writes limit (push_str t (fresh_renderer p.pen [])) out p out2 q
    → q.pen ≡ p.pen
unfolding push_str writing_after
push_pen limit t out p out2 q d = ap (λ (x : Writing). x.pen) d.after

-- a text, c its last column
pub put_writes : (limit : ℕ) (t : List ℕ) (c : ℕ) (out : List ℕ) (p : Writing) (out2 : List ℕ) (q : Writing) (n : ℕ) → n ≡ length t
    → q ≡ moved_to c (p.at.0 + n) p
    → out2 ≡ written_over limit out p.at.0 t
    → Writes limit (at_column c (push_str t (fresh_renderer p.pen []))) out p out2 q
unfolding at_column push_str writing_after
put_writes limit t c out p out2 q n e m w = record { after = m ∙ rw (e, zero_max c); written = w }

-- a margin of n bytes and c columns
pub margin_writes : (limit : ℕ) (out : List ℕ) (p : Writing) (out2 : List ℕ) (q : Writing) (n c : ℕ) → n ≡ 4 * p.pen.indent
    → c ≡ 4 * p.pen.indent
    → q ≡ moved_to c (p.at.0 + n) p
    → out2 ≡ written_over limit out p.at.0 (replicate n 0x20)
    → Writes limit (margin (fresh_renderer p.pen [])) out p out2 q
unfolding margin at_column push_str writing_after
margin_writes limit out p out2 q n c e f m w =
    record { after = m ∙ rw (e, f, length-replicate {A = ℕ} (4 * p.pen.indent) 0x20, zero_max (4 * p.pen.indent)); written = rw e at w }

-- a line's end, and the pen on the next
pub line_writes : (limit : ℕ) (out : List ℕ) (p : Writing) (pen : Pen) (out2 : List ℕ) (q r : Writing) → pen ≡ on_new_line p.pen
    → 0 < p.pen.column.0
    → Writes limit (push_str (0x0A ∷ []) (fresh_renderer p.pen [])) out p out2 q
    → r ≡ set_pen pen q
    → Writes limit (new_line (fresh_renderer p.pen [])) out p out2 r
unfolding new_line push_str writing_after
line_writes limit out p pen out2 q r e h a m =
    rw (lt-ltb 0 p.pen.column.0 h) (record { after = m ∙ rw (e, a.after); written = a.written })

pub none_writes : (limit : ℕ) (out : List ℕ) (p : Writing) (pen : Pen) (q : Writing) → pen ≡ on_new_line p.pen → q ≡ set_pen pen p
    → p.pen.column.0 ≤ 0
    → Writes limit (new_line (fresh_renderer p.pen [])) out p out q
unfolding new_line writing_after written_over
none_writes limit out p pen q e m h =
    rw (m, e, le-ltb 0 p.pen.column.0 h)
    (record { after = ap₂ (writing (on_new_line p.pen)) (plus_none p.at.0) (sym (max-zero p.widest.0)); written = refl })

-- the same numbers, with a text behind
pub then_put : (limit : ℕ) (s : Renderer) (t : List ℕ) (c : ℕ) (out : List ℕ) (p : Writing) (out2 : List ℕ) (q : Writing)
    (out3 : List ℕ) (r : Writing)
    → Writes limit s out p out2 q
    → Writes limit (at_column c (push_str t (fresh_renderer q.pen []))) out2 q out3 r
    → Writes limit (at_column c (push_str t s)) out p out3 r
unfolding at_column push_str writing_after
then_put limit s t c out p out2 q out3 r a b =
    let l = length-append s.buf t in
    let e = a.after in
    record {
      after = b.after ∙ rw e (ap₂ (writing (with_column c s.pen)) (omega arith) (of_three p.widest.0 s.widest c));
      written = b.written ∙ rw (e, a.written) (over_join limit out p.at.0 s.buf t);
    }
  where
    of_three : (a b c : ℕ) → max (max a b) (max 0 c) ≡ max a (max b c)
    of_three a b c = omega arith

-- after something that grows by k and keeps the margin
pub room_writes : (cap cap2 limit : ℕ) (s : Renderer) (out : List ℕ) (p : Writing) (out2 : List ℕ) (q : Writing)
    → WritingRoom cap limit out p → Writes limit s out p out2 q
    → s.pen.indent + s.pen.next_indent ≤ MAX_MARGIN
    → s.pen.column.0 < cap2
    → p.at.0 + length s.buf < cap2
    → WritingRoom cap2 limit out2 q
unfolding writing_after
room_writes cap cap2 limit s out p out2 q r d a b c =
    let l = over_length limit out p.at.0 s.buf in
    let w = ap length d.written in
    let f = r.fits in
    let e = d.after in
    rw e (record { fits = omega arith; indent = a; column = b; at = c })

pub room_push : (limit : ℕ) (t out : List ℕ) (p : Writing) (out2 : List ℕ) (q : Writing) → WritingRoom BEFORE_ROW limit out p
    → Writes limit (push_str t (fresh_renderer p.pen [])) out p out2 q
    → length t ≤ 1
    → WritingRoom IN_ROW limit out2 q
unfolding push_str
room_push limit t out p out2 q r d h =
    let a = r.column in
    let b = r.at in
    room_writes BEFORE_ROW IN_ROW limit (push_str t (fresh_renderer p.pen [])) out p out2 q r d r.indent (omega arith) (omega arith)

room_margin : (limit : ℕ) (out : List ℕ) (p : Writing) (out2 : List ℕ) (q : Writing) → WritingRoom BEFORE_ROW limit out p
    → Writes limit (margin (fresh_renderer p.pen [])) out p out2 q
    → WritingRoom IN_ROW limit out2 q
unfolding margin at_column push_str
room_margin limit out p out2 q r d =
    let a = r.indent in
    let b = r.at in
    let l = length-replicate {A = ℕ} (4 * p.pen.indent) 0x20 in
    room_writes BEFORE_ROW IN_ROW limit (margin (fresh_renderer p.pen [])) out p out2 q r d a (omega arith) (omega arith)

pub room_before : (limit : ℕ) (b : Bool) (out : List ℕ) (p : Writing) (out2 : List ℕ) (q : Writing) → WritingRoom BEFORE_ROW limit out p
    → Writes limit (before_text b (fresh_renderer p.pen [])) out p out2 q
    → WritingRoom IN_ROW limit out2 q
unfolding before_text
room_before limit b out p out2 q r = go (ltb 0 p.pen.column.0) b
  where
    go : (on b : Bool)
        → Writes limit
        (cond on (cond b (push_str (0x20 ∷ []) (fresh_renderer p.pen [])) (fresh_renderer p.pen [])) (margin (fresh_renderer p.pen []))) out p out2 q
        → WritingRoom IN_ROW limit out2 q
    go true true d = room_push limit (0x20 ∷ []) out p out2 q r d (omega arith)
    go true false d =
        let a = r.column in
        let b = r.at in
        room_writes BEFORE_ROW IN_ROW limit (fresh_renderer p.pen []) out p out2 q r d r.indent (omega arith) (omega arith)
    go false b d = room_margin limit out p out2 q r d

-- the column of a pen that drew s
pub writes_column : (limit : ℕ) (s : Renderer) (out : List ℕ) (p : Writing) (out2 : List ℕ) (q : Writing)
    → Writes limit s out p out2 q → q.pen.column.0 ≡ s.pen.column.0
unfolding writing_after
writes_column limit s out p out2 q d = ap (λ (x : Writing). x.pen.column.0) d.after

-- a text and the end of its line
pub ended : (limit : ℕ) (t out : List ℕ) (p : Writing) (q : Writing) (n : ℕ) (out2 out3 : List ℕ) → n ≡ length t
    → q ≡ moved_to 0 (p.at.0 + n + 1) p
    → out2 ≡ written_over limit out p.at.0 t
    → out3 ≡ written_over limit out2 (p.at.0 + n) (0x0A ∷ [])
    → Writes limit (at_column 0 (push_str (t ++ (0x0A ∷ [])) (fresh_renderer p.pen []))) out p out3 q
ended limit t out p q n out2 out3 e m a b =
    put_writes limit (t ++ (0x0A ∷ [])) 0 out p out3 q (n + 1) (let l = length-append t (0x0A ∷ []) in omega arith)
    (m ∙ ap (λ (x : ℕ). moved_to 0 x p) (along p.at.0 n))
    (b ∙ rw (a, e) (over_join limit out p.at.0 t (0x0A ∷ [])))
  where
    along : (a n : ℕ) → a + n + 1 ≡ a + (n + 1)
    along a n = omega arith

-- `text`, `comment` and `EmptyLine` from what they are made of
pub before_new : (limit : ℕ) (b : Bool) (out : List ℕ) (p : Writing) (out2 : List ℕ) (q : Writing) → p.pen.column.0 ≡ 0
    → Writes limit (margin (fresh_renderer p.pen [])) out p out2 q
    → Writes limit (before_text b (fresh_renderer p.pen [])) out p out2 q
unfolding before_text
before_new limit b out p out2 q h d = rw (le-ltb 0 p.pen.column.0 (omega arith)) d

pub before_blank : (limit : ℕ) (b : Bool) (out : List ℕ) (p : Writing) (out2 : List ℕ) (q : Writing) → (p.pen.column.0 ≡ 0 → ⊥) → b ≡ true
    → Writes limit (push_str (0x20 ∷ []) (fresh_renderer p.pen [])) out p out2 q
    → Writes limit (before_text b (fresh_renderer p.pen [])) out p out2 q
unfolding before_text
before_blank limit b out p out2 q h e d = rw (lt-ltb 0 p.pen.column.0 (omega arith), e) d

pub before_none : (limit : ℕ) (b : Bool) (out : List ℕ) (p : Writing) → (p.pen.column.0 ≡ 0 → ⊥) → b ≡ false
    → Writes limit (before_text b (fresh_renderer p.pen [])) out p out p
unfolding before_text
before_none limit b out p h e = rw (lt-ltb 0 p.pen.column.0 (omega arith), e) (writes_none limit out p)

pub text_writes : (limit : ℕ) (b : Bool) (t : List ℕ) (w : ℕ) (out : List ℕ) (p : Writing) (out2 : List ℕ) (q : Writing)
    (out3 : List ℕ) (r : Writing)
    → b ≡ false
    → Writes limit (before_text b (fresh_renderer p.pen [])) out p out2 q
    → Writes limit (at_column (q.pen.column.0 + w) (push_str t (fresh_renderer q.pen []))) out2 q out3 r
    → Writes limit (text t w (fresh_renderer p.pen [])) out p out3 r
unfolding text before_text
text_writes limit b t w out p out2 q out3 r e a d =
    let s = rw e at a in
    subst (λ (c : ℕ). Writes limit (at_column (c + w) (push_str t (before_text false (fresh_renderer p.pen [])))) out p out3 r)
    (writes_column limit (before_text false (fresh_renderer p.pen [])) out p out2 q s)
    (then_put limit (before_text false (fresh_renderer p.pen [])) t (q.pen.column.0 + w) out p out2 q out3 r s d)

pub comment_writes : (limit : ℕ) (b : Bool) (t out : List ℕ) (p : Writing) (out2 : List ℕ) (q : Writing) (out3 : List ℕ) (r : Writing) → b ≡ true
    → Writes limit (before_text b (fresh_renderer p.pen [])) out p out2 q
    → Writes limit (at_column 0 (push_str (t ++ (0x0A ∷ [])) (fresh_renderer q.pen []))) out2 q out3 r
    → Writes limit (comment t (fresh_renderer p.pen [])) out p out3 r
unfolding comment before_text
comment_writes limit b t out p out2 q out3 r e a d =
    then_put limit (before_text true (fresh_renderer p.pen [])) (t ++ (0x0A ∷ [])) 0 out p out2 q out3 r (rw e at a) d

pub empty_writes : (limit : ℕ) (out : List ℕ) (p : Writing) (out2 : List ℕ) (q : Writing) (out3 : List ℕ) (r : Writing)
    → Writes limit (push_str (0x0A ∷ []) (fresh_renderer p.pen [])) out p out2 q
    → Writes limit (new_line (fresh_renderer q.pen [])) out2 q out3 r
    → Writes limit (new_line (push_str (0x0A ∷ []) (fresh_renderer p.pen []))) out p out3 r
unfolding new_line push_str writing_after
empty_writes limit out p out2 q out3 r a b = go (ltb 0 p.pen.column.0) (rw a.after at b.after) (rw (a.after, a.written) at b.written)
  where
    line_end : Bool → List ℕ
    line_end b = cond b (0x0A ∷ []) []

    ended : (b : Bool) → Renderer
    ended b = with_buf ((0x0A ∷ []) ++ line_end b) (fresh_renderer (on_new_line p.pen) [])

    go : (b : Bool) → r ≡ writing (on_new_line p.pen) (p.at.0 + 1 + length ([] ++ line_end b)) (max (max p.widest.0 0) 0)
        → out3 ≡ written_over limit (written_over limit out p.at.0 (0x0A ∷ [])) (p.at.0 + 1) ([] ++ line_end b)
        → Writes limit (ended b) out p out3 r
    go true e w =
        record {
          after = e ∙ ap₂ (writing (on_new_line p.pen)) (more p.at.0) (max-zero (max p.widest.0 0));
          written = w ∙ over_join limit out p.at.0 (0x0A ∷ []) (0x0A ∷ []);
        }
      where
        more : (a : ℕ) → a + 1 + 1 ≡ a + 2
        more a = omega arith
    go false e w =
        record {
          after = e ∙ ap₂ (writing (on_new_line p.pen)) (sym (plus_none (p.at.0 + 1))) (max-zero (max p.widest.0 0));
          written = w ∙ over_join limit out p.at.0 (0x0A ∷ []) [];
        }
