-- What a run leaves, taken apart, and one run after the other.
-- Assumes nothing.
use mathlib.Core.Path.{◌≡◌, refl, sym, ap, ap₂, ◌∙◌}
use mathlib.Core.Bool.{Bool, true, false, cond}
use Rattle.std.specs.Prelude.{Option, None, Some, Result, Ok, Err, IsErrAnd}
use mathlib.Core.List.{List, [], ◌∷◌, ◌++◌}
use Prim.Native.Nat.{ℕ, zero, suc, ◌+◌, ◌-◌, ◌%◌, ◌≤◌, ◌<◌}
use native.Mathlib.Omega.{arith}
use native.Mathlib.Nat.{mod-eq_of_lt}
use native.Mathlib.Numerals.{sub-one}
use lib.Dec.{ltb}
use lib.ListN.{length, get_or, set, length-append}
use lib.Seq.{sets}
use borrow.Author.Tests.{ltb-true, ltb-false, le-leb, lt-leb, ne_eqb}
use Rattle.refusals.specs.Reasons.{number_of}
use Rattle.refusals.specs.declared.Refused.{Refused}
use Rattle.text.specs.Utf8.{well_formed}
use Rattle.image.specs.Bytes.{be16, be32, part}
use Rattle.image.specs.Kinds.{TEXT}
use Rattle.image.specs.Grammar.{is_optional, bare, place, after, complete, row_under_of, has_byte}
use Rattle.image.specs.Read.{Read, got, bad, bind}
use Rattle.image.specs.Write.{Plain, Plains, without, plainly, done, ◌next◌, bytes4, written, writtens, Bytes, bytes2}
use Rattle.image.proofs.Exact.{part_length}
use Rattle.steps.specs.Writer.{step_from, text_by, byte_by, Opened, opened_from, payload_from, children_from, record_from}
use Rattle.tree.proofs.Took.{took_byte, took_two, took_four, took_join, took_is}
use Rattle.writer.specs.Steps.{stands, child_from}
use Rattle.writer.specs.Put.{held, long, closed, fault, up_to, put_by, child_by, put_of}
use Rattle.writer.specs.declared.output.Output.{Output}
use Rattle.writer.proofs.Seen.{stood, text_step_lem, payload_step_lem, opened_at, child_close, child_absent, child_there, children_turn}
use Rattle.writer.proofs.Stores.{sets_before, sets_behind}

-- ---- where a run ends
pub record Same (a q : ℕ) (o : List ℕ) (b r : ℕ) (u : List ℕ) : Type 0 where
  pub at : a ≡ b
  pub place : q ≡ r
  pub output : q < 4294967296 → o ≡ u

up_to_lem : (a q b r : ℕ) (o u : List ℕ) → up_to a q o ≡ up_to b r u → Same a q o b r u
up_to_lem a q b r o u e = go (ltb q 4294967296) (ltb r 4294967296) refl e
  where
    go : (s t : Bool) → ltb q 4294967296 ≡ s → cond s (held a q o) (long a q) ≡ cond t (held b r u) (long b r) → Same a q o b r u
    go true true f e = record { at = (cc); place = (cc); output = λ h. (cc) }
    go true false f e = let z : ◌≡◌ {A = ℕ} 0 1 = cc in absurd (omega arith)
    go false true f e = let z : ◌≡◌ {A = ℕ} 0 1 = cc in absurd (omega arith)
    go false false f e = record { at = (cc); place = (cc); output = λ h. absurd (omega (arith, ltb-false q 4294967296 f)) }

pub is_same : {a q b r : ℕ} {o u : List ℕ} → Same a q o b r u → up_to a q o ≡ up_to b r u
is_same {a} {q} {b} {r} {o} {u} s =
    ap₂ (λ (x y : ℕ). up_to x y o) s.at s.place ∙ go (ltb r 4294967296) refl
  where
    go : (t : Bool) → ltb r 4294967296 ≡ t → cond t (held b r o) (long b r) ≡ cond t (held b r u) (long b r)
    go true f = ap (held b r) (s.output (omega (arith, ltb-true r 4294967296 f, s.place)))
    go false f = refl

no_fault : (a q n p : ℕ) (o : List ℕ) → up_to a q o ≡ fault n p → ⊥
no_fault a q n p o e = go (ltb q 4294967296) e
  where
    go : (t : Bool) → cond t (held a q o) (long a q) ≡ fault n p → ⊥
    go true e = let z : ◌≡◌ {A = ℕ} 0 1 = cc in omega arith
    go false e = let z : ◌≡◌ {A = ℕ} 0 1 = cc in omega arith

no_close : (a q b : ℕ) (o u : List ℕ) → up_to a q o ≡ closed b u → ⊥
no_close a q b o u e = go (ltb q 4294967296) e
  where
    go : (t : Bool) → cond t (held a q o) (long a q) ≡ closed b u → ⊥
    go true e = let z : ◌≡◌ {A = ℕ} 0 1 = cc in omega arith
    go false e = let z : ◌≡◌ {A = ℕ} 0 1 = cc in omega arith

-- ---- what was put
-- the reading r was put at `pos` of `out`, which left the output o: it goes on at e, and q is the place behind it
pub record Held {A : Type 0} (f : A → List ℕ) (pos : ℕ) (out : List ℕ) (r : Read A) (e q : ℕ) (o : List ℕ) : Type 0 where
  pub what : A
  pub reads : r ≡ got what e
  pub place : q ≡ pos + length (f what)
  pub output : q < 4294967296 → o ≡ sets out pos (f what)

pub was_held : {A : Type 0} (f : A → List ℕ) (pos : ℕ) (out : List ℕ) (r : Read A) (e q : ℕ) (o : List ℕ) → up_to e q o ≡ put_by f pos out r
    → Held f pos out r e q o
was_held f pos out (got a end) e q o h =
    let s = up_to_lem e q end (pos + length (f a)) o (sets out pos (f a)) h in
    record { what = a; reads = ap (got a) (sym s.at); place = s.place; output = s.output }
was_held f pos out (bad n p) e q o h = absurd (no_fault e q n p o h)

pub is_held : {A : Type 0} (f : A → List ℕ) (pos : ℕ) (out : List ℕ) (r : Read A) (e q : ℕ) (o : List ℕ) → Held f pos out r e q o
    → up_to e q o ≡ put_by f pos out r
is_held f pos out r e q o h =
    is_same (record { at = refl; place = h.place; output = h.output }) ∙ ap (put_by f pos out) (sym h.reads)

pub was_fault : {A : Type 0} (f : A → List ℕ) (pos : ℕ) (out : List ℕ) (r : Read A) (n p : ℕ) → fault n p ≡ put_by f pos out r → r ≡ bad n p
was_fault f pos out (got a end) n p h = absurd (no_fault end (pos + length (f a)) n p (sets out pos (f a)) (sym h))
was_fault f pos out (bad m q) n p h = cc

-- ---- what a run says of what it read, by its answer
pub read_next : {A : Type 0} (f : A → List ℕ) (pos : ℕ) (out : List ℕ) (rd : Read A) (r : Result ℕ Refused) (o : Output) (x : ℕ)
    → put_of r o ≡ put_by f pos out rd → r ≡ Ok x → Held f pos out rd x o.pos o.bytes.now
read_next f pos out rd r o x h k = was_held f pos out rd x o.pos o.bytes.now (ap (λ (y : Result ℕ Refused). put_of y o) (sym k) ∙ h)

pub read_fault : {A : Type 0} (f : A → List ℕ) (pos : ℕ) (out : List ℕ) (rd : Read A) (r : Result ℕ Refused) (o : Output) (x : Refused)
    → put_of r o ≡ put_by f pos out rd → r ≡ Err x → rd ≡ bad (number_of x.reason) x.place
read_fault f pos out rd r o x h k =
    was_fault f pos out rd (number_of x.reason) x.place (ap (λ (y : Result ℕ Refused). put_of y o) (sym k) ∙ h)

-- and what one says that a `?` ends
pub passed_put : (r : Result ℕ Refused) (e : Refused) (o : Output) → IsErrAnd r (λ x. x ≡ e) → put_of r o ≡ fault (number_of e.reason) e.place
passed_put (Ok x) e o h = absurd h
passed_put (Err x) e o h = rw h

-- ---- a child
pub was_child : (pos : ℕ) (out : List ℕ) (r : Read (Option Plain)) (e q : ℕ) (o : List ℕ) → up_to e q o ≡ child_by pos out r
    → (x : Plain) × (r ≡ got (Some x) e) × Held written pos out (got x e) e q o
was_child pos out (got None end) e q o h = absurd (no_close e q end o out h)
was_child pos out (got (Some x) end) e q o h =
    let s = up_to_lem e q end (pos + length (written x)) o (sets out pos (written x)) h in
    (x, ap (got (Some x)) (sym s.at), record { what = x; reads = refl; place = s.place; output = s.output })
was_child pos out (bad n p) e q o h = absurd (no_fault e q n p o h)

pub was_closed : (pos : ℕ) (out : List ℕ) (r : Read (Option Plain)) (e : ℕ) (o : List ℕ) → closed e o ≡ child_by pos out r
    → (r ≡ got None e) × (o ≡ out)
was_closed pos out (got None end) e o h = (cc, cc)
was_closed pos out (got (Some x) end) e o h = absurd (no_close end (pos + length (written x)) e (sets out pos (written x)) o (sym h))
was_closed pos out (bad n p) e o h = let z : ◌≡◌ {A = ℕ} 0 1 = cc in absurd (omega arith)

pub was_wrong : (pos : ℕ) (out : List ℕ) (r : Read (Option Plain)) (n p : ℕ) → fault n p ≡ child_by pos out r → r ≡ bad n p
was_wrong pos out (got None end) n p h = let z : ◌≡◌ {A = ℕ} 0 1 = cc in absurd (omega arith)
was_wrong pos out (got (Some x) end) n p h = absurd (no_fault end (pos + length (written x)) n p (sets out pos (written x)) (sym h))
was_wrong pos out (bad m q) n p h = cc

-- a record is a child
pub child_record : (pos : ℕ) (out : List ℕ) (r : Read Plain) → child_by pos out (bind r (λ y behind. got (Some y) behind)) ≡ put_by written pos out r
child_record pos out (got x e) = refl
child_record pos out (bad n p) = refl

-- ---- children, one turn after the other
module _ (one : ℕ → ℕ → Read Plain) (l : List ℕ) (n row at pos : ℕ) (out : List ℕ) where
  pub turn_closed : (e : ℕ) (o : List ℕ) → closed e o ≡ child_by pos out (child_from one l row at)
      → up_to e pos o ≡ put_by writtens pos out (children_from one l (suc n) row at)
  unfolding writtens
  turn_closed e o h =
      let w = was_closed pos out (child_from one l row at) e o h in
      is_held writtens pos out (children_from one l (suc n) row at) e pos o
      (record {
        what = done;
        reads = rw (children_turn one l n row at, w.0);
        place = omega arith;
        output = λ small. w.1;
      })

  pub turn_wrong : (m q : ℕ) → fault m q ≡ child_by pos out (child_from one l row at)
      → fault m q ≡ put_by writtens pos out (children_from one l (suc n) row at)
  turn_wrong m q h = rw (children_turn one l n row at, was_wrong pos out (child_from one l row at) m q h)

  pub turn_next : (e q : ℕ) (o : List ℕ) → up_to e q o ≡ child_by pos out (child_from one l row at)
      → put_by writtens pos out (children_from one l (suc n) row at) ≡ put_by writtens q o (children_from one l n (after row) e)
  unfolding writtens
  turn_next e q o h =
      let w = was_child pos out (child_from one l row at) e q o h in
      let x = w.0 in
      rw (children_turn one l n row at, w.1) (go x w.2 (children_from one l n (after row) e))
    where
      go : (x : Plain) → Held written pos out (got x e) e q o → (r : Read Plains)
          → put_by writtens pos out (bind r (λ ys end. got (x next ys) end)) ≡ put_by writtens q o r
      go x k (bad m p) = refl
      go x k (got ys end) =
          let same : x ≡ k.what = cc k.reads in
          let len = length-append (written x) (writtens ys) in
          let lx : length (written x) ≡ length (written k.what) = ap (λ (y : Plain). length (written y)) same in
          is_same {r = q + length (writtens ys)}
          (record {
            at = refl;
            place = omega (arith, k.place);
            output = λ (small : pos + length (written x ++ writtens ys) < 4294967296).
                sym
                (ap (λ (u : List ℕ). sets u q (writtens ys)) (k.output (omega (arith, k.place)) ∙ ap (λ (y : Plain). sets out pos (written y)) (sym same))
                ∙ sets_behind (written x) (writtens ys) out pos q (omega (arith, k.place)));
          })

-- ---- a payload
module _ (l : List ℕ) (at pos : ℕ) (out : List ℕ) (small : Bytes l) where
  pub text_held : (n : ℕ) (o₁ o₂ : List ℕ) → n ≡ be32 l (at + 3) → stands l at 3 (7 + be32 l (at + 3)) ≡ true
      → well_formed (part (at + 7) (at + 7 + n) l) ≡ true → o₁ ≡ sets out pos (part (at + 1) (at + 3) l)
      → o₂ ≡ sets o₁ (pos + 2) (part (at + 7) (at + 7 + n) l)
      → Held (λ (x : List ℕ). x) pos out (bind (step_from l at) (text_by at)) (at + 7 + n) (pos + 2 + n) o₂
  text_held n o₁ o₂ e s w e₁ e₂ =
      let k = be32 l (at + 3) in
      let t = part (at + 7) (at + 7 + k) l in
      let fits = (stood l at 3 (7 + k) s).0 in
      let long : length t ≡ k = part_length l (at + 7) (at + 7 + k) (omega arith) (omega arith) ∙ omega arith in
      let past : at + (7 + k) ≡ at + 7 + n = omega arith in
      record {
        what = bytes2 (be16 l (at + 1)) ++ t;
        reads = rw (text_step_lem l at s, sym (ap (λ (j : ℕ). well_formed (part (at + 7) (at + 7 + j) l)) e) ∙ w, past);
        place = omega (arith, long);
        output = λ low.
            e₂
            ∙ ap₂ (λ (u v : List ℕ). sets u (pos + 2) v)
            (e₁ ∙ ap (sets out pos) (took_is (took_two l (at + 1) (at + 3) (omega arith) (omega arith)) small))
            (ap (λ (j : ℕ). part (at + 7) (at + 7 + j) l) e)
            ∙ sets_behind (bytes2 (be16 l (at + 1))) t out pos (pos + 2) refl;
      }

module _ (l : List ℕ) (at top pos : ℕ) (out : List ℕ) where
  pub byte_held : (x : ℕ) (o : List ℕ) → x ≡ get_or l (at + 1) 0 → stands l at 4 2 ≡ true → x ≤ top → o ≡ set out pos (get_or l (at + 1) 0)
      → Held (λ (x : List ℕ). x) pos out (bind (step_from l at) (byte_by at top)) (at + 2) (pos + 1) o
  byte_held x o e s h f =
      record {
        what = get_or l (at + 1) 0 ∷ [];
        reads = rw (payload_step_lem l at s, le-leb (get_or l (at + 1) 0) top (omega arith));
        place = refl;
        output = λ low. f;
      }

pub text_ill : (l : List ℕ) (at n : ℕ) → n ≡ be32 l (at + 3) → stands l at 3 (7 + be32 l (at + 3)) ≡ true
    → well_formed (part (at + 7) (at + 7 + n) l) ≡ false → bind (step_from l at) (text_by at) ≡ bad 16 at
text_ill l at n e s w = rw (text_step_lem l at s, sym (ap (λ (j : ℕ). well_formed (part (at + 7) (at + 7 + j) l)) e) ∙ w)

pub byte_high : (l : List ℕ) (at top x : ℕ) → x ≡ get_or l (at + 1) 0 → stands l at 4 2 ≡ true → top < x
    → bind (step_from l at) (byte_by at top) ≡ bad 16 at
byte_high l at top x e s h = rw (payload_step_lem l at s, lt-leb (get_or l (at + 1) 0) top (omega arith))

-- the kinds without a payload
module _ (l : List ℕ) (p kind at : ℕ) where
  pub payload_none : ¬ (kind ≡ TEXT) → has_byte kind ≡ false → payload_from l p kind at ≡ got [] at
  unfolding payload_from
  payload_none n e = rw (ne_eqb kind TEXT n, e)

-- ---- a record
-- what stands between its length and its payload is what stands in the list
head_part : (l : List ℕ) (at : ℕ) → Bytes l → at + 10 ≤ length l
    → part (at + 1) (at + 10) l ≡ (get_or l (at + 1) 0 ∷ []) ++ bytes4 (be32 l (at + 2)) ++ bytes4 (be32 l (at + 6))
head_part l at small h =
    let far : at + 1 + 1 ≡ at + 2 = omega arith in
    let k = rw far at (took_byte l (at + 1) (omega arith)) in
    took_is (took_join (took_join k (took_four l (at + 2) (at + 6) (omega arith) (omega arith))) (took_four l (at + 6) (at + 10) (omega arith) h)) small

-- a record that is opened, with `left` levels left
module _ (l : List ℕ) (left p at kind : ℕ) (more : ¬ (left ≡ 0)) (is : kind ≡ get_or l (at + 1) 0)
    (opens : opened_from l p at ≡ got (opened_at l at) (at + 10)) where
  abbrev opened_as : Opened
  opened_as = record { kind = kind; from = be32 l (at + 2); to = be32 l (at + 6) }

  same_kind : opened_from l p at ≡ got opened_as (at + 10)
  same_kind = opens ∙ ap (λ (k : ℕ). got (record { kind = k; from = be32 l (at + 2); to = be32 l (at + 6) }) (at + 10)) (sym is)

  pub record_payload : (n q : ℕ) → payload_from l p kind (at + 10) ≡ bad n q → record_from l left p at ≡ bad n q
  unfolding record_from
  record_payload n q e = go left more
    where
      go : (d : ℕ) → ¬ (d ≡ 0) → record_from l d p at ≡ bad n q
      go zero z = absurd (z refl)
      go (suc d) z = rw (same_kind, e)

  pub record_children : (x : List ℕ) (first row n q : ℕ) → payload_from l p kind (at + 10) ≡ got x first → row ≡ row_under_of p kind
      → children_from (record_from l (left - 1)) l (suc (length l)) row first ≡ bad n q → record_from l left p at ≡ bad n q
  unfolding record_from
  record_children x first row n q e r f = go left more f
    where
      go : (d : ℕ) → ¬ (d ≡ 0) → children_from (record_from l (d - 1)) l (suc (length l)) row first ≡ bad n q → record_from l d p at ≡ bad n q
      go zero z f = absurd (z refl)
      go (suc d) z f = rw (same_kind, e, ← r, rw sub-one at f)

  record_reads : (x : List ℕ) (ys : Plains) (first row end : ℕ) → payload_from l p kind (at + 10) ≡ got x first → row ≡ row_under_of p kind
      → children_from (record_from l (left - 1)) l (suc (length l)) row first ≡ got ys end
      → record_from l left p at ≡ got (plainly kind (be32 l (at + 2)) (be32 l (at + 6)) x ys) end
  unfolding record_from
  record_reads x ys first row end e r f = go left more f
    where
      go : (d : ℕ) → ¬ (d ≡ 0) → children_from (record_from l (d - 1)) l (suc (length l)) row first ≡ got ys end
          → record_from l d p at ≡ got (plainly kind (be32 l (at + 2)) (be32 l (at + 6)) x ys) end
      go zero z f = absurd (z refl)
      go (suc d) z f = rw (same_kind, e, ← r, rw sub-one at f)

  module _ (pos : ℕ) (out : List ℕ) (small : Bytes l) (fits : at + 10 ≤ length l) where
    pub record_held : (first row inner end stop : ℕ) (o₀ o₁ o₂ o₃ : List ℕ)
        → o₀ ≡ sets out (pos + 4) (part (at + 1) (at + 10) l)
        → Held (λ (x : List ℕ). x) (pos + 13) o₀ (payload_from l p kind (at + 10)) first inner o₁
        → row ≡ row_under_of p kind
        → Held writtens inner o₁ (children_from (record_from l (left - 1)) l (suc (length l)) row first) end stop o₂
        → o₃ ≡ sets o₂ pos (bytes4 ((stop - pos - 4) % 4294967296))
        → Held written pos out (record_from l left p at) end stop o₃
    unfolding written
    record_held first row inner end stop o₀ o₁ o₂ o₃ e₀ h₁ r h₂ e =
        let x = h₁.what in
        let ys = h₂.what in
        let h9 = (kind ∷ []) ++ bytes4 (be32 l (at + 2)) ++ bytes4 (be32 l (at + 6)) in
        let content = h9 ++ x ++ writtens ys in
        let long₁ = length-append x (writtens ys) in
        let size : length content ≡ 9 + length x + length (writtens ys) = omega arith in
        let head : part (at + 1) (at + 10) l ≡ h9 =
        head_part l at small fits ∙ ap (λ (k : ℕ). (k ∷ []) ++ bytes4 (be32 l (at + 2)) ++ bytes4 (be32 l (at + 6))) (sym is) in
        record {
          what = plainly kind (be32 l (at + 2)) (be32 l (at + 6)) x ys;
          reads = record_reads x ys first row end h₁.reads r h₂.reads;
          place = omega (arith, h₁.place, h₂.place);
          output = λ (low : stop < 4294967296).
              let n : (stop - pos - 4) % 4294967296 ≡ length content = mod-eq_of_lt (omega arith) ∙ omega (arith, h₁.place, h₂.place) in
              let out₁ : o₁ ≡ sets out (pos + 4) (h9 ++ x) =
              h₁.output (omega (arith, h₂.place))
              ∙ ap (λ (u : List ℕ). sets u (pos + 13) x) (e₀ ∙ ap (sets out (pos + 4)) head)
              ∙ sets_behind h9 x out (pos + 4) (pos + 13) (omega arith) in
              let out₂ : o₂ ≡ sets out (pos + 4) content =
              h₂.output low
              ∙ ap (λ (u : List ℕ). sets u inner (writtens ys)) out₁
              ∙ sets_behind (h9 ++ x) (writtens ys) out (pos + 4) inner (omega (arith, h₁.place)) in
              e
              ∙ ap₂ (λ (u : List ℕ) (k : ℕ). sets u pos (bytes4 k)) out₂ n
              ∙ sets_before (bytes4 (length content)) content out pos (pos + 4) refl;
        }

-- no levels are left, or no record is opened
pub record_deep : (l : List ℕ) (left p at : ℕ) → left ≡ 0 → record_from l left p at ≡ bad 16 at
unfolding record_from
record_deep l zero p at e = refl
record_deep l (suc d) p at e = absurd (omega arith)

pub record_not : (l : List ℕ) (left p at : ℕ) → opened_from l p at ≡ bad 16 at → record_from l left p at ≡ bad 16 at
unfolding record_from
record_not l zero p at e = refl
record_not l (suc d) p at e = rw e

-- an absent child
pub absent_held : (one : ℕ → ℕ → Read Plain) (l : List ℕ) (row at pos : ℕ) (out o : List ℕ) → stands l at 5 1 ≡ true
    → is_optional (place row) ≡ true
    → o ≡ sets out pos (bytes4 0) → up_to (at + 1) (pos + 4) o ≡ child_by pos out (child_from one l row at)
unfolding written
absent_held one l row at pos out o s e f =
    let c : child_from one l row at ≡ got (Some without) (at + 1) =
    child_absent one l row at s ∙ ap (λ (t : Bool). cond t (got (Some without) (at + 1)) (bad 16 at)) e in
    rw c (ap (up_to (at + 1) (pos + 4)) f)

pub close_held : (one : ℕ → ℕ → Read Plain) (l : List ℕ) (row at pos : ℕ) (out : List ℕ) → stands l at 6 1 ≡ true → complete row ≡ true
    → closed (at + 1) out ≡ child_by pos out (child_from one l row at)
close_held one l row at pos out s e =
    let c : child_from one l row at ≡ got None (at + 1) =
    child_close one l row at s ∙ ap (λ (t : Bool). cond t (got None (at + 1)) (bad 16 at)) e in
    rw c

pub open_held : (one : ℕ → ℕ → Read Plain) (l : List ℕ) (row at pos : ℕ) (out : List ℕ) → stands l at 2 10 ≡ true → ¬ (row ≡ 0)
    → child_by pos out (child_from one l row at) ≡ put_by written pos out (one (bare (place row)) at)
open_held one l row at pos out s z =
    ap (child_by pos out) (child_there one l row at s z) ∙ child_record pos out (one (bare (place row)) at)

pub none_held : (l : List ℕ) (p kind at pos : ℕ) (out : List ℕ) → ¬ (kind ≡ TEXT) → has_byte kind ≡ false
    → up_to at pos out ≡ put_by (λ (x : List ℕ). x) pos out (payload_from l p kind at)
none_held l p kind at pos out n e =
    is_held (λ (x : List ℕ). x) pos out (payload_from l p kind at) at pos out
    (record { what = []; reads = payload_none l p kind at n e; place = omega arith; output = λ low. refl })
