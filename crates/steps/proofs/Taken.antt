-- What the writer takes fits, and the bytes that it takes are those of the steps.
-- Assumes nothing.
use mathlib.Core.Path.{◌≡◌, refl, sym, ap, ◌∙◌}
use mathlib.Core.Bool.{Bool, true, false, cond}
use mathlib.Core.List.{List, [], ◌∷◌, ◌++◌, append_assoc}
use Prim.Native.Nat.{ℕ, zero, suc, ◌+◌, ◌≤◌}
use native.Mathlib.Omega.{arith}
use lib.ListN.{length, get_or}
use lib.Dec.{leb, eqb}
use borrow.Author.Tests.{leb-true, eqb-true}
use Rattle.text.specs.Utf8.{well_formed}
use Rattle.image.specs.Bytes.{be16, be32, part}
use Rattle.image.specs.Kinds.{TEXT}
use Rattle.image.specs.Grammar.{has_byte, top_byte, bare, place, after}
use Rattle.image.specs.Read.{Read, got, bad, bind}
use Rattle.image.specs.Write.{Plain, Plains, bytes4, bytes2}
use Rattle.image.proofs.Exact.{part_length}
use Rattle.steps.specs.Steps.{Step, comment_step, open_step, text_step, payload_step, absent_step, close_step, step_bytes, list_bytes}
use Rattle.steps.specs.Steps.{payload_steps, tree_steps, child_steps, COMMENT_STEP, OPEN_STEP, TEXT_STEP, PAYLOAD_STEP, ABSENT_STEP, CLOSE_STEP}
use Rattle.steps.specs.Writer.{whole, step_from, text_by, byte_by, payload_from, children_from, record_from}
use Rattle.tree.proofs.Took.{Took, took_none, took_join, took_part, took_byte, took_four, took_two}
use Rattle.steps.proofs.Payloads.{text_steps, byte_steps, no_steps}
use Rattle.tree.proofs.Fits.{two, Pays, text, byte, nothing, Fits, fits, FitsRow, ends, gone, here}
use Rattle.steps.proofs.Views.{Turn, closed, absent, opened, turned, opens}
use Rattle.image.proofs.Got.{never, bind_got, passed}

-- ---- a step
-- a step that is whole
whole_took : (l : List ℕ) (at n : ℕ) (y x : Step) (past : ℕ) → whole l at n y ≡ got x past → (at + n ≤ length l → Took l at (at + n) (step_bytes y))
    → Took l at past (step_bytes x)
whole_took l at n y x past h f =
    let c = passed (leb (at + n) (length l)) _ 16 at x past h in
    let is : y ≡ x = cc c.1 in
    let same : at + n ≡ past = cc c.1 in
    rw (← is, ← same) (f (leb-true (at + n) (length l) c.0))

module _ (l : List ℕ) (at : ℕ) where
  -- the byte that says which step it is
  says : (k : ℕ) → eqb (get_or l at 0) k ≡ true → at + 1 ≤ length l → Took l at (at + 1) (k ∷ [])
  says k e h = rw (eqb-true (get_or l at 0) k e) at (took_byte l at h)

  pair : (from end : ℕ) → end ≡ from + 8 → end ≤ length l → Took l from end (bytes4 (be32 l from) ++ bytes4 (be32 l (from + 4)))
  pair from end e h =
      took_join (took_four l from (from + 4) refl (omega arith)) (took_four l (from + 4) end (omega arith) h)

  -- bytes of each kind of step
  comment_took : eqb (get_or l at 0) COMMENT_STEP ≡ true → at + 9 ≤ length l
      → Took l at (at + 9) (step_bytes (comment_step (be32 l (at + 1)) (be32 l (at + 5))))
  comment_took k h =
      let e : at + 1 + 4 ≡ at + 5 = omega arith in
      took_join (says COMMENT_STEP k (omega arith)) (rw e at (pair (at + 1) (at + 9) (omega arith) h))

  open_took : eqb (get_or l at 0) OPEN_STEP ≡ true → at + 10 ≤ length l
      → Took l at (at + 10) (step_bytes (open_step (get_or l (at + 1) 0) (be32 l (at + 2)) (be32 l (at + 6))))
  open_took k h =
      let e : at + 2 + 4 ≡ at + 6 = omega arith in
      let two : at + 1 + 1 ≡ at + 2 = omega arith in
      took_join (says OPEN_STEP k (omega arith))
      (took_join (rw two at (took_byte l (at + 1) (omega arith))) (rw e at (pair (at + 2) (at + 10) (omega arith) h)))

  text_took : (n : ℕ) → n ≡ be32 l (at + 3) → eqb (get_or l at 0) TEXT_STEP ≡ true → at + (7 + n) ≤ length l
      → Took l at (at + (7 + n)) (step_bytes (text_step (be16 l (at + 1)) (part (at + 7) (at + 7 + n) l)))
  text_took n e k h =
      let size : length (part (at + 7) (at + 7 + n) l) ≡ n = part_length l (at + 7) (at + 7 + n) (omega arith) (omega arith) ∙ omega arith in
      let far : at + 7 + n ≡ at + (7 + n) = omega arith in
      let long : Took l (at + 3) (at + 7) (bytes4 (length (part (at + 7) (at + 7 + n) l))) =
      rw (size, e) (took_four l (at + 3) (at + 7) (omega arith) (omega arith))
      in
      let rest : Took l (at + 7) (at + (7 + n)) (part (at + 7) (at + 7 + n) l) =
      rw (← far) (took_part l (at + 7) (at + 7 + n) (omega arith) (omega arith))
      in
      took_join (says TEXT_STEP k (omega arith))
      (took_join (took_two l (at + 1) (at + 3) (omega arith) (omega arith)) (took_join long rest))

  payload_took : eqb (get_or l at 0) PAYLOAD_STEP ≡ true → at + 2 ≤ length l → Took l at (at + 2) (step_bytes (payload_step (get_or l (at + 1) 0)))
  payload_took k h =
      let two : at + 1 + 1 ≡ at + 2 = omega arith in
      took_join (says PAYLOAD_STEP k (omega arith)) (rw two at (took_byte l (at + 1) (omega arith)))

pub step_took : (l : List ℕ) (at : ℕ) (x : Step) (past : ℕ) → step_from l at ≡ got x past → Took l at past (step_bytes x)
unfolding step_from
step_took l at x past h =
    go (is COMMENT_STEP) refl (is OPEN_STEP) refl (is TEXT_STEP) refl (is PAYLOAD_STEP) refl (is ABSENT_STEP) refl (is CLOSE_STEP) refl h
  where
    is : ℕ → Bool
    is k = eqb (get_or l at 0) k

    go : (t₁ : Bool) → is COMMENT_STEP ≡ t₁ → (t₂ : Bool) → is OPEN_STEP ≡ t₂ → (t₃ : Bool) → is TEXT_STEP ≡ t₃
        → (t₄ : Bool) → is PAYLOAD_STEP ≡ t₄ → (t₅ : Bool) → is ABSENT_STEP ≡ t₅ → (t₆ : Bool) → is CLOSE_STEP ≡ t₆
        → cond t₁ (whole l at 9 (comment_step (be32 l (at + 1)) (be32 l (at + 5))))
        (cond t₂ (whole l at 10 (open_step (get_or l (at + 1) 0) (be32 l (at + 2)) (be32 l (at + 6))))
        (cond t₃ (whole l at (7 + be32 l (at + 3)) (text_step (be16 l (at + 1)) (part (at + 7) (at + 7 + be32 l (at + 3)) l)))
        (cond t₄ (whole l at 2 (payload_step (get_or l (at + 1) 0)))
        (cond t₅ (whole l at 1 absent_step)
        (cond t₆ (whole l at 1 close_step)
        (bad 16 at))))))
        ≡ got x past → Took l at past (step_bytes x)
    go true e₁ t₂ e₂ t₃ e₃ t₄ e₄ t₅ e₅ t₆ e₆ h = whole_took l at 9 _ x past h (comment_took l at e₁)
    go false e₁ true e₂ t₃ e₃ t₄ e₄ t₅ e₅ t₆ e₆ h = whole_took l at 10 _ x past h (open_took l at e₂)
    go false e₁ false e₂ true e₃ t₄ e₄ t₅ e₅ t₆ e₆ h = whole_took l at (7 + be32 l (at + 3)) _ x past h (text_took l at (be32 l (at + 3)) refl e₃)
    go false e₁ false e₂ false e₃ true e₄ t₅ e₅ t₆ e₆ h = whole_took l at 2 _ x past h (payload_took l at e₄)
    go false e₁ false e₂ false e₃ false e₄ true e₅ t₆ e₆ h = whole_took l at 1 _ x past h (says l at ABSENT_STEP e₅)
    go false e₁ false e₂ false e₃ false e₄ false e₅ true e₆ h = whole_took l at 1 _ x past h (says l at CLOSE_STEP e₆)
    go false e₁ false e₂ false e₃ false e₄ false e₅ false e₆ h = never h

-- ---- a payload
module _ (l : List ℕ) (p kind at : ℕ) (x : List ℕ) (end : ℕ) where
  took_text : eqb kind TEXT ≡ true → bind (step_from l at) (text_by at) ≡ got x end → Pays 2 p kind x × Took l at end (list_bytes (payload_steps kind x))
  took_text t h =
      let s = bind_got (step_from l at) (text_by at) x end h in
      go s.0 s.1 s.2 s.3
    where
      go : (y : Step) (past : ℕ) → step_from l at ≡ got y past → text_by at y past ≡ got x end
          → Pays 2 p kind x × Took l at end (list_bytes (payload_steps kind x))
      go (comment_step a b) past s h = never h
      go (open_step a b c) past s h = never h
      go (payload_step a) past s h = never h
      go close_step past s h = never h
      go absent_step past s h = never h
      go (text_step width y) past s h =
          let c = passed (well_formed y) _ 16 at x end h in
          let is : bytes2 width ++ y ≡ x = cc c.1 in
          let same : past ≡ end = cc c.1 in
          let o = step_took l at (text_step width y) past s in (
            text (bytes2 width) y (two width refl refl) t c.0 (sym is),
            rw (← is, ← same, text_steps kind width y t) (took_join o (took_none l past o.within)),
          )

  took_byte_step : eqb kind TEXT ≡ false → has_byte kind ≡ true → bind (step_from l at) (byte_by at (top_byte p kind)) ≡ got x end
      → Pays 2 p kind x × Took l at end (list_bytes (payload_steps kind x))
  took_byte_step f t h =
      let s = bind_got (step_from l at) (byte_by at (top_byte p kind)) x end h in
      go s.0 s.1 s.2 s.3
    where
      go : (y : Step) (past : ℕ) → step_from l at ≡ got y past → byte_by at (top_byte p kind) y past ≡ got x end
          → Pays 2 p kind x × Took l at end (list_bytes (payload_steps kind x))
      go (comment_step a b) past s h = never h
      go (open_step a b c) past s h = never h
      go (text_step a b) past s h = never h
      go close_step past s h = never h
      go absent_step past s h = never h
      go (payload_step y) past s h =
          let c = passed (leb y (top_byte p kind)) _ 16 at x end h in
          let is : y ∷ [] ≡ x = cc c.1 in
          let same : past ≡ end = cc c.1 in
          let o = step_took l at (payload_step y) past s in (
            byte y f t (leb-true y (top_byte p kind) c.0) (sym is),
            rw (← is, ← same, byte_steps kind y f t) (took_join o (took_none l past o.within)),
          )

  pub payload_taken : at ≤ length l → payload_from l p kind at ≡ got x end → Pays 2 p kind x × Took l at end (list_bytes (payload_steps kind x))
  unfolding payload_from
  payload_taken low h = go (eqb kind TEXT) refl (has_byte kind) refl h
    where
      go : (t : Bool) → eqb kind TEXT ≡ t → (u : Bool) → has_byte kind ≡ u
          → cond t (bind (step_from l at) (text_by at)) (cond u (bind (step_from l at) (byte_by at (top_byte p kind))) (got [] at)) ≡ got x end
          → Pays 2 p kind x × Took l at end (list_bytes (payload_steps kind x))
      go true e u f h = took_text e h
      go false e true f h = took_byte_step e f h
      go false e false f h =
          let is : [] ≡ x = cc in
          let same : at ≡ end = cc in
          (nothing e f (sym is), rw (← is, ← same, no_steps kind e f) (took_none l at low))

-- ---- children and records
-- the steps of two lists are those of each
pub list_append : (xs ys : List Step) → list_bytes (xs ++ ys) ≡ list_bytes xs ++ list_bytes ys
list_append [] ys = refl
list_append (x ∷ xs) ys = ap (λ (r : List ℕ). step_bytes x ++ r) (list_append xs ys) ∙ sym (append_assoc (step_bytes x) (list_bytes xs) (list_bytes ys))

-- what `one` takes is a record that fits, with `left` levels for it
abbrev pub Takes : List ℕ → ℕ → (ℕ → ℕ → Read Plain) → Type 0
Takes l left one = (p at : ℕ) (x : Plain) (end : ℕ) → one p at ≡ got x end → Fits 2 left p x × Took l at end (list_bytes (tree_steps x))

-- children with the step that closes their record
abbrev pub closing : Plains → List ℕ
closing xs = list_bytes (child_steps xs ++ (close_step ∷ []))

pub children_taken : (l : List ℕ) (left : ℕ) (one : ℕ → ℕ → Read Plain) → Takes l left one → (n row at : ℕ) (xs : Plains) (end : ℕ)
    → children_from one l n row at ≡ got xs end → FitsRow 2 left row xs × Took l at end (closing xs)
unfolding children_from tree_steps
children_taken l left one f zero row at xs end h = never h
children_taken l left one f (suc n) row at xs end h = go (children_taken l left one f n (after row)) (turned one l n row at xs end h)
  where
    go : ((past : ℕ) (zs : Plains) (e : ℕ) → children_from one l n (after row) past ≡ got zs e
        → FitsRow 2 left (after row) zs × Took l past e (closing zs))
        → Turn one l n row at xs end → FitsRow 2 left row xs × Took l at end (closing xs)
    go more (closed s c is) =
        let o = step_took l at close_step end s in
        rw is (ends c, took_join o (took_none l end o.within))
    go more (absent past zs s c r is) =
        let m = more past zs end r in
        rw is (gone c m.0, took_join (step_took l at absent_step past s) m.1)
    go more (opened kind from to past y behind zs s c o r is) =
        let m = more behind zs end r in
        let t = f (bare (place row)) at y behind o in
        rw (is, append_assoc (tree_steps y) (child_steps zs) (close_step ∷ []), list_append (tree_steps y) (child_steps zs ++ (close_step ∷ [])))
        (here c t.0 m.0, took_join t.1 m.1)

pub record_taken : (l : List ℕ) (left : ℕ) → Takes l left (record_from l left)
unfolding record_from tree_steps
record_taken l zero p at x end h = never h
record_taken l (suc left) p at x end h =
    let o = opens l left p at x end h in
    let s = step_took l at (open_step o.kind o.from o.to) o.past o.step in
    let y = payload_taken l p o.kind o.past o.payload o.first s.within o.pays in
    let r = children_taken l left (record_from l left) (record_taken l left) _ _ o.first o.children end o.within in
    rw (o.is, list_append (payload_steps o.kind o.payload) (child_steps o.children ++ (close_step ∷ [])))
    (fits o.right o.order y.0 r.0, took_join s (took_join y.1 r.1))
