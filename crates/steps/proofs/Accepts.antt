-- The writer accepts the steps of what fits, and takes it for what it is.
-- Assumes nothing.
use mathlib.Core.Path.{◌≡◌, refl, ap, ◌∙◌}
use mathlib.Core.Bool.{true}
use mathlib.Core.List.{List, [], ◌∷◌, ◌++◌, append_assoc, append-nil}
use Prim.Native.Nat.{ℕ, suc, ◌+◌, ◌≤◌}
use native.Mathlib.Omega.{arith}
use lib.ListN.{length, get_or, length-append}
use lib.Dec.{eqb}
use borrow.Author.Tests.{le-leb}
use Rattle.text.specs.Utf8.{well_formed}
use Rattle.image.specs.Kinds.{TEXT}
use Rattle.image.specs.Bytes.{be16, be32, part}
use Rattle.image.specs.Grammar.{top_byte}
use Rattle.image.specs.Read.{got}
use Rattle.image.specs.Write.{Plain, Plains, without, plainly, done, ◌next◌, bytes4, bytes2}
use Rattle.steps.specs.Steps.{Step, comment_step, open_step, text_step, payload_step, absent_step, close_step, step_bytes, list_bytes}
use Rattle.steps.specs.Steps.{payload_steps, tree_steps, child_steps, COMMENT_STEP, OPEN_STEP, TEXT_STEP, PAYLOAD_STEP, ABSENT_STEP, CLOSE_STEP}
use Rattle.steps.specs.Writer.{step_from, payload_from, children_from, record_from}
use Rattle.tree.proofs.ReadsAgain.{turn_left}
use Rattle.tree.proofs.Stands.{Stands, stands_within, stands_left, stands_right, stands_part, stands_byte, stands_be32, stands_be16}
use Rattle.tree.proofs.Fits.{Pays, text, byte, nothing, Fits, fits, FitsRow, ends, gone, here}
use Rattle.steps.proofs.Payloads.{wide, text_steps, byte_steps, no_steps}
use Rattle.steps.proofs.Views.{closed, absent, opened, turns, opened_as}
use Rattle.steps.proofs.Taken.{closing, list_append}

-- ---- a step
pub step_there : (l : List ℕ) (at : ℕ) (x : Step) → Stands l at (step_bytes x) → step_from l at ≡ got x (at + length (step_bytes x))
unfolding step_from
step_there l at (comment_step a b) s =
    let y = bytes4 a ++ bytes4 b in
    let k : get_or l at 0 ≡ COMMENT_STEP = stands_byte _ _ s in
    let p : be32 l (at + 1) ≡ a = stands_be32 a (bytes4 b) (stands_right (COMMENT_STEP ∷ []) y (at + 1) refl s) in
    let q : be32 l (at + 5) ≡ b = stands_be32 b [] (stands_right (COMMENT_STEP ∷ bytes4 a) (bytes4 b) (at + 5) refl s) in
    rw (k, p, q, le-leb (at + 9) (length l) (stands_within _ s))
step_there l at (open_step n a b) s =
    let k : get_or l at 0 ≡ OPEN_STEP = stands_byte _ _ s in
    let o : get_or l (at + 1) 0 ≡ n = stands_byte _ _ (stands_right (OPEN_STEP ∷ []) (n ∷ bytes4 a ++ bytes4 b) (at + 1) refl s) in
    let p : be32 l (at + 2) ≡ a = stands_be32 a (bytes4 b) (stands_right (OPEN_STEP ∷ n ∷ []) (bytes4 a ++ bytes4 b) (at + 2) refl s) in
    let q : be32 l (at + 6) ≡ b = stands_be32 b [] (stands_right (OPEN_STEP ∷ n ∷ bytes4 a) (bytes4 b) (at + 6) refl s) in
    rw (k, o, p, q, le-leb (at + 10) (length l) (stands_within _ s))
step_there l at (text_step w t) s =
    let n = length t in
    let k : get_or l at 0 ≡ TEXT_STEP = stands_byte _ _ s in
    let o : be16 l (at + 1) ≡ w = stands_be16 w (bytes4 n ++ t) (stands_right (TEXT_STEP ∷ []) (bytes2 w ++ bytes4 n ++ t) (at + 1) refl s) in
    let p : be32 l (at + 3) ≡ n = stands_be32 n t (stands_right (TEXT_STEP ∷ bytes2 w) (bytes4 n ++ t) (at + 3) refl s) in
    let q : part (at + 7) (at + 7 + n) l ≡ t =
    stands_part t (at + 7 + n) refl (stands_right (TEXT_STEP ∷ bytes2 w ++ bytes4 n) t (at + 7) refl s)
    in
    let here : at + (7 + n) ≡ at + length (step_bytes (text_step w t)) = omega arith in
    rw (k, o, p, q, here, le-leb (at + length (step_bytes (text_step w t))) (length l) (stands_within _ s))
step_there l at (payload_step x) s =
    let k : get_or l at 0 ≡ PAYLOAD_STEP = stands_byte _ _ s in
    let o : get_or l (at + 1) 0 ≡ x = stands_byte _ _ (stands_right (PAYLOAD_STEP ∷ []) (x ∷ []) (at + 1) refl s) in
    rw (k, o, le-leb (at + 2) (length l) (stands_within _ s))
step_there l at absent_step s =
    let k : get_or l at 0 ≡ ABSENT_STEP = stands_byte _ _ s in
    rw (k, le-leb (at + 1) (length l) (stands_within _ s))
step_there l at close_step s =
    let k : get_or l at 0 ≡ CLOSE_STEP = stands_byte _ _ s in
    rw (k, le-leb (at + 1) (length l) (stands_within _ s))

-- the first of several
first_there : (l : List ℕ) (at : ℕ) (x : Step) (xs : List Step) → Stands l at (list_bytes (x ∷ xs))
    → (step_from l at ≡ got x (at + length (step_bytes x))) × Stands l (at + length (step_bytes x)) (list_bytes xs)
first_there l at x xs s =
    (step_there l at x (stands_left (step_bytes x) (list_bytes xs) s), stands_right (step_bytes x) (list_bytes xs) _ refl s)

-- ---- a payload
text_there : (l : List ℕ) (p kind width : ℕ) (x t : List ℕ) → eqb kind TEXT ≡ true → well_formed t ≡ true → x ≡ bytes2 width ++ t → (at : ℕ)
    → Stands l at (list_bytes (payload_steps kind x)) → payload_from l p kind at ≡ got x (at + length (list_bytes (payload_steps kind x)))
unfolding payload_from
text_there l p kind width x t e w is at s =
    let steps = ap (payload_steps kind) is ∙ text_steps kind width t e in
    let f = first_there l at (text_step width t) [] (rw steps at s) in
    rw (steps, e, f.0, w, is, append-nil t)

pub payload_there : (l : List ℕ) {p kind : ℕ} {x : List ℕ} → Pays 2 p kind x → (at : ℕ) → Stands l at (list_bytes (payload_steps kind x))
    → payload_from l p kind at ≡ got x (at + length (list_bytes (payload_steps kind x)))
unfolding payload_from
payload_there l {p} {kind} {x} (text front t size e w from) at s =
    let (width, is) = wide x front t size from in
    text_there l p kind width x t e w is at s
payload_there l {p} {kind} {x} (byte y e h top is) at s =
    let steps = ap (payload_steps kind) is ∙ byte_steps kind y e h in
    let f = first_there l at (payload_step y) [] (rw steps at s) in
    rw (steps, e, h, f.0, le-leb y (top_byte p kind) top, is)
payload_there l {p} {kind} {x} (nothing e h is) at s =
    let steps = ap (payload_steps kind) is ∙ no_steps kind e h in
    let here : at ≡ at + 0 = omega arith in
    rw (steps, e, h, is) (ap (got []) here)

-- ---- children and records
-- a record is opened by its first step, which has bytes
pub opens_there : (l : List ℕ) {left p : ℕ} {x : Plain} → Fits 2 left p x → (at : ℕ) → Stands l at (list_bytes (tree_steps x))
    → (kind : ℕ) × (from : ℕ) × (to : ℕ) × (step_from l at ≡ got (open_step kind from to) (at + 10))
unfolding tree_steps
opens_there l (fits {kind = kind} {from = from} {to = to} {x = x} {xs = xs} right order pays row) at s =
    (kind, from, to, (first_there l at (open_step kind from to) (payload_steps kind x ++ (child_steps xs ++ (close_step ∷ []))) s).0)

long : {left p : ℕ} {x : Plain} → Fits 2 left p x → 1 ≤ length (list_bytes (tree_steps x))
unfolding tree_steps
long (fits right order pays row) = omega arith

-- the bytes of a child, then those of the others
closing_next : (y : Plain) (ys : Plains) → closing (y next ys) ≡ list_bytes (tree_steps y) ++ closing ys
unfolding tree_steps
closing_next y ys =
    ap list_bytes (append_assoc (tree_steps y) (child_steps ys) (close_step ∷ []))
    ∙ list_append (tree_steps y) (child_steps ys ++ (close_step ∷ []))

mutual
  unfolding tree_steps

  pub record_there : (l : List ℕ) {left p : ℕ} {x : Plain} → Fits 2 left p x → (at : ℕ) → Stands l at (list_bytes (tree_steps x))
      → record_from l left p at ≡ got x (at + length (list_bytes (tree_steps x)))
  record_there l (fits {left = left} {p = p} {kind = kind} {from = from} {to = to} {x = x} {xs = xs} right order pays row) at s =
      let pay = payload_steps kind x in
      let kids = child_steps xs ++ (close_step ∷ []) in
      let f = first_there l at (open_step kind from to) (pay ++ kids) s in
      let both : Stands l (at + 10) (list_bytes pay ++ closing xs) = rw (list_append pay kids) at f.1 in
      let first = at + 10 + length (list_bytes pay) in
      let inner : Stands l first (closing xs) = stands_right (list_bytes pay) (closing xs) first refl both in
      let here : first + length (closing xs) ≡ at + length (list_bytes (tree_steps (plainly kind from to x xs))) =
      omega (arith, ap length (list_append pay kids) ∙ length-append (list_bytes pay) (closing xs))
      in
      rw (← here)
      (opened_as l left p at (plainly kind from to x xs) (first + length (closing xs))
      (record {
        kind = kind;
        from = from;
        to = to;
        past = at + 10;
        payload = x;
        first = first;
        children = xs;
        step = f.0;
        right = right;
        order = order;
        pays = payload_there l pays (at + 10) (stands_left (list_bytes pay) (closing xs) both);
        within = row_there l row (suc (length l)) first (omega (arith, stands_within (closing xs) inner)) inner;
        is = refl;
      }))

  pub row_there : (l : List ℕ) {left row : ℕ} {xs : Plains} → FitsRow 2 left row xs → (n at : ℕ) → length (closing xs) ≤ n → Stands l at (closing xs)
      → children_from (record_from l left) l n row at ≡ got xs (at + length (closing xs))
  row_there l (ends {left = left} {row = row} c) n at enough s =
      let m = turn_left n (omega arith) in
      rw m.1 (turns (record_from l left) l m.0 row at done (at + 1) (closed (first_there l at close_step [] s).0 c refl))
  row_there l (gone {left = left} {row = row} {xs = ys} o more) n at enough s =
      let m = turn_left n (omega arith) in
      let f = first_there l at absent_step (child_steps ys ++ (close_step ∷ [])) s in
      let r = row_there l more m.0 (at + 1) (omega (arith, m.1)) f.1 in
      let here : at + 1 + length (closing ys) ≡ at + length (closing (without next ys)) = omega arith in
      rw (← here, m.1)
      (turns (record_from l left) l m.0 row at (without next ys) (at + 1 + length (closing ys)) (absent (at + 1) ys f.0 o r refl))
  row_there l (here {left = left} {row = row} {x = y} {xs = ys} z x more) n at enough s =
      let its = list_bytes (tree_steps y) in
      let both : Stands l at (its ++ closing ys) = rw (closing_next y ys) at s in
      let size : length (closing (y next ys)) ≡ length its + length (closing ys) = ap length (closing_next y ys) ∙ length-append its (closing ys) in
      let here : at + length its + length (closing ys) ≡ at + length (closing (y next ys)) = omega arith in
      let m = turn_left n (omega (arith, long x)) in
      let mine = stands_left its (closing ys) both in
      let o = opens_there l x at mine in
      let r = row_there l more m.0 (at + length its) (omega (arith, m.1, long x)) (stands_right its (closing ys) _ refl both) in
      rw (← here, m.1)
      (turns (record_from l left) l m.0 row at (y next ys) (at + length its + length (closing ys))
      (opened o.0 o.1 o.2 (at + 10) y (at + length its) ys o.3 z (record_there l x at mine) r refl))
