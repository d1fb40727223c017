-- The writer accepts the steps of contents that fit, and takes them for what they are.
-- Assumes nothing.
use mathlib.Core.Path.{◌≡◌, refl, ap, subst, ◌∙◌}
use mathlib.Core.Bool.{true, false}
use mathlib.Core.List.{List, [], ◌++◌}
use Prim.Native.Nat.{ℕ, zero, suc, ◌+◌}
use native.Mathlib.Omega.{arith}
use lib.ListN.{length, get_or, length-append}
use lib.Dec.{leb, eqb}
use borrow.Author.Tests.{lt-ltb, le-ltb}
use Rattle.laws.proofs.Booleans.{and_left, and_right}
use Rattle.image.specs.Read.{got}
use Rattle.image.specs.Write.{Plain}
use Rattle.ast.specs.Syntax.{Span}
use Rattle.steps.specs.Steps.{comment_step, step_bytes, list_bytes, tree_steps, steps, COMMENT_STEP, OPEN_STEP}
use Rattle.tree.specs.Contents.{Contents}
use Rattle.steps.specs.Writer.{comments_from, contents_from}
use Rattle.tree.proofs.Stands.{Stands, stands_whole, stands_left, stands_right, stands_byte}
use Rattle.tree.proofs.Fits.{Fits, fits, Listing, no_more, one_more, FitsAll}
use Rattle.tree.proofs.Ordered.{in_order}
use Rattle.steps.proofs.Taken.{list_append}
use Rattle.steps.proofs.WholeList.{comment_steps}
use Rattle.steps.proofs.Accepts.{step_there, record_there}

-- ---- comments, up to a step that is none
comments_end : (l : List ℕ) (n least at : ℕ) → eqb (get_or l at 0) COMMENT_STEP ≡ false → comments_from l n least at ≡ got [] at
unfolding comments_from
comments_end l zero least at h = rw h
comments_end l (suc n) least at h = rw h

comments_there : (l : List ℕ) {n : ℕ} {cs : List Span} → Listing n cs → (least : ℕ) → in_order least cs ≡ true → (at : ℕ)
    → Stands l at (list_bytes (comment_steps cs))
    → eqb (get_or l (at + length (list_bytes (comment_steps cs))) 0) COMMENT_STEP ≡ false
    → comments_from l n least at ≡ got cs (at + length (list_bytes (comment_steps cs)))
unfolding comments_from in_order
comments_there l {n} no_more least o at s last =
    let here : at ≡ at + 0 = omega arith in
    rw (← here) (comments_end l n least at (rw (← here) at last))
comments_there l (one_more {n = n} {c = c} {cs = cs} order more) least o at s last =
    let starts = and_left (leb least c.start) (in_order c.end cs) o in
    let later = and_right (leb least c.start) (in_order c.end cs) o in
    let x = comment_step c.start c.end in
    let others = list_bytes (comment_steps cs) in
    let k : get_or l at 0 ≡ COMMENT_STEP = stands_byte _ _ s in
    let f = step_there l at x (stands_left (step_bytes x) others s) in
    let here : at + 9 + length others ≡ at + length (step_bytes x ++ others) = omega arith in
    let r = comments_there l more c.end later (at + 9) (stands_right (step_bytes x) others (at + 9) refl s) (rw here last) in
    rw (k, f, starts, lt-ltb c.start c.end order, r, here)

-- a tree doesn't start like a comment
no_comment : (l : List ℕ) {left p : ℕ} {x : Plain} → Fits 2 left p x → (at : ℕ) → Stands l at (list_bytes (tree_steps x))
    → eqb (get_or l at 0) COMMENT_STEP ≡ false
unfolding tree_steps
no_comment l (fits right order pays row) at s =
    let k : get_or l at 0 ≡ OPEN_STEP = stands_byte _ _ s in
    rw k

-- ---- the whole
pub contents_there : (c : Contents) → FitsAll 2 c → in_order 0 c.comments ≡ true
    → contents_from (list_bytes (steps c)) ≡ got c (length (list_bytes (steps c)))
unfolding contents_from
contents_there c f o =
    let l = list_bytes (steps c) in
    let front = list_bytes (comment_steps c.comments) in
    let back = list_bytes (tree_steps c.tree) in
    let is : l ≡ front ++ back = list_append (comment_steps c.comments) (tree_steps c.tree) in
    let both : Stands l 0 (front ++ back) = subst (Stands l 0) is (stands_whole l) in
    let tree : Stands l (0 + length front) back = stands_right front back (0 + length front) refl both in
    let cs = comments_there l f.listing 0 o 0 (stands_left front back both) (no_comment l f.tree (0 + length front) tree) in
    let r = record_there l f.tree (0 + length front) tree in
    let far : 0 + length front + length back ≡ length l = omega (arith, ap length is ∙ length-append front back) in
    rw (cs, r, far, le-ltb (length l) (length l) (omega arith))
