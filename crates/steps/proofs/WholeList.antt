-- What the writer accepts as a whole fits, and the list is that of its steps.
-- Assumes nothing.
use mathlib.Core.Path.{◌≡◌, refl, ap, ◌∙◌}
use mathlib.Core.Bool.{Bool, true, false, cond, ◌&&◌}
use mathlib.Core.List.{List, [], ◌∷◌, ◌++◌, map}
use Prim.Native.Nat.{ℕ, zero, suc, ◌≤◌, ◌<◌}
use native.Mathlib.Omega.{arith}
use lib.ListN.{length, get_or}
use lib.Dec.{ltb, leb, eqb}
use borrow.Author.Tests.{ltb-true, ltb-false}
use Rattle.laws.proofs.Booleans.{and_left, and_right}
use Rattle.image.specs.Kinds.{TREE}
use Rattle.image.specs.Limits.{MAX_COMMENTS, MAX_RECORDS_DEEP}
use Rattle.image.specs.Read.{got, bind}
use Rattle.ast.specs.Syntax.{Span}
use Rattle.tree.specs.CommentList.{span}
use Rattle.steps.specs.Steps.{Step, comment_step, open_step, text_step, payload_step, absent_step, COMMENT_STEP}
use Rattle.steps.specs.Steps.{close_step, step_bytes, list_bytes, tree_steps, steps}
use Rattle.tree.specs.Contents.{Contents}
use Rattle.steps.specs.Writer.{step_from, pair_by, comments_from, record_from, contents_from}
use Rattle.image.specs.Write.{Bytes}
use Rattle.tree.proofs.Took.{took_all, Took, took_none, took_join}
use Rattle.tree.proofs.Fits.{Listing, no_more, one_more, FitsAll}
use Rattle.image.proofs.Got.{never, bind_got, passed, stayed}
use Rattle.tree.proofs.Ordered.{in_order}
use Rattle.steps.proofs.Taken.{step_took, list_append, record_taken}

-- ---- comments
abbrev pub comment_steps : List Span → List Step
comment_steps cs = map (λ x. comment_step x.start x.end) cs

-- they are so many at most, none empty or reversed, in order, and their steps stand from `at` to `end`
record Listed (l : List ℕ) (n least at : ℕ) (cs : List Span) (end : ℕ) : Type 0 where
  listing : Listing n cs
  order : in_order least cs ≡ true
  took : Took l at end (list_bytes (comment_steps cs))

none_listed : (l : List ℕ) (n least at : ℕ) → at ≤ length l → Listed l n least at [] at
unfolding in_order
none_listed l n least at low = record { listing = no_more; order = refl; took = took_none l at low }

listed : {l : List ℕ} {n least at q end : ℕ} {c : Span} {cs : List Span} → leb least c.start ≡ true → c.start < c.end
    → Took l at q (step_bytes (comment_step c.start c.end)) → Listed l n c.end q cs end → Listed l (suc n) least at (c ∷ cs) end
unfolding in_order
listed starts order t m = record { listing = one_more order m.listing; order = rw (starts, m.order) refl; took = took_join t m.took }

comments_taken : (l : List ℕ) (n least at : ℕ) (cs : List Span) (end : ℕ) → at ≤ length l → comments_from l n least at ≡ got cs end
    → Listed l n least at cs end
unfolding comments_from
comments_taken l zero least at cs end low h =
    let c = stayed (eqb (get_or l at 0) COMMENT_STEP) _ 16 at cs end h in
    let is : [] ≡ cs = cc c.1 in
    let same : at ≡ end = cc c.1 in
    rw (← is, ← same) (none_listed l zero least at low)
comments_taken l (suc n) least at cs end low h = go (eqb (get_or l at 0) COMMENT_STEP) (comments_taken l n) h
  where
    Goal : Type 0
    Goal = Listed l (suc n) least at cs end

    More : Type 0
    More = (least at : ℕ) (cs : List Span) (end : ℕ) → at ≤ length l → comments_from l n least at ≡ got cs end → Listed l n least at cs end

    one : {q a b : ℕ} {c : Span} {xs : List Span} → span a b ≡ c → leb least a ≡ true → a < b → Took l at q (step_bytes (comment_step a b))
        → Listed l n c.end q xs end → Listed l (suc n) least at (c ∷ xs) end
    one is starts order t m = listed (rw (← is) starts) (rw (← is) order) (rw (← is) t) m

    pair : More → (x : Step) (past : ℕ) → step_from l at ≡ got x past → (c : Span) (q : ℕ) → pair_by least at x past ≡ got c q
        → bind (comments_from l n c.end q) (λ cs end. got (c ∷ cs) end) ≡ got cs end → Goal
    pair more (open_step a b d) past s c q e h = never e
    pair more (text_step a b) past s c q e h = never e
    pair more (payload_step a) past s c q e h = never e
    pair more close_step past s c q e h = never e
    pair more absent_step past s c q e h = never e
    pair more (comment_step a b) past s c q e h =
        let o = passed (leb least a && ltb a b) _ 16 at c q e in
        let is : span a b ≡ c = cc o.1 in
        let same : past ≡ q = cc o.1 in
        let r = bind_got (comments_from l n c.end q) _ cs end h in
        let cs-is : c ∷ r.0 ≡ cs = cc r.3 in
        let t = rw same at (step_took l at (comment_step a b) past s) in
        let m = more c.end q r.0 end t.within (r.2 ∙ ap (got r.0) (cc r.3)) in
        let starts = and_left (leb least a) (ltb a b) o.0 in
        let order = ltb-true a b (and_right (leb least a) (ltb a b) o.0) in
        rw (← cs-is) (one is starts order t m)

    go : (t : Bool) → More
        → cond t (bind (bind (step_from l at) (pair_by least at)) (λ c past. bind (comments_from l n c.end past) (λ cs end. got (c ∷ cs) end))) (got [] at)
        ≡ got cs end → Goal
    go false more h =
        let is : [] ≡ cs = cc in
        let same : at ≡ end = cc in
        rw (← is, ← same) (none_listed l (suc n) least at low)
    go true more h =
        let p = bind_got (bind (step_from l at) (pair_by least at)) _ cs end h in
        let s = bind_got (step_from l at) (pair_by least at) p.0 p.1 p.2 in
        pair more s.0 s.1 s.2 p.0 p.1 s.3 p.3

-- ---- the whole
-- the contents fit, their comments are in order, and the list is that of their steps
pub record Taken (l : List ℕ) (c : Contents) : Type 0 where
  pub fits : FitsAll 2 c
  pub order : in_order 0 c.comments ≡ true
  pub took : Took l 0 (length l) (list_bytes (steps c))

pub contents_taken : (l : List ℕ) (c : Contents) (end : ℕ) → contents_from l ≡ got c end → Taken l c
unfolding contents_from
contents_taken l c end h =
    let p = bind_got (comments_from l MAX_COMMENTS 0 0) _ c end h in
    let t = bind_got (record_from l MAX_RECORDS_DEEP TREE p.1) _ c end p.3 in
    let e = stayed (ltb t.1 (length l)) _ 16 t.1 c end t.3 in
    let cs = comments_taken l MAX_COMMENTS 0 0 p.0 p.1 (omega arith) p.2 in
    let r = record_taken l MAX_RECORDS_DEEP TREE p.1 t.0 t.1 t.2 in
    let ends : t.1 ≡ length l = omega (arith, r.1.within, ltb-false t.1 (length l) e.0) in
    let is : record { comments = p.0; tree = t.0 } ≡ c = cc e.1 in
    let took : Took l 0 (length l) (list_bytes (comment_steps p.0 ++ tree_steps t.0)) =
    rw (list_append (comment_steps p.0) (tree_steps t.0)) (took_join cs.took (rw ends at r.1))
    in
    rw (← is) (record { fits = record { listing = cs.listing; tree = r.0 }; order = cs.order; took = took })

-- a list of bytes is that of the steps of what it says
pub list_is : (l : List ℕ) (c : Contents) (end : ℕ) → Bytes l → contents_from l ≡ got c end → l ≡ list_bytes (steps c)
list_is l c end small h = took_all (contents_taken l c end h).took small
