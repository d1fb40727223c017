-- What a reading that was accepted says, for the layers that walk the same image by offsets.
-- Assumes nothing.
use mathlib.Core.Path.{◌≡◌, refl, sym, ap, ◌∙◌}
use mathlib.Core.List.{List}
use mathlib.Core.Logic.{◌⊎◌, inl, inr}
use mathlib.Core.Bool.{Bool, true, false, cond, true≢false, false≢true}
use Prim.Native.Nat.{ℕ, zero, suc, ◌≤◌, ◌<◌}
use lib.Dec.{ltb, eqb}
use borrow.Author.Tests.{ne_eqb, ltb-true, ltb-false}
use Rattle.image.specs.Grammar.{is_many, place, after, complete}
use Rattle.image.specs.Read.{Read, got, bad, bind, Head, head_at, stop_at, Tree, Trees, node}
use Rattle.image.specs.Read.{nil, ◌▸◌, opens, record_at, children_at}
use Rattle.image.proofs.Shapes.{Opened, opened, is_got}
use Rattle.image.proofs.Reading.{EndsAt, within, record_bad, record_opens, children_end}

-- ---- children that were read
-- a child, and the rest of the row
pub record Split (one : ℕ → ℕ → ℕ → Read Tree) (p row at stop : ℕ) (ts : Trees) (e : ℕ) : Type 0 where
  pub turns : ℕ
  pub head : Tree
  pub tail : Trees
  pub next : ℕ
  pub cons : ts ≡ head ▸ tail
  pub reads : one p at stop ≡ got head next
  pub more : children_at one turns row next stop ≡ got tail e

split_tail : (t : Tree) (r : Read Trees) (ts : Trees) (e : ℕ) → bind r (λ us end. got (t ▸ us) end) ≡ got ts e
    → (us : Trees) × (ts ≡ t ▸ us) × (r ≡ got us e)
split_tail t (got us k) ts e h = (us, (cc), (cc))
split_tail t (bad m p) ts e h = absurd (false≢true (ap is_got h))

split_head : (one : ℕ → ℕ → ℕ → Read Tree) (n p row at stop : ℕ) (ts : Trees) (e : ℕ) (r : Read Tree) → one p at stop ≡ r
    → bind r (λ t next. bind (children_at one n row next stop) (λ us end. got (t ▸ us) end)) ≡ got ts e → Split one p row at stop ts e
split_head one n p row at stop ts e (got t k) o h =
    let s = split_tail t (children_at one n row k stop) ts e h in
    record { turns = n; head = t; tail = s.0; next = k; cons = s.1; reads = o; more = s.2 }
split_head one n p row at stop ts e (bad m q) o h = absurd (false≢true (ap is_got h))

-- a child that is due is there
pub must : (one : ℕ → ℕ → ℕ → Read Tree) (n row at stop : ℕ) (ts : Trees) (e : ℕ) → complete row ≡ false
    → children_at one n row at stop ≡ got ts e → Split one (place row) (after row) at stop ts e
unfolding children_at
must one zero row at stop ts e o h = absurd (false≢true (ap is_got h))
must one (suc n) row at stop ts e o h = go (ltb at stop) (eqb row 0) (complete row) o h
  where
    go : (t₁ t₂ t₃ : Bool) → t₃ ≡ false
        → cond t₁
        (cond t₂ (bad 4 at) (bind (one (place row) at stop) (λ t next. bind (children_at one n (after row) next stop) (λ us end. got (t ▸ us) end))))
        (cond t₃ (got nil stop) (bad 4 at))
        ≡ got ts e → Split one (place row) (after row) at stop ts e
    go true true t₃ o h = absurd (false≢true (ap is_got h))
    go true false t₃ o h = split_head one n (place row) (after row) at stop ts e (one (place row) at stop) refl h
    go false t₂ true o h = absurd (true≢false o)
    go false t₂ false o h = absurd (false≢true (ap is_got h))

-- no place is left: no child, and the reading is at the end
pub none_left : (one : ℕ → ℕ → ℕ → Read Tree) (n at stop : ℕ) (ts : Trees) (e : ℕ) → children_at one n 0 at stop ≡ got ts e
    → (ts ≡ nil) × (stop ≤ at)
unfolding children_at
none_left one zero at stop ts e h = absurd (false≢true (ap is_got h))
none_left one (suc n) at stop ts e h = go (ltb at stop) refl h
  where
    go : (t : Bool) → ltb at stop ≡ t → cond t (bad 4 at) (got nil stop) ≡ got ts e → (ts ≡ nil) × (stop ≤ at)
    go true l h = absurd (false≢true (ap is_got h))
    go false l h = ((cc), ltb-false at stop l)

-- any number is due: nothing more, at the end, or one more and the same row again
pub any_number : (one : ℕ → ℕ → ℕ → Read Tree) (n row at stop : ℕ) (ts : Trees) (e : ℕ) → ¬ (row ≡ 0) → is_many row ≡ true
    → children_at one n row at stop ≡ got ts e → ((ts ≡ nil) × (stop ≤ at)) ⊎ ((at < stop) × Split one (place row) row at stop ts e)
unfolding children_at
any_number one zero row at stop ts e z m h = absurd (false≢true (ap is_got h))
any_number one (suc n) row at stop ts e z m h = go (ltb at stop) refl (simp (ne_eqb row 0 z, m) at h)
  where
    go : (t : Bool) → ltb at stop ≡ t
        → cond t (bind (one (place row) at stop) (λ t next. bind (children_at one n row next stop) (λ us end. got (t ▸ us) end)))
        (got nil stop) ≡ got ts e
        → ((ts ≡ nil) × (stop ≤ at)) ⊎ ((at < stop) × Split one (place row) row at stop ts e)
    go true l h = inr (ltb-true at stop l, split_head one n (place row) row at stop ts e (one (place row) at stop) refl h)
    go false l h = inl ((cc), ltb-false at stop l)

-- ---- a record that was read
pub record Inside (s b : List ℕ) (v left p at end : ℕ) (t : Tree) (q : ℕ) : Type 0 where
  pub trees : Trees
  pub is : t ≡ node (head_at b at) trees
  pub stop : q ≡ stop_at b at
  pub held : Opened s b v (suc left) p at end
  pub kept : within s b v left p at ≡ got trees (stop_at b at)

inner : (s b : List ℕ) (v left p at end : ℕ) (t : Tree) (q : ℕ) → Opened s b v (suc left) p at end
    → (r : Read Trees) → within s b v left p at ≡ r → EndsAt (stop_at b at) r
    → bind r (λ ts next. got (node (head_at b at) ts) next) ≡ got t q → Inside s b v left p at end t q
inner s b v left p at end t q o (got ts k) r f h =
    let here : k ≡ q = cc in
    record { trees = ts; is = (cc); stop = sym here ∙ f; held = o; kept = r ∙ ap (got ts) f }
inner s b v left p at end t q o (bad m k) r f h = absurd (false≢true (ap is_got h))

-- what was read is the record, and its children were read one level down
pub inside : (s b : List ℕ) (v left p at end : ℕ) (t : Tree) (q : ℕ) → record_at s b v (suc left) p at end ≡ got t q
    → Inside s b v left p at end t q
inside s b v left p at end t q h = go (opens s b v (suc left) p at end) refl
  where
    go : (r : Read Head) → opens s b v (suc left) p at end ≡ r → Inside s b v left p at end t q
    go (bad m k) o = absurd (false≢true (ap is_got (sym (record_bad s b v (suc left) p at end m k o) ∙ h)))
    go (got g k) o =
        let w = (opened s b v (suc left) p at end g k o).0 in
        inner s b v left p at end t q w (within s b v left p at) refl (children_end _ _ _ _ _) (sym (record_opens s b v left p at end w) ∙ h)

-- with no level left no record is read
pub none_deep : (s b : List ℕ) (v p at end : ℕ) (t : Tree) (q : ℕ) → record_at s b v 0 p at end ≡ got t q → ⊥
none_deep s b v p at end t q h = go (opens s b v 0 p at end) refl
  where
    go : (r : Read Head) → opens s b v 0 p at end ≡ r → ⊥
    go (bad m k) o = false≢true (ap is_got (sym (record_bad s b v 0 p at end m k o) ∙ h))
    go (got g k) o = (opened s b v 0 p at end g k o).0.more refl
