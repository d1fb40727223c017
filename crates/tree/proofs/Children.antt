-- A record that was read, taken apart: what its head says, and its children at the places of its row. The reader goes along the row, so
-- that each child was read at the next place, from where the one before it ends.
-- Assumes nothing.
use mathlib.Core.Path.{◌≡◌, refl, sym, ap, ◌∙◌, subst}
use mathlib.Core.List.{List, [], ◌∷◌}
use mathlib.Core.Bool.{Bool, true, false, cond, ◌&&◌, false≢true}
use mathlib.Core.Logic.{⊎_elim}
use Prim.Native.Nat.{ℕ, zero, suc, ◌+◌, ◌/◌, ◌%◌, ◌≤◌, ◌<◌}
use native.Mathlib.Omega.{arith}
use lib.ListN.{length, get_or}
use lib.Dec.{leb, ltb, eqb}
use borrow.Author.Tests.{leb-true, ltb-true, ltb-false, lt-ltb, eqb-true, eqb-false}
use Rattle.text.specs.Utf8.{within}
use Rattle.text.specs.Newlines.{is_range}
use Rattle.laws.proofs.Booleans.{and_left, and_right}
use Rattle.image.specs.Bytes.{be32}
use Rattle.image.specs.Grammar.{is_list, is_optional, is_many, bare, place, after, complete, row_under_of, kind_fits_of, payload_fits, first_child}
use Rattle.image.specs.Read.{width_bytes}
use Rattle.image.specs.Read.{Read, got, bad, bind, Tree, Trees, absent, node, nil, ◌▸◌, stop_at, kind_at, head_at, skips, child_at, record_at, children_at}
use Rattle.image.proofs.Shapes.{is_got, opened_order, skips_within}
use Rattle.image.proofs.Inside.{Split, must, none_left, any_number, inside, none_deep}
use Rattle.tree.specs.At.{Absent, Before, Clear, Done, Head}

-- 2 ^ 24: a length below it has 0 for its first byte
abbrev pub THREE_BYTES : ℕ
THREE_BYTES = 16777216

-- cases one after the other
infixr 10 ◌∣◌
abbrev pub ◌∣◌ : {A B : Type 0} → A → B → A × B
x ∣ y = (x, y)

-- ---- places: a record is due, may be absent, stands any number of times; others are not looked at
pub data Place : Type 0 where
  due : ℕ → Place
  maybe : ℕ → Place
  many : ℕ → Place
  others : Place

-- the first n places of a row
abbrev pub places : ℕ → ℕ → List Place
places zero row = others ∷ []
places (suc n) row =
    cond (eqb row 0) []
    (cond (is_many row) (cond (is_optional (place row)) others (many (bare (place row))) ∷ [])
    (cond (is_optional (place row)) (maybe (bare (place row))) (due (bare (place row))) ∷ places n (row / 65536)))

-- ---- kinds
-- the kinds at place p: the lowest, and how many
abbrev pub low : ℕ → ℕ
low p = cond (is_list p) 3 (p % 128)

abbrev pub count : ℕ → ℕ
count p = cond (is_list p) 1 (suc (p / 128 % 32))

-- P of n numbers from k on
abbrev pub Each : (ℕ → Type 0) → ℕ → ℕ → Type 0
Each P k zero = Unit
Each P k (suc n) = P k × Each P (suc k) n

pick : (P : ℕ → Type 0) (low n k : ℕ) → Each P low n → low ≤ k → k < low + n → P k
pick P low zero k x h l = absurd (omega arith)
pick P low (suc n) k x h l = go (eqb low k) refl (pick P (suc low) n k x.1)
  where
    go : (t : Bool) → eqb low k ≡ t → (suc low ≤ k → k < suc low + n → P k) → P k
    go true e more = rw (eqb-true low k e) at x.0
    go false e more = let f = eqb-false low k e in more (omega arith) (omega arith)

ranged : (p k : ℕ) → kind_fits_of p k ≡ true → (low p ≤ k) × (k < low p + count p)
unfolding kind_fits_of
ranged p k e = go (is_list p) e
  where
    go : (x : Bool) → cond x (eqb k 3) (leb (p % 128) k && leb k (p % 128 + p / 128 % 32)) ≡ true
        → (cond x 3 (p % 128) ≤ k) × (k < cond x 3 (p % 128) + cond x 1 (suc (p / 128 % 32)))
    go true e = let f = eqb-true k 3 e in omega arith
    go false e =
        let f = leb-true (p % 128) k (and_left _ _ e) in
        let g = leb-true k (p % 128 + p / 128 % 32) (and_right (leb (p % 128) k) _ e) in
        omega arith

module _ (s b : List ℕ) where
  abbrev v : ℕ
  v = width_bytes b

  -- ---- what is read
  -- a record that was read as t at place p, with d levels left, in a parent that ends at `end`
  pub record Kid (d p at end : ℕ) (t : Tree) : Type 0 where
    pub reads : record_at s b v d p at end ≡ got t (stop_at b at)
    pub within : stop_at b at ≤ end
    pub far : end ≤ length b
    pub small : length b < THREE_BYTES
    pub clear : Clear b (stop_at b at)

  -- the same where it may be absent
  pub data Perhaps (d p at end : ℕ) : Tree → Type 0 where
    gone : Absent b at → at + 4 ≤ end → Perhaps d p at end absent
    here : {h : Rattle.image.specs.Read.Head} {ts : Trees} → Kid d p at end (node h ts) → Perhaps d p at end (node h ts)

  -- records at place p one after the other, up to `end`
  abbrev pub Elements : ℕ → ℕ → ℕ → Trees → ℕ → Type 0
  Elements d p end nil at = Done at end
  Elements d p end (t ▸ ts) at = Kid d p at end t × Elements d p end ts (stop_at b at)

  -- the children at some places, from `at` to `end`
  abbrev pub Kids : ℕ → List Place → ℕ → ℕ → Type 0
  Kids d [] at end = Done at end
  Kids d (due p ∷ ps) at end = (t : Tree) × Kid d p at end t × Kids d ps (stop_at b at) end
  Kids d (maybe p ∷ ps) at end = (t : Tree) × Perhaps d p at end t × Kids d ps (stop_at b at) end
  Kids d (many p ∷ ps) at end = (ts : Trees) × Elements d p end ts at
  Kids d (others ∷ ps) at end = Trees

  -- those children as the reader gives them
  abbrev pub trees : (d : ℕ) (ps : List Place) (at end : ℕ) → Kids d ps at end → Trees
  trees d [] at end c = nil
  trees d (due p ∷ ps) at end c = c.0 ▸ trees d ps (stop_at b at) end c.2
  trees d (maybe p ∷ ps) at end c = c.0 ▸ trees d ps (stop_at b at) end c.2
  trees d (many p ∷ ps) at end c = c.0
  trees d (others ∷ ps) at end c = c

  pub record Apart (d : ℕ) (ps : List Place) (at end : ℕ) (ts : Trees) : Type 0 where
    pub kids : Kids d ps at end
    pub same : ts ≡ trees d ps at end kids

  -- ---- what was read below a record
  -- the byte behind it is clear, once it is known where it ends
  abbrev Clears : ℕ → ℕ → ℕ → Type 0
  Clears at end q = stop_at b at ≤ end → q ≡ stop_at b at → Clear b (stop_at b at)

  pub kid : (d p at end : ℕ) (t : Tree) (q : ℕ) → end ≤ length b → length b < THREE_BYTES → Clears at end q → record_at s b v d p at end ≡ got t q
      → (q ≡ stop_at b at) × Kid d p at end t
  kid zero p at end t q far small clears h = absurd (none_deep s b v p at end t q h)
  kid (suc d) p at end t q far small clears h =
      let i = inside s b v d p at end t q h in (
        i.stop,
        record {
          reads = h ∙ ap (got t) i.stop;
          within = i.held.right.within;
          far = far;
          small = small;
          clear = clears i.held.right.within i.stop;
        },
      )

  -- ---- the byte at a child: the first of its length, which is below 2 ^ 24
  first_read : (one : ℕ → ℕ → ℕ → Read Tree) (n row at stop : ℕ) (ts : Trees) (e : ℕ) → at < stop → children_at one n row at stop ≡ got ts e
      → (t : Tree) × (q : ℕ) × (one (place row) at stop ≡ got t q)
  unfolding children_at
  first_read one zero row at stop ts e l h = absurd (false≢true (ap is_got h))
  first_read one (suc n) row at stop ts e l h = go (ltb at stop) (lt-ltb at stop l) (eqb row 0) (one (place row) at stop) refl h
    where
      go : (x : Bool) → x ≡ true → (y : Bool) (r : Read Tree) → one (place row) at stop ≡ r
          → cond x (cond y (bad 4 at) (bind r (λ t next. bind (children_at one n (after row) next stop) (λ us end. got (t ▸ us) end))))
          (cond (complete row) (got nil stop) (bad 4 at))
          ≡ got ts e
          → (t : Tree) × (q : ℕ) × (one (place row) at stop ≡ got t q)
      go true x true r o h = absurd (false≢true (ap is_got h))
      go true x false (got t q) o h = (t, q, o)
      go true x false (bad m q) o h = absurd (false≢true (ap is_got h))
      go false x y r o h = absurd (false≢true x)

  low_byte : (at : ℕ) → be32 b at < THREE_BYTES → Clear b at
  unfolding be32 within
  low_byte at l = let z : get_or b at 0 ≡ 0 = omega arith in record { starts = rw z }

  record_low : (d p at end : ℕ) (t : Tree) (q : ℕ) → end ≤ length b → length b < THREE_BYTES → record_at s b v d p at end ≡ got t q → Clear b at
  record_low zero p at end t q far small h = absurd (none_deep s b v p at end t q h)
  record_low (suc d) p at end t q far small h =
      let i = inside s b v d p at end t q h in
      low_byte at (omega (arith, i.held.right.within))

  child_low : (d p at end : ℕ) (t : Tree) (q : ℕ) → end ≤ length b → length b < THREE_BYTES → child_at s b v d p at end ≡ got t q → Clear b at
  child_low d p at end t q far small h = go (skips b p at end) refl h
    where
      go : (x : Bool) → skips b p at end ≡ x → cond x (got absent (at + 4)) (record_at s b v d (bare p) at end) ≡ got t q → Clear b at
      go true e h = low_byte at (omega (arith, (skips_within b p at end e).1))
      go false e h = record_low d (bare p) at end t q far small h

  -- so it is of what stands behind a child: the next one, or the parent's end
  pub clear_at : (d n row at end : ℕ) (ts : Trees) (e : ℕ) → end ≤ length b → length b < THREE_BYTES → Clear b end → at ≤ end
      → children_at (child_at s b v d) n row at end ≡ got ts e → Clear b at
  clear_at d n row at end ts e far small c le h = go (ltb at end) refl
    where
      go : (x : Bool) → ltb at end ≡ x → Clear b at
      go true l =
          let r = first_read (child_at s b v d) n row at end ts e (ltb-true at end l) h in
          child_low d (place row) at end r.0 r.1 far small r.2
      go false l = let same : at ≡ end = omega (arith, ltb-false at end l) in rw same c

  -- no record is absent, and no children are a child with others
  not_absent : (d p at end : ℕ) → Kid d p at end absent → ⊥
  not_absent zero p at end k = none_deep s b v p at end absent _ k.reads
  not_absent (suc d) p at end k =
      let i = inside s b v d p at end absent _ k.reads in
      let e = i.is in
      let z : ◌≡◌ {A = ℕ} 0 1 = cc in
      omega arith

  empty : (t : Tree) (ts : Trees) → nil ≡ t ▸ ts → ⊥
  empty t ts e = let z : ◌≡◌ {A = ℕ} 0 1 = cc in omega arith

  is_here : (d p at end : ℕ) (t : Tree) → Kid d p at end t → Perhaps d p at end t
  is_here d p at end absent k = absurd (not_absent d p at end k)
  is_here d p at end (node h ts) k = here k

  -- a child at place p: a record or none, which takes four bytes
  record Child (d p at end : ℕ) (t : Tree) (q : ℕ) : Type 0 where
    stop : q ≡ stop_at b at
    within : stop_at b at ≤ end
    is : Perhaps d (bare p) at end t

  child : (d p at end : ℕ) (t : Tree) (q : ℕ) → end ≤ length b → length b < THREE_BYTES → Clears at end q → child_at s b v d p at end ≡ got t q
      → Child d p at end t q
  child d p at end t q far small clears h = go (skips b p at end) refl h
    where
      go : (x : Bool) → skips b p at end ≡ x → cond x (got absent (at + 4)) (record_at s b v d (bare p) at end) ≡ got t q → Child d p at end t q
      go true e h =
          let w = skips_within b p at end e in
          let is : absent ≡ t = cc in
          let same : at + 4 ≡ q = cc in
          record {
            stop = omega (arith, w.1);
            within = omega (arith, w.0, w.1);
            is = rw (← is) (gone (record { zero = w.1; fits = omega (arith, w.0) }) w.0);
          }
      go false e h =
          let k = kid d (bare p) at end t q far small clears h in
          record { stop = k.0; within = k.1.within; is = is_here d (bare p) at end t k.1 }

  -- where the place is not optional, a record stands there
  plain : (d p at end : ℕ) → is_optional p ≡ false → child_at s b v d p at end ≡ record_at s b v d (bare p) at end
  unfolding skips
  plain d p at end e = simp e

  elements : (d row end : ℕ) (ts : Trees) (n at : ℕ) → end ≤ length b → length b < THREE_BYTES → Clear b end → at ≤ end → ¬ (row ≡ 0)
      → is_many row ≡ true → is_optional (place row) ≡ false
      → children_at (child_at s b v d) n row at end ≡ got ts end → Elements d (bare (place row)) end ts at
  elements d row end nil n at far small c le z m f h =
      ⊎_elim (λ x. record { same = omega (arith, x.1) }) (λ x. absurd (empty _ _ x.1.cons))
      (any_number (child_at s b v d) n row at end nil end z m h)
  elements d row end (t ▸ ts) n at far small clear le z m f h =
      ⊎_elim (λ x. absurd (empty _ _ (sym x.0))) (λ x. go x.1 (λ n at le. elements d row end ts n at far small clear le z m f))
      (any_number (child_at s b v d) n row at end (t ▸ ts) end z m h)
    where
      go : Split (child_at s b v d) (place row) row at end (t ▸ ts) end
          → ((n at : ℕ) → at ≤ end → children_at (child_at s b v d) n row at end ≡ got ts end → Elements d (bare (place row)) end ts at)
          → Elements d (bare (place row)) end (t ▸ ts) at
      go c more =
          let e₁ : c.head ≡ t = cc c.cons in
          let e₂ : c.tail ≡ ts = cc c.cons in
          let read = sym (plain d (place row) at end f) ∙ c.reads ∙ ap (λ (u : Tree). got u c.next) e₁ in
          let clears : Clears at end c.next =
          λ w q. rw (← q) (clear_at d c.turns row c.next end c.tail end far small clear (omega arith) c.more)
          in
          let k = kid d (bare (place row)) at end t c.next far small clears read in
          (k.1, more c.turns (stop_at b at) k.1.within (rw (← k.0) (c.more ∙ ap (λ (us : Trees). got us end) e₂)))

  -- the children that were read, at the places of the row
  abbrev Reads : ℕ → List Place → ℕ → ℕ → Type 0
  Reads d ps row end =
      (turns at : ℕ) (ts : Trees) → at ≤ end → children_at (child_at s b v d) turns row at end ≡ got ts end → Apart d ps at end ts

  first_due : (d : ℕ) (ps : List Place) (p row at end : ℕ) (ts : Trees) → end ≤ length b → length b < THREE_BYTES → Clear b end → is_optional p ≡ false
      → Split (child_at s b v d) p row at end ts end → Reads d ps row end → Apart d (due (bare p) ∷ ps) at end ts
  first_due d ps p row at end ts far small clear o c more =
      let clears : Clears at end c.next =
      λ w q. rw (← q) (clear_at d c.turns row c.next end c.tail end far small clear (omega arith) c.more)
      in
      let k = kid d (bare p) at end c.head c.next far small clears (sym (plain d p at end o) ∙ c.reads) in
      let a = more c.turns (stop_at b at) c.tail k.1.within (rw (← k.0) c.more) in
      record { kids = (c.head, k.1, a.kids); same = c.cons ∙ ap (λ (us : Trees). c.head ▸ us) a.same }

  first_maybe : (d : ℕ) (ps : List Place) (p row at end : ℕ) (ts : Trees) → end ≤ length b → length b < THREE_BYTES → Clear b end
      → Split (child_at s b v d) p row at end ts end → Reads d ps row end → Apart d (maybe (bare p) ∷ ps) at end ts
  first_maybe d ps p row at end ts far small clear c more =
      let clears : Clears at end c.next =
      λ w q. rw (← q) (clear_at d c.turns row c.next end c.tail end far small clear (omega arith) c.more)
      in
      let k = child d p at end c.head c.next far small clears c.reads in
      let a = more c.turns (stop_at b at) c.tail k.within (rw (← k.stop) c.more) in
      record { kids = (c.head, k.is, a.kids); same = c.cons ∙ ap (λ (us : Trees). c.head ▸ us) a.same }

  pub apart : (d n row end : ℕ) → end ≤ length b → length b < THREE_BYTES → Clear b end → Reads d (places n row) row end
  apart d zero row end far small clear turns at ts le h = record { kids = ts; same = refl }
  apart d (suc n) row end far small clear turns at ts le h =
      go (eqb row 0) refl (is_many row) refl (is_optional (place row)) refl (apart d n (row / 65536) end far small clear)
    where
      go : (x : Bool) → eqb row 0 ≡ x → (y : Bool) → is_many row ≡ y → (z : Bool) → is_optional (place row) ≡ z
          → Reads d (places n (row / 65536)) (row / 65536) end
          → Apart d
          (cond x []
          (cond y (cond z others (many (bare (place row))) ∷ []) (cond z (maybe (bare (place row))) (due (bare (place row))) ∷ places n (row / 65536))))
          at end ts
      go true e y m z o more =
          let k = none_left (child_at s b v d) turns at end ts end (rw (eqb-true row 0 e) at h) in
          record { kids = record { same = omega (arith, k.1) }; same = k.0 }
      go false e true m true o more = record { kids = ts; same = refl }
      go false e true m false o more = record { kids = (ts, elements d row end ts turns at far small clear le (eqb-false row 0 e) m o h); same = refl }
      go false e false m true o more =
          first_maybe d _ (place row) (row / 65536) at end ts far small clear (rw m at (must (child_at s b v d) turns row at end ts end (rw (e, m)) h)) more
      go false e false m false o more =
          first_due d _ (place row) (row / 65536) at end ts far small clear o (rw m at (must (child_at s b v d) turns row at end ts end (rw (e, m)) h)) more

  -- ---- one record
  -- the head of the record at `at`, were its kind k
  abbrev pub head_with : ℕ → ℕ → Rattle.image.specs.Read.Head
  head_with k at =
      record {
        at = at;
        kind = k;
        from = be32 b (at + 5);
        to = be32 b (at + 9);
        first = first_child k (at + 13) (stop_at b at);
        stop = stop_at b at;
      }

  -- a record of kind k at place p, with its children, for which d levels are left
  pub record Node (d p at end k : ℕ) : Type 0 where
    pub kind : kind_at b at ≡ k
    pub long : 9 ≤ be32 b at
    pub within : stop_at b at ≤ end
    pub far : end ≤ length b
    pub clear : Clear b (stop_at b at)
    pub payload : payload_fits b v p k (at + 13) (stop_at b at) ≡ true
    pub span : is_range s (be32 b (at + 5)) (be32 b (at + 9)) ≡ true
    pub kids : Kids d (places 5 (row_under_of p k)) (first_child k (at + 13) (stop_at b at)) (stop_at b at)

  abbrev pub tree_of : (d p at end k : ℕ) → Node d p at end k → Tree
  tree_of d p at end k n = node (head_with k at) (trees d (places 5 (row_under_of p k)) (first_child k (at + 13) (stop_at b at)) (stop_at b at) n.kids)

  opened : (d p at end : ℕ) (t : Tree) → Kid (suc d) p at end t
      → (kind_fits_of p (kind_at b at) ≡ true) × ((n : Node d p at end (kind_at b at)) × (t ≡ tree_of d p at end (kind_at b at) n))
  opened d p at end t k =
      let i = inside s b v d p at end t _ k.reads in
      let o = i.held in
      let far : stop_at b at ≤ length b = omega (arith, k.within, k.far) in
      let a = apart d 5 (row_under_of p (kind_at b at)) (stop_at b at) far k.small k.clear _ _ i.trees (opened_order o) i.kept in (
        o.right.kind,
        (
          record {
            kind = refl;
            long = o.right.long;
            within = k.within;
            far = k.far;
            clear = k.clear;
            payload = o.right.payload;
            span = o.span;
            kids = a.kids;
          },
          i.is ∙ ap (node (head_at b at)) a.same,
        ),
      )

  -- What holds of each kind of record at place p holds of the record that was read there.
  pub by_kind : (d p at end : ℕ) (Q : Tree → Type 0) → Each (λ k. (n : Node d p at end k) → Q (tree_of d p at end k n)) (low p) (count p)
      → (t : Tree) → Kid (suc d) p at end t → Q t
  by_kind d p at end Q each t k =
      let o = opened d p at end t k in
      let r = ranged p (kind_at b at) o.0 in
      subst Q (sym o.1.1) (pick (λ k. (n : Node d p at end k) → Q (tree_of d p at end k n)) (low p) (count p) (kind_at b at) each r.0 r.1 o.1.0)

  -- ---- what holds of every record that is read at a place, at its offset
  abbrev pub All : ℕ → ℕ → (Tree → ℕ → Type 0) → Type 0
  All d p P = (at end : ℕ) (t : Tree) → Kid d p at end t → P t at

  -- with no level left none is read
  pub none : (p : ℕ) (P : Tree → ℕ → Type 0) → All 0 p P
  none p P at end t k = absurd (none_deep s b v p at end t _ k.reads)

  pub all : (d p : ℕ) (P : Tree → ℕ → Type 0)
      → ((at end : ℕ) → Each (λ k. (n : Node d p at end k) → P (tree_of d p at end k n) at) (low p) (count p)) → All (suc d) p P
  all d p P f at end = by_kind d p at end (λ t. P t at) (f at end)

  pub always : (p : ℕ) (P : Tree → ℕ → Type 0)
      → ((d at end : ℕ) → Each (λ k. (n : Node d p at end k) → P (tree_of d p at end k n) at) (low p) (count p)) → (d : ℕ) → All d p P
  always p P f zero = none p P
  always p P f (suc d) = all d p P (f d)

  -- ---- its parts, as the relations say them
  pub head : {d p at end k : ℕ} (n : Node d p at end k) → Head s b k (record { start = be32 b (at + 5); end = be32 b (at + 9) }) at
  head n =
      record {
        kinds = n.kind;
        long = n.long;
        fits = omega (arith, n.within, n.far);
        start = refl;
        end = refl;
        range = n.span;
      }

  pub before : {d p at end : ℕ} {t : Tree} → Kid d p at end t → Before b at end
  before k = record { least = k.within }

  -- a child that may be absent
  pub perhaps : (d p at end : ℕ) (P : Tree → Type 0) → (Absent b at → P absent)
      → ((h : Rattle.image.specs.Read.Head) (ts : Trees) → Kid d p at end (node h ts) → P (node h ts)) → (t : Tree) → Perhaps d p at end t → P t
  perhaps d p at end P z f t (gone a l) = z a
  perhaps d p at end P z f t (here {h = h} {ts = ts} k) = f h ts k

  pub perhaps_before : (d p at end : ℕ) (t : Tree) → Perhaps d p at end t → Before b at end
  perhaps_before d p at end t (gone a l) = let z = a.zero in record { least = omega arith }
  perhaps_before d p at end t (here k) = before k

  -- a list of the elements that were read
  pub run : (d p end : ℕ) (L : Trees → ℕ → Type 0) → ((at : ℕ) → Done at end → L nil at)
      → ((at : ℕ) (t : Tree) (ts : Trees) → Kid d p at end t → L ts (stop_at b at) → L (t ▸ ts) at)
      → (at : ℕ) (c : (ts : Trees) × Elements d p end ts at) → L c.0 at
  run d p end L z more at c = go c.0 at c.1
    where
      go : (ts : Trees) (at : ℕ) → Elements d p end ts at → L ts at
      go nil at e = z at e
      go (t ▸ ts) at e = more at t ts e.0 (go ts (stop_at b at) e.1)
