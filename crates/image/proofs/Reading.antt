-- What the reading of a record and of its children says, one turn of the loop over the children at a time.
-- Assumes nothing.
use mathlib.Core.Path.{◌≡◌, refl, sym, ap, ◌∙◌}
use mathlib.Core.List.{List}
use mathlib.Core.Bool.{Bool, true, false, cond, not}
use Prim.Native.Nat.{ℕ, zero, suc, ◌+◌, ◌-◌, ◌≤◌, ◌<◌}
use native.Mathlib.Omega.{arith}
use native.Mathlib.Numerals.{sub-one}
use lib.ListN.{length}
use lib.Dec.{ltb, eqb}
use borrow.Author.Tests.{lt-ltb, le-ltb, eq-eqb, ne_eqb, eqb-false}
use Rattle.refusals.specs.Refusals.{Refusal}
use Rattle.refusals.specs.Answers.{Answer, refused, accepted}
use Rattle.text.specs.Newlines.{is_range}
use Rattle.image.specs.Bytes.{be32}
use Rattle.image.specs.Kinds.{TEXT}
use Rattle.image.specs.Grammar.{bare, place, after, complete, row_of, row_under_of, first_child}
use Rattle.image.specs.Read.{Read, got, bad, bind, Head, head_at, stop_at, kind_at, Tree, Trees, absent, node}
use Rattle.image.specs.Read.{nil, ◌▸◌, shape, opens, skips, child_at, record_at, children_at, step_of}
use Rattle.image.specs.Open.{HeadRead, head_of, stop_of}
use Rattle.image.specs.declared.reader.Reader.{Reader}
use Rattle.image.proofs.Shapes.{Opened, shaped, opened, is_opened, skips_within, kind_range}

-- ---- one record
pub record_bad : (s b : List ℕ) (v left p at end n q : ℕ) → opens s b v left p at end ≡ bad n q → record_at s b v left p at end ≡ bad n q
unfolding record_at
record_bad s b v zero p at end n q e = rw e
record_bad s b v (suc left) p at end n q e = rw e

-- the children of the record at `at`, with `left` levels for them
abbrev pub within : List ℕ → List ℕ → ℕ → ℕ → ℕ → ℕ → Read Trees
within s b v left p at =
    children_at (child_at s b v left) (suc (length b)) (row_under_of p (kind_at b at)) (head_at b at).first (stop_at b at)

pub record_opens : (s b : List ℕ) (v left p at end : ℕ) → Opened s b v (suc left) p at end
    → record_at s b v (suc left) p at end ≡ bind (within s b v left p at) (λ ts next. got (node (head_at b at) ts) next)
unfolding record_at
record_opens s b v left p at end o = rw (is_opened o)

-- a refusal, as what was read
abbrev refusal_read : {A : Type 0} → Answer ℕ → Read A
refusal_read (refused x) = bad x.number x.place
refusal_read (accepted n) = bad 0 n

-- what `opening` answers
pub open_wrong : (s b : List ℕ) (v left p at end : ℕ) (x : Refusal) → head_of p (opens s b v left p at end) ≡ refused x
    → step_of (record_at s b v left p at end) ≡ refused x
open_wrong s b v left p at end x e = go (opens s b v left p at end) refl e
  where
    go : (r : Read Head) → opens s b v left p at end ≡ r → head_of p r ≡ refused x → step_of (record_at s b v left p at end) ≡ refused x
    go (got h k) o e = cc
    go (bad m k) o e = ap step_of (record_bad s b v left p at end m k o) ∙ (cc)

pub is_record : (s b : List ℕ) (v left p at end k n f row : ℕ) → Opened s b v left p at end → k ≡ kind_at b at → n ≡ stop_at b at
    → f ≡ first_child k (at + 13) n → row ≡ row_under_of p k
    → accepted (record { first = f; stop = n; row = row }) ≡ head_of p (opens s b v left p at end)
is_record s b v left p at end k n f row o ek en ef er = rw (ef, er, ek, en, is_opened o)

-- what `stop` answers of a record whose shape is right
pub stop_wrong : (s b : List ℕ) (v left p at end : ℕ) (x : Refusal) → shape b v p at end ≡ true → stop_of s b left at ≡ refused x
    → opens s b v left p at end ≡ bad x.number x.place
unfolding opens
stop_wrong s b v left p at end x right e = simp right (go (eqb left 0) (is_range s (be32 b (at + 5)) (be32 b (at + 9))) e)
  where
    go : (t₅ t₆ : Bool)
        → cond t₅ (refused (record { number = 5; place = at })) (cond (not t₆) (refused (record { number = 6; place = at })) (accepted (stop_at b at)))
        ≡ refused x
        → cond t₅ (bad 5 at) (cond (not t₆) (bad 6 at) (got (head_at b at) (head_at b at).first)) ≡ bad x.number x.place
    go true t₆ e = ap refusal_read e
    go false false e = ap refusal_read e
    go false true e = let z : ◌≡◌ {A = ℕ} 0 1 = cc in absurd (omega arith)

pub stop_right : (s b : List ℕ) (v left p at end n : ℕ) → shape b v p at end ≡ true → stop_of s b left at ≡ accepted n
    → Opened s b v left p at end × (n ≡ stop_at b at)
stop_right s b v left p at end n right e = go (eqb left 0) (is_range s (be32 b (at + 5)) (be32 b (at + 9))) refl refl e
  where
    go : (t₅ t₆ : Bool) → eqb left 0 ≡ t₅ → is_range s (be32 b (at + 5)) (be32 b (at + 9)) ≡ t₆
        → cond t₅ (refused (record { number = 5; place = at })) (cond (not t₆) (refused (record { number = 6; place = at })) (accepted (stop_at b at)))
        ≡ accepted n
        → Opened s b v left p at end × (n ≡ stop_at b at)
    go true t₆ a c e = let z : ◌≡◌ {A = ℕ} 0 1 = cc in absurd (omega arith)
    go false false a c e = let z : ◌≡◌ {A = ℕ} 0 1 = cc in absurd (omega arith)
    go false true a c e = (record { more = eqb-false left 0 a; right = shaped b v p at end right; span = c }, cc)

pub record Opens (s b : List ℕ) (v left p at end : ℕ) (o : HeadRead) : Type 0 where
  pub held : Opened s b v left p at end
  pub first : o.first ≡ (head_at b at).first
  pub stop : o.stop ≡ stop_at b at
  pub rows : o.row ≡ row_under_of p (kind_at b at)

pub open_record : (s b : List ℕ) (v left p at end : ℕ) (o : HeadRead) → head_of p (opens s b v left p at end) ≡ accepted o
    → Opens s b v left p at end o
open_record s b v left p at end i e = go (opens s b v left p at end) refl e
  where
    go : (r : Read Head) → opens s b v left p at end ≡ r → head_of p r ≡ accepted i → Opens s b v left p at end i
    go (bad m k) o e = cc
    go (got h k) o e =
        let w = opened s b v left p at end h k o in
        let is = w.1 in
        record {
          held = w.0;
          first = sym (cc) ∙ w.2;
          stop = (cc) ∙ ap (λ (g : Head). g.stop) is;
          rows = (cc) ∙ ap (λ (g : Head). row_under_of p g.kind) is;
        }

-- ---- the loop complete the children
pub spare : (one : ℕ → ℕ → ℕ → Read Tree) (n row at stop : ℕ) → at < stop → row ≡ 0 → children_at one (suc n) row at stop ≡ bad 4 at
unfolding children_at
spare one n row at stop h e = simp (lt-ltb at stop h, eq-eqb row 0 e)

pub missing : (one : ℕ → ℕ → ℕ → Read Tree) (n row at stop : ℕ) → stop ≤ at → complete row ≡ false
    → children_at one (suc n) row at stop ≡ bad 4 at
unfolding children_at
missing one n row at stop h m = simp (le-ltb at stop h, m)

pub ended : (one : ℕ → ℕ → ℕ → Read Tree) (n row at stop : ℕ) → stop ≤ at → complete row ≡ true
    → children_at one (suc n) row at stop ≡ got nil stop
unfolding children_at
ended one n row at stop h m = simp (le-ltb at stop h, m)

-- the rest of a turn, once its child is read
abbrev rest : (ℕ → ℕ → ℕ → Read Tree) → ℕ → ℕ → ℕ → Read Tree → Read Trees
rest one n row stop r = bind r (λ t next. bind (children_at one n (after row) next stop) (λ ts end. got (t ▸ ts) end))

turn : (one : ℕ → ℕ → ℕ → Read Tree) (n row at stop : ℕ) → at < stop → ¬ (row ≡ 0)
    → children_at one (suc n) row at stop ≡ rest one n row stop (one (place row) at stop)
unfolding children_at
turn one n row at stop h f = simp (lt-ltb at stop h, ne_eqb row 0 f)

-- what is made of the trees that were read changes no step
keeps : {A : Type 0} (f : Trees → A) (r : Read Trees) → step_of (bind r (λ ts end. got (f ts) end)) ≡ step_of r
keeps f (got ts n) = refl
keeps f (bad n p) = refl

-- a text has no children: it is read to its end
pub text_read : (s b : List ℕ) (v left at end : ℕ) → Opened s b v left TEXT at end
    → step_of (record_at s b v left TEXT at end) ≡ accepted (stop_at b at)
unfolding row_under_of first_child row_of
text_read s b v zero at end o = absurd (o.more refl)
text_read s b v (suc left) at end o =
    let r = kind_range TEXT (kind_at b at) refl o.right.kind in
    let k : kind_at b at ≡ TEXT = omega (arith, r.0, r.1) in
    ap step_of (record_opens s b v left TEXT at end o)
    ∙ keeps (node (head_at b at)) (within s b v left TEXT at)
    ∙ rw k (ap step_of (ended (child_at s b v left) (length b) 0 (stop_at b at) (stop_at b at) (omega arith) refl))

rest_bad : (one : ℕ → ℕ → ℕ → Read Tree) (n row stop : ℕ) (r : Read Tree) (x : Refusal) → step_of r ≡ refused x
    → step_of (rest one n row stop r) ≡ refused x
rest_bad one n row stop (got t k) x e = let z : ◌≡◌ {A = ℕ} 0 1 = cc in absurd (omega arith)
rest_bad one n row stop (bad k p) x e = e

rest_next : (one : ℕ → ℕ → ℕ → Read Tree) (n row stop : ℕ) (r : Read Tree) (q : ℕ) → step_of r ≡ accepted q
    → step_of (rest one n row stop r) ≡ step_of (children_at one n (after row) q stop)
rest_next one n row stop (got t k) q e =
    let same : k ≡ q = cc in
    keeps (λ ts. t ▸ ts) (children_at one n (after row) k stop) ∙ ap (λ (j : ℕ). step_of (children_at one n (after row) j stop)) same
rest_next one n row stop (bad k p) q e = let z : ◌≡◌ {A = ℕ} 0 1 = cc in absurd (omega arith)

-- the reader h has moved on from r: its place is another, and nothing else
pub record Here (r h : Reader) : Type 0 where
  pub source : h.source.now ≡ r.source.now
  pub image : h.image.now ≡ r.image.now
  pub left : h.left ≡ r.left
  pub end : h.end ≡ r.end

-- The whole reading of the children ends as the reading from here on does, with turns enough for the bytes that are left.
pub record Going (one : ℕ → ℕ → ℕ → Read Tree) (whole : Answer ℕ) (row at stop : ℕ) : Type 0 where
  pub turns : ℕ
  pub enough : stop - at ≤ turns
  pub same : whole ≡ step_of (children_at one (suc turns) row at stop)

pub go_on : (one : ℕ → ℕ → ℕ → Read Tree) (whole : Answer ℕ) (row at stop q : ℕ) → at < stop → ¬ (row ≡ 0)
    → step_of (one (place row) at stop) ≡ accepted q → at < q → Going one whole row at stop → Going one whole (after row) q stop
go_on one whole row at stop q h f e l g = go g.turns g.enough g.same
  where
    go : (n : ℕ) → stop - at ≤ n → whole ≡ step_of (children_at one (suc n) row at stop) → Going one whole (after row) q stop
    go zero le s = absurd (omega arith)
    go (suc n) le s =
        record {
          turns = n;
          enough = omega arith;
          same = s ∙ ap step_of (turn one (suc n) row at stop h f) ∙ rest_next one (suc n) row stop (one (place row) at stop) q e;
        }

pub go_bad : (one : ℕ → ℕ → ℕ → Read Tree) (whole : Answer ℕ) (row at stop : ℕ) (x : Refusal) → at < stop → ¬ (row ≡ 0)
    → step_of (one (place row) at stop) ≡ refused x → Going one whole row at stop → whole ≡ refused x
go_bad one whole row at stop x h f e g =
    g.same ∙ ap step_of (turn one g.turns row at stop h f) ∙ rest_bad one g.turns row stop (one (place row) at stop) x e

-- ---- where a reading stops
abbrev pub EndsAt : {A : Type 0} → ℕ → Read A → Type 0
EndsAt stop (got a n) = n ≡ stop
EndsAt stop (bad n p) = Unit

cond_ends : (stop : ℕ) (t : Bool) (x y : Read Trees) → EndsAt stop x → EndsAt stop y → EndsAt stop (cond t x y)
cond_ends stop true x y p q = p
cond_ends stop false x y p q = q

bind_ends : (stop : ℕ) (r : Read Tree) (k : Tree → ℕ → Read Trees) → ((t : Tree) (n : ℕ) → EndsAt stop (k t n)) → EndsAt stop (bind r k)
bind_ends stop (got t n) k h = h t n
bind_ends stop (bad n p) k h = tt

map_ends : (stop : ℕ) (r : Read Trees) (t : Tree) → EndsAt stop r → EndsAt stop (bind r (λ ts end. got (t ▸ ts) end))
map_ends stop (got ts n) t e = e
map_ends stop (bad n p) t e = tt

-- the children of a record are read up to its end
pub children_end : (one : ℕ → ℕ → ℕ → Read Tree) (n row at stop : ℕ) → EndsAt stop (children_at one n row at stop)
unfolding children_at
children_end one zero row at stop = tt
children_end one (suc n) row at stop =
    cond_ends stop (ltb at stop) _ _
    (cond_ends stop (eqb row 0) (bad 4 at) _ tt
    (bind_ends stop (one (place row) at stop) _
    (λ t next. map_ends stop (children_at one n (after row) next stop) t (children_end one n (after row) next stop))))
    (cond_ends stop (complete row) (got nil stop) (bad 4 at) refl tt)

pub record_steps : (s b : List ℕ) (v left p at end : ℕ) (i : HeadRead) → Opens s b v left p at end i
    → step_of (record_at s b v left p at end) ≡ step_of (children_at (child_at s b v (left - 1)) (suc (length b)) i.row i.first i.stop)
record_steps s b v zero p at end i o = absurd (o.held.more refl)
record_steps s b v (suc left) p at end i o =
    rw (sub-one, o.first, o.stop, o.rows)
    (ap step_of (record_opens s b v left p at end o.held) ∙ keeps (node (head_at b at)) (within s b v left p at))

-- a record that was read takes a byte or more and ends in its parent
pub record_within : (s b : List ℕ) (v left p at end q : ℕ) → step_of (record_at s b v left p at end) ≡ accepted q → (at < q) × (q ≤ end)
record_within s b v left p at end q e = go (opens s b v left p at end) refl
  where
    taken : (d : ℕ) → Opened s b v d p at end → step_of (record_at s b v d p at end) ≡ accepted q → (at < q) × (q ≤ end)
    taken zero o n = absurd (o.more refl)
    taken (suc d) o n = there (within s b v d p at) (children_end _ _ _ _ _) (ap step_of (sym (record_opens s b v d p at end o)) ∙ n)
      where
        there : (r : Read Trees) → EndsAt (stop_at b at) r → step_of (bind r (λ ts next. got (node (head_at b at) ts) next)) ≡ accepted q
            → (at < q) × (q ≤ end)
        there (got ts k) f e = let same : k ≡ q = cc in omega (arith, f, o.right.long, o.right.within)
        there (bad m k) f e = let z : ◌≡◌ {A = ℕ} 0 1 = cc in absurd (omega arith)

    go : (r : Read Head) → opens s b v left p at end ≡ r → (at < q) × (q ≤ end)
    go (bad m k) o =
        let n : refused (record { number = m; place = k }) ≡ accepted q = ap step_of (sym (record_bad s b v left p at end m k o)) ∙ e in
        let z : ◌≡◌ {A = ℕ} 0 1 = cc in
        absurd (omega arith)
    go (got h k) o = taken left (opened s b v left p at end h k o).0 e

pub child_within : (s b : List ℕ) (v left p at end q : ℕ) → step_of (child_at s b v left p at end) ≡ accepted q → (at < q) × (q ≤ end)
child_within s b v left p at end q e = go (skips b p at end) refl e
  where
    go : (t : Bool) → skips b p at end ≡ t → step_of (cond t (got absent (at + 4)) (record_at s b v left (bare p) at end)) ≡ accepted q
        → (at < q) × (q ≤ end)
    go true k e =
        let w = skips_within b p at end k in
        let same : at + 4 ≡ q = cc in
        omega (arith, w.0)
    go false k e = record_within s b v left (bare p) at end q e
