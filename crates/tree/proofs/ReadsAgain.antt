-- What fits, written, is read as what it is, unless a span isn't one of the source's: refusal 6.
-- Assumes nothing.
use mathlib.Core.Path.{◌≡◌, refl, ap, subst, ◌∙◌}
use mathlib.Core.Bool.{Bool, true, false, ◌&&◌, true≢false, false≢true}
use mathlib.Core.List.{List, [], ◌∷◌, ◌++◌, append-nil}
use Prim.Native.Nat.{ℕ, zero, suc, ◌+◌, ◌≤◌, ◌<◌}
use native.Mathlib.Omega.{arith}
use lib.ListN.{length, get_or, length-append}
use lib.Dec.{leb, eqb}
use borrow.Author.Tests.{lt-ltb, le-leb, ne_eqb, eqb-true}
use Rattle.laws.proofs.Booleans.{and_false}
use Rattle.text.specs.Newlines.{is_range}
use Rattle.image.specs.Bytes.{be32, part}
use Rattle.image.specs.Kinds.{TEXT}
use Rattle.image.specs.Grammar.{is_optional, is_list, bare, place, after, top_byte, payload_fits, first_child, row_of, row_under_of, kind_fits_of}
use Rattle.image.specs.Read.{Read, got, bad, bind, Head, head_at, kind_at, stop_at, Tree, Trees}
use Rattle.image.specs.Read.{absent, node, ◌▸◌, opens, skips, child_at, record_at, children_at}
use Rattle.image.specs.Write.{Plain, Plains, without, plainly, ◌next◌, bytes4, content, framed, written, writtens, plain, plains}
use Rattle.image.proofs.Shapes.{Shaped, is_shaped, kind_list}
use Rattle.image.proofs.Reading.{record_bad, record_opens, within, ended}
use Rattle.tree.proofs.Stands.{Stands, stands_within, stands_left, stands_right, stands_part, stands_byte, stands_be32}
use Rattle.tree.proofs.Fits.{front_size, Pays, text, byte, nothing, Fits, fits, FitsRow, ends, gone, here, ranges, ranges_all}

-- ---- a payload
-- a text has no children
row_of_text : (p kind : ℕ) → kind_fits_of p kind ≡ true → eqb kind TEXT ≡ true → row_under_of p kind ≡ 0
unfolding row_under_of row_of
row_of_text p kind h k = go (is_list p) refl
  where
    is : kind ≡ TEXT
    is = eqb-true kind TEXT k

    go : (t : Bool) → is_list p ≡ t → row_under_of p kind ≡ 0
    go true l = let three = kind_list p kind l h in absurd (omega (arith, is))
    go false l = simp (l, is)

no_child : {v left row : ℕ} {xs : Plains} → FitsRow v left row xs → row ≡ 0 → writtens xs ≡ []
unfolding written
no_child (ends c) z = refl
no_child (gone o more) z = absurd (false≢true (rw z at o))
no_child (here n x more) z = absurd (true≢false (rw z at n))

module _ (b : List ℕ) (v from : ℕ) (kids : List ℕ) where
  pub payload_again : {p kind : ℕ} {x : List ℕ} → Pays v p kind x → (eqb kind TEXT ≡ true → kids ≡ []) → Stands b from (x ++ kids)
      → (payload_fits b v p kind from (from + length (x ++ kids)) ≡ true)
      × (first_child kind from (from + length (x ++ kids)) ≡ from + length x)
  unfolding payload_fits first_child
  payload_again {kind = kind} {x = x} (text front t size k w is) none s =
      let long = front_size v front size in
      let alone : x ++ kids ≡ front ++ t = ap (λ (y : List ℕ). x ++ y) (none k) ∙ append-nil x ∙ is in
      let s' : Stands b from (front ++ t) = subst (Stands b from) alone s in
      let whole : length x ≡ length (front ++ t) = ap length is in
      let both : length (front ++ t) ≡ v + length t = length-append front t ∙ ap (λ (n : ℕ). n + length t) long in
      let last : from + length (x ++ kids) ≡ from + v + length t = omega (arith, ap length alone, both) in
      let tail : part (from + v) (from + v + length t) b ≡ t =
      stands_part t _ refl (stands_right front t (from + v) (omega (arith, long)) s')
      in
      (rw (k, last, tail, w, le-leb (from + v) (from + v + length t) (omega arith)), rw (k, last) (omega (arith, whole, both)))
  payload_again {p} {kind} {x} (byte y k h top is) none s =
      let s' : Stands b from (y ∷ kids) = subst (λ (z : List ℕ). Stands b from (z ++ kids)) is s in
      let first : get_or b from 0 ≡ y = stands_byte y kids s' in (
        rw (k, h, is, first, le-leb y (top_byte p kind) top, lt-ltb from (from + suc (length kids)) (omega arith)),
        rw (k, h, is),
      )
  payload_again {kind = kind} {x = x} (nothing k h is) none s = (rw (k, h), rw (k, h, is) (omega arith))

-- ---- the bytes of a record
module _ (b : List ℕ) (at kind from to : ℕ) (x kids : List ℕ) (s : Stands b at (framed (content kind from to x kids))) where
  size_is : be32 b at ≡ length (content kind from to x kids)
  size_is = stands_be32 _ (content kind from to x kids) s

  stop_is : stop_at b at ≡ at + 13 + length (x ++ kids)
  stop_is = rw size_is (omega arith)

  kind_is : kind_at b at ≡ kind
  kind_is = stands_byte kind _ (stands_right (bytes4 (length (content kind from to x kids))) (content kind from to x kids) (at + 4) refl s)

  from_is : be32 b (at + 5) ≡ from
  from_is =
      stands_be32 from (bytes4 to ++ x ++ kids)
      (stands_right (bytes4 (length (content kind from to x kids)) ++ (kind ∷ [])) (bytes4 from ++ bytes4 to ++ x ++ kids) (at + 5) refl s)

  to_is : be32 b (at + 9) ≡ to
  to_is =
      stands_be32 to (x ++ kids)
      (stands_right (bytes4 (length (content kind from to x kids)) ++ (kind ∷ []) ++ bytes4 from) (bytes4 to ++ x ++ kids) (at + 9) refl s)

  inner : Stands b (at + 13) (x ++ kids)
  inner = stands_right (bytes4 (length (content kind from to x kids)) ++ (kind ∷ []) ++ bytes4 from ++ bytes4 to) (x ++ kids) (at + 13) refl s

-- ---- what is read again
-- x, up to q; or refusal 6, where a span isn't one of the source's
abbrev pub Again : List ℕ → List ℕ → Plain → ℕ → Read Tree → Type 0
Again s b x q (got t e) = (plain b t ≡ x) × (e ≡ q)
Again s b x q (bad n e) = (n ≡ 6) × (ranges s x ≡ false)

abbrev pub AgainRow : List ℕ → List ℕ → Plains → ℕ → Read Trees → Type 0
AgainRow s b xs q (got ts e) = (plains b ts ≡ xs) × (e ≡ q)
AgainRow s b xs q (bad n e) = (n ≡ 6) × (ranges_all s xs ≡ false)

-- ---- a record
node_again : (s b : List ℕ) (h : Head) (kind from to : ℕ) (x : List ℕ) (xs : Plains) (q : ℕ) (r : Read Trees) → AgainRow s b xs q r → h.kind ≡ kind
    → h.from ≡ from → h.to ≡ to → part (h.at + 13) h.first b ≡ x
    → Again s b (plainly kind from to x xs) q (bind r (λ ts e. got (node h ts) e))
unfolding plain ranges
node_again s b h kind from to x xs q (got ts e) a k f t y = (rw (k, f, t, y, a.0), a.1)
node_again s b h kind from to x xs q (bad n e) a k f t y = (a.0, rw a.1 (and_false (is_range s from to)))

-- refusal 6 of a record with the right shape
six : (s b : List ℕ) (v left p at end : ℕ) → Shaped b v p at end → is_range s (be32 b (at + 5)) (be32 b (at + 9)) ≡ false
    → record_at s b v (suc left) p at end ≡ bad 6 at
unfolding opens
six s b v left p at end h e =
    record_bad s b v (suc left) p at end 6 at (simp (is_shaped b v p at end h, ne_eqb (suc left) 0 (λ z. omega arith), e))

record_by : (s b : List ℕ) (v left p at end kind from to : ℕ) (x : List ℕ) (xs : Plains) → Stands b at (framed (content kind from to x (writtens xs)))
    → kind_fits_of p kind ≡ true → Pays v p kind x → (eqb kind TEXT ≡ true → writtens xs ≡ []) → at + 13 + length (x ++ writtens xs) ≤ end
    → AgainRow s b xs (at + 13 + length (x ++ writtens xs))
    (children_at (child_at s b v left) (suc (length b)) (row_under_of p kind) (at + 13 + length x) (at + 13 + length (x ++ writtens xs)))
    → Again s b (plainly kind from to x xs) (at + 13 + length (x ++ writtens xs)) (record_at s b v (suc left) p at end)
unfolding ranges
record_by s b v left p at end kind from to x xs st right pays none far a = go (is_range s (be32 b (at + 5)) (be32 b (at + 9))) refl
  where
    kids : List ℕ
    kids = writtens xs

    k : kind_at b at ≡ kind
    k = kind_is b at kind from to x kids st

    stop : stop_at b at ≡ at + 13 + length (x ++ writtens xs)
    stop = stop_is b at kind from to x kids st

    inside : Stands b (at + 13) (x ++ writtens xs)
    inside = inner b at kind from to x kids st

    first : first_child (kind_at b at) (at + 13) (stop_at b at) ≡ at + 13 + length x
    first = rw (k, stop) (payload_again b v (at + 13) (writtens xs) pays none inside).1

    shape : Shaped b v p at end
    shape =
        record {
          long = omega (arith, size_is b at kind from to x kids st);
          within = omega (arith, stop);
          kind = rw k right;
          payload = rw (k, stop) (payload_again b v (at + 13) (writtens xs) pays none inside).0;
        }

    span_is : is_range s from to ≡ is_range s (be32 b (at + 5)) (be32 b (at + 9))
    span_is = rw (from_is b at kind from to x kids st, to_is b at kind from to x kids st)

    goal : Read Tree → Type 0
    goal = Again s b (plainly kind from to x xs) (at + 13 + length (x ++ writtens xs))

    go : (t : Bool) → is_range s (be32 b (at + 5)) (be32 b (at + 9)) ≡ t → goal (record_at s b v (suc left) p at end)
    go false e = rw (six s b v left p at end shape e, span_is, e) (refl, refl)
    go true e =
        rw (record_opens s b v left p at end (record { more = λ z. omega arith; right = shape; span = e }))
        (node_again s b (head_at b at) kind from to x xs _ (within s b v left p at) (rw (first, k, stop) a) k (from_is b at kind from to x kids st)
        (to_is b at kind from to x kids st)
        (rw first (stands_part x _ refl (stands_left x (writtens xs) inside))))

-- ---- children
next_again : (s b : List ℕ) (t : Tree) (x : Plain) (xs : Plains) (q : ℕ) (r : Read Trees) → plain b t ≡ x → AgainRow s b xs q r
    → AgainRow s b (x next xs) q (bind r (λ ts e. got (t ▸ ts) e))
unfolding plain ranges
next_again s b t x xs q (got ts e) is a = (rw (is, a.0), a.1)
next_again s b t x xs q (bad n e) is a = (a.0, rw a.1 (and_false (ranges s x)))

child_again : (s b : List ℕ) (x : Plain) (xs : Plains) (m q : ℕ) (f : Tree → ℕ → Read Trees) (r : Read Tree) → Again s b x m r
    → ((t : Tree) → plain b t ≡ x → AgainRow s b (x next xs) q (f t m)) → AgainRow s b (x next xs) q (bind r f)
unfolding ranges
child_again s b x xs m q f (got t e) a k = rw a.1 (k t a.0)
child_again s b x xs m q f (bad n e) a k = (a.0, rw a.1)

-- a turn is left where a byte is
pub turn_left : (n : ℕ) → 1 ≤ n → (m : ℕ) × (n ≡ suc m)
turn_left zero h = absurd (omega arith)
turn_left (suc m) h = (m, refl)

-- a turn over the children that reads one
turn : (one : ℕ → ℕ → ℕ → Read Tree) (n row at stop : ℕ) → at < stop → eqb row 0 ≡ false
    → children_at one (suc n) row at stop ≡ bind (one (place row) at stop) (λ t m. bind (children_at one n (after row) m stop) (λ ts e. got (t ▸ ts) e))
unfolding children_at
turn one n row at stop h z = simp (lt-ltb at stop h, z)

-- an absent child, and one that is there
skipped : (b : List ℕ) (p at stop : ℕ) → is_optional p ≡ true → at + 4 ≤ stop → be32 b at ≡ 0 → skips b p at stop ≡ true
unfolding skips
skipped b p at stop o h z = simp (o, le-leb (at + 4) stop h, z)

not_skipped : (b : List ℕ) (p at stop : ℕ) → ¬ (be32 b at ≡ 0) → skips b p at stop ≡ false
unfolding skips
not_skipped b p at stop n = rw (ne_eqb (be32 b at) 0 n) (and_false (is_optional p && leb (at + 4) stop))

-- no place is marked `?` where none is left
marked : (row : ℕ) → is_optional (place row) ≡ true → eqb row 0 ≡ false
marked row o = ne_eqb row 0 (λ z. false≢true (rw z at o))

-- a record has bytes, and says so
there : {v left p : ℕ} {x : Plain} → Fits v left p x → 1 ≤ length (written x)
unfolding written
there (fits right order pays row) = omega arith

counted : (b : List ℕ) {v left p : ℕ} {x : Plain} → Fits v left p x → (at : ℕ) → Stands b at (written x) → ¬ (be32 b at ≡ 0)
unfolding written
counted b (fits {kind = kind} {from = from} {to = to} {x = x} {xs = xs} right order pays row) at s none =
    omega (arith, size_is b at kind from to x (writtens xs) s)

mutual
  unfolding written plain

  pub record_again : (s b : List ℕ) (v : ℕ) {left p : ℕ} {x : Plain} → Fits v left p x → (at end : ℕ) → Stands b at (written x) → at + length (written x) ≤ end
      → Again s b x (at + length (written x)) (record_at s b v left p at end)
  record_again s b v (fits {left = left} {p = p} {kind = kind} {from = from} {to = to} {x = x} {xs = xs} right order pays row) at end st far =
      let kids = writtens xs in
      let inside : Stands b (at + 13 + length x) kids = stands_right x kids _ refl (inner b at kind from to x kids st) in
      let size = length-append x kids in
      let last : at + 13 + length (x ++ kids) ≡ at + length (written (plainly kind from to x xs)) = omega arith in
      rw (← last)
      (record_by s b v left p at end kind from to x xs st right pays (λ k. no_child row (row_of_text p kind right k)) (omega arith)
      (row_again s b v row (suc (length b)) (at + 13 + length x) (at + 13 + length (x ++ kids)) (omega (arith, stands_within kids inside)) (omega arith)
      inside))

  pub row_again : (s b : List ℕ) (v : ℕ) {left row : ℕ} {xs : Plains} → FitsRow v left row xs → (n at stop : ℕ) → length (writtens xs) < n
      → stop ≡ at + length (writtens xs) → Stands b at (writtens xs) → AgainRow s b xs stop (children_at (child_at s b v left) n row at stop)
  row_again s b v (ends {left = left} {row = row} c) n at stop more e st =
      let m = turn_left n (omega arith) in
      rw (m.1, ended (child_at s b v left) m.0 row at stop (omega arith) c) (refl, refl)
  row_again s b v (gone {left = left} {row = row} {xs = ys} o rest) n at stop more e st =
      let m = turn_left n (omega arith) in
      let zero-there : be32 b at ≡ 0 = stands_be32 0 (writtens ys) st in
      rw (
        m.1,
        turn (child_at s b v left) m.0 row at stop (omega arith) (marked row o),
        skipped b (place row) at stop o (omega arith) zero-there,
      )
      (next_again s b absent without ys stop (children_at (child_at s b v left) m.0 (after row) (at + 4) stop) refl
      (row_again s b v rest m.0 (at + 4) stop (omega (arith, m.1)) (omega arith) (stands_right (bytes4 0) (writtens ys) (at + 4) refl st)))
  row_again s b v (here {left = left} {row = row} {x = y} {xs = ys} z x rest) n at stop more e st =
      let m = turn_left n (omega arith) in
      let size = length-append (written y) (writtens ys) in
      let long = there x in
      let mine = stands_left (written y) (writtens ys) st in
      let far = stands_right (written y) (writtens ys) (at + length (written y)) refl st in
      rw (
        m.1,
        turn (child_at s b v left) m.0 row at stop (omega arith) z,
        not_skipped b (place row) at stop (λ none. counted b x at mine none),
      )
      (child_again s b y ys (at + length (written y)) stop _ (record_at s b v left (bare (place row)) at stop)
      (record_again s b v x at stop mine (omega arith))
      (λ t is.
      next_again s b t y ys stop (children_at (child_at s b v left) m.0 (after row) (at + length (written y)) stop) is
      (row_again s b v rest m.0 (at + length (written y)) stop (omega (arith, m.1)) (omega arith) far)))
