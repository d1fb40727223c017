-- What a source and an image read as: document 01, "The tree image", and refusals 1 to 7 of "When a call is turned down".
-- s is the source and b the image. An offset `at` counts from b's first byte.
use Rattle.std.specs.Prelude.{◌≡◌, List, [], ◌∷◌, Bool, true, false, cond, not, ◌&&◌, ◌||◌, ℕ, zero, suc, ◌+◌, ◌*◌, length}
use Rattle.std.specs.Prelude.{get_or, ltb, leb, eqb, Option, None, Some, Result}
use Rattle.refusals.specs.Refusals.{Refusal, is_one_of}
use Rattle.refusals.specs.Answers.{Answer, refused, accepted}
use Rattle.refusals.specs.Reasons.{answer_of}
use Rattle.refusals.specs.declared.Refused.{Refused}
use Rattle.text.specs.Utf8.{prefix, well_formed}
use Rattle.text.specs.Newlines.{is_range}
use Rattle.image.specs.Bytes.{be16, be32}
use Rattle.image.specs.Limits.{MAX_SOURCE, MAX_BODY, MAX_COMMENTS, MAX_RECORDS_DEEP}
use Rattle.image.specs.Grammar.{is_optional, bare, place, after, complete, row_under_of, kind_fits_of, payload_fits, first_child}
use Rattle.image.specs.declared.Document.{Document}

-- ---- what is read
-- a record: its offset, kind and span, where its payload ends and where it ends
pub record Head : Type 0 where
  pub at : ℕ
  pub kind : ℕ
  pub from : ℕ
  pub to : ℕ
  pub first : ℕ
  pub stop : ℕ

-- what stands at a child's place, and the children of a record in order
mutual
  pub data Tree : Type 0 where
    absent : Tree
    node : Head → Trees → Tree

  pub data Trees : Type 0 where
    nil : Trees
    ◌▸◌ : Tree → Trees → Trees

infixr 40 ◌▸◌
-- an image: the number of its comments, its tree, and the tree's offset
pub record Image : Type 0 where
  pub comments : ℕ
  pub tree : Tree
  pub at : ℕ

-- what was read and where the reading stopped, or a refusal's number and place
pub data Read (A : Type 0) : Type 0 where
  got : A → ℕ → Read A
  bad : ℕ → ℕ → Read A

-- one reading after the other: the first refusal stands
abbrev pub bind : {A B : Type 0} → Read A → (A → ℕ → Read B) → Read B
bind (got a n) k = k a n
bind (bad n p) k = bad n p

-- ---- the version
-- "One version byte"
abbrev pub version : List ℕ → ℕ
version b = get_or b 0 0

-- how many bytes a text's width has: two in version 1, none in version 2
unfoldable pub width_bytes : List ℕ → ℕ
width_bytes b = cond (eqb (version b) 1) 2 0

-- the width of the text at `at`, as it is stored; 0 where it isn't
unfoldable pub stored_width : List ℕ → ℕ → ℕ
stored_width b at = cond (eqb (version b) 1) (be16 b (at + 13)) 0

-- ---- refusal 3
-- five bytes at least, version 1 or 2, the length of the bytes that follow, and no more of them than allowed
unfoldable pub header : List ℕ → Bool
header b = leb 5 (length b) && (eqb (version b) 1 || eqb (version b) 2) && eqb (5 + be32 b 1) (length b) && leb (be32 b 1) MAX_BODY

-- the versions that an entry reads, where it names none: "Version byte 2 is now accepted"
abbrev pub any_version : ℕ → Bool
any_version v = eqb v 1 || eqb v 2

-- no refusal 3, where the version must be one that may be read
abbrev pub header_fits : (ℕ → Bool) → List ℕ → Bool
header_fits may b = header b && may (version b)

-- ---- refusal 7
-- the pair at `at` is a comment: not empty or reversed, in the source and on boundaries; it starts at `least` or after it
unfoldable pub comment_fits : List ℕ → List ℕ → ℕ → ℕ → Bool
comment_fits s b least at =
    leb least (be32 b at) && ltb (be32 b at) (be32 b (at + 4)) && is_range s (be32 b at) (be32 b (at + 4))

-- n comments from `at` on; if `ordered`, each starts at the end of the one before or after it
unfoldable pub comments_from : Bool → List ℕ → List ℕ → ℕ → ℕ → ℕ → Read Unit
comments_from ordered s b zero least at = got tt at
comments_from ordered s b (suc n) least at =
    cond (comment_fits s b least at) (comments_from ordered s b n (cond ordered (be32 b (at + 4)) 0) (at + 8)) (bad 7 at)

-- the comment list, with its count tested first
unfoldable pub comments : Bool → List ℕ → List ℕ → Read Unit
comments ordered s b =
    cond (leb 7 (length b) && leb (be16 b 5) MAX_COMMENTS && leb (7 + 8 * be16 b 5) (length b)) (comments_from ordered s b (be16 b 5) 0 7) (bad 7 5)

-- ---- refusals 4, 5 and 6, in reading order
-- where the record at `at` ends
abbrev pub stop_at : List ℕ → ℕ → ℕ
stop_at b at = at + 4 + be32 b at

-- its kind
abbrev pub kind_at : List ℕ → ℕ → ℕ
kind_at b at = get_or b (at + 4) 0

-- what its bytes say of it
abbrev pub head_at : List ℕ → ℕ → Head
head_at b at =
    record {
      at = at;
      kind = kind_at b at;
      from = be32 b (at + 5);
      to = be32 b (at + 9);
      first = first_child (kind_at b at) (at + 13) (stop_at b at);
      stop = stop_at b at;
    }

-- the record at `at` is not too short, doesn't outgrow `end`, and has a kind and a payload right at place p; a text's width has v bytes.
-- (With fewer than four bytes up to `end` it outgrows `end`, whatever its length is read as.)
unfoldable pub shape : List ℕ → ℕ → ℕ → ℕ → ℕ → Bool
shape b v p at end =
    leb 9 (be32 b at) && leb (stop_at b at) end && kind_fits_of p (kind_at b at) && payload_fits b v p (kind_at b at) (at + 13) (stop_at b at)

-- 4, 5 and 6 of the record at `at`, where `left` levels of records are left; it is read to its first child
unfoldable pub opens : List ℕ → List ℕ → ℕ → ℕ → ℕ → ℕ → ℕ → Read Head
opens s b v left p at end =
    cond (not (shape b v p at end)) (bad 4 at)
    (cond (eqb left 0) (bad 5 at)
    (cond (not (is_range s (be32 b (at + 5)) (be32 b (at + 9)))) (bad 6 at)
    (got (head_at b at) (head_at b at).first)))

-- the children from `at` to `stop`, at the places of the row; `one` reads one. A child has a byte at least, so that n turns, one more than
-- there are bytes, never run out
unfoldable pub children_at : (ℕ → ℕ → ℕ → Read Tree) → ℕ → ℕ → ℕ → ℕ → Read Trees
children_at one zero row at stop = bad 4 at
children_at one (suc n) row at stop =
    cond (ltb at stop)
    (cond (eqb row 0) (bad 4 at)
    (bind (one (place row) at stop) (λ t next. bind (children_at one n (after row) next stop) (λ ts end. got (t ▸ ts) end))))
    (cond (complete row) (got nil stop) (bad 4 at))

-- length 0 alone, at a place marked `?`
unfoldable pub skips : List ℕ → ℕ → ℕ → ℕ → Bool
skips b p at end = is_optional p && leb (at + 4) end && eqb (be32 b at) 0

-- a child at place p: absent, or the record that `one` reads
abbrev pub child_by : List ℕ → (ℕ → ℕ → ℕ → Read Tree) → ℕ → ℕ → ℕ → Read Tree
child_by b one p at end = cond (skips b p at end) (got absent (at + 4)) (one (bare p) at end)

-- the record at `at`, at place p of a parent that ends at `end`
unfoldable pub record_at : List ℕ → List ℕ → ℕ → ℕ → ℕ → ℕ → ℕ → Read Tree
record_at s b v zero p at end = bind (opens s b v 0 p at end) (λ h first. bad 5 at)
record_at s b v (suc left) p at end =
    bind (opens s b v (suc left) p at end)
    (λ h first.
    bind (children_at (child_by b (record_at s b v left)) (suc (length b)) (row_under_of p h.kind) first h.stop) (λ ts next. got (node h ts) next))

-- the child at `at`, at place p of a parent that ends at `end`
abbrev pub child_at : List ℕ → List ℕ → ℕ → ℕ → ℕ → ℕ → ℕ → Read Tree
child_at s b v left = child_by b (record_at s b v left)

-- the record at `at`, read as if it were the tree
unfoldable pub tree_at : List ℕ → List ℕ → ℕ → ℕ → ℕ → Read Tree
tree_at s b v p at = record_at s b v MAX_RECORDS_DEEP p at (length b)

-- ---- the whole
-- the tree at `at`, and nothing after it
unfoldable pub read_tree : List ℕ → List ℕ → ℕ → ℕ → Read Image
read_tree s b v at =
    bind (tree_at s b v 1 at)
    (λ t next. cond (ltb next (length b)) (bad 4 next) (got (record { comments = be16 b 5; tree = t; at = at }) next))

-- refusals 3, 7, then 4, 5 and 6: the header, the comments, the tree; of the versions that may be read, the comments in order or not
unfoldable pub read_image : (ℕ → Bool) → Bool → List ℕ → List ℕ → Read Image
read_image may ordered s b =
    cond (not (header_fits may b)) (bad 3 0)
    (bind (comments ordered s b) (λ done at. read_tree s b (width_bytes b) at))

-- no refusal 1
unfoldable pub source_fits : List ℕ → Bool
source_fits s = leb (length s) MAX_SOURCE

-- refusals 1 to 7, in the table's order
unfoldable pub read_with : (ℕ → Bool) → Bool → List ℕ → List ℕ → Read Image
read_with may ordered s b =
    cond (not (source_fits s)) (bad 1 0) (cond (not (well_formed s)) (bad 2 (prefix s)) (read_image may ordered s b))

-- one version alone
abbrev pub read_version : ℕ → Bool → List ℕ → List ℕ → Read Image
read_version n = read_with (eqb n)

-- "a comment must start at or after the end of the one before" (document 02, 10)
abbrev pub read_all : List ℕ → List ℕ → Read Image
read_all = read_with any_version true

-- "the earlier rule": comments may overlap and run backwards
abbrev pub read_earlier : List ℕ → List ℕ → Read Image
read_earlier = read_with any_version false

-- "For images already archived, an archive entry reads by the earlier rule": by whether it is that entry
abbrev pub read_by : Bool → List ℕ → List ℕ → Read Image
read_by archive = read_with any_version (not archive)

-- what the strict rule accepts, the earlier one accepts with the same tree
abbrev pub StrictIsEarlier : Type 0
StrictIsEarlier =
    (may : ℕ → Bool) (s b : List ℕ) (i : Image) (end : ℕ) → read_with may true s b ≡ got i end → read_with may false s b ≡ got i end

-- ---- the answer of `check`
-- the number of comments, and the tree's offset
abbrev pub document_of : Image → Document
document_of i = record { comments = i.comments; tree = i.at }

-- "Number and place are all that comes back."
abbrev pub outcome : Read Image → Answer Document
outcome (got i end) = accepted (document_of i)
outcome (bad n p) = refused (record { number = n; place = p })

-- the refusal of what was read, an image or another thing
abbrev pub read_refusal : {A : Type 0} → Read A → Option Refusal
read_refusal (got a end) = None
read_refusal (bad n p) = Some (record { number = n; place = p })

-- source and image are accepted by the earlier rule at least, with so many comments and the tree there
pub record Accepts (s b : List ℕ) (d : Document) : Type 0 where
  pub answer : outcome (read_earlier s b) ≡ accepted d

-- what `check` promises of its answer
abbrev pub Checks : List ℕ → List ℕ → Result Document Refused → Type 0
Checks s b r = answer_of (λ d. d) r ≡ outcome (read_all s b)

-- the numbers under which the reader refuses, in the table's order; proofs/Numbers.antt shows that there is no other
abbrev pub reader_numbers : List ℕ
reader_numbers = 1 ∷ 2 ∷ 3 ∷ 7 ∷ 4 ∷ 5 ∷ 6 ∷ []

abbrev pub ReadNumbers : Type 0
ReadNumbers = (archive : Bool) (s b : List ℕ) (n p : ℕ) → read_by archive s b ≡ bad n p → is_one_of n reader_numbers ≡ true

-- ---- the code's answers to a part
-- where the reading of a part goes on
abbrev pub step_of : {A : Type 0} → Read A → Answer ℕ
step_of (got a n) = accepted n
step_of (bad n p) = refused (record { number = n; place = p })
