-- What a record must be to stand at a place, whether it is given by steps or by bytes: the tests of the writer and of the reader, without either.
-- Assumes nothing.
use mathlib.Core.Path.{◌≡◌, sym, ap, ◌∙◌}
use mathlib.Core.Bool.{Bool, true, false, cond, ◌&&◌}
use mathlib.Core.List.{List, [], ◌∷◌, ◌++◌}
use Prim.Native.Nat.{ℕ, suc, ◌≤◌, ◌<◌}
use lib.Dec.{ltb, leb, eqb}
use lib.ListN.{length}
use Rattle.text.specs.Utf8.{well_formed}
use Rattle.text.specs.Newlines.{is_range}
use Rattle.image.specs.Read.{source_fits}
use Rattle.image.specs.Kinds.{TREE, TEXT}
use Rattle.image.specs.Limits.{MAX_COMMENTS, MAX_RECORDS_DEEP}
use Rattle.image.specs.Grammar.{is_optional, bare, place, after, complete, row_under_of, kind_fits_of, has_byte, top_byte}
use Rattle.image.specs.Write.{bytes2, Plain, Plains, without, plainly, done, ◌next◌}
use Rattle.ast.specs.Syntax.{Span}
use Rattle.tree.specs.Contents.{Contents}

-- the bytes of a text's width, of which there are v: two or none
pub data Front (v : ℕ) (x : List ℕ) : Type 0 where
  two : (width : ℕ) → v ≡ 2 → x ≡ bytes2 width → Front v x
  none : v ≡ 0 → x ≡ [] → Front v x

pub front_size : (v : ℕ) (x : List ℕ) → Front v x → length x ≡ v
front_size v x (two width e is) = ap length is ∙ sym e
front_size v x (none e is) = ap length is ∙ sym e

-- the payload x of a record of this kind at place p
pub data Pays (v p kind : ℕ) (x : List ℕ) : Type 0 where
  text : (front t : List ℕ) → Front v front → eqb kind TEXT ≡ true → well_formed t ≡ true → x ≡ front ++ t → Pays v p kind x
  byte : (y : ℕ) → eqb kind TEXT ≡ false → has_byte kind ≡ true → y ≤ top_byte p kind → x ≡ y ∷ [] → Pays v p kind x
  nothing : eqb kind TEXT ≡ false → has_byte kind ≡ false → x ≡ [] → Pays v p kind x

-- a record at place p, with a width of v bytes in each text, with `left` levels of records, and the children at the places of a row
mutual
  pub data Fits (v : ℕ) : ℕ → ℕ → Plain → Type 0 where
    fits : {left p kind from to : ℕ} {x : List ℕ} {xs : Plains} → kind_fits_of p kind ≡ true → from ≤ to → Pays v p kind x
        → FitsRow v left (row_under_of p kind) xs → Fits v (suc left) p (plainly kind from to x xs)

  pub data FitsRow (v : ℕ) : ℕ → ℕ → Plains → Type 0 where
    ends : {left row : ℕ} → complete row ≡ true → FitsRow v left row done
    gone : {left row : ℕ} {xs : Plains} → is_optional (place row) ≡ true → FitsRow v left (after row) xs → FitsRow v left row (without next xs)
    here : {left row : ℕ} {x : Plain} {xs : Plains} → eqb row 0 ≡ false → Fits v left (bare (place row)) x → FitsRow v left (after row) xs
        → FitsRow v left row (x next xs)

-- every span is one of the source
unfoldable mutual
  pub ranges : List ℕ → Plain → Bool
  ranges s without = true
  ranges s (plainly kind from to x xs) = is_range s from to && ranges_all s xs

  pub ranges_all : List ℕ → Plains → Bool
  ranges_all s done = true
  ranges_all s (x next xs) = ranges s x && ranges_all s xs

-- ---- comments
-- none empty or reversed, each in the source, and where they are in order, each behind the one before
unfoldable pub comments_fit : Bool → List ℕ → ℕ → List Span → Bool
comments_fit ordered s least [] = true
comments_fit ordered s least (c ∷ cs) =
    (leb least c.start && ltb c.start c.end && is_range s c.start c.end) && comments_fit ordered s (cond ordered c.end 0) cs

-- n at most, none empty or reversed
pub data Listing : ℕ → List Span → Type 0 where
  no_more : {n : ℕ} → Listing n []
  one_more : {n : ℕ} {c : Span} {cs : List Span} → c.start < c.end → Listing n cs → Listing (suc n) (c ∷ cs)

-- ---- the whole
pub record FitsAll (v : ℕ) (c : Contents) : Type 0 where
  pub listing : Listing MAX_COMMENTS c.comments
  pub tree : Fits v MAX_RECORDS_DEEP TREE c.tree

-- the source is one that an image of these contents fits
pub record Suits (ordered : Bool) (s : List ℕ) (c : Contents) : Type 0 where
  pub short : source_fits s ≡ true
  pub formed : well_formed s ≡ true
  pub listed : comments_fit ordered s 0 c.comments ≡ true
  pub spans : ranges s c.tree ≡ true
