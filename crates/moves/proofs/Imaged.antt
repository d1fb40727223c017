-- A whole image, moved: what was read of it, and its bytes as they are put.
-- Assumes nothing.
use mathlib.Core.Path.{◌≡◌, refl, sym, ap, subst, ◌∙◌}
use mathlib.Core.Bool.{false}
use mathlib.Core.List.{List, [], ◌∷◌, ◌++◌, append_assoc}
use Prim.Native.Nat.{ℕ, ◌+◌, ◌-◌, ◌*◌, ◌%◌, ◌≤◌}
use native.Mathlib.Omega.{arith}
use lib.Dec.{eqb}
use lib.ListN.{length}
use lib.Seq.{sets}
use borrow.Author.Tests.{eqb-true}
use Rattle.image.specs.Bytes.{be16, part}
use Rattle.image.specs.Read.{got, Image, version, read_version}
use Rattle.image.specs.Standing.{Stands}
use Rattle.image.specs.Write.{Bytes, bytes2, bytes4}
use Rattle.image.proofs.Standing.{There, there, tree_ends}
use Rattle.image.proofs.Versions.{two_bytes, no_bytes}
use Rattle.tree.specs.CommentList.{comments_of}
use Rattle.tree.specs.Contents.{pair_bytes}
use Rattle.tree.proofs.Took.{took_two, took_join, took_is}
use Rattle.tree.proofs.WholeFits.{pairs_length, pairs_took}
use Rattle.writer.specs.Stands.{Puts}
use Rattle.writer.proofs.Standing.{puts_join, puts_part, puts_is}
use Rattle.moves.specs.Ways.{version_from, version_to, stored_bytes}
use Rattle.moves.specs.Standing.{TreeThere, ImageThere, tree_bytes, PutsTree, PutsImage}
use Rattle.moves.specs.declared.way.Way.{Way}
use Rattle.moves.specs.declared.way.Way.TheVariants as way
use Rattle.moves.proofs.Turned.{tree_size, puts_framed}

-- ---- what was read
pub record Read-there (w : Way) (b : List ℕ) (i : Image) : Type 0 where
  pub stands : Stands b (stored_bytes w) i.tree i.at (length b)
  pub place : i.at ≡ 7 + 8 * be16 b 5
  pub room : i.at ≤ length b
  pub short : length b ≤ 1048581

pub read_there : (w : Way) (s b : List ℕ) (i : Image) (end : ℕ) → read_version (version_from w) false s b ≡ got i end → Read-there w b i
read_there w s b i end h = go w (there (eqb (version_from w)) false s b i end h)
  where
    go : (w : Way) → There (eqb (version_from w)) b i → Read-there w b i
    go way.Forward t =
        record {
          stands = subst (λ (v : ℕ). Stands b v i.tree i.at (length b)) (two_bytes b (sym (eqb-true 1 (version b) t.may_be))) t.stands;
          place = omega (arith, t.place, t.count);
          room = omega (arith, t.place, t.room);
          short = t.short;
        }
    go way.Back t =
        record {
          stands = subst (λ (v : ℕ). Stands b v i.tree i.at (length b)) (no_bytes b (sym (eqb-true 2 (version b) t.may_be))) t.stands;
          place = omega (arith, t.place, t.count);
          room = omega (arith, t.place, t.room);
          short = t.short;
        }

-- ---- the tree of an image that may be moved
module _ (w : Way) (b : List ℕ) (at : ℕ) (a : ImageThere w b at) where
  pub image_room : (7 ≤ at) × (at ≤ length b)
  image_room =
      let t = read_there w a.source b a.image a.end a.reads in
      (omega (arith, t.place, a.place), omega (arith, t.room, a.place))

  pub tree_there : (pos : ℕ) → pos ≡ at → TreeThere w false b at pos
  tree_there pos e =
      let t = read_there w a.source b a.image a.end a.reads in
      record {
        tree = a.image.tree;
        end = length b;
        stands = rw a.place at t.stands;
        clear = a.clear;
        below = omega arith;
        short = t.short;
      }

  pub tree_last : (pos r : ℕ) (out o : List ℕ) → pos ≡ at → PutsTree w false b at pos out r o → (pos ≤ r) × (r ≤ 2097162)
  tree_last pos r out o e p =
      let t = tree_there pos e in
      let n = tree_size w false b t.tree at t.end t.stands in
      let k = tree_ends b (stored_bytes w) t.tree at t.end t.stands in
      let x = p t.tree t.end t.stands in
      (omega (arith, x.place), omega (arith, x.place, n, k.inside, k.after, t.short))

  -- what stands before the tree, behind the length
  front : Bytes b → (i : Image) → Read-there w b i → part 5 i.at b ≡ bytes2 (length (comments_of b)) ++ pair_bytes (comments_of b)
  unfolding comments_of
  front small i t =
      let n = be16 b 5 in
      rw (pairs_length b n 7)
      (took_is
      (took_join (took_two b 5 7 refl (omega (arith, t.place, t.room))) (pairs_took b n 7 i.at t.place t.room)) small)

  pub image_puts : (last : ℕ) (out o₁ o₂ o₃ o₄ : List ℕ) → Bytes b → o₁ ≡ sets out 0 (version_to w ∷ []) → o₂ ≡ sets o₁ 5 (part 5 at b)
      → PutsTree w false b at at o₂ last o₃ → o₄ ≡ sets o₃ 1 (bytes4 ((last - 5) % 4294967296)) → PutsImage w b out last o₄
  image_puts last out o₁ o₂ o₃ o₄ small e₁ e₂ p e s i end h =
      let t = read_there w s b i end h in
      let u = read_there w a.source b a.image a.end a.reads in
      let place : i.at ≡ at = omega (arith, t.place, u.place, a.place) in
      let low = tree_last at last o₂ o₃ refl p in
      let room = image_room in
      let tree = tree_bytes w false b i.tree in
      let head : Puts (version_to w ∷ []) 0 out 1 o₁ = record { place = refl; output = e₁ } in
      let pairs = puts_part b 5 at 5 at o₁ o₂ (omega (arith, room)) room.1 (omega (arith, room)) e₂ in
      let rest = p i.tree (length b) (rw place at t.stands) in
      let is : part 5 at b ++ tree ≡ bytes2 (length (comments_of b)) ++ (pair_bytes (comments_of b) ++ tree) =
      ap (λ (x : List ℕ). x ++ tree) (rw place at (front small i t))
      ∙ append_assoc (bytes2 (length (comments_of b))) (pair_bytes (comments_of b)) tree in
      let body = puts_is is (puts_join pairs rest) in
      let n : last - 5 ≡ last - 1 - 4 = omega arith in
      puts_join head
      (puts_framed _ 1 last o₁ o₃ o₄ body (omega (arith, low)) (e ∙ ap (λ (m : ℕ). sets o₃ 1 (bytes4 (m % 4294967296))) n))
