-- The tree of an accepted image stands at its offset: what the reader read, as a syntax tree, is what layout finds by walking the image.
-- Assumes nothing.
use mathlib.Core.Path.{◌≡◌, sym, ap}
use mathlib.Core.List.{List}
use mathlib.Core.Bool.{Bool, true, false, cond, not, false≢true}
use Prim.Native.Nat.{ℕ, ◌<◌}
use native.Mathlib.Omega.{arith}
use lib.ListN.{length, get_or, get_or-eq_default}
use lib.Dec.{lit≤}
use Rattle.text.specs.Utf8.{prefix, well_formed, within}
use Rattle.image.specs.Grammar.{any_declaration, row_of, row_under_of, first_child}
use Rattle.image.specs.Read.{got, bad, Tree, Trees, Image, width_bytes, any_version, stop_at}
use Rattle.image.specs.Read.{tree_at, read_image, source_fits, read_with, read_earlier, document_of, outcome}
use Rattle.image.proofs.Shapes.{is_got}
use Rattle.image.proofs.Accepted.{Root, rooted}
use Rattle.tree.specs.At.{Clear, IdentAt, DeclarationsAt, TreeAt}
use Rattle.tree.specs.Records.{views, each, declarations, syntax_tree}
use Rattle.tree.proofs.Children.{THREE_BYTES, ◌∣◌, Elements, All, all, kid, head, before, perhaps_before, run}
use Rattle.tree.proofs.Texts.{optional, ident}
use Rattle.tree.proofs.Declarations.{declaration_at}

module _ (s b : List ℕ) where
  declarations_at : (end at : ℕ) (c : (ts : Trees) × Elements s b 63 any_declaration end ts at) → DeclarationsAt s b (declarations (each b c.0)) at end
  unfolding views DeclarationsAt
  declarations_at end =
      run s b 63 any_declaration end (λ ts i. DeclarationsAt s b (declarations (each b ts)) i end) (λ i e. e)
      (λ i t ts k more. (declaration_at s b 62 (lit≤ tt) _ _ _ k, before s b k, more))

  abbrev TreeHere : Tree → ℕ → Type 0
  TreeHere t at = stop_at b at ≡ length b → TreeAt s b (syntax_tree b t) at

  one_tree : All s b 64 1 TreeHere
  unfolding views syntax_tree row_under_of row_of first_child
  one_tree =
      all s b 63 1 TreeHere
      (λ at end.
      (λ n e.
      let (i, ki, ds) = n.kids in
      record {
        head = record { span = _; head = head s b n };
        shebang = optional s b 63 2 (λ x. x.ident) (IdentAt s b) (ident s b 63) _ _ _ ki;
        inside = perhaps_before s b 63 2 _ _ _ ki;
        declarations = declarations_at (stop_at b at) _ ds;
        end = e;
      })
      ∣ tt)

  -- a tree that was read up to the image's end
  end_clear : Clear b (length b)
  unfolding within
  end_clear = let z : get_or b (length b) 0 ≡ 0 = get_or-eq_default b 0 (omega arith) in record { starts = rw z }

  pub tree_at_lem : (at : ℕ) (t : Tree) → length b < THREE_BYTES → tree_at s b (width_bytes b) 1 at ≡ got t (length b) → TreeAt s b (syntax_tree b t) at
  unfolding tree_at
  tree_at_lem at t small h =
      let k = kid s b 64 1 at (length b) t (length b) (omega arith) small (λ w q. rw (← q) end_clear) h in
      one_tree at (length b) t k.1 (sym k.0)

  pub root_at : (may : ℕ → Bool) (ordered : Bool) (n at : ℕ) (r : Root may ordered s b n at) → TreeAt s b (syntax_tree b r.tree) at
  root_at may ordered n at r = tree_at_lem at r.tree (omega (arith, r.head.size, r.head.short)) r.reads

  -- The tree of an accepted image, whichever versions may be read, and whichever rule its comment list was read by.
  pub image_stands : (may : ℕ → Bool) (ordered : Bool) (i : Image) (q : ℕ) → read_image may ordered s b ≡ got i q
      → TreeAt s b (syntax_tree b i.tree) i.at
  image_stands may ordered i q h =
      let r = rooted may ordered s b (document_of i) (ap outcome h) in
      let same : record { comments = i.comments; tree = r.tree; at = i.at } ≡ i = cc r.whole in
      rw (← ap (λ (j : Image). j.tree) same) (root_at may ordered i.comments i.at r)

  -- The same of source and image, by the earlier rule at least.
  pub stands : (i : Image) (q : ℕ) → read_earlier s b ≡ got i q → TreeAt s b (syntax_tree b i.tree) i.at
  unfolding read_with
  stands i q h = go (source_fits s) (well_formed s) h
    where
      go : (x y : Bool) → cond (not x) (bad 1 0) (cond (not y) (bad 2 (prefix s)) (read_image any_version false s b)) ≡ got i q
          → TreeAt s b (syntax_tree b i.tree) i.at
      go true true h = image_stands any_version false i q h
      go true false h = absurd (false≢true (ap is_got h))
      go false y h = absurd (false≢true (ap is_got h))
