-- Texts, paths, operators and literals: the records whose children are texts at most.
-- Assumes nothing.
use mathlib.Core.Path.{◌≡◌, refl}
use mathlib.Core.List.{List}
use mathlib.Core.Bool.{true, ◌&&◌}
use Prim.Native.Nat.{ℕ, suc, ◌+◌, ◌-◌, ◌<◌}
use native.Mathlib.Omega.{arith}
use lib.ListN.{get_or}
use lib.Dec.{leb, ltb}
use borrow.Author.Tests.{leb-true}
use Rattle.text.specs.Utf8.{well_formed}
use Rattle.laws.proofs.Booleans.{and_left, and_right}
use Rattle.image.specs.Bytes.{be32, part}
use Rattle.image.specs.Grammar.{list, assign, up_to, row_of, row_under_of, first_child, payload_fits}
use Rattle.image.specs.Read.{width_bytes, Tree, Trees, node, stop_at}
use Rattle.tree.specs.At.{Done, Maybe, IdentAt, IdentsAt, PathAt, ListAt, PatternAt, ByteAt}
use Rattle.tree.specs.Records.{Views, views, each, idents, maybe, list_of}
use Rattle.tree.proofs.Children.{◌∣◌, Perhaps, Elements, Node, All, always, head, before, perhaps, run}

module _ (s b : List ℕ) where
  -- a child that may be absent
  pub optional : {A : Type 0} (d p : ℕ) (f : Views → A) (P : A → ℕ → Type 0) → All s b d p (λ t at. P (f (views b t)) at)
      → (at end : ℕ) (t : Tree) → Perhaps s b d p at end t → Maybe s b P (maybe (views b t).there (f (views b t))) at
  unfolding views Maybe
  optional d p f P w at end =
      perhaps s b d p at end (λ t. Maybe s b P (maybe (views b t).there (f (views b t))) at) (λ a. a) (λ h ts k. w at end (node h ts) k)

  -- a text that starts at `from` in its record
  text_fits : (from stop : ℕ) → leb from stop && well_formed (part from stop b) ≡ true → from + (stop - from) ≡ stop
  text_fits from stop e = let l = leb-true from stop (and_left _ _ e) in omega arith

  text_formed : (from stop : ℕ) → leb from stop && well_formed (part from stop b) ≡ true → well_formed (part from stop b) ≡ true
  text_formed from stop e = and_right (leb from stop) _ e

  pub ident : (d : ℕ) → All s b d 2 (λ t at. IdentAt s b (views b t).ident at)
  unfolding views row_under_of row_of first_child payload_fits
  ident =
      always s b 2 (λ t at. IdentAt s b (views b t).ident at)
      (λ d at end.
      (λ n.
      let stop = stop_at b at in
      let from = at + 13 + width_bytes b in
      record {
        head = head s b n;
        wide = refl;
        starts = refl;
        ends = text_fits from stop n.payload;
        formed = text_formed from stop n.payload;
        clear = n.clear;
      })
      ∣ tt)

  texts : (d end at : ℕ) (c : (ts : Trees) × Elements s b d 2 end ts at) → IdentsAt s b (idents (each b c.0)) at end
  unfolding views IdentsAt
  texts d end =
      run s b d 2 end (λ ts i. IdentsAt s b (idents (each b ts)) i end) (λ i e. e)
      (λ i t ts k more. (ident d _ _ _ k, before s b k, more))

  pub path : (d : ℕ) → All s b d 4 (λ t at. PathAt s b (views b t).path at)
  unfolding views row_under_of row_of first_child
  path =
      always s b 4 (λ t at. PathAt s b (views b t).path at)
      (λ d at end.
      (λ n.
      let (i, ki, more) = n.kids in
      record {
        head = record { span = _; head = head s b n };
        first = ident d _ _ _ ki;
        inside = before s b ki;
        more = texts d (stop_at b at) _ more;
      })
      ∣ tt)

  pub idents_list : (d : ℕ) → All s b d (list 2) (λ t at. ListAt s b (list_of (views b t)) at)
  unfolding views row_under_of first_child
  idents_list =
      always s b (list 2) (λ t at. ListAt s b (list_of (views b t)) at)
      (λ d at end. (λ n. record { head = head s b n; elems = texts d (stop_at b at) (at + 13) n.kids }) ∣ tt)

  -- ---- payload bytes
  pub small : (m at stop : ℕ) → ltb (at + 13) stop && leb (get_or b (at + 13) 0) m ≡ true → get_or b (at + 13) 0 < suc m
  small m at stop e = let l = leb-true (get_or b (at + 13) 0) m (and_right (ltb (at + 13) stop) _ e) in omega arith

  byte_at : {d p at end k : ℕ} (n : Node s b d p at end k) → Done (at + 13 + 1) (stop_at b at)
      → ByteAt s b k (record { start = be32 b (at + 5); end = be32 b (at + 9) }) (get_or b (at + 13) 0) at
  byte_at n e = record { head = head s b n; which = record { byte = refl }; ends = record { same = omega (arith, e.same) } }

  abbrev ByteHere : ℕ → ℕ → Tree → ℕ → Type 0
  ByteHere kind top t at = ByteAt s b kind (views b t).span (views b t).byte at × ((views b t).byte < top)

  pub literal : (d : ℕ) → All s b d 87 (ByteHere 87 4)
  unfolding views row_under_of row_of first_child payload_fits
  literal = always s b 87 (ByteHere 87 4) (λ d at end. (λ n. (byte_at n n.kids, small 3 at (stop_at b at) n.payload)) ∣ tt)

  pub operator : (d : ℕ) → All s b d 86 (ByteHere 86 14)
  unfolding views row_under_of row_of first_child payload_fits
  operator = always s b 86 (ByteHere 86 14) (λ d at end. (λ n. (byte_at n n.kids, small 13 at (stop_at b at) n.payload)) ∣ tt)

  -- under 62
  pub compound_operator : (d : ℕ) → All s b d assign (ByteHere 86 5)
  unfolding views row_under_of row_of first_child payload_fits
  compound_operator = always s b assign (ByteHere 86 5) (λ d at end. (λ n. (byte_at n n.kids, small 4 at (stop_at b at) n.payload)) ∣ tt)

  -- ---- patterns
  pub pattern : (d : ℕ) → All s b d (up_to 82 83) (λ t at. PatternAt s b (views b t).pattern at)
  unfolding views PatternAt row_under_of row_of first_child
  pattern =
      always s b (up_to 82 83) (λ t at. PatternAt s b (views b t).pattern at)
      (λ d at end.
      (λ n. (record { span = _; head = head s b n }, n.kids))
      ∣ (λ n.
      let (i, ki, (is, kis, e)) = n.kids in (
        record { span = _; head = head s b n },
        ident d _ _ _ ki,
        optional d (list 2) list_of (ListAt s b) (idents_list d) _ _ _ kis,
        e,
      ))
      ∣ tt)
