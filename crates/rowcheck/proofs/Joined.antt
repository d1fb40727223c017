-- The nodes of a row's parts taken together: what they add at most is what the row's node adds beside its own.
-- Assumes nothing.
use mathlib.Core.Path.{◌≡◌, refl, ap, sym, ◌∙◌}
use Prim.Native.Nat.{ℕ, zero, suc, ◌+◌, ◌*◌, ◌-◌, ◌≤◌, ◌<◌}
use native.Mathlib.Omega.{arith}
use native.Mathlib.Numerals.{add-one}
use mathlib.Core.Bool.{Bool, true, false, cond, ◌&&◌, ◌||◌}
use mathlib.Core.List.{List}
use lib.Dec.{ltb, leb, eqb}
use borrow.Author.Tests.{ltb-true, leb-true, eqb-true}
use Rattle.laws.proofs.Booleans.{both}
use Rattle.rows.specs.Node.{Node, Nodes, none, ◌then◌, join, group, indent, indent_next, call, if_wrap}
use Rattle.rows.specs.View.{View, cell, view_of, first_of, nodes_at, node_at}
use Rattle.rows.specs.Nesting.{RangeIn, Split, TwoParts}
use Rattle.rows.proofs.Decode.{nodes_none, nodes_some, node_group, node_indent, node_next, node_parent, node_comment, node_str, node_ascii}
use Rattle.rows.proofs.Decode.{node_line, node_empty, node_space, node_if, node_call}
use Rattle.renderer_rules.specs.Check.{reaches, is_leaf, has_two, is_split, parts_fit}
use Rattle.renderer_rules.specs.Most.{node_most, nodes_most}
use Rattle.rowcheck.specs.Needs.{row_most, steps_of}

-- ---- a range that is cut at a row that is reached
reach_step : (v : View) (a b c : ℕ) (t r : Bool) → eqb a b ≡ t → cond t true (ltb a (v.after a) && (leb (v.after a) b && r)) ≡ true → b ≤ c
    → (r ≡ true → nodes_at v (v.after a) c ≡ join (nodes_at v (v.after a) b) (nodes_at v b c))
    → nodes_at v a c ≡ join (nodes_at v a b) (nodes_at v b c)
unfolding join
reach_step v a b c true r q e h f =
    let same = eqb-true a b q in
    rw (same, nodes_none v b b (omega arith))
reach_step v a b c false r q e h f =
    let x = both (ltb a (v.after a)) (leb (v.after a) b && r) e in
    let y = both (leb (v.after a) b) r x.1 in
    let l = ltb-true a (v.after a) x.0 in
    let m = leb-true (v.after a) b y.0 in
    rw (nodes_some v a c (record { up = l; to = omega arith }), nodes_some v a b (record { up = l; to = m }), f y.1)

reach_join : (n : ℕ) (v : View) (a b c : ℕ) → reaches n v a b ≡ true → b ≤ c → nodes_at v a c ≡ join (nodes_at v a b) (nodes_at v b c)
unfolding reaches join
reach_join zero v a b c e h = let same = eqb-true a b e in rw (same, nodes_none v b b (omega arith))
reach_join (suc n) v a b c e h = reach_step v a b c (eqb a b) (reaches n v (v.after a) b) refl e h (λ r. reach_join n v (v.after a) b c r h)

join_none : (ns : Nodes) → join ns none ≡ ns
unfolding join
join_none none = refl
join_none (n then ns) = ap (λ (x : Nodes). n then x) (join_none ns)

most_join : (ns ms : Nodes) (m : ℕ) → nodes_most (join ns ms) m ≡ nodes_most ns m + nodes_most ms m
unfolding join node_most
most_join none ms m = omega arith
most_join (n then ns) ms m = omega (arith, most_join ns ms m)

-- ---- by what the check of a row's parts finds
module _ (v : View) (i : ℕ) where
  two_parts : has_two v i ≡ true → TwoParts v i
  two_parts e =
      let x =
      both (ltb (suc i) (v.second i) && ltb (v.second i) (v.after i))
      (eqb (v.after (suc i)) (v.second i) && eqb (v.after (v.second i)) (v.after i)) e
      in
      let y = both (ltb (suc i) (v.second i)) (ltb (v.second i) (v.after i)) x.0 in
      let z = both (eqb (v.after (suc i)) (v.second i)) (eqb (v.after (v.second i)) (v.after i)) x.1 in
      record {
        first = eqb-true (v.after (suc i)) (v.second i) z.0;
        second = eqb-true (v.after (v.second i)) (v.after i) z.1;
        up = ltb-true (suc i) (v.second i) y.0;
        to = ltb-true (v.second i) (v.after i) y.1;
      }

  -- the two parts of an `IfWrap`
  two_nodes : TwoParts v i
      → nodes_at v (suc i) (v.after i)
      ≡ (first_of (nodes_at v (suc i) (v.second i)) then (first_of (nodes_at v (v.second i) (v.after i)) then none))
  two_nodes t =
      let a = t.first in
      let b = t.second in
      let c = t.up in
      let d = t.to in
      rw (
        nodes_some v (suc i) (v.after i) (record { up = omega arith; to = omega arith }),
        nodes_some v (suc i) (v.second i) (record { up = omega arith; to = omega arith }),
        a,
        nodes_some v (v.second i) (v.after i) (record { up = omega arith; to = omega arith }),
        b,
        nodes_none v (v.after i) (v.after i) (omega arith),
      )

  -- the parts of a `Call`, the first up to where the second starts
  record Cut : Type 0 where
    split : Split v i
    joined : nodes_at v (suc i) (v.after i) ≡ join (nodes_at v (suc i) (v.second i)) (nodes_at v (v.second i) (v.after i))

  cut_by : (t r : Bool) → eqb (v.second i) (v.after i) ≡ t → reaches (v.after i - i) v (suc i) (v.second i) ≡ r
      → (t || ((ltb i (v.second i) && ltb (v.second i) (v.after i)) && r)) ≡ true
      → i < v.after i
      → Cut
  cut_by true r p q x h =
      let same = eqb-true (v.second i) (v.after i) p in
      record {
        split = record { up = omega arith; to = omega arith };
        joined = rw (same, nodes_none v (v.after i) (v.after i) (omega arith)) (sym (join_none (nodes_at v (suc i) (v.after i))));
      }
  cut_by false r p q x h =
      let z = both (ltb i (v.second i) && ltb (v.second i) (v.after i)) r x in
      let y = both (ltb i (v.second i)) (ltb (v.second i) (v.after i)) z.0 in
      let a = ltb-true i (v.second i) y.0 in
      let b = ltb-true (v.second i) (v.after i) y.1 in
      record {
        split = record { up = a; to = omega arith };
        joined = reach_join (v.after i - i) v (suc i) (v.second i) (v.after i) (q ∙ z.1) (omega arith);
      }

  cut : is_split v i ≡ true → i < v.after i → Cut
  cut e h = cut_by (eqb (v.second i) (v.after i)) (reaches (v.after i - i) v (suc i) (v.second i)) refl refl e h

-- ---- a row, and its parts
module _ (s : List ℕ) (i m : ℕ) where
  abbrev v : View
  v = view_of s

  abbrev parts : Nodes
  parts = nodes_at v (suc i) (v.after i)

  same_margin : (ns : Nodes) → nodes_most ns m ≡ 0 + nodes_most ns (m + 0)
  same_margin ns = omega (arith, ap (nodes_most ns) (let z : m + 0 ≡ m = omega arith in z))

  next_margin : (ns : Nodes) → nodes_most ns (suc m) ≡ nodes_most ns (m + 1)
  next_margin ns = ap (nodes_most ns) (sym (add-one m))

  bare : (n : Node) (k : ℕ) → node_at v i ≡ n → is_leaf v i ≡ true → node_most n m ≡ k → node_most (node_at v i) m ≡ k + nodes_most parts (m + 0)
  unfolding node_most
  bare n k e l f =
      let after = eqb-true (v.after i) (suc i) l in
      let empty = ap (λ (ns : Nodes). nodes_most ns (m + 0)) (nodes_none v (suc i) (v.after i) (omega arith)) in
      rw e (omega (arith, f, empty))

  by_kind : (k : ℕ) → v.kind i ≡ k → parts_fit v i k ≡ true → i < v.after i
      → node_most (node_at v i) m ≡ row_most m s i k + nodes_most parts (m + steps_of k)
  unfolding node_most parts_fit view_of
  by_kind zero e p h = rw (node_group v i e) (same_margin parts)
  by_kind (suc zero) e p h = rw (node_indent v i e) (omega (arith, next_margin parts))
  by_kind (suc (suc zero)) e p h = rw (node_next v i e) (omega (arith, next_margin parts))
  by_kind (suc (suc (suc zero))) e p h = bare _ 0 (node_parent v i e) p refl
  by_kind (suc (suc (suc (suc zero)))) e p h = bare _ _ (node_comment v i e) p refl
  by_kind (suc (suc (suc (suc (suc zero))))) e p h = bare _ _ (node_str v i e) p refl
  by_kind (suc (suc (suc (suc (suc (suc zero)))))) e p h = bare _ _ (node_ascii v i e) p refl
  by_kind (suc (suc (suc (suc (suc (suc (suc zero))))))) e p h = bare _ _ (node_line v i e) p refl
  by_kind (suc (suc (suc (suc (suc (suc (suc (suc zero)))))))) e p h = bare _ _ (node_empty v i e) p refl
  by_kind (suc (suc (suc (suc (suc (suc (suc (suc (suc zero))))))))) e p h = bare _ _ (node_space v i e) p refl
  by_kind (suc (suc (suc (suc (suc (suc (suc (suc (suc (suc zero)))))))))) e p h =
      let t = two_parts v i p in
      let a = t.up in
      let b = t.to in
      rw (node_if v i e (record { up = omega arith; to = omega arith }))
      (omega (arith, same_margin parts, ap (λ (ns : Nodes). nodes_most ns m) (two_nodes v i t)))
  by_kind (suc (suc (suc (suc (suc (suc (suc (suc (suc (suc (suc zero))))))))))) e p h =
      let c = cut v i p h in
      let first = nodes_at v (suc i) (v.second i) in
      let second = nodes_at v (v.second i) (v.after i) in
      rw (node_call v i e c.split)
      (omega (
        arith,
        next_margin parts,
        ap (λ (ns : Nodes). nodes_most ns (suc m)) c.joined,
        most_join first second (suc m),
      ))
  by_kind (suc (suc (suc (suc (suc (suc (suc (suc (suc (suc (suc (suc k)))))))))))) e p h = absurd (let z : ◌≡◌ {A = ℕ} 0 1 = cc in omega arith)

  -- what a row and its parts add, and the rows after them
  pub most_parted : (end : ℕ) → RangeIn v i end → parts_fit v i (v.kind i) ≡ true
      → nodes_most (nodes_at v i end) m
      ≡ row_most m s i (v.kind i) + nodes_most parts (m + steps_of (v.kind i)) + nodes_most (nodes_at v (v.after i) end) m
  unfolding node_most
  most_parted end w p =
      let one = by_kind (v.kind i) refl p w.up in
      rw (nodes_some v i end w) (omega arith)
