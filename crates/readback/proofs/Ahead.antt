-- The loop over the records in reading order: what is ahead is a row of trees up to the image's end.
-- Assumes nothing.
use mathlib.Core.Path.{◌≡◌, refl, sym, ap, subst, ◌∙◌}
use mathlib.Core.List.{List, [], ◌++◌, append_assoc, append-nil}
use Prim.Native.Nat.{ℕ, ◌+◌, ◌-◌, ◌≤◌, ◌<◌}
use native.Mathlib.Omega.{arith}
use lib.ListN.{length}
use Rattle.std.specs.Prelude.{Option, None, Some}
use Rattle.image.specs.Bytes.{be32}
use Rattle.image.specs.Read.{width_bytes, head_at, stop_at, Tree, Trees, absent, node, nil, ◌▸◌}
use Rattle.image.specs.Standing.{Stands, Row}
use Rattle.image.proofs.Standing.{first_behind, tree_ends}
use Rattle.readback.specs.Operands.{broken, first_of}
use Rattle.readback.specs.Standing.{Grown, GrownIn, There, TreeAt, FirstBroken, WholeAt, OperandsAt}
use Rattle.readback.specs.Verdict.{offenders, offenders_in, least}
use Rattle.readback.proofs.Grown.{operands_at}
use Rattle.readback.proofs.Least.{with_first, least_first, past_row}

-- ---- one row behind the other
joined : Trees → Trees → Trees
joined nil us = us
joined (t ▸ ts) us = t ▸ joined ts us

offenders_joined : (b : List ℕ) (ts us : Trees) → offenders_in b (joined ts us) ≡ offenders_in b ts ++ offenders_in b us
unfolding offenders joined
offenders_joined b nil us = refl
offenders_joined b (t ▸ ts) us =
    ap (λ (l : List ℕ). offenders b t ++ l) (offenders_joined b ts us)
    ∙ sym (append_assoc (offenders b t) (offenders_in b ts) (offenders_in b us))

row_joined : (b : List ℕ) (v : ℕ) (ts us : Trees) (at mid stop : ℕ) → Row b v ts at mid → Row b v us mid stop → Row b v (joined ts us) at stop
unfolding Row joined
row_joined b v nil us at mid stop s r = subst (λ (x : ℕ). Row b v us x stop) (sym s) r
row_joined b v (t ▸ ts) us at mid stop s r = (s.0, row_joined b v ts us (stop_at b at) mid stop s.1 r)

grown_joined : (ts us : Trees) → GrownIn ts → GrownIn us → GrownIn (joined ts us)
unfolding Grown joined
grown_joined nil us g h = h
grown_joined (t ▸ ts) us g h = (g.0, grown_joined ts us g.1 h)

-- ---- the loop
pub record Ahead (b : List ℕ) (at best due : ℕ) : Type 0 where
  pub rest : Trees
  pub stands : Row b (width_bytes b) rest at (length b)
  pub grown : GrownIn rest
  pub same : least best (offenders_in b rest) ≡ due
  pub low : best ≤ length b

abbrev pub Walking : List ℕ → ℕ → ℕ → ℕ → Type 0
Walking b tree at best = (t : Tree) → There b tree t → Ahead b at best (least (length b) (offenders b t))

pub walk_first : (b : List ℕ) (tree : ℕ) → Walking b tree tree (length b)
unfolding Row Grown offenders
walk_first b tree t s =
    let e = tree_ends b (width_bytes b) t tree (length b) s.stands in
    record {
      rest = t ▸ nil;
      stands = (subst (λ (x : ℕ). Stands b (width_bytes b) t tree x) e.is s.stands, sym e.is);
      grown = (s.grown, tt);
      same = ap (least (length b)) (append-nil (offenders b t));
      low = omega arith;
    }

module _ (b : List ℕ) (tree at best : ℕ) (g : Walking b tree at best) where
  -- what is past the best has none before it
  pub walk_last : best ≤ at → FirstBroken b tree best
  unfolding least
  walk_last h t s =
      let a = g t s in
      let none = past_row b (width_bytes b) a.rest at (length b) best [] a.stands h in
      sym (sym (ap (least best) (append-nil (offenders_in b a.rest))) ∙ none) ∙ a.same

  module _ (there : TreeAt b tree) (h : at < best) where
    -- the place, and the record if there is one
    record Here : Type 0 where
      pub after : at + 4 ≤ stop_at b at
      pub inside : stop_at b at ≤ length b
      pub low : best ≤ length b
      pub child : Tree
      pub stands : Stands b (width_bytes b) child at (stop_at b at)
      pub grown : Grown child

    here : Here
    unfolding Row Grown
    here = go a.rest a.stands a.grown
      where
        a : Ahead b at best (least (length b) (offenders b there.tree))
        a = g there.tree there.there

        go : (ts : Trees) → Row b (width_bytes b) ts at (length b) → GrownIn ts → Here
        go nil s k = absurd (omega (arith, a.low))
        go (t ▸ us) s k =
            let e = tree_ends b (width_bytes b) t at (stop_at b at) s.0 in
            record { after = e.after; inside = e.inside; low = a.low; child = t; stands = s.0; grown = k.0 }

    pub place : (at + 4 ≤ stop_at b at) × (stop_at b at ≤ length b)
    place = (here.after, here.inside)

    -- an absent child
    pub walk_gap : be32 b at ≡ 0 → Walking b tree (at + 4) best
    unfolding Row Stands Grown offenders
    walk_gap z t s = go a.rest a.stands a.grown a.same
      where
        a : Ahead b at best (least (length b) (offenders b t))
        a = g t s

        go : (ts : Trees) → Row b (width_bytes b) ts at (length b) → GrownIn ts
            → least best (offenders_in b ts) ≡ least (length b) (offenders b t)
            → Ahead b (at + 4) best (least (length b) (offenders b t))
        go nil r k e = absurd (omega (arith, a.low))
        go (absent ▸ us) r k e =
            let p : stop_at b at ≡ at + 4 = omega arith in
            record { rest = us; stands = subst (λ (x : ℕ). Row b (width_bytes b) us x (length b)) p r.1; grown = k.1; same = e; low = a.low }
        go (node x ts ▸ us) r k e = absurd (omega (arith, r.0.0.whole.long))

    module _ (n : ℕ) (size : n ≡ be32 b at) (z : ¬ (n ≡ 0)) where
      record Record : Type 0 where
        pub whole : WholeAt b at n
        pub operands : OperandsAt b at

      a_record : Record
      unfolding Stands Grown
      a_record = go here.child here.stands here.grown
        where
          go : (t : Tree) → Stands b (width_bytes b) t at (stop_at b at) → Grown t → Record
          go absent s k = absurd (z (size ∙ s.empty))
          go (node x ts) s k =
              record {
                whole = record { whole = s.0.whole; size = size; short = there.short };
                operands = operands_at b (width_bytes b) there.short x ts at (stop_at b at) s k.0 k.1;
              }

      pub whole : WholeAt b at n
      whole = a_record.whole

      pub operands : OperandsAt b at
      operands = a_record.operands

      -- the record is entered
      pub walk_on : (m first : ℕ) → m ≡ with_first best (first_of (broken b at)) → first ≡ (head_at b at).first → Walking b tree first m
      unfolding Row Stands Grown offenders
      walk_on m first i j t s = go a.rest a.stands a.grown a.same
        where
          a : Ahead b at best (least (length b) (offenders b t))
          a = g t s

          lower : (o : Option ℕ) → with_first best o ≤ length b
          lower None = a.low
          lower (Some x) = let l = a.low in omega (arith, l)

          go : (ts : Trees) → Row b (width_bytes b) ts at (length b) → GrownIn ts
              → least best (offenders_in b ts) ≡ least (length b) (offenders b t)
              → Ahead b first m (least (length b) (offenders b t))
          go nil r k e = absurd (omega (arith, a.low))
          go (absent ▸ us) r k e = absurd (z (size ∙ r.0.empty))
          go (node x ts ▸ us) r k e =
              let same : x.at ≡ at = ap (λ (y : Rattle.image.specs.Read.Head). y.at) r.0.0.is in
              let us_ahead = offenders_in b us in
              let now : least m (offenders_in b (joined ts us)) ≡ least best ((broken b at ++ offenders_in b ts) ++ us_ahead) =
              ap (least m) (offenders_joined b ts us)
              ∙ ap (λ (k : ℕ). least k (offenders_in b ts ++ us_ahead)) i
              ∙ sym (least_first b at best (offenders_in b ts ++ us_ahead))
              ∙ sym (ap (least best) (append_assoc (broken b at) (offenders_in b ts) us_ahead)) in
              record {
                rest = joined ts us;
                stands = rw j (row_joined b (width_bytes b) ts us (head_at b at).first (stop_at b at) (length b) r.0.1 r.1);
                grown = grown_joined ts us k.0.1 k.1;
                same = now ∙ (rw same at e);
                low = rw i (lower (first_of (broken b at)));
              }

      -- it goes on behind the head, and the best is no greater: so the turns end
      pub goes_on : (m first : ℕ) → m ≡ with_first best (first_of (broken b at)) → first ≡ (head_at b at).first → m - first < best - at
      goes_on m first i j =
          let f = first_behind b (width_bytes b) at whole.whole in
          let l = no_greater (first_of (broken b at)) in
          omega (arith, f, h, i, j, l)
        where
          no_greater : (o : Option ℕ) → with_first best o ≤ best
          no_greater None = omega arith
          no_greater (Some x) = omega arith
