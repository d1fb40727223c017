-- The loop over the records in reading order: what is ahead is a row of trees up to the image's end.
-- Assumes nothing.
use mathlib.Core.Path.{◌≡◌, refl, sym, ap, ap₂, subst, ◌∙◌}
use mathlib.Core.Bool.{Bool, true, false, cond, ◌&&◌}
use mathlib.Core.List.{List, [], ◌∷◌, ◌++◌, append_assoc, append-nil}
use Prim.Native.Nat.{ℕ, ◌+◌, ◌≤◌, ◌<◌}
use native.Mathlib.Omega.{arith}
use lib.Dec.{eqb, ltb}
use lib.ListN.{length}
use borrow.Author.Tests.{lt-ltb, le-ltb, eq-eqb, ne_eqb}
use Rattle.std.specs.Prelude.{Option, None, Some}
use Rattle.image.specs.Bytes.{be32, part}
use Rattle.image.specs.Kinds.{TREE, TEXT}
use Rattle.image.specs.Read.{head_at, stop_at, kind_at, Tree, Trees, absent, node, nil, ◌▸◌}
use Rattle.image.specs.Standing.{Whole, Stands, Row}
use Rattle.image.proofs.Standing.{row_order, tree_ends}
use Rattle.moves.specs.Moves.{texts_where, all_where, head_of}
use Rattle.moves.specs.Ways.{stored_bytes, is_faulty}
use Rattle.moves.specs.Standing.{TreeAt, FirstFault}
use Rattle.moves.specs.declared.way.Way.{Way}
use Rattle.moves.proofs.Rows.{row_child, text_first}

-- ---- one row behind the other
joined : Trees → Trees → Trees
joined nil us = us
joined (t ▸ ts) us = t ▸ joined ts us

all_joined : (test : Bool → List ℕ → Bool) (b : List ℕ) (ts us : Trees)
    → all_where test b false (joined ts us) ≡ all_where test b false ts ++ all_where test b false us
unfolding texts_where joined
all_joined test b nil us = refl
all_joined test b (t ▸ ts) us =
    ap (λ (l : List ℕ). texts_where test b false t ++ l) (all_joined test b ts us)
    ∙ sym (append_assoc (texts_where test b false t) (all_where test b false ts) (all_where test b false us))

row_joined : (b : List ℕ) (v : ℕ) (ts us : Trees) (at mid stop : ℕ) → Row b v ts at mid → Row b v us mid stop → Row b v (joined ts us) at stop
unfolding Row joined
row_joined b v nil us at mid stop s r = subst (λ (x : ℕ). Row b v us x stop) (sym s) r
row_joined b v (t ▸ ts) us at mid stop s r = (s.0, row_joined b v ts us (stop_at b at) mid stop s.1 r)

-- the first of them may be the shebang, if there is one
lead_joined : (test : Bool → List ℕ → Bool) (b : List ℕ) (v : ℕ) (u : Bool) (ts us : Trees) (at mid : ℕ) → Row b v ts at mid
    → all_where test b (u && ltb at mid) (joined ts us) ≡ all_where test b u ts ++ all_where test b false us
unfolding Row texts_where joined
lead_joined test b v u nil us at mid s = rw (le-ltb at mid (omega arith)) (none u)
  where
    none : (u : Bool) → all_where test b (u && false) us ≡ all_where test b false us
    none true = refl
    none false = refl
lead_joined test b v u (t ▸ ts) us at mid s =
    let e = tree_ends b v t at (stop_at b at) s.0 in
    let l = row_order b v ts (stop_at b at) mid s.1 in
    rw (lt-ltb at mid (omega (arith, e.after)))
    (some u)
  where
    some : (u : Bool) → all_where test b (u && true) (t ▸ joined ts us) ≡ all_where test b u (t ▸ ts) ++ all_where test b false us
    some true =
        ap (λ (l : List ℕ). texts_where test b true t ++ l) (all_joined test b ts us)
        ∙ sym (append_assoc (texts_where test b true t) (all_where test b false ts) (all_where test b false us))
    some false =
        ap (λ (l : List ℕ). texts_where test b false t ++ l) (all_joined test b ts us)
        ∙ sym (append_assoc (texts_where test b false t) (all_where test b false ts) (all_where test b false us))

-- ---- the loop
pub record Left (w : Way) (b : List ℕ) (u : Bool) (at : ℕ) (due : Option ℕ) : Type 0 where
  pub rest : Trees
  pub stands : Row b (stored_bytes w) rest at (length b)
  pub same : head_of (all_where (is_faulty w) b u rest) ≡ due

abbrev pub Seeking : Way → List ℕ → ℕ → Bool → ℕ → Type 0
Seeking w b tree u at = (t : Tree) → Stands b (stored_bytes w) t tree (length b) → Left w b u at (head_of (texts_where (is_faulty w) b false t))

pub seek_first : (w : Way) (b : List ℕ) (tree : ℕ) → Seeking w b tree false tree
unfolding Row texts_where
seek_first w b tree t s =
    let e = tree_ends b (stored_bytes w) t tree (length b) s in
    record {
      rest = t ▸ nil;
      stands = (subst (λ (x : ℕ). Stands b (stored_bytes w) t tree x) e.is s, sym e.is);
      same = ap head_of (append-nil (texts_where (is_faulty w) b false t));
    }

-- a place before the image's end
pub record Place (b : List ℕ) (at : ℕ) : Type 0 where
  pub after : at + 4 ≤ stop_at b at
  pub inside : stop_at b at ≤ length b

pub place_of : (w : Way) (b : List ℕ) (tree : ℕ) (u : Bool) (at : ℕ) → TreeAt w b tree → Seeking w b tree u at → at < length b → Place b at
place_of w b tree u at t g h =
    let l = g t.tree t.stands in
    let k = row_child b (stored_bytes w) l.rest at (length b) l.stands h in
    let e = tree_ends b (stored_bytes w) k.tree at (stop_at b at) k.stands in
    record { after = e.after; inside = e.inside }

whole_child : (b : List ℕ) (v at : ℕ) (t : Tree) → Stands b v t at (stop_at b at) → ¬ (be32 b at ≡ 0) → Whole b v at
unfolding Stands
whole_child b v at absent s z = absurd (z s.empty)
whole_child b v at (node h ts) s z = s.0.whole

pub whole_of : (w : Way) (b : List ℕ) (tree : ℕ) (u : Bool) (at : ℕ) → TreeAt w b tree → Seeking w b tree u at → at < length b → ¬ (be32 b at ≡ 0)
    → Whole b (stored_bytes w) at
whole_of w b tree u at t g h z =
    let l = g t.tree t.stands in
    let k = row_child b (stored_bytes w) l.rest at (length b) l.stands h in
    whole_child b (stored_bytes w) at k.tree k.stands z

-- none is left
pub seek_last : (w : Way) (b : List ℕ) (tree : ℕ) (u : Bool) (at : ℕ) → Seeking w b tree u at → length b ≤ at → FirstFault w b tree None
unfolding Row texts_where
seek_last w b tree u at g h t s = go (g t s).rest (g t s).stands (g t s).same
  where
    go : (ts : Trees) → Row b (stored_bytes w) ts at (length b) → head_of (all_where (is_faulty w) b u ts) ≡ head_of (texts_where (is_faulty w) b false t)
        → None ≡ head_of (texts_where (is_faulty w) b false t)
    go nil r e = e
    go (x ▸ us) r e =
        let f = tree_ends b (stored_bytes w) x at (stop_at b at) r.0 in
        let l = row_order b (stored_bytes w) us (stop_at b at) (length b) r.1 in
        absurd (omega (arith, f.after))

-- one turn: an absent child
pub seek_gap : (w : Way) (b : List ℕ) (tree : ℕ) (u : Bool) (at : ℕ) → Seeking w b tree u at → at < length b → be32 b at ≡ 0
    → Seeking w b tree false (at + 4)
unfolding Row Stands texts_where
seek_gap w b tree u at g h z t s = go (g t s).rest (g t s).stands (g t s).same
  where
    go : (ts : Trees) → Row b (stored_bytes w) ts at (length b) → head_of (all_where (is_faulty w) b u ts) ≡ head_of (texts_where (is_faulty w) b false t)
        → Left w b false (at + 4) (head_of (texts_where (is_faulty w) b false t))
    go nil r e = absurd (omega arith)
    go (absent ▸ us) r e =
        let p : stop_at b at ≡ at + 4 = omega arith in
        record { rest = us; stands = subst (λ (x : ℕ). Row b (stored_bytes w) us x (length b)) p r.1; same = e }
    go (node k ts ▸ us) r e = absurd (omega (arith, r.0.0.whole.long))

-- one turn: a record. It is a text at fault
abbrev pub here : Way → List ℕ → Bool → ℕ → Bool
here w b u at = eqb (kind_at b at) TEXT && is_faulty w u (part (at + 13) (head_at b at).first b)

pub at_fault : (w : Way) (b : List ℕ) (u : Bool) (at n : ℕ) (r t : Bool) → kind_at b at ≡ TEXT → n ≡ be32 b at
    → r ≡ is_faulty w u (part (at + 13) (at + 4 + n) b) → r ≡ t → here w b u at ≡ t
at_fault w b u at n r t k e f g =
    let is = eq-eqb (kind_at b at) TEXT k in
    let stop : (head_at b at).first ≡ at + 4 + n = text_first (kind_at b at) (at + 13) (stop_at b at) is ∙ ap (λ (m : ℕ). at + 4 + m) (sym e) in
    let own : is_faulty w u (part (at + 13) (head_at b at).first b) ≡ t =
    ap (λ (m : ℕ). is_faulty w u (part (at + 13) m b)) stop ∙ sym f ∙ g in
    ap₂ (λ (x y : Bool). x && y) is own

pub no_text : (w : Way) (b : List ℕ) (u : Bool) (at : ℕ) → ¬ (kind_at b at ≡ TEXT) → here w b u at ≡ false
no_text w b u at k = ap (λ (x : Bool). x && is_faulty w u (part (at + 13) (head_at b at).first b)) (ne_eqb (kind_at b at) TEXT k)

-- whether a shebang's place is next
abbrev pub leads : List ℕ → ℕ → Bool
leads b at = eqb (kind_at b at) TREE && ltb (head_at b at).first (stop_at b at)

pub leads_tree : (b : List ℕ) (at n f : ℕ) → kind_at b at ≡ TREE → n ≡ be32 b at → f ≡ (head_at b at).first → ltb f (at + 4 + n) ≡ leads b at
leads_tree b at n f k e g =
    ap₂ (λ (x y : ℕ). ltb x (at + 4 + y)) g e
    ∙ sym (ap (λ (x : Bool). x && ltb (head_at b at).first (stop_at b at)) (eq-eqb (kind_at b at) TREE k))

pub leads_none : (b : List ℕ) (at : ℕ) → ¬ (kind_at b at ≡ TREE) → eqb (kind_at b at) TREE ≡ leads b at
leads_none b at k =
    let no = ne_eqb (kind_at b at) TREE k in
    no ∙ sym (ap (λ (x : Bool). x && ltb (head_at b at).first (stop_at b at)) no)

module _ (w : Way) (b : List ℕ) (tree : ℕ) (u : Bool) (at : ℕ) (g : Seeking w b tree u at) (h : at < length b) (z : ¬ (be32 b at ≡ 0)) where
  record Parted (due : Option ℕ) : Type 0 where
    pub trees : Trees
    pub others : Trees
    pub row : Row b (stored_bytes w) trees (head_at b at).first (stop_at b at)
    pub behind : Row b (stored_bytes w) others (stop_at b at) (length b)
    pub same : head_of ((cond (here w b u at) (at ∷ []) [] ++ all_where (is_faulty w) b (eqb (kind_at b at) TREE) trees)
        ++ all_where (is_faulty w) b false others) ≡ due

  parted : (due : Option ℕ) → Left w b u at due → Parted due
  unfolding Row Stands texts_where
  parted due l = go l.rest l.stands l.same
    where
      go : (ts : Trees) → Row b (stored_bytes w) ts at (length b) → head_of (all_where (is_faulty w) b u ts) ≡ due → Parted due
      go nil r e = absurd (omega arith)
      go (absent ▸ us) r e = absurd (z r.0.empty)
      go (node k ts ▸ us) r e = record { trees = ts; others = us; row = r.0.1; behind = r.1; same = rw r.0.0.is at e }

  pub seek_found : here w b u at ≡ true → FirstFault w b tree (Some at)
  seek_found f t s = let p = parted _ (g t s) in rw f at p.same

  pub seek_on : (n : ℕ) (v : Bool) → here w b u at ≡ false → n ≡ (head_at b at).first → v ≡ leads b at → Seeking w b tree v n
  seek_on n v f e i t s =
      let p = parted _ (g t s) in
      rw (e, i)
      (record {
        rest = joined p.trees p.others;
        stands = row_joined b (stored_bytes w) p.trees p.others (head_at b at).first (stop_at b at) (length b) p.row p.behind;
        same =
            ap head_of (lead_joined (is_faulty w) b (stored_bytes w) (eqb (kind_at b at) TREE) p.trees p.others (head_at b at).first (stop_at b at) p.row)
            ∙ (rw f at p.same);
      })
