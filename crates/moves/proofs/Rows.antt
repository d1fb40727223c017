-- The loop over the children of a record, and the records in an image that is moved.
-- Assumes nothing.
use mathlib.Core.Path.{◌≡◌, refl, sym, ap, subst, ◌∙◌}
use mathlib.Core.Bool.{Bool, true, false, cond, ◌&&◌}
use mathlib.Core.List.{List, [], ◌∷◌, ◌++◌}
use Prim.Native.Nat.{ℕ, ◌+◌, ◌*◌, ◌≤◌, ◌<◌}
use native.Mathlib.Omega.{arith}
use lib.Dec.{eqb}
use lib.ListN.{length, length-append}
use lib.Seq.{sets}
use Rattle.image.specs.Bytes.{be32, part}
use Rattle.image.specs.Kinds.{TREE, TEXT}
use Rattle.image.specs.Grammar.{first_child}
use Rattle.image.specs.Read.{head_at, stop_at, kind_at, Tree, Trees, absent, node, nil, ◌▸◌}
use Rattle.image.specs.Standing.{Whole, Stands, Row}
use Rattle.image.specs.Write.{plain, written}
use Rattle.image.proofs.Standing.{row_order, first_behind, tree_ends}
use Rattle.image.proofs.Exact.{part_length}
use Rattle.writer.specs.Stands.{Puts}
use Rattle.writer.proofs.Stores.{sets_behind}
use Rattle.moves.specs.Moves.{texts_where, all_where}
use Rattle.moves.specs.Ways.{stored_bytes, is_faulty, payload_due, turned}
use Rattle.moves.specs.Standing.{HeadThere, TreeThere, RowThere, tree_bytes, row_bytes, PutsTree, PutsRow}
use Rattle.moves.specs.declared.way.Way.{Way}
use Rattle.moves.proofs.Sought.{nothing_left}
use Rattle.moves.proofs.Turned.{payload_size, tree_size, row_size}

-- ---- the loop over trees: what is ahead is the rest of any trees that stand there
pub record Ahead (w : Way) (lead : Bool) (b : List ℕ) (stop start : ℕ) (out₀ : List ℕ) (ts : Trees) (u : Bool) (at pos : ℕ) (out : List ℕ)
    : Type 0 where
  pub rest : Trees
  pub stands : Row b (stored_bytes w) rest at stop
  pub place : pos + length (row_bytes w u b rest) ≡ start + length (row_bytes w lead b ts)
  pub output : sets out pos (row_bytes w u b rest) ≡ sets out₀ start (row_bytes w lead b ts)

pub record Rows (w : Way) (lead : Bool) (b : List ℕ) (first stop start : ℕ) (out₀ : List ℕ) (u : Bool) (at pos : ℕ) (out : List ℕ) : Type 0 where
  pub from : first ≤ at
  pub below : pos ≤ 2 * at
  pub rest : Trees
  pub stands : Row b (stored_bytes w) rest at stop
  pub clear : all_where (is_faulty w) b u rest ≡ []
  pub ahead : (ts : Trees) → Row b (stored_bytes w) ts first stop → Ahead w lead b stop start out₀ ts u at pos out

pub rows_none : (w : Way) (lead : Bool) (b : List ℕ) (first stop start : ℕ) (out : List ℕ) → RowThere w lead b first stop start
    → Rows w lead b first stop start out lead first start out
rows_none w lead b first stop start out r =
    record {
      from = omega arith;
      below = r.below;
      rest = r.trees;
      stands = r.stands;
      clear = r.clear;
      ahead = λ ts s. record { rest = ts; stands = s; place = refl; output = refl };
    }

-- the child at `at`
pub record Child (b : List ℕ) (v : ℕ) (ts : Trees) (at stop : ℕ) : Type 0 where
  pub tree : Tree
  pub others : Trees
  pub is : ts ≡ tree ▸ others
  pub stands : Stands b v tree at (stop_at b at)
  pub row : Row b v others (stop_at b at) stop

pub row_child : (b : List ℕ) (v : ℕ) (ts : Trees) (at stop : ℕ) → Row b v ts at stop → at < stop → Child b v ts at stop
unfolding Row
row_child b v nil at stop s h = absurd (omega arith)
row_child b v (t ▸ us) at stop s h = record { tree = t; others = us; is = refl; stands = s.0; row = s.1 }

-- and the others, of which no text is at fault
pub clear_child : (test : Bool → List ℕ → Bool) (b : List ℕ) (u : Bool) (ts : Trees) (t : Tree) (us : Trees) → ts ≡ t ▸ us
    → all_where test b u ts ≡ [] → (texts_where test b u t ≡ []) × (all_where test b false us ≡ [])
unfolding texts_where
clear_child test b u ts t us is e = nothing_left (texts_where test b u t) (all_where test b false us) (rw is at e)

pub row_tree : (w : Way) (lead : Bool) (b : List ℕ) (first stop start : ℕ) (out₀ : List ℕ) (u : Bool) (at pos : ℕ) (out : List ℕ)
    → RowThere w lead b first stop start
    → Rows w lead b first stop start out₀ u at pos out → at < stop → TreeThere w u b at pos
row_tree w lead b first stop start out₀ u at pos out r g h =
    let k = row_child b (stored_bytes w) g.rest at stop g.stands h in
    let c = clear_child (is_faulty w) b u g.rest k.tree k.others k.is g.clear in
    record { tree = k.tree; end = stop_at b at; stands = k.stands; clear = c.0; below = g.below; short = r.short }

pub tree_within : (w : Way) (u : Bool) (b : List ℕ) (at pos : ℕ) → TreeThere w u b at pos → (at + 4 ≤ stop_at b at) × (stop_at b at ≤ length b)
tree_within w u b at pos t =
    let e = tree_ends b (stored_bytes w) t.tree at t.end t.stands in
    (omega (arith, e.is, e.after), omega (arith, e.is, e.inside))

rows_ahead : (w : Way) (lead : Bool) (b : List ℕ) (first stop start : ℕ) (out₀ : List ℕ) (u : Bool) (at pos : ℕ) (out : List ℕ) (q : ℕ) (o : List ℕ)
    (ts : Trees)
    → Ahead w lead b stop start out₀ ts u at pos out → at < stop → PutsTree w u b at pos out q o
    → Ahead w lead b stop start out₀ ts false (stop_at b at) q o
unfolding plain turned written
rows_ahead w lead b first stop start out₀ u at pos out q o ts a h p =
    let k = row_child b (stored_bytes w) a.rest at stop a.stands h in
    let t = k.tree in
    let us = k.others in
    let x = p t (stop_at b at) k.stands in
    let is : row_bytes w u b a.rest ≡ tree_bytes w u b t ++ row_bytes w false b us = ap (row_bytes w u b) k.is in
    let len : length (row_bytes w u b a.rest) ≡ length (tree_bytes w u b t) + length (row_bytes w false b us) =
    ap length is ∙ length-append (tree_bytes w u b t) (row_bytes w false b us) in
    record {
      rest = us;
      stands = k.row;
      place = omega (arith, a.place, x.place);
      output =
          ap (λ (z : List ℕ). sets z q (row_bytes w false b us)) x.output
          ∙ sets_behind (tree_bytes w u b t) (row_bytes w false b us) out pos q x.place
          ∙ ap (sets out pos) (sym is)
          ∙ a.output;
    }

pub rows_one : (w : Way) (lead : Bool) (b : List ℕ) (first stop start : ℕ) (out₀ : List ℕ) (u : Bool) (at pos : ℕ) (out : List ℕ) (n q : ℕ)
    (o : List ℕ)
    → RowThere w lead b first stop start
    → Rows w lead b first stop start out₀ u at pos out → at < stop → n ≡ stop_at b at → PutsTree w u b at pos out q o
    → Rows w lead b first stop start out₀ false n q o
rows_one w lead b first stop start out₀ u at pos out n q o r g h e p =
    let k = row_child b (stored_bytes w) g.rest at stop g.stands h in
    let c = clear_child (is_faulty w) b u g.rest k.tree k.others k.is g.clear in
    let x = p k.tree (stop_at b at) k.stands in
    let s = tree_size w u b k.tree at (stop_at b at) k.stands in
    let y = tree_ends b (stored_bytes w) k.tree at (stop_at b at) k.stands in
    rw e
    (record {
      from = omega (arith, g.from, y.after);
      below = omega (arith, x.place, g.below, y.after);
      rest = k.others;
      stands = k.row;
      clear = c.1;
      ahead = λ ts s. rows_ahead w lead b first stop start out₀ u at pos out q o ts (g.ahead ts s) h p;
    })

pub rows_end : (w : Way) (lead : Bool) (b : List ℕ) (first stop start : ℕ) (out₀ : List ℕ) (u : Bool) (at pos : ℕ) (out : List ℕ)
    → Rows w lead b first stop start out₀ u at pos out → stop ≤ at
    → PutsRow w lead b first stop start out₀ pos out
unfolding Row plain turned written
rows_end w lead b first stop start out₀ u at pos out g h ts s = go a.rest a.stands a.place a.output
  where
    a : Ahead w lead b stop start out₀ ts u at pos out
    a = g.ahead ts s

    go : (us : Trees) → Row b (stored_bytes w) us at stop
        → pos + length (row_bytes w u b us) ≡ start + length (row_bytes w lead b ts)
        → sets out pos (row_bytes w u b us) ≡ sets out₀ start (row_bytes w lead b ts) → Puts (row_bytes w lead b ts) start out₀ pos out
    go nil x p o = record { place = omega arith; output = o }
    go (t ▸ us) x p o =
        let e = tree_ends b (stored_bytes w) t at (stop_at b at) x.0 in
        let l = row_order b (stored_bytes w) us (stop_at b at) stop x.1 in
        absurd (omega (arith, e.after))

-- ---- a record, and the children in it
pub record Opened (w : Way) (u : Bool) (b : List ℕ) (at : ℕ) : Type 0 where
  pub whole : Whole b (stored_bytes w) at
  pub trees : Trees
  pub row : Row b (stored_bytes w) trees (head_at b at).first (stop_at b at)
  pub own : eqb (kind_at b at) TEXT ≡ true → is_faulty w u (part (at + 13) (stop_at b at) b) ≡ false
  pub clear : all_where (is_faulty w) b (eqb (kind_at b at) TREE) trees ≡ []

-- what is said of a text, where nothing is found
own_clear : (test : Bool) (t : Bool) (at : ℕ) → cond (t && test) (at ∷ []) [] ≡ [] → t ≡ true → test ≡ false
own_clear false t at e h = refl
own_clear true true at e h = let z : ◌≡◌ {A = ℕ} 1 0 = ap (λ (l : List ℕ). length l) e in absurd (omega arith)
own_clear true false at e h = let z : ◌≡◌ {A = ℕ} 1 0 = cc in absurd (omega arith)

pub text_first : (k from stop : ℕ) → eqb k TEXT ≡ true → first_child k from stop ≡ stop
unfolding first_child
text_first k from stop e = rw e

pub opened : (w : Way) (u : Bool) (b : List ℕ) (at pos : ℕ) → TreeThere w u b at pos → ¬ (be32 b at ≡ 0) → Opened w u b at
unfolding Stands texts_where
opened w u b at pos there z = go there.tree there.stands there.clear
  where
    go : (t : Tree) → Stands b (stored_bytes w) t at there.end → texts_where (is_faulty w) b u t ≡ [] → Opened w u b at
    go absent s e = absurd (z s.empty)
    go (node h ts) s e =
        let k = kind_at b at in
        let x = part (at + 13) (head_at b at).first b in
        let both = nothing_left (cond (eqb k TEXT && is_faulty w u x) (at ∷ []) []) (all_where (is_faulty w) b (eqb k TREE) ts) (rw s.0.is at e) in
        record {
          whole = s.0.whole;
          trees = ts;
          row = s.1;
          own = λ t. ap (λ (m : ℕ). is_faulty w u (part (at + 13) m b)) (sym (text_first k (at + 13) (stop_at b at) t))
              ∙ own_clear (is_faulty w u x) (eqb k TEXT) at both.0 t;
          clear = both.1;
        }

-- the room for it
pub tree_room : (w : Way) (u : Bool) (b : List ℕ) (at pos : ℕ) → TreeThere w u b at pos → ¬ (be32 b at ≡ 0)
    → (9 ≤ be32 b at) × ((at + 4 + be32 b at ≤ length b) × ((length b ≤ 1048581) × (pos ≤ 2 * at)))
tree_room w u b at pos t z =
    let x = (opened w u b at pos t z).whole in
    (x.long, (x.inside, (t.short, t.below)))

pub head_there : (w : Way) (u : Bool) (b : List ℕ) (at pos q : ℕ) → TreeThere w u b at pos → ¬ (be32 b at ≡ 0) → q ≡ pos + 13
    → HeadThere w u b at q
head_there w u b at pos q t z e =
    let o = opened w u b at pos t z in
    record { whole = o.whole; clear = o.own; below = omega (arith, t.below); short = t.short }

pub row_there : (w : Way) (u : Bool) (b : List ℕ) (at pos n f inner : ℕ) (o x : List ℕ) → TreeThere w u b at pos → ¬ (be32 b at ≡ 0) → n ≡ be32 b at
    → f ≡ (head_at b at).first
    → Puts (payload_due w u (kind_at b at) (part (at + 13) (head_at b at).first b)) (pos + 13) o inner x
    → RowThere w (eqb (kind_at b at) TREE) b f (at + 4 + n) inner
row_there w u b at pos n f inner o x t z m e p =
    let h = opened w u b at pos t z in
    let y = payload_size w u (kind_at b at) (part (at + 13) (head_at b at).first b) in
    let l = first_behind b (stored_bytes w) at h.whole in
    let k = part_length b (at + 13) (head_at b at).first l (omega (arith, h.whole.payload, h.whole.inside)) in
    rw (m, e)
    (record {
      trees = h.trees;
      stands = h.row;
      clear = h.clear;
      inside = h.whole.inside;
      below = omega (arith, p.place, t.below);
      short = t.short;
    })

pub row_last : (w : Way) (u : Bool) (b : List ℕ) (at stop pos r : ℕ) (out o : List ℕ) → RowThere w u b at stop pos → PutsRow w u b at stop pos out r o
    → (pos ≤ r) × (r ≤ 2 * stop)
row_last w u b at stop pos r out o t p =
    let s = row_size w u b t.trees at stop t.stands in
    let h = row_order b (stored_bytes w) t.trees at stop t.stands in
    let x = p t.trees t.stands in
    (omega (arith, x.place), omega (arith, x.place, t.below))

pub row_at : (w : Way) (u : Bool) (b : List ℕ) (at n f pos r : ℕ) (out o : List ℕ) → n ≡ be32 b at → f ≡ (head_at b at).first
    → PutsRow w u b f (at + 4 + n) pos out r o
    → PutsRow w u b (head_at b at).first (stop_at b at) pos out r o
row_at w u b at n f pos r out o m e p ts s =
    p ts (subst (λ (x : ℕ). Row b (stored_bytes w) ts f x) (ap (λ (x : ℕ). at + 4 + x) (sym m))
    (subst (λ (x : ℕ). Row b (stored_bytes w) ts x (stop_at b at)) (sym e) s))
