-- The loops over an accepted image, and what is listed of the whole.
-- Assumes nothing.
use mathlib.Core.Bool.{true}
use mathlib.Core.Path.{◌≡◌, refl, sym, ap, ap₂, subst, ◌∙◌}
use mathlib.Core.List.{List, [], ◌∷◌, ◌++◌, map}
use Prim.Native.Nat.{ℕ, zero, suc, ◌+◌, ◌-◌, ◌*◌, ◌≤◌, ◌<◌}
use native.Mathlib.Omega.{arith}
use lib.Dec.{eqb}
use lib.ListN.{length, length-append}
use lib.Seq.{sets, take-append_seam, drop-append_seam}
use Rattle.std.specs.Prelude.{take, drop, min}
use borrow.Author.Tests.{lt-ltb, le-ltb, eqb-true}
use Rattle.refusals.specs.Refusals.{Refusal}
use Rattle.refusals.specs.Answers.{refused, accepted}
use Rattle.image.specs.Bytes.{be16, be32, part}
use Rattle.image.specs.Read.{Read, got, bad, head_at, stop_at, kind_at, Tree, Trees, absent, node, nil, ◌▸◌, Image}
use Rattle.image.specs.Read.{version, read_version, document_of, outcome}
use Rattle.image.specs.declared.Document.{Document}
use Rattle.image.specs.Write.{bytes4, plain, plains, Bytes}
use Rattle.image.proofs.Exact.{join, part_length}
use Rattle.ast.specs.Syntax.{Span}
use Rattle.tree.specs.CommentList.{pairs_at, comments_of}
use Rattle.steps.specs.Steps.{comment_step, list_bytes, payload_steps, tree_steps, child_steps}
use Rattle.steps.specs.OfImage.{steps_of, steps_of_answer, steps_of_output}
use Rattle.steps.proofs.Taken.{list_append}
use Rattle.tree.proofs.Took.{took_four, took_join, took_is}
use Rattle.writer.specs.Stands.{Puts, TreeThere, RowThere, ImageThere, PutsTree, PutsRow, PutsImage, tree_bytes, row_bytes}
use Rattle.image.specs.Standing.{Whole, Stands, Row}
use Rattle.image.proofs.Versions.{two_bytes}
use Rattle.image.proofs.Standing.{There, there, tree_ends, row_order, first_behind}
use Rattle.writer.proofs.Stores.{sets_behind}
use Rattle.writer.proofs.Standing.{payload_bytes, tree_bytes_lem, row_bytes_lem, puts_join}

-- ---- the loop over trees: what is ahead is the rest of any trees that stand there
pub record Ahead (b : List ℕ) (first stop start : ℕ) (out₀ : List ℕ) (ts : Trees) (at pos : ℕ) (out : List ℕ) : Type 0 where
  pub rest : Trees
  pub stands : Row b 2 rest at stop
  pub place : pos + length (row_bytes b rest) ≡ start + length (row_bytes b ts)
  pub output : sets out pos (row_bytes b rest) ≡ sets out₀ start (row_bytes b ts)

pub record Rows (b : List ℕ) (first stop start : ℕ) (out₀ : List ℕ) (at pos : ℕ) (out : List ℕ) : Type 0 where
  pub from : first ≤ at
  pub below : pos ≤ 2 * at
  pub ahead : (ts : Trees) → Row b 2 ts first stop → Ahead b first stop start out₀ ts at pos out

pub rows_none : (b : List ℕ) (first stop start : ℕ) (out : List ℕ) → RowThere b first stop start → Rows b first stop start out first start out
rows_none b first stop start out r =
    record { from = omega arith; below = r.below; ahead = λ ts s. record { rest = ts; stands = s; place = refl; output = refl } }

-- the child at `at`
pub row_child : (b : List ℕ) (ts : Trees) (at stop : ℕ) → Row b 2 ts at stop → at < stop
    → (t : Tree) × (us : Trees) × (ts ≡ t ▸ us) × Stands b 2 t at (stop_at b at) × Row b 2 us (stop_at b at) stop
unfolding Row
row_child b nil at stop s h = absurd (omega arith)
row_child b (t ▸ us) at stop s h = (t, us, refl, s.0, s.1)

pub row_tree : (b : List ℕ) (first stop start : ℕ) (out₀ : List ℕ) (at pos : ℕ) (out : List ℕ) → RowThere b first stop start
    → Rows b first stop start out₀ at pos out → at < stop → TreeThere b at pos
row_tree b first stop start out₀ at pos out r g h =
    let a = g.ahead r.trees r.stands in
    let k = row_child b a.rest at stop a.stands h in
    record { tree = k.0; end = stop_at b at; stands = k.3; below = g.below; short = r.short }

pub tree_within : (b : List ℕ) (at pos : ℕ) → TreeThere b at pos → (at + 4 ≤ stop_at b at) × (stop_at b at ≤ length b)
tree_within b at pos t =
    let e = tree_ends b 2 t.tree at t.end t.stands in
    (omega (arith, e.is, e.after), omega (arith, e.is, e.inside))

rows_ahead : (b : List ℕ) (first stop start : ℕ) (out₀ : List ℕ) (at pos : ℕ) (out : List ℕ) (q : ℕ) (o : List ℕ) (ts : Trees)
    → Ahead b first stop start out₀ ts at pos out → at < stop → PutsTree b at pos out q o → Ahead b first stop start out₀ ts (stop_at b at) q o
unfolding plain child_steps
rows_ahead b first stop start out₀ at pos out q o ts a h p =
    let k = row_child b a.rest at stop a.stands h in
    let t = k.0 in
    let us = k.1 in
    let w = p t (stop_at b at) k.3 in
    let is : row_bytes b a.rest ≡ tree_bytes b t ++ row_bytes b us =
    ap (row_bytes b) k.2 ∙ list_append (tree_steps (plain b t)) (child_steps (plains b us)) in
    let len : length (row_bytes b a.rest) ≡ length (tree_bytes b t) + length (row_bytes b us) =
    ap length is ∙ length-append (tree_bytes b t) (row_bytes b us) in
    record {
      rest = us;
      stands = k.4;
      place = omega (arith, a.place, w.place);
      output =
          ap (λ (z : List ℕ). sets z q (row_bytes b us)) w.output
          ∙ sets_behind (tree_bytes b t) (row_bytes b us) out pos q w.place
          ∙ ap (sets out pos) (sym is)
          ∙ a.output;
    }

pub rows_one : (b : List ℕ) (first stop start : ℕ) (out₀ : List ℕ) (at pos : ℕ) (out : List ℕ) (n q : ℕ) (o : List ℕ)
    → RowThere b first stop start
    → Rows b first stop start out₀ at pos out → at < stop → n ≡ stop_at b at → PutsTree b at pos out q o
    → Rows b first stop start out₀ n q o
rows_one b first stop start out₀ at pos out n q o r g h e p =
    let d = row_tree b first stop start out₀ at pos out r g h in
    let w = p d.tree d.end d.stands in
    let s = tree_bytes_lem b d.tree at d.end d.stands in
    let x = tree_ends b 2 d.tree at d.end d.stands in
    rw e
    (record {
      from = omega (arith, g.from, x.is, x.after);
      below = omega (arith, w.place, g.below, x.is, x.after);
      ahead = λ ts s. rows_ahead b first stop start out₀ at pos out q o ts (g.ahead ts s) h p;
    })

pub rows_end : (b : List ℕ) (first stop start : ℕ) (out₀ : List ℕ) (at pos : ℕ) (out : List ℕ)
    → Rows b first stop start out₀ at pos out → stop ≤ at
    → PutsRow b first stop start out₀ pos out
unfolding Row plain child_steps
rows_end b first stop start out₀ at pos out g h ts s = go a.rest a.stands a.place a.output
  where
    a : Ahead b first stop start out₀ ts at pos out
    a = g.ahead ts s

    go : (us : Trees) → Row b 2 us at stop → pos + length (row_bytes b us) ≡ start + length (row_bytes b ts)
        → sets out pos (row_bytes b us) ≡ sets out₀ start (row_bytes b ts) → Puts (row_bytes b ts) start out₀ pos out
    go nil w p o = record { place = omega arith; output = o }
    go (t ▸ us) w p o =
        let e = tree_ends b 2 t at (stop_at b at) w.0 in
        let l = row_order b 2 us (stop_at b at) stop w.1 in
        absurd (omega (arith, e.after))

-- ---- a record, and the children in it
pub tree_head : (b : List ℕ) (at pos : ℕ) → TreeThere b at pos → ¬ (be32 b at ≡ 0)
    → Whole b 2 at × ((ts : Trees) × Row b 2 ts (head_at b at).first (stop_at b at))
unfolding Stands
tree_head b at pos there z = go there.tree there.stands
  where
    go : (t : Tree) → Stands b 2 t at there.end → Whole b 2 at × ((ts : Trees) × Row b 2 ts (head_at b at).first (stop_at b at))
    go absent s = absurd (z s.empty)
    go (node h ts) s = (s.0.whole, (ts, s.1))

pub tree_room : (b : List ℕ) (at pos : ℕ) → TreeThere b at pos → ¬ (be32 b at ≡ 0)
    → (9 ≤ be32 b at) × ((at + 4 + be32 b at ≤ length b) × ((length b ≤ 1048581) × (pos ≤ 2 * at)))
tree_room b at pos t z =
    let w = (tree_head b at pos t z).0 in
    (w.long, (w.inside, (t.short, t.below)))

abbrev payload_of : List ℕ → ℕ → List ℕ
payload_of b at = list_bytes (payload_steps (kind_at b at) (part (at + 13) (head_at b at).first b))

pub row_there : (b : List ℕ) (at pos n f inner : ℕ) (o u : List ℕ) → TreeThere b at pos → ¬ (be32 b at ≡ 0) → n ≡ be32 b at
    → f ≡ (head_at b at).first
    → Puts (payload_of b at) (pos + 10) o inner u → RowThere b f (at + 4 + n) inner
row_there b at pos n f inner o u t z m e p =
    let h = tree_head b at pos t z in
    let x = payload_bytes b at h.0 in
    let y = first_behind b 2 at h.0 in
    rw (m, e)
    (record {
      trees = h.1.0;
      stands = h.1.1;
      inside = h.0.inside;
      below = omega (arith, p.place, t.below);
      short = t.short;
    })

pub row_last : (b : List ℕ) (at stop pos r : ℕ) (out o : List ℕ) → RowThere b at stop pos → PutsRow b at stop pos out r o → r ≤ 2 * stop
row_last b at stop pos r out o t p =
    let s = row_bytes_lem b t.trees at stop t.stands in
    let h = row_order b 2 t.trees at stop t.stands in
    let w = p t.trees t.stands in
    omega (arith, w.place, t.below)

pub row_at : (b : List ℕ) (at n f pos r : ℕ) (out o : List ℕ) → n ≡ be32 b at → f ≡ (head_at b at).first → PutsRow b f (at + 4 + n) pos out r o
    → PutsRow b (head_at b at).first (stop_at b at) pos out r o
row_at b at n f pos r out o m e p ts s =
    p ts (subst (λ (x : ℕ). Row b 2 ts f x) (ap (λ (x : ℕ). at + 4 + x) (sym m)) (subst (λ (x : ℕ). Row b 2 ts x (stop_at b at)) (sym e) s))

-- ---- the loop over comments
abbrev pub pairs_bytes : List ℕ → ℕ → ℕ → List ℕ
pairs_bytes b n at = list_bytes (map (λ (x : Span). comment_step x.start x.end) (pairs_at b n at))

pub record Pairs (b : List ℕ) (count : ℕ) (out₀ : List ℕ) (i at pos : ℕ) (out : List ℕ) : Type 0 where
  pub some : i ≤ count
  pub place : at ≡ 7 + 8 * i
  pub far : pos ≡ 9 * i
  pub long : pos + length (pairs_bytes b (count - i) at) ≡ length (pairs_bytes b count 7)
  pub output : sets out pos (pairs_bytes b (count - i) at) ≡ sets out₀ 0 (pairs_bytes b count 7)

pub pairs_none : (b : List ℕ) (count : ℕ) (out : List ℕ) → Pairs b count out 0 7 0 out
pairs_none b count out =
    let z : count - 0 ≡ count = omega arith in
    record {
      some = omega arith;
      place = omega arith;
      far = omega arith;
      long = ap (λ (n : ℕ). 0 + length (pairs_bytes b n 7)) z ∙ omega arith;
      output = ap (λ (n : ℕ). sets out 0 (pairs_bytes b n 7)) z;
    }

pair_bytes : (b : List ℕ) (n at : ℕ) → pairs_bytes b (suc n) at ≡ (1 ∷ bytes4 (be32 b at) ++ bytes4 (be32 b (at + 4))) ++ pairs_bytes b n (at + 8)
unfolding pairs_at
pair_bytes b n at = refl

pub pairs_one : (b : List ℕ) (count : ℕ) (out₀ : List ℕ) (i at pos : ℕ) (out o₁ o₂ : List ℕ) → Bytes b → 7 + 8 * count ≤ length b
    → Pairs b count out₀ i at pos out → i < count → o₁ ≡ sets out pos (1 ∷ []) → o₂ ≡ sets o₁ (pos + 1) (part at (at + 8) b)
    → Pairs b count out₀ (i + 1) (at + 8) (pos + 9) o₂
pairs_one b count out₀ i at pos out o₁ o₂ small fits g h e₁ e₂ =
    let n = count - (i + 1) in
    let m : count - i ≡ suc n = omega arith in
    let w = (1 ∷ bytes4 (be32 b at) ++ bytes4 (be32 b (at + 4))) in
    let four : part at (at + 8) b ≡ bytes4 (be32 b at) ++ bytes4 (be32 b (at + 4)) =
    took_is
    (took_join (took_four b at (at + 4) refl (omega (arith, g.place))) (took_four b (at + 4) (at + 8) (omega arith) (omega (arith, g.place))))
    small in
    let is : pairs_bytes b (count - i) at ≡ w ++ pairs_bytes b n (at + 8) = ap (λ (k : ℕ). pairs_bytes b k at) m ∙ pair_bytes b n at in
    let len₂ : length (pairs_bytes b (count - i) at) ≡ 9 + length (pairs_bytes b n (at + 8)) = ap length is ∙ omega arith in
    let put : o₂ ≡ sets out pos w =
    e₂ ∙ ap₂ (λ (u v : List ℕ). sets u (pos + 1) v) e₁ four
    ∙ sets_behind (1 ∷ []) (bytes4 (be32 b at) ++ bytes4 (be32 b (at + 4))) out pos (pos + 1) refl in
    record {
      some = omega arith;
      place = omega (arith, g.place);
      far = omega (arith, g.far);
      long = omega (arith, g.long);
      output =
          ap (λ (u : List ℕ). sets u (pos + 9) (pairs_bytes b n (at + 8))) put
          ∙ sets_behind w (pairs_bytes b n (at + 8)) out pos (pos + 9) refl
          ∙ ap (sets out pos) (sym is)
          ∙ g.output;
    }

-- what a piece of eight bytes is, and what is left
pub first_pair : (b : List ℕ) (at stop : ℕ) (x y : List ℕ) → at + 8 ≤ stop → stop ≤ length b → part at stop b ≡ x ++ y → length x ≡ 8
    → (x ≡ part at (at + 8) b) × (y ≡ part (at + 8) stop b)
first_pair b at stop x y more fits e eight =
    let p = part at (at + 8) b in
    let q = part (at + 8) stop b in
    let len : length p ≡ 8 = part_length b at (at + 8) (omega arith) (omega arith) ∙ omega arith in
    let same : x ++ y ≡ p ++ q = sym e ∙ join b at (at + 8) stop (omega arith) more in
    let both : length x ≡ length p = eight ∙ sym len in (
      sym (take-append_seam x y) ∙ ap₂ (λ (n : ℕ) (u : List ℕ). take n u) both same ∙ take-append_seam p q,
      sym (drop-append_seam x y) ∙ ap₂ (λ (n : ℕ) (u : List ℕ). drop n u) both same ∙ drop-append_seam p q,
    )

-- the pieces that are left after `done` of `count`: the first of them, and the others
pub next_pair : (b : List ℕ) (count done size : ℕ) (r x y : List ℕ) → 7 + 8 * count ≤ length b → done ≤ count → size ≡ 8
    → r ≡ part (7 + 8 * done) (7 + 8 * count) b → r ≡ x ++ y → length x ≡ min size (length r) → 0 < length r
    → (done < count) × (x ≡ part (7 + 8 * done) (7 + 8 * done + 8) b) × (y ≡ part (7 + 8 * (done + 1)) (7 + 8 * count) b) × (length x ≡ 8)
next_pair b count done size r x y fits some s e split n more =
    let len : length r ≡ 8 * count - 8 * done = ap length e ∙ part_length b (7 + 8 * done) (7 + 8 * count) (omega arith) fits ∙ omega arith in
    let eight : length x ≡ 8 = n ∙ ap₂ min s len ∙ omega (arith, len) in
    let next : 7 + 8 * done + 8 ≡ 7 + 8 * (done + 1) = omega arith in
    let w = first_pair b (7 + 8 * done) (7 + 8 * count) x y (omega (arith, len)) fits (sym e ∙ split) eight in
    (omega (arith, len), w.0, w.1 ∙ ap (λ (k : ℕ). part k (7 + 8 * count) b) next, eight)

pub no_pair : (b : List ℕ) (count done : ℕ) (r : List ℕ) → 7 + 8 * count ≤ length b → done ≤ count
    → r ≡ part (7 + 8 * done) (7 + 8 * count) b → length r ≡ 0 → count ≤ done
no_pair b count done r fits some e none =
    let len : length r ≡ 8 * count - 8 * done = ap length e ∙ part_length b (7 + 8 * done) (7 + 8 * count) (omega arith) fits ∙ omega arith in
    omega (arith, len)

pub pairs_end : (b : List ℕ) (count : ℕ) (out₀ : List ℕ) (i at pos : ℕ) (out : List ℕ) → Pairs b count out₀ i at pos out → count ≤ i
    → Puts (pairs_bytes b count 7) 0 out₀ pos out
unfolding pairs_at
pairs_end b count out₀ i at pos out g h =
    let z : count - i ≡ 0 = omega arith in
    let none : pairs_bytes b (count - i) at ≡ [] = ap (λ (n : ℕ). pairs_bytes b n at) z in
    let len : length (pairs_bytes b (count - i) at) ≡ 0 = ap length none in
    record { place = omega (arith, g.long); output = sym (ap (sets out pos) none) ∙ g.output }

pub pairs_long : (b : List ℕ) (n at : ℕ) → length (pairs_bytes b n at) ≡ 9 * n
unfolding pairs_at
pairs_long b zero at = refl
pairs_long b (suc n) at = let e = pairs_long b n (at + 8) in omega arith

-- ---- the whole
-- an image of version 1, whose texts have two bytes of width
there_two : (s b : List ℕ) (i : Image) (end : ℕ) → read_version 1 true s b ≡ got i end → There (eqb 1) b i × Stands b 2 i.tree i.at (length b)
there_two s b i end h =
    let t = there (eqb 1) true s b i end h in
    (t, subst (λ (v : ℕ). Stands b v i.tree i.at (length b)) (two_bytes b (sym (eqb-true 1 (version b) t.may_be))) t.stands)

pub image_puts : (b : List ℕ) (n at pos r : ℕ) (out o₁ o₂ : List ℕ) → ImageThere b n at → Puts (pairs_bytes b n 7) 0 out pos o₁
    → PutsTree b at pos o₁ r o₂ → PutsImage b out r o₂
unfolding comments_of
image_puts b n at pos r out o₁ o₂ a p q s i end h =
    let (t, two) = there_two s b i end h in
    let u = (there_two a.source b a.image a.end a.reads).0 in
    let n₁ : be16 b 5 ≡ n = sym u.count ∙ a.count in
    let place : i.at ≡ at = omega (arith, t.place, u.place, t.count, u.count, a.place) in
    let all = puts_join p (q i.tree (length b) (rw place at two)) in
    let is : pairs_bytes b n 7 ++ tree_bytes b i.tree ≡ steps_of b i =
    ap (λ (k : ℕ). pairs_bytes b k 7 ++ tree_bytes b i.tree) (sym n₁)
    ∙ sym (list_append (map (λ (x : Span). comment_step x.start x.end) (pairs_at b (be16 b 5) 7)) (tree_steps (plain b i.tree))) in
    rw is at all

-- ---- the answer
pub image_there : (s b : List ℕ) (d : Document) → accepted d ≡ outcome (read_version 1 true s b) → ImageThere b d.comments d.tree
image_there s b d h = go (read_version 1 true s b) refl h
  where
    go : (r : Read Image) → read_version 1 true s b ≡ r → accepted d ≡ outcome r → ImageThere b d.comments d.tree
    go (got i end) e h =
        let same : document_of i ≡ d = cc in
        record {
          source = s;
          image = i;
          end = end;
          reads = e;
          count = ap (λ (x : Document). x.comments) same;
          place = ap (λ (x : Document). x.tree) same;
        }
    go (bad m p) e h = let z : ◌≡◌ {A = ℕ} 0 1 = cc in absurd (omega arith)

pub comments_there : (b : List ℕ) (n at : ℕ) → ImageThere b n at → (7 + 8 * n ≤ length b) × (n ≤ 8192)
comments_there b n at a =
    let t = (there_two a.source b a.image a.end a.reads).0 in
    (omega (arith, t.room, a.count), omega (arith, t.few, a.count))

pub tree_there : (b : List ℕ) (n at pos : ℕ) (out o : List ℕ) → ImageThere b n at → Puts (pairs_bytes b n 7) 0 out pos o → TreeThere b at pos
tree_there b n at pos out o a p =
    let (t, two) = there_two a.source b a.image a.end a.reads in
    record {
      tree = a.image.tree;
      end = length b;
      stands = rw a.place at two;
      below = omega (arith, p.place, pairs_long b n 7, t.place, a.place, a.count);
      short = t.short;
    }

module _ (s b out : List ℕ) where
  pub lists_refused : (x : Refusal) → refused x ≡ outcome (read_version 1 true s b)
      → (refused x ≡ steps_of_answer s b (length out)) × (out ≡ steps_of_output s b out)
  lists_refused x h = go (read_version 1 true s b) refl h
    where
      go : (r : Read Image) → read_version 1 true s b ≡ r → refused x ≡ outcome r
          → (refused x ≡ steps_of_answer s b (length out)) × (out ≡ steps_of_output s b out)
      go (got i end) e h = cc
      go (bad m q) e h =
          let same : x ≡ record { number = m; place = q } = cc in
          (rw e (ap refused same), rw e)

  module _ (d : Document) (h : accepted d ≡ outcome (read_version 1 true s b)) (bytes : ℕ) (u v : List ℕ) (p : PutsImage b u bytes v) where
    pub lists_long : length out < bytes
        → (refused (record { number = 17; place = bytes }) ≡ steps_of_answer s b (length out)) × (out ≡ steps_of_output s b out)
    lists_long k = go (read_version 1 true s b) refl h
      where
        go : (r : Read Image) → read_version 1 true s b ≡ r → accepted d ≡ outcome r
            → (refused (record { number = 17; place = bytes }) ≡ steps_of_answer s b (length out)) × (out ≡ steps_of_output s b out)
        go (bad m q) e h = let z : ◌≡◌ {A = ℕ} 0 1 = cc in absurd (omega arith)
        go (got i end) e h =
            let size : length (steps_of b i) ≡ bytes = sym ((p s i end e).place ∙ omega arith) in
            (rw (e, size, lt-ltb (length out) bytes k), rw (e, size, lt-ltb (length out) bytes k))

    pub lists_whole : (r : ℕ) (o : List ℕ) → bytes ≤ length out → PutsImage b out r o
        → (accepted bytes ≡ steps_of_answer s b (length out)) × (o ≡ steps_of_output s b out)
    lists_whole r o k q = go (read_version 1 true s b) refl h
      where
        go : (x : Read Image) → read_version 1 true s b ≡ x → accepted d ≡ outcome x
            → (accepted bytes ≡ steps_of_answer s b (length out)) × (o ≡ steps_of_output s b out)
        go (bad m y) e h = let z : ◌≡◌ {A = ℕ} 0 1 = cc in absurd (omega arith)
        go (got i end) e h =
            let size : length (steps_of b i) ≡ bytes = sym ((p s i end e).place ∙ omega arith) in
            (rw (e, size, le-ltb (length out) bytes k), (q s i end e).output ∙ rw (e, size, le-ltb (length out) bytes k))
