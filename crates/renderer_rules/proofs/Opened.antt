-- What the open rows of the machine keep: the rows ahead nest, in the part that is open and behind each open row.
-- Assumes nothing.
use mathlib.Core.Path.{◌≡◌, refl, ap, sym, ◌∙◌, subst}
use Prim.Native.Nat.{ℕ, zero, suc, ◌+◌, ◌-◌, ◌≤◌, ◌<◌}
use native.Mathlib.Omega.{arith}
use native.Mathlib.Numerals.{add-one}
use mathlib.Core.Bool.{Bool, true, false}
use mathlib.Core.List.{List}
use lib.ListN.{length, set, length-set}
use Rattle.rows.specs.Kinds.{INDENT_NEXT, WRAP_PARENT, LINE_OR_SPACE, IF_WRAP, CALL}
use Rattle.rows.specs.View.{View, node_at}
use Rattle.rows.specs.Nesting.{Nests, over}
use Rattle.rows.proofs.Nested.{nests_le, nests_leaf, nests_block, nests_two, nests_pair, nests_after, nests_rest, nests_deep}
use Rattle.renderer_rules.specs.declared.Frame.{Frame}
use Rattle.renderer_rules.specs.Renderer.{Page, Renderer, render_node}
use Rattle.renderer_rules.specs.Frames.{frame_at, part_end, part_limit, wrap_at, Open, Under, At}
use Rattle.renderer_rules.specs.Safe.{one_if}
use Rattle.renderer_rules.specs.Stops.{meaning}
use Rattle.renderer_rules.proofs.Meaning.{advance, limit_set, limit_same, frame_same}
use Rattle.renderer_rules.proofs.Meaning.{frame_other}

bit_le : (b : Bool) → one_if b ≤ 1
bit_le true = omega arith
bit_le false = omega arith

module _ (v : View) (pg : Page) (stop : ℕ) where
  pub under_set : (fs : List Frame) (k d : ℕ) (f : Frame) → d ≤ k → Under v stop fs d → Under v stop (set fs k f) d
  unfolding Under
  under_set fs k zero f h u = tt
  under_set fs k (suc d) f h u =
      let e = frame_other v pg stop fs k d f h in
      let l = limit_set v pg stop fs k d f (omega arith) in (
        record {
          row = rw e u.0.row;
          later = rw e u.0.later;
          after = rw (e, l) u.0.after;
          low = rw l u.0.low;
        },
        under_set fs k d f (omega arith) u.1,
      )

  pub at_leaf : (fs : List Frame) (d i : ℕ) → At v stop fs d i → i < part_limit v stop fs d
      → WRAP_PARENT ≤ v.kind i → v.kind i ≤ LINE_OR_SPACE → At v stop fs d (i + 1)
  at_leaf fs d i a h k l = rw (add-one i) (record { good = (nests_leaf a.good h k l).rest; under = a.under; low = a.low; size = a.size; deep = a.deep })

  pub at_block : (fs : List Frame) (d i : ℕ) (f : Frame) → At v stop fs d i → i < part_limit v stop fs d
      → v.kind i ≤ INDENT_NEXT → f.row ≡ i → f.first ≡ false → At v stop (set fs d f) (d + 1) (i + 1)
  unfolding Under part_end
  at_block fs d i f a h k e y =
      let b = nests_block a.good h k in
      let n = b.shallow in
      let z = a.low in
      let w = b.within in
      let l : d < length fs = rw a.size n in
      let p = limit_set v pg stop fs d d f (omega arith) in
      let q : part_limit v stop (set fs d f) (suc d) ≡ v.after i = limit_same v pg stop fs d f l ∙ rw (y, e) in
      let s = frame_same v pg stop fs d f l in
      rw (add-one i, add-one d)
      (record {
        good = rw q b.parts;
        under = (
          record { row = rw (s, e) (omega arith); later = rw (s, y, e) (over refl); after = rw (p, s, e) b.rest; low = rw p a.low },
          under_set fs d d f (omega arith) a.under,
        );
        low = rw q (omega arith);
        size = length-set fs d f ∙ a.size;
        deep = omega arith;
      })

  pub at_pop_suc : (fs : List Frame) (d i : ℕ) → At v stop fs (suc d) i → At v stop fs d (v.after (frame_at fs d).row)
  unfolding Under
  at_pop_suc fs d i a = record { good = a.under.0.after; under = a.under.1; low = a.under.0.low; size = a.size; deep = let z = a.deep in omega arith }

  pub at_top_suc : (fs : List Frame) (d i : ℕ) → At v stop fs (suc d) i → Open v stop fs d
  unfolding Under
  at_top_suc fs d i a = a.under.0

  -- what frame d - 1 is, for the code's numbers
  pub at_top : (fs : List Frame) (d i : ℕ) → 0 < d → At v stop fs d i → Open v stop fs (d - 1)
  at_top fs zero i h a = absurd (omega arith)
  at_top fs (suc d) i h a = let e : suc d - 1 ≡ d = omega arith in rw e (at_top_suc fs d i a)

  pub limit_zero : (fs : List Frame) (d : ℕ) → d ≡ 0 → part_limit v stop fs d ≡ stop
  unfolding part_limit
  limit_zero fs d e = rw e

  pub limit_pos : (fs : List Frame) (d : ℕ) → 0 < d → part_limit v stop fs d ≡ part_end v (frame_at fs (d - 1))
  unfolding part_limit
  limit_pos fs zero h = absurd (omega arith)
  limit_pos fs (suc d) h = let e : suc d - 1 ≡ d = omega arith in rw e

  pub wrap_at_zero : (fs : List Frame) (d : ℕ) → d ≡ 0 → wrap_at fs d ≡ true
  unfolding wrap_at
  wrap_at_zero fs d e = rw e

  pub wrap_at_pos : (fs : List Frame) (d : ℕ) → 0 < d → wrap_at fs d ≡ (frame_at fs (d - 1)).wrap
  unfolding wrap_at
  wrap_at_pos fs zero h = absurd (omega arith)
  wrap_at_pos fs (suc d) h = let e : suc d - 1 ≡ d = omega arith in rw e

  pub advance_leaf : (fs : List Frame) (d i : ℕ) (s : Renderer) → At v stop fs d i → i < part_limit v stop fs d
      → WRAP_PARENT ≤ v.kind i → v.kind i ≤ LINE_OR_SPACE
      → meaning v pg stop fs d (i + 1) (render_node pg (node_at v i) (wrap_at fs d) s) ≡ meaning v pg stop fs d i s
  advance_leaf fs d i s a h k l =
      sym
      (advance v pg stop fs d i s (nests_after a.good h)
      ∙ ap (λ (j : ℕ). meaning v pg stop fs d j (render_node pg (node_at v i) (wrap_at fs d) s)) ((nests_leaf a.good h k l).next ∙ sym (add-one i)))

  -- a row is opened at one of its parts
  pub at_open : (fs : List Frame) (d i k : ℕ) (f : Frame) → At v stop fs d i → i < part_limit v stop fs d → f.row ≡ i
      → Nests v k (part_end v f) (suc d) → Nests v (part_end v f) (v.after i) (suc d) → At v stop (set fs d f) (suc d) k
  unfolding Under
  at_open fs d i k f a h e g l =
      let n = nests_deep a.good h in
      let z = a.low in
      let w = nests_after a.good h in
      let b : d < length fs = rw a.size n in
      let p = limit_set v pg stop fs d d f (omega arith) in
      let q = limit_same v pg stop fs d f b in
      let s = frame_same v pg stop fs d f b in
      let y = nests_le l in
      record {
        good = rw q g;
        under = (
          record {
            row = rw (s, e) (omega arith);
            later = rw s (subst (λ (x : ℕ). Nests v (part_end v f) (v.after x) (suc d)) (sym e) l);
            after = rw (p, s, e) (nests_rest a.good h);
            low = rw p a.low;
          },
          under_set fs d d f (omega arith) a.under,
        );
        low = rw q (omega arith);
        size = length-set fs d f ∙ a.size;
        deep = omega arith;
      }

  pub at_first_lem : (fs : List Frame) (d i : ℕ) (f : Frame) → At v stop fs d i → i < part_limit v stop fs d
      → v.kind i ≡ IF_WRAP → f.row ≡ i → f.first ≡ true → At v stop (set fs d f) (suc d) (suc i)
  unfolding part_end
  at_first_lem fs d i f a h k e y =
      let g = (nests_two a.good h k).1 in
      at_open fs d i (suc i) f a h e (rw (y, e) g.first) (rw (y, e) g.second)

  pub at_second : (fs : List Frame) (d i : ℕ) (f : Frame) → At v stop fs d i → i < part_limit v stop fs d
      → v.kind i ≡ IF_WRAP → f.row ≡ i → f.first ≡ false → At v stop (set fs d f) (suc d) (v.second i)
  unfolding part_end
  at_second fs d i f a h k e y =
      let g = (nests_two a.good h k).1 in
      at_open fs d i (v.second i) f a h e (rw (y, e) g.second) (rw (y, e) (over refl))

  pub at_call : (fs : List Frame) (d i : ℕ) (f : Frame) → At v stop fs d i → i < part_limit v stop fs d
      → v.kind i ≡ CALL → f.row ≡ i → f.first ≡ true → At v stop (set fs d f) (suc d) (suc i)
  unfolding part_end
  at_call fs d i f a h k e y =
      let g = nests_pair a.good h k in
      at_open fs d i (suc i) f a h e (rw (y, e) g.first) (rw (y, e) g.second)

  -- the callee is done: the same row stays open at its second part
  pub at_on : (fs : List Frame) (d i : ℕ) (f : Frame) → At v stop fs (suc d) i → i ≡ part_end v (frame_at fs d)
      → f.row ≡ (frame_at fs d).row → f.first ≡ false → At v stop (set fs d f) (suc d) i
  unfolding Under part_end
  at_on fs d i f a h e y =
      let o = at_top_suc fs d i a in
      let n = a.deep in
      let b : d < length fs = rw a.size (omega arith) in
      let p = limit_set v pg stop fs d d f (omega arith) in
      let q : part_limit v stop (set fs d f) (suc d) ≡ v.after (frame_at fs d).row = limit_same v pg stop fs d f b ∙ rw (y, e) in
      let s = frame_same v pg stop fs d f b in
      let w = nests_le o.after in
      let z = o.low in
      record {
        good = rw (q, h) o.later;
        under = (
          record {
            row = rw (s, e) o.row;
            later = rw (s, y) (over refl);
            after = rw (p, s, e) o.after;
            low = rw p o.low;
          },
          under_set fs d d f (omega arith) a.under.1,
        );
        low = rw q (omega arith);
        size = length-set fs d f ∙ a.size;
        deep = a.deep;
      }
