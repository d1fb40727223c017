-- The loop over rows without parts.
-- Assumes nothing.
use mathlib.Core.Path.{◌≡◌, refl, ap, sym, ◌∙◌, subst}
use Prim.Native.Nat.{ℕ, suc, ◌+◌, ◌≤◌, ◌<◌}
use native.Mathlib.Omega.{arith}
use native.Mathlib.Decide.{dec_lt}
use mathlib.Core.Bool.{Bool}
use lib.ListN.{length}
use Rattle.rows.specs.Kinds.{WRAP_PARENT, LINE_OR_SPACE}
use Rattle.rows.specs.Places.{KIND}
use Rattle.rows.specs.View.{view_of, cell}
use Rattle.rows.specs.declared.texts.Rows.{Rows}
use Rattle.renderer_rules.specs.Page.{page_of}
use Rattle.renderer_rules.specs.Frames.{part_limit, wrap_at}
use Rattle.renderer_rules.specs.Machine.{turn}
use Rattle.renderer.specs.declared.frames.Frames.{Frames}
use Rattle.renderer.specs.declared.run.Renderer.{Renderer as Held}
use Rattle.renderer.specs.Run.{run_of, Follows, Ready, Entering, Lent}
use Rattle.renderer.specs.Halts.{times, Passing}
use Rattle.renderer.proofs.LeafRun.{ready_on, follows_more, follows_none}
use Rattle.renderer.proofs.Written.{over_length}

-- so many rows are passed from r on
pub record Walking (rows : Rows) (w : Bool) (end : ℕ) (r q : Held) : Type 0 where
  pub stop : ℕ
  pub count : ℕ
  pub follows :
      Follows (length r.out.now) (times count (turn (view_of rows.store.now) (page_of r.max.0 rows.source.now rows.image.now))) r.marks.now r.out.now
      (run_of r)
      q.marks.now q.out.now (run_of q)
  pub lent : Lent r q
  pub mark : q.mark ≡ r.mark
  pub frames : q.frames ≡ r.frames
  pub next : q.next ≡ r.next + count
  pub leaves : (i : ℕ) → r.next ≤ i → i < q.next → (WRAP_PARENT ≤ cell rows.store.now i KIND) × (cell rows.store.now i KIND ≤ LINE_OR_SPACE)
  pub ready : Ready rows.store.now rows.source.now rows.image.now r.max.0 (length r.out.now) stop q.marks.now q.out.now (run_of q)
  pub size : length q.out.now ≡ length r.out.now
  pub from : q.next ≤ end
  pub wraps : w ≡ wrap_at q.frames.items q.frames.depth
  pub low : end ≤ part_limit (view_of rows.store.now) stop q.frames.items q.frames.depth

pub walking_start : (rows : Rows) (w : Bool) (end : ℕ) (r : Held) → (p : Passing rows w end r) → Walking rows w end r r
walking_start rows w end r p =
    record {
      stop = p.stop;
      count = 0;
      follows = follows_none rows.store.now rows.source.now rows.image.now r.max.0 (length r.out.now) p.stop r.marks.now r.out.now (run_of r);
      lent = record { max = refl; marks = refl; out = refl };
      mark = refl;
      frames = refl;
      next = omega arith;
      leaves = λ i a b. absurd (omega arith);
      ready = p.ready;
      size = refl;
      from = p.from;
      wraps = p.wrap;
      low = p.low;
    }

module _ (rows : Rows) (w : Bool) (end : ℕ) (r q : Held) (g : Walking rows w end r q) (n : q.next ≡ end → ⊥) where
  pub inside : q.next < part_limit (view_of rows.store.now) g.stop q.frames.items q.frames.depth
  inside = let a = g.from in let b = g.low in below q.next end n a b
    where
      below : (x y : ℕ) → (x ≡ y → ⊥) → x ≤ y → y ≤ part_limit (view_of rows.store.now) g.stop q.frames.items q.frames.depth
          → x < part_limit (view_of rows.store.now) g.stop q.frames.items q.frames.depth
      below x y n a b = omega arith

  pub walks : Entering rows.store.now rows.source.now rows.image.now r.max.0 (length r.out.now) g.stop q.marks.now q.out.now (run_of q)
  walks = record { ready = g.ready; inside = inside }

  pub walking_on : (p : Held) → (WRAP_PARENT ≤ cell rows.store.now q.next KIND) × (cell rows.store.now q.next KIND ≤ LINE_OR_SPACE)
      → Follows (length r.out.now) (turn (view_of rows.store.now) (page_of r.max.0 rows.source.now rows.image.now)) q.marks.now q.out.now (run_of q)
      p.marks.now p.out.now (run_of p)
      → Lent q p → p.mark ≡ q.mark → p.frames ≡ q.frames → p.next ≡ q.next + 1
      → Walking rows w end r p
  walking_on p k f l m e i =
      let y = ready_on rows.store.now rows.source.now rows.image.now r.max.0 (length r.out.now) g.stop q.marks.now q.out.now (run_of q) g.ready inside
      p.marks.now p.out.now (run_of p) f in
      record {
        stop = g.stop;
        count = suc g.count;
        follows =
            follows_more rows.store.now rows.source.now rows.image.now r.max.0 (length r.out.now) g.stop g.count r.marks.now r.out.now (run_of r) q.marks.now
            q.out.now (run_of q) p.marks.now p.out.now (run_of p) g.follows f;
        lent = record { max = l.max ∙ g.lent.max; marks = l.marks ∙ g.lent.marks; out = l.out ∙ g.lent.out };
        mark = m ∙ g.mark;
        frames = e ∙ g.frames;
        next = (let a = g.next in omega arith);
        leaves = λ j a b. one_more j a b;
        ready = y;
        size =
            (let s = f.goes g.ready.before g.ready.text 0 g.ready.wrote in
            ap length s.wrote.written ∙ over_length (length r.out.now) g.ready.before 0 _
            ∙ sym (ap length g.ready.wrote.written ∙ over_length (length r.out.now) g.ready.before 0 g.ready.text) ∙ g.size);
        from = (let a = g.from in below q.next end n a i);
        wraps = g.wraps ∙ sym (ap (λ (x : Frames). wrap_at x.items x.depth) e);
        low = subst (λ (x : Frames). end ≤ part_limit (view_of rows.store.now) g.stop x.items x.depth) (sym e) g.low;
      }
    where
      below : (x y : ℕ) → (x ≡ y → ⊥) → x ≤ y → p.next ≡ x + 1 → p.next ≤ y
      below x y n a b = omega arith

      one_more : (j : ℕ) → r.next ≤ j → j < p.next → (WRAP_PARENT ≤ cell rows.store.now j KIND) × (cell rows.store.now j KIND ≤ LINE_OR_SPACE)
      one_more j a b = go (dec_lt j q.next)
        where
          go : Dec (j < q.next) → (WRAP_PARENT ≤ cell rows.store.now j KIND) × (cell rows.store.now j KIND ≤ LINE_OR_SPACE)
          go (yes h) = g.leaves j a h
          go (no h) =
              let e : j ≡ q.next = omega arith in
              subst (λ (x : ℕ). (WRAP_PARENT ≤ cell rows.store.now x KIND) × (cell rows.store.now x KIND ≤ LINE_OR_SPACE)) (sym e) k
