-- Going on from open rows with text ahead and more marks behind is going on without them, and to put them there: of the rows entered, and of what is
-- rendered in the end.
-- Assumes nothing.
use mathlib.Core.Path.{◌≡◌, refl, sym, ap, ap₂, subst, ◌∙◌}
use mathlib.Core.Bool.{Bool, true, false, cond, ◌&&◌}
use mathlib.Core.List.{List, [], ◌++◌, map}
use Prim.Native.Nat.{ℕ, zero, suc, ◌≤◌, ◌<◌}
use native.Mathlib.Omega.{arith}
use borrow.Author.Tests.{eqb-true}
use Rattle.std.proofs.lemmas.List.{map-append}
use lib.Dec.{eqb}
use lib.ListN.{length}
use Rattle.laws.proofs.Booleans.{both}
use Rattle.rows.specs.Kinds.{CALL}
use Rattle.rows.specs.Node.{Node, Nodes, group}
use Rattle.rows.specs.View.{View, nodes_at}
use Rattle.rows.proofs.Nested.{nests_le}
use Rattle.renderer_rules.specs.declared.Frame.{Frame}
use Rattle.renderer_rules.specs.Frames.{frame_at, part_limit, wrap_at, Open, Under, Lies, AllLie}
use Rattle.renderer_rules.specs.Machine.{closing}
use Rattle.renderer_rules.specs.Renderer.{Page, Renderer, on_pen, insert, next_indent_less}
use Rattle.renderer_rules.specs.Renderer.{group_wraps, render_node, render_nodes}
use Rattle.renderer_rules.specs.Stops.{OpenRow, way_of, open_at, Stop, inside, listed_rows, entered, arguments, behind, ahead, rest, meaning}
use Rattle.whole_run.proofs.Past.{Unders, renders_length, render_ext, renders_ext}
use Rattle.whole_run.proofs.StopsPast.{longer, stop_longer, group_rows, entered_longer}
use Rattle.whole_run.proofs.StopMarks.{closing_length}

-- ---- with text ahead and marks behind
module _ (text past : List ℕ) (before : ℕ) (v : View) (p : Page) (from stop m : ℕ)
    (under : (i j : ℕ) → from ≤ i → j ≤ stop → Unders m (nodes_at v i j)) (second : (i : ℕ) → from ≤ i → i < stop → v.kind i ≡ CALL → v.number2 i < m) where
  abbrev long : Renderer → Renderer
  long r = longer text past before v p r

  abbrev all : List Stop → List Stop
  all l = map (stop_longer text past before v p) l

  -- the nodes of rows before the stop have numbers under the marks
  under_of : (i j : ℕ) (s : Renderer) → length s.marks ≡ m → from ≤ i → j ≤ stop → Unders (length s.marks) (nodes_at v i j)
  under_of i j s e l h = subst (λ (n : ℕ). Unders n (nodes_at v i j)) (sym e) (under i j l h)

  closing_long : (f : Frame) (s : Renderer) (k : ℕ) → v.kind f.row ≡ k → length s.marks ≡ m → Lies v from f → f.row < stop → v.after f.row ≤ stop
      → closing v p f (long s) ≡ long (closing v p f s)
  unfolding closing
  closing_long f s zero e h l a b = rw e refl
  closing_long f s (suc zero) e h l a b = rw e refl
  closing_long f s (suc (suc zero)) e h l a b = rw e refl
  closing_long f s (suc (suc (suc zero))) e h l a b = rw e refl
  closing_long f s (suc (suc (suc (suc zero)))) e h l a b = rw e refl
  closing_long f s (suc (suc (suc (suc (suc zero))))) e h l a b = rw e refl
  closing_long f s (suc (suc (suc (suc (suc (suc zero)))))) e h l a b = rw e refl
  closing_long f s (suc (suc (suc (suc (suc (suc (suc zero))))))) e h l a b = rw e refl
  closing_long f s (suc (suc (suc (suc (suc (suc (suc (suc zero)))))))) e h l a b = rw e refl
  closing_long f s (suc (suc (suc (suc (suc (suc (suc (suc (suc zero))))))))) e h l a b = rw e refl
  closing_long f s (suc (suc (suc (suc (suc (suc (suc (suc (suc (suc zero)))))))))) e h l a b = rw e refl
  closing_long f s (suc (suc (suc (suc (suc (suc (suc (suc (suc (suc (suc zero))))))))))) e h l a b =
      let ns = nodes_at v (v.second f.row) (v.after f.row) in
      let n : v.number2 f.row < length s.marks = (let x = second f.row l.row a e in omega arith) in
      rw e
      (ap (on_pen (next_indent_less f.deeper))
      (by_first f.first refl
      (λ y. render_ext text past before p (group (v.number2 f.row) ns) true s (n, under_of (v.second f.row) (v.after f.row) s h (l.part y) b))))
    where
      g : Node
      g = group (v.number2 f.row) (nodes_at v (v.second f.row) (v.after f.row))

      by_first : (c : Bool) → f.first ≡ c → (f.first ≡ true → render_node p g true (long s) ≡ long (render_node p g true s))
          → cond c (render_node p g true (long s)) (long s) ≡ long (cond c (render_node p g true s) s)
      by_first true e x = x e
      by_first false e x = refl
  closing_long f s (suc (suc (suc (suc (suc (suc (suc (suc (suc (suc (suc (suc k)))))))))))) e h l a b = rw e refl

  arguments_long : (es : List OpenRow) (f : Frame) (s : Renderer) → length s.marks ≡ m → Lies v from f → f.row < stop → v.after f.row ≤ stop
      → arguments v p es f (long s) ≡ all (arguments v p es f s)
  unfolding arguments
  arguments_long es f s h l a b = go (eqb (v.kind f.row) CALL && f.first) refl
    where
      ns : Nodes
      ns = nodes_at v (v.second f.row) (v.after f.row)

      rows : Renderer → List Stop
      rows r =
          entered v p ns (v.second f.row) (inside es (open_at f.row (group_wraps p ns r) (way_of f.made f.deeper))) (group_wraps p ns r)
          (insert (group_wraps p ns r) (v.number2 f.row) r)

      go : (c : Bool) → (eqb (v.kind f.row) CALL && f.first) ≡ c → cond c (rows (long s)) [] ≡ all (cond c (rows s) [])
      go false e = refl
      go true e =
          let y = both (eqb (v.kind f.row) CALL) f.first e in
          let x = second f.row l.row a (eqb-true (v.kind f.row) CALL y.0) in
          let n : v.number2 f.row < length s.marks = omega arith in
          group_rows text past before v p (v.number2 f.row) ns (v.second f.row) (λ c. inside es (open_at f.row c (way_of f.made f.deeper))) s
          (λ i gs w r u. entered_longer text past before v p ns i gs w r u) n (under_of (v.second f.row) (v.after f.row) s h (l.part y.1) b)

  entered_long : (i j : ℕ) (es : List OpenRow) (w : Bool) (s : Renderer) → length s.marks ≡ m → from ≤ i → j ≤ stop
      → entered v p (nodes_at v i j) i es w (long s) ≡ all (entered v p (nodes_at v i j) i es w s)
  entered_long i j es w s h k l = entered_longer text past before v p (nodes_at v i j) i es w s (under_of i j s h k l)

  rendered_long : (i j : ℕ) (w : Bool) (s : Renderer) → length s.marks ≡ m → from ≤ i → j ≤ stop
      → render_nodes p (nodes_at v i j) w (long s) ≡ long (render_nodes p (nodes_at v i j) w s)
  rendered_long i j w s h k l = renders_ext text past before p (nodes_at v i j) w s (under_of i j s h k l)

  -- behind the open part of the innermost of d open rows
  behind_long : (fs : List Frame) (d : ℕ) (s : Renderer) → Under v stop fs d → AllLie v from fs d → length s.marks ≡ m
      → (behind v p stop fs d (long s) ≡ all (behind v p stop fs d s)) × (rest v p stop fs d (long s) ≡ long (rest v p stop fs d s))
  unfolding behind rest Under
  behind_long fs zero s u k h = (refl, refl)
  behind_long fs (suc d) s u k h =
      let f = frame_at fs d in
      let o : Open v stop fs d = u.0 in
      let at = k d (omega arith) in
      let row = o.row in
      let low = o.low in
      let le = nests_le o.after in
      let t = closing v p f s in
      let j = part_limit v stop fs d in
      let i = v.after f.row in
      let end : i ≤ stop = omega arith in
      let c = closing_long f s (v.kind f.row) refl h at row end in
      let x = closing_length v p m f s (v.kind f.row) refl h in
      let y = render_nodes p (nodes_at v i j) (wrap_at fs d) t in
      let z : length y.marks ≡ m = renders_length p (nodes_at v i j) (wrap_at fs d) t ∙ x in
      let next = ap (render_nodes p (nodes_at v i j) (wrap_at fs d)) c ∙ rendered_long i j (wrap_at fs d) t x at.after low in
      let more = behind_long fs d y u.1 (λ j h. k j (omega arith)) z in (
        ap₂ {A = List Stop} {B = List Stop} ◌++◌ (arguments_long (listed_rows fs d) f s h at row end)
            (ap₂ {A = List Stop} {B = List Stop} ◌++◌
            (ap (entered v p (nodes_at v i j) i (listed_rows fs d) (wrap_at fs d)) c ∙ entered_long i j (listed_rows fs d) (wrap_at fs d) t x at.after low)
            (ap (behind v p stop fs d) next ∙ more.0)
            ∙ sym (map-append (stop_longer text past before v p) (entered v p (nodes_at v i j) i (listed_rows fs d) (wrap_at fs d) t) (behind v p stop fs d y)))
            ∙ sym (map-append (stop_longer text past before v p) (arguments v p (listed_rows fs d) f s) _),
        ap (rest v p stop fs d) next ∙ more.1,
      )

  pub ahead_long : (fs : List Frame) (d i : ℕ) (s : Renderer) → Under v stop fs d → part_limit v stop fs d ≤ stop → from ≤ i → AllLie v from fs d
      → length s.marks ≡ m
      → (ahead v p stop fs d i (long s) ≡ all (ahead v p stop fs d i s)) × (meaning v p stop fs d i (long s) ≡ long (meaning v p stop fs d i s))
  unfolding ahead meaning
  ahead_long fs d i s u low l k h =
      let j = part_limit v stop fs d in
      let y = render_nodes p (nodes_at v i j) (wrap_at fs d) s in
      let next = rendered_long i j (wrap_at fs d) s h l low in
      let more = behind_long fs d y u k (renders_length p (nodes_at v i j) (wrap_at fs d) s ∙ h) in (
        ap₂ {A = List Stop} {B = List Stop} ◌++◌ (entered_long i j (listed_rows fs d) (wrap_at fs d) s h l low) (ap (behind v p stop fs d) next ∙ more.0)
            ∙ sym (map-append (stop_longer text past before v p) (entered v p (nodes_at v i j) i (listed_rows fs d) (wrap_at fs d) s) (behind v p stop fs d y)),
        ap (rest v p stop fs d) next ∙ more.1,
      )
