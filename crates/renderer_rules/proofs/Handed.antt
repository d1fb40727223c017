-- Handing a stop on: what is ahead of it is what was ahead before, less the rows entered. So allotments join, however they fall.
-- Assumes nothing.
use mathlib.Core.Path.{◌≡◌, refl, ap, ap₂, sym, ◌∙◌, subst}
use Prim.Native.Nat.{ℕ, zero, suc, ◌+◌, ◌≤◌, ◌<◌}
use native.Mathlib.Omega.{arith}
use Rattle.std.proofs.lemmas.List.{length-map}
use mathlib.Core.List.{map, List, [], ◌∷◌, ◌++◌}
use lib.ListN.{length, get_or, take, drop}
use lib.Seq.{get_or-take, take-take, length-take-le}
use Rattle.rows.specs.View.{View, nodes_at}
use Rattle.renderer_rules.specs.declared.Frame.{Frame}
use Rattle.renderer_rules.specs.Renderer.{Page, Renderer, render_nodes}
use Rattle.renderer_rules.specs.Frames.{no_frame, frame_at, part_end, part_limit, wrap_at}
use Rattle.renderer_rules.specs.Machine.{Machine, closing}
use Rattle.renderer_rules.specs.Stops.{listed_as, listed_rows, Stop, entered, arguments, behind, ahead, rest, meaning}
use Rattle.renderer_rules.specs.Listed.{resumed}
use Rattle.rows.specs.Limits.{MAX_DEPTH}
use Rattle.renderer_rules.proofs.Told.{AllTold, Stands, allot_stands, frames_told}
use Rattle.renderer_rules.proofs.Resumed.{Holds}
use Rattle.renderer_rules.proofs.Machine.{Fine, left, means}
use Rattle.renderer_rules.proofs.Allot.{allot}
use Rattle.renderer_rules.proofs.Stopped.{stop_of, ahead_of, done_at, Stops, allot_stops}

-- ---- the first d frames say all
frame_same : (fs gs : List Frame) (d j : ℕ) → take d fs ≡ take d gs → j < d → frame_at fs j ≡ frame_at gs j
frame_same fs gs d j e h = sym (get_or-take d fs j no_frame h) ∙ ap (λ (l : List Frame). get_or l j no_frame) e ∙ get_or-take d gs j no_frame h

fewer : (fs gs : List Frame) (d : ℕ) → take (suc d) fs ≡ take (suc d) gs → take d fs ≡ take d gs
fewer fs gs d e = sym (take-take d (suc d) fs (omega arith)) ∙ ap (take d) e ∙ take-take d (suc d) gs (omega arith)

wrap_same : (fs gs : List Frame) (d : ℕ) → take d fs ≡ take d gs → wrap_at fs d ≡ wrap_at gs d
unfolding wrap_at
wrap_same fs gs zero e = refl
wrap_same fs gs (suc d) e = ap (λ (f : Frame). f.wrap) (frame_same fs gs (suc d) d e (omega arith))

-- the listed rows, of frames that are the same
listed_same : (fs gs : List Frame) (d : ℕ) → take d fs ≡ take d gs → listed_rows fs d ≡ listed_rows gs d
unfolding listed_rows
listed_same fs gs d e = ap (map listed_as) e

take_same : (fs gs : List Frame) (d : ℕ) → d ≤ length fs → d ≤ length gs → ((j : ℕ) → j < d → frame_at fs j ≡ frame_at gs j) → take d fs ≡ take d gs
take_same fs gs zero h l e = refl
take_same [] gs (suc d) h l e = absurd (omega arith)
take_same (f ∷ fs) [] (suc d) h l e = absurd (omega arith)
take_same (f ∷ fs) (g ∷ gs) (suc d) h l e =
    ap₂ (λ (x : Frame) (xs : List Frame). x ∷ xs) (e 0 (omega arith)) (take_same fs gs d (omega arith) (omega arith) (λ j i. e (suc j) (omega arith)))

held_frames : (v : View) (n : ℕ) (gs : List Frame) (k : ℕ) (fs : List Frame) (d : ℕ) → Holds v n gs k (map listed_as (take d fs)) → (j : ℕ) → j < d
    → j < length fs → frame_at gs (k + j) ≡ resumed v n (listed_as (frame_at fs j))
unfolding Holds
held_frames v n gs k fs zero h j i l = absurd (omega arith)
held_frames v n gs k [] (suc d) h j i l = absurd (omega arith)
held_frames v n gs k (f ∷ fs) (suc d) h zero i l = (let e : k + 0 ≡ k = omega arith in ap (frame_at gs) e ∙ h.0)
held_frames v n gs k (f ∷ fs) (suc d) h (suc j) i l =
    let e : k + suc j ≡ suc k + j = omega arith in
    ap (frame_at gs) e ∙ held_frames v n gs (suc k) fs d h.1 j (omega arith) (omega arith)

module _ (v : View) (pg : Page) (stop : ℕ) where
  limit_same : (fs gs : List Frame) (d : ℕ) → take d fs ≡ take d gs → part_limit v stop fs d ≡ part_limit v stop gs d
  unfolding part_limit
  limit_same fs gs zero e = refl
  limit_same fs gs (suc d) e = ap (part_end v) (frame_same fs gs (suc d) d e (omega arith))

  behind_same : (fs gs : List Frame) (d : ℕ) (s : Renderer) → take d fs ≡ take d gs → behind v pg stop fs d s ≡ behind v pg stop gs d s
  unfolding behind
  behind_same fs gs zero s e = refl
  behind_same fs gs (suc d) s e =
      let f = frame_at gs d in
      let ns = nodes_at v (v.after (frame_at gs d).row) (part_limit v stop gs d) in
      rw (
        frame_same fs gs (suc d) d e (omega arith),
        limit_same fs gs d (fewer fs gs d e),
        wrap_same fs gs d (fewer fs gs d e),
        listed_same fs gs d (fewer fs gs d e),
      )
      (ap (λ (l : List Stop). arguments v pg (listed_rows gs d) f s
      ++ (entered v pg ns (v.after f.row) (listed_rows gs d) (wrap_at gs d) (closing v pg f s) ++ l))
      (behind_same fs gs d (render_nodes pg ns (wrap_at gs d) (closing v pg f s)) (fewer fs gs d e)))

  rest_same : (fs gs : List Frame) (d : ℕ) (s : Renderer) → take d fs ≡ take d gs → rest v pg stop fs d s ≡ rest v pg stop gs d s
  unfolding rest
  rest_same fs gs zero s e = refl
  rest_same fs gs (suc d) s e =
      rw (frame_same fs gs (suc d) d e (omega arith), limit_same fs gs d (fewer fs gs d e), wrap_same fs gs d (fewer fs gs d e))
      (rest_same fs gs d (render_nodes pg (nodes_at v (v.after (frame_at gs d).row) (part_limit v stop gs d)) (wrap_at gs d)
      (closing v pg (frame_at gs d) s)) (fewer fs gs d e))

  ahead_same : (fs gs : List Frame) (d i : ℕ) (s : Renderer) → take d fs ≡ take d gs → ahead v pg stop fs d i s ≡ ahead v pg stop gs d i s
  unfolding ahead
  ahead_same fs gs d i s e =
      rw (limit_same fs gs d e, wrap_same fs gs d e, listed_same fs gs d e)
      (ap (λ (l : List Stop). entered v pg (nodes_at v i (part_limit v stop gs d)) i (listed_rows gs d) (wrap_at gs d) s ++ l)
      (behind_same fs gs d (render_nodes pg (nodes_at v i (part_limit v stop gs d)) (wrap_at gs d) s) e))

  meaning_same : (fs gs : List Frame) (d i : ℕ) (s : Renderer) → take d fs ≡ take d gs → meaning v pg stop fs d i s ≡ meaning v pg stop gs d i s
  unfolding meaning
  meaning_same fs gs d i s e =
      rw (limit_same fs gs d e, wrap_same fs gs d e)
      (rest_same fs gs d (render_nodes pg (nodes_at v i (part_limit v stop gs d)) (wrap_at gs d) s) e)

  -- ---- handed on
  -- from stop e, whatever stands in the array behind its listed rows, these rows are ahead, and that is the end
  pub record HandsOn (e : Stop) (rows : List Stop) (end : Renderer) : Type 0 where
    pub rows_ahead : (gs : List Frame) → length gs ≡ MAX_DEPTH → Holds v e.next gs 0 e.listed → ahead v pg stop gs (length e.listed) e.next e.state ≡ rows
    pub end_is : (gs : List Frame) → length gs ≡ MAX_DEPTH → Holds v e.next gs 0 e.listed → meaning v pg stop gs (length e.listed) e.next e.state ≡ end

  hands_here : (n : Machine) → Fine v pg stop n → Stands v pg stop n
      → HandsOn (stop_of v pg stop n) (ahead_of v pg stop n) (means v pg stop n)
  unfolding listed_rows
  hands_here n a s =
      let l : n.depth ≤ length n.frames = (let d = a.deep in let s = a.size in omega arith) in
      let z : length (map listed_as (take n.depth n.frames)) ≡ n.depth =
      length-map (take n.depth n.frames) listed_as ∙ length-take-le n.depth n.frames l in
      record {
        rows_ahead = λ gs r e.
            ap (λ (d : ℕ). ahead v pg stop gs d n.next n.state) z
            ∙ ahead_same gs n.frames n.depth n.next n.state (resumed_frames n a s gs r e);
        end_is = λ gs r e.
            ap (λ (d : ℕ). meaning v pg stop gs d n.next n.state) z
            ∙ meaning_same gs n.frames n.depth n.next n.state (resumed_frames n a s gs r e);
      }
    where
      resumed_frames : (n : Machine) → Fine v pg stop n → Stands v pg stop n → (gs : List Frame) → length gs ≡ MAX_DEPTH
          → Holds v n.next gs 0 (map listed_as (take n.depth n.frames)) → take n.depth gs ≡ take n.depth n.frames
      resumed_frames n a s gs r e =
          take_same gs n.frames n.depth (let d = a.deep in omega arith) (let d = a.deep in let s = a.size in omega arith)
          (λ j h. ap (frame_at gs) (let z : j ≡ 0 + j = omega arith in z)
          ∙ held_frames v n.next gs 0 n.frames n.depth e j h (let d = a.deep in let s = a.size in omega arith) ∙ frames_told v pg stop n a s j h)

  -- AFTER k ROWS THE REST IS AHEAD
  pub hands_on : (k : ℕ) (m : Machine) → Fine v pg stop m → AllTold v m.next m.frames m.depth
      → HandsOn (get_or (ahead_of v pg stop m) k (done_at v pg stop m)) (drop k (ahead_of v pg stop m)) (means v pg stop m)
  hands_on k m a t =
      let s : Stops v pg stop k m (allot v pg stop (left stop m) (m.entered + k) m) = allot_stops v pg stop (left stop m) k m a (omega arith) in
      let n = allot v pg stop (left stop m) (m.entered + k) m in
      let w = allot_stands v pg stop (left stop m) (m.entered + k) m a (omega arith) t in
      subst (λ (e : Stop). HandsOn e (drop k (ahead_of v pg stop m)) (means v pg stop m)) s.stops
      (subst (λ (r : Renderer). HandsOn (stop_of v pg stop n) (drop k (ahead_of v pg stop m)) r) s.final
      (subst (λ (l : List Stop). HandsOn (stop_of v pg stop n) l (means v pg stop n)) s.rest (hands_here n s.fine w)))

-- ---- allotments join
pub dropped : (l : List Stop) (j k : ℕ) (d : Stop) → get_or (drop j l) k d ≡ get_or l (j + k) d
dropped l zero k d = (let e : 0 + k ≡ k = omega arith in ap (λ (n : ℕ). get_or l n d) (sym e))
dropped [] (suc j) k d = none_there k (suc j + k)
  where
    none_there : (a b : ℕ) → get_or [] a d ≡ get_or [] b d
    none_there zero zero = refl
    none_there zero (suc b) = refl
    none_there (suc a) zero = refl
    none_there (suc a) (suc b) = refl
dropped (e ∷ l) (suc j) k d = dropped l j k d ∙ (let z : suc j + k ≡ suc (j + k) = omega arith in ap (λ (n : ℕ). get_or (e ∷ l) n d) (sym z))
