-- Rows entered in joined ranges; and that a stop does not depend on how far the rows behind it are rendered.
-- Assumes nothing.
use mathlib.Core.Path.{◌≡◌, refl, ap, sym, ◌∙◌, subst}
use Prim.Native.Nat.{ℕ, zero, suc, ◌≤◌, ◌<◌}
use native.Mathlib.Omega.{arith}
use native.Mathlib.Decide.{dec_lt}
use mathlib.Core.Bool.{Bool, true}
use mathlib.Core.List.{List, [], ◌∷◌, ◌++◌, append_assoc}
use lib.ListN.{length, get_or}
use Rattle.rows.specs.View.{View, nodes_at, node_at}
use Rattle.rows.specs.Nesting.{RangeIn, Nests, over, leaf, block, two, pair}
use Rattle.rows.proofs.Decode.{nodes_some, nodes_none}
use Rattle.rows.proofs.Nested.{nests_le, leaf_within}
use Rattle.renderer_rules.specs.Renderer.{Page, Renderer, render_node, render_nodes}
use Rattle.renderer_rules.specs.Stops.{OpenRow, Stop, stop_at, within, entered}

module _ (v : View) (pg : Page) where
  -- the rows entered from i up to j
  abbrev pub among : ℕ → ℕ → List OpenRow → Bool → Renderer → List Stop
  among i j es w r = entered v pg (nodes_at v i j) i es w r

  abbrev pub after : ℕ → ℕ → Bool → Renderer → Renderer
  after i j w r = render_nodes pg (nodes_at v i j) w r

  wider : {i j k : ℕ} → RangeIn v i j → j ≤ k → RangeIn v i k
  wider w h = record { up = w.up; to = (let t = w.to in omega arith) }

  among_row : (i j : ℕ) (es : List OpenRow) (w : Bool) (r : Renderer) → RangeIn v i j
      → among i j es w r ≡ (stop_at i es r ∷ (within v pg (node_at v i) i es w r ++ among (v.after i) j es w (render_node pg (node_at v i) w r)))
  unfolding entered
  among_row i j es w r h = rw (nodes_some v i j h)

  after_row : (i j : ℕ) (w : Bool) (r : Renderer) → RangeIn v i j → after i j w r ≡ after (v.after i) j w (render_node pg (node_at v i) w r)
  unfolding render_nodes
  after_row i j w r h = rw (nodes_some v i j h)

  row_join : (i j k : ℕ) (es : List OpenRow) (w : Bool) (r : Renderer) → RangeIn v i j → j ≤ k
      → among (v.after i) k es w (render_node pg (node_at v i) w r)
      ≡ among (v.after i) j es w (render_node pg (node_at v i) w r) ++ among j k es w (after (v.after i) j w (render_node pg (node_at v i) w r))
      → among i k es w r ≡ among i j es w r ++ among j k es w (after i j w r)
  row_join i j k es w r h l e =
      among_row i k es w r (wider h l)
      ∙ ap (λ (x : List Stop). stop_at i es r ∷ (within v pg (node_at v i) i es w r ++ x)) e
      ∙ ap (λ (x : List Stop). stop_at i es r ∷ x) (sym (append_assoc (within v pg (node_at v i) i es w r) _ _))
      ∙ ap (λ (x : List Stop). x ++ among j k es w (after (v.after i) j w (render_node pg (node_at v i) w r))) (sym (among_row i j es w r h))
      ∙ ap (λ (x : Renderer). among i j es w r ++ among j k es w x) (sym (after_row i j w r h))

  none_join : (i j k : ℕ) (es : List OpenRow) (w : Bool) (r : Renderer) → i ≡ j → among i k es w r ≡ among i j es w r ++ among j k es w (after i j w r)
  unfolding entered render_nodes
  none_join i j k es w r e = rw e (rw (nodes_none v j j (omega arith)))

  -- ONE RANGE AND THEN ANOTHER
  pub among_join : {i j d : ℕ} (k : ℕ) → Nests v i j d → j ≤ k → (es : List OpenRow) (w : Bool) (r : Renderer)
      → among i k es w r ≡ among i j es w r ++ among j k es w (after i j w r)
  among_join {i} {j} k (over e) h es w r = none_join i j k es w r e
  among_join {i} {j} k (leaf a b e f s g) h es w r =
      row_join i j k es w r (leaf_within e f) h
      (subst (λ (n : ℕ). among n k es w (render_node pg (node_at v i) w r) ≡ among n j es w (render_node pg (node_at v i) w r)
      ++ among j k es w (after n j w (render_node pg (node_at v i) w r))) (sym e)
      (among_join k g h es w (render_node pg (node_at v i) w r)))
  among_join {i} {j} k (block a w' s g l) h es w r = row_join i j k es w r w' h (among_join k l h es w (render_node pg (node_at v i) w r))
  among_join {i} {j} k (two a w' t s g l m) h es w r = row_join i j k es w r w' h (among_join k m h es w (render_node pg (node_at v i) w r))
  among_join {i} {j} k (pair a w' t s g l m) h es w r = row_join i j k es w r w' h (among_join k m h es w (render_node pg (node_at v i) w r))

  -- ---- the stop after n rows, of the rows from i up to j
  abbrev pub stop_in : ℕ → ℕ → Renderer → ℕ → Stop
  stop_in i j r n = get_or (among i j [] true r) n (stop_at j [] (after i j true r))

  in_front : (a b : List Stop) (n : ℕ) (d e : Stop) → n < length a → get_or (a ++ b) n d ≡ get_or a n e
  in_front [] b n d e h = absurd (omega arith)
  in_front (x ∷ a) b zero d e h = refl
  in_front (x ∷ a) b (suc n) d e h = in_front a b n d e (omega arith)

  at_seam : (a b : List Stop) (d : Stop) → get_or (a ++ b) (length a) d ≡ get_or b 0 d
  at_seam [] b d = refl
  at_seam (x ∷ a) b d = at_seam a b d

  past_end : (a : List Stop) (e : Stop) → get_or a (length a) e ≡ e
  past_end [] e = refl
  past_end (x ∷ a) e = past_end a e

  first_stop : {j k d : ℕ} (r : Renderer) (e : Stop) → Nests v j k d → (j ≡ k → e ≡ stop_at j [] r) → get_or (among j k [] true r) 0 e ≡ stop_at j [] r
  unfolding entered
  first_stop {j} {k} r e (over q) h = rw (nodes_none v j k (omega arith)) (h q)
  first_stop {j} {k} r e (leaf a b c f s g) h = rw (among_row j k [] true r (leaf_within c f)) refl
  first_stop {j} {k} r e (block a w s g l) h = rw (among_row j k [] true r w) refl
  first_stop {j} {k} r e (two a w t s g l m) h = rw (among_row j k [] true r w) refl
  first_stop {j} {k} r e (pair a w t s g l m) h = rw (among_row j k [] true r w) refl

  same_end : (i j k : ℕ) (r : Renderer) → j ≡ k → stop_at k [] (after i k true r) ≡ stop_at j [] (after i j true r)
  same_end i j k r e = ap (λ (n : ℕ). stop_at n [] (after i n true r)) (sym e)

  -- A STOP AFTER NO MORE ROWS THAN ARE ENTERED BEFORE ROW j IS THE SAME FOR EVERY FURTHER STOP k
  pub stops_alike : {i j k d : ℕ} (r : Renderer) (n : ℕ) → Nests v i j d → Nests v j k d → n ≤ length (among i j [] true r) → stop_in i k r n ≡ stop_in i j r n
  stops_alike {i} {j} {k} r n g l h =
      ap (λ (x : List Stop). get_or x n (stop_at k [] (after i k true r))) (among_join k g (nests_le l) [] true r)
      ∙ go (dec_lt n (length (among i j [] true r)))
    where
      go : Dec (n < length (among i j [] true r))
          → get_or (among i j [] true r ++ among j k [] true (after i j true r)) n (stop_at k [] (after i k true r)) ≡ stop_in i j r n
      go (yes p) = in_front (among i j [] true r) _ n _ _ p
      go (no p) =
          let e : n ≡ length (among i j [] true r) = omega arith in
          ap (λ (m : ℕ). get_or (among i j [] true r ++ among j k [] true (after i j true r)) m (stop_at k [] (after i k true r))) e
          ∙ at_seam (among i j [] true r) (among j k [] true (after i j true r)) (stop_at k [] (after i k true r))
          ∙ first_stop (after i j true r) (stop_at k [] (after i k true r)) l (same_end i j k r)
          ∙ sym (past_end (among i j [] true r) (stop_at j [] (after i j true r)))
          ∙ ap (λ (m : ℕ). stop_in i j r m) (sym e)
