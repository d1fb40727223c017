-- What a state tells of an open row is enough: which part of a row is open, the machine keeps by itself, and it is what the next row says; and
-- the three ways of a `Call` tell its two flags.
-- Assumes nothing.
use mathlib.Core.Path.{◌≡◌, refl, ap, sym, ◌∙◌, subst}
use mathlib.Core.Logic.{◌⊎◌, inl, inr}
use Prim.Native.Nat.{ℕ, zero, suc, ◌≤◌, ◌<◌}
use native.Mathlib.Omega.{arith}
use native.Mathlib.Decide.{dec_lt}
use mathlib.Core.Bool.{Bool, true, false, cond, ◌&&◌, ◌||◌}
use mathlib.Core.List.{List}
use lib.ListN.{length, set}
use lib.Dec.{eqb, ltb, leb}
use borrow.Author.Tests.{ne_eqb, eqb-true, eqb-false, lt-ltb, le-ltb, ltb-true}
use Rattle.laws.proofs.Booleans.{both, true_false}
use Rattle.rows.specs.Kinds.{GROUP, INDENT, INDENT_NEXT, IF_WRAP, CALL}
use Rattle.rows.specs.Node.{wrapped}
use Rattle.rows.specs.View.{View, nodes_at}
use Rattle.rows.proofs.Nested.{nests_le, nests_two, nests_kind, nests_deep}
use Rattle.renderer_rules.specs.declared.Frame.{Frame}
use Rattle.renderer_rules.specs.Renderer.{Page, Renderer, group_wraps, insert}
use Rattle.renderer_rules.specs.Frames.{frame_at, part_end, part_limit, wrap_at, Under, At}
use Rattle.renderer_rules.specs.Machine.{Machine, opened, reopened, closed_to, frame_of, call_frame, closing}
use Rattle.renderer_rules.specs.Machine.{enter_group, enter_indent, enter_next, enter_leaf, enter_if, enter_call, enter, leave, turn_at, turn}
use Rattle.renderer_rules.specs.Stops.{way_of, is_made, is_deeper, listed_as}
use Rattle.renderer_rules.specs.Listed.{resumed}
use Rattle.renderer_rules.proofs.Meaning.{frame_same, frame_other}
use Rattle.renderer_rules.proofs.Opened.{at_top_suc}
use Rattle.renderer_rules.proofs.Machine.{Fine, left, is_done, turned, not_done, in_part, spent}
use Rattle.renderer_rules.proofs.Allot.{allot, wants_row}

-- rows of two parts
abbrev has_two : View → ℕ → Bool
has_two v i = eqb (v.kind i) IF_WRAP || eqb (v.kind i) CALL

-- what the machine keeps of an open row, with row n next
pub record Told (v : View) (n : ℕ) (f : Frame) : Type 0 where
  pub two : f.first ≡ true → has_two v f.row ≡ true
  pub late : f.first ≡ false → has_two v f.row ≡ true → v.second f.row ≤ n
  pub made : f.deeper ≡ true → f.made ≡ true

abbrev pub AllTold : View → ℕ → List Frame → ℕ → Type 0
AllTold v n fs d = (j : ℕ) → j < d → Told v n (frame_at fs j)

-- ---- the flags by the way
deeper_by : (m d : Bool) → is_deeper (way_of m d) ≡ d
deeper_by m true = refl
deeper_by true false = refl
deeper_by false false = refl

made_by : (m d : Bool) → (d ≡ true → m ≡ true) → is_made (way_of m d) ≡ m
made_by m true h = sym (h refl)
made_by true false h = refl
made_by false false h = refl

-- WHAT IS LISTED SAYS THE OPEN ROW, where a row is ahead of it in its open part
pub told_same : (v : View) (n : ℕ) (f : Frame) → Told v n f → n < part_end v f → resumed v n (listed_as f) ≡ f
unfolding part_end
told_same v n f t h =
    rw (deeper_by f.made f.deeper, made_by f.made f.deeper t.made)
    (ap (λ (b : Bool). call_frame f.row f.wrap b f.deeper f.made) (go f.first refl (has_two v f.row) refl))
  where
    go : (b : Bool) → f.first ≡ b → (c : Bool) → has_two v f.row ≡ c → (c && ltb n (v.second f.row)) ≡ f.first
    go true e c k = rw (e) (let x = sym k ∙ t.two e in rw (x) (lt-ltb n (v.second f.row) (let y : n < cond f.first (v.second f.row) (v.after f.row) = h in
        subst (λ (z : Bool). n < cond z (v.second f.row) (v.after f.row)) e y)))
    go false e true k = rw (e) (le-ltb n (v.second f.row) (t.late e k))
    go false e false k = rw (e) refl

-- ---- each way that a turn goes keeps it
told_on : (v : View) (n k : ℕ) (f : Frame) → n ≤ k → Told v n f → Told v k f
told_on v n k f h t = record { two = t.two; late = λ e x. (let y = t.late e x in omega arith); made = t.made }

plain_two : (v : View) (i : ℕ) → v.kind i ≤ INDENT_NEXT → has_two v i ≡ false
plain_two v i h = rw (ne_eqb (v.kind i) IF_WRAP (λ e. omega arith), ne_eqb (v.kind i) CALL (λ e. omega arith))

plain_told : (v : View) (n i : ℕ) (b : Bool) → v.kind i ≤ INDENT_NEXT → Told v n (frame_of i b false)
plain_told v n i b h = record { two = λ e. true_false (sym e); late = λ e x. true_false (sym x ∙ plain_two v i h); made = λ e. true_false (sym e) }

first_told : (v : View) (n i : ℕ) (b d m : Bool) → has_two v i ≡ true → (d ≡ true → m ≡ true) → Told v n (call_frame i b true d m)
first_told v n i b d m h k = record { two = λ e. h; late = λ e. true_false e; made = k }

second_told : (v : View) (n i : ℕ) (b d m : Bool) → v.second i ≤ n → (d ≡ true → m ≡ true) → Told v n (call_frame i b false d m)
second_told v n i b d m h k = record { two = λ e. true_false (sym e); late = λ e x. h; made = k }

module _ (v : View) (pg : Page) (stop : ℕ) where
  module _ (m : Machine) (a : Fine v pg stop m) (t : AllTold v m.next m.frames m.depth) where
    -- frame k is set, which is the innermost then
    set_told : (k n : ℕ) (f : Frame) → k ≤ m.depth → k < length m.frames → m.next ≤ n → Told v n f → AllTold v n (set m.frames k f) (suc k)
    set_told k n f l h i x j q = go (dec_lt j k)
      where
        go : Dec (j < k) → Told v n (frame_at (set m.frames k f) j)
        go (yes p) = subst (Told v n) (sym (frame_other v pg stop m.frames k j f p)) (told_on v m.next n (frame_at m.frames j) i (t j (omega arith)))
        go (no p) =
            let e : j ≡ k = omega arith in
            subst (λ (y : ℕ). Told v n (frame_at (set m.frames k f) y)) (sym e) (subst (Told v n) (sym (frame_same v pg stop m.frames k f h)) x)

    module _ (h : m.next < part_limit v stop m.frames m.depth) where
      roomy : m.depth < length m.frames
      roomy = rw a.size (nests_deep a.good h)

      block_told : (f : Frame) (s : Renderer) → Told v (suc m.next) f
          → AllTold v (opened m f (suc m.next) s).next (opened m f (suc m.next) s).frames (opened m f (suc m.next) s).depth
      block_told f s x = set_told m.depth (suc m.next) f (omega arith) roomy (omega arith) x

      abbrev Keeps : Machine → Type 0
      Keeps n = AllTold v n.next n.frames n.depth

      leaf_told : Keeps (enter_leaf v pg m)
      unfolding enter_leaf
      leaf_told j q = told_on v m.next (suc m.next) (frame_at m.frames j) (omega arith) (t j q)

      group_told : v.kind m.next ≡ GROUP → Keeps (enter_group v pg m)
      unfolding enter_group
      group_told k = block_told _ m.state (plain_told v (suc m.next) m.next _ (omega arith))

      indent_told : v.kind m.next ≡ INDENT → Keeps (enter_indent v pg m)
      unfolding enter_indent
      indent_told k = block_told _ m.state (plain_told v (suc m.next) m.next _ (omega arith))

      next_told : v.kind m.next ≡ INDENT_NEXT → Keeps (enter_next v pg m)
      unfolding enter_next
      next_told k = block_told _ m.state (plain_told v (suc m.next) m.next _ (omega arith))

      if_told : v.kind m.next ≡ IF_WRAP → Keeps (enter_if v pg m)
      unfolding enter_if
      if_told k = go (wrapped m.state.marks (v.number m.next))
        where
          w : Bool
          w = wrap_at m.frames m.depth

          go : (b : Bool)
              → Keeps (cond b (opened m (frame_of m.next w true) (suc m.next) m.state) (opened m (frame_of m.next w false) (v.second m.next) m.state))
          go true = block_told (frame_of m.next w true) m.state (first_told v (suc m.next) m.next w false false (rw k) (λ e. e))
          go false =
              set_told m.depth (v.second m.next) (frame_of m.next w false) (omega arith) roomy (let u = (nests_two a.good h k).0.up in omega arith)
              (second_told v (v.second m.next) m.next w false false (omega arith) (λ e. e))

      call_told : v.kind m.next ≡ CALL → Keeps (enter_call v pg m)
      unfolding enter_call
      call_told k = block_told _ m.state (first_told v (suc m.next) m.next _ _ _ (rw k) (λ e. (both _ _ e).0))

      enter_told : (k : ℕ) → v.kind m.next ≡ k → Keeps (enter v pg m)
      unfolding enter
      enter_told zero e = rw e (group_told e)
      enter_told (suc zero) e = rw e (indent_told e)
      enter_told (suc (suc zero)) e = rw e (next_told e)
      enter_told (suc (suc (suc zero))) e = rw e leaf_told
      enter_told (suc (suc (suc (suc zero)))) e = rw e leaf_told
      enter_told (suc (suc (suc (suc (suc zero))))) e = rw e leaf_told
      enter_told (suc (suc (suc (suc (suc (suc zero)))))) e = rw e leaf_told
      enter_told (suc (suc (suc (suc (suc (suc (suc zero))))))) e = rw e leaf_told
      enter_told (suc (suc (suc (suc (suc (suc (suc (suc zero)))))))) e = rw e leaf_told
      enter_told (suc (suc (suc (suc (suc (suc (suc (suc (suc zero))))))))) e = rw e leaf_told
      enter_told (suc (suc (suc (suc (suc (suc (suc (suc (suc (suc zero)))))))))) e = rw e (if_told e)
      enter_told (suc (suc (suc (suc (suc (suc (suc (suc (suc (suc (suc zero))))))))))) e = rw e (call_told e)
      enter_told (suc (suc (suc (suc (suc (suc (suc (suc (suc (suc (suc (suc k)))))))))))) e = absurd (let z = nests_kind a.good h in omega arith)

    leave_told : (k : ℕ) → m.depth ≡ suc k → m.next ≡ part_end v (frame_at m.frames k)
        → AllTold v (leave v pg m k).next (leave v pg m k).frames (leave v pg m k).depth
    unfolding leave part_end
    leave_told k d e = go (eqb (v.kind f.row) CALL && f.first) refl
      where
        f : Frame
        f = frame_at m.frames k

        c : Bool
        c = group_wraps pg (nodes_at v m.next (v.after f.row)) m.state

        on : Machine
        on = reopened m k (call_frame f.row c false f.deeper f.made) (insert c (v.number2 f.row) m.state)

        off : Machine
        off = closed_to m k (v.after f.row) (closing v pg f m.state)

        go : (b : Bool) → (eqb (v.kind f.row) CALL && f.first) ≡ b → AllTold v (cond b on off).next (cond b on off).frames (cond b on off).depth
        go true q =
            let x = both (eqb (v.kind f.row) CALL) f.first q in
            let y : m.next ≡ v.second f.row = e ∙ rw x.1 in
            set_told k m.next (call_frame f.row c false f.deeper f.made) (omega arith) (let z = a.deep in rw a.size (omega arith)) (omega arith)
            (second_told v m.next f.row c f.deeper f.made (omega arith) (t k (omega arith)).made)
        go false q = λ j r.
            told_on v m.next (v.after f.row) (frame_at m.frames j)
            (let s = nests_le (at_top_suc v pg stop m.frames k m.next (subst (λ (x : ℕ). At v stop m.frames x m.next) d a)).later in omega arith)
            (t j (omega arith))

  turn_told_at : (d : ℕ) (m : Machine) → m.depth ≡ d → Fine v pg stop m → is_done v pg stop m ≡ false → AllTold v m.next m.frames m.depth
      → AllTold v (turn_at v pg d m).next (turn_at v pg d m).frames (turn_at v pg d m).depth
  unfolding turn_at
  turn_told_at zero m e a n t = enter_told m a t (not_done v pg stop m a n e) (v.kind m.next) refl
  turn_told_at (suc k) m e a n t = go (eqb m.next (part_end v (frame_at m.frames k))) refl
    where
      to : Bool → Machine
      to b = cond b (leave v pg m k) (enter v pg m)

      go : (b : Bool) → eqb m.next (part_end v (frame_at m.frames k)) ≡ b → AllTold v (to b).next (to b).frames (to b).depth
      go true q = leave_told m a t k e (eqb-true _ _ q)
      go false q = enter_told m a t (in_part v pg stop m k e a (eqb-false _ _ q)) (v.kind m.next) refl

  pub turn_told : (m : Machine) → Fine v pg stop m → is_done v pg stop m ≡ false → AllTold v m.next m.frames m.depth
      → AllTold v (turn v pg m).next (turn v pg m).frames (turn v pg m).depth
  unfolding turn
  turn_told m a n t = turn_told_at m.depth m refl a n t

  -- the frames of the machine, and whether it is done or a row is ahead: what holds where an allotment ends
  pub record Stands (m : Machine) : Type 0 where
    pub told : AllTold v m.next m.frames m.depth
    pub ends : (is_done v pg stop m ≡ true) ⊎ (wants_row v pg stop m ≡ true)

  stands_step : (n : ℕ) (m r : Machine) (b c : Bool) → AllTold v m.next m.frames m.depth → is_done v pg stop m ≡ b
      → (wants_row v pg stop m && leb n m.entered) ≡ c
      → (b ≡ false → Stands r) → Stands (cond b m (cond c m r))
  stands_step n m r true c t e d h = record { told = t; ends = inl e }
  stands_step n m r false true t e d h = record { told = t; ends = inr (both _ _ d).0 }
  stands_step n m r false false t e d h = h refl

  pub allot_stands : (f n : ℕ) (m : Machine) → Fine v pg stop m → left stop m ≤ f → AllTold v m.next m.frames m.depth → Stands (allot v pg stop f n m)
  unfolding allot
  allot_stands zero n m a l t = record { told = t; ends = inl (spent v pg stop m a l) }
  allot_stands (suc f) n m a l t =
      stands_step n m (allot v pg stop f n (turn v pg m)) (is_done v pg stop m) (wants_row v pg stop m && leb n m.entered) t refl refl
      (λ e. let s = turned v pg stop m a e in let y = s.less in allot_stands f n (turn v pg m) s.fine (omega arith) (turn_told m a e t))

  -- no open part ends before the innermost
  limit_down : (fs : List Frame) (d : ℕ) → Under v stop fs d → (j : ℕ) → j < d → part_limit v stop fs d ≤ part_end v (frame_at fs j)
  unfolding Under part_limit
  limit_down fs zero u j h = absurd (omega arith)
  limit_down fs (suc d) u j h = go (dec_lt j d) (limit_down fs d u.1 j)
    where
      go : Dec (j < d) → (j < d → part_limit v stop fs d ≤ part_end v (frame_at fs j)) → part_end v (frame_at fs d) ≤ part_end v (frame_at fs j)
      go (yes p) rec =
          let x = rec p in
          let y = nests_le u.0.later in
          let z = nests_le u.0.after in
          omega arith
      go (no p) rec = let e : j ≡ d = omega arith in subst (λ (k : ℕ). part_end v (frame_at fs d) ≤ part_end v (frame_at fs k)) (sym e) (omega arith)

  -- WHERE THE MACHINE STOPS, ITS OPEN ROWS ARE WHAT THE LISTED ONES SAY
  pub frames_told : (m : Machine) → Fine v pg stop m → Stands m → (j : ℕ) → j < m.depth
      → resumed v m.next (listed_as (frame_at m.frames j)) ≡ frame_at m.frames j
  unfolding is_done wants_row
  frames_told m a s j h = go s.ends
    where
      go : (is_done v pg stop m ≡ true) ⊎ (wants_row v pg stop m ≡ true) → resumed v m.next (listed_as (frame_at m.frames j)) ≡ frame_at m.frames j
      go (inl e) = absurd (let z = eqb-true m.depth 0 (both _ _ e).0 in omega arith)
      go (inr e) =
          let x = limit_down m.frames m.depth a.under j h in
          let y = ltb-true _ _ e in
          told_same v m.next (frame_at m.frames j) (s.told j h) (omega arith)
