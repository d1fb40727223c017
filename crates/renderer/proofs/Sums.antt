-- What the sum of widths keeps: what it has summed, with what is still ahead, is the width of the whole range. First row by row, then with
-- the first parts of `IfWrap` rows open.
-- Assumes nothing.
use mathlib.Core.Path.{◌≡◌, refl, sym, ap, ◌∙◌, subst}
use Prim.Native.Nat.{ℕ, suc, ◌+◌, ◌*◌, ◌-◌, ◌≤◌, ◌<◌}
use native.Mathlib.Omega.{arith}
use native.Mathlib.Numerals.{add-one}
use mathlib.Core.Bool.{true, false}
use mathlib.Core.List.{List, [], ◌∷◌}
use lib.ListN.{length}
use Rattle.rows.specs.Limits.{CELL_LIMIT, MAX_DEPTH}
use Rattle.rows.specs.Kinds.{IF_WRAP}
use Rattle.rows.specs.Places.{KIND, NUMBER, SECOND, AFTER}
use Rattle.rows.specs.Node.{Nodes, widths, wrapped, byte_columns}
use Rattle.rows.specs.View.{view_of, cell, own_width, nodes_at}
use Rattle.rows.specs.Nesting.{Nested, Nests}
use Rattle.rows.specs.Nesting.Nests.{over}
use Rattle.rows.proofs.Decode.{nodes_none}
use Rattle.rows.proofs.Nested.{nests_two, nests_after, nests_le, nests_deep, nests_weaken}
use Rattle.rows.proofs.Widths.{on_other, on_second, width_first}
use Rattle.rows.proofs.OwnWidth.{own_same, kind_cell, number_cell, second_cell, after_cell}
use Rattle.renderer.specs.Limits.{MEASURED_LIMIT}
use Rattle.renderer.specs.Measure.{Measures, Passed, IsWrapped}

module _ (s m : List ℕ) where
  -- the width of the rows from i up to j
  abbrev W : ℕ → ℕ → ℕ
  W i j = widths byte_columns m (nodes_at (view_of s) i j)

  none_wide : (i j : ℕ) → j ≤ i → W i j ≡ 0
  unfolding widths
  none_wide i j h = ap (λ (n : Nodes). widths byte_columns m n) (nodes_none (view_of s) i j h)

module _ (s m : List ℕ) (from to : ℕ) where
  pub begun : Passed s m from to from 0
  begun = record { width = omega arith; nests = λ d g. g; cap = omega arith }

  module _ (row sum : ℕ) (n : Nested s from to) (p : Passed s m from to row sum) (h : row < to) where
    ahead : Nests (view_of s) row to 0
    ahead = p.nests 0 n.nests

    -- any row but an `IfWrap`
    pub passed : (k w : ℕ) → k ≡ cell s row KIND → (k ≡ 10 → ⊥) → w ≡ own_width s row k → w < CELL_LIMIT
        → Passed s m from to (row + 1) (sum + w)
    passed k w e x q r =
        let kind = kind_cell s row ∙ sym e in
        let own = own_same s m row k e in
        let a = (on_other (view_of s) byte_columns m ahead h k kind x).width in
        let b = p.width in
        let c = p.cap in
        record {
          width = omega arith;
          nests = λ d g. (on_other (view_of s) byte_columns m (p.nests d g) h k kind x).nests;
          cap = omega arith;
        }

    pub second_later : (mid : ℕ) → cell s row KIND ≡ IF_WRAP → mid ≡ cell s row SECOND → (row < mid) × (mid ≤ to)
    second_later mid k d =
        let t = nests_two ahead h (kind_cell s row ∙ k) in
        let b = (nests_after ahead h).to in
        let y = second_cell s row in
        (let u = t.0.up in omega arith, let u = t.0.to in omega arith)

    -- an `IfWrap` that has not wrapped: its second part
    pub second_part : (num mid : ℕ) → cell s row KIND ≡ IF_WRAP → num ≡ cell s row NUMBER
        → mid ≡ cell s row SECOND → wrapped m num ≡ false → Passed s m from to mid sum
    second_part num mid k a d e =
        let kind = kind_cell s row ∙ k in
        let f : wrapped m ((view_of s).number row) ≡ false = rw (number_cell s row ∙ sym a) e in
        let x = second_later mid k d in
        let b = p.width in
        let c = p.cap in
        rw (d ∙ sym (second_cell s row))
        (let y = (on_second (view_of s) byte_columns m ahead h kind f).width in
        let z = second_cell s row in
        record {
          width = omega arith;
          nests = λ q g. (on_second (view_of s) byte_columns m (p.nests q g) h kind f).nests;
          cap = omega arith;
        })

  module _ (row sum room : ℕ) (n : Nested s from to) (p : Passed s m from to row sum) where
    -- the sum went past the room
    pub past : room < sum → Measures s m from to room (room + 1)
    past h =
        let a = p.width in
        let b = p.cap in
        let c = nests_le (p.nests 0 n.nests) in
        record { width = omega arith; cap = omega arith }

    -- the sum came to the end
    pub ended : to ≤ row → sum ≤ room → Measures s m from to room sum
    ended h e =
        let a = p.width in
        let b = p.cap in
        let c = nests_le (p.nests 0 n.nests) in
        let d = none_wide s m row to h in
        record { width = omega arith; cap = omega arith }

    pub onward : Nested s row to
    onward = record { room = n.room; few = n.few; nests = p.nests 0 n.nests }

    -- the sum was taken up again where an `IfWrap` stopped it
    pub joined : (w : ℕ) → sum ≤ room → Measures s m row to (room - sum) w → Measures s m from to room (sum + w)
    joined w h q =
        let a = p.width in
        let b = p.cap in
        let c = q.width in
        let d = q.cap in
        record { width = omega arith; cap = omega arith }

pub measured : (s m : List ℕ) (from to room w : ℕ) → Nested s from to → Measures s m from to room w → w < MEASURED_LIMIT
measured s m from to room w n q =
    let a = q.cap in
    let b = n.few in
    omega arith

-- `ends` has where the parts end that enclose the one that the sum is in, the innermost first. That one ends at `end`, and there the part
-- stands that is not chosen.
unfoldable pub rest : List ℕ → List ℕ → List ℕ → ℕ → ℕ
rest s m [] end = 0
rest s m (x ∷ xs) end = W s m ((view_of s).after end) x + rest s m xs x

unfoldable pub Fine : List ℕ → ℕ → List ℕ → ℕ → Type 0
Fine s to [] end = end ≡ to
Fine s to (x ∷ xs) end = (end < (view_of s).after end) × Nests (view_of s) ((view_of s).after end) x (length xs) × Fine s to xs x

fine_low : (s : List ℕ) (to : ℕ) (ends : List ℕ) (end : ℕ) → Fine s to ends end → end + length ends ≤ to
unfolding Fine
fine_low s to [] end f = omega arith
fine_low s to (x ∷ xs) end f =
    let a = nests_le f.1 in
    let b = fine_low s to xs x f.2 in
    omega arith

-- The sum is at `row`, in a part that ends at `end`: what is ahead there and in the parts around it makes the width of the whole range.
pub record Open (s m : List ℕ) (from to : ℕ) (ends : List ℕ) (row end sum : ℕ) : Type 0 where
  pub width : sum + W s m row end + rest s m ends end ≡ W s m from to
  pub nests : Nests (view_of s) row end (length ends)
  pub fine : Fine s to ends end
  pub cap : sum + from * CELL_LIMIT ≤ row * CELL_LIMIT

pub opened : (s m : List ℕ) (from to : ℕ) (ends : List ℕ) → Nested s from to → ends ≡ [] → Open s m from to ends from to 0
unfolding rest Fine
opened s m from to ends n e = rw e (record { width = omega arith; nests = n.nests; fine = refl; cap = omega arith })

module _ (s m : List ℕ) (from to : ℕ) (ends : List ℕ) (row end sum : ℕ) (t : Open s m from to ends row end sum) where
  pub low : end + length ends ≤ to
  low = fine_low s to ends end t.fine

  pub reached : row ≤ end
  reached = nests_le t.nests

  -- nothing is ahead
  pub all : (room : ℕ) → sum ≤ room → to ≤ row → Measures s m from to room sum
  unfolding rest
  all room l h = go ends refl
    where
      go : (es : List ℕ) → ends ≡ es → Measures s m from to room sum
      go [] e =
          let a = rw e at t.width in
          let b = none_wide s m row end (let x = low in omega arith) in
          let c = t.cap in
          let d = low in
          let f = reached in
          record { width = omega arith; cap = omega arith }
      go (x ∷ xs) e = absurd (let n : length ends ≡ suc (length xs) = ap length e in let x = low in let y = reached in omega arith)

  pub part_nested : Nested s from to → Nested s row end
  part_nested n =
      let l = low in
      let a = n.room in
      let b = n.few in
      record { room = omega arith; few = omega arith; nests = nests_weaken 0 (omega arith) t.nests }

  pub shallow : row < end → length ends < MAX_DEPTH
  shallow h = nests_deep t.nests h

  -- a sum in the part goes on up to an `IfWrap`
  pub further : (next w : ℕ) → Passed s m row end next w → Open s m from to ends next end (sum + w)
  further next w q =
      let a = t.width in
      let b = q.width in
      let c = t.cap in
      let d = q.cap in
      record { width = omega arith; nests = q.nests (length ends) t.nests; fine = t.fine; cap = omega arith }

  module _ (room w : ℕ) (l : sum ≤ room) (q : Measures s m row end (room - sum) w) where
    -- or to the end of the part
    pub part_over : w ≤ room - sum → Open s m from to ends end end (sum + w)
    part_over h =
        let a = t.width in
        let b = q.width in
        let c = t.cap in
        let d = q.cap in
        let e = none_wide s m end end (omega arith) in
        record { width = omega arith; nests = over refl; fine = t.fine; cap = omega arith }

    -- or past the room
    pub no_room : room - sum < w → Measures s m from to room (room + 1)
    no_room h =
        let a = t.width in
        let b = q.width in
        let c = t.cap in
        let d = q.cap in
        let e = low in
        record { width = omega arith; cap = omega arith }

  -- an `IfWrap` that has wrapped: its first part
  pub first_part : (mid : ℕ) → row < end → IsWrapped s m row → mid ≡ cell s row SECOND → Open s m from to (end ∷ ends) (row + 1) mid sum
  unfolding rest Fine
  first_part mid h k d =
      let kind = kind_cell s row ∙ k.0 in
      let num : wrapped m ((view_of s).number row) ≡ true = rw (number_cell s row) k.1 in
      let l = nests_two t.nests h kind in
      let e = width_first (view_of s) byte_columns m kind l.1.within l.0 num in
      let a = t.width in
      let c = t.cap in
      let f = l.0.second in
      rw (add-one row, d ∙ sym (second_cell s row))
      (record {
        width = rw f (omega arith);
        nests = l.1.first;
        fine = (let u = l.0.to in omega arith, rw f l.1.rest, t.fine);
        cap = omega arith;
      })

  -- a part that is over before the range is one of those that were opened
  pub inner : end ≤ row → row < to → ends ≡ [] → ⊥
  unfolding Fine
  inner n h e = let f = rw e at t.fine in let x = reached in omega arith

-- a first part is over: the part that is not chosen is passed over
pub leaves : (s m : List ℕ) (from to : ℕ) (x : ℕ) (xs : List ℕ) (row sum : ℕ) → Open s m from to (x ∷ xs) row row sum
    → (row < (view_of s).after row) × Open s m from to xs ((view_of s).after row) x sum
unfolding rest Fine
leaves s m from to x xs row sum t =
    let a = t.width in
    let b = none_wide s m row row (omega arith) in
    let c = t.cap in
    let u = t.fine.0 in
    (u, record { width = omega arith; nests = t.fine.1; fine = t.fine.2; cap = omega arith })

pub leaves_at : (s m : List ℕ) (from to : ℕ) (ends : List ℕ) (row end sum next x : ℕ) (xs : List ℕ) → Open s m from to ends row end sum
    → end ≤ row
    → ends ≡ x ∷ xs
    → next ≡ cell s row AFTER → (row < next) × Open s m from to xs next x sum
leaves_at s m from to ends row end sum next x xs t n h e =
    let r = reached s m from to ends row end sum t in
    let i : end ≡ row = omega arith in
    rw (e ∙ sym (after_cell s row))
    (leaves s m from to x xs row sum
    (subst (λ (y : ℕ). Open s m from to (x ∷ xs) row y sum) i (subst (λ (es : List ℕ). Open s m from to es row end sum) h t)))
