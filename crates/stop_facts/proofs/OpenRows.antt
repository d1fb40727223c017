-- The open rows of the machine, as numbers: they rise, and each row passed that ends behind the next one is among them. So where it stops, those that it
-- lists are those that enclose the next row.
-- Assumes nothing.
use mathlib.Core.Path.{◌≡◌, refl, sym, ap, ◌∙◌}
use mathlib.Core.Bool.{true, cond}
use mathlib.Core.List.{List, [], ◌∷◌, map}
use Prim.Native.Nat.{ℕ, zero, suc, ◌+◌, ◌-◌, ◌≤◌, ◌<◌}
use native.Mathlib.Omega.{arith}
use native.Mathlib.Decide.{dec_lt}
use borrow.Author.Tests.{lt-ltb, le-ltb, eq-eqb}
use lib.Dec.{ltb}
use lib.ListN.{length, set, take}
use Rattle.rows.specs.View.{View}
use Rattle.renderer_rules.specs.declared.Frame.{Frame}
use Rattle.renderer_rules.specs.Renderer.{Page, Renderer}
use Rattle.renderer_rules.specs.Frames.{frame_at}
use Rattle.renderer_rules.specs.Machine.{Machine, opened, passed, reopened, closed_to}
use Rattle.renderer_rules.specs.Drift.{enclosing}
use Rattle.renderer_rules.specs.Stops.{listed_as, listed_rows}
use Rattle.renderer_rules.specs.Listed.{same_rows, listed_those}
use Rattle.renderer_rules.proofs.Meaning.{frame_same, frame_other}

abbrev pub row_at : List Frame → ℕ → ℕ
row_at fs j = (frame_at fs j).row

-- row i is one of the first d open rows
pub record Found (fs : List Frame) (d i : ℕ) : Type 0 where
  pub at : ℕ
  pub open_row : at < d
  pub is : row_at fs at ≡ i

-- of d open rows, with row n next, from row lo on
pub record Around (v : View) (lo : ℕ) (fs : List Frame) (d n : ℕ) : Type 0 where
  pub from : lo ≤ n
  pub low : (j : ℕ) → j < d → lo ≤ row_at fs j
  pub below : (j : ℕ) → j < d → row_at fs j < n
  pub rising : (j l : ℕ) → j < l → l < d → row_at fs j < row_at fs l
  pub all : (i : ℕ) → lo ≤ i → i < n → n < v.after i → Found fs d i

module _ (v : View) (pg : Page) (lo : ℕ) where
  abbrev pub Rows : Machine → Type 0
  Rows m = Around v lo m.frames m.depth m.next

  module _ (m : Machine) (r : Rows m) where
    -- one more row is open, and the rows from it up to row k are passed
    module _ (f : Frame) (k : ℕ) (t : Renderer) (room : m.depth < length m.frames) (is : f.row ≡ m.next) (up : m.next < k)
        (skipped : (i : ℕ) → m.next < i → i < k → v.after i ≤ k) where
      abbrev gs : List Frame
      gs = set m.frames m.depth f

      row_old : (j : ℕ) → j < m.depth → row_at gs j ≡ row_at m.frames j
      row_old j h = ap (λ (g : Frame). g.row) (frame_other v pg 0 m.frames m.depth j f h)

      row_new : (j : ℕ) → j ≡ m.depth → row_at gs j ≡ m.next
      row_new j e = ap (row_at gs) e ∙ ap (λ (g : Frame). g.row) (frame_same v pg 0 m.frames m.depth f room) ∙ is

      pub opened_rows : Rows (opened m f k t)
      opened_rows =
          record {
            from = omega (arith, r.from);
            low = λ j h. low_in j h (dec_lt j m.depth);
            below = λ j h. below_in j h (dec_lt j m.depth);
            rising = λ j l p h. rising_in j l p h (dec_lt l m.depth);
            all = λ i a b c. all_in i a b c (dec_lt i m.next) (dec_lt m.next i);
          }
        where
          low_in : (j : ℕ) → j < suc m.depth → Dec (j < m.depth) → lo ≤ row_at gs j
          low_in j h (yes p) = omega (arith, row_old j p, r.low j p)
          low_in j h (no p) = omega (arith, row_new j (omega arith), r.from)

          below_in : (j : ℕ) → j < suc m.depth → Dec (j < m.depth) → row_at gs j < k
          below_in j h (yes p) = omega (arith, row_old j p, r.below j p)
          below_in j h (no p) = omega (arith, row_new j (omega arith))

          rising_in : (j l : ℕ) → j < l → l < suc m.depth → Dec (l < m.depth) → row_at gs j < row_at gs l
          rising_in j l p h (yes q) = omega (arith, row_old j (omega arith), row_old l q, r.rising j l p q)
          rising_in j l p h (no q) = omega (arith, row_old j (omega arith), row_new l (omega arith), r.below j (omega arith))

          keep : (i : ℕ) → Found m.frames m.depth i → Found gs (suc m.depth) i
          keep i x = record { at = x.at; open_row = omega (arith, x.open_row); is = row_old x.at x.open_row ∙ x.is }

          all_in : (i : ℕ) → lo ≤ i → i < k → k < v.after i → Dec (i < m.next) → Dec (m.next < i) → Found gs (suc m.depth) i
          all_in i a b c (yes p) q = keep i (r.all i a p (omega arith))
          all_in i a b c (no p) (yes q) = absurd (omega (arith, skipped i q b))
          all_in i a b c (no p) (no q) =
              record { at = m.depth; open_row = omega arith; is = row_new m.depth refl ∙ (let e : m.next ≡ i = omega arith in e) }

    -- a row without parts is passed
    pub passed_rows : (t : Renderer) → v.after m.next ≡ suc m.next → Rows (passed m t)
    passed_rows t e =
        record {
          from = omega (arith, r.from);
          low = r.low;
          below = λ j h. omega (arith, r.below j h);
          rising = r.rising;
          all = λ i a b c. all_in i a b c (dec_lt i m.next);
        }
      where
        all_in : (i : ℕ) → lo ≤ i → i < suc m.next → suc m.next < v.after i → Dec (i < m.next) → Found m.frames m.depth i
        all_in i a b c (yes p) = r.all i a p (omega arith)
        all_in i a b c (no p) = absurd (omega (arith, ap v.after (let q : i ≡ m.next = omega arith in q), e))

    module _ (k : ℕ) (deep : m.depth ≡ suc k) where
      -- the arguments of a `Call` are opened: the rows are the same
      pub reopened_rows : (f : Frame) (t : Renderer) → k < length m.frames → f.row ≡ row_at m.frames k → Rows (reopened m k f t)
      reopened_rows f t room is =
          record {
            from = r.from;
            low = λ j h. omega (arith, same j h, r.low j (omega arith));
            below = λ j h. omega (arith, same j h, r.below j (omega arith));
            rising = λ j l p h. omega (arith, same j (omega arith), same l h, r.rising j l p (omega arith));
            all =
                λ i a b c.
                let x = r.all i a b c in
                record { at = x.at; open_row = omega (arith, x.open_row); is = same x.at (omega (arith, x.open_row)) ∙ x.is };
          }
        where
          go : (j : ℕ) → j < suc k → Dec (j < k) → row_at (set m.frames k f) j ≡ row_at m.frames j
          go j h (yes p) = ap (λ (g : Frame). g.row) (frame_other v pg 0 m.frames k j f p)
          go j h (no p) =
              let e : j ≡ k = omega arith in
              ap (row_at (set m.frames k f)) e
              ∙ ap (λ (g : Frame). g.row) (frame_same v pg 0 m.frames k f room)
              ∙ is
              ∙ ap (row_at m.frames) (sym e)

          same : (j : ℕ) → j < suc k → row_at (set m.frames k f) j ≡ row_at m.frames j
          same j h = go j h (dec_lt j k)

      -- the innermost row is closed, and what was left of it is passed
      pub closed_rows : (n : ℕ) (t : Renderer) → n ≡ v.after (row_at m.frames k) → m.next ≤ n
          → ((i : ℕ) → m.next ≤ i → i < n → v.after i ≤ n) → Rows (closed_to m k n t)
      closed_rows n t e up skipped =
          record {
            from = omega (arith, r.from);
            low = λ j h. r.low j (omega arith);
            below = λ j h. omega (arith, r.below j (omega arith));
            rising = λ j l p h. r.rising j l p (omega arith);
            all = λ i a b c. all_in i a b c (dec_lt i m.next);
          }
        where
          outer : (i : ℕ) → n < v.after i → (x : Found m.frames m.depth i) → Dec (x.at < k) → Found m.frames k i
          outer i c x (yes p) = record { at = x.at; open_row = p; is = x.is }
          outer i c x (no p) =
              let q : x.at ≡ k = omega (arith, x.open_row) in
              let z : i ≡ row_at m.frames k = sym x.is ∙ ap (row_at m.frames) q in
              absurd (omega (arith, ap v.after z))

          all_in : (i : ℕ) → lo ≤ i → i < n → n < v.after i → Dec (i < m.next) → Found m.frames k i
          all_in i a b c (yes p) = let x = r.all i a p (omega arith) in outer i c x (dec_lt x.at k)
          all_in i a b c (no p) = absurd (omega (arith, skipped i (omega arith) b))

-- ---- the rows listed
module _ (v : View) (n : ℕ) where
  -- of these frames, with row n next, all rows from i on that enclose it, and no others, in order
  record From (i : ℕ) (fs : List Frame) (d : ℕ) : Type 0 where
    size : d ≤ length fs
    low : (j : ℕ) → j < d → i ≤ row_at fs j
    below : (j : ℕ) → j < d → row_at fs j < n
    rising : (j l : ℕ) → j < l → l < d → row_at fs j < row_at fs l
    ends : (j : ℕ) → j < d → n < v.after (row_at fs j)
    all : (x : ℕ) → i ≤ x → x < n → n < v.after x → Found fs d x

  none_from : (i : ℕ) (fs : List Frame) (d : ℕ) → n ≤ i → From i fs d → same_rows (map listed_as (take d fs)) [] ≡ true
  unfolding same_rows
  none_from i fs zero h x = refl
  none_from i [] (suc d) h x = absurd (omega (arith, x.size))
  none_from i (f ∷ fs) (suc d) h x = absurd (omega (arith, x.low 0 (omega arith), x.below 0 (omega arith)))

  -- row i is the first of them
  first_from : (i : ℕ) (fs : List Frame) (d : ℕ) (is : List ℕ) → i < n → n < v.after i → From i fs d
      → ((gs : List Frame) (e : ℕ) → From (suc i) gs e → same_rows (map listed_as (take e gs)) is ≡ true)
      → same_rows (map listed_as (take d fs)) (i ∷ is) ≡ true
  unfolding same_rows
  first_from i fs zero is h l x rec = absurd (let y = x.all i (omega arith) h l in omega (arith, y.open_row))
  first_from i [] (suc d) is h l x rec = absurd (omega (arith, x.size))
  first_from i (f ∷ fs) (suc d) is h l x rec = rw (eq-eqb f.row i is_first) (rec fs d behind)
    where
      head : (j : ℕ) → j < suc d → row_at (f ∷ fs) j ≡ i → Dec (0 < j) → f.row ≡ i
      head j p e (yes q) = absurd (omega (arith, x.rising 0 j q p, x.low 0 (omega arith)))
      head j p e (no q) = let z : 0 ≡ j = omega arith in ap (row_at (f ∷ fs)) z ∙ e

      is_first : f.row ≡ i
      is_first = let y = x.all i (omega arith) h l in head y.at y.open_row y.is (dec_lt 0 y.at)

      later : (y j : ℕ) → i < y → j < suc d → row_at (f ∷ fs) j ≡ y → Found fs d y
      later y zero a p e = absurd (omega (arith, e, is_first))
      later y (suc j) a p e = record { at = j; open_row = omega arith; is = e }

      behind : From (suc i) fs d
      behind =
          record {
            size = omega (arith, x.size);
            low = λ j p. omega (arith, x.rising 0 (suc j) (omega arith) (omega arith), is_first);
            below = λ j p. x.below (suc j) (omega arith);
            rising = λ j k p q. x.rising (suc j) (suc k) (omega arith) (omega arith);
            ends = λ j p. x.ends (suc j) (omega arith);
            all = λ y a b c. let z = x.all y (omega arith) b c in later y z.at (omega arith) z.open_row z.is;
          }

  -- row i is none of them
  past_from : (i : ℕ) (fs : List Frame) (d : ℕ) → v.after i ≤ n → From i fs d → From (suc i) fs d
  past_from i fs d h x =
      record {
        size = x.size;
        low = λ j p. omega (arith, x.low j p, x.ends j p, differs j p);
        below = x.below;
        rising = x.rising;
        ends = x.ends;
        all = λ y a b c. x.all y (omega arith) b c;
      }
    where
      differs : (j : ℕ) → j < d → row_at fs j ≡ i → ⊥
      differs j p e = omega (arith, ap v.after e, x.ends j p)

  all_from : (k i : ℕ) (fs : List Frame) (d : ℕ) → i + k ≡ n → From i fs d → same_rows (map listed_as (take d fs)) (enclosing k v i n) ≡ true
  unfolding enclosing
  all_from zero i fs d e x = none_from i fs d (omega arith) x
  all_from (suc k) i fs d e x = go (dec_lt n (v.after i)) (λ gs c y. all_from k (suc i) gs c (omega arith) y)
    where
      go : Dec (n < v.after i) → ((gs : List Frame) (c : ℕ) → From (suc i) gs c → same_rows (map listed_as (take c gs)) (enclosing k v (suc i) n) ≡ true)
          → same_rows (map listed_as (take d fs)) (cond (ltb n (v.after i)) (i ∷ enclosing k v (suc i) n) (enclosing k v (suc i) n)) ≡ true
      go (yes p) rec = rw (lt-ltb n (v.after i) p) (first_from i fs d (enclosing k v (suc i) n) (omega arith) p x rec)
      go (no p) rec = rw (le-ltb n (v.after i) (omega arith)) (rec fs d (past_from i fs d (omega arith) x))

  -- WHERE EACH OPEN ROW ENCLOSES THE NEXT ONE, THEY ARE THOSE THAT 23 ASKS FOR
  pub those : (lo : ℕ) (fs : List Frame) (d : ℕ) → d ≤ length fs → Around v lo fs d n → ((j : ℕ) → j < d → n < v.after (row_at fs j))
      → listed_those v (listed_rows fs d) n ≡ true
  unfolding listed_rows
  those lo fs zero s r h = refl
  those lo [] (suc d) s r h = absurd (omega arith)
  those lo (f ∷ fs) (suc d) s r h =
      all_from (n - f.row) f.row (f ∷ fs) (suc d) (omega (arith, r.below 0 (omega arith)))
      (record {
        size = s;
        low = λ j p. first_low j p (dec_lt 0 j);
        below = r.below;
        rising = r.rising;
        ends = h;
        all = λ x a b c. r.all x (omega (arith, r.low 0 (omega arith))) b c;
      })
    where
      first_low : (j : ℕ) → j < suc d → Dec (0 < j) → f.row ≤ row_at (f ∷ fs) j
      first_low j p (yes q) = omega (arith, r.rising 0 j q p)
      first_low j p (no q) = let e : 0 ≡ j = omega arith in omega (arith, ap (row_at (f ∷ fs)) e)
