-- From a state that the lines before the room's let pass the machine starts with what its turns keep.
-- Assumes nothing.
use mathlib.Core.Path.{◌≡◌, refl, sym, ap, ◌∙◌}
use mathlib.Core.Bool.{Bool, true, false, cond, ◌&&◌, ◌||◌}
use mathlib.Core.List.{List, [], ◌∷◌, ◌++◌, map}
use Prim.Native.Nat.{ℕ, zero, suc, ◌+◌, ◌-◌, ◌≤◌, ◌<◌}
use native.Mathlib.Omega.{arith}
use native.Mathlib.Decide.{dec_lt}
use lib.Dec.{ltb, eqb}
use lib.ListN.{length, replicate, length-append, length-map, length-replicate}
use borrow.Author.Tests.{ltb-false, eqb-true}
use Rattle.laws.proofs.Booleans.{both, true_false}
use Rattle.rows.specs.Kinds.{INDENT, INDENT_NEXT, CALL}
use Rattle.rows.specs.Limits.{MAX_DEPTH}
use Rattle.rows.specs.View.{View, view_of}
use Rattle.renderer_rules.specs.declared.Frame.{Frame}
use Rattle.renderer_rules.specs.Limits.{MAX_INDENT, MAX_COLUMN, START_MARGIN}
use Rattle.renderer_rules.specs.Renderer.{Page}
use Rattle.renderer_rules.specs.Frames.{no_frame}
use Rattle.renderer_rules.specs.Machine.{Machine}
use Rattle.renderer_rules.specs.Safe.{one_if, steps_back, ins_of, steps, ins, SmallTexts}
use Rattle.renderer_rules.specs.Drift.{enclosing, around}
use Rattle.renderer_rules.specs.Stops.{OpenRow, is_deeper}
use Rattle.renderer_rules.specs.Listed.{resumed, reads_from, same_rows, listed_those, can_close_all}
use Rattle.renderer_rules.proofs.Drift.{around_none}
use Rattle.renderer_rules.proofs.Resumed.{Holds, reads_back}
use Rattle.renderer_rules.proofs.Closable.{back_of, in_of, back_all, in_all, closable}
use Rattle.renderer_rules.proofs.Machine.{Fine}
use Rattle.cut_rule.specs.Rules.{RenderTo}
use Rattle.cut_rule.specs.States.{RenderChoice, RenderState}
use Rattle.cut_rule.specs.Tests.{odd_mark}
use Rattle.cut_rule.specs.Parts.{read_from}
use Rattle.cut_rule.proofs.RenderParts.{read_first}
use Rattle.whole_run.specs.Parts.{renderer_of, page, open_rows}
use Rattle.whole_run.proofs.Right.{Right}
use Rattle.whole_run.proofs.StopsJoin.{holds_from}
use Rattle.stop_facts.proofs.OpenRows.{row_at, Found, Around}
use Rattle.stop_facts.proofs.Turns.{Runs}

-- ---- the rows that 23 lets pass, as open rows
-- the listed rows are those around the next, from the row on that is read from
pub those_same : (v : View) (ls : List OpenRow) (n : ℕ) → listed_those v ls n ≡ true → same_rows ls (around v (reads_from ls n) n) ≡ true
unfolding same_rows enclosing
those_same v [] n e = rw (around_none v n) refl
those_same v (l ∷ ls) n e = go (ltb l.row n) refl
  where
    none : n ≤ l.row → around v l.row n ≡ []
    none h = ap (λ (k : ℕ). enclosing k v l.row n) (let x : n - l.row ≡ 0 = omega arith in x)

    go : (b : Bool) → ltb l.row n ≡ b → same_rows (l ∷ ls) (around v (cond b l.row n) n) ≡ true
    go true x = e
    go false x = true_false (sym e ∙ ap (same_rows (l ∷ ls)) (none (ltb-false l.row n x)))

module _ (v : View) (n : ℕ) where
  none_around : (i : ℕ) (fs : List Frame) → i ≡ n → Around v i fs 0 n
  none_around i fs e =
      record {
        from = omega arith;
        low = λ j h. absurd (omega arith);
        below = λ j h. absurd (omega arith);
        rising = λ j l p h. absurd (omega arith);
        all = λ x a b c. absurd (omega arith);
      }

  -- row i is the first of them
  first_around : (i : ℕ) (f : Frame) (fs : List Frame) (d : ℕ) → f.row ≡ i → i < n → Around v (suc i) fs d n → Around v i (f ∷ fs) (suc d) n
  first_around i f fs d e h r =
      record {
        from = omega arith;
        low = low_in;
        below = below_in;
        rising = rising_in;
        all = λ x a b c. all_in x a b c (dec_lt i x);
      }
    where
      low_in : (j : ℕ) → j < suc d → i ≤ row_at (f ∷ fs) j
      low_in zero p = omega arith
      low_in (suc j) p = omega (arith, r.low j (omega arith))

      below_in : (j : ℕ) → j < suc d → row_at (f ∷ fs) j < n
      below_in zero p = omega arith
      below_in (suc j) p = r.below j (omega arith)

      rising_in : (j l : ℕ) → j < l → l < suc d → row_at (f ∷ fs) j < row_at (f ∷ fs) l
      rising_in j zero p q = absurd (omega arith)
      rising_in zero (suc l) p q = omega (arith, r.low l (omega arith))
      rising_in (suc j) (suc l) p q = r.rising j l (omega arith) (omega arith)

      all_in : (x : ℕ) → i ≤ x → x < n → n < v.after x → Dec (i < x) → Found (f ∷ fs) (suc d) x
      all_in x a b c (yes p) = let y = r.all x p b c in record { at = suc y.at; open_row = omega (arith, y.open_row); is = y.is }
      all_in x a b c (no p) = record { at = 0; open_row = omega arith; is = e ∙ (let z : i ≡ x = omega arith in z) }

  -- row i is none of them
  past_around : (i : ℕ) (fs : List Frame) (d : ℕ) → v.after i ≤ n → Around v (suc i) fs d n → Around v i fs d n
  past_around i fs d h r =
      record {
        from = omega (arith, r.from);
        low = λ j p. omega (arith, r.low j p);
        below = r.below;
        rising = r.rising;
        all = λ x a b c. all_in x a b c (dec_lt i x);
      }
    where
      all_in : (x : ℕ) → i ≤ x → x < n → n < v.after x → Dec (i < x) → Found fs d x
      all_in x a b c (yes p) = r.all x p b c
      all_in x a b c (no p) = absurd (omega (arith, ap v.after (let z : i ≡ x = omega arith in z)))

  start_around : (k i : ℕ) (ls : List OpenRow) (rest : List Frame) → i + k ≡ n → same_rows ls (enclosing k v i n) ≡ true
      → Around v i (map (resumed v n) ls ++ rest) (length ls) n
  unfolding same_rows enclosing
  start_around zero i [] rest h e = none_around i rest (omega arith)
  start_around zero i (l ∷ ls) rest h e = true_false (sym e)
  start_around (suc k) i [] rest h e = go (ltb n (v.after i)) refl e (start_around k (suc i) [] rest (omega arith))
    where
      go : (b : Bool) → ltb n (v.after i) ≡ b → same_rows [] (cond b (i ∷ enclosing k v (suc i) n) (enclosing k v (suc i) n)) ≡ true
          → (same_rows [] (enclosing k v (suc i) n) ≡ true → Around v (suc i) rest 0 n) → Around v i rest 0 n
      go true x f rec = true_false (sym f)
      go false x f rec = past_around i rest 0 (ltb-false n (v.after i) x) (rec f)
  start_around (suc k) i (l ∷ ls) rest h e =
      go (ltb n (v.after i)) refl e (start_around k (suc i) ls rest (omega arith)) (start_around k (suc i) (l ∷ ls) rest (omega arith))
    where
      go : (b : Bool) → ltb n (v.after i) ≡ b → same_rows (l ∷ ls) (cond b (i ∷ enclosing k v (suc i) n) (enclosing k v (suc i) n)) ≡ true
          → (same_rows ls (enclosing k v (suc i) n) ≡ true → Around v (suc i) (map (resumed v n) ls ++ rest) (length ls) n)
          → (same_rows (l ∷ ls) (enclosing k v (suc i) n) ≡ true → Around v (suc i) (resumed v n l ∷ (map (resumed v n) ls ++ rest)) (suc (length ls)) n)
          → Around v i (resumed v n l ∷ (map (resumed v n) ls ++ rest)) (suc (length ls)) n
      go true x f one all =
          let y = both (eqb l.row i) (same_rows ls (enclosing k v (suc i) n)) f in
          first_around i (resumed v n l) (map (resumed v n) ls ++ rest) (length ls) (eqb-true l.row i y.0) (omega arith) (one y.1)
      go false x f one all = past_around i (resumed v n l ∷ (map (resumed v n) ls ++ rest)) (suc (length ls)) (ltb-false n (v.after i) x) (all f)

  -- ---- the steps that their ends take back
  or_end : (a : Bool) → a || (false || false) ≡ a
  or_end true = refl
  or_end false = refl

  back_same : (l : OpenRow) → steps_back v (resumed v n l) ≡ back_of v l
  unfolding steps_back back_of
  back_same l = go (eqb (v.kind l.row) INDENT) refl (eqb (v.kind l.row) INDENT_NEXT) refl (eqb (v.kind l.row) CALL) refl
    where
      w : Bool
      w = l.wraps

      d : Bool
      d = is_deeper l.way

      go : (a : Bool) → eqb (v.kind l.row) INDENT ≡ a → (b : Bool) → eqb (v.kind l.row) INDENT_NEXT ≡ b → (c : Bool) → eqb (v.kind l.row) CALL ≡ c
          → one_if ((a && w) || ((b && w) || (c && d))) ≡ one_if (cond a w (cond b w (cond c d false)))
      go true e true f c g = absurd (omega (arith, eqb-true _ 1 e, eqb-true _ 2 f))
      go true e false f true g = absurd (omega (arith, eqb-true _ 1 e, eqb-true _ 11 g))
      go true e false f false g = ap one_if (or_end w)
      go false e true f true g = absurd (omega (arith, eqb-true _ 2 f, eqb-true _ 11 g))
      go false e true f false g = ap one_if (or_end w)
      go false e false f true g = refl
      go false e false f false g = refl

  in_same : (l : OpenRow) → ins_of v (resumed v n l) ≡ in_of v l
  unfolding ins_of in_of
  in_same l = go (eqb (v.kind l.row) INDENT)
    where
      go : (a : Bool) → one_if (a && l.wraps) ≡ one_if (cond a l.wraps false)
      go true = refl
      go false = refl

  steps_are : (fs : List Frame) (k : ℕ) (ls : List OpenRow) → Holds v n fs k ls
      → (steps v fs (k + length ls) ≡ steps v fs k + back_all v ls) × (ins v fs (k + length ls) ≡ ins v fs k + in_all v ls)
  unfolding Holds steps ins back_all in_all
  steps_are fs k [] s = (let e : k + 0 ≡ k = omega arith in (ap (steps v fs) e ∙ omega arith, ap (ins v fs) e ∙ omega arith))
  steps_are fs k (l ∷ ls) s =
      let x = steps_are fs (suc k) ls s.1 in
      let e : k + suc (length ls) ≡ suc k + length ls = omega arith in (
        ap (steps v fs) e ∙ omega (arith, x.0, ap (steps_back v) s.0 ∙ back_same l),
        ap (ins v fs) e ∙ omega (arith, x.1, ap (ins_of v) s.0 ∙ in_same l),
      )

  all_steps : (fs : List Frame) (ls : List OpenRow) → Holds v n fs 0 ls → (steps v fs (length ls) ≡ back_all v ls) × (ins v fs (length ls) ≡ in_all v ls)
  unfolding steps ins
  all_steps fs ls h =
      let x = steps_are fs 0 ls h in
      let e : length ls ≡ 0 + length ls = omega arith in
      (ap (steps v fs) e ∙ omega (arith, x.0), ap (ins v fs) e ∙ omega (arith, x.1))

-- ---- a state that the lines let pass
pub record Admitted (s b store : List ℕ) (q : RenderTo RenderChoice) (z : RenderState) : Type 0 where
  pub right : Right q.choice.rule s b store (read_from z) q.stop
  pub ahead : z.row ≤ q.stop
  pub indent : z.pen.indent ≤ MAX_INDENT
  pub next_indent : z.pen.next_indent ≤ MAX_INDENT
  pub column : z.pen.column.0 ≤ MAX_COLUMN
  pub few_listed : length z.listed ≤ MAX_DEPTH
  pub those : listed_those (view_of store) z.listed z.row ≡ true
  pub closable : can_close_all (view_of store) z.listed z.pen ≡ true

module _ (s b store marks : List ℕ) (q : RenderTo RenderChoice) (z : RenderState) (x : Admitted s b store q z) where
  abbrev v : View
  v = view_of store

  abbrev pg : Page
  pg = page q.choice s b

  abbrev fs : List Frame
  fs = open_rows v z

  -- where the machine goes on from
  abbrev pub first_at : Machine
  first_at = record { frames = fs; depth = length z.listed; next = z.row; state = renderer_of z.pen marks; entered = 0 }

  size : length fs ≡ MAX_DEPTH
  size =
      omega (
        arith,
        length-append (map (resumed v z.row) z.listed) (replicate (MAX_DEPTH - length z.listed) no_frame),
        length-map z.listed (resumed v z.row),
        length-replicate (MAX_DEPTH - length z.listed) no_frame,
        x.few_listed,
      )

  held : Holds v z.row fs 0 z.listed
  held = holds_from v z.row [] z.listed (replicate (MAX_DEPTH - length z.listed) no_frame)

  same : same_rows z.listed (around v (read_from z) z.row) ≡ true
  same = those_same v z.listed z.row x.those

  pub first_fine : Fine v pg q.stop first_at
  first_fine =
      reads_back v pg q.stop z.row fs (read_from z) z.listed size x.right.nests (read_first z.listed z.row) x.ahead held same

  -- the margin around the rows that are open
  abbrev pub base : ℕ
  base = (z.pen.indent + z.pen.next_indent) - back_all v z.listed

  pub base_low : base ≤ START_MARGIN
  base_low = omega (arith, x.indent, x.next_indent)

  pub first_runs : (small : SmallTexts v pg) → odd_mark marks ≡ false
      → Runs v pg q.stop base z.pen.column.0 (read_from z) small base_low first_at
  first_runs small even =
      let t = all_steps v z.row fs z.listed held in
      let c = closable v z.listed z.pen x.closable in
      record {
        safe =
            record {
              sum = omega (arith, t.0, c.0);
              low = omega (arith, t.1, c.1);
              column = omega (arith, x.column);
              bytes = omega arith;
            };
        level = record { column = omega arith; even = even };
        rows =
            start_around v z.row (z.row - read_from z) (read_from z) z.listed (replicate (MAX_DEPTH - length z.listed) no_frame)
            (omega (arith, read_first z.listed z.row)) same;
      }
