-- A state that 23 lets pass is where a run may go on: its listed rows are open rows, which lie from the row on that is read from.
-- Assumes nothing.
use mathlib.Core.Path.{◌≡◌, refl, sym, ap, subst, ◌∙◌}
use mathlib.Core.Bool.{Bool, true, false, cond, ◌&&◌, ◌||◌}
use mathlib.Core.List.{List, [], ◌∷◌, map}
use Prim.Native.Nat.{ℕ, zero, suc, ◌+◌, ◌-◌, ◌≤◌, ◌<◌}
use native.Mathlib.Omega.{arith}
use lib.Dec.{ltb, eqb}
use lib.ListN.{length, get_or, replicate, length-append, length-map, length-replicate}
use borrow.Author.Tests.{ltb-true, ltb-false, eqb-true, eqb-false}
use Rattle.laws.proofs.Booleans.{both, true_false}
use Rattle.rows.specs.Kinds.{INDENT, INDENT_NEXT, CALL}
use Rattle.rows.specs.Limits.{MAX_DEPTH}
use Rattle.rows.specs.View.{View, view_of}
use Rattle.renderer_rules.specs.declared.Frame.{Frame}
use Rattle.renderer_rules.specs.declared.Pen.{Pen}
use Rattle.renderer_rules.specs.Page.{page_of}
use Rattle.renderer_rules.specs.Frames.{no_frame, frame_at, At, Lies, AllLie}
use Rattle.renderer_rules.specs.Safe.{one_if, steps_back, ins_of, steps, ins}
use Rattle.renderer_rules.specs.Drift.{enclosing, around}
use Rattle.renderer_rules.specs.Stops.{OpenRow, is_deeper}
use Rattle.renderer_rules.specs.Listed.{resumed, reads_from, same_rows, listed_those}
use Rattle.renderer_rules.proofs.Drift.{around_none}
use Rattle.renderer_rules.proofs.Resumed.{Holds, reads_back}
use Rattle.renderer_rules.proofs.Closable.{back_of, in_of, back_all, in_all, closable}
use Rattle.renderer.specs.declared.run.Renderer.{Renderer as Held}
use Rattle.renderer.specs.Halts.{Resuming}
use Rattle.render_by_rule.specs.Halts.{LiesFrom}
use Rattle.cut_rule.specs.States as states
use Rattle.cut_rule.specs.Parts.{read_from}
use Rattle.whole_run.specs.Parts.{open_rows}
use Rattle.whole_run.proofs.StopsJoin.{holds_from}
use Rattle.render_call.specs.Whole.{Runnable}
use Rattle.render_call.specs.declared.RenderArgs.{RenderArgs}
use Rattle.render_call.proofs.Accepted.{reads_low}

-- the listed rows are those around the next, from the row on that is read from
pub those_same : (v : View) (ls : List OpenRow) (n : ℕ) → listed_those v ls n ≡ true → same_rows ls (around v (reads_from ls n) n) ≡ true
unfolding same_rows enclosing
those_same v [] n e = rw (around_none v n) refl
those_same v (l ∷ ls) n e = go (ltb l.row n) refl
  where
    none : n ≤ l.row → around v l.row n ≡ []
    none h = ap (λ (k : ℕ). enclosing k v l.row n) (let x : n - l.row ≡ 0 = omega arith in x)

    go : (b : Bool) → ltb l.row n ≡ b → same_rows (l ∷ ls) (around v (cond b l.row n) n) ≡ true
    go true x = e
    go false x = true_false (sym e ∙ ap (same_rows (l ∷ ls)) (none (ltb-false l.row n x)))

or_end : (a : Bool) → a || (false || false) ≡ a
or_end true = refl
or_end false = refl

no_steps : (v : View) (fs : List Frame) → steps v fs 0 ≡ 0
unfolding steps
no_steps v fs = refl

no_ins : (v : View) (fs : List Frame) → ins v fs 0 ≡ 0
unfolding ins
no_ins v fs = refl

module _ (v : View) (n : ℕ) where
  -- each of them lies from row lo on and ends behind row n
  unfoldable pub AllAround : ℕ → List OpenRow → Type 0
  AllAround lo [] = Unit {0}
  AllAround lo (l ∷ ls) = (lo ≤ l.row) × (n < v.after l.row) × (l.row < n) × AllAround lo ls

  pub around_all : (m lo i : ℕ) (ls : List OpenRow) → lo ≤ i → i + m ≤ n → same_rows ls (enclosing m v i n) ≡ true → AllAround lo ls
  unfolding AllAround same_rows enclosing
  around_all m lo i [] h t e = tt
  around_all zero lo i (l ∷ ls) h t e = true_false (sym e)
  around_all (suc m) lo i (l ∷ ls) h t e =
      go (ltb n (v.after i)) refl e (around_all m lo (suc i) ls (omega arith) (omega arith)) (around_all m lo (suc i) (l ∷ ls) (omega arith) (omega arith))
    where
      go : (b : Bool) → ltb n (v.after i) ≡ b → same_rows (l ∷ ls) (cond b (i ∷ enclosing m v (suc i) n) (enclosing m v (suc i) n)) ≡ true
          → (same_rows ls (enclosing m v (suc i) n) ≡ true → AllAround lo ls)
          → (same_rows (l ∷ ls) (enclosing m v (suc i) n) ≡ true → AllAround lo (l ∷ ls))
          → AllAround lo (l ∷ ls)
      go true x f one all =
          let y = both (eqb l.row i) (same_rows ls (enclosing m v (suc i) n)) f in
          let q = eqb-true l.row i y.0 in
          let a = ltb-true n (v.after i) x in
          (omega arith, subst (λ (k : ℕ). n < v.after k) (sym q) a, omega arith, one y.1)
      go false x f one all = all f

  pub around_low : (lo : ℕ) (ls : List OpenRow) → AllAround lo ls → (k : ℕ) (d : OpenRow) → k < length ls → (get_or ls k d).row < n
  unfolding AllAround
  around_low lo [] a k d h = absurd (omega arith)
  around_low lo (l ∷ ls) a zero d h = a.2
  around_low lo (l ∷ ls) a (suc k) d h = around_low lo ls a.3 k d (omega arith)

  row_lies : (lo : ℕ) (l : OpenRow) → lo ≤ n → lo ≤ l.row → n < v.after l.row → Lies v lo (resumed v n l)
  row_lies lo l h a b =
      record {
        row = a;
        after = omega arith;
        part = λ e. (let x = ltb-true n (v.second l.row) (both _ (ltb n (v.second l.row)) e).1 in omega arith);
      }

  lie : (lo : ℕ) (fs : List Frame) (k : ℕ) (ls : List OpenRow) → lo ≤ n → Holds v n fs k ls → AllAround lo ls → (j : ℕ) → k ≤ j → j < k + length ls
      → Lies v lo (frame_at fs j)
  unfolding Holds AllAround
  lie lo fs k [] h s a j p q = absurd (omega arith)
  lie lo fs k (l ∷ ls) h s a j p q = go (eqb k j) refl (lie lo fs (suc k) ls h s.1 a.3 j)
    where
      go : (b : Bool) → eqb k j ≡ b → (suc k ≤ j → j < suc k + length ls → Lies v lo (frame_at fs j)) → Lies v lo (frame_at fs j)
      go true e rec =
          subst (λ (i : ℕ). Lies v lo (frame_at fs i)) (eqb-true k j e) (subst (Lies v lo) (sym s.0) (row_lies lo l h a.0 a.1))
      go false e rec = let x = eqb-false k j e in rec (omega (arith, x)) (omega arith)

  -- ---- the steps that their ends take back
  back_same : (l : OpenRow) → steps_back v (resumed v n l) ≡ back_of v l
  unfolding steps_back back_of
  back_same l = go (eqb (v.kind l.row) INDENT) refl (eqb (v.kind l.row) INDENT_NEXT) refl (eqb (v.kind l.row) CALL) refl
    where
      w : Bool
      w = l.wraps

      d : Bool
      d = is_deeper l.way

      go : (a : Bool) → eqb (v.kind l.row) INDENT ≡ a → (b : Bool) → eqb (v.kind l.row) INDENT_NEXT ≡ b → (c : Bool) → eqb (v.kind l.row) CALL ≡ c
          → one_if ((a && w) || ((b && w) || (c && d))) ≡ one_if (cond a w (cond b w (cond c d false)))
      go true e true f c g = absurd (let x = eqb-true _ _ e in let y = eqb-true _ _ f in omega arith)
      go true e false f true g = absurd (let x = eqb-true _ _ e in let y = eqb-true _ _ g in omega arith)
      go true e false f false g = ap one_if (or_end w)
      go false e true f true g = absurd (let x = eqb-true _ _ f in let y = eqb-true _ _ g in omega arith)
      go false e true f false g = ap one_if (or_end w)
      go false e false f true g = refl
      go false e false f false g = refl

  in_same : (l : OpenRow) → ins_of v (resumed v n l) ≡ in_of v l
  unfolding ins_of in_of
  in_same l = go (eqb (v.kind l.row) INDENT)
    where
      go : (a : Bool) → one_if (a && l.wraps) ≡ one_if (cond a l.wraps false)
      go true = refl
      go false = refl

  steps_are : (fs : List Frame) (k : ℕ) (ls : List OpenRow) → Holds v n fs k ls
      → (steps v fs (k + length ls) ≡ steps v fs k + back_all v ls) × (ins v fs (k + length ls) ≡ ins v fs k + in_all v ls)
  unfolding Holds steps ins back_all in_all
  steps_are fs k [] s = (let e : k + 0 ≡ k = omega arith in (ap (steps v fs) e ∙ omega arith, ap (ins v fs) e ∙ omega arith))
  steps_are fs k (l ∷ ls) s =
      let more = steps_are fs (suc k) ls s.1 in
      let e : k + suc (length ls) ≡ suc k + length ls = omega arith in
      let b = ap (steps_back v) s.0 ∙ back_same l in
      let i = ap (ins_of v) s.0 ∙ in_same l in
      let x = more.0 in
      let y = more.1 in
      (ap (steps v fs) e ∙ omega arith, ap (ins v fs) e ∙ omega arith)

module _ (source image : List ℕ) (z : states.RenderState) (args : RenderArgs) (store : List ℕ) (x : Runnable source image z args store) where
  abbrev v : View
  v = view_of store

  abbrev fs : List Frame
  fs = open_rows v z

  size : length fs ≡ MAX_DEPTH
  size =
      let a = length-append (map (resumed v z.row) z.listed) (replicate (MAX_DEPTH - length z.listed) no_frame) in
      let b = length-map z.listed (resumed v z.row) in
      let c = length-replicate (MAX_DEPTH - length z.listed) no_frame in
      let d = x.few_listed in
      omega arith

  held : Holds v z.row fs 0 z.listed
  held = holds_from v z.row [] z.listed (replicate (MAX_DEPTH - length z.listed) no_frame)

  pub low : read_from z ≤ z.row
  low = reads_low z.listed z.row

  same : same_rows z.listed (around v (read_from z) z.row) ≡ true
  same = those_same v z.listed z.row x.those

  pub at_open : At v args.stop fs (length z.listed) z.row
  at_open = reads_back v (page_of args.width.0 source image) args.stop z.row fs (read_from z) z.listed size x.nests low x.ahead held same

  pub all_lie : AllLie v (read_from z) fs (length z.listed)
  all_lie j h =
      lie v z.row (read_from z) fs 0 z.listed low held
      (around_all v z.row (z.row - read_from z) (read_from z) (read_from z) z.listed (omega arith) (let y = low in omega arith) same)
      j (omega arith) (omega arith)

  -- a renderer that is made of the state
  module _ (r : Held) (depth : r.frames.depth ≡ length z.listed) (items : r.frames.items ≡ open_rows (view_of store) z) (next : r.next ≡ z.row)
      (pen : r.writing.pen ≡ z.pen) (at : r.writing.at.0 ≡ 0) where
    pub resuming : Resuming store args.stop r
    resuming =
        let c = closable v z.listed z.pen x.closable in
        let t = steps_are v z.row fs 0 z.listed held in
        let z0 : 0 + length z.listed ≡ length z.listed = omega arith in
        let s : steps v fs (length z.listed) ≡ steps v fs 0 + back_all v z.listed = ap (steps v fs) (sym z0) ∙ t.0 in
        let i : ins v fs (length z.listed) ≡ ins v fs 0 + in_all v z.listed = ap (ins v fs) (sym z0) ∙ t.1 in
        let s0 = no_steps v fs in
        let i0 = no_ins v fs in
        let a = x.indent in
        let b = x.next_indent in
        let p = c.0 in
        let q = c.1 in
        let pi = ap (λ (k : Pen). k.indent) pen in
        let pn = ap (λ (k : Pen). k.next_indent) pen in
        let pc = ap (λ (k : Pen). k.column.0) pen in
        let col = x.column in
        let su : steps v r.frames.items r.frames.depth ≡ steps v fs (length z.listed) = (λ j. steps v (items j) (depth j)) in
        let ii : ins v r.frames.items r.frames.depth ≡ ins v fs (length z.listed) = (λ j. ins v (items j) (depth j)) in
        record {
          room = x.room;
          few = x.few;
          at = rw (items, depth, next) at_open;
          base = (z.pen.indent + z.pen.next_indent) - back_all v z.listed;
          low = omega arith;
          sum = omega arith;
          steps_in = omega arith;
          column = omega arith;
          nothing = at;
        }

    pub lies : LiesFrom store (read_from z) r
    lies = record { next = rw next low; frames = rw (items, depth) all_lie }
