-- The comment rules are sound: a comment takes three rows at most, its own, one for the newlines before it and, the last before a position,
-- one for those after it.
-- Assumes nothing.
use Prim.Native.Nat.{ℕ, zero, suc, ◌-◌, ◌*◌, ◌≤◌, ◌<◌, min}
use mathlib.Core.Path.{◌≡◌, refl}
use mathlib.Core.Bool.{Bool, true, false, cond, ◌&&◌}
use mathlib.Core.List.{List, [], ◌∷◌}
use Rattle.std.specs.Prelude.{Option, None, Some}
use native.Mathlib.Omega.{arith}
use lib.ListN.{length}
use lib.Dec.{ltb, eqb}
use Rattle.laws.proofs.Booleans.{false_true}
use Rattle.text.proofs.Counts.{range_start}
use Rattle.text.proofs.Cuts.{uncut}
use Rattle.text.proofs.Parts.{well_formed_between}
use Rattle.text.proofs.Trims.{trim_before, trim_range}
use Rattle.text.specs.Newlines.{count_newlines}
use Rattle.text.specs.Space.{something}
use Rattle.ast.specs.Syntax.{Span}
use Rattle.rows.specs.Node.{line, empty_line, join}
use Rattle.rows.specs.Rows.{sizes}
use Rattle.acts.specs.Act.{Given, St, Out, Act, next, ◌⨟◌, ◌⨟!◌, skip, push, move_to, pop, step_alone}
use Rattle.comments.specs.Comments.{nth, front, push_comment, newlines, ignore_newlines, pop_comment, waits}
use Rattle.comments.specs.Comments.{pop_comments, after_comments, pop_whitespace, pop_trailing_comment}
use Rattle.acts.proofs.Joins.{sizes_join}
use Rattle.layout_facts.specs.Placing.{trimmed}
use Rattle.layout_facts.specs.Sound.{Inside, Ranged, Commented, ROW_TAKES, Sound, Sounds}
use Rattle.layout_facts.proofs.Steps.{sound_then, ◌⨾◌, fewer, sound_skip, sound_move_to, sound_line, sound_empty_line, sound_comment, sound_cond}

-- what takes neither numbers nor comments
pub record Free (s : St) (o : Out) : Type 0 where
  pub taken : o.taken ≡ 0
  pub placed : o.placed ≡ s.placed

module _ (g : Given) where
  newlines_free : (p : ℕ) (s : St) → Free s (step_alone (newlines g p) s)
  unfolding newlines ◌⨟◌
  newlines_free p s = counted (eqb (count_newlines g.source s.pos p).count 0) (eqb (count_newlines g.source s.pos p).count 1)
    where
      counted : (t u : Bool) → Free s ((cond t skip (cond u (push line) (push empty_line)) ⨟ move_to p) s)
      counted true u = record { taken = refl; placed = refl }
      counted false true = record { taken = refl; placed = refl }
      counted false false = record { taken = refl; placed = refl }

  pub before_free : (leading : Bool) (p : ℕ) (s : St) → Free s (cond leading (step_alone (newlines g p)) (ignore_newlines g p) s)
  unfolding ignore_newlines
  before_free true p s = newlines_free p s
  before_free false p s = record { taken = refl; placed = refl }

module _ {g : Given} (commented : Commented g) where
  inside_comment : {c : Span} → Ranged g.source c → Inside g (trimmed g c)
  inside_comment {c} r =
      record {
        origin = omega arith;
        fits = omega (arith, trim_before g.source c.start c.end, r.ordered, r.fits);
        due = λ e. absurd (omega arith);
        formed = well_formed_between g.source c.start _ (trim_range g.source c.start c.end r.range) commented.formed;
        uncut = uncut g.source c.start (range_start g.source c.start c.end r.range);
      }

  sound_newlines : {d : ℕ} (p : ℕ) → p ≤ length g.source → Sounds g ROW_TAKES d (step_alone (newlines g p))
  unfolding newlines
  sound_newlines {d} p h = record { from = λ s. (counted (count_newlines g.source s.pos p).count).from s }
    where
      counted : (n : ℕ) → Sounds g ROW_TAKES d (cond (eqb n 0) skip (cond (eqb n 1) (push line) (push empty_line)) ⨟ move_to p)
      counted n =
          let none : Sounds g ROW_TAKES d skip = fewer sound_skip (omega arith) in
          fewer (sound_cond (eqb n 0) none (sound_cond (eqb n 1) sound_line sound_empty_line) ⨾ sound_move_to h) (omega arith)

  sound_ignore_newlines : {d : ℕ} (p : ℕ) → p ≤ length g.source → Sounds g 0 d (ignore_newlines g p)
  unfolding ignore_newlines
  sound_ignore_newlines {d} p h = record { from = λ s. at s (front g s) }
    where
      at : (s : St) (f : Option Span) → Sound g 0 d s (move_to (elim f [ None ↦ p | Some c ↦ min p c.start ]) s)
      at s None = (sound_move_to h).from s
      at s (Some c) = let i : min p c.start ≤ length g.source = omega arith in (sound_move_to i).from s

  -- What takes comments lays two rows for each at most; where t holds, it takes one.
  record Pops (d : ℕ) (t : Bool) (s : St) (o : Out) : Type 0 where
    sound : Sound g 0 d s o
    two : sizes o.nodes ≤ 2 * (o.placed - s.placed)
    one : t ≡ true → s.placed < o.placed

  pops_none : {d : ℕ} (s : St) → Pops d false s (skip s)
  unfolding sizes
  pops_none s = record { sound = sound_skip.from s; two = omega arith; one = λ e. false_true e }

  -- the comment in front is taken
  pops_one : {d : ℕ} (c : Span) (q : Act) (p : ℕ) (s : St) → Ranged g.source c → p ≤ length g.source → Sounds g ROW_TAKES d q
      → ((s : St) → Free s (q s)) → Pops d true s ((pop ⨟ q ⨟ move_to p ⨟ push_comment g c) s)
  unfolding ◌⨟◌ join
  pops_one {d} c q p s r h k free =
      let s' : St = next s (pop s) in
      let x : Sound g (2 * ROW_TAKES) d s' ((q ⨟ move_to p ⨟ push_comment g c) s') =
      (k ⨾ sound_move_to h ⨾ sound_comment (inside_comment r)).from s'
      in
      record {
        sound =
            record {
              more = omega (arith, x.more);
              rows = omega (arith, x.rows, x.more);
              taken = omega (arith, (free s').taken);
              deep = x.deep;
              texts = x.texts;
              position = x.position;
            };
        two = omega (arith, x.rows, (free s').placed);
        one = λ e. omega (arith, x.more);
      }

  pops_then : {d : ℕ} (a b : Act) (s : St) {t u : Bool} → Pops d t s (a s) → Pops d u (next s (a s)) (b (next s (a s))) → Pops d t s ((a ⨟ b) s)
  unfolding ◌⨟◌
  pops_then a b s p q =
      record {
        sound = sound_then a b s p.sound q.sound;
        two = omega (arith, sizes_join (a s).nodes (b (next s (a s))).nodes, p.two, q.two, p.sound.more, q.sound.more);
        one = λ e. omega (arith, p.one e, q.sound.more);
      }

  -- a loop of no turns takes none
  abbrev turns : ℕ → Bool → Bool
  turns zero t = false
  turns (suc n) t = t

  pops_comments : {d : ℕ} (n p : ℕ) (leading : Bool) (s : St) → Pops d (turns n (waits g p s)) s (pop_comments g n p leading s)
  unfolding pop_comments pop_comment
  pops_comments zero p leading s = pops_none s
  pops_comments {d} (suc n) p leading s = turn (front g s) refl (λ s. pops_comments n p true s)
    where
      taken : (c : Span) → Ranged g.source c → ((s : St) → Pops d (turns n (waits g p s)) s (pop_comments g n p true s)) → (t : Bool)
          → Pops d t s (cond t (pop_comment g leading c ⨟ pop_comments g n p true) skip s)
      taken c r more true =
          let starts : c.start ≤ length g.source = omega (arith, r.ordered, r.fits) in
          let ends : c.end - 1 ≤ length g.source = omega (arith, r.fits) in
          pops_then (pop_comment g leading c) (pop_comments g n p true) s
          (pops_one c (cond leading (step_alone (newlines g c.start)) (ignore_newlines g c.start)) (c.end - 1) s r ends
          (sound_cond leading (sound_newlines c.start starts) (fewer (sound_ignore_newlines c.start starts) (omega arith)))
          (before_free g leading c.start))
          (more (next s (pop_comment g leading c s)))
      taken c r more false = pops_none s

      turn : (f : Option Span) → front g s ≡ f → ((s : St) → Pops d (turns n (waits g p s)) s (pop_comments g n p true s))
          → Pops d (elim f [ None ↦ false | Some c ↦ ltb c.start p ]) s
          (elim f [ None ↦ skip s | Some c ↦ cond (ltb c.start p) (pop_comment g leading c ⨟ pop_comments g n p true) skip s ])
      turn None e more = pops_none s
      turn (Some c) e more = taken c (commented.ranged s.placed c e) more (ltb c.start p)

  -- where a comment waits, the loop has a turn
  waiting : (p : ℕ) (s : St) → waits g p s ≡ true → turns (length g.comments) (waits g p s) ≡ true
  unfolding nth
  waiting p s = go g.comments s.placed
    where
      go : (cs : List Span) (k : ℕ)
          → let w : Bool = elim (nth cs k) [ None ↦ false | Some c ↦ ltb c.start p ] in
          w ≡ true → turns (length cs) w ≡ true
      go [] k e = false_true e
      go (c ∷ cs) k e = e

  -- the row for the newlines after comments is the third of the last of them
  sound_closed : {d : ℕ} (a b : Act) (s : St) {t : Bool} → Pops d t s (a s) → t ≡ true → Sounds g ROW_TAKES d b → ((s : St) → Free s (b s))
      → Sound g 0 d s ((a ⨟ b) s)
  unfolding ◌⨟◌
  sound_closed a b s p e q free =
      let z = next s (a s) in
      let r = sound_then a b s p.sound (q.from z) in
      record {
        more = r.more;
        rows = omega (arith, sizes_join (a s).nodes (b z).nodes, p.two, p.one e, (q.from z).rows, (q.from z).more);
        taken = omega (arith, p.sound.taken, (free z).taken);
        deep = r.deep;
        texts = r.texts;
        position = r.position;
      }

  -- `pop_whitespace`, as a step: one row for newlines without a comment, if these are kept
  pub sound_gap : {d : ℕ} (p : ℕ) (a b c : Bool) → p ≤ length g.source → Sounds g (cond c ROW_TAKES 0) d (step_alone (pop_whitespace g p a b c))
  unfolding pop_whitespace ◌⨟!◌
  sound_gap {d} p a b true h = record { from = λ s. (loop ⨾ last (waits g p s && b)).from s }
    where
      loop : Sounds g 0 d (pop_comments g (length g.comments) p a)
      loop = record { from = λ s. (pops_comments (length g.comments) p a s).sound }

      last : (t : Bool) → Sounds g ROW_TAKES d (step_alone (after_comments g t p true))
      last true = sound_newlines p h
      last false = sound_newlines p h
  sound_gap {d} p a b false h = record { from = λ s. last s (waits g p s) refl b }
    where
      loop : Act
      loop = pop_comments g (length g.comments) p a

      quiet : (s : St) → Sound g 0 d s ((loop ⨟ ignore_newlines g p) s)
      quiet s =
          sound_then loop (ignore_newlines g p) s (pops_comments (length g.comments) p a s).sound
          ((sound_ignore_newlines p h).from (next s (loop s)))

      last : (s : St) (w : Bool) → waits g p s ≡ w → (t : Bool)
          → Sound g 0 d s ((loop ⨟ step_alone (after_comments g (w && t) p false)) s)
      last s true e true =
          sound_closed loop (step_alone (newlines g p)) s (pops_comments (length g.comments) p a s) (waiting p s e) (sound_newlines p h) (newlines_free g p)
      last s true e false = quiet s
      last s false e t = quiet s

  -- `pop_trailing_comment`
  pub sound_trailing : {d : ℕ} → Sounds g 0 d (pop_trailing_comment g)
  unfolding pop_trailing_comment ◌⨟◌ join
  sound_trailing {d} = record { from = λ s. found s (something g.source s.pos) }
    where
      taken : (s : St) (c : Span) → Ranged g.source c → (t : Bool) → Sound g 0 d s (cond t (pop ⨟ push_comment g c ⨟ move_to c.end) skip s)
      taken s c r true =
          let s' : St = next s (pop s) in
          let one : Sounds g ROW_TAKES d (push_comment g c ⨟ move_to c.end) =
          fewer (sound_comment (inside_comment r) ⨾ sound_move_to r.fits) (omega arith)
          in
          let x : Sound g ROW_TAKES d s' ((push_comment g c ⨟ move_to c.end) s') = one.from s' in
          record {
            more = omega (arith, x.more);
            rows = omega (arith, x.rows, x.more);
            taken = omega arith;
            deep = x.deep;
            texts = x.texts;
            position = x.position;
          }
      taken s c r false = sound_skip.from s

      turn : (s : St) (place : ℕ) (f : Option Span) → front g s ≡ f
          → Sound g 0 d s
          (elim f [ None ↦ skip s | Some c ↦ cond (eqb c.start place) (pop ⨟ push_comment g c ⨟ move_to c.end) skip s ])
      turn s place None e = sound_skip.from s
      turn s place (Some c) e = taken s c (commented.ranged s.placed c e) (eqb c.start place)

      found : (s : St) (f : Option ℕ)
          → Sound g 0 d s
          (elim f [
            | None ↦ skip s
            | Some place ↦
                elim (front g s) [ None ↦ skip s | Some c ↦ cond (eqb c.start place) (pop ⨟ push_comment g c ⨟ move_to c.end) skip s ]
          ])
      found s None = sound_skip.from s
      found s (Some place) = turn s place (front g s) refl
