-- What an accepted call's answer says of the table and of what is due, and what a caller holds after a list of calls.
-- Assumes nothing.
use mathlib.Core.Path.{◌≡◌, refl, ap, ◌∙◌}
use Rattle.std.specs.Prelude.{Option, None}
use mathlib.Core.List.{List, [], ◌∷◌, map}
use Prim.Native.Nat.{ℕ}
use Rattle.refusals.specs.Refusals.{Refusal}
use Rattle.refusals.specs.Answers.{Answer, accepted, answer_by}
use Rattle.refusals.proofs.Answers.{accepted_by}
use Rattle.cut_rule.specs.Rules.{Rules}
use Rattle.cut_rule.specs.Run.{Call, Carried, CallResult, laid_out, written, call, run}
use Rattle.cut_rule.specs.Callers.{after_all, AllKept}

module _ (R : Rules) where
  -- rows laid out are those due
  pub record LaidBy (o : Option Refusal) (t : R.LayoutState) (l : ℕ) (u : R.LayoutState) (m : ℕ) : Type 0 where
    pub passes : o ≡ None
    pub state : t ≡ u
    pub left : l ≡ m

  pub laid_by : (o : Option Refusal) (t : R.LayoutState) (l : ℕ) (u : R.LayoutState) (m : ℕ)
      → ◌≡◌ {A = Answer (CallResult R)} (accepted (laid_out t l)) (answer_by o (laid_out u m))
      → LaidBy o t l u m
  laid_by o t l u m e =
      let a = accepted_by o (laid_out t l) (laid_out u m) e in
      let is = a.is in
      record { passes = a.passes; state = (cc); left = (cc) }

  -- text written is that due, and as many rows were entered
  pub record WrittenBy (o : Option Refusal) (n k m j : ℕ) : Type 0 where
    pub passes : o ≡ None
    pub bytes : n ≡ m
    pub entered : k ≡ j

  pub written_by : (o : Option Refusal) (t : R.RenderState) (n k : ℕ) (u : R.RenderState) (m j : ℕ)
      → ◌≡◌ {A = Answer (CallResult R)} (accepted (written t n k)) (answer_by o (written u m j))
      → WrittenBy o n k m j
  written_by o t n k u m j e =
      let a = accepted_by o (written t n k) (written u m j) e in
      let is = a.is in
      record { passes = a.passes; bytes = (cc); entered = (cc) }

  -- a caller whose calls are, one by one, calls of the run, makes the run
  pub all_held : {W M : Type 0} (after : W → M → W) (Keeps : W → M → Type 0) (held : W → Carried R) (as_call : M → Call R)
      → ((w : W) (m : M) → Keeps w m → held (after w m) ≡ call R (held w) (as_call m))
      → (w : W) (ms : List M) → AllKept after Keeps w ms → held (after_all after w ms) ≡ run R (held w) (map as_call ms)
  all_held after Keeps held as_call one w [] p = refl
  all_held after Keeps held as_call one w (m ∷ ms) p =
      all_held after Keeps held as_call one (after w m) ms p.1 ∙ ap (λ (v : Carried R). run R v (map as_call ms)) (one w m p.0)
