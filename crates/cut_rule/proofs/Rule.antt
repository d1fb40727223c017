-- The cut rule, by induction on the list: one call keeps what stands equal to what is due.
-- Assumes nothing but the laws.
use mathlib.Core.Path.{◌≡◌, refl, sym, ap, subst, ◌∙◌}
use mathlib.Core.Logic.{◌↔◌}
use Rattle.std.specs.Prelude.{Option, None, Some}
use mathlib.Core.List.{List, [], ◌∷◌}
use Prim.Native.Nat.{ℕ, ◌*◌}
use native.Mathlib.Omega.{arith}
use lib.ListN.{length, take, drop}
use Rattle.rows.specs.Places.{PLACES}
use Rattle.refusals.specs.Refusals.{Refusal, unless}
use Rattle.refusals.specs.Answers.{Answer}
use Rattle.cut_rule.specs.Rules.{LayoutArgs, Rules}
use Rattle.cut_rule.specs.Run.{write_front, Call, layout_call, render_call, Carried, start, refusal, rendered, accepted, call, run}
use Rattle.cut_rule.specs.Run.{CallResult, answer, answers}
use Rattle.cut_rule.specs.Plain.{RenderedTo, Progress, at_first, layout_due, render_due, left_due, due, plain_call, plain, answers_due, IsAccepted}
use Rattle.cut_rule.specs.Plain.{AllReadLaid, AllReadDue}
use Rattle.rows.specs.Node.{Text}
use Rattle.cut_rule.specs.CutRule.{comments_in, CommentsKept, CommentsAhead, SameRoom}
use Rattle.cut_rule.specs.Laws.{LayoutLaws, RenderLaws, CommentLaws, RoomLaws}
use Rattle.cut_rule.proofs.Memory.{length_front, length_at}
use Rattle.cut_rule.proofs.Comments.{comments_before, comments_ahead}
use Rattle.cut_rule.proofs.Steps.{LaidOk, RenderedOk, ProgressOk, next_laid, one_call}

module _ (R : Rules) (L : LayoutLaws R) (D : RenderLaws R) where
  abbrev Ok : Progress R → Type 0
  Ok f = ProgressOk R L D f

  at_first_lem : Ok (at_first R)
  at_first_lem = record { laid_ok = tt; rendered_ok = tt }

  -- ---- the run leaves what is due
  run_from : (s m : List ℕ) (cs : List (Call R)) (f : Progress R) → Ok f → AllReadLaid R (due R s m f) cs
      → run R (due R s m f) cs ≡ due R s m (plain R s m f cs)
  run_from s m [] f k a = refl
  run_from s m (c ∷ cs) f k a =
      let t = one_call R L D s m f c k a.0 in
      ap (λ (w : Carried R). run R w cs) t.0
      ∙ run_from s m cs (plain_call R s m f c) t.1 (subst (λ (w : Carried R). AllReadLaid R w cs) t.0 a.1)

  pub cut_rule : (store₀ marks₀ : List ℕ) (calls : List (Call R)) → AllReadLaid R (start R store₀ marks₀) calls
      → run R (start R store₀ marks₀) calls ≡ due R store₀ marks₀ (plain R store₀ marks₀ (at_first R) calls)
  cut_rule store₀ marks₀ calls a = run_from store₀ marks₀ calls (at_first R) at_first_lem a

  -- lists that come equally far leave the same, however they cut the work
  pub cuts_alike : (store₀ marks₀ : List ℕ) (some-calls other-calls : List (Call R)) → AllReadLaid R (start R store₀ marks₀) some-calls
      → AllReadLaid R (start R store₀ marks₀) other-calls
      → plain R store₀ marks₀ (at_first R) some-calls ≡ plain R store₀ marks₀ (at_first R) other-calls
      → run R (start R store₀ marks₀) some-calls ≡ run R (start R store₀ marks₀) other-calls
  cuts_alike store₀ marks₀ some-calls other-calls a b e =
      cut_rule store₀ marks₀ some-calls a ∙ ap (due R store₀ marks₀) e ∙ sym (cut_rule store₀ marks₀ other-calls b)

  -- ---- every answer is the one that the table and the rules give on what is due before its call
  answers_from : (s m : List ℕ) (cs : List (Call R)) (f : Progress R) → Ok f → AllReadLaid R (due R s m f) cs
      → answers R (due R s m f) cs ≡ answers_due R s m f cs
  answers_from s m [] f k a = refl
  answers_from s m (c ∷ cs) f k a =
      let t = one_call R L D s m f c k a.0 in
      ap (λ (rest : List (Answer (CallResult R))). answer R (due R s m f) c ∷ rest)
      (ap (λ (w : Carried R). answers R w cs) t.0
      ∙ answers_from s m cs (plain_call R s m f c) t.1 (subst (λ (w : Carried R). AllReadLaid R w cs) t.0 a.1))

  pub cut_answers : (store₀ marks₀ : List ℕ) (calls : List (Call R)) → AllReadLaid R (start R store₀ marks₀) calls
      → answers R (start R store₀ marks₀) calls ≡ answers_due R store₀ marks₀ (at_first R) calls
  cut_answers store₀ marks₀ calls a = answers_from store₀ marks₀ calls (at_first R) at_first_lem a

  -- ---- that no accepted call reads rows not yet laid out can be told from the arguments alone
  laid_from : (s m : List ℕ) (cs : List (Call R)) (f : Progress R) → Ok f → AllReadDue R s m f cs → AllReadLaid R (due R s m f) cs
  laid_from s m [] f k a = tt
  laid_from s m (c ∷ cs) f k a =
      let t = one_call R L D s m f c k a.0 in
      (a.0, subst (λ (w : Carried R). AllReadLaid R w cs) (sym t.0) (laid_from s m cs (plain_call R s m f c) t.1 a.1))

  due_from : (s m : List ℕ) (cs : List (Call R)) (f : Progress R) → Ok f → AllReadLaid R (due R s m f) cs → AllReadDue R s m f cs
  due_from s m [] f k a = tt
  due_from s m (c ∷ cs) f k a =
      let t = one_call R L D s m f c k a.0 in
      (a.0, due_from s m cs (plain_call R s m f c) t.1 (subst (λ (w : Carried R). AllReadLaid R w cs) t.0 a.1))

  pub told_alike : (store₀ marks₀ : List ℕ) (calls : List (Call R))
      → AllReadDue R store₀ marks₀ (at_first R) calls ↔ AllReadLaid R (start R store₀ marks₀) calls
  told_alike store₀ marks₀ calls = (
    laid_from store₀ marks₀ calls (at_first R) at_first_lem,
    due_from store₀ marks₀ calls (at_first R) at_first_lem,
  )

  -- ---- what stays true on the way
  ok_from : (s m : List ℕ) (cs : List (Call R)) (f : Progress R) → Ok f → AllReadLaid R (due R s m f) cs → Ok (plain R s m f cs)
  ok_from s m [] f k a = k
  ok_from s m (c ∷ cs) f k a =
      let t = one_call R L D s m f c k a.0 in
      ok_from s m cs (plain_call R s m f c) t.1 (subst (λ (w : Carried R). AllReadLaid R w cs) t.0 a.1)

  pub progress_ok : (store₀ marks₀ : List ℕ) (calls : List (Call R)) → AllReadLaid R (start R store₀ marks₀) calls
      → Ok (plain R store₀ marks₀ (at_first R) calls)
  progress_ok store₀ marks₀ calls a = ok_from store₀ marks₀ calls (at_first R) at_first_lem a

  -- ---- the comments
  module _ (listed : List Text) (K : CommentLaws R L listed) where
    kept_due : (s m : List ℕ) (o : Option (LayoutArgs R.LayoutChoice)) (d : Option (RenderedTo R.RenderChoice)) → LaidOk R L D o
        → (n : ℕ) → left_due R o ≡ Some n → CommentsKept R listed (due R s m (record { laid_to_of = o; rendered_to = d })) n
    kept_due s m None d k n e = let z : ◌≡◌ {A = ℕ} 0 1 = cc in absurd (omega arith)
    kept_due s m (Some q) d k n e =
        let rows = (layout_due R (Some q)).rows in
        let r : PLACES * R.next_row (layout_due R (Some q)).state ≡ length rows = L.due_row q k in
        record {
          first = comments_before (R.next_row (layout_due R (Some q)).state) rows (drop (length rows) s) (omega arith) ∙ K.first_placed q k;
          others = (let h : (layout_due R (Some q)).left ≡ n = cc in sym h ∙ K.rest_left q k);
        }

    pub comments_kept : (store₀ marks₀ : List ℕ) (calls : List (Call R)) → AllReadLaid R (start R store₀ marks₀) calls
        → (n : ℕ) → (run R (start R store₀ marks₀) calls).left ≡ Some n → CommentsKept R listed (run R (start R store₀ marks₀) calls) n
    comments_kept store₀ marks₀ calls a n e =
        let t = cut_rule store₀ marks₀ calls a in
        let f = plain R store₀ marks₀ (at_first R) calls in
        let k = progress_ok store₀ marks₀ calls a in
        subst (λ (w : Carried R). CommentsKept R listed w n) (sym t)
        (kept_due store₀ marks₀ f.laid_to_of f.rendered_to k.laid_ok n (sym (ap (λ (w : Carried R). w.left) t) ∙ e))

    -- ---- and those ahead of where rendering stopped
    ahead_due : (s m : List ℕ) (o : Option (LayoutArgs R.LayoutChoice)) (d : Option (RenderedTo R.RenderChoice)) → LaidOk R L D o
        → RenderedOk R L D (layout_due R o).rows d → CommentsAhead R listed (due R s m (record { laid_to_of = o; rendered_to = d }))
    ahead_due s m None d k q =
        let h = next_laid R L D [] d q in
        let z : R.next_of (render_due R [] d).state ≡ 0 = omega arith in
        record { first = ap (comments_in s) z ∙ ap (λ (n : ℕ). take (length (comments_in s n)) listed) (sym z) }
    ahead_due s m (Some p) d k q =
        let l = layout_due R (Some p) in
        let r : PLACES * R.next_row l.state ≡ length l.rows = L.due_row p k in
        let h = next_laid R L D l.rows d q in
        record {
          first =
              comments_ahead (write_front l.rows s) (R.next_of (render_due R l.rows d).state) (R.next_row l.state) (R.placed l.state) listed (omega arith)
              (comments_before (R.next_row l.state) l.rows (drop (length l.rows) s) (omega arith) ∙ K.first_placed p k);
        }

    pub all_ahead : (store₀ marks₀ : List ℕ) (calls : List (Call R)) → AllReadLaid R (start R store₀ marks₀) calls
        → CommentsAhead R listed (run R (start R store₀ marks₀) calls)
    all_ahead store₀ marks₀ calls a =
        let f = plain R store₀ marks₀ (at_first R) calls in
        let k = progress_ok store₀ marks₀ calls a in
        subst (CommentsAhead R listed) (sym (cut_rule store₀ marks₀ calls a)) (ahead_due store₀ marks₀ f.laid_to_of f.rendered_to k.laid_ok k.rendered_ok)

-- ---- no memory grows or shrinks
module _ (R : Rules) (M : RoomLaws R) where
  room_accepted : (w : Carried R) (c : Call R) → IsAccepted R w c → SameRoom R (accepted R w c) w
  room_accepted w (layout_call q) e =
      let fit = M.rows_fit q w.layout_state_of w.store e in
      record { store_same = length_at _ (R.layout w.layout_state_of q).rows w.store fit; marks_same = refl }
  room_accepted w (render_call q) e =
      let fit = M.marks_fit q w.render_state_of w.store w.marks e in
      record { store_same = refl; marks_same = length_front (rendered R w q).marks w.marks fit }

  room_call : (w : Carried R) (c : Call R) → SameRoom R (call R w c) w
  room_call w c = go (refusal R w c) refl
    where
      go : (o : Option Refusal) → refusal R w c ≡ o → SameRoom R (unless o w (accepted R w c)) w
      go (Some n) e = record { store_same = refl; marks_same = refl }
      go None e = room_accepted w c e

  pub same_room : (w : Carried R) (cs : List (Call R)) → SameRoom R (run R w cs) w
  same_room w [] = record { store_same = refl; marks_same = refl }
  same_room w (c ∷ cs) =
      let a = room_call w c in
      let b = same_room (call R w c) cs in
      record { store_same = b.store_same ∙ a.store_same; marks_same = b.marks_same ∙ a.marks_same }
