-- Laws of the steps of comment placing: what each does by what waits at the front, and how the loop of `pop_whitespace` goes on.
-- Assumes nothing.
use mathlib.Core.Path.{◌≡◌, refl, sym, ap, subst, ◌∙◌}
use mathlib.Core.Bool.{Bool, true, false, cond, ◌&&◌, ◌||◌}
use mathlib.Core.List.{List}
use Rattle.std.specs.Prelude.{Option, None, Some}
use Prim.Native.Nat.{ℕ, zero, suc, ◌+◌, ◌-◌, ◌≤◌, ◌<◌, min}
use native.Mathlib.Omega.{arith}
use lib.ListN.{length}
use lib.Dec.{ltb, eqb}
use borrow.Author.Tests.{lt-ltb, le-ltb, ltb-false, eq-eqb, ne_eqb}
use Rattle.text.specs.Space.{something}
use Rattle.text.specs.Newlines.{count_newlines}
use Rattle.ast.specs.Syntax.{Span}
use Rattle.text.specs.declared.newlines.Newlines.{Newlines}
use Rattle.rows.specs.Node.{line, empty_line}
use Rattle.acts.specs.Act.{Given, St, Act, Asking, next, ◌⨟◌, ◌⨟!◌, skip, push, move_to, pop, step_alone}
use Rattle.acts.specs.declared.Cursor.{Cursor}
use Rattle.comments.specs.declared.Gap.{Gap}
use Rattle.acts.specs.Laid.{st, Room, Laid, LaidAsking}
use Rattle.acts.proofs.Laws.{room_same, room_first, room_past, laid_same, laid_then, laid_skip}
use Rattle.acts.proofs.Laws.{asking_same, laid_answering, laid_turning, laid_answers}
use Rattle.comments.specs.Comments.{nth, break_line, gap_of, uncounted, push_comment, newlines, ignore_newlines, pop_comment, waits}
use Rattle.comments.specs.Comments.{pop_comments, after_comments, pop_whitespace, pop_trailing_comment}

module _ (g : Given) where
  -- ---- by what waits at the front
  pub waits_none : (position : ℕ) (s : St) → nth g.comments s.placed ≡ None → waits g position s ≡ false
  waits_none position s e = rw (e, waits)

  pub waits_some : (position : ℕ) (s : St) (p : Span) → nth g.comments s.placed ≡ Some p → waits g position s ≡ ltb p.start position
  waits_some position s p e = rw (e, waits)

  pub ignored_none : (position : ℕ) (s : St) → nth g.comments s.placed ≡ None → (ignore_newlines g position s).pos ≡ position
  unfolding ignore_newlines
  ignored_none position s e = rw e

  pub ignored_some : (position : ℕ) (s : St) (p : Span) → nth g.comments s.placed ≡ Some p
      → (ignore_newlines g position s).pos ≡ min position p.start
  unfolding ignore_newlines
  ignored_some position s p e = rw e

  -- ---- `newlines` and `ignore_newlines`
  pub room_newlines : (position : ℕ) {c : Cursor} → Room (step_alone (newlines g position)) c → Room (break_line (count_newlines g.source c.pos position)) c
  unfolding newlines
  room_newlines position room = room_first (move_to position) (room_same refl room)

  pub laid_newlines : (position : ℕ) (n : Newlines) {s s₁ s₂ : List ℕ} {c c₁ c₂ : Cursor} → n ≡ count_newlines g.source c.pos position
      → Laid (break_line n) s c s₁ c₁ → Laid (move_to position) s₁ c₁ s₂ c₂ → LaidAsking (newlines g position) s c s₂ c₂ n
  unfolding newlines
  laid_newlines position n {s} {s₁} {s₂} {c} {c₁} {c₂} e l m =
      let r : Asking Newlines = λ s. ((break_line n ⨟ move_to position) s, n) in
      let k : LaidAsking r s c s₂ c₂ n = record { laid = laid_then l m; answers = refl } in
      asking_same (ap (λ (x : Newlines). ((break_line x ⨟ move_to position) (st c), x)) e) k

  pub laid_ignored : (position : ℕ) {p : ℕ} {s s' : List ℕ} {c c' : Cursor} → p ≡ (ignore_newlines g position (st c)).pos
      → Laid (move_to p) s c s' c' → Laid (ignore_newlines g position) s c s' c'
  unfolding ignore_newlines
  laid_ignored position {s} {s'} {c} {c'} e l = laid_same refl (subst (λ (x : ℕ). Laid (move_to x) s c s' c') e l)

  -- ---- one comment of `pop_whitespace`
  newlines_placed : (position : ℕ) (s : St) → (newlines g position s).0.placed ≡ s.placed
  unfolding newlines ◌⨟◌
  newlines_placed position s = go (eqb (count_newlines g.source s.pos position).count 0) (eqb (count_newlines g.source s.pos position).count 1)
    where
      go : (x y : Bool) → (cond x skip (cond y (push line) (push empty_line)) s).placed ≡ s.placed
      go true y = refl
      go false true = refl
      go false false = refl

  -- the newlines before a comment, kept or not
  abbrev pub gap : Bool → ℕ → Act
  gap leading position = cond leading (step_alone (newlines g position)) (ignore_newlines g position)

  gap_placed : (leading : Bool) (position : ℕ) (s : St) → (gap leading position s).placed ≡ s.placed
  unfolding ignore_newlines
  gap_placed true position s = newlines_placed position s
  gap_placed false position s = refl

  comment_placed : (leading : Bool) (p : Span) (s : St) → (pop_comment g leading p s).placed ≡ s.placed + 1
  unfolding pop_comment ◌⨟◌
  comment_placed leading p s = gap_placed leading p.start (next s (pop s))

  pub laid_comment : (leading : Bool) (p : Span) {s s₁ s₂ s₃ s₄ : List ℕ} {c c₁ c₂ c₃ c₄ : Cursor} → Laid pop s c s₁ c₁
      → Laid (gap leading p.start) s₁ c₁ s₂ c₂ → Laid (move_to (p.end - 1)) s₂ c₂ s₃ c₃ → Laid (push_comment g p) s₃ c₃ s₄ c₄
      → Laid (pop_comment g leading p) s c s₄ c₄
  unfolding pop_comment
  laid_comment leading p k l f m = laid_then k (laid_then l (laid_then f m))

  -- room for it is room for what comes before it, and for its text
  pub room_gap : (leading : Bool) (p : Span) {s s₁ : List ℕ} {c c₁ : Cursor} → Laid pop s c s₁ c₁
      → Room (pop_comment g leading p) c → Room (gap leading p.start) c₁
  unfolding pop_comment
  room_gap leading p k room = room_first _ (room_past room k)

  pub room_remark : (leading : Bool) (p : Span) {s s₁ s₂ s₃ : List ℕ} {c c₁ c₂ c₃ : Cursor} → Laid pop s c s₁ c₁
      → Laid (gap leading p.start) s₁ c₁ s₂ c₂ → Laid (move_to (p.end - 1)) s₂ c₂ s₃ c₃
      → Room (pop_comment g leading p) c → Room (push_comment g p) c₃
  unfolding pop_comment
  room_remark leading p k l f room = room_past (room_past (room_past room k) l) f

  -- one comment more is placed after it
  pub one_more : (leading : Bool) (p : Span) {s s' : List ℕ} {c c' : Cursor} → Laid (pop_comment g leading p) s c s' c' → c'.placed ≡ c.placed + 1
  one_more leading p {c = c} l = ap (λ (x : Cursor). x.placed) l.moved ∙ comment_placed leading p (st c)

  -- ---- the loop of `pop_whitespace`
  pub pop_on : (n position : ℕ) (leading : Bool) (s : St) (p : Span) → nth g.comments s.placed ≡ Some p → ltb p.start position ≡ true
      → pop_comments g (suc n) position leading s ≡ (pop_comment g leading p ⨟ pop_comments g n position true) s
  unfolding pop_comments
  pop_on n position leading s p e w = rw (e, pop_comments) (rw w)

  pub pop_late : (n position : ℕ) (leading : Bool) (s : St) (p : Span) → nth g.comments s.placed ≡ Some p → ltb p.start position ≡ false
      → pop_comments g n position leading s ≡ skip s
  unfolding pop_comments
  pop_late zero position leading s p e w = refl
  pop_late (suc n) position leading s p e w = rw (e, pop_comments) (rw w)

  pub pop_none : (n position : ℕ) (leading : Bool) (s : St) → nth g.comments s.placed ≡ None → pop_comments g n position leading s ≡ skip s
  unfolding pop_comments
  pop_none zero position leading s e = refl
  pop_none (suc n) position leading s e = rw (e, pop_comments)

  -- whatever finishes the loop from the store s and the cursor c finishes it from s₀ and c₀
  pub record Going (position : ℕ) (leading : Bool) (s₀ : List ℕ) (c₀ : Cursor) (keep : Bool) (s : List ℕ) (c : Cursor) : Type 0 where
    pub turns : ℕ
    pub enough : length g.comments ≤ c.placed + turns
    pub room : Room (pop_comments g turns position keep) c
    pub goes :
        (s' : List ℕ) (c' : Cursor)
        → Laid (pop_comments g turns position keep) s c s' c' → Laid (pop_comments g (length g.comments) position leading) s₀ c₀ s' c'

  pub begin : (position : ℕ) (leading : Bool) (s : List ℕ) (c : Cursor) → Room (pop_comments g (length g.comments) position leading) c
      → Going position leading s c leading s c
  begin position leading s c room = record { turns = length g.comments; enough = omega arith; room = room; goes = λ s' c' l. l }

  module _ {position : ℕ} {leading : Bool} {s₀ : List ℕ} {c₀ : Cursor} where
    -- there is room for the comment at the front
    pub going_room : {keep : Bool} {s : List ℕ} {c : Cursor} (p : Span) → nth g.comments c.placed ≡ Some p → p.start < position
        → c.placed < length g.comments → Going position leading s₀ c₀ keep s c → Room (pop_comment g keep p) c
    going_room {keep} {s} {c} p e w h i = go i.turns i.enough i.room
      where
        go : (m : ℕ) → length g.comments ≤ c.placed + m → Room (pop_comments g m position keep) c → Room (pop_comment g keep p) c
        go zero f room = absurd (omega arith)
        go (suc m) f room =
            room_first (pop_comments g m position true) (room_same (pop_on m position keep (st c) p e (lt-ltb p.start position w)) room)

    pub go_on : {keep : Bool} {s s₁ : List ℕ} {c c₁ : Cursor} (p : Span) → nth g.comments c.placed ≡ Some p → p.start < position
        → c.placed < length g.comments → Laid (pop_comment g keep p) s c s₁ c₁
        → Going position leading s₀ c₀ keep s c → Going position leading s₀ c₀ true s₁ c₁
    go_on {keep} {s} {s₁} {c} {c₁} p e w h l i = go i.turns i.enough i.room i.goes
      where
        go : (m : ℕ) → length g.comments ≤ c.placed + m → Room (pop_comments g m position keep) c
            → ((s' : List ℕ) (c' : Cursor)
            → Laid (pop_comments g m position keep) s c s' c' → Laid (pop_comments g (length g.comments) position leading) s₀ c₀ s' c')
            → Going position leading s₀ c₀ true s₁ c₁
        go zero f room k = absurd (omega arith)
        go (suc m) f room k =
            let on = pop_on m position keep (st c) p e (lt-ltb p.start position w) in
            record {
              turns = m;
              enough = omega (arith, one_more keep p l);
              room = room_past (room_same on room) l;
              goes = λ s' c' r. k s' c' (laid_same (sym on) (laid_then l r));
            }

    -- it ends where no comment is left, and where the next starts at the position or after it
    pub end_none : {keep : Bool} {s : List ℕ} {c : Cursor} → nth g.comments c.placed ≡ None
        → Going position leading s₀ c₀ keep s c → Laid (pop_comments g (length g.comments) position leading) s₀ c₀ s c
    end_none {keep} {s} {c} e i = i.goes s c (laid_same (sym (pop_none i.turns position keep (st c) e)) laid_skip)

    pub end_late : {keep : Bool} {s : List ℕ} {c : Cursor} (p : Span) → nth g.comments c.placed ≡ Some p → position ≤ p.start
        → Going position leading s₀ c₀ keep s c → Laid (pop_comments g (length g.comments) position leading) s₀ c₀ s c
    end_late {keep} {s} {c} p e w i =
        i.goes s c (laid_same (sym (pop_late i.turns position keep (st c) p e (le-ltb p.start position w))) laid_skip)

  -- ---- `pop_whitespace`, by its loop and what is done after it
  whole : (position : ℕ) (leading trailing only : Bool) {s s₁ s₂ : List ℕ} {c c₁ c₂ : Cursor} {r : Gap}
      → Laid (pop_comments g (length g.comments) position leading) s c s₁ c₁
      → LaidAsking (after_comments g (waits g position (st c) && trailing) position only) s₁ c₁ s₂ c₂ r
      → LaidAsking (pop_whitespace g position leading trailing only) s c s₂ c₂ r
  unfolding pop_whitespace
  whole position leading trailing only l m = asking_same refl (laid_answers l m)

  -- room for it is room for its loop, and then for what is done after it
  room_whole : (position : ℕ) (leading trailing only : Bool) {c : Cursor} → Room (step_alone (pop_whitespace g position leading trailing only)) c
      → Room
      (pop_comments g (length g.comments) position leading ⨟ step_alone (after_comments g (waits g position (st c) && trailing) position only))
      c
  unfolding pop_whitespace ◌⨟!◌
  room_whole position leading trailing only room = room_same refl room

  pub room_comments : (position : ℕ) (leading trailing only : Bool) {c : Cursor} → Room (step_alone (pop_whitespace g position leading trailing only)) c
      → Room (pop_comments g (length g.comments) position leading) c
  room_comments position leading trailing only {c} room =
      room_first (step_alone (after_comments g (waits g position (st c) && trailing) position only)) (room_whole position leading trailing only room)

  -- after the loop: newlines are counted after comments that keep them, or where they alone are kept
  room_counted_by : (position : ℕ) (x only : Bool) {c : Cursor} → (x || only) ≡ true → Room (step_alone (after_comments g x position only)) c
      → Room (step_alone (newlines g position)) c
  room_counted_by position true only e room = room
  room_counted_by position false true e room = room
  room_counted_by position false false e room = let z : ◌≡◌ {A = ℕ} 0 1 = cc in absurd (omega arith)

  counted_by : (position : ℕ) (x only : Bool) {s s' : List ℕ} {c c' : Cursor} {n : Newlines} → (x || only) ≡ true → LaidAsking (newlines g position) s c s' c' n
      → LaidAsking (after_comments g x position only) s c s' c' (gap_of x n)
  counted_by position true only e l = laid_turning (gap_of true) l
  counted_by position false true e l = laid_turning (gap_of false) l
  counted_by position false false e l = let z : ◌≡◌ {A = ℕ} 0 1 = cc in absurd (omega arith)

  ignored_by : (position : ℕ) (x only : Bool) {s s' : List ℕ} {c c' : Cursor} → (x || only) ≡ false → Laid (ignore_newlines g position) s c s' c'
      → LaidAsking (after_comments g x position only) s c s' c' (uncounted position)
  ignored_by position true only e l = let z : ◌≡◌ {A = ℕ} 0 1 = cc in absurd (omega arith)
  ignored_by position false true e l = let z : ◌≡◌ {A = ℕ} 0 1 = cc in absurd (omega arith)
  ignored_by position false false e l = laid_answering l

  module _ (position : ℕ) (leading trailing only : Bool) {commented : Bool} {s s₁ : List ℕ} {c c₁ : Cursor} where
    pub room_counted : commented ≡ (waits g position (st c) && trailing) → (commented || only) ≡ true
        → Laid (pop_comments g (length g.comments) position leading) s c s₁ c₁ → Room (step_alone (pop_whitespace g position leading trailing only)) c
        → Room (step_alone (newlines g position)) c₁
    room_counted e f l room =
        room_counted_by position commented only f
        (subst (λ (x : Bool). Room (step_alone (after_comments g x position only)) c₁) (sym e)
        (room_past (room_whole position leading trailing only room) l))

    pub laid_counted : {s₂ : List ℕ} {c₂ : Cursor} {n : Newlines} → commented ≡ (waits g position (st c) && trailing) → (commented || only) ≡ true
        → Laid (pop_comments g (length g.comments) position leading) s c s₁ c₁ → LaidAsking (newlines g position) s₁ c₁ s₂ c₂ n
        → LaidAsking (pop_whitespace g position leading trailing only) s c s₂ c₂ (gap_of commented n)
    laid_counted {s₂} {c₂} {n} e f l m =
        whole position leading trailing only l
        (subst (λ (x : Bool). LaidAsking (after_comments g x position only) s₁ c₁ s₂ c₂ (gap_of commented n)) e (counted_by position commented only f m))

    pub laid_uncounted : {s₂ : List ℕ} {c₂ : Cursor} → commented ≡ (waits g position (st c) && trailing) → (commented || only) ≡ false
        → Laid (pop_comments g (length g.comments) position leading) s c s₁ c₁ → Laid (ignore_newlines g position) s₁ c₁ s₂ c₂
        → LaidAsking (pop_whitespace g position leading trailing only) s c s₂ c₂ (uncounted position)
    laid_uncounted {s₂} {c₂} e f l m =
        whole position leading trailing only l
        (subst (λ (x : Bool). LaidAsking (after_comments g x position only) s₁ c₁ s₂ c₂ (uncounted position)) e (ignored_by position commented only f m))

  -- ---- where no comment waits
  passes : (n position : ℕ) (leading : Bool) (s : St) → waits g position s ≡ false → pop_comments g n position leading s ≡ skip s
  passes n position leading s w = go (nth g.comments s.placed) refl
    where
      go : (o : Option Span) → nth g.comments s.placed ≡ o → pop_comments g n position leading s ≡ skip s
      go None e = pop_none n position leading s e
      go (Some p) e = pop_late n position leading s p e (sym (waits_some position s p e) ∙ w)

  goes : (position : ℕ) (s : St) → waits g position s ≡ false → (ignore_newlines g position s).pos ≡ position
  goes position s w = go (nth g.comments s.placed) refl
    where
      go : (o : Option Span) → nth g.comments s.placed ≡ o → (ignore_newlines g position s).pos ≡ position
      go None e = ignored_none position s e
      go (Some p) e =
          omega (arith, ignored_some position s p e, ltb-false p.start position (sym (waits_some position s p e) ∙ w))

  none_kept : {x : Bool} (y : Bool) → x ≡ false → (x && y) ≡ false
  none_kept y e = rw e

  pub laid_quiet : (position : ℕ) (leading trailing : Bool) {only : Bool} {s s' : List ℕ} {c c' : Cursor} → waits g position (st c) ≡ false
      → only ≡ false → Laid (move_to position) s c s' c'
      → LaidAsking (pop_whitespace g position leading trailing only) s c s' c' (uncounted position)
  laid_quiet position leading trailing {only} {s} {s'} {c} {c'} w o l =
      laid_uncounted position leading trailing only (sym (none_kept trailing w)) o
      (laid_same (sym (passes (length g.comments) position leading (st c) w)) laid_skip)
      (laid_ignored position (sym (goes position (st c) w)) l)

  -- ---- `pop_trailing_comment`
  pub no_place : (s : St) → something g.source s.pos ≡ None → pop_trailing_comment g s ≡ skip s
  unfolding pop_trailing_comment
  no_place s e = rw (e, pop_trailing_comment)

  no_comment_at : (s : St) (found : Option ℕ) → something g.source s.pos ≡ found → nth g.comments s.placed ≡ None
      → pop_trailing_comment g s ≡ skip s
  unfolding pop_trailing_comment
  no_comment_at s None e f = no_place s e
  no_comment_at s (Some place) e f = rw (e, pop_trailing_comment) (rw (f, pop_trailing_comment))

  pub no_comment : (s : St) → nth g.comments s.placed ≡ None → pop_trailing_comment g s ≡ skip s
  no_comment s f = no_comment_at s _ refl f

  pub elsewhere : (s : St) (place : ℕ) (p : Span) → something g.source s.pos ≡ Some place → nth g.comments s.placed ≡ Some p
      → (p.start ≡ place → ⊥) → pop_trailing_comment g s ≡ skip s
  unfolding pop_trailing_comment
  elsewhere s place p e f h = rw (e, pop_trailing_comment) (rw (f, pop_trailing_comment) (rw (ne_eqb p.start place h)))

  pub trailing_one : (s : St) (place : ℕ) (p : Span) → something g.source s.pos ≡ Some place → nth g.comments s.placed ≡ Some p
      → p.start ≡ place → pop_trailing_comment g s ≡ (pop ⨟ push_comment g p ⨟ move_to p.end) s
  unfolding pop_trailing_comment
  trailing_one s place p e f h = rw (e, pop_trailing_comment) (rw (f, pop_trailing_comment) (rw (eq-eqb p.start place h)))

-- the two ways of `&&`
pub both : {x y z : Bool} → x ≡ true → z ≡ y → z ≡ (x && y)
both e f = rw e f

pub not_first : {x z : Bool} (y : Bool) → x ≡ false → z ≡ false → z ≡ (x && y)
not_first y e f = rw e f

-- and of `||`
pub first_holds : {x : Bool} (y : Bool) → x ≡ true → (x || y) ≡ true
first_holds y e = rw e refl

pub second_holds : {x y : Bool} → x ≡ false → y ≡ true → (x || y) ≡ true
second_holds e f = rw e f

pub none_holds : {x y : Bool} → x ≡ false → y ≡ false → (x || y) ≡ false
none_holds e f = rw e f
