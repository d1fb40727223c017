-- The gaps before a declaration make its blank lines: the loop of `pop_whitespace` goes over the comments that stand before the name, and what
-- `newlines` is asked for each time is a gap.
-- Assumes nothing.
use Prim.Native.Nat.{ℕ, zero, suc, ◌+◌, ◌-◌, ◌≤◌}
use mathlib.Core.Path.{◌≡◌, refl, sym, ap, ◌∙◌}
use mathlib.Core.Bool.{Bool, true, false, cond, not, ◌&&◌}
use mathlib.Core.List.{List, [], ◌∷◌}
use Rattle.std.specs.Prelude.{None as nothing, Some}
use native.Mathlib.Omega.{arith}
use lib.ListN.{length, drop, length-drop}
use lib.Seq.{drop-nil}
use lib.Dec.{ltb, eqb}
use borrow.Author.Tests.{lt-ltb, ne_eqb}
use Rattle.text.specs.Newlines.{count_newlines}
use Rattle.ast.specs.Syntax.{Span}
use Rattle.rows.specs.Node.{Nodes, comment, line, empty_line, none, ◌then◌, join}
use Rattle.acts.specs.Act.{Given, St, Out, Act, next, ◌⨟◌, ◌⨟?◌, ◌⨟!◌, skip, when, push, pop, step_alone}
use Rattle.acts.proofs.Joins.{join_assoc}
use Rattle.comments.specs.Comments.{nth, whitespace, newlines, ignore_newlines, pop_comment, waits, pop_comments, after_comments, pop_whitespace}
use Rattle.comments.proofs.Pops.{waits_none, waits_some, pop_on, pop_late, pop_none}
use Rattle.layout.specs.Layout.{opening}
use Rattle.layout_facts.specs.Placing.{trimmed}
use Rattle.layout_facts.specs.BlankLines.{starting_before, last_gap, gap_then, with_gaps, before_name, standing, BlankLines}

-- the comment at a place of the list, and those behind it
none_at : (l : List Span) (k : ℕ) → drop k l ≡ [] → nth l k ≡ nothing
unfolding nth
none_at [] k e = refl
none_at (x ∷ xs) zero e = let z : ◌≡◌ {A = ℕ} 0 1 = cc in absurd (omega arith)
none_at (x ∷ xs) (suc k) e = none_at xs k e

record At (l : List Span) (k : ℕ) (c : Span) (cs : List Span) : Type 0 where
  here : nth l k ≡ Some c
  behind : drop (suc k) l ≡ cs

some_at : (l : List Span) (k : ℕ) (c : Span) (cs : List Span) → drop k l ≡ c ∷ cs → At l k c cs
unfolding nth
some_at [] k c cs e = let f : ◌≡◌ {A = List Span} [] (c ∷ cs) = sym (drop-nil k) ∙ e in let z : ◌≡◌ {A = ℕ} 0 1 = cc in absurd (omega arith)
some_at (x ∷ xs) zero c cs e = record { here = ap Some (cc); behind = cc }
some_at (x ∷ xs) (suc k) c cs e = let r = some_at xs k c cs e in record { here = r.here; behind = r.behind }

-- what `newlines` lays for a count, before other nodes
laid : (n : ℕ) (s : St) (rest : Nodes)
    → join (cond (eqb n 0) skip (cond (eqb n 1) (push line) (push empty_line)) s).nodes rest
    ≡ cond (eqb n 0) rest (cond (eqb n 1) (line then rest) (empty_line then rest))
unfolding join
laid n s rest = go (eqb n 0) (eqb n 1)
  where
    go : (x y : Bool)
        → join (cond x skip (cond y (push line) (push empty_line)) s).nodes rest ≡ cond x rest (cond y (line then rest) (empty_line then rest))
    go true y = refl
    go false true = refl
    go false false = refl

module _ (g : Given) (name : ℕ) where
  -- the newlines up to a position, before other nodes
  laid_newlines : (to : ℕ) (s : St) (rest : Nodes) → join (step_alone (newlines g to) s).nodes rest ≡ gap_then g s.pos to rest
  unfolding newlines ◌⨟◌ join
  laid_newlines to s rest =
      let n = (count_newlines g.source s.pos to).count in
      join_assoc (cond (eqb n 0) skip (cond (eqb n 1) (push line) (push empty_line)) s).nodes none rest ∙ laid n s rest

  -- ---- one comment
  -- before other nodes, with the gap before it and without
  laid_comment : (c : Span) (s : St) (rest : Nodes)
      → join (pop_comment g true c s).nodes rest ≡ gap_then g s.pos c.start (comment (trimmed g c) then rest)
  unfolding pop_comment ◌⨟◌ join
  laid_comment c s rest =
      join_assoc (step_alone (newlines g c.start) (next s (pop s))).nodes (comment (trimmed g c) then none) rest
      ∙ laid_newlines c.start (next s (pop s)) (comment (trimmed g c) then rest)

  laid_first : (c : Span) (s : St) (rest : Nodes) → join (pop_comment g false c s).nodes rest ≡ (comment (trimmed g c) then rest)
  unfolding pop_comment ignore_newlines ◌⨟◌ join
  laid_first c s rest = refl

  one_placed : (leading : Bool) (c : Span) (s : St) → (pop_comment g leading c s).placed ≡ suc s.placed
  unfolding pop_comment newlines ignore_newlines ◌⨟◌
  one_placed false c s = omega arith
  one_placed true c s = omega (arith, go (eqb n 0) (eqb n 1))
    where
      n : ℕ
      n = (count_newlines g.source s.pos c.start).count

      go : (x y : Bool) → (cond x skip (cond y (push line) (push empty_line)) (next s (pop s))).placed ≡ s.placed + 1
      go true y = refl
      go false true = refl
      go false false = refl

  -- ---- the loop, with the last gap behind it: what it does from s, the comments w standing before the name
  record Looped (o : Out) (from : ℕ) (w : List Span) : Type 0 where
    nodes : join o.nodes (gap_then g o.pos name none) ≡ with_gaps g from w name
    pos : o.pos ≡ last_gap from w

  looped_none : (s : St) (o : Out) → o ≡ skip s → Looped o s.pos []
  unfolding join with_gaps last_gap
  looped_none s o e = record { nodes = ap (λ (x : Out). join x.nodes (gap_then g x.pos name none)) e; pos = ap (λ (x : Out). x.pos) e }

  looped_more : (a : Act) (c : Span) (s : St) (w : List Span) → Looped (a (next s (pop_comment g true c s))) (c.end - 1) w
      → Looped ((pop_comment g true c ⨟ a) s) s.pos (c ∷ w)
  unfolding ◌⨟◌ with_gaps last_gap
  looped_more a c s w l =
      let z = next s (pop_comment g true c s) in
      let last = gap_then g (a z).pos name none in
      record {
        nodes =
            join_assoc (pop_comment g true c s).nodes (a z).nodes last
            ∙ ap (λ (x : Nodes). join (pop_comment g true c s).nodes x) l.nodes
            ∙ laid_comment c s (with_gaps g (c.end - 1) w name);
        pos = l.pos;
      }

  loop : (n : ℕ) (s : St) (l : List Span) → drop s.placed g.comments ≡ l → length l ≤ n
      → Looped (pop_comments g n name true s) s.pos (starting_before name l)
  unfolding starting_before pop_comment ◌⨟◌
  loop n s [] e h = looped_none s _ (pop_none g n name true s (none_at g.comments s.placed e))
  loop n s (c ∷ cs) e h = at n h (ltb c.start name) refl (λ m z f i. loop m z cs f i)
    where
      r : At g.comments s.placed c cs
      r = some_at g.comments s.placed c cs e

      at : (m : ℕ) → suc (length cs) ≤ m → (t : Bool) → ltb c.start name ≡ t
          → ((k : ℕ) (z : St) → drop z.placed g.comments ≡ cs → length cs ≤ k
          → Looped (pop_comments g k name true z) z.pos (starting_before name cs))
          → Looped (pop_comments g m name true s) s.pos (cond t (c ∷ starting_before name cs) [])
      at m i false w more = looped_none s _ (pop_late g m name true s c r.here w)
      at zero i true w more = absurd (omega arith)
      at (suc m) i true w more =
          let z = next s (pop_comment g true c s) in
          let behind : drop z.placed g.comments ≡ cs = ap (λ (k : ℕ). drop k g.comments) (one_placed true c s) ∙ r.behind in
          rw (pop_on g m name true s c r.here w)
          (looped_more (pop_comments g m name true) c s (starting_before name cs) (more m z behind (omega arith)))

  -- ---- what comes before the name
  module _ (s : St) where
    abbrev popped : Bool → Out
    popped first = pop_comments g (length g.comments) name (not first) s

    -- `opening`, by whether a comment waits
    abbrev opened : Bool → Bool → Out
    opened first w =
        ((pop_comments g (length g.comments) name (not first) ⨟! after_comments g (w && true) name (not first))
        ⨟? (λ gap. when (not first && not (whitespace gap)) (push line)))
        s

    opened_is : (first : Bool) → opening g name first s ≡ opened first (waits g name s)
    unfolding opening pop_whitespace ◌⨟?◌ ◌⨟!◌ ◌⨟◌
    opened_is first = refl

    -- after comments: the last gap, and nothing more
    after_comments_lem : (first : Bool) → (opened first true).nodes ≡ join (popped first).nodes (gap_then g (popped first).pos name none)
    unfolding ◌⨟?◌ ◌⨟!◌ ◌⨟◌ join
    after_comments_lem true =
        let z = next s (popped true) in
        join_assoc (popped true).nodes (step_alone (newlines g name) z).nodes none
        ∙ ap (λ (x : Nodes). join (popped true).nodes x) (laid_newlines name z none)
    after_comments_lem false =
        let z = next s (popped false) in
        join_assoc (popped false).nodes (step_alone (newlines g name) z).nodes none
        ∙ ap (λ (x : Nodes). join (popped false).nodes x) (laid_newlines name z none)

    -- without comments: a line, unless the gap makes a blank line
    alone : (n : ℕ) (y z : St)
        → join (join (cond (eqb n 0) skip (cond (eqb n 1) (push line) (push empty_line)) y).nodes none) (when (not (ltb 0 n)) (push line) z).nodes
        ≡ cond (ltb 1 n) (empty_line then none) (line then none)
    unfolding join
    alone zero y z = refl
    alone (suc zero) y z = refl
    alone (suc (suc n)) y z =
        rw (
          ne_eqb (suc (suc n)) 0 (λ e. omega arith),
          ne_eqb (suc (suc n)) 1 (λ e. omega arith),
          lt-ltb 0 (suc (suc n)) (omega arith),
          lt-ltb 1 (suc (suc n)) (omega arith),
        )
        refl

    without : (first : Bool) → popped first ≡ skip s → (opened first false).nodes ≡ before_name g first s.pos [] name
    unfolding ◌⨟?◌ ◌⨟!◌ ◌⨟◌ newlines ignore_newlines join
    without true e = rw e refl
    without false e = rw e (alone (count_newlines g.source s.pos name).count _ _)

    -- the whole list is enough for the loop
    enough : (l : List Span) → drop s.placed g.comments ≡ l → length l ≤ length g.comments
    enough l e = omega (arith, ap (λ (x : List Span). length x) e, length-drop s.placed g.comments)

    -- the first comment of the file, without a gap before it
    first_comment : (n : ℕ) (c : Span) (cs : List Span) → At g.comments s.placed c cs → suc (length cs) ≤ n → ltb c.start name ≡ true
        → (let o = pop_comments g n name false s in join o.nodes (gap_then g o.pos name none))
        ≡ (comment (trimmed g c) then with_gaps g (c.end - 1) (starting_before name cs) name)
    unfolding pop_comment ◌⨟◌
    first_comment zero c cs r h w = absurd (omega arith)
    first_comment (suc n) c cs r h w =
        let z = next s (pop_comment g false c s) in
        let behind : drop z.placed g.comments ≡ cs = ap (λ (k : ℕ). drop k g.comments) (one_placed false c s) ∙ r.behind in
        let o = pop_comments g n name true z in
        rw (pop_on g n name false s c r.here w)
        (join_assoc (pop_comment g false c s).nodes o.nodes (gap_then g o.pos name none)
        ∙ laid_first c s (join o.nodes (gap_then g o.pos name none))
        ∙ ap (λ (x : Nodes). comment (trimmed g c) then x) (loop n z cs behind (omega arith)).nodes)

    nodes_of : (first : Bool) (l : List Span) → drop s.placed g.comments ≡ l
        → (opening g name first s).nodes ≡ before_name g first s.pos (starting_before name l) name
    unfolding starting_before
    nodes_of first [] e =
        let f = none_at g.comments s.placed e in
        ap (λ (o : Out). o.nodes) (opened_is first)
        ∙ ap (λ (w : Bool). (opened first w).nodes) (waits_none g name s f)
        ∙ without first (pop_none g (length g.comments) name (not first) s f)
    nodes_of first (c ∷ cs) e = at first (ltb c.start name) refl
      where
        r : At g.comments s.placed c cs
        r = some_at g.comments s.placed c cs e

        whole : (first t : Bool) → ltb c.start name ≡ t → (opening g name first s).nodes ≡ (opened first t).nodes
        whole first t w =
            ap (λ (o : Out). o.nodes) (opened_is first)
            ∙ ap (λ (x : Bool). (opened first x).nodes) (waits_some g name s c r.here ∙ w)

        at : (first t : Bool) → ltb c.start name ≡ t
            → (opening g name first s).nodes ≡ before_name g first s.pos (cond t (c ∷ starting_before name cs) []) name
        at first false w = whole first false w ∙ without first (pop_late g (length g.comments) name (not first) s c r.here w)
        at true true w = whole true true w ∙ after_comments_lem true ∙ first_comment (length g.comments) c cs r (enough (c ∷ cs) e) w
        at false true w =
            whole false true w
            ∙ after_comments_lem false
            ∙ (rw (w, starting_before) at (loop (length g.comments) s (c ∷ cs) e (enough (c ∷ cs) e))).nodes

    -- what is counted last
    counted_last : (w : Bool) (z : St) → (after_comments g w name true z).1.newlines ≡ count_newlines g.source z.pos name
    unfolding newlines
    counted_last true z = refl
    counted_last false z = refl

    taken_of : (pop_whitespace g name true true true s).1.newlines ≡ count_newlines g.source (last_gap s.pos (standing g name s)) name
    unfolding pop_whitespace ◌⨟!◌
    taken_of =
        counted_last (waits g name s && true) (next s (popped false))
        ∙ ap (λ (p : ℕ). count_newlines g.source p name)
        (loop (length g.comments) s (drop s.placed g.comments) refl (enough (drop s.placed g.comments) refl)).pos

pub blank_lines : (g : Given) (name : ℕ) (s : St) → BlankLines g name s
blank_lines g name s = record { nodes = λ first. nodes_of g name s first (drop s.placed g.comments) refl; taken = taken_of g name s }
