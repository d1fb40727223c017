-- Every layout rule gives its groups numbers that it takes: none that it pushes has a number at or past the next one.
-- Assumes nothing.
use Prim.Native.Nat.{ℕ, suc, ◌+◌, ◌≤◌}
use mathlib.Core.Path.{◌≡◌, refl, ap₂, subst}
use mathlib.Core.Bool.{Bool, true, false, ◌||◌}
use native.Mathlib.Omega.{arith}
use borrow.Author.Tests.{ne_eqb}
use lib.Dec.{eqb}
use Rattle.ast.specs.Syntax.{SyntaxTree}
use Rattle.rows.specs.Node.{Node, Nodes, none, ◌then◌, join}
use Rattle.renderer_rules.proofs.Names.{names, names_in}
use Rattle.acts.specs.Act.{Given, St, Out, Act, next, ◌⨟◌, ◌⨟?◌, skip, push, grouped, indented}
use Rattle.acts.specs.Act.{indented_next, called}
use Rattle.comments.specs.Comments.{ignore_newlines}
use Rattle.layout.specs.Layout.{fmt_parsed}
use Rattle.layout.specs.Closing.{fresh, whole_rule}
use Rattle.layout_facts.proofs.GapRule.{GapSteps, every_gap, every_trailing}
use Rattle.layout_facts.proofs.EveryRule.{Break, line_break, empty_line_break, line_or_space_break, wrap_parent_break, Joining, every_whole}

no_either : (a b : Bool) → a ≡ false → b ≡ false → (a || b) ≡ false
no_either a b e f = ap₂ ◌||◌ e f

names_join : (x : ℕ) (ns ms : Nodes) → names_in x ns ≡ false → names_in x ms ≡ false → names_in x (join ns ms) ≡ false
unfolding names_in join
names_join x none ms e f = f
names_join x (n then ns) ms e f = go (names x n) (names_in x ns) e (λ h. names_join x ns ms h f)
  where
    go : (a b : Bool) → (a || b) ≡ false → (b ≡ false → names_in x (join ns ms) ≡ false) → (a || names_in x (join ns ms)) ≡ false
    go true b e h = e
    go false b e h = h e

-- x is no number of what a step pushes
abbrev Without : ℕ → Out → Type 0
Without x o = names_in x o.nodes ≡ false

-- ---- steps that push nodes without numbers
record Plain (a : Act) : Type 0 where
  none : (s : St) (x : ℕ) → Without x (a s)

plain_then : {a b : Act} → Plain a → Plain b → Plain (a ⨟ b)
unfolding ◌⨟◌
plain_then {a} {b} p q = record { none = λ s x. names_join x (a s).nodes (b (next s (a s))).nodes (p.none s x) (q.none (next s (a s)) x) }

plain_skip : Plain skip
unfolding names_in
plain_skip = record { none = λ s x. refl }

gap_steps : (g : Given) → GapSteps g Plain
unfolding names_in ignore_newlines
gap_steps g =
    record {
      skips = plain_skip;
      moves = λ p. record { none = λ s x. refl };
      pops = record { none = λ s x. refl };
      comments = λ c. record { none = λ s x. refl };
      lines = record { none = λ s x. refl };
      empty_lines = record { none = λ s x. refl };
      ignores = λ p. record { none = λ s x. refl };
      joins = λ p q. plain_then p q;
      looks = λ {a} b p e. record { none = λ s x. subst (λ (o : Out). Without x o) (e s) ((p s).none s x) };
    }

-- ---- steps inside groups whose numbers are below k
record Numbers (k : ℕ) (a : Act) : Type 0 where
  below : (s : St) → k ≤ s.number → (x : ℕ) → s.number + (a s).taken ≤ x → Without x (a s)

numbers_plain : {k : ℕ} {a : Act} → Plain a → Numbers k a
numbers_plain p = record { below = λ s h x l. p.none s x }

plain_break : {n : Node} → Break n → Plain (push n)
unfolding names_in
plain_break line_break = record { none = λ s x. refl }
plain_break empty_line_break = record { none = λ s x. refl }
plain_break line_or_space_break = record { none = λ s x. refl }
plain_break wrap_parent_break = record { none = λ s x. refl }

numbers_then : {k : ℕ} {a b : Act} → Numbers k a → Numbers k b → Numbers k (a ⨟ b)
unfolding ◌⨟◌
numbers_then {k} {a} {b} p q =
    record {
      below =
          λ s h x l.
          names_join x (a s).nodes (b (next s (a s))).nodes (p.below s h x (omega arith)) (q.below (next s (a s)) (omega arith) x (omega arith));
    }

other : (x n : ℕ) → suc n ≤ x → eqb x n ≡ false
other x n h = ne_eqb x n (λ e. omega arith)

-- a node alone, with what it encloses
alone : (a : Bool) → a ≡ false → (a || false) ≡ false
alone a e = no_either a false e refl

numbers_grouped : {k : ℕ} {a : ℕ → Act} → ((n : ℕ) → Numbers (suc n) (a n)) → Numbers k (grouped a)
unfolding grouped names_in
numbers_grouped {k} {a} p =
    record {
      below =
          λ s h x l.
          let z : St = record { number = s.number + 1; pos = s.pos; placed = s.placed } in
          alone _ (no_either _ _ (other x s.number (omega arith)) ((p s.number).below z (omega arith) x (omega arith)));
    }

numbers_called : {k : ℕ} {e a : Act} → Numbers k e → Numbers k a → Numbers k (called e a)
unfolding called names_in
numbers_called {k} {e} {a} p q =
    record {
      below =
          λ s h x l.
          let z : St = record { number = s.number + 2; pos = s.pos; placed = s.placed } in
          let o : Out = e z in
          let w : St = record { number = s.number + 2 + o.taken; pos = o.pos; placed = o.placed } in
          alone _
          (no_either _ _ (no_either _ _ (other x s.number (omega arith)) (other x (s.number + 1) (omega arith)))
          (no_either _ _ (p.below z (omega arith) x (omega arith)) (q.below w (omega arith) x (omega arith))));
    }

joining : (g : Given) → Joining g (λ k ts a. Numbers k a)
unfolding names_in indented indented_next ◌⨟?◌
joining g =
    record {
      skips = numbers_plain plain_skip;
      words = λ t. numbers_plain (record { none = λ s x. refl });
      names = λ w t. numbers_plain (record { none = λ s x. refl });
      breaks = λ h. numbers_plain (plain_break h);
      chooses = λ {n}. record { below = λ s h x l. alone _ (no_either _ _ (other x n (omega arith)) refl) };
      joins = λ p q. numbers_then p q;
      groups = λ p. numbers_grouped p;
      indents = λ p. record { below = λ s h x l. alone _ (p.below s h x l) };
      indents_next = λ p. record { below = λ s h x l. alone _ (p.below s h x l) };
      calls = λ p q. numbers_called p q;
      asks = λ a p q. record { below = λ s h x l. (numbers_then p (q (a s).1)).below s h x l };
      gaps = λ p a b c. numbers_plain (every_gap (gap_steps g) p a b c);
      trails = numbers_plain (every_trailing (gap_steps g));
    }

-- No number of a document is at or past those that it takes.
pub whole_below : (g : Given) (t : SyntaxTree) (keeps : Bool) (x : ℕ) → (whole_rule g t keeps fresh).taken ≤ x
    → names_in x (whole_rule g t keeps fresh).nodes ≡ false
whole_below g t keeps x h = (every_whole (joining g) t keeps 0).below fresh (omega arith) x (omega arith)

pub numbers_below : (g : Given) (t : SyntaxTree) (x : ℕ) → (fmt_parsed g t fresh).taken ≤ x → names_in x (fmt_parsed g t fresh).nodes ≡ false
unfolding fmt_parsed
numbers_below g t x h = whole_below g t false x h
