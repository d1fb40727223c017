-- Laws of comments placed: each way of joining steps has one. Only `pop` takes a comment from the list, and each `pop` is followed by the
-- comment's own node before another is taken.
-- Assumes nothing.
use Prim.Native.Nat.{ℕ, zero, suc, ◌+◌, ◌-◌, ◌≤◌, ◌<◌}
use mathlib.Core.Path.{◌≡◌, refl, sym, ap, ap₂, ◌∙◌}
use mathlib.Core.Bool.{Bool, true, false, cond, ◌&&◌}
use mathlib.Core.List.{List, [], ◌∷◌, ◌++◌, map, append-nil, append_assoc}
use Rattle.std.specs.Prelude.{Option, None, Some}
use native.Mathlib.Omega.{arith}
use lib.ListN.{length, take, drop}
use lib.Seq.{take-add, drop-drop}
use lib.Dec.{ltb, eqb}
use Rattle.text.specs.Newlines.{count_newlines}
use Rattle.text.specs.Space.{something}
use Rattle.ast.specs.Syntax.{Span}
use Rattle.rows.specs.Node.{Text, Node, Nodes, group, indent, indent_next, comment, none, ◌then◌, join}
use Rattle.acts.specs.Act.{Given, St, Out, Act, Asking, next, ◌⨟◌, ◌⨟?◌, ◌⨟!◌, skip, push, move_to, pop, step_alone, grouped}
use Rattle.acts.specs.Act.{indented, indented_next, called}
use Rattle.comments.specs.Comments.{nth, break_line, front, push_comment, newlines, ignore_newlines, pop_comment, waits}
use Rattle.comments.specs.Comments.{pop_comments, after_comments, pop_whitespace, pop_trailing_comment}
use Rattle.layout_facts.specs.Placing.{comments_of_node, comments_in_nodes, trimmed, between, Placed, Places}

comments_in_nodes_join : (ns ms : Nodes) → comments_in_nodes (join ns ms) ≡ comments_in_nodes ns ++ comments_in_nodes ms
unfolding comments_in_nodes join
comments_in_nodes_join none ms = refl
comments_in_nodes_join (n then ns) ms =
    ap (λ (l : List Text). comments_of_node n ++ l) (comments_in_nodes_join ns ms)
    ∙ sym (append_assoc (comments_of_node n) (comments_in_nodes ns) (comments_in_nodes ms))

between_join : (g : Given) (k m n : ℕ) → k ≤ m → m ≤ n → between g k m ++ between g m n ≡ between g k n
between_join g k m n h i =
    let l : List Text = map (trimmed g) g.comments in
    let at-m : m ≡ k + (m - k) = omega arith in
    let all : m - k + (n - m) ≡ n - k = omega arith in
    ap (λ (x : List Text). between g k m ++ take (n - m) x) (ap (λ (j : ℕ). drop j l) at-m ∙ sym (drop-drop (m - k) k l))
    ∙ sym (take-add (m - k) (n - m) (drop k l))
    ∙ ap (λ (j : ℕ). take j (drop k l)) all

between_none : (g : Given) (k m : ℕ) → m ≡ k → between g k m ≡ []
between_none g k m e =
    let z : m - k ≡ 0 = omega arith in
    ap (λ (j : ℕ). take j (drop k (map (trimmed g) g.comments))) z

-- ---- steps that place no comment
pub record Quiet (a : Act) : Type 0 where
  pub none : (s : St) → comments_in_nodes (a s).nodes ≡ []
  pub same : (s : St) → (a s).placed ≡ s.placed

pub places_quiet : {g : Given} {a : Act} → Quiet a → Places g a
places_quiet {g} {a} q =
    record {
      from =
          λ s h.
          let e : (a s).placed ≡ s.placed = q.same s in
          record { more = omega arith; within = omega arith; same = q.none s ∙ sym (between_none g s.placed (a s).placed e) };
    }

quiet_then : {a b : Act} → Quiet a → Quiet b → Quiet (a ⨟ b)
unfolding ◌⨟◌
quiet_then {a} {b} p q =
    record {
      none = λ s. comments_in_nodes_join (a s).nodes (b (next s (a s))).nodes ∙ ap₂ (λ (x y : List Text). x ++ y) (p.none s) (q.none (next s (a s)));
      same = λ s. q.same (next s (a s)) ∙ p.same s;
    }

quiet_skip : Quiet skip
unfolding comments_in_nodes
quiet_skip = record { none = λ s. refl; same = λ s. refl }

quiet_move_to : {p : ℕ} → Quiet (move_to p)
unfolding comments_in_nodes
quiet_move_to = record { none = λ s. refl; same = λ s. refl }

quiet_push : {n : Node} → comments_of_node n ≡ [] → Quiet (push n)
unfolding comments_in_nodes
quiet_push e = record { none = λ s. ap (λ (l : List Text). l ++ []) e; same = λ s. refl }

-- ---- ways of joining steps
placed_then : (g : Given) (a b : Act) (s : St) → Placed g s.placed (a s) → Places g b → Placed g s.placed ((a ⨟ b) s)
unfolding ◌⨟◌
placed_then g a b s x q =
    let y : Placed g (a s).placed (b (next s (a s))) = q.from (next s (a s)) x.within in
    record {
      more = omega arith;
      within = y.within;
      same =
          comments_in_nodes_join (a s).nodes (b (next s (a s))).nodes
          ∙ ap₂ (λ (l r : List Text). l ++ r) x.same y.same
          ∙ between_join g s.placed (a s).placed (b (next s (a s))).placed x.more y.more;
    }

pub places_then : {g : Given} {a b : Act} → Places g a → Places g b → Places g (a ⨟ b)
places_then {g} {a} {b} p q = record { from = λ s h. placed_then g a b s (p.from s h) q }

pub ◌⨾◌ : {g : Given} {a b : Act} → Places g a → Places g b → Places g (a ⨟ b)
p ⨾ q = places_then p q

infixr 50 ◌⨾◌
pub places_skip : {g : Given} → Places g skip
places_skip = places_quiet quiet_skip

pub places_push : {g : Given} {n : Node} → comments_of_node n ≡ [] → Places g (push n)
places_push e = places_quiet (quiet_push e)

-- nodes and what encloses them have the same comments
placed_in : (g : Given) (k : ℕ) (o : Out) (ns : Nodes) (t : ℕ) → comments_in_nodes ns ≡ comments_in_nodes o.nodes → Placed g k o
    → Placed g k (record { nodes = ns; taken = t; pos = o.pos; placed = o.placed })
placed_in g k o ns t e p = record { more = p.more; within = p.within; same = e ∙ p.same }

pub places_grouped : {g : Given} {a : ℕ → Act} → ((n : ℕ) → Places g (a n)) → Places g (grouped a)
unfolding grouped comments_in_nodes
places_grouped {g} {a} p =
    record {
      from =
          λ s h.
          let o : Out = a s.number (record { number = s.number + 1; pos = s.pos; placed = s.placed }) in
          placed_in g s.placed o (group s.number o.nodes then none) (1 + o.taken) (append-nil (comments_in_nodes o.nodes))
          ((p s.number).from (record { number = s.number + 1; pos = s.pos; placed = s.placed }) h);
    }

pub places_indented : {g : Given} {a : Act} → Places g a → Places g (indented a)
unfolding indented comments_in_nodes
places_indented {g} {a} p =
    record {
      from = λ s h. placed_in g s.placed (a s) (indent (a s).nodes then none) (a s).taken (append-nil (comments_in_nodes (a s).nodes)) (p.from s h);
    }

pub places_indented_next : {g : Given} {a : Act} → Places g a → Places g (indented_next a)
unfolding indented_next comments_in_nodes
places_indented_next {g} {a} p =
    record {
      from =
          λ s h. placed_in g s.placed (a s) (indent_next (a s).nodes then none) (a s).taken (append-nil (comments_in_nodes (a s).nodes)) (p.from s h);
    }

pub places_called : {g : Given} {e a : Act} → Places g e → Places g a → Places g (called e a)
unfolding called comments_in_nodes
places_called {g} {e} {a} p q =
    record {
      from =
          λ s h.
          let o : Out = e (record { number = s.number + 2; pos = s.pos; placed = s.placed }) in
          let r : Out = a (record { number = s.number + 2 + o.taken; pos = o.pos; placed = o.placed }) in
          let x : Placed g s.placed o = p.from (record { number = s.number + 2; pos = s.pos; placed = s.placed }) h in
          let y : Placed g o.placed r = q.from (record { number = s.number + 2 + o.taken; pos = o.pos; placed = o.placed }) x.within in
          record {
            more = omega arith;
            within = y.within;
            same =
                append-nil (comments_in_nodes o.nodes ++ comments_in_nodes r.nodes)
                ∙ ap₂ (λ (l m : List Text). l ++ m) x.same y.same
                ∙ between_join g s.placed o.placed r.placed x.more y.more;
          };
    }

-- a step that answers, and then one that goes by the answer
pub places_asks : {A : Type 0} {g : Given} (a : Asking A) {k : A → Act} → Places g (step_alone a) → ((b : A) → Places g (k b)) → Places g (a ⨟? k)
unfolding ◌⨟?◌
places_asks a p q = record { from = λ s h. (places_then p (q (a s).1)).from s h }

-- ---- the comment rules
-- the front comment of those left
front_is : (g : Given) (l : List Span) (k : ℕ) (c : Span) → nth l k ≡ Some c
    → (k < length l) × (take 1 (drop k (map (trimmed g) l)) ≡ trimmed g c ∷ [])
unfolding nth
front_is g [] k c e = absurd (none_some e)
  where
    none_some : ◌≡◌ {A = Option Span} None (Some c) → ⊥
    none_some h = let z : ◌≡◌ {A = ℕ} 0 1 = cc in omega arith
front_is g (x ∷ xs) zero c e = (omega arith, ap (λ (y : Span). trimmed g y ∷ []) (some_is e))
  where
    some_is : Some x ≡ Some c → x ≡ c
    some_is h = cc
front_is g (x ∷ xs) (suc k) c e = let r = front_is g xs k c e in (omega (arith, r.0), r.1)

-- a step that takes the front comment and pushes it places that comment
placed_one : (g : Given) (k : ℕ) (c : Span) (o : Out) → nth g.comments k ≡ Some c
    → o.placed ≡ k + 1 → comments_in_nodes o.nodes ≡ trimmed g c ∷ [] → Placed g k o
placed_one g k c o f e h =
    let r = front_is g g.comments k c f in
    let one : o.placed - k ≡ 1 = omega arith in
    record {
      more = omega arith;
      within = omega (arith, r.0);
      same = h ∙ sym (ap (λ (j : ℕ). take j (drop k (map (trimmed g) g.comments))) one ∙ r.1);
    }

quiet_cond : (t : Bool) {a b : Act} → Quiet a → Quiet b → Quiet (cond t a b)
quiet_cond true p q = p
quiet_cond false p q = q

quiet_newlines : (g : Given) (p : ℕ) → Quiet (step_alone (newlines g p))
unfolding newlines comments_in_nodes
quiet_newlines g p =
    record {
      none = λ s. (kept s).none s;
      same = λ s. (kept s).same s;
    }
  where
    kept : (s : St) → Quiet (break_line (count_newlines g.source s.pos p) ⨟ move_to p)
    kept s =
        let n = (count_newlines g.source s.pos p).count in
        quiet_then (quiet_cond (eqb n 0) quiet_skip (quiet_cond (eqb n 1) (quiet_push refl) (quiet_push refl))) quiet_move_to

quiet_ignore_newlines : (g : Given) (p : ℕ) → Quiet (ignore_newlines g p)
unfolding ignore_newlines comments_in_nodes
quiet_ignore_newlines g p = record { none = λ s. refl; same = λ s. refl }

-- the step between `pop` and the comment's node
popped : (g : Given) (c : Span) (q : Act) (p : ℕ) (s : St) → Quiet q → front g s ≡ Some c
    → Placed g s.placed ((pop ⨟ q ⨟ move_to p ⨟ push_comment g c) s)
unfolding ◌⨟◌ join comments_in_nodes
popped g c q p s k f =
    let s' : St = next s (pop s) in
    placed_one g s.placed c ((pop ⨟ q ⨟ move_to p ⨟ push_comment g c) s) f (k.same s')
    (comments_in_nodes_join (q s').nodes (comment (trimmed g c) then none) ∙ ap (λ (l : List Text). l ++ (trimmed g c ∷ [])) (k.none s'))

places_pop_comments : (g : Given) (n p : ℕ) (leading : Bool) → Places g (pop_comments g n p leading)
unfolding pop_comments pop_comment
places_pop_comments g zero p leading = places_skip
places_pop_comments g (suc n) p leading = record { from = λ s h. turn s h (front g s) refl (places_pop_comments g n p true) }
  where
    taken : (s : St) (c : Span) → s.placed ≤ length g.comments → front g s ≡ Some c → Places g (pop_comments g n p true) → (t : Bool)
        → Placed g s.placed (cond t (pop_comment g leading c ⨟ pop_comments g n p true) skip s)
    taken s c h e more true =
        placed_then g (pop_comment g leading c) (pop_comments g n p true) s
        (popped g c (cond leading (step_alone (newlines g c.start)) (ignore_newlines g c.start)) (c.end - 1) s
        (quiet_cond leading (quiet_newlines g c.start) (quiet_ignore_newlines g c.start)) e)
        more
    taken s c h e more false = places_skip.from s h

    turn : (s : St) → s.placed ≤ length g.comments → (f : Option Span) → front g s ≡ f → Places g (pop_comments g n p true)
        → Placed g s.placed
        (elim f [ None ↦ skip s | Some c ↦ cond (ltb c.start p) (pop_comment g leading c ⨟ pop_comments g n p true) skip s ])
    turn s h None e more = places_skip.from s h
    turn s h (Some c) e more = taken s c h e more (ltb c.start p)

-- `pop_whitespace`, as a step
pub places_gap : {g : Given} (p : ℕ) (a b c : Bool) → Places g (step_alone (pop_whitespace g p a b c))
unfolding pop_whitespace ◌⨟!◌
places_gap {g} p a b c =
    record { from = λ s h. (places_then (places_pop_comments g (length g.comments) p a) (last (waits g p s && b) c)).from s h }
  where
    last : (t u : Bool) → Places g (step_alone (after_comments g t p u))
    last true u = places_quiet (quiet_newlines g p)
    last false true = places_quiet (quiet_newlines g p)
    last false false = places_quiet (quiet_ignore_newlines g p)

-- `pop_trailing_comment`
pub places_trailing : {g : Given} → Places g (pop_trailing_comment g)
unfolding pop_trailing_comment ◌⨟◌ join comments_in_nodes
places_trailing {g} = record { from = λ s h. found s h (something g.source s.pos) }
  where
    taken : (s : St) (c : Span) → s.placed ≤ length g.comments → front g s ≡ Some c → (t : Bool)
        → Placed g s.placed (cond t (pop ⨟ push_comment g c ⨟ move_to c.end) skip s)
    taken s c h e true = placed_one g s.placed c ((pop ⨟ push_comment g c ⨟ move_to c.end) s) e refl refl
    taken s c h e false = places_skip.from s h

    turn : (s : St) → s.placed ≤ length g.comments → (place : ℕ) (f : Option Span) → front g s ≡ f
        → Placed g s.placed
        (elim f [ None ↦ skip s | Some c ↦ cond (eqb c.start place) (pop ⨟ push_comment g c ⨟ move_to c.end) skip s ])
    turn s h place None e = places_skip.from s h
    turn s h place (Some c) e = taken s c h e (eqb c.start place)

    found : (s : St) → s.placed ≤ length g.comments → (f : Option ℕ)
        → Placed g s.placed
        (elim f [
          | None ↦ skip s
          | Some place ↦
              elim (front g s) [ None ↦ skip s | Some c ↦ cond (eqb c.start place) (pop ⨟ push_comment g c ⨟ move_to c.end) skip s ]
        ])
    found s h None = places_skip.from s h
    found s h (Some place) = turn s h place (front g s) refl
