-- Laws of laid steps: each way of joining steps has one. A step's rows follow those of the step before it, so that both runs of stores are
-- one run, and the cursor between them is the state that the second step starts from. Room for a whole is room for each part, at the cursor
-- where the part begins: a promise asks for room, so that a step is known to be laid only where there is room for it (`Lays`).
-- Assumes nothing.
use mathlib.Core.Path.{◌≡◌, refl, sym, ap, ap₂, subst, ◌∙◌}
use mathlib.Core.Bool.{Bool, true, false, cond}
use mathlib.Core.List.{List, append-nil}
use Prim.Native.Nat.{ℕ, ◌+◌, ◌*◌, ◌≤◌, ◌<◌}
use native.Mathlib.Nat.{add-zero}
use native.Mathlib.Omega.{arith}
use lib.Seq.{sets}
use Rattle.rows.specs.Node.{Text, Node, Nodes, join}
use Rattle.rows.specs.Rows.{size, sizes, row, rows_of, rows}
use Rattle.acts.specs.Act.{St, Out, Act, Asking, next, ◌⨟◌, skip, when, push, move_to, pop, step_alone, answering, turning, ◌⨟!◌, ◌⨟?◌}
use Rattle.acts.specs.declared.Cursor.{Cursor}
use Rattle.acts.specs.Laid.{cursor, st, after, top, Room, Laid, LaidAsking, Written}
use Rattle.laws.proofs.Stores.{sets_append}
use Rattle.acts.proofs.Joins.{sizes_join, join_assoc, length_rows, rows_join}

-- where there is room for a step, it is laid
pub record Lays (a : Act) (s : List ℕ) (c : Cursor) (s' : List ℕ) (c' : Cursor) : Type 0 where
  pub does : Room a c → Laid a s c s' c'

pub lays : {a : Act} {s s' : List ℕ} {c c' : Cursor} → Laid a s c s' c' → Lays a s c s' c'
lays l = record { does = λ room. l }

-- the same of a step that answers
pub record LaysAsking {A : Type 0} (a : Asking A) (s : List ℕ) (c : Cursor) (s' : List ℕ) (c' : Cursor) (r : A) : Type 0 where
  pub does : Room (step_alone a) c → LaidAsking a s c s' c' r

pub lays_asking : {A : Type 0} {a : Asking A} {s s' : List ℕ} {c c' : Cursor} {r : A} → LaidAsking a s c s' c' r → LaysAsking a s c s' c' r
lays_asking l = record { does = λ room. l }

-- only what a step does from the cursor's state counts
pub room_same : {a b : Act} {c : Cursor} → a (st c) ≡ b (st c) → Room a c → Room b c
room_same {a} {b} {c} e r =
    record {
      rows_fit = subst (λ (o : Out). c.row + sizes o.nodes ≤ top) e r.rows_fit;
      numbers_fit = subst (λ (o : Out). c.number + o.taken ≤ top) e r.numbers_fit;
    }

pub laid_same : {a b : Act} {s s' : List ℕ} {c c' : Cursor} → a (st c) ≡ b (st c) → Laid a s c s' c' → Laid b s c s' c'
laid_same {a} {b} {s} {s'} {c} {c'} e l =
    record {
      stored = subst (λ (o : Out). s' ≡ sets s (9 * c.row) (rows o.nodes c.row)) e l.stored;
      moved = subst (λ (o : Out). c' ≡ after c o) e l.moved;
    }

pub lays_same : {a b : Act} {s s' : List ℕ} {c c' : Cursor} → a (st c) ≡ b (st c) → Lays a s c s' c' → Lays b s c s' c'
lays_same e l = record { does = λ room. laid_same e (l.does (room_same (sym e) room)) }

-- ---- one step after the other
-- room for both is room for the first, and from there for the second
pub room_first : (b : Act) {a : Act} {c : Cursor} → Room (a ⨟ b) c → Room a c
unfolding ◌⨟◌
room_first b {a} {c} room =
    let j = sizes_join (a (st c)).nodes (b (next (st c) (a (st c)))).nodes in
    record { rows_fit = omega (arith, room.rows_fit, j); numbers_fit = omega (arith, room.numbers_fit) }

room_second : (a b : Act) (c : Cursor) → Room (a ⨟ b) c → Room b (after c (a (st c)))
unfolding ◌⨟◌
room_second a b c room =
    let j = sizes_join (a (st c)).nodes (b (next (st c) (a (st c)))).nodes in
    record { rows_fit = omega (arith, room.rows_fit, j); numbers_fit = omega (arith, room.numbers_fit) }

pub room_past : {a b : Act} {s s₁ : List ℕ} {c c₁ : Cursor} → Room (a ⨟ b) c → Laid a s c s₁ c₁ → Room b c₁
room_past {a} {b} {c = c} room l = subst (λ (x : Cursor). Room b x) (sym l.moved) (room_second a b c room)

pub room_next : {a b : Act} {s s₁ : List ℕ} {c c₁ : Cursor} → Room (a ⨟ b) c → Lays a s c s₁ c₁ → Room b c₁
room_next {b = b} room l = room_past room (l.does (room_first b room))

then_moved : (a b : Act) (s s₁ s₂ : List ℕ) (c c₂ : Cursor)
    → s₁ ≡ sets s (9 * c.row) (rows (a (st c)).nodes c.row) → Laid b s₁ (after c (a (st c))) s₂ c₂ → Laid (a ⨟ b) s c s₂ c₂
unfolding ◌⨟◌
then_moved a b s s₁ s₂ c c₂ e d =
    let ns : Nodes = (a (st c)).nodes in
    let o : Out = b (next (st c) (a (st c))) in
    record {
      stored =
          d.stored
          ∙ ap₂ (λ (l : List ℕ) (i : ℕ). sets l i (rows o.nodes (c.row + sizes ns))) e (omega (arith, length_rows ns c.row))
          ∙ sym (sets_append (rows ns c.row) (rows o.nodes (c.row + sizes ns)) s (9 * c.row))
          ∙ ap (λ (l : List ℕ). sets s (9 * c.row) l) (sym (rows_join ns o.nodes c.row));
      moved =
          d.moved ∙ ap₂ (λ (x y : ℕ). cursor x y o.pos o.placed) (omega (arith, sizes_join ns o.nodes)) (omega arith);
    }

pub laid_then : {a b : Act} {s s₁ s₂ : List ℕ} {c c₁ c₂ : Cursor} → Laid a s c s₁ c₁ → Laid b s₁ c₁ s₂ c₂ → Laid (a ⨟ b) s c s₂ c₂
laid_then {a} {b} {s} {s₁} {s₂} {c} {c₁} {c₂} p q =
    then_moved a b s s₁ s₂ c c₂ p.stored (subst (λ (x : Cursor). Laid b s₁ x s₂ c₂) p.moved q)

pub lays_then : {a b : Act} {s s₁ s₂ : List ℕ} {c c₁ c₂ : Cursor} → Lays a s c s₁ c₁ → Lays b s₁ c₁ s₂ c₂ → Lays (a ⨟ b) s c s₂ c₂
lays_then {b = b} p q =
    record { does = λ room. let l = p.does (room_first b room) in laid_then l (q.does (room_past room l)) }

pub then_assoc : (a b d : Act) (s : St) → ((a ⨟ b) ⨟ d) s ≡ (a ⨟ b ⨟ d) s
unfolding ◌⨟◌
then_assoc a b d s =
    let o : Out = b (next s (a s)) in
    let from : s.number + ((a s).taken + o.taken) ≡ s.number + (a s).taken + o.taken = omega arith in
    go (a s).nodes o.nodes (a s).taken o.taken (λ (n : ℕ). d (record { number = n; pos = o.pos; placed = o.placed })) from
  where
    go : (ns ms : Nodes) (i j : ℕ) (f : ℕ → Out) {m n : ℕ} → m ≡ n
        → ◌≡◌ {A = Out}
        (record { nodes = join (join ns ms) (f m).nodes; taken = i + j + (f m).taken; pos = (f m).pos; placed = (f m).placed })
        (record { nodes = join ns (join ms (f n).nodes); taken = i + (j + (f n).taken); pos = (f n).pos; placed = (f n).placed })
    go ns ms i j f {m} {n} e =
        rw e
        (ap₂ (λ (x : Nodes) (t : ℕ). record { nodes = x; taken = t; pos = (f n).pos; placed = (f n).placed })
        (join_assoc ns ms (f n).nodes)
        (omega arith))

-- steps joined to the left are joined to the right
pub room_assoc : (a b d : Act) {c : Cursor} → Room (a ⨟ b ⨟ d) c → Room ((a ⨟ b) ⨟ d) c
room_assoc a b d {c} room = room_same (sym (then_assoc a b d (st c))) room

pub lays_assoc : (a b d : Act) {s s' : List ℕ} {c c' : Cursor} → Lays ((a ⨟ b) ⨟ d) s c s' c' → Lays (a ⨟ b ⨟ d) s c s' c'
lays_assoc a b d {c = c} l = lays_same (then_assoc a b d (st c)) l

-- ---- steps without rows
stays : (c : Cursor) (p k : ℕ) → cursor c.row c.number p k ≡ cursor (c.row + 0) (c.number + 0) p k
stays c p k = ap₂ (λ (x y : ℕ). cursor x y p k) (sym (add-zero c.row)) (sym (add-zero c.number))

pub laid_skip : {s : List ℕ} {c : Cursor} → Laid skip s c s c
unfolding sizes rows
laid_skip {s} {c} = record { stored = refl; moved = stays c c.pos c.placed }

pub laid_move_to : {s : List ℕ} {c c' : Cursor} {p : ℕ} → c' ≡ cursor c.row c.number p c.placed → Laid (move_to p) s c s c'
unfolding sizes rows
laid_move_to {s} {c} {c'} {p} e = record { stored = refl; moved = e ∙ stays c p c.placed }

pub laid_pop : {s : List ℕ} {c c' : Cursor} → c' ≡ cursor c.row c.number c.pos (c.placed + 1) → Laid pop s c s c'
unfolding sizes rows
laid_pop {s} {c} {c'} e = record { stored = refl; moved = e ∙ stays c c.pos (c.placed + 1) }

pub lays_skip : {s : List ℕ} {c : Cursor} → Lays skip s c s c
lays_skip = lays laid_skip

-- one of two steps
pub room_if : (b : Act) {t : Bool} {a : Act} {c : Cursor} → t ≡ true → Room (cond t a b) c → Room a c
room_if b {a = a} {c = c} e room = subst (λ (x : Bool). Room (cond x a b) c) e room

pub room_else : (a : Act) {t : Bool} {b : Act} {c : Cursor} → t ≡ false → Room (cond t a b) c → Room b c
room_else a {b = b} {c = c} e room = subst (λ (x : Bool). Room (cond x a b) c) e room

pub lays_if : (b : Act) {t : Bool} {a : Act} {s s' : List ℕ} {c c' : Cursor} → t ≡ true → Lays a s c s' c' → Lays (cond t a b) s c s' c'
lays_if b e l = rw e l

pub lays_else : (a : Act) {t : Bool} {b : Act} {s s' : List ℕ} {c c' : Cursor} → t ≡ false → Lays b s c s' c' → Lays (cond t a b) s c s' c'
lays_else a e l = rw e l

-- ---- a node without parts
pub room_leaf : (n : Node) {c : Cursor} → size n ≡ 1 → Room (push n) c → c.row < top
unfolding sizes
room_leaf n one room = omega (arith, one, room.rows_fit)

pub laid_leaf : (x : Node) {kind n k w : ℕ} {t : Text} {s s' : List ℕ} {c c' : Cursor}
    → size x ≡ 1 → rows_of x c.row ≡ row kind n k 0 (c.row + 1) t w → Written kind n k t w s c s' c' → Laid (push x) s c s' c'
unfolding sizes rows
laid_leaf x {kind} {n} {k} {w} {t} {s} {s'} {c} one same p =
    record {
      stored = p.stored ∙ ap (λ (l : List ℕ). sets s (9 * c.row) l) (sym same ∙ sym (append-nil (rows_of x c.row)));
      moved = p.moved ∙ ap₂ (λ (x y : ℕ). cursor x y c.pos c.placed) (omega (arith, one)) (omega arith);
    }

-- ---- steps that answer
-- a step that answers, by what it does from the cursor's state
pub asking_same : {A : Type 0} {a b : Asking A} {s s' : List ℕ} {c c' : Cursor} {r : A} → a (st c) ≡ b (st c) → LaidAsking a s c s' c' r
    → LaidAsking b s c s' c' r
asking_same {A} {a} {b} {s} {s'} {c} {c'} {r} e l =
    record {
      laid = laid_same (ap (λ (p : Out × A). p.0) e) l.laid;
      answers = subst (λ (p : Out × A). r ≡ p.1) e l.answers;
    }

pub laid_answering : {A : Type 0} {a : Act} {s s' : List ℕ} {c c' : Cursor} {r : A} → Laid a s c s' c' → LaidAsking (answering r a) s c s' c' r
laid_answering l = record { laid = l; answers = refl }

pub laid_turning : {A B : Type 0} (f : A → B) {a : Asking A} {s s' : List ℕ} {c c' : Cursor} {r : A} → LaidAsking a s c s' c' r
    → LaidAsking (turning f a) s c s' c' (f r)
laid_turning f l = record { laid = l.laid; answers = ap f l.answers }

-- a step, and then one that answers
pub laid_answers : {A : Type 0} {a : Act} {b : Asking A} {s s₁ s₂ : List ℕ} {c c₁ c₂ : Cursor} {r : A}
    → Laid a s c s₁ c₁ → LaidAsking b s₁ c₁ s₂ c₂ r → LaidAsking (a ⨟! b) s c s₂ c₂ r
unfolding ◌⨟!◌
laid_answers {A} {a} {b} {s} {s₁} {s₂} {c} {c₁} {c₂} {r} p q =
    let q' : LaidAsking b s₁ (after c (a (st c))) s₂ c₂ r = subst (λ (x : Cursor). LaidAsking b s₁ x s₂ c₂ r) p.moved q in
    record { laid = laid_then p q.laid; answers = q'.answers }

-- a step that answers, and then one that goes by the answer
pub room_asked : {A : Type 0} (a : Asking A) (k : A → Act) {c : Cursor} → Room (a ⨟? k) c → Room (step_alone a) c
unfolding ◌⨟?◌
room_asked a k {c} room = room_first (k (a (st c)).1) (room_same refl room)

pub room_asks : {A : Type 0} (k : A → Act) {a : Asking A} {s s₁ : List ℕ} {c c₁ : Cursor} {r : A}
    → Room (a ⨟? k) c → LaysAsking a s c s₁ c₁ r → Room (k r) c₁
unfolding ◌⨟?◌
room_asks {A} k {a} {c = c} {c₁ = c₁} {r = r} room p =
    let l = p.does (room_asked a k room) in
    let both : Room (step_alone a ⨟ k (a (st c)).1) c = room_same refl room in
    subst (λ (x : A). Room (k x) c₁) (sym l.answers) (room_past both l.laid)

pub lays_asks : {A : Type 0} (k : A → Act) {a : Asking A} {s s₁ s₂ : List ℕ} {c c₁ c₂ : Cursor} {r : A}
    → LaysAsking a s c s₁ c₁ r → Lays (k r) s₁ c₁ s₂ c₂ → Lays (a ⨟? k) s c s₂ c₂
unfolding ◌⨟?◌
lays_asks {A} k {a} {s} {s₁} {s₂} {c} {c₁} {c₂} {r} p q =
    record {
      does =
          λ room.
          let l = p.does (room_asked a k room) in
          let m : Laid (k r) s₁ c₁ s₂ c₂ = q.does (room_asks k room p) in
          let n : Laid (k (a (st c)).1) s₁ c₁ s₂ c₂ = subst (λ (x : A). Laid (k x) s₁ c₁ s₂ c₂) l.answers m in
          laid_same refl (laid_then l.laid n);
    }
