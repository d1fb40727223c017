-- Laws of nodes with parts: the node's row is opened, its parts are laid, and then places 3 and 4 of the row are set to what is known by
-- then. A store to a row within a run of stores is the run with that place changed.
-- Assumes nothing.
use mathlib.Core.Path.{◌≡◌, refl, sym, ap, ap₂, subst, ◌∙◌}
use mathlib.Core.List.{List, ◌++◌, append-nil}
use Prim.Native.Nat.{ℕ, ◌+◌, ◌*◌, ◌≤◌, ◌<◌}
use native.Mathlib.Omega.{arith}
use lib.ListN.{set}
use lib.Seq.{sets}
use Rattle.rows.specs.Node.{Node, Nodes, group, indent, indent_next, if_wrap, none, ◌then◌}
use Rattle.rows.specs.Rows.{size, sizes, row, no_text, rows_of, rows}
use Rattle.acts.specs.Act.{Out, Act, push, grouped, indented, indented_next, called}
use Rattle.acts.specs.declared.Cursor.{Cursor}
use Rattle.acts.specs.Laid.{cursor, st, top, Room, CanOpen, Laid, Written, Opened}
use Rattle.laws.proofs.Stores.{sets_append, set_sets}
use Rattle.acts.proofs.Joins.{length_rows}
use Rattle.acts.proofs.Laws.{Lays}

-- the rows of one part, after a row
one_part : (k n m : ℕ) (s s₁ s₂ s₃ : List ℕ) (r : ℕ) (ns : Nodes) (z : ℕ)
    → s₁ ≡ sets s (9 * r) (row k n m 0 (r + 1) no_text 0) → s₂ ≡ sets s₁ (9 * (r + 1)) (rows ns (r + 1)) → s₃ ≡ set s₂ (9 * r + 4) z
    → s₃ ≡ sets s (9 * r) (row k n m 0 z no_text 0 ++ rows ns (r + 1))
one_part k n m s s₁ s₂ s₃ r ns z p q e =
    let head : List ℕ = row k n m 0 (r + 1) no_text 0 in
    let both : s₂ ≡ sets s (9 * r) (head ++ rows ns (r + 1)) =
    q ∙ ap₂ (λ (l : List ℕ) (i : ℕ). sets l i (rows ns (r + 1))) p (omega arith) ∙ sym (sets_append head (rows ns (r + 1)) s (9 * r)) in
    e ∙ ap (λ (l : List ℕ). set l (9 * r + 4) z) both ∙ set_sets (head ++ rows ns (r + 1)) s (9 * r) 4 z (omega arith)

-- the rows of two parts, after a row
two_parts : (k n m : ℕ) (s s₁ s₂ s₃ s₄ s₅ : List ℕ) (r : ℕ) (ns ms : Nodes) (y z : ℕ)
    → s₁ ≡ sets s (9 * r) (row k n m 0 (r + 1) no_text 0) → s₂ ≡ sets s₁ (9 * (r + 1)) (rows ns (r + 1))
    → s₃ ≡ sets s₂ (9 * (r + (1 + sizes ns))) (rows ms (r + (1 + sizes ns))) → s₄ ≡ set s₃ (9 * r + 3) y → s₅ ≡ set s₄ (9 * r + 4) z
    → s₅ ≡ sets s (9 * r) (row k n m y z no_text 0 ++ (rows ns (r + 1) ++ rows ms (r + (1 + sizes ns))))
two_parts k n m s s₁ s₂ s₃ s₄ s₅ r ns ms y z p q t e f =
    let head : List ℕ = row k n m 0 (r + 1) no_text 0 in
    let body : List ℕ = rows ns (r + 1) ++ rows ms (r + (1 + sizes ns)) in
    let parts : s₃ ≡ sets s₁ (9 * (r + 1)) body =
    t
    ∙ ap₂ (λ (l : List ℕ) (i : ℕ). sets l i (rows ms (r + (1 + sizes ns)))) q (omega (arith, length_rows ns (r + 1)))
    ∙ sym (sets_append (rows ns (r + 1)) (rows ms (r + (1 + sizes ns))) s₁ (9 * (r + 1))) in
    let both : s₃ ≡ sets s (9 * r) (head ++ body) =
    parts ∙ ap₂ (λ (l : List ℕ) (i : ℕ). sets l i body) p (omega arith) ∙ sym (sets_append head body s (9 * r)) in
    let one : s₄ ≡ sets s (9 * r) (row k n m y (r + 1) no_text 0 ++ body) =
    e ∙ ap (λ (l : List ℕ). set l (9 * r + 3) y) both ∙ set_sets (head ++ body) s (9 * r) 3 y (omega arith) in
    f ∙ ap (λ (l : List ℕ). set l (9 * r + 4) z) one ∙ set_sets (row k n m y (r + 1) no_text 0 ++ body) s (9 * r) 4 z (omega arith)

-- the cursor inside a node that takes t numbers of its own
abbrev entered : Cursor → ℕ → Cursor
entered c t = cursor (c.row + 1) (c.number + t) c.pos c.placed

-- ---- one part
-- a row with one part, where the node takes t numbers of its own
laid_part : (mk : Nodes → Node) (k n t : ℕ) {a b : Act} {s s₁ s₂ s₃ : List ℕ} {c c₁ c₂ : Cursor} (o : Out)
    → a (record { number = c.number + t; pos = c.pos; placed = c.placed }) ≡ o
    → record { nodes = mk o.nodes then none; taken = t + o.taken; pos = o.pos; placed = o.placed } ≡ b (st c)
    → size (mk o.nodes) ≡ 1 + sizes o.nodes
    → rows_of (mk o.nodes) c.row ≡ row k n 0 0 (c.row + (1 + sizes o.nodes)) no_text 0 ++ rows o.nodes (c.row + 1)
    → Opened k n 0 t s c s₁ c₁ → Laid a s₁ c₁ s₂ c₂ → s₃ ≡ set s₂ (9 * c.row + 4) c₂.row → Laid b s c s₃ c₂
unfolding rows sizes
laid_part mk k n t {a} {b} {s} {s₁} {s₂} {s₃} {c} {c₁} {c₂} o made whole long same p q e =
    let q' : Laid a s₁ (entered c t) s₂ c₂ = subst (λ (x : Cursor). Laid a s₁ x s₂ c₂) p.moved q in
    let part : s₂ ≡ sets s₁ (9 * (c.row + 1)) (rows o.nodes (c.row + 1)) =
    subst (λ (x : Out). s₂ ≡ sets s₁ (9 * (c.row + 1)) (rows x.nodes (c.row + 1))) made q'.stored in
    let left : c₂ ≡ cursor (c.row + 1 + sizes o.nodes) (c.number + t + o.taken) o.pos o.placed =
    subst (λ (x : Out). c₂ ≡ cursor (c.row + 1 + sizes x.nodes) (c.number + t + x.taken) x.pos x.placed) made q'.moved in
    let z : c₂.row ≡ c.row + (1 + sizes o.nodes) = ap (λ (x : Cursor). x.row) left ∙ omega arith in
    record {
      stored =
          one_part k n 0 s s₁ s₂ s₃ c.row o.nodes c₂.row p.stored part e
          ∙ ap (λ (x : ℕ). sets s (9 * c.row) (row k n 0 0 x no_text 0 ++ rows o.nodes (c.row + 1))) z
          ∙ ap (λ (l : List ℕ). sets s (9 * c.row) l) (sym same ∙ sym (append-nil (rows_of (mk o.nodes) c.row)))
          ∙ ap (λ (x : Out). sets s (9 * c.row) (rows x.nodes c.row)) whole;
      moved =
          left
          ∙ ap₂ (λ (x y : ℕ). cursor x y o.pos o.placed) (omega (arith, long)) (omega arith)
          ∙ ap (λ (x : Out). cursor (c.row + sizes x.nodes) (c.number + x.taken) x.pos x.placed) whole;
    }

-- room for a node is room to open it, and for its part at the cursor inside
pub opens_group : (a : ℕ → Act) {c : Cursor} → Room (grouped a) c → CanOpen 1 c
unfolding grouped sizes size
opens_group a room = record { row_fits = omega (arith, room.rows_fit); numbers_fit = omega (arith, room.numbers_fit) }

pub room_group : (a : ℕ → Act) {s s₁ : List ℕ} {c c₁ : Cursor} → Room (grouped a) c → Opened 0 c.number 0 1 s c s₁ c₁ → Room (a c.number) c₁
unfolding grouped sizes size
room_group a {c = c} room p =
    subst (λ (x : Cursor). Room (a c.number) x) (sym p.moved)
    (record { rows_fit = omega (arith, room.rows_fit); numbers_fit = omega (arith, room.numbers_fit) })

pub laid_group : (a : ℕ → Act) {s s₁ s₂ s₃ : List ℕ} {c c₁ c₂ : Cursor} → Opened 0 c.number 0 1 s c s₁ c₁ → Laid (a c.number) s₁ c₁ s₂ c₂
    → s₃ ≡ set s₂ (9 * c.row + 4) c₂.row → Laid (grouped a) s c s₃ c₂
unfolding grouped rows_of size
laid_group a {c = c} p q e =
    laid_part (group c.number) 0 c.number 1 (a c.number (record { number = c.number + 1; pos = c.pos; placed = c.placed })) refl refl refl
    refl p q e

pub lays_group : (a : ℕ → Act) {s s₁ s₂ s₃ : List ℕ} {c c₁ c₂ : Cursor} → Opened 0 c.number 0 1 s c s₁ c₁ → Lays (a c.number) s₁ c₁ s₂ c₂
    → s₃ ≡ set s₂ (9 * c.row + 4) c₂.row → Lays (grouped a) s c s₃ c₂
lays_group a p q e = record { does = λ room. laid_group a p (q.does (room_group a room p)) e }

-- no number of its own
numberless : (a : Act) (c : Cursor) → a (record { number = c.number + 0; pos = c.pos; placed = c.placed }) ≡ a (st c)
numberless a c = ap (λ (n : ℕ). a (record { number = n; pos = c.pos; placed = c.placed })) (omega arith)

none_taken : (ns : Nodes) (o : Out)
    → ◌≡◌ {A = Out} (record { nodes = ns; taken = 0 + o.taken; pos = o.pos; placed = o.placed })
    (record { nodes = ns; taken = o.taken; pos = o.pos; placed = o.placed })
none_taken ns o = ap (λ (n : ℕ). record { nodes = ns; taken = n; pos = o.pos; placed = o.placed }) (omega arith)

room_inside : {a : Act} {k : ℕ} {s s₁ : List ℕ} {c c₁ : Cursor} → c.row + 1 + sizes (a (st c)).nodes ≤ top → c.number + (a (st c)).taken ≤ top
    → Opened k 0 0 0 s c s₁ c₁ → Room a c₁
room_inside {a} {c = c} rows numbers p =
    let e = numberless a c in
    subst (λ (x : Cursor). Room a x) (sym p.moved)
    (record {
      rows_fit = subst (λ (x : Out). c.row + 1 + sizes x.nodes ≤ top) (sym e) rows;
      numbers_fit = subst (λ (x : Out). c.number + 0 + x.taken ≤ top) (sym e) (omega arith);
    })

pub opens_indent : (a : Act) {c : Cursor} → Room (indented a) c → CanOpen 0 c
unfolding indented sizes size
opens_indent a room = record { row_fits = omega (arith, room.rows_fit); numbers_fit = omega (arith, room.numbers_fit) }

pub room_indent : {a : Act} {s s₁ : List ℕ} {c c₁ : Cursor} → Room (indented a) c → Opened 1 0 0 0 s c s₁ c₁ → Room a c₁
unfolding indented sizes size
room_indent room p = room_inside (omega (arith, room.rows_fit)) room.numbers_fit p

pub laid_indent : {a : Act} {s s₁ s₂ s₃ : List ℕ} {c c₁ c₂ : Cursor} → Opened 1 0 0 0 s c s₁ c₁ → Laid a s₁ c₁ s₂ c₂
    → s₃ ≡ set s₂ (9 * c.row + 4) c₂.row → Laid (indented a) s c s₃ c₂
unfolding indented rows_of size
laid_indent {a} {c = c} p q e =
    laid_part indent 1 0 0 (a (st c)) (numberless a c) (none_taken (indent (a (st c)).nodes then none) (a (st c))) refl refl p q e

pub lays_indent : {a : Act} {s s₁ s₂ s₃ : List ℕ} {c c₁ c₂ : Cursor} → Opened 1 0 0 0 s c s₁ c₁ → Lays a s₁ c₁ s₂ c₂
    → s₃ ≡ set s₂ (9 * c.row + 4) c₂.row → Lays (indented a) s c s₃ c₂
lays_indent p q e = record { does = λ room. laid_indent p (q.does (room_indent room p)) e }

pub opens_indent_next : (a : Act) {c : Cursor} → Room (indented_next a) c → CanOpen 0 c
unfolding indented_next sizes size
opens_indent_next a room = record { row_fits = omega (arith, room.rows_fit); numbers_fit = omega (arith, room.numbers_fit) }

pub room_indent_next : {a : Act} {s s₁ : List ℕ} {c c₁ : Cursor} → Room (indented_next a) c → Opened 2 0 0 0 s c s₁ c₁ → Room a c₁
unfolding indented_next sizes size
room_indent_next room p = room_inside (omega (arith, room.rows_fit)) room.numbers_fit p

pub laid_indent_next : {a : Act} {s s₁ s₂ s₃ : List ℕ} {c c₁ c₂ : Cursor} → Opened 2 0 0 0 s c s₁ c₁ → Laid a s₁ c₁ s₂ c₂
    → s₃ ≡ set s₂ (9 * c.row + 4) c₂.row → Laid (indented_next a) s c s₃ c₂
unfolding indented_next rows_of size
laid_indent_next {a} {c = c} p q e =
    laid_part indent_next 2 0 0 (a (st c)) (numberless a c) (none_taken (indent_next (a (st c)).nodes then none) (a (st c))) refl refl p q e

pub lays_indent_next : {a : Act} {s s₁ s₂ s₃ : List ℕ} {c c₁ c₂ : Cursor} → Opened 2 0 0 0 s c s₁ c₁ → Lays a s₁ c₁ s₂ c₂
    → s₃ ≡ set s₂ (9 * c.row + 4) c₂.row → Lays (indented_next a) s c s₃ c₂
lays_indent_next p q e = record { does = λ room. laid_indent_next p (q.does (room_indent_next room p)) e }

-- ---- two parts
pub opens_called : (a b : Act) {c : Cursor} → Room (called a b) c → CanOpen 2 c
unfolding called sizes size
opens_called a b room = record { row_fits = omega (arith, room.rows_fit); numbers_fit = omega (arith, room.numbers_fit) }

pub room_called : (b : Act) {a : Act} {n k : ℕ} {s s₁ : List ℕ} {c c₁ : Cursor} → Room (called a b) c → Opened 11 n k 2 s c s₁ c₁ → Room a c₁
unfolding called sizes size
room_called b {a} room p =
    subst (λ (x : Cursor). Room a x) (sym p.moved)
    (record { rows_fit = omega (arith, room.rows_fit); numbers_fit = omega (arith, room.numbers_fit) })

-- the cursor between the parts
between : {a : Act} {n k : ℕ} {s s₁ s₂ : List ℕ} {c c₁ c₂ : Cursor} → Opened 11 n k 2 s c s₁ c₁ → Laid a s₁ c₁ s₂ c₂
    → (let o : Out = a (record { number = c.number + 2; pos = c.pos; placed = c.placed }) in
    c₂ ≡ cursor (c.row + (1 + sizes o.nodes)) (c.number + 2 + o.taken) o.pos o.placed)
between {a} {s₁ = s₁} {s₂ = s₂} {c = c} {c₂ = c₂} p q =
    let o : Out = a (record { number = c.number + 2; pos = c.pos; placed = c.placed }) in
    let q' : Laid a s₁ (entered c 2) s₂ c₂ = subst (λ (x : Cursor). Laid a s₁ x s₂ c₂) p.moved q in
    q'.moved ∙ ap (λ (x : ℕ). cursor x (c.number + 2 + o.taken) o.pos o.placed) (omega arith)

pub room_called_next : {a b : Act} {n k : ℕ} {s s₁ s₂ : List ℕ} {c c₁ c₂ : Cursor} → Room (called a b) c → Opened 11 n k 2 s c s₁ c₁
    → Lays a s₁ c₁ s₂ c₂ → Room b c₂
unfolding called sizes size
room_called_next {a} {b} {c = c} room p l =
    subst (λ (x : Cursor). Room b x) (sym (between p (l.does (room_called b room p))))
    (record { rows_fit = omega (arith, room.rows_fit); numbers_fit = omega (arith, room.numbers_fit) })

-- both parts of a call are laid between the row's opening and the setting of its second part and of the row after
pub laid_called : {a b : Act} {s s₁ s₂ s₃ s₄ s₅ : List ℕ} {c c₁ c₂ c₃ : Cursor}
    → Opened 11 c.number (c.number + 1) 2 s c s₁ c₁ → Laid a s₁ c₁ s₂ c₂ → Laid b s₂ c₂ s₃ c₃
    → s₄ ≡ set s₃ (9 * c.row + 3) c₂.row → s₅ ≡ set s₄ (9 * c.row + 4) c₃.row → Laid (called a b) s c s₅ c₃
unfolding called rows sizes
laid_called {a} {b} {s} {s₁} {s₂} {s₃} {s₄} {s₅} {c} {c₁} {c₂} {c₃} p q t e f =
    let o : Out = a (record { number = c.number + 2; pos = c.pos; placed = c.placed }) in
    let u : Out = b (record { number = c.number + 2 + o.taken; pos = o.pos; placed = o.placed }) in
    let second : ℕ = c.row + (1 + sizes o.nodes) in
    let g : Laid a s₁ (entered c 2) s₂ c₂ = subst (λ (x : Cursor). Laid a s₁ x s₂ c₂) p.moved q in
    let mid : c₂ ≡ cursor second (c.number + 2 + o.taken) o.pos o.placed = between p q in
    let h : Laid b s₂ (cursor second (c.number + 2 + o.taken) o.pos o.placed) s₃ c₃ =
    subst (λ (x : Cursor). Laid b s₂ x s₃ c₃) mid t in
    let y : c₂.row ≡ second = ap (λ (x : Cursor). x.row) mid in
    let z : c₃.row ≡ c.row + (1 + (sizes o.nodes + sizes u.nodes)) = ap (λ (x : Cursor). x.row) h.moved ∙ omega arith in
    let body : List ℕ = rows o.nodes (c.row + 1) ++ rows u.nodes second in
    record {
      stored =
          two_parts 11 c.number (c.number + 1) s s₁ s₂ s₃ s₄ s₅ c.row o.nodes u.nodes c₂.row c₃.row
          p.stored g.stored h.stored e f
          ∙ ap₂ (λ (v w : ℕ). sets s (9 * c.row) (row 11 c.number (c.number + 1) v w no_text 0 ++ body)) y z
          ∙ ap (λ (l : List ℕ). sets s (9 * c.row) l)
          (sym
          (append-nil
          (row 11 c.number (c.number + 1) second (c.row + (1 + (sizes o.nodes + sizes u.nodes))) no_text 0 ++ body)));
      moved = h.moved ∙ ap₂ (λ (v w : ℕ). cursor v w u.pos u.placed) (omega arith) (omega arith);
    }

pub lays_called : {a b : Act} {s s₁ s₂ s₃ s₄ s₅ : List ℕ} {c c₁ c₂ c₃ : Cursor}
    → Opened 11 c.number (c.number + 1) 2 s c s₁ c₁ → Lays a s₁ c₁ s₂ c₂ → Lays b s₂ c₂ s₃ c₃
    → s₄ ≡ set s₃ (9 * c.row + 3) c₂.row → s₅ ≡ set s₄ (9 * c.row + 4) c₃.row → Lays (called a b) s c s₅ c₃
lays_called {b = b} p q t e f =
    record { does = λ room. laid_called p (q.does (room_called b room p)) (t.does (room_called_next room p q)) e f }

-- the same for `IfWrap`, whose parts are a node each
pub room_if_wrap : (n : ℕ) (x y : Node) {c : Cursor} → Room (push (if_wrap n x y)) c → c.row < top
unfolding sizes size
room_if_wrap n x y room = omega (arith, room.rows_fit)

pub room_if_wrap_first : (n : ℕ) (x y : Node) {s s₁ : List ℕ} {c c₁ : Cursor} → Room (push (if_wrap n x y)) c → Written 10 n 0 no_text 0 s c s₁ c₁
    → Room (push x) c₁
unfolding sizes size
room_if_wrap_first n x y room p =
    subst (λ (w : Cursor). Room (push x) w) (sym p.moved)
    (record { rows_fit = omega (arith, room.rows_fit); numbers_fit = omega (arith, room.numbers_fit) })

pub room_if_wrap_second : (n : ℕ) (x y : Node) {s s₁ s₂ : List ℕ} {c c₁ c₂ : Cursor} → Room (push (if_wrap n x y)) c → Written 10 n 0 no_text 0 s c s₁ c₁
    → Laid (push x) s₁ c₁ s₂ c₂ → Room (push y) c₂
unfolding sizes size
room_if_wrap_second n x y {c₁ = c₁} {c₂ = c₂} room p q =
    subst (λ (w : Cursor). Room (push y) w) (sym q.moved)
    (record {
      rows_fit = omega (arith, room.rows_fit, ap (λ (w : Cursor). w.row) p.moved);
      numbers_fit = omega (arith, room.numbers_fit, ap (λ (w : Cursor). w.number) p.moved);
    })

pub laid_if_wrap : {n : ℕ} {x y : Node} {s s₁ s₂ s₃ s₄ s₅ : List ℕ} {c c₁ c₂ c₃ : Cursor}
    → Written 10 n 0 no_text 0 s c s₁ c₁ → Laid (push x) s₁ c₁ s₂ c₂ → Laid (push y) s₂ c₂ s₃ c₃
    → s₄ ≡ set s₃ (9 * c.row + 3) c₂.row → s₅ ≡ set s₄ (9 * c.row + 4) c₃.row → Laid (push (if_wrap n x y)) s c s₅ c₃
unfolding rows sizes
laid_if_wrap {n} {x} {y} {s} {s₁} {s₂} {s₃} {s₄} {s₅} {c} {c₁} {c₂} {c₃} p q t e f =
    let second : ℕ = c.row + (1 + size x) in
    let g : Laid (push x) s₁ (cursor (c.row + 1) c.number c.pos c.placed) s₂ c₂ =
    subst (λ (w : Cursor). Laid (push x) s₁ w s₂ c₂) p.moved q in
    let mid : c₂ ≡ cursor second c.number c.pos c.placed =
    g.moved ∙ ap₂ (λ (v w : ℕ). cursor v w c.pos c.placed) (omega arith) (omega arith) in
    let h : Laid (push y) s₂ (cursor second c.number c.pos c.placed) s₃ c₃ =
    subst (λ (w : Cursor). Laid (push y) s₂ w s₃ c₃) mid t in
    let z : c₃.row ≡ c.row + (1 + (size x + size y)) = ap (λ (w : Cursor). w.row) h.moved ∙ omega arith in
    let two : s₃ ≡ sets s₂ (9 * (c.row + (1 + sizes (x then none)))) (rows (y then none) (c.row + (1 + sizes (x then none)))) =
    h.stored ∙ ap (λ (i : ℕ). sets s₂ (9 * i) (rows (y then none) i)) (omega arith) in
    let body : List ℕ = rows_of x (c.row + 1) ++ rows_of y second in
    let parts : rows (x then none) (c.row + 1) ++ rows (y then none) (c.row + (1 + sizes (x then none))) ≡ body =
    ap₂ (λ (l m : List ℕ). l ++ m) (append-nil (rows_of x (c.row + 1)))
    (append-nil (rows_of y (c.row + (1 + sizes (x then none)))) ∙ ap (λ (i : ℕ). rows_of y i) (omega arith)) in
    record {
      stored =
          two_parts 10 n 0 s s₁ s₂ s₃ s₄ s₅ c.row (x then none) (y then none) c₂.row c₃.row
          p.stored g.stored two e f
          ∙ ap (λ (l : List ℕ). sets s (9 * c.row) (row 10 n 0 c₂.row c₃.row no_text 0 ++ l)) parts
          ∙ ap₂ (λ (v w : ℕ). sets s (9 * c.row) (row 10 n 0 v w no_text 0 ++ body)) (ap (λ (w : Cursor). w.row) mid) z
          ∙ ap (λ (l : List ℕ). sets s (9 * c.row) l)
          (sym (append-nil (row 10 n 0 second (c.row + (1 + (size x + size y))) no_text 0 ++ body)));
      moved = h.moved ∙ ap₂ (λ (v w : ℕ). cursor v w c.pos c.placed) (omega arith) (omega arith);
    }
