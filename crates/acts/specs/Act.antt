-- `State` of fmt.rs: what a step of layout does, and the methods that push nodes.
use Rattle.std.specs.Prelude.{ℕ, ◌+◌, ◌-◌, Bool, true, false, List}
use Prim.Native.String.{String}
use Rattle.ast.specs.Syntax.{Span}
use Rattle.rows.specs.Node.{Text, Node, Nodes, group, indent, indent_next, ascii, call, none, ◌then◌, join}
use Rattle.rows.specs.Words.{word}

-- What `State` only reads: the source, the image with its texts, the comments in the image's order, and what a text of a row measures, by the
-- width that the image supplies for it and by the text itself (in the Rust, its `unicode_width`; here, the width supplied).
pub record Given : Type 0 where
  pub source : List ℕ
  pub image : List ℕ
  pub comments : List Span
  pub columns : ℕ → Text → ℕ

-- What it changes besides its nodes: `idx`, `pos`, and how many comments are popped from the front of the list.
pub record St : Type 0 where
  pub number : ℕ
  pub pos : ℕ
  pub placed : ℕ

-- What a step pushes, how many group numbers it takes, and the position and the comments popped after it.
pub record Out : Type 0 where
  pub nodes : Nodes
  pub taken : ℕ
  pub pos : ℕ
  pub placed : ℕ

abbrev pub Act : Type 0
Act = St → Out

-- the state after a step
abbrev pub next : St → Out → St
next s o = record { number = s.number + o.taken; pos = o.pos; placed = o.placed }

-- one step after the other
unfoldable pub ◌⨟◌ : Act → Act → Act
◌⨟◌ a b s =
    record {
      nodes = join (a s).nodes (b (next s (a s))).nodes;
      taken = (a s).taken + (b (next s (a s))).taken;
      pos = (b (next s (a s))).pos;
      placed = (b (next s (a s))).placed;
    }

infixr 50 ◌⨟◌
-- a step that pushes nothing and changes nothing
abbrev pub skip : Act
skip s = record { nodes = none; taken = 0; pos = s.pos; placed = s.placed }

-- a step that is taken only where the test holds
abbrev pub when : Bool → Act → Act
when true a = a
when false a = skip

-- `push`
abbrev pub push : Node → Act
push n s = record { nodes = n then none; taken = 0; pos = s.pos; placed = s.placed }

-- `*self.pos = p`
abbrev pub move_to : ℕ → Act
move_to p s = record { nodes = none; taken = 0; pos = p; placed = s.placed }

-- `comments.pop_front`
abbrev pub pop : Act
pop s = record { nodes = none; taken = 0; pos = s.pos; placed = s.placed + 1 }

-- `group`: what is done inside may name the group's number
unfoldable pub grouped : (ℕ → Act) → Act
grouped a s =
    let o : Out = a s.number (record { number = s.number + 1; pos = s.pos; placed = s.placed }) in
    record { nodes = group s.number o.nodes then none; taken = 1 + o.taken; pos = o.pos; placed = o.placed }

-- `indent`
unfoldable pub indented : Act → Act
indented a s = record { nodes = indent (a s).nodes then none; taken = (a s).taken; pos = (a s).pos; placed = (a s).placed }

-- `indent_next`
unfoldable pub indented_next : Act → Act
indented_next a s = record { nodes = indent_next (a s).nodes then none; taken = (a s).taken; pos = (a s).pos; placed = (a s).placed }

-- `Node::Call`: its two numbers are taken before its parts
unfoldable pub called : Act → Act → Act
called e a s =
    let o : Out = e (record { number = s.number + 2; pos = s.pos; placed = s.placed }) in
    let p : Out = a (record { number = s.number + 2 + o.taken; pos = o.pos; placed = o.placed }) in
    record {
      nodes = call s.number o.nodes (s.number + 1) p.nodes then none;
      taken = 2 + (o.taken + p.taken);
      pos = p.pos;
      placed = p.placed;
    }

-- A step that returns something.
abbrev pub Asking : Type 0 → Type 0
Asking A = St → Out × A

-- the step, where what it returns is not looked at
abbrev pub step_alone : {A : Type 0} → Asking A → Act
step_alone a s = (a s).0

-- a step that returns this, and a step whose value is turned into another
abbrev pub answering : {A : Type 0} → A → Act → Asking A
answering b a s = (a s, b)

abbrev pub turning : {A B : Type 0} → (A → B) → Asking A → Asking B
turning f a s = ((a s).0, f (a s).1)

-- a step, and then one whose value is returned
unfoldable pub ◌⨟!◌ : {A : Type 0} → Act → Asking A → Asking A
◌⨟!◌ a b s = ((a ⨟ step_alone b) s, (b (next s (a s))).1)

-- a step that returns something, and then one that depends on it
unfoldable pub ◌⨟?◌ : {A : Type 0} → Asking A → (A → Act) → Act
◌⨟?◌ a b s = (step_alone a ⨟ b (a s).1) s

infixr 50 ◌⨟!◌ ◌⨟?◌
-- `Node::Ascii` of a fixed word
abbrev pub says : String → Act
says w = push (ascii (word w))

-- `Node::Ascii` of the source between the ends of a span: `span_content`
abbrev pub content : Span → Text
content p = record { origin = 0; start = p.start; size = p.end - p.start }
