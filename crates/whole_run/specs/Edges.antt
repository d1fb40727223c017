-- The edges that document 01 marks with *, as a single list, with the second answers of document 02's request 4. Each is run by the rules of the
-- two calls at 80 columns, refusals included. Below them is the edge of a line at other widths.
use Rattle.std.specs.Prelude.{◌≡◌, List, [], ◌∷◌, ◌++◌, map, Bool, ℕ, zero, suc, ◌+◌, ◌<◌, length, replicate, Option, None, Some}
use Rattle.image.specs.Write.{Plain, Plains, without, plainly, done, ◌next◌, bytes4, framed, written}
use Rattle.ast.specs.Syntax.{Span}
use Rattle.widths.specs.Rules.{SUPPLIED}
use Rattle.rows.specs.Ascii.{bytes}
use Rattle.rows.specs.Node.{Text, Node, Nodes, group, indent, indent_next, comment, ascii, line, empty_line, line_or_space, call, none as nothing, ◌then◌}
use Rattle.rows.specs.Places.{KIND}
use Rattle.rows.specs.Rows.{sizes, rows}
use Rattle.rows.specs.View.{cell}
use Rattle.tree.specs.CommentList.{span}
use Rattle.cut_rule.specs.Run.{layout_call, render_call, Carried, start, run}
use Rattle.cut_rule.specs.Limits.{REFERENCE_WIDTH, MAX_ALLOTMENT}
use Rattle.cut_rule.specs.States.{RenderChoice, layout_fresh, OLD_MODE, NEW_MODE}
use Rattle.renderer_rules.specs.Renderer.{Renderer, render_node}
use Rattle.whole_run.specs.Parts.{page}
use Rattle.whole_run.specs.Demands.{rules_of, closing_at}

-- ---- what an edge is
-- nodes rendered as top rows, from an indent and a column: the text that this writes
pub record EdgeRendering : Type 0 where
  pub source : List ℕ
  pub indent : ℕ
  pub column : ℕ
  pub nodes : Nodes
  pub text : List ℕ

-- a file without a shebang, laid out and closed in one call by a mode, then rendered in one: how many rows, their kinds, how many group
-- numbers, the text with its length, the comments left
pub record EdgeFile : Type 0 where
  pub source : List ℕ
  pub comments : List Span
  pub declarations : List Plain
  pub mode : ℕ
  pub rows : ℕ
  pub kinds : List ℕ
  pub numbers : ℕ
  pub text : List ℕ
  pub size : ℕ
  pub left : ℕ

pub data Edge : Type 0 where
  rendering : EdgeRendering → Edge
  file : EdgeFile → Edge

-- ---- running it
-- what is seen after the calls: layout's rows and numbers and the comments left, rendering's next row and text
pub record Seen : Type 0 where
  pub rows : ℕ
  pub kinds : List ℕ
  pub numbers : ℕ
  pub left : Option ℕ
  pub rendered : ℕ
  pub text : List ℕ
  pub size : ℕ

abbrev pub kinds_in : List ℕ → ℕ → List ℕ
kinds_in store zero = []
kinds_in store (suc n) = kinds_in store n ++ cell store n KIND ∷ []

abbrev pub seen : (s b : List ℕ) → Carried (rules_of s b) → Seen
seen s b w = record {
  rows = w.layout_state_of.cursor.row;
  kinds = kinds_in w.store w.layout_state_of.cursor.row;
  numbers = w.layout_state_of.cursor.number;
  left = w.left;
  rendered = w.render_state_of.row;
  text = w.text;
  size = length w.text;
}

-- an image without a body: rendering asks no more of it
abbrev pub no_body : List ℕ
no_body = 1 ∷ bytes4 0

-- a rendering call over the rows of the nodes, with a width, 2 marks and an output of 300 bytes
abbrev pub renders_at : ℕ → EdgeRendering → Seen
renders_at width e =
    let r = rules_of e.source no_body in
    let w : Carried r = record {
      store = rows e.nodes 0;
      marks = 0 ∷ 0 ∷ [];
      layout_state_of = layout_fresh;
      render_state_of = record {
        pen = record { indent = e.indent; next_indent = 0; column = record { 0 = e.column } };
        in_use = 0;
        row = 0;
        width = 0;
        rule = 0;
        listed = [];
      };
      text = [];
      left = None;
    } in
    seen e.source no_body
    (run r w
    (render_call (record {
      to = record { stop = sizes e.nodes; choice = record { width = width; rule = SUPPLIED } };
      allotment = MAX_ALLOTMENT;
      room = 300;
    })
    ∷ []))

-- "two bytes, the number of comments; for each, start and end, four bytes each; one tree record"
abbrev pub pairs : List Span → List ℕ
pairs [] = []
pairs (c ∷ cs) = bytes4 c.start ++ bytes4 c.end ++ pairs cs

abbrev pub plains : List Plain → Plains
plains [] = done
plains (x ∷ xs) = x next plains xs

abbrev pub edge_image : EdgeFile → List ℕ
edge_image f = 1 ∷ framed (0 ∷ length f.comments ∷ pairs f.comments ++ written (plainly 1 0 0 [] (without next plains f.declarations)))

-- both calls, from fresh, with 24 rows, 2 marks and an output of 200 bytes
abbrev pub formats_as : EdgeFile → Seen
formats_as f =
    let image = edge_image f in
    let r = rules_of f.source image in
    seen f.source image
    (run r (start r (replicate 216 0) (0 ∷ 0 ∷ []))
    (layout_call (closing_at (record { mode = f.mode; rule = SUPPLIED }) (length f.declarations))
    ∷ render_call (record {
      to = record { stop = f.rows; choice = record { width = REFERENCE_WIDTH; rule = SUPPLIED } };
      allotment = MAX_ALLOTMENT;
      room = 200;
    })
    ∷ []))

abbrev pub observed : Edge → Seen
observed (rendering e) = renders_at REFERENCE_WIDTH e
observed (file f) = formats_as f

-- what is due: the figures of the edge, and all rows rendered
abbrev pub edge_due : Edge → Seen
edge_due (rendering e) = record {
  rows = 0;
  kinds = [];
  numbers = 0;
  left = None;
  rendered = sizes e.nodes;
  text = e.text;
  size = length e.text;
}
edge_due (file f) = record {
  rows = f.rows;
  kinds = f.kinds;
  numbers = f.numbers;
  left = Some f.left;
  rendered = f.rows;
  text = f.text;
  size = f.size;
}

-- ---- the edges of rendering
abbrev pub letters : ℕ → List ℕ
letters n = replicate n 0x78

abbrev pub blanks : ℕ → List ℕ
blanks n = replicate n 0x20

abbrev pub newline : List ℕ
newline = 0x0A ∷ []

-- their source: 80 letters, `# c`, `a`, `b`
abbrev pub sample : List ℕ
sample = letters 80 ++ bytes "# cab"

abbrev pub text : ℕ → ℕ → Text
text at n = record { origin = 0; start = at; size = n }

-- an `Ascii` text of n letters; the texts `a` and `b`
abbrev pub word : ℕ → Node
word n = ascii (text 0 n)

abbrev pub a : Node
a = ascii (text 83 1)

abbrev pub b : Node
b = ascii (text 84 1)

abbrev pub nodes_of : List Node → Nodes
nodes_of [] = nothing
nodes_of (n ∷ ns) = n then nodes_of ns

-- a node from an indent and a column, and the text that is due
abbrev pub from : ℕ → ℕ → Node → List ℕ → Edge
from steps column n due = rendering (record { source = sample; indent = steps; column = column; nodes = n then nothing; text = due })

-- a group of two words with `LineOrSpace` between
abbrev pub pair : ℕ → ℕ → Node
pair n m = group 0 (nodes_of (word n ∷ line_or_space ∷ word m ∷ []))

-- a `Call`: a callee of two words with a `Line` between, and arguments
abbrev pub call_of : ℕ → ℕ → List Node → Node
call_of n m args = call 0 (nodes_of (word n ∷ line ∷ word m ∷ [])) 1 (nodes_of args)

abbrev pub rendering_edges : List Edge
rendering_edges =
    -- "Group of 40 bytes, `LineOrSpace`, 39 bytes at column 0: one line. With 40 and 40: two lines."
    from 0 0 (pair 40 39) (letters 40 ++ blanks 1 ++ letters 39)
    ∷ from 0 0 (pair 40 40) (letters 40 ++ newline ++ letters 40)
    -- "At column 0, `indent` 2, the virtual column is 8: width 72 stays, 73 wraps."
    ∷ from 2 0 (pair 36 35) (blanks 8 ++ letters 36 ++ blanks 1 ++ letters 35)
    ∷ from 2 0 (pair 36 36) (blanks 8 ++ letters 36 ++ newline ++ blanks 8 ++ letters 36)
    -- "`Call` at column 0, no comment: callee 78, arguments 3, the callee keeps its line; callee 79, arguments 2, it doesn't."
    ∷ from 0 0 (call_of 40 38 (a ∷ line ∷ b ∷ line ∷ a ∷ [])) (letters 78 ++ bytes "a\nb\na")
    ∷ from 0 0 (call_of 40 39 (a ∷ line ∷ b ∷ [])) (letters 40 ++ newline ++ blanks 4 ++ letters 39 ++ bytes "ab")
    -- "`EmptyLine` at column 0 writes one newline, elsewhere two."
    ∷ from 0 0 empty_line newline
    ∷ from 0 5 empty_line (newline ++ newline)
    -- "Comment `# c` at column 0, `indent` 1: four spaces, `# c`, newline. At column 5: one space first."
    ∷ from 1 0 (comment (text 80 3)) (bytes "    # c\n")
    ∷ from 1 5 (comment (text 80 3)) (bytes " # c\n")
    -- "`IndentNext` of a, `Line`, b, wrapped from fresh: a, newline, four spaces, b. `Indent` puts four spaces before a too."
    ∷ from 0 0 (indent_next (nodes_of (a ∷ line ∷ b ∷ []))) (bytes "a\n    b")
    ∷ from 0 0 (indent (nodes_of (a ∷ line ∷ b ∷ []))) (bytes "    a\n    b")
    -- "Empty text at column 0, `indent` 1, writes four spaces."
    ∷ from 1 0 (word 0) (blanks 4)
    ∷ []

-- ---- the edges of whole files
-- the records of a name, of the type u32, of a literal of one digit and of `const A: u32 = 1;`, where they start at a place of the source
abbrev pub name_at : ℕ → List ℕ → Plain
name_at at name = plainly 2 at (at + length name) (0 ∷ length name ∷ name) done

abbrev pub u32_at : ℕ → Plain
u32_at at = plainly 41 at (at + 3) [] (plainly 4 at (at + 3) [] (name_at at (bytes "u32") next done) next without next done)

abbrev pub digit_at : ℕ → Plain
digit_at at = plainly 51 at (at + 1) [] (plainly 87 at (at + 1) (0 ∷ []) done next done)

abbrev pub const_at : ℕ → List ℕ → Plain
const_at at name = plainly 11 0 0 [] (name_at (at + 6) name next u32_at (at + 9) next digit_at (at + 15) next done)

-- the kinds of its rows: `const `, A, `: `, a group of u32 and an empty `Indent`, ` = `, 1, `;`
abbrev pub const_kinds : List ℕ
const_kinds = 6 ∷ 5 ∷ 6 ∷ 0 ∷ 5 ∷ 1 ∷ 6 ∷ 6 ∷ 6 ∷ []

abbrev pub line_kind : List ℕ
line_kind = 7 ∷ []

abbrev pub comment_kind : List ℕ
comment_kind = 4 ∷ []

-- no declarations; one; two
abbrev pub nothing_in : List ℕ → List Span → ℕ → Edge
nothing_in source comments left = file (record {
  source = source;
  comments = comments;
  declarations = [];
  mode = OLD_MODE;
  rows = 1;
  kinds = line_kind;
  numbers = 0;
  text = [];
  size = 0;
  left = left;
})

abbrev pub one_in : List ℕ → List Span → ℕ → Edge
one_in source comments left = file (record {
  source = source;
  comments = comments;
  declarations = const_at 0 (bytes "A") ∷ [];
  mode = OLD_MODE;
  rows = 10;
  kinds = const_kinds ++ line_kind;
  numbers = 1;
  text = bytes "const A: u32 = 1;\n";
  size = 18;
  left = left;
})

abbrev pub two_in : List ℕ → List Span → ℕ → Edge
two_in source comments left = file (record {
  source = source;
  comments = comments;
  declarations = const_at 0 (bytes "A") ∷ const_at 23 (bytes "B") ∷ [];
  mode = OLD_MODE;
  rows = 21;
  kinds = const_kinds ++ comment_kind ++ line_kind ++ const_kinds ++ line_kind;
  numbers = 2;
  text = bytes "const A: u32 = 1; # ok\nconst B: u32 = 2;\n";
  size = 41;
  left = left;
})

-- closed in the new mode: no declarations; one
abbrev pub foot_of_nothing : List ℕ → List Span → List ℕ → List ℕ → Edge
foot_of_nothing source comments kinds text = file (record {
  source = source;
  comments = comments;
  declarations = [];
  mode = NEW_MODE;
  rows = length kinds;
  kinds = kinds;
  numbers = 0;
  text = text;
  size = length text;
  left = 0;
})

abbrev pub foot_of_one : List ℕ → List Span → List ℕ → List ℕ → Edge
foot_of_one source comments kinds text = file (record {
  source = source;
  comments = comments;
  declarations = const_at 0 (bytes "A") ∷ [];
  mode = NEW_MODE;
  rows = length (const_kinds ++ kinds);
  kinds = const_kinds ++ kinds;
  numbers = 1;
  text = text;
  size = length text;
  left = 0;
})

abbrev pub file_edges : List Edge
file_edges =
    -- "No shebang, no declarations: one row `Line`, no text; with one comment, 1 left."
    nothing_in [] [] 0
    ∷ nothing_in (bytes "# c") (span 0 3 ∷ []) 1
    -- "`const A: u32 = 1;` gives 10 rows, 1 group number and that line with its newline, 18 bytes. Followed by ` # ok` and a newline: the same,
    -- 1 left."
    ∷ one_in (bytes "const A: u32 = 1;") [] 0
    ∷ one_in (bytes "const A: u32 = 1; # ok\n") (span 18 22 ∷ []) 1
    -- "Then `const B: u32 = 2;`: the comment returns on A's line, 41 bytes."
    ∷ two_in (bytes "const A: u32 = 1; # ok\nconst B: u32 = 2;") (span 18 22 ∷ []) 0
    ∷ []

-- "The comment-only file and the `# ok` case get second answers." In both, no newline stands between the position (0, and 16,
-- where A's literal ends) and the comment, so that no row comes before it; the comment ends its line, and at column 0 the final `Line` writes
-- nothing.
abbrev pub foot_edges : List Edge
foot_edges =
    foot_of_nothing (bytes "# c") (span 0 3 ∷ []) (comment_kind ++ line_kind) (bytes "# c\n")
    ∷ foot_of_one (bytes "const A: u32 = 1; # ok\n") (span 18 22 ∷ []) (comment_kind ++ line_kind) (bytes "const A: u32 = 1; # ok\n")
    -- "with leading newlines kept if there is at least one declaration, trailing ones and newlines without a comment not"
    ∷ foot_of_nothing (bytes "\n\n# c\n") (span 2 5 ∷ []) (comment_kind ++ line_kind) (bytes "# c\n")
    ∷ foot_of_one (bytes "const A: u32 = 1;\n# ok\n\n") (span 18 22 ∷ []) (line_kind ++ comment_kind ++ line_kind) (bytes "const A: u32 = 1;\n# ok\n")
    ∷ foot_of_one (bytes "const A: u32 = 1;\n\n") [] line_kind (bytes "const A: u32 = 1;\n")
    ∷ []

abbrev pub edges : List Edge
edges = rendering_edges ++ (file_edges ++ foot_edges)

-- the one theorem about it
abbrev pub EdgesHold : Type 0
EdgesHold = map observed edges ≡ map edge_due edges

-- ---- the edge of a line at other widths
-- the text of a group of 20 letters, `LineOrSpace` and n letters at column 0, with a width
abbrev pub group_at : ℕ → ℕ → List ℕ
group_at width n = (renders_at width (record { source = letters 200; indent = 0; column = 0; nodes = pair 20 n then nothing; text = [] })).text

-- a group of as many columns as the width stays, one of a column more wraps
pub record EdgeAt (width n : ℕ) : Type 0 where
  pub stays : group_at width n ≡ letters 20 ++ blanks 1 ++ letters n
  pub wraps : group_at width (n + 1) ≡ letters 20 ++ newline ++ letters (n + 1)

pub record WidthsHold : Type 0 where
  pub least : EdgeAt 40 19
  pub print_shop : EdgeAt 100 79
  pub most : EdgeAt 200 179

-- ---- "`EmptyLine` at column 0 writes one newline, elsewhere two", at every column and whatever was written before
pub record EmptyLineHolds : Type 0 where
  pub at_start : (c : RenderChoice) (s b : List ℕ) (w : Bool) (r : Renderer) → r.pen.column.0 ≡ 0
      → (render_node (page c s b) empty_line w r).buf ≡ r.buf ++ newline
  pub elsewhere : (c : RenderChoice) (s b : List ℕ) (w : Bool) (r : Renderer) → 0 < r.pen.column.0
      → (render_node (page c s b) empty_line w r).buf ≡ r.buf ++ (newline ++ newline)
