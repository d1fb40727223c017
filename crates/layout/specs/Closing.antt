-- A document laid by calls: what `fmt_parsed` starts from, what one call lays, and what closing adds (document 02, 4).
use Rattle.std.specs.Prelude.{Bool, true, false, List, ltb, length}
use Rattle.ast.specs.Syntax.{Declaration, SyntaxTree}
use Rattle.rows.specs.Node.{line}
use Rattle.acts.specs.Act.{Given, St, Act, ◌⨟◌, when, push, step_alone}
use Rattle.comments.specs.Comments.{pop_whitespace}
use Rattle.layout.specs.Layout.{shebang_rule, declarations_rule}

-- the state from which `fmt_parsed` starts
abbrev pub fresh : St
fresh = record { number = 0; pos = 0; placed = 0 }

-- what `fmt_parsed` has done when its loop has laid the declarations ds
abbrev pub up_to : Given → SyntaxTree → List Declaration → Act
up_to g t ds = shebang_rule g t.shebang ⨟ declarations_rule g ds true

-- "before the final `Line`, closing places every waiting comment, as `pop_whitespace` does when asked for the source length, with leading newlines
-- kept if there is at least one declaration, trailing ones and newlines without a comment not" (document 02, 4)
abbrev pub place_waiting : Given → SyntaxTree → Act
place_waiting g t = step_alone (pop_whitespace g (length g.source) (ltb 0 (length t.declarations)) false false)

-- closing: the final line, and before it the comments that wait, if these are kept
abbrev pub closing : Given → SyntaxTree → Bool → Act
closing g t true = place_waiting g t ⨟ push line
closing g t false = push line

-- the whole document; where waiting comments are not kept it is `fmt_parsed`
abbrev pub whole_rule : Given → SyntaxTree → Bool → Act
whole_rule g t keeps = shebang_rule g t.shebang ⨟ declarations_rule g t.declarations true ⨟ closing g t keeps

-- what one layout call lays: the shebang, if the call begins the document; the declarations ds, the first of which is the document's first
-- or not; the final line, if the call closes the document, after the comments that wait, if it keeps them
abbrev pub call_rule : Given → SyntaxTree → Bool → List Declaration → Bool → Bool → Bool → Act
call_rule g t begins ds first closes keeps =
    when begins (shebang_rule g t.shebang) ⨟ declarations_rule g ds first ⨟ when closes (closing g t keeps)
