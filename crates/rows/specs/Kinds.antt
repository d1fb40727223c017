-- The kinds of rows: "kind (0 to 11, `Node`'s order)".
use Rattle.std.specs.Prelude.{ℕ, [], ◌∷◌, get_or, Option, Some, None}
use Rattle.rows.specs.declared.kinds.Kind.{Kind}
use Rattle.rows.specs.declared.kinds.Kind.TheVariants as kinds

abbrev pub GROUP : ℕ
GROUP = 0

abbrev pub INDENT : ℕ
INDENT = 1

abbrev pub INDENT_NEXT : ℕ
INDENT_NEXT = 2

abbrev pub WRAP_PARENT : ℕ
WRAP_PARENT = 3

abbrev pub COMMENT : ℕ
COMMENT = 4

abbrev pub STR : ℕ
STR = 5

abbrev pub ASCII : ℕ
ASCII = 6

abbrev pub LINE : ℕ
LINE = 7

abbrev pub EMPTY_LINE : ℕ
EMPTY_LINE = 8

abbrev pub LINE_OR_SPACE : ℕ
LINE_OR_SPACE = 9

abbrev pub IF_WRAP : ℕ
IF_WRAP = 10

abbrev pub CALL : ℕ
CALL = 11

-- a case for each kind, by its name, and one for the numbers that are no kind
pub record Cases (A : Type 0) : Type 0 where
  pub group : A
  pub indent : A
  pub indent_next : A
  pub wrap_parent : A
  pub comment : A
  pub str : A
  pub ascii : A
  pub line : A
  pub empty_line : A
  pub line_or_space : A
  pub if_wrap : A
  pub call : A
  pub no_kind : A

-- the case of a kind, the kinds in order from `GROUP` to `CALL`
abbrev pub case_of : {A : Type 0} → Cases A → ℕ → A
case_of c kind =
    get_or
    (c.group
    ∷ c.indent
    ∷ c.indent_next
    ∷ c.wrap_parent
    ∷ c.comment
    ∷ c.str
    ∷ c.ascii
    ∷ c.line
    ∷ c.empty_line
    ∷ c.line_or_space
    ∷ c.if_wrap
    ∷ c.call
    ∷ [])
    kind
    c.no_kind

-- the number of a kind, as it is written in a row
abbrev pub number_of : Kind → ℕ
number_of kinds.Group = GROUP
number_of kinds.Indent = INDENT
number_of kinds.IndentNext = INDENT_NEXT
number_of kinds.WrapParent = WRAP_PARENT
number_of kinds.Comment = COMMENT
number_of kinds.Str = STR
number_of kinds.Ascii = ASCII
number_of kinds.Line = LINE
number_of kinds.EmptyLine = EMPTY_LINE
number_of kinds.LineOrSpace = LINE_OR_SPACE
number_of kinds.IfWrap = IF_WRAP
number_of kinds.Call = CALL

-- the kind that a number is written for
abbrev pub kind_of : ℕ → Option Kind
kind_of n =
    case_of
    (record {
      group = Some kinds.Group;
      indent = Some kinds.Indent;
      indent_next = Some kinds.IndentNext;
      wrap_parent = Some kinds.WrapParent;
      comment = Some kinds.Comment;
      str = Some kinds.Str;
      ascii = Some kinds.Ascii;
      line = Some kinds.Line;
      empty_line = Some kinds.EmptyLine;
      line_or_space = Some kinds.LineOrSpace;
      if_wrap = Some kinds.IfWrap;
      call = Some kinds.Call;
      no_kind = None;
    })
    n
