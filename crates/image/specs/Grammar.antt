-- Which payload and which children a record has, kind by kind: document 01, "Kinds and children".
-- A place is where a child may stand, and a row is the places of a record in order. Both are numbers, the same in the code.
use Rattle.std.specs.Prelude.{List, Bool, true, cond, ◌&&◌, ◌||◌, ℕ, ◌+◌, ◌*◌, ◌/◌, ◌%◌, ◌-◌, get_or, ltb, leb, eqb}
use Rattle.text.specs.Utf8.{well_formed}
use Rattle.image.specs.Bytes.{part}
use Rattle.image.specs.Kinds.{ACCESS, ARM, ASSIGN, BIN_OP, BLOCK, BLOCK_EXPR, COMPOUND_ASSIGN, CONST, ENUM, ENUM_VARIANT, EXPR_PART}
use Rattle.image.specs.Kinds.{EXPR_STMT, F_STRING, FIELD, FILTER_MAP, FOR, FUNCTION, FUNCTION_CALL, IF_ELSE, IMPORT, IMPORT_STMT, LET, LIST}
use Rattle.image.specs.Kinds.{LIST_EXPR, LITERAL, LITERAL_EXPR, MATCH, NAME_AND_TYPE, NEGATE, NOT, OPERATOR, OPTION, PARENTHESES, PATH}
use Rattle.image.specs.Kinds.{PATH_EXPR, QUESTION_MARK, RECORD, RECORD_EXPR, RECORD_FIELDS, RECORD_TYPE, RETURN, TEST, TEXT, TEXT_PART}
use Rattle.image.specs.Kinds.{TREE, TYPE_PATH, TYPED_RECORD, UNDERSCORE, VARIANT, WHILE}

-- ---- places
-- any kind of low to high; a kind alone is the place for that kind
abbrev pub up_to : ℕ → ℕ → ℕ
up_to low high = low + 128 * (high - low)

-- 3 of p: a list whose elements stand at p
abbrev pub list : ℕ → ℕ
list p = 4096 + p

-- an operator of `CompoundAssignOp`, which stands under 62
abbrev pub assign : ℕ
assign = 8192 + OPERATOR

-- p?
abbrev pub may : ℕ → ℕ
may p = 16384 + p

-- p*
abbrev pub many : ℕ → ℕ
many p = 32768 + p

-- the marks of a place
abbrev pub is_list : ℕ → Bool
is_list p = eqb (p / 4096 % 2) 1

abbrev pub is_assign : ℕ → Bool
is_assign p = eqb (p / 8192 % 2) 1

abbrev pub is_optional : ℕ → Bool
is_optional p = eqb (p / 16384 % 2) 1

abbrev pub is_many : ℕ → Bool
is_many p = eqb (p / 32768 % 2) 1

-- the place without `?` and `*`
abbrev pub bare : ℕ → ℕ
bare p = p % 16384

-- the element's place, of the place of a list
abbrev pub element : ℕ → ℕ
element p = p % 4096

-- the kinds that document 01 names together
abbrev pub any_declaration : ℕ
any_declaration = up_to FILTER_MAP IMPORT

abbrev pub any_statement : ℕ
any_statement = up_to LET EXPR_STMT

abbrev pub any_type : ℕ
any_type = up_to OPTION RECORD_TYPE

abbrev pub any_expr : ℕ
any_expr = up_to RETURN PARENTHESES

abbrev pub any_pattern : ℕ
any_pattern = up_to UNDERSCORE ENUM_VARIANT

abbrev pub any_part : ℕ
any_part = up_to TEXT_PART EXPR_PART

-- ---- rows
infixr 40 ◌⊳◌
infixr 30 ◌⇒◌∣◌
-- no place
abbrev pub none : ℕ
none = 0

-- the place p, then the row r
abbrev pub ◌⊳◌ : ℕ → ℕ → ℕ
p ⊳ r = p + 65536 * r

-- the first place of a row
abbrev pub place : ℕ → ℕ
place row = row % 65536

-- the row that is left when a child has been read at the first place
abbrev pub after : ℕ → ℕ
after row = cond (is_many row) row (row / 65536)

-- no child is due any more
abbrev pub complete : ℕ → Bool
complete row = eqb row 0 || is_many row

-- a rule gives the row of a kind; a kind without a rule has no children
pub data Grammar : Type 0 where
  others : Grammar
  ◌⇒◌∣◌ : ℕ → ℕ → Grammar → Grammar

-- document 01's table
abbrev pub grammar : Grammar
grammar =
    TREE ⇒ may TEXT ⊳ many any_declaration ⊳ none ∣
    PATH ⇒ TEXT ⊳ many TEXT ⊳ none ∣
    FILTER_MAP ⇒ TEXT ⊳ list NAME_AND_TYPE ⊳ BLOCK ⊳ none ∣
    CONST ⇒ TEXT ⊳ any_type ⊳ any_expr ⊳ none ∣
    RECORD ⇒ TEXT ⊳ may (list TEXT) ⊳ list NAME_AND_TYPE ⊳ none ∣
    ENUM ⇒ TEXT ⊳ may (list TEXT) ⊳ list VARIANT ⊳ none ∣
    FUNCTION ⇒ TEXT ⊳ list NAME_AND_TYPE ⊳ may any_type ⊳ BLOCK ⊳ none ∣
    TEST ⇒ TEXT ⊳ BLOCK ⊳ none ∣
    IMPORT ⇒ may PATH ⊳ may (list IMPORT) ⊳ none ∣
    NAME_AND_TYPE ⇒ TEXT ⊳ any_type ⊳ none ∣
    VARIANT ⇒ TEXT ⊳ list any_type ⊳ none ∣
    FIELD ⇒ TEXT ⊳ any_expr ⊳ none ∣
    BLOCK ⇒ list any_statement ⊳ may any_expr ⊳ none ∣
    LET ⇒ TEXT ⊳ may any_type ⊳ any_expr ⊳ none ∣
    IMPORT_STMT ⇒ IMPORT ⊳ none ∣
    EXPR_STMT ⇒ any_expr ⊳ none ∣
    OPTION ⇒ any_type ⊳ none ∣
    TYPE_PATH ⇒ PATH ⊳ may (list any_type) ⊳ none ∣
    RECORD_TYPE ⇒ list NAME_AND_TYPE ⊳ none ∣
    RETURN ⇒ may any_expr ⊳ none ∣
    LITERAL_EXPR ⇒ LITERAL ⊳ none ∣
    BLOCK_EXPR ⇒ BLOCK ⊳ none ∣
    MATCH ⇒ any_expr ⊳ list ARM ⊳ none ∣
    FUNCTION_CALL ⇒ any_expr ⊳ list any_expr ⊳ none ∣
    ACCESS ⇒ any_expr ⊳ TEXT ⊳ none ∣
    PATH_EXPR ⇒ PATH ⊳ none ∣
    RECORD_EXPR ⇒ RECORD_FIELDS ⊳ none ∣
    TYPED_RECORD ⇒ PATH ⊳ RECORD_FIELDS ⊳ none ∣
    LIST_EXPR ⇒ list any_expr ⊳ none ∣
    NOT ⇒ any_expr ⊳ none ∣
    ASSIGN ⇒ PATH ⊳ any_expr ⊳ none ∣
    COMPOUND_ASSIGN ⇒ PATH ⊳ assign ⊳ any_expr ⊳ none ∣
    BIN_OP ⇒ any_expr ⊳ OPERATOR ⊳ any_expr ⊳ none ∣
    NEGATE ⇒ any_expr ⊳ none ∣
    IF_ELSE ⇒ any_expr ⊳ BLOCK ⊳ may BLOCK ⊳ none ∣
    WHILE ⇒ any_expr ⊳ BLOCK ⊳ none ∣
    FOR ⇒ TEXT ⊳ any_expr ⊳ BLOCK ⊳ none ∣
    QUESTION_MARK ⇒ any_expr ⊳ none ∣
    F_STRING ⇒ list any_part ⊳ none ∣
    PARENTHESES ⇒ any_expr ⊳ none ∣
    RECORD_FIELDS ⇒ many FIELD ⊳ none ∣
    ARM ⇒ any_pattern ⊳ may any_expr ⊳ any_expr ⊳ none ∣
    ENUM_VARIANT ⇒ TEXT ⊳ may (list TEXT) ⊳ none ∣
    EXPR_PART ⇒ any_expr ⊳ none ∣
    others

-- the row of kind k
abbrev pub row_in : ℕ → Grammar → ℕ
row_in k others = none
row_in k (n ⇒ r ∣ rs) = cond (eqb k n) r (row_in k rs)

unfoldable pub row_of : ℕ → ℕ
row_of k = row_in k grammar

-- the row of a record of kind k at place p: a list's element kind is set by its place
unfoldable pub row_under_of : ℕ → ℕ → ℕ
row_under_of p k = cond (is_list p) (many (element p)) (row_of k)

-- kind k is right at place p
unfoldable pub kind_fits_of : ℕ → ℕ → Bool
kind_fits_of p k = cond (is_list p) (eqb k LIST) (leb (p % 128) k && leb k (p % 128 + p / 128 % 32))

-- ---- payloads
-- the kinds with a payload byte: return, operator, literal
abbrev pub has_byte : ℕ → Bool
has_byte k = eqb k RETURN || eqb k OPERATOR || eqb k LITERAL

-- the largest payload byte of such a kind at place p
abbrev pub top_byte : ℕ → ℕ → ℕ
top_byte p k = cond (eqb k RETURN) 2 (cond (eqb k LITERAL) 3 (cond (is_assign p) 4 13))

-- What follows a record's span, from `from` to `stop`, starts with a payload right for kind k at place p. A text's width has v bytes.
unfoldable pub payload_fits : List ℕ → ℕ → ℕ → ℕ → ℕ → ℕ → Bool
payload_fits b v p k from stop =
    cond (eqb k TEXT) (leb (from + v) stop && well_formed (part (from + v) stop b))
    (cond (has_byte k) (ltb from stop && leb (get_or b from 0) (top_byte p k))
    true)

-- where the payload ends and the children start: a text is payload to its end
unfoldable pub first_child : ℕ → ℕ → ℕ → ℕ
first_child k from stop = cond (eqb k TEXT) stop (cond (has_byte k) (from + 1) from)
