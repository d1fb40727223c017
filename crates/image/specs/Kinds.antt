-- The kinds of records: document 01, "Kinds and children", by its names and those of ast.rs. The same in the code (src/kinds.rt).
use Rattle.std.specs.Prelude.{ℕ}

-- the tree
abbrev pub TREE : ℕ
TREE = 1

-- a text: its width, then its bytes
abbrev pub TEXT : ℕ
TEXT = 2

-- a list
abbrev pub LIST : ℕ
LIST = 3

-- a path
abbrev pub PATH : ℕ
PATH = 4

-- declarations: `filtermap`
abbrev pub FILTER_MAP : ℕ
FILTER_MAP = 10

abbrev pub CONST : ℕ
CONST = 11

abbrev pub RECORD : ℕ
RECORD = 12

abbrev pub ENUM : ℕ
ENUM = 13

-- `fn`
abbrev pub FUNCTION : ℕ
FUNCTION = 14

abbrev pub TEST : ℕ
TEST = 15

-- also the path of an import within another
abbrev pub IMPORT : ℕ
IMPORT = 16

-- a parameter, or a field of a record type
abbrev pub NAME_AND_TYPE : ℕ
NAME_AND_TYPE = 20

-- of an enum
abbrev pub VARIANT : ℕ
VARIANT = 21

-- of a record
abbrev pub FIELD : ℕ
FIELD = 22

abbrev pub BLOCK : ℕ
BLOCK = 23

-- statements
abbrev pub LET : ℕ
LET = 30

abbrev pub IMPORT_STMT : ℕ
IMPORT_STMT = 31

abbrev pub EXPR_STMT : ℕ
EXPR_STMT = 32

-- types
abbrev pub OPTION : ℕ
OPTION = 40

abbrev pub TYPE_PATH : ℕ
TYPE_PATH = 41

abbrev pub NEVER : ℕ
NEVER = 42

abbrev pub UNIT : ℕ
UNIT = 43

abbrev pub RECORD_TYPE : ℕ
RECORD_TYPE = 44

-- expressions, in the order of `Expr`
abbrev pub RETURN : ℕ
RETURN = 50

abbrev pub LITERAL_EXPR : ℕ
LITERAL_EXPR = 51

abbrev pub BLOCK_EXPR : ℕ
BLOCK_EXPR = 52

abbrev pub MATCH : ℕ
MATCH = 53

abbrev pub FUNCTION_CALL : ℕ
FUNCTION_CALL = 54

abbrev pub ACCESS : ℕ
ACCESS = 55

abbrev pub PATH_EXPR : ℕ
PATH_EXPR = 56

abbrev pub RECORD_EXPR : ℕ
RECORD_EXPR = 57

abbrev pub TYPED_RECORD : ℕ
TYPED_RECORD = 58

abbrev pub LIST_EXPR : ℕ
LIST_EXPR = 59

abbrev pub NOT : ℕ
NOT = 60

abbrev pub ASSIGN : ℕ
ASSIGN = 61

abbrev pub COMPOUND_ASSIGN : ℕ
COMPOUND_ASSIGN = 62

abbrev pub BIN_OP : ℕ
BIN_OP = 63

abbrev pub NEGATE : ℕ
NEGATE = 64

abbrev pub IF_ELSE : ℕ
IF_ELSE = 65

abbrev pub WHILE : ℕ
WHILE = 66

abbrev pub FOR : ℕ
FOR = 67

abbrev pub QUESTION_MARK : ℕ
QUESTION_MARK = 68

abbrev pub F_STRING : ℕ
F_STRING = 69

abbrev pub PARENTHESES : ℕ
PARENTHESES = 70

-- parts of expressions: the fields of a record
abbrev pub RECORD_FIELDS : ℕ
RECORD_FIELDS = 80

-- of a match
abbrev pub ARM : ℕ
ARM = 81

-- patterns
abbrev pub UNDERSCORE : ℕ
UNDERSCORE = 82

abbrev pub ENUM_VARIANT : ℕ
ENUM_VARIANT = 83

-- parts of an f-string
abbrev pub TEXT_PART : ℕ
TEXT_PART = 84

abbrev pub EXPR_PART : ℕ
EXPR_PART = 85

abbrev pub OPERATOR : ℕ
OPERATOR = 86

abbrev pub LITERAL : ℕ
LITERAL = 87
