-- The kind of record that each form of src/ast.rs has in the image: document 01, "Kinds and children".
use Rattle.std.specs.Prelude.{ℕ}
use Rattle.image.specs.Kinds.{ACCESS, ASSIGN, BIN_OP, BLOCK_EXPR, COMPOUND_ASSIGN, EXPR_STMT, F_STRING, FOR, FUNCTION_CALL, IF_ELSE, IMPORT_STMT, LET}
use Rattle.image.specs.Kinds.{LIST_EXPR, LITERAL_EXPR, MATCH, NEGATE, NEVER, NOT, OPTION, PARENTHESES, PATH_EXPR, QUESTION_MARK, RECORD_EXPR}
use Rattle.image.specs.Kinds.{RECORD_TYPE, RETURN, TYPE_PATH, TYPED_RECORD, UNIT, WHILE}
use Rattle.ast.specs.Syntax.{TypeForm, option, type_path, never, unit, record_type, Form, return', literal, block, match', function_call, access}
use Rattle.ast.specs.Syntax.{path, record', typed_record, list, not', assign, compound_assign, bin_op, negate, if_else, while, for, question_mark}
use Rattle.ast.specs.Syntax.{f_string, parentheses, StmtForm, let', import_stmt, does}

-- of an expression
abbrev pub form_kind : Form → ℕ
form_kind (return' k e) = RETURN
form_kind (literal s w) = LITERAL_EXPR
form_kind (block b) = BLOCK_EXPR
form_kind (match' e s a) = MATCH
form_kind (function_call e s es) = FUNCTION_CALL
form_kind (access e i) = ACCESS
form_kind (path p) = PATH_EXPR
form_kind (record' s es) = RECORD_EXPR
form_kind (typed_record p s es) = TYPED_RECORD
form_kind (list es) = LIST_EXPR
form_kind (not' e) = NOT
form_kind (assign p e) = ASSIGN
form_kind (compound_assign p o e) = COMPOUND_ASSIGN
form_kind (bin_op l s o r) = BIN_OP
form_kind (negate e) = NEGATE
form_kind (if_else c b e) = IF_ELSE
form_kind (while c b) = WHILE
form_kind (for i e b) = FOR
form_kind (question_mark e) = QUESTION_MARK
form_kind (f_string ps) = F_STRING
form_kind (parentheses e) = PARENTHESES

-- of a type
abbrev pub type_kind : TypeForm → ℕ
type_kind (option t) = OPTION
type_kind (type_path p a) = TYPE_PATH
type_kind never = NEVER
type_kind unit = UNIT
type_kind (record_type s fs) = RECORD_TYPE

-- of a statement
abbrev pub stmt_kind : StmtForm → ℕ
stmt_kind (let' i t e) = LET
stmt_kind (import_stmt p) = IMPORT_STMT
stmt_kind (does e) = EXPR_STMT
