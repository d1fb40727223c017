-- How many records of the image are inside one another: in a tree as it was read, and at a part of the syntax tree, where texts, paths,
-- patterns, operators and literals are left out.
use Rattle.std.specs.Prelude.{ℕ, ◌+◌, max, List, [], ◌∷◌, Option, None, Some}
use Rattle.image.specs.Read.{Tree, Trees, absent, node, nil, ◌▸◌}
use Rattle.ast.specs.Syntax.{TypeExpr, type, TypeForm, option, type_path, never, unit, record_type, TypeArgs, no_args, args, Types, no_types, ◌∷ᵗ◌}
use Rattle.ast.specs.Syntax.{Fields, no_fields, field, Import, import, ImportGroup, no_group, group, Imports, no_imports, ◌∷ⁱ◌, Expr, expr, Form}
use Rattle.ast.specs.Syntax.{return', literal, block, match', function_call, access, path, record', typed_record, list, not', assign, compound_assign}
use Rattle.ast.specs.Syntax.{bin_op, negate, if_else, while, for, question_mark, f_string, parentheses, Exprs, no_exprs, ◌∷ᵉ◌, MaybeExpr, no_expr, some_expr}
use Rattle.ast.specs.Syntax.{Entries, no_entries, entry, Arms, no_arms, arm, Parts, no_parts, string, value, Block, braces, MaybeBlock, no_block}
use Rattle.ast.specs.Syntax.{some_block, Stmts, no_stmts, ◌∷ˢ◌, Stmt, stmt, StmtForm, let', import_stmt, does, Variants, no_variants, variant}
use Rattle.ast.specs.Syntax.{Declaration, filter_map, const, record_decl, enum_decl, function, test, import_decl, SyntaxTree}

unfoldable mutual
  pub levels : Tree → ℕ
  levels absent = 0
  levels (node h ts) = 1 + levels_in ts

  pub levels_in : Trees → ℕ
  levels_in nil = 0
  levels_in (t ▸ ts) = max (levels t) (levels_in ts)

unfoldable mutual
  pub type_height : TypeExpr → ℕ
  type_height (type s f) = 1 + type_form_height f

  pub type_form_height : TypeForm → ℕ
  type_form_height (option t) = type_height t
  type_form_height (type_path p a) = args_height a
  type_form_height never = 0
  type_form_height unit = 0
  type_form_height (record_type s fs) = 1 + fields_height fs

  pub args_height : TypeArgs → ℕ
  args_height no_args = 0
  args_height (args s ts) = 1 + types_height ts

  pub types_height : Types → ℕ
  types_height no_types = 0
  types_height (t ∷ᵗ ts) = max (type_height t) (types_height ts)

  pub fields_height : Fields → ℕ
  fields_height no_fields = 0
  fields_height (field s i t fs) = max (1 + type_height t) (fields_height fs)

unfoldable mutual
  pub import_height : Import → ℕ
  import_height (import s p q) = 1 + group_height q

  pub group_height : ImportGroup → ℕ
  group_height no_group = 0
  group_height (group s is) = 1 + imports_height is

  pub imports_height : Imports → ℕ
  imports_height no_imports = 0
  imports_height (i ∷ⁱ is) = max (import_height i) (imports_height is)

abbrev pub maybe_type_height : Option TypeExpr → ℕ
maybe_type_height None = 0
maybe_type_height (Some t) = type_height t

unfoldable mutual
  pub expr_height : Expr → ℕ
  expr_height (expr s f) = 1 + form_height f

  pub form_height : Form → ℕ
  form_height (return' k e) = maybe_height e
  form_height (literal s w) = 0
  form_height (block b) = block_height b
  form_height (match' e s a) = max (expr_height e) (1 + arms_height a)
  form_height (function_call e s es) = max (expr_height e) (1 + exprs_height es)
  form_height (access e i) = expr_height e
  form_height (path p) = 0
  form_height (record' s es) = 1 + entries_height es
  form_height (typed_record p s es) = 1 + entries_height es
  form_height (list es) = 1 + exprs_height es
  form_height (not' e) = expr_height e
  form_height (assign p e) = expr_height e
  form_height (compound_assign p o e) = expr_height e
  form_height (bin_op l s o r) = max (expr_height l) (expr_height r)
  form_height (negate e) = expr_height e
  form_height (if_else c b e) = max (expr_height c) (max (block_height b) (maybe_block_height e))
  form_height (while c b) = max (expr_height c) (block_height b)
  form_height (for i e b) = max (expr_height e) (block_height b)
  form_height (question_mark e) = expr_height e
  form_height (f_string ps) = 1 + parts_height ps
  form_height (parentheses e) = expr_height e

  pub exprs_height : Exprs → ℕ
  exprs_height no_exprs = 0
  exprs_height (e ∷ᵉ es) = max (expr_height e) (exprs_height es)

  pub maybe_height : MaybeExpr → ℕ
  maybe_height no_expr = 0
  maybe_height (some_expr e) = expr_height e

  pub entries_height : Entries → ℕ
  entries_height no_entries = 0
  entries_height (entry s i e es) = max (1 + expr_height e) (entries_height es)

  pub arms_height : Arms → ℕ
  arms_height no_arms = 0
  arms_height (arm s p c e a) = max (1 + max (maybe_height c) (expr_height e)) (arms_height a)

  pub parts_height : Parts → ℕ
  parts_height no_parts = 0
  parts_height (string s ps) = parts_height ps
  parts_height (value e ps) = max (1 + expr_height e) (parts_height ps)

  pub block_height : Block → ℕ
  block_height (braces s ss last) = 1 + max (1 + stmts_height ss) (maybe_height last)

  pub maybe_block_height : MaybeBlock → ℕ
  maybe_block_height no_block = 0
  maybe_block_height (some_block b) = block_height b

  pub stmts_height : Stmts → ℕ
  stmts_height no_stmts = 0
  stmts_height (x ∷ˢ ss) = max (stmt_height x) (stmts_height ss)

  pub stmt_height : Stmt → ℕ
  stmt_height (stmt s f) = 1 + stmt_form_height f

  pub stmt_form_height : StmtForm → ℕ
  stmt_form_height (let' i t e) = max (maybe_type_height t) (expr_height e)
  stmt_form_height (import_stmt i) = import_height i
  stmt_form_height (does e) = expr_height e

unfoldable pub variants_height : Variants → ℕ
variants_height no_variants = 0
variants_height (variant s i ts vs) = max (1 + (1 + types_height ts)) (variants_height vs)

unfoldable pub declaration_height : Declaration → ℕ
declaration_height (filter_map i s fs b) = 1 + max (1 + fields_height fs) (block_height b)
declaration_height (const i t e) = 1 + max (type_height t) (expr_height e)
declaration_height (record_decl i ps s fs) = 1 + (1 + fields_height fs)
declaration_height (enum_decl i ps s vs) = 1 + (1 + variants_height vs)
declaration_height (function i s fs t b) = 1 + max (1 + fields_height fs) (max (maybe_type_height t) (block_height b))
declaration_height (test i b) = 1 + block_height b
declaration_height (import_decl i) = import_height i

unfoldable pub declarations_height : List Declaration → ℕ
declarations_height [] = 0
declarations_height (d ∷ ds) = max (declaration_height d) (declarations_height ds)

unfoldable pub tree_height : SyntaxTree → ℕ
tree_height t = 1 + declarations_height t.declarations
