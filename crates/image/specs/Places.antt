-- What may stand where a child is due, and the places of a record's children: the code's, as the numbers of the grammar.
use Rattle.std.specs.Prelude.{List, [], ◌∷◌, ℕ}
use Rattle.image.specs.Kinds.{TREE, TEXT, PATH, IMPORT, NAME_AND_TYPE, VARIANT, FIELD, BLOCK, RECORD_FIELDS, ARM, OPERATOR, LITERAL}
use Rattle.image.specs.Grammar.{list, assign, may, many, any_declaration, any_statement, any_type, any_expr, any_pattern, any_part, none, ◌⊳◌}
use Rattle.image.specs.declared.grammar.Due.{Due}
use Rattle.image.specs.declared.grammar.Due.TheVariants as due
use Rattle.image.specs.declared.grammar.Place.{Place}
use Rattle.image.specs.declared.grammar.Place.TheVariants as place

abbrev pub due_number : Due → ℕ
due_number due.Tree = TREE
due_number due.Text = TEXT
due_number due.Path = PATH
due_number due.Import = IMPORT
due_number due.NameAndType = NAME_AND_TYPE
due_number due.Variant = VARIANT
due_number due.Field = FIELD
due_number due.Block = BLOCK
due_number due.RecordFields = RECORD_FIELDS
due_number due.Arm = ARM
due_number due.Operator = OPERATOR
due_number due.AssignOperator = assign
due_number due.Literal = LITERAL
due_number due.Declaration = any_declaration
due_number due.Statement = any_statement
due_number due.Type = any_type
due_number due.Expr = any_expr
due_number due.Pattern = any_pattern
due_number due.StringPart = any_part
due_number due.Texts = list TEXT
due_number due.Imports = list IMPORT
due_number due.NamesAndTypes = list NAME_AND_TYPE
due_number due.Variants = list VARIANT
due_number due.Arms = list ARM
due_number due.Statements = list any_statement
due_number due.Types = list any_type
due_number due.Exprs = list any_expr
due_number due.StringParts = list any_part

abbrev pub place_number : Place → ℕ
place_number (place.One d) = due_number d
place_number (place.Optional d) = may (due_number d)
place_number (place.Many d) = many (due_number d)

-- the row of these places
abbrev pub row_number : List Place → ℕ
row_number [] = none
row_number (p ∷ ps) = place_number p ⊳ row_number ps
