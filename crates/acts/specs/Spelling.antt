-- The fixed words of fmt.rs: how each is spelled, and where it stands in the text that holds them all.
use Prim.Native.String.{String}
use Rattle.rows.specs.Words.{word}
use Rattle.acts.specs.declared.words.Place.{Place}
use Rattle.acts.specs.declared.words.Word.{Word}
use Rattle.acts.specs.declared.words.Word.TheVariants.{FilterMap, Const, Record, Enum, Fn, Test, Import, Arrow, Let, Return, Accept, Reject}
use Rattle.acts.specs.declared.words.Word.TheVariants.{Match, If, While, For, Else, In, Guard, FatArrow, Assign, AddAssign, SubAssign, MulAssign}
use Rattle.acts.specs.declared.words.Word.TheVariants.{DivAssign, ModAssign, Colon, Space, Semicolon, Comma, Dot, Question, Not, Minus, Underscore, ParenOpen}
use Rattle.acts.specs.declared.words.Word.TheVariants.{ParenClose, BracketOpen, BracketClose, BraceOpen, BraceClose, Unit, FQuote, Quote, True, False, And, Or}
use Rattle.acts.specs.declared.words.Word.TheVariants.{Equal, NotEqual, Less, LessOrEqual, Greater, GreaterOrEqual, Plus, Star, Slash, Percent, StarStar, Empty}

abbrev pub spelling : Word → String
spelling FilterMap = "filtermap "
spelling Const = "const "
spelling Record = "record "
spelling Enum = "enum "
spelling Fn = "fn "
spelling Test = "test "
spelling Import = "import "
spelling Arrow = "-> "
spelling Let = "let "
spelling Return = "return"
spelling Accept = "accept"
spelling Reject = "reject"
spelling Match = "match "
spelling If = "if "
spelling While = "while "
spelling For = "for "
spelling Else = " else "
spelling In = " in "
spelling Guard = " if "
spelling FatArrow = " => "
spelling Assign = " = "
spelling AddAssign = " += "
spelling SubAssign = " -= "
spelling MulAssign = " *= "
spelling DivAssign = " /= "
spelling ModAssign = " %= "
spelling Colon = ": "
spelling Space = " "
spelling Semicolon = ";"
spelling Comma = ","
spelling Dot = "."
spelling Question = "?"
spelling Not = "!"
spelling Minus = "-"
spelling Underscore = "_"
spelling ParenOpen = "("
spelling ParenClose = ")"
spelling BracketOpen = "["
spelling BracketClose = "]"
spelling BraceOpen = "{"
spelling BraceClose = "}"
spelling Unit = "()"
spelling FQuote = "f\""
spelling Quote = "\""
spelling True = "true"
spelling False = "false"
spelling And = "&&"
spelling Or = "||"
spelling Equal = "=="
spelling NotEqual = "!="
spelling Less = "<"
spelling LessOrEqual = "<="
spelling Greater = ">"
spelling GreaterOrEqual = ">="
spelling Plus = "+"
spelling Star = "*"
spelling Slash = "/"
spelling Percent = "%"
spelling StarStar = "**"
spelling Empty = ""

abbrev pub place_of : Word → Place
place_of w = record { start = (word (spelling w)).start; size = (word (spelling w)).size }
