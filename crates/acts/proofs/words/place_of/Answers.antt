-- Each word has its place in the table, by computation.
use mathlib.Core.Path.{◌≡◌, refl}
use lib.ListN.{get_or}
use denote.Enum.Declared.{tag_of}
use Rattle.rows.specs.Words.{word, place_in}
use Rattle.acts.specs.Spelling.{place_of}
use Rattle.acts.specs.contracts.words.Word.{the_type}
use Rattle.acts.specs.declared.words.TheConstants.{PLACES}
use Rattle.acts.specs.declared.words.Word.{Word}
use Rattle.acts.specs.declared.words.Word.TheVariants.{FilterMap, Const, Record, Enum, Fn, Test, Import, Arrow, Let, Return, Accept, Reject}
use Rattle.acts.specs.declared.words.Word.TheVariants.{Match, If, While, For, Else, In, Guard, FatArrow, Assign, AddAssign, SubAssign, MulAssign}
use Rattle.acts.specs.declared.words.Word.TheVariants.{DivAssign, ModAssign, Colon, Space, Semicolon, Comma, Dot, Question, Not, Minus, Underscore, ParenOpen}
use Rattle.acts.specs.declared.words.Word.TheVariants.{ParenClose, BracketOpen, BracketClose, BraceOpen, BraceClose, Unit, FQuote, Quote, True, False, And, Or}
use Rattle.acts.specs.declared.words.Word.TheVariants.{Equal, NotEqual, Less, LessOrEqual, Greater, GreaterOrEqual, Plus, Star, Slash, Percent, StarStar, Empty}
use Rattle.acts.proofs.words.place_of.Goals as goal

listed : (w : Word) → get_or PLACES (tag_of the_type w) (record { start = 0; size = 0 }) ≡ place_of w
unfolding word place_in
listed FilterMap = refl
listed Const = refl
listed Record = refl
listed Enum = refl
listed Fn = refl
listed Test = refl
listed Import = refl
listed Arrow = refl
listed Let = refl
listed Return = refl
listed Accept = refl
listed Reject = refl
listed Match = refl
listed If = refl
listed While = refl
listed For = refl
listed Else = refl
listed In = refl
listed Guard = refl
listed FatArrow = refl
listed Assign = refl
listed AddAssign = refl
listed SubAssign = refl
listed MulAssign = refl
listed DivAssign = refl
listed ModAssign = refl
listed Colon = refl
listed Space = refl
listed Semicolon = refl
listed Comma = refl
listed Dot = refl
listed Question = refl
listed Not = refl
listed Minus = refl
listed Underscore = refl
listed ParenOpen = refl
listed ParenClose = refl
listed BracketOpen = refl
listed BracketClose = refl
listed BraceOpen = refl
listed BraceClose = refl
listed Unit = refl
listed FQuote = refl
listed Quote = refl
listed True = refl
listed False = refl
listed And = refl
listed Or = refl
listed Equal = refl
listed NotEqual = refl
listed Less = refl
listed LessOrEqual = refl
listed Greater = refl
listed GreaterOrEqual = refl
listed Plus = refl
listed Star = refl
listed Slash = refl
listed Percent = refl
listed StarStar = refl
listed Empty = refl

pub returns : goal.returns
returns c = listed c.args.word
