-- What the code's tokens and operators stand for.
use Rattle.ipg_ast.specs.declared.grammar.Ident.{Ident}
use Rattle.ipg_read_syntax.specs.Classes as C
use Rattle.ipg_read_scan.specs.declared.lexeme.Label.{Label}
use Rattle.ipg_read_scan.specs.declared.lexeme.Infix.{Infix}
use Rattle.ipg_read_scan.specs.declared.lexeme.Infix.TheVariants.{Either, Both, Op}
use Rattle.ipg_read_scan.specs.declared.lexeme.Lexeme.{Lexeme}
use Rattle.ipg_read_scan.specs.declared.lexeme.Lexeme.TheVariants.{Name, Number, Text, Sign, Bang, Question, Colon, Dot, Comma, Equals, Arrow, Semicolon}
use Rattle.ipg_read_scan.specs.declared.lexeme.Lexeme.TheVariants.{LeftParen, RightParen, LeftBracket, RightBracket, LeftBrace, RightBrace, For}
use Rattle.ipg_read_scan.specs.declared.lexeme.Lexeme.TheVariants.{To, Do, Switch, Case, Else, Where, Start, End, Eoi, Many, Stray}

abbrev pub ident_of : Label → Ident
ident_of l = record { name = l.name.now; span = l.span }

abbrev pub infix_of : Infix → C.Infix
infix_of Either = C.either
infix_of Both = C.both
infix_of (Op o) = C.op o

abbrev pub tok_of : Lexeme → C.Tok
tok_of (Name l) = C.name (ident_of l)
tok_of (Number z) = C.number z
tok_of (Text l) = C.text l.name.now l.span
tok_of (Sign i) = C.sign (infix_of i)
tok_of Bang = C.bang
tok_of (Question at) = C.question at
tok_of Colon = C.colon
tok_of Dot = C.dot
tok_of Comma = C.comma
tok_of Equals = C.equals
tok_of Arrow = C.arrow
tok_of Semicolon = C.semicolon
tok_of LeftParen = C.left_paren
tok_of RightParen = C.right_paren
tok_of LeftBracket = C.left_bracket
tok_of RightBracket = C.right_bracket
tok_of LeftBrace = C.left_brace
tok_of RightBrace = C.right_brace
tok_of For = C.for_word
tok_of To = C.to_word
tok_of Do = C.do_word
tok_of (Switch at) = C.switch_word at
tok_of Case = C.case_word
tok_of Else = C.else_word
tok_of Where = C.where_word
tok_of Start = C.start_word
tok_of End = C.end_word
tok_of Eoi = C.eoi_word
tok_of (Many at) = C.many_word at
tok_of Stray = C.stray

abbrev pub coded_infix : C.Infix → Infix
coded_infix C.either = Either
coded_infix C.both = Both
coded_infix (C.op o) = Op o
