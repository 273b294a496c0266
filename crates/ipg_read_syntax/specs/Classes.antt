-- What a token is to the grammar of grammars: its class, with what a grammar keeps of it.
use Rattle.std.specs.Prelude.{ℕ, List, [], ◌∷◌, ℤ, codes, bytes_eq, ◌==◌, if◌then◌else◌}
use Rattle.ipg_num.specs.declared.op.Op2.{Op2}
use Rattle.ipg_num.specs.declared.op.Op2.TheVariants.{Add, Sub, Mul, Div, Mod, Shl, Shr, BitAnd, BitOr, BitXor, Eq, Ne, Lt, Le, Gt, Ge}
use Rattle.ipg_ast.specs.declared.grammar.Ident.{Ident}
use Rattle.ipg_ast.specs.declared.grammar.Span.{Span}
use Rattle.ipg_ast.specs.declared.token.Reserved.{Reserved}
use Rattle.ipg_ast.specs.declared.token.Reserved.TheVariants as reserved
use Rattle.ipg_ast.specs.declared.token.TokenKind.{TokenKind}
use Rattle.ipg_ast.specs.declared.token.TokenKind.TheVariants.{Name, Word, Number, Text, Symbol}
use Rattle.ipg_read_tokens.specs.declared.token.Token.{Token}

-- an operator between two operands: `||`, `&&`, or one of numbers
pub data Infix : Type 0 where
  either : Infix
  both : Infix
  op : Op2 → Infix

-- `-` is `sign (op Sub)` also before one operand, and `/` is `sign (op Div)` also between alternatives
pub data Tok : Type 0 where
  name : Ident → Tok
  number : ℤ → Tok
  text : List ℕ → Span → Tok
  sign : Infix → Tok
  bang : Tok
  question : Span → Tok
  colon : Tok
  dot : Tok
  comma : Tok
  equals : Tok
  arrow : Tok
  semicolon : Tok
  left_paren : Tok
  right_paren : Tok
  left_bracket : Tok
  right_bracket : Tok
  left_brace : Tok
  right_brace : Tok
  for_word : Tok
  to_word : Tok
  do_word : Tok
  switch_word : Span → Tok
  case_word : Tok
  else_word : Tok
  where_word : Tok
  start_word : Tok
  end_word : Tok
  eoi_word : Tok
  many_word : Span → Tok
  stray : Tok

abbrev pub minus : Tok
minus = sign (op Sub)

abbrev pub slash : Tok
slash = sign (op Div)

-- `tok` stands in no grammar
abbrev pub word_class : Reserved → Span → Tok
word_class reserved.For at = for_word
word_class reserved.To at = to_word
word_class reserved.Do at = do_word
word_class reserved.Switch at = switch_word at
word_class reserved.Case at = case_word
word_class reserved.Else at = else_word
word_class reserved.Where at = where_word
word_class reserved.Start at = start_word
word_class reserved.End at = end_word
word_class reserved.Eoi at = eoi_word
word_class reserved.Tok at = stray
word_class reserved.Many at = many_word at

-- symbols of one byte
abbrev pub single_class : ℕ → Span → Tok
single_class b at =
    if b == 37 then sign (op Mod) else
    (if b == 38 then sign (op BitAnd) else
    (if b == 40 then left_paren else
    (if b == 41 then right_paren else
    (if b == 42 then sign (op Mul) else
    (if b == 43 then sign (op Add) else
    (if b == 44 then comma else
    (if b == 45 then sign (op Sub) else
    (if b == 46 then dot else
    (if b == 47 then sign (op Div) else
    (if b == 58 then colon else
    (if b == 59 then semicolon else
    (if b == 60 then sign (op Lt) else
    (if b == 61 then equals else
    (if b == 62 then sign (op Gt) else
    (if b == 63 then question at else
    (if b == 33 then bang else
    (if b == 91 then left_bracket else
    (if b == 93 then right_bracket else
    (if b == 94 then sign (op BitXor) else
    (if b == 123 then left_brace else
    (if b == 124 then sign (op BitOr) else
    (if b == 125 then right_brace else stray))))))))))))))))))))))

-- symbols of two bytes
abbrev pub pair_class : List ℕ → Tok
pair_class s =
    if bytes_eq s (codes "->") then arrow else
    (if bytes_eq s (codes "<<") then sign (op Shl) else
    (if bytes_eq s (codes ">>") then sign (op Shr) else
    (if bytes_eq s (codes "==") then sign (op Eq) else
    (if bytes_eq s (codes "!=") then sign (op Ne) else
    (if bytes_eq s (codes "<=") then sign (op Le) else
    (if bytes_eq s (codes ">=") then sign (op Ge) else
    (if bytes_eq s (codes "&&") then sign both else
    (if bytes_eq s (codes "||") then sign either else stray))))))))

abbrev pub symbol_class : List ℕ → Span → Tok
symbol_class [] at = stray
symbol_class (b ∷ []) at = single_class b at
symbol_class (b ∷ c ∷ bs) at = pair_class (b ∷ c ∷ bs)

abbrev pub kind_class : TokenKind → Span → Tok
kind_class (Name bs) at = name (record { name = bs; span = at })
kind_class (Word w) at = word_class w at
kind_class (Number z) at = number z
kind_class (Text bs) at = text bs at
kind_class (Symbol bs) at = symbol_class bs at

abbrev pub class_of : Token → Tok
class_of t = kind_class t.kind t.span

abbrev pub classes : List Token → List Tok
classes [] = []
classes (t ∷ ts) = class_of t ∷ classes ts

-- how tightly an operator between operands binds, the loosest least
abbrev pub op_level : Op2 → ℕ
op_level Eq = 3
op_level Ne = 3
op_level Lt = 3
op_level Le = 3
op_level Gt = 3
op_level Ge = 3
op_level BitOr = 4
op_level BitXor = 5
op_level BitAnd = 6
op_level Shl = 7
op_level Shr = 7
op_level Add = 8
op_level Sub = 8
op_level Mul = 9
op_level Div = 9
op_level Mod = 9

abbrev pub level : Infix → ℕ
level either = 1
level both = 2
level (op o) = op_level o
