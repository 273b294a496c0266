-- The canonical text of tokens: numbers in decimal, one space after each token, but a line feed after each `;`.
use Rattle.std.specs.Prelude.{ℕ, ◌+◌, ◌/◌, ◌%◌, Bool, false, ◌&&◌, List, [], ◌∷◌, ◌++◌, codes, nat_lt, nat_le, ◌==◌, if◌then◌else◌}
use Rattle.std.specs.Fmt.{signed_decimal}
use Rattle.ipg_ast.specs.declared.token.Reserved.{Reserved}
use Rattle.ipg_ast.specs.declared.token.Reserved.TheVariants as reserved
use Rattle.ipg_ast.specs.declared.token.TokenKind.{TokenKind}
use Rattle.ipg_ast.specs.declared.token.TokenKind.TheVariants.{Name, Word, Number, Text, Symbol}

-- the digit of a value below 16
abbrev pub hex_digit : ℕ → ℕ
hex_digit d = if nat_lt d 10 then 48 + d else 87 + d

abbrev pub is_plain : ℕ → Bool
is_plain b = nat_le 32 b && nat_le b 126

-- a byte of a string: `\"`, `\\`, a plain byte as it is, and `\xhh` for all else
abbrev pub byte_text : ℕ → List ℕ
byte_text b =
    if b == 34 then 92 ∷ 34 ∷ [] else
    (if b == 92 then 92 ∷ 92 ∷ [] else
    (if is_plain b then b ∷ [] else 92 ∷ 120 ∷ hex_digit (b / 16) ∷ hex_digit (b % 16) ∷ []))

abbrev pub bytes_text : List ℕ → List ℕ
bytes_text [] = []
bytes_text (b ∷ bs) = byte_text b ++ bytes_text bs

abbrev pub spelling : Reserved → List ℕ
spelling reserved.For = codes "for"
spelling reserved.To = codes "to"
spelling reserved.Do = codes "do"
spelling reserved.Switch = codes "switch"
spelling reserved.Case = codes "case"
spelling reserved.Else = codes "else"
spelling reserved.Where = codes "where"
spelling reserved.Start = codes "start"
spelling reserved.End = codes "end"
spelling reserved.Eoi = codes "EOI"
spelling reserved.Tok = codes "tok"
spelling reserved.Many = codes "many"

abbrev pub kind_text : TokenKind → List ℕ
kind_text (Name bs) = bs
kind_text (Word w) = spelling w
kind_text (Number z) = signed_decimal z
kind_text (Text bs) = 34 ∷ (bytes_text bs ++ (34 ∷ []))
kind_text (Symbol bs) = bs

abbrev pub is_semicolon : List ℕ → Bool
is_semicolon [] = false
is_semicolon (b ∷ []) = b == 59
is_semicolon (b ∷ c ∷ bs) = false

abbrev pub gap : TokenKind → ℕ
gap (Name bs) = 32
gap (Word w) = 32
gap (Number z) = 32
gap (Text bs) = 32
gap (Symbol bs) = if is_semicolon bs then 10 else 32

abbrev pub tokens_text : List TokenKind → List ℕ
tokens_text [] = []
tokens_text (t ∷ ts) = kind_text t ++ (gap t ∷ tokens_text ts)
