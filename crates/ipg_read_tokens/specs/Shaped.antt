-- Grammars in shape: those that a text of the language stands for.
use Rattle.std.specs.Prelude.{◌≡◌, ℕ, ◌+◌, ◌^◌, ◌≤◌, Bool, true, false, ◌&&◌, nat_lt, List, [], ◌∷◌, length, Option, None, Some, ℤ, pos, negsuc}
use Rattle.std.specs.List.{list_all, AllByRecursion}
use Rattle.ipg_ast.specs.declared.grammar.Grammar.{Grammar}
use Rattle.ipg_ast.specs.declared.token.Reserved.{Reserved}
use Rattle.ipg_ast.specs.declared.token.TokenKind.{TokenKind}
use Rattle.ipg_ast.specs.declared.token.TokenKind.TheVariants.{Name, Word, Number, Text, Symbol}
use Rattle.ipg_ast.specs.Spelling.{grammar_tokens}
use Rattle.ipg_ast.specs.Canonical.{kind_text, tokens_text}
use Rattle.ipg_ast.specs.Shape.{IsFormed}
use Rattle.ipg_read_tokens.specs.declared.token.Token.{Token}
use Rattle.ipg_read_tokens.specs.declared.class.Class.TheVariants.{Naming}
use Rattle.ipg_read_tokens.specs.Lexical.{in_class, is_letter, reserved_of, is_single, is_pair}

-- ---- what may be a token

abbrev pub is_name : List ℕ → Bool
is_name [] = false
is_name (b ∷ bs) = is_letter b && list_all (in_class Naming) bs

-- no reserved word is spelled so
abbrev pub is_free : Option Reserved → Bool
is_free None = true
is_free (Some w) = false

abbrev pub is_symbol : List ℕ → Bool
is_symbol [] = false
is_symbol (a ∷ []) = is_single a
is_symbol (a ∷ b ∷ []) = is_pair a b
is_symbol (a ∷ b ∷ c ∷ bs) = false

abbrev pub is_literal : ℤ → Bool
is_literal (pos n) = nat_lt n (2 ^ 63)
is_literal (negsuc n) = false

abbrev pub is_byte : ℕ → Bool
is_byte b = nat_lt b 256

abbrev pub is_token : TokenKind → Bool
is_token (Name bs) = is_name bs && is_free (reserved_of bs)
is_token (Word w) = true
is_token (Number z) = is_literal z
is_token (Text bs) = list_all is_byte bs
is_token (Symbol bs) = is_symbol bs

abbrev pub IsToken : TokenKind → Type 0
IsToken t = is_token t ≡ true

-- ---- the tokens of a canonical text

-- each with its place, one byte apart
abbrev pub placed : ℕ → List TokenKind → List Token
placed at [] = []
placed at (t ∷ ts) = record { kind = t; span = record { from = at; to = at + length (kind_text t) } } ∷ placed (at + length (kind_text t) + 1) ts

abbrev pub canonical_text : Grammar → List ℕ
canonical_text g = tokens_text (grammar_tokens g)

pub record IsShaped (g : Grammar) : Type 0 where
  pub formed : IsFormed g
  pub tokens : AllByRecursion IsToken (grammar_tokens g)
  pub short : length (canonical_text g) ≤ 2 ^ 20
