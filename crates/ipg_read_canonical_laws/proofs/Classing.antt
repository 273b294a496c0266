-- The classes of symbols as lists: the first that a token is found beside is its class.
use Rattle.std.proofs.Common.{ℕ, List, [], ◌∷◌, Bool, cond, codes}
use Rattle.ipg_num.specs.declared.op.Op2.TheVariants.{Add, Sub, Mul, Div, Mod, Shl, Shr, BitAnd, BitOr, BitXor, Eq, Ne, Lt, Le, Gt, Ge}
use Rattle.ipg_ast.specs.declared.grammar.Span.{Span}
use Rattle.ipg_ast.specs.declared.token.TokenKind.{TokenKind}
use Rattle.ipg_read_syntax.specs.Classes.{either, both, op, Tok, sign, bang, question, colon, dot, comma, equals, arrow, semicolon, left_paren}
use Rattle.ipg_read_syntax.specs.Classes.{right_paren, left_bracket, right_bracket, left_brace, right_brace, stray}

-- the token beside the first that passes the test
abbrev pub first_of : {A : Type 0} → (A → Bool) → List (A × Tok) → Tok
first_of test [] = stray
first_of test (p ∷ ps) = cond (test p.0) p.1 (first_of test ps)

abbrev pub singles : Span → List (ℕ × Tok)
singles at =
    (37, sign (op Mod)) ∷ (38, sign (op BitAnd)) ∷ (40, left_paren) ∷ (41, right_paren) ∷ (42, sign (op Mul)) ∷ (43, sign (op Add)) ∷
    (44, comma) ∷ (45, sign (op Sub)) ∷ (46, dot) ∷ (47, sign (op Div)) ∷ (58, colon) ∷ (59, semicolon) ∷
    (60, sign (op Lt)) ∷ (61, equals) ∷ (62, sign (op Gt)) ∷ (63, question at) ∷ (33, bang) ∷ (91, left_bracket) ∷
    (93, right_bracket) ∷ (94, sign (op BitXor)) ∷ (123, left_brace) ∷ (124, sign (op BitOr)) ∷ (125, right_brace) ∷ []

abbrev pub pairs : List (List ℕ × Tok)
pairs =
    (codes "->", arrow) ∷ (codes "<<", sign (op Shl)) ∷ (codes ">>", sign (op Shr)) ∷ (codes "==", sign (op Eq)) ∷ (codes "!=", sign (op Ne)) ∷
    (codes "<=", sign (op Le)) ∷ (codes ">=", sign (op Ge)) ∷ (codes "&&", sign both) ∷ (codes "||", sign either) ∷ []

abbrev pub first_or : List TokenKind → TokenKind → TokenKind
first_or [] k = k
first_or (x ∷ xs) k = x

abbrev pub others : List TokenKind → List TokenKind
others [] = []
others (x ∷ xs) = xs
