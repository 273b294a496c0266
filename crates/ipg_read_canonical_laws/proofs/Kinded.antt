-- Tokens of the same kinds are of the same classes, but for their places.
use Rattle.std.proofs.Common.{◌≡◌, List, [], ◌∷◌, Bool, true, false, cond, map, refl, ap, ap₂, ◌∙◌, sym, subst, ◌==◌}
use Rattle.ipg_num.specs.declared.op.Op2.TheVariants.{Add, Sub, Mul, Div, Mod, Shl, Shr, BitAnd, BitOr, BitXor, Eq, Ne, Lt, Le, Gt, Ge}
use Rattle.ipg_ast.specs.declared.grammar.Span.{Span}
use Rattle.ipg_ast.specs.declared.token.Reserved.{Reserved}
use Rattle.ipg_ast.specs.declared.token.Reserved.TheVariants as reserved
use Rattle.ipg_ast.specs.declared.token.TokenKind.{TokenKind}
use Rattle.ipg_ast.specs.declared.token.TokenKind.TheVariants.{Name, Word, Number, Text, Symbol}
use Rattle.ipg_read_tokens.specs.declared.token.Token.{Token}
use Rattle.ipg_read_syntax.specs.Classes.{either, both, op, Tok, name, number, text, sign, bang, question, colon, dot, comma, equals, arrow, semicolon}
use Rattle.ipg_read_syntax.specs.Classes.{left_paren, right_paren, left_bracket, right_bracket, left_brace, right_brace, for_word, to_word, do_word}
use Rattle.ipg_read_syntax.specs.Classes.{switch_word, case_word, else_word, where_word, start_word, end_word, eoi_word, many_word}
use Rattle.ipg_read_syntax.specs.Classes.{stray, word_class, kind_class}
use Rattle.ipg_read_syntax.specs.Classes.{classes}
use Rattle.ipg_read_syntax.specs.Written.{Toks}
use Rattle.ipg_read_syntax.specs.Bare.{no_span, bare_tok, bare_toks}
use Rattle.ipg_read_canonical_laws.specs.Laws.{kinds}
use Rattle.ipg_read_canonical_laws.proofs.Spelt.{kind_of, kinds_of}
use Rattle.ipg_read_canonical_laws.proofs.Classing.{first_or, others, first_of, singles}

-- of the first that passes the test, the place doesn't matter
bare_first : {A : Type 0} (test : A → Bool) (ps : List (A × Tok)) → bare_tok (first_of test ps) ≡ first_of test (map (λ p. (p.0, bare_tok p.1)) ps)
bare_first test [] = refl
bare_first test (p ∷ ps) = go (test p.0) (bare_first test ps)
  where
    go : (b : Bool) → bare_tok (first_of test ps) ≡ first_of test (map (λ q. (q.0, bare_tok q.1)) ps)
        → bare_tok (cond b p.1 (first_of test ps)) ≡ cond b (bare_tok p.1) (first_of test (map (λ q. (q.0, bare_tok q.1)) ps))
    go true rest = refl
    go false rest = rest

word_bare : (w : Reserved) (at : Span) → bare_tok (word_class w at) ≡ bare_tok (word_class w no_span)
word_bare reserved.For at = refl
word_bare reserved.To at = refl
word_bare reserved.Do at = refl
word_bare reserved.Switch at = refl
word_bare reserved.Case at = refl
word_bare reserved.Else at = refl
word_bare reserved.Where at = refl
word_bare reserved.Start at = refl
word_bare reserved.End at = refl
word_bare reserved.Eoi at = refl
word_bare reserved.Tok at = refl
word_bare reserved.Many at = refl

-- a class but for the place
kind_bare : (k : TokenKind) (at : Span) → bare_tok (kind_class k at) ≡ bare_tok (kind_class k no_span)
kind_bare (Name bs) at = refl
kind_bare (Word w) at = word_bare w at
kind_bare (Number z) at = refl
kind_bare (Text bs) at = refl
kind_bare (Symbol []) at = refl
kind_bare (Symbol (b ∷ [])) at = bare_first (λ c. b == c) (singles at) ∙ sym (bare_first (λ c. b == c) (singles no_span))
kind_bare (Symbol (b ∷ c ∷ bs)) at = refl

-- the class of a class's kind
class_bare : (t : Tok) → bare_tok (kind_class (kind_of t) no_span) ≡ bare_tok t
class_bare (name i) = refl
class_bare (number z) = refl
class_bare (text bs at) = refl
class_bare (sign either) = refl
class_bare (sign both) = refl
class_bare (sign (op Add)) = refl
class_bare (sign (op Sub)) = refl
class_bare (sign (op Mul)) = refl
class_bare (sign (op Div)) = refl
class_bare (sign (op Mod)) = refl
class_bare (sign (op Shl)) = refl
class_bare (sign (op Shr)) = refl
class_bare (sign (op BitAnd)) = refl
class_bare (sign (op BitOr)) = refl
class_bare (sign (op BitXor)) = refl
class_bare (sign (op Eq)) = refl
class_bare (sign (op Ne)) = refl
class_bare (sign (op Lt)) = refl
class_bare (sign (op Le)) = refl
class_bare (sign (op Gt)) = refl
class_bare (sign (op Ge)) = refl
class_bare bang = refl
class_bare (question at) = refl
class_bare colon = refl
class_bare dot = refl
class_bare comma = refl
class_bare equals = refl
class_bare arrow = refl
class_bare semicolon = refl
class_bare left_paren = refl
class_bare right_paren = refl
class_bare left_bracket = refl
class_bare right_bracket = refl
class_bare left_brace = refl
class_bare right_brace = refl
class_bare for_word = refl
class_bare to_word = refl
class_bare do_word = refl
class_bare (switch_word at) = refl
class_bare case_word = refl
class_bare else_word = refl
class_bare where_word = refl
class_bare start_word = refl
class_bare end_word = refl
class_bare eoi_word = refl
class_bare (many_word at) = refl
class_bare stray = refl

abbrev is_none : List TokenKind → Type 0
is_none [] = Unit {0}
is_none (x ∷ xs) = ⊥

pub same_kinds : (ts : List Token) (us : Toks) → kinds ts ≡ kinds_of us → bare_toks (classes ts) ≡ bare_toks us
same_kinds [] [] same = refl
same_kinds [] (u ∷ us) same = absurd (subst is_none same tt)
same_kinds (t ∷ ts) [] same = absurd (subst is_none (sym same) tt)
same_kinds (t ∷ ts) (u ∷ us) same =
    let first : t.kind ≡ kind_of u = ap (λ ks. first_or ks t.kind) same in
    ap₂ (λ x xs. x ∷ xs) (kind_bare t.kind t.span ∙ ap (λ k. bare_tok (kind_class k no_span)) first ∙ class_bare u) (same_kinds ts us (ap others same))
