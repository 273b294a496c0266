-- The tokens from a place on, by what begins there.
use Rattle.std.proofs.Common.{◌≡◌, ℕ, zero, suc, ◌+◌, ◌-◌, ◌≤◌, ◌<◌, List, [], ◌∷◌, ◌++◌, Option, Some}
use Rattle.std.proofs.Common.{None, Ok, Err, drop, length, arith, refl, ap, ◌∙◌, sym, cond, ◌^◌}
use Rattle.std.proofs.lemmas.Bool.{le-ltb}
use Rattle.std.proofs.lemmas.List.{append_assoc, drop-drop}
use Rattle.std.proofs.lemmas.Option.{none-some}
use Rattle.ipg_ast.specs.declared.token.TokenKind.{TokenKind}
use Rattle.ipg_read_tokens.specs.declared.token.Token.{Token}
use Rattle.ipg_read_tokens.specs.declared.fault.ReadFault.TheVariants.{TooLong, Lex, Number, Syntax, Limit, Memory}
use Rattle.ipg_read_tokens.specs.declared.front.Front.{Front}
use Rattle.ipg_read_tokens.specs.declared.front.Front.TheVariants.{Nothing, Blank, Large, Token as Begins}
use Rattle.ipg_read_tokens.specs.Lexical.{Lexed, lexed, front_of, beginning, token_first, large_first, tokens_of}
use Rattle.ipg_read_tokens.specs.Scanning.{after_tokens}
use Rattle.ipg_read_tokens.specs.Within.{width_of}
use Rattle.ipg_read_tokens.proofs.Values.{next_item}

skip_lexed : (at skip : ℕ) (bs : List ℕ) → lexed at skip bs ≡ lexed (at + skip) 0 (drop skip bs)
skip_lexed at zero bs = ap (λ a. lexed a 0 bs) (let e : at ≡ at + 0 = omega arith in e)
skip_lexed at (suc k) [] = refl
skip_lexed at (suc k) (b ∷ bs) = skip_lexed (at + 1) k bs ∙ ap (λ a. lexed a 0 (drop k bs)) (let e : at + 1 + k ≡ at + suc k = omega arith in e)

-- past a front of n bytes
pub rest_of : (text : List ℕ) (at n : ℕ) → 1 ≤ n → lexed (at + 1) (n - 1) (drop (at + 1) text) ≡ lexed (at + n) 0 (drop (at + n) text)
rest_of text at n some =
    let count : at + 1 + (n - 1) ≡ at + n = omega arith in
    skip_lexed (at + 1) (n - 1) (drop (at + 1) text)
    ∙ ap (λ xs. lexed (at + 1 + (n - 1)) 0 xs) (drop-drop (n - 1) (at + 1) text)
    ∙ ap (λ k. lexed k 0 (drop k text)) count

pub lexed_front : (text : List ℕ) (at : ℕ) (f : Front) → at < length text → front_of (drop at text) ≡ f
    → lexed at 0 (drop at text) ≡ beginning f at (λ more. lexed (at + 1) more (drop (at + 1) text))
lexed_front text at f within is =
    let here = next_item text at 0 within in
    ap (lexed at 0) here ∙ ap (λ g. beginning g at (λ more. lexed (at + 1) more (drop (at + 1) text))) (ap front_of (sym here) ∙ is)

pub lexed_blank : (text : List ℕ) (at n : ℕ) → at < length text → 1 ≤ n → front_of (drop at text) ≡ Blank n
    → lexed at 0 (drop at text) ≡ lexed (at + n) 0 (drop (at + n) text)
lexed_blank text at n within some is = lexed_front text at (Blank n) within is ∙ rest_of text at n some

pub lexed_large : (text : List ℕ) (at n : ℕ) → at < length text → 1 ≤ n → front_of (drop at text) ≡ Large n
    → lexed at 0 (drop at text) ≡ large_first at (lexed (at + n) 0 (drop (at + n) text))
lexed_large text at n within some is = lexed_front text at (Large n) within is ∙ ap (large_first at) (rest_of text at n some)

pub lexed_token : (text : List ℕ) (at n : ℕ) (kind : TokenKind) → at < length text → 1 ≤ n → front_of (drop at text) ≡ Begins kind n
    → lexed at 0 (drop at text) ≡ token_first (record { kind = kind; span = record { from = at; to = at + n } }) (lexed (at + n) 0 (drop (at + n) text))
lexed_token text at n kind within some is =
    lexed_front text at (Begins kind n) within is ∙ ap (token_first (record { kind = kind; span = record { from = at; to = at + n } })) (rest_of text at n some)

pub after_none : (o : Lexed) → o ≡ after_tokens [] o
after_none (Ok ts) = refl
after_none (Err f) = refl

pub after_one : (found : List Token) (t : Token) (o : Lexed) → after_tokens found (token_first t o) ≡ after_tokens (found ++ (t ∷ [])) o
after_one found t (Ok ts) = ap Ok (sym (append_assoc found (t ∷ []) ts))
after_one found t (Err f) = refl

pub large_token : (p : ℕ) (t : Token) (o : Lexed) → large_first p (token_first t o) ≡ large_first p o
large_token p t (Ok ts) = refl
large_token p t (Err f) = refl

pub large_large : (p q : ℕ) (o : Lexed) → large_first p (large_first q o) ≡ large_first p o
large_large p q (Ok ts) = refl
large_large p q (Err TooLong) = refl
large_large p q (Err (Lex at)) = refl
large_large p q (Err (Number at)) = refl
large_large p q (Err (Syntax at)) = refl
large_large p q (Err (Limit which at)) = refl
large_large p q (Err Memory) = refl

pub after_large : (found : List Token) (p : ℕ) (o : Lexed) → after_tokens found (large_first p o) ≡ large_first p o
after_large found p (Ok ts) = refl
after_large found p (Err TooLong) = refl
after_large found p (Err (Lex at)) = refl
after_large found p (Err (Number at)) = refl
after_large found p (Err (Syntax at)) = refl
after_large found p (Err (Limit which at)) = refl
after_large found p (Err Memory) = refl

value_or : Option ℕ → ℕ
value_or (Some n) = n
value_or None = 0

same_width : (k n : ℕ) → Some k ≡ Some n → k ≡ n
unfolding value_or
same_width k n e = ap value_or e

-- after a number too large only a place where nothing begins matters
pub lexed_width : (text : List ℕ) (p at n : ℕ) (f : Front) → at < length text → 1 ≤ n → front_of (drop at text) ≡ f → width_of f ≡ Some n
    → large_first p (lexed at 0 (drop at text)) ≡ large_first p (lexed (at + n) 0 (drop (at + n) text))
lexed_width text p at n Nothing within some is width = absurd (none-some _ width)
lexed_width text p at n (Blank k) within some is width =
    ap (large_first p) (lexed_blank text at n within some (is ∙ ap Blank (same_width _ _ width)))
lexed_width text p at n (Large k) within some is width =
    ap (large_first p) (lexed_large text at n within some (is ∙ ap Large (same_width _ _ width)))
    ∙ large_large p at (lexed (at + n) 0 (drop (at + n) text))
lexed_width text p at n (Begins kind k) within some is width =
    ap (large_first p) (lexed_token text at n kind within some (is ∙ ap (Begins kind) (same_width _ _ width)))
    ∙ large_token p (record { kind = kind; span = record { from = at; to = at + n } }) (lexed (at + n) 0 (drop (at + n) text))

no_width : (f : Front) → width_of f ≡ None → f ≡ Nothing
no_width Nothing width = refl
no_width (Blank k) width = absurd (none-some _ (sym width))
no_width (Large k) width = absurd (none-some _ (sym width))
no_width (Begins kind k) width = absurd (none-some _ (sym width))

pub lexed_nothing : (text : List ℕ) (at : ℕ) → at < length text → width_of (front_of (drop at text)) ≡ None → lexed at 0 (drop at text) ≡ Err (Lex at)
lexed_nothing text at within width = lexed_front text at Nothing within (no_width (front_of (drop at text)) width)

pub tokens_short : (text : List ℕ) → length text ≤ 2 ^ 20 → tokens_of text ≡ lexed 0 0 text
tokens_short text short = ap (λ b. cond b (Err TooLong) (lexed 0 0 text)) (le-ltb (2 ^ 20) (length text) short)
