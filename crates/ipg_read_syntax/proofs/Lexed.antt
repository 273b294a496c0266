-- The tokens of a text fail only by what the lexer finds.
use Rattle.std.proofs.Common.{◌≡◌, ℕ, zero, suc, ◌+◌, ◌-◌, ◌^◌, ◌<◌, List, [], ◌∷◌, Bool, true, false, Ok, Err, nat_lt, length, cond, refl, ap, subst}
use Rattle.std.proofs.lemmas.Bool.{ltb-true, lt-ltb}
use Rattle.ipg_read_tokens.specs.Lexical.{Lexed, lexed, beginning, front_at, token_first, large_first, tokens_of}
use Rattle.ipg_read_tokens.specs.declared.token.Token.{Token}
use Rattle.ipg_read_tokens.specs.declared.fault.ReadFault.{ReadFault}
use Rattle.ipg_read_tokens.specs.declared.fault.ReadFault.TheVariants.{TooLong, Lex, Number, Syntax, Limit, Memory}
use Rattle.ipg_read_tokens.specs.declared.front.Front.{Front}
use Rattle.ipg_read_syntax.specs.Laws.{IsOfTokens}
use Rattle.ipg_read_tokens.specs.declared.front.Front.TheVariants.{Nothing, Blank, Large, Token as Begins}

abbrev pub FailsByTokens : Lexed → Type 0
FailsByTokens (Ok ts) = Unit {0}
FailsByTokens (Err f) = IsOfTokens f

-- a fault of a place
abbrev pub IsPlaced : ReadFault → Type 0
IsPlaced (Lex at) = Unit {0}
IsPlaced (Number at) = Unit {0}
IsPlaced f = ⊥

abbrev FailsPlaced : Lexed → Type 0
FailsPlaced (Ok ts) = Unit {0}
FailsPlaced (Err f) = IsPlaced f

after_token : (t : Token) (rest : Lexed) → FailsPlaced rest → FailsPlaced (token_first t rest)
after_token t (Ok ts) fails = tt
after_token t (Err f) fails = fails

after_large : (at : ℕ) (rest : Lexed) → FailsPlaced rest → FailsPlaced (large_first at rest)
after_large at (Ok ts) fails = tt
after_large at (Err (Lex p)) fails = tt
after_large at (Err TooLong) fails = tt
after_large at (Err (Number p)) fails = tt
after_large at (Err (Syntax p)) fails = tt
after_large at (Err (Limit which p)) fails = tt
after_large at (Err Memory) fails = tt

beginning_fails : (f : Front) (at : ℕ) (rest : ℕ → Lexed) → ((more : ℕ) → FailsPlaced (rest more)) → FailsPlaced (beginning f at rest)
beginning_fails Nothing at rest fails = tt
beginning_fails (Blank n) at rest fails = fails (n - 1)
beginning_fails (Large n) at rest fails = after_large at (rest (n - 1)) (fails (n - 1))
beginning_fails (Begins kind n) at rest fails = after_token (record { kind = kind; span = record { from = at; to = at + n } }) (rest (n - 1)) (fails (n - 1))

lexed_fails : (bs : List ℕ) (at skip : ℕ) → FailsPlaced (lexed at skip bs)
lexed_fails [] at skip = tt
lexed_fails (b ∷ bs) at (suc skip) = lexed_fails bs (at + 1) skip
lexed_fails (b ∷ bs) at zero = beginning_fails (front_at b bs) at (λ more. lexed (at + 1) more bs) (λ more. lexed_fails bs (at + 1) more)

placed_of_tokens : (l : Lexed) → FailsPlaced l → FailsByTokens l
placed_of_tokens (Ok ts) fails = tt
placed_of_tokens (Err (Lex p)) fails = tt
placed_of_tokens (Err (Number p)) fails = tt
placed_of_tokens (Err TooLong) fails = tt
placed_of_tokens (Err (Syntax p)) fails = absurd fails
placed_of_tokens (Err (Limit which p)) fails = absurd fails
placed_of_tokens (Err Memory) fails = absurd fails

pub tokens_fail : (text : List ℕ) → FailsByTokens (tokens_of text)
tokens_fail text = go (nat_lt (2 ^ 20) (length text))
  where
    go : (b : Bool) → FailsByTokens (cond b (Err TooLong) (lexed 0 0 text))
    go true = tt
    go false = placed_of_tokens (lexed 0 0 text) (lexed_fails text 0 0)

never_long : (l : Lexed) → FailsPlaced l → l ≡ Err TooLong → ⊥
never_long l fails is = subst FailsPlaced is fails

-- a text is too long by its length alone
pub too_long : (text : List ℕ) → tokens_of text ≡ Err TooLong → 2 ^ 20 < length text
too_long text is = go (nat_lt (2 ^ 20) (length text)) refl is
  where
    go : (b : Bool) → nat_lt (2 ^ 20) (length text) ≡ b → cond b (Err TooLong) (lexed 0 0 text) ≡ Err TooLong → 2 ^ 20 < length text
    go true long is = ltb-true (2 ^ 20) (length text) long
    go false long is = absurd (never_long (lexed 0 0 text) (lexed_fails text 0 0) is)

pub long_is : (text : List ℕ) → 2 ^ 20 < length text → tokens_of text ≡ Err TooLong
long_is text long = ap (λ b. cond b (Err TooLong) (lexed 0 0 text)) (lt-ltb (2 ^ 20) (length text) long)
