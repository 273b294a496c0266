-- A text has no more tokens than bytes, and what it reads as no more tokens than it.
use Rattle.std.specs.Prelude.{IfOk, MatchResult}
use Rattle.std.specs.List.{AllByRecursion}
use Rattle.std.proofs.Common.{◌≡◌, ℕ, zero, suc, ◌+◌, ◌-◌, ◌^◌, ◌≤◌, Bool, true, false, List, [], ◌∷◌, length, Result, Ok, Err, refl, ap}
use Rattle.std.proofs.Common.{cond, nat_lt, arith}
use Rattle.std.proofs.lemmas.Bool.Decides.{nat_tests}
use Rattle.ipg_ast.specs.declared.grammar.Grammar.{Grammar}
use Rattle.ipg_ast.specs.declared.grammar.Rule.{out-Rule}
use Rattle.ipg_ast.specs.declared.grammar.Alt.{out-Alt}
use Rattle.ipg_ast.specs.Spelling.{grammar_tokens}
use Rattle.ipg_ast.specs.Shape.{IsFormed, IsFormedRule, IsFormedAlt, IsFormedLocal, IsFormedLocalAlt, IsFlat, IsFlatRule, IsFlatAlt, IsFlatLocal}
use Rattle.ipg_ast.specs.Shape.{IsFlatLocalAlt}
use Rattle.ipg_read_tokens.specs.declared.token.Token.{Token}
use Rattle.ipg_read_tokens.specs.declared.fault.ReadFault.TheVariants.{TooLong, Lex, Number, Syntax, Limit, Memory}
use Rattle.ipg_read_tokens.specs.declared.front.Front.{Front}
use Rattle.ipg_read_tokens.specs.declared.front.Front.TheVariants.{Nothing, Blank, Large, Token as Begins}
use Rattle.ipg_read_tokens.specs.Lexical.{Lexed, token_first, large_first, beginning, front_at, lexed, tokens_of}
use Rattle.ipg_read_syntax.specs.Reading.{ReadsWithin}
use Rattle.ipg_read_canonical_laws.specs.Laws.{kinds, KeepsTokens}

large_none : (at : ℕ) (r : Lexed) (ts : List Token) → large_first at r ≡ Ok ts → ⊥
large_none at (Ok us) ts h = cc
large_none at (Err TooLong) ts h = cc
large_none at (Err (Lex p)) ts h = cc
large_none at (Err (Number p)) ts h = cc
large_none at (Err (Syntax p)) ts h = cc
large_none at (Err (Limit which p)) ts h = cc
large_none at (Err Memory) ts h = cc

token_more : (t : Token) (r : Lexed) (ts : List Token) (n : ℕ) → ((us : List Token) → r ≡ Ok us → length us ≤ n) → token_first t r ≡ Ok ts → length ts ≤ suc n
token_more t (Ok us) ts n f h = let e : t ∷ us ≡ ts = cc in omega (arith, f us refl, ap length e)
token_more t (Err e) ts n f h = absurd (cc)

front_short : (front : Front) (at n : ℕ) (rest : ℕ → Lexed) (ts : List Token) → ((more : ℕ) (us : List Token) → rest more ≡ Ok us → length us ≤ n)
    → beginning front at rest ≡ Ok ts → length ts ≤ suc n
front_short Nothing at n rest ts f h = absurd (cc)
front_short (Blank w) at n rest ts f h = omega (arith, f (w - 1) ts h)
front_short (Large w) at n rest ts f h = absurd (large_none at (rest (w - 1)) ts h)
front_short (Begins kind w) at n rest ts f h = token_more _ (rest (w - 1)) ts n (f (w - 1)) h

lexed_short : (bs : List ℕ) (at skip : ℕ) (ts : List Token) → lexed at skip bs ≡ Ok ts → length ts ≤ length bs
lexed_short [] at skip ts h = let e : [] ≡ ts = cc in omega (arith, ap length e)
lexed_short (b ∷ bs) at (suc skip) ts h = omega (arith, lexed_short bs (at + 1) skip ts h)
lexed_short (b ∷ bs) at zero ts h =
    front_short (front_at b bs) at (length bs) (λ more. lexed (at + 1) more bs) ts (λ more us e. lexed_short bs (at + 1) more us e) h

tokens_short : (text : List ℕ) (ts : List Token) → tokens_of text ≡ Ok ts → length ts ≤ 2 ^ 20
tokens_short text ts h = by (nat_lt (2 ^ 20) (length text)) refl h
  where
    by : (b : Bool) → nat_lt (2 ^ 20) (length text) ≡ b → cond b (Err TooLong) (lexed 0 0 text) ≡ Ok ts → length ts ≤ 2 ^ 20
    by true e k = absurd (cc)
    by false e k = let few : length text ≤ 2 ^ 20 = grind (arith, nat_tests) in omega (arith, few, lexed_short text 0 0 ts k)

every_length : (ts : List Token) → length (kinds ts) ≡ length ts
every_length [] = refl
every_length (t ∷ ts) = ap suc (every_length ts)

pub grammar_short : KeepsTokens → (text : List ℕ) (g : Grammar) → ReadsWithin text g → length (grammar_tokens g) ≤ 2 ^ 20
grammar_short keeps text g r =
    let ts = r.reads.tokens in
    let same = keeps text g ts (record { tree = r.tree; reads = r.reads; is = r.is }) r.reads.falls in
    omega (arith, ap length same, every_length ts, tokens_short text ts r.reads.falls)

-- what holds of each grammar that is read
pub if_ok : {E : Type 0} (r : Result Grammar E) (P Q : Grammar → Type 0) (R : E → Type 0) → MatchResult r P R → ((g : Grammar) → P g → Q g)
    → IfOk r Q
if_ok (Ok g) P Q R h f = f g h
if_ok (Err e) P Q R h f = tt

-- the same in other words
pub by_words : {E : Type 0} (r : Result Grammar E) (P Q : Grammar → Type 0) (R S : E → Type 0) → ((g : Grammar) → P g → Q g) → ((e : E) → R e → S e)
    → MatchResult r P R → MatchResult r Q S
by_words (Ok g) P Q R S good bad h = good g h
by_words (Err e) P Q R S good bad h = bad e h

all_of_all : {A : Type 0} (P Q : A → Type 0) → ((x : A) → P x → Q x) → (xs : List A) → AllByRecursion P xs → AllByRecursion Q xs
all_of_all P Q f [] h = tt
all_of_all P Q f (x ∷ xs) h = (f x h.0, all_of_all P Q f xs h.1)

-- a well formed grammar has one level of local rules
pub formed_flat : (g : Grammar) → IsFormed g → IsFlat g
formed_flat g formed =
    all_of_all IsFormedRule IsFlatRule (λ rule h. all_of_all IsFormedAlt IsFlatAlt (λ alt m. all_of_all IsFormedLocal IsFlatLocal (λ local k.
    all_of_all IsFormedLocalAlt IsFlatLocalAlt (λ b n. n.no_locals) (out-Rule local).alts k.each) (out-Alt alt).locals m.locals) (out-Rule rule).alts
    h.each) g.rules formed.each
