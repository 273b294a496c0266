-- The tokens of a canonical text, token after token.
use Rattle.std.proofs.Common.{◌≡◌, ℕ, ◌+◌, ◌^◌, Bool, true, false, List, [], ◌∷◌, ◌++◌, Ok, Err, length, cond, refl, ap, ◌∙◌, sym, arith, true≢false}
use Rattle.std.proofs.Common.{le-ltb, drop_at}
use Rattle.std.specs.List.{AllByRecursion}
use Rattle.std.proofs.lemmas.Bool.Decides.{nat_tests}
use Rattle.ipg_ast.specs.declared.token.TokenKind.{TokenKind}
use Rattle.ipg_ast.specs.Canonical.{kind_text, gap, tokens_text}
use Rattle.ipg_read_tokens.specs.declared.fault.ReadFault.TheVariants.{TooLong}
use Rattle.ipg_read_tokens.specs.declared.front.Front.{Front}
use Rattle.ipg_read_tokens.specs.declared.front.Front.TheVariants.{Nothing, Blank, Large, Token as Begins}
use Rattle.ipg_read_tokens.specs.declared.class.Class.TheVariants.{White}
use Rattle.ipg_read_tokens.specs.Lexical.{run, is_white, front_of, beginning, token_first, lexed}
use Rattle.ipg_read_tokens.specs.Shaped.{IsToken, placed}
use Rattle.ipg_read_token_laws.specs.Back.{GivesTokensBack}
use Rattle.ipg_read_token_laws.proofs.Bytes.{white_front}
use Rattle.ipg_read_token_laws.proofs.Law.{law}
use Rattle.ipg_read_token_laws.proofs.Pieces.{piece_first}
use Rattle.ipg_read_token_laws.proofs.Spelled.{IsGap, gap_is, token_begins}

abbrev is_blank : Front → Bool
is_blank Nothing = false
is_blank (Blank n) = true
is_blank (Large n) = false
is_blank (Begins kind n) = false

-- where a token begins no white space does
no_white : (bs : List ℕ) (t : TokenKind) (n : ℕ) → front_of bs ≡ Begins t n → run White bs ≡ 0
no_white [] t n is = refl
no_white (b ∷ bs) t n is =
    (elim (is_white b) as (λ c. is_white b ≡ c → cond c (run White bs + 1) 0 ≡ 0)
    [ true ↦ λ white. absurd (true≢false (ap is_blank (sym (white_front b bs white) ∙ is))) | false ↦ λ dark. refl ]) refl

gap_white : (g : ℕ) → IsGap g → is_white g ≡ true
gap_white g gap = grind (arith, nat_tests)

one_token : (at : ℕ) (t : TokenKind) (xs : List ℕ) (g : ℕ) (rest : List ℕ) → front_of (xs ++ g ∷ rest) ≡ Begins t (length xs)
    → lexed at 0 (xs ++ g ∷ rest) ≡ token_first (record { kind = t; span = record { from = at; to = at + length xs } }) (lexed (at + length xs) 0 (g ∷ rest))
one_token at t xs g rest is =
    piece_first at (Begins t (length xs)) (xs ++ g ∷ rest) ((law (xs ++ g ∷ rest) (Begins t (length xs))).0 is) (λ e. cc)
    ∙ ap (token_first _) (ap (lexed (at + length xs) 0) (drop_at xs (g ∷ rest) (length xs) refl))

one_gap : (at g : ℕ) (rest : List ℕ) → IsGap g → run White rest ≡ 0 → lexed at 0 (g ∷ rest) ≡ lexed (at + 1) 0 rest
one_gap at g rest gap none =
    let width : run White (g ∷ rest) ≡ 1 = ap (λ c. cond c (run White rest + 1) 0) (gap_white g gap) ∙ ap (λ n. n + 1) none in
    ap (λ f. beginning f at (λ more. lexed (at + 1) more rest)) (white_front g rest (gap_white g gap) ∙ ap Blank width)

begins_dark : (ts : List TokenKind) → AllByRecursion IsToken ts → run White (tokens_text ts) ≡ 0
begins_dark [] all = refl
begins_dark (t ∷ ts) all = no_white (kind_text t ++ gap t ∷ tokens_text ts) t (length (kind_text t)) (token_begins t (tokens_text ts) all.0)

back_from : (at : ℕ) (ts : List TokenKind) → AllByRecursion IsToken ts → lexed at 0 (tokens_text ts) ≡ Ok (placed at ts)
back_from at [] all = refl
back_from at (t ∷ ts) all =
    let width = length (kind_text t) in
    one_token at t (kind_text t) (gap t) (tokens_text ts) (token_begins t (tokens_text ts) all.0)
    ∙ ap (token_first (record { kind = t; span = record { from = at; to = at + width } }))
    (one_gap (at + width) (gap t) (tokens_text ts) (gap_is t) (begins_dark ts all.1) ∙ back_from (at + width + 1) ts all.1)

pub back : GivesTokensBack
back ts all short = ap (λ c. cond c (Err TooLong) (lexed 0 0 (tokens_text ts))) (le-ltb (2 ^ 20) (length (tokens_text ts)) short) ∙ back_from 0 ts all
