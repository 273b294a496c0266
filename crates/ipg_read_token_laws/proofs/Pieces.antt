-- One piece of a text, and then the text after it.
use Rattle.std.proofs.Common.{◌≡◌, ◌≢◌, ℕ, zero, suc, ◌+◌, ◌-◌, ◌<◌, List, [], ◌∷◌, drop, refl, ap, ◌∙◌, sym, arith}
use Rattle.ipg_read_tokens.specs.declared.front.Front.{Front}
use Rattle.ipg_read_tokens.specs.declared.front.Front.TheVariants.{Nothing, Blank, Large, Token as Begins}
use Rattle.ipg_read_tokens.specs.Lexical.{beginning, token_first, large_first, lexed}
use Rattle.ipg_read_token_laws.specs.Forms.{Taken}
use Rattle.ipg_read_token_laws.specs.Falls.{width}
use Rattle.ipg_read_token_laws.proofs.Law.{law, some_token, some_blank}

-- what is taken takes a byte or more
pub some_width : (piece : Front) (bs : List ℕ) → piece ≢ Nothing → Taken piece bs → 0 < width piece
some_width Nothing bs some taken = absurd (some refl)
some_width (Blank n) bs some taken = some_blank n bs taken.0
some_width piece bs some taken = some_token (width piece) bs taken.0

skipped : (at k : ℕ) (bs : List ℕ) → lexed at k bs ≡ lexed (at + k) 0 (drop k bs)
skipped at zero bs = ap (λ a. lexed a 0 bs) (let e : at ≡ at + 0 = omega arith in e)
skipped at (suc k) [] = refl
skipped at (suc k) (b ∷ bs) =
    skipped (at + 1) k bs ∙ ap (λ a. lexed a 0 (drop k bs)) (let e : at + 1 + k ≡ at + suc k = omega arith in e)

past : (at n b : ℕ) (bs : List ℕ) → 0 < n → lexed (at + 1) (n - 1) bs ≡ lexed (at + n) 0 (drop n (b ∷ bs))
past at zero b bs some = absurd (omega (arith, some))
past at (suc k) b bs some =
    ap (λ j. lexed (at + 1) j bs) (let e : suc k - 1 ≡ k = omega arith in e) ∙ skipped (at + 1) k bs
    ∙ ap (λ a. lexed a 0 (drop k bs)) (let e : at + 1 + k ≡ at + suc k = omega arith in e)

begun : (at b : ℕ) (bs : List ℕ) (piece : Front) → 0 < width piece
    → beginning piece at (λ more. lexed (at + 1) more bs)
    ≡ beginning piece at (λ more. lexed (at + width piece) 0 (drop (width piece) (b ∷ bs)))
begun at b bs Nothing some = refl
begun at b bs (Blank n) some = past at n b bs some
begun at b bs (Large n) some = ap (large_first at) (past at n b bs some)
begun at b bs (Begins kind n) some = ap (token_first _) (past at n b bs some)

pub piece_first : (at : ℕ) (piece : Front) (text : List ℕ) → Taken piece text → piece ≢ Nothing
    → lexed at 0 text ≡ beginning piece at (λ more. lexed (at + width piece) 0 (drop (width piece) text))
piece_first at piece [] taken some = absurd (some (sym ((law [] piece).1 taken)))
piece_first at piece (b ∷ bs) taken some =
    ap (λ f. beginning f at (λ more. lexed (at + 1) more bs)) ((law (b ∷ bs) piece).1 taken)
    ∙ begun at b bs piece (some_width piece (b ∷ bs) some taken)
