-- Where the token of a number begins.
use Rattle.std.proofs.Common.{◌≡◌, ℕ, zero, suc, ◌<◌, ◌≤◌, List, [], ◌∷◌, length, slice_index_or, refl, arith}
use Rattle.ipg_read_syntax.specs.Reading.{place_of}
use Rattle.ipg_read_tokens.specs.declared.token.Token.{Token}

pub place_here : (text : List ℕ) (ts : List Token) (n : ℕ) (d : Token) → n < length ts → (slice_index_or ts n d).span.from ≡ place_of text ts n
place_here text [] n d within = absurd (omega arith)
place_here text (u ∷ ts) zero d within = refl
place_here text (u ∷ ts) (suc n) d within = place_here text ts n d (omega arith)

pub place_past : (text : List ℕ) (ts : List Token) (n : ℕ) → length ts ≤ n → length text ≡ place_of text ts n
place_past text [] n past = refl
place_past text (u ∷ ts) zero past = absurd (omega arith)
place_past text (u ∷ ts) (suc n) past = place_past text ts n (omega arith)
