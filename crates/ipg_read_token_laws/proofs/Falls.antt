-- A whole text, piece after piece.
use Rattle.std.proofs.Common.{◌≡◌, ◌≢◌, ℕ, zero, suc, ◌+◌, ◌≤◌, ◌<◌, ◌^◌, List, [], ◌∷◌, ◌++◌, Ok, Err, drop, length, cond, refl, ap, ◌∙◌, sym, subst}
use Rattle.std.proofs.Common.{arith, inl, inr, ◌⊎◌, le-ltb}
use Rattle.std.proofs.lemmas.Bool.{cases_lt, lt-ltb}
use Rattle.ipg_read_tokens.specs.declared.token.Token.{Token}
use Rattle.ipg_read_tokens.specs.declared.fault.ReadFault.TheVariants.{TooLong, Lex, Number}
use Rattle.ipg_read_tokens.specs.declared.front.Front.{Front}
use Rattle.ipg_read_tokens.specs.declared.front.Front.TheVariants.{Nothing, Blank, Large, Token as Begins}
use Rattle.ipg_read_tokens.specs.Lexical.{Lexed, front_of, beginning, token_first, large_first, lexed, tokens_of}
use Rattle.ipg_read_token_laws.specs.Forms.{Taken}
use Rattle.ipg_read_token_laws.specs.Falls.{width, widths, Falls, tokens_in, NoneLarge, Stops, HasLarge, FallsSo, FallsExactly}
use Rattle.ipg_read_token_laws.proofs.Law.{law}
use Rattle.ipg_read_token_laws.proofs.Pieces.{some_width, piece_first}

-- ---- the answer for pieces

all_tokens : (at : ℕ) (pieces : List Front) (text : List ℕ) → Falls pieces text [] → NoneLarge pieces
    → lexed at 0 text ≡ Ok (tokens_in at pieces)
all_tokens at [] text is small = ap (lexed at 0) is
all_tokens at (Nothing ∷ pieces) text (taken, some, falls) small = absurd (some refl)
all_tokens at (Blank n ∷ pieces) text (taken, some, falls) small =
    piece_first at (Blank n) text taken some ∙ all_tokens (at + n) pieces (drop n text) falls small
all_tokens at (Large n ∷ pieces) text falls small = absurd small
all_tokens at (Begins kind n ∷ pieces) text (taken, some, falls) small =
    piece_first at (Begins kind n) text taken some
    ∙ ap (token_first _) (all_tokens (at + n) pieces (drop n text) falls small)

later : (at n m : ℕ) → at + n + m ≡ at + (n + m)
later at n m = omega arith

lexical_fault : (at p : ℕ) (piece : Front) → piece ≢ Nothing → beginning piece at (λ more. Err (Lex p)) ≡ Err (Lex p)
lexical_fault at p Nothing some = absurd (some refl)
lexical_fault at p piece some = refl

stopped : (at : ℕ) (pieces : List Front) (text : List ℕ) (b : ℕ) (bs : List ℕ) → Falls pieces text (b ∷ bs)
    → Taken Nothing (b ∷ bs) → lexed at 0 text ≡ Err (Lex (at + widths pieces))
stopped at [] text b bs is nothing =
    ap (lexed at 0) is
    ∙ ap (λ f. beginning f at (λ more. lexed (at + 1) more bs)) ((law (b ∷ bs) Nothing).1 nothing)
    ∙ ap (λ p. Err (Lex p)) (let e : at ≡ at + 0 = omega arith in e)
stopped at (piece ∷ pieces) text b bs (taken, some, falls) nothing =
    piece_first at piece text taken some
    ∙ ap (λ l. beginning piece at (λ more. l))
    (stopped (at + width piece) pieces (drop (width piece) text) b bs falls nothing)
    ∙ lexical_fault at (at + width piece + widths pieces) piece some
    ∙ ap (λ p. Err (Lex p)) (later at (width piece) (widths pieces))

-- a number too large is told, whatever whole text follows
token_no_matter : (at : ℕ) (t : Token) (rest : Lexed) → large_first at (token_first t rest) ≡ large_first at rest
token_no_matter at t (Ok ts) = refl
token_no_matter at t (Err f) = refl

large_whole : (a at : ℕ) (pieces : List Front) (text : List ℕ) → Falls pieces text []
    → large_first a (lexed at 0 text) ≡ Err (Number a)
large_whole a at [] text is = ap (λ xs. large_first a (lexed at 0 xs)) is
large_whole a at (Nothing ∷ pieces) text (taken, some, falls) = absurd (some refl)
large_whole a at (Blank n ∷ pieces) text (taken, some, falls) =
    ap (large_first a) (piece_first at (Blank n) text taken some) ∙ large_whole a (at + n) pieces (drop n text) falls
large_whole a at (Large n ∷ pieces) text (taken, some, falls) =
    ap (large_first a) (piece_first at (Large n) text taken some ∙ large_whole at (at + n) pieces (drop n text) falls)
large_whole a at (Begins kind n ∷ pieces) text (taken, some, falls) =
    ap (large_first a) (piece_first at (Begins kind n) text taken some)
    ∙ token_no_matter a _ (lexed (at + n) 0 (drop n text))
    ∙ large_whole a (at + n) pieces (drop n text) falls

large_told : (at : ℕ) (before : List Front) (n : ℕ) (after : List Front) (text : List ℕ)
    → Falls (before ++ (Large n ∷ after)) text [] → NoneLarge before → lexed at 0 text ≡ Err (Number (at + widths before))
large_told at [] n after text (taken, some, falls) small =
    piece_first at (Large n) text taken some ∙ large_whole at (at + n) after (drop n text) falls
    ∙ ap (λ p. Err (Number p)) (let e : at ≡ at + 0 = omega arith in e)
large_told at (Nothing ∷ before) n after text (taken, some, falls) small = absurd (some refl)
large_told at (Blank m ∷ before) n after text (taken, some, falls) small =
    piece_first at (Blank m) text taken some ∙ large_told (at + m) before n after (drop m text) falls small
    ∙ ap (λ p. Err (Number p)) (later at m (widths before))
large_told at (Large m ∷ before) n after text falls small = absurd small
large_told at (Begins kind m ∷ before) n after text (taken, some, falls) small =
    piece_first at (Begins kind m) text taken some
    ∙ ap (token_first _) (large_told (at + m) before n after (drop m text) falls small)
    ∙ ap (λ p. Err (Number p)) (later at m (widths before))

short : (text : List ℕ) → length text ≤ 2 ^ 20 → tokens_of text ≡ lexed 0 0 text
short text few = ap (λ c. cond c (Err TooLong) (lexed 0 0 text)) (le-ltb (2 ^ 20) (length text) few)

answered : (text : List ℕ) (answer : Lexed) → FallsSo text answer → tokens_of text ≡ answer
answered text (Ok ts) (few, into) =
    short text few ∙ all_tokens 0 into.pieces text into.whole into.small ∙ ap Ok (sym into.tokens)
answered text (Err TooLong) long = ap (λ c. cond c (Err TooLong) (lexed 0 0 text)) (lt-ltb (2 ^ 20) (length text) long)
answered text (Err (Lex at)) (few, stops) =
    short text few ∙ stopped 0 stops.before text stops.byte stops.after stops.falls stops.nothing
    ∙ ap (λ p. Err (Lex p)) (omega (arith, stops.place))
answered text (Err (Number at)) (few, large) =
    short text few ∙ large_told 0 large.before large.n large.after text large.whole large.first
    ∙ ap (λ p. Err (Number p)) (omega (arith, large.place))
answered text (Err other) none = absurd none

-- ---- some answer holds

-- nothing is taken at the front, if bytes are left
abbrev Ends : List ℕ → Type 0
Ends [] = Unit {0}
Ends (b ∷ bs) = Taken Nothing (b ∷ bs)

-- the text falls into pieces as far as it goes
abbrev IsCut : List ℕ → Type 0
IsCut text = (pieces : List Front) × (rest : List ℕ) × Falls pieces text rest × Ends rest

cut_after : (n b : ℕ) (bs : List ℕ) → 0 < n → ((k : ℕ) → IsCut (drop k bs)) → IsCut (drop n (b ∷ bs))
cut_after zero b bs some more = absurd (omega (arith, some))
cut_after (suc k) b bs some more = more k

one_more : (piece : Front) (b : ℕ) (bs : List ℕ) → piece ≢ Nothing → Taken piece (b ∷ bs)
    → ((k : ℕ) → IsCut (drop k bs)) → IsCut (b ∷ bs)
one_more piece b bs some taken more =
    let (pieces, rest, falls, ends) = cut_after (width piece) b bs (some_width piece (b ∷ bs) some taken) more in
    (piece ∷ pieces, rest, (taken, some, falls), ends)

from_front : (piece : Front) (b : ℕ) (bs : List ℕ) → Taken piece (b ∷ bs) → ((k : ℕ) → IsCut (drop k bs))
    → IsCut (b ∷ bs)
from_front Nothing b bs taken more = ([], b ∷ bs, refl, taken)
from_front piece b bs taken more = one_more piece b bs (λ e. cc) taken more

cut : (k : ℕ) (text : List ℕ) → IsCut (drop k text)
cut zero [] = ([], [], refl, tt)
cut (suc k) [] = ([], [], refl, tt)
cut (suc k) (b ∷ bs) = cut k bs
cut zero (b ∷ bs) = from_front (front_of (b ∷ bs)) b bs ((law (b ∷ bs) (front_of (b ∷ bs))).0 refl) (λ k. cut k bs)

-- the first number too large among the pieces
abbrev FirstLarge : List Front → Type 0
FirstLarge pieces =
    (before : List Front) × (n : ℕ) × (after : List Front) × (pieces ≡ before ++ (Large n ∷ after)) × NoneLarge before

piece_before : (piece : Front) (pieces : List Front) → ((ps : List Front) → NoneLarge ps → NoneLarge (piece ∷ ps))
    → NoneLarge pieces ⊎ FirstLarge pieces → NoneLarge (piece ∷ pieces) ⊎ FirstLarge (piece ∷ pieces)
piece_before piece pieces small (inl none) = inl (small pieces none)
piece_before piece pieces small (inr (before, n, after, is, none)) =
    inr (piece ∷ before, n, after, ap (λ ps. piece ∷ ps) is, small before none)

first_large : (pieces : List Front) → NoneLarge pieces ⊎ FirstLarge pieces
first_large [] = inl tt
first_large (Large n ∷ pieces) = inr ([], n, pieces, refl, tt)
first_large (piece ∷ pieces) = piece_before piece pieces (λ ps none. none) (first_large pieces)

abbrev SomeAnswer : List ℕ → Type 0
SomeAnswer text = (answer : Lexed) × FallsSo text answer

whole_answer : (text : List ℕ) (pieces : List Front) → length text ≤ 2 ^ 20 → Falls pieces text []
    → NoneLarge pieces ⊎ FirstLarge pieces → SomeAnswer text
whole_answer text pieces few whole (inl none) =
    (Ok (tokens_in 0 pieces), (few, record { pieces = pieces; whole = whole; small = none; tokens = refl }))
whole_answer text pieces few whole (inr (before, n, after, is, none)) =
    let parts : Falls (before ++ (Large n ∷ after)) text [] = subst (λ ps. Falls ps text []) is whole in
    let large : HasLarge text (widths before) =
    record { before = before; n = n; after = after; whole = parts; first = none; place = refl } in
    (Err (Number (widths before)), (few, large))

cut_answer : (text : List ℕ) → length text ≤ 2 ^ 20 → IsCut text → SomeAnswer text
cut_answer text few (pieces, [], whole, ends) = whole_answer text pieces few whole (first_large pieces)
cut_answer text few (pieces, b ∷ bs, falls, nothing) =
    let stops : Stops text (widths pieces) =
    record { before = pieces; byte = b; after = bs; falls = falls; nothing = nothing; place = refl } in
    (Err (Lex (widths pieces)), (few, stops))

some_answer : (text : List ℕ) → SomeAnswer text
some_answer text =
    elim (cases_lt (2 ^ 20) (length text)) [ inl long ↦ (Err TooLong, long) | inr few ↦ cut_answer text few (cut 0 text) ]

pub exactly : FallsExactly
exactly text answer =
    let (other, so) = some_answer text in
    (λ is. subst (FallsSo text) (sym (answered text other so) ∙ is) so, answered text answer)
