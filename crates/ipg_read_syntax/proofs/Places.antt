-- The places of a text's tokens ascend.
use Rattle.std.proofs.Common.{◌≡◌, ℕ, zero, suc, ◌+◌, ◌-◌, ◌≤◌, ◌<◌, ◌^◌, List, [], ◌∷◌, Bool, true, false, cond}
use Rattle.std.proofs.Common.{Ok, Err, nat_lt, length, refl, ap, sym, subst, arith, le_refl, le_trans}
use Rattle.std.specs.List.{AllByRecursion}
use Rattle.ipg_read_tokens.specs.Lexical.{Lexed, lexed, beginning, front_at, token_first, large_first, tokens_of}
use Rattle.ipg_read_tokens.specs.declared.token.Token.{Token}
use Rattle.ipg_read_tokens.specs.declared.fault.ReadFault.TheVariants.{TooLong, Lex, Number, Syntax, Limit, Memory}
use Rattle.ipg_read_tokens.specs.declared.front.Front.{Front}
use Rattle.ipg_read_tokens.specs.declared.front.Front.TheVariants.{Nothing, Blank, Large, Token as Begins}
use Rattle.ipg_read_syntax.specs.Classes.{classes}
use Rattle.ipg_read_syntax.specs.Limits.{Size, is_over, sizes}
use Rattle.ipg_read_syntax.specs.Reading.{place_of}
use Rattle.ipg_read_syntax.specs.Laws.{LimitIsLeast}
use Rattle.ipg_read_syntax.proofs.Rising.{NotBefore, first_least, first_there}

-- from one place on, up to another
abbrev Ascends : ℕ → ℕ → List Token → Type 0
Ascends low high [] = low ≤ high
Ascends low high (t ∷ ts) = (low ≤ t.span.from) × Ascends t.span.from high ts

abbrev AscendsIfOk : ℕ → ℕ → Lexed → Type 0
AscendsIfOk low high (Ok ts) = Ascends low high ts
AscendsIfOk low high (Err f) = Unit {0}

lower : (low mid high : ℕ) (ts : List Token) → low ≤ mid → Ascends mid high ts → Ascends low high ts
lower low mid high [] less ascends = le_trans less ascends
lower low mid high (t ∷ ts) less ascends = (le_trans less ascends.0, ascends.1)

lower_ok : (low mid high : ℕ) (l : Lexed) → low ≤ mid → AscendsIfOk mid high l → AscendsIfOk low high l
lower_ok low mid high (Ok ts) less ascends = lower low mid high ts less ascends
lower_ok low mid high (Err f) less ascends = tt

token_ok : (at high n : ℕ) (t : Token) (l : Lexed) → t.span.from ≡ at → AscendsIfOk at high l → AscendsIfOk at high (token_first t l)
token_ok at high n t (Ok ts) is ascends = (subst (λ m. at ≤ m) (sym is) (le_refl at), subst (λ m. Ascends m high ts) (sym is) ascends)
token_ok at high n t (Err f) is ascends = tt

large_ok : (at low high : ℕ) (l : Lexed) → AscendsIfOk low high (large_first at l)
large_ok at low high (Ok ts) = tt
large_ok at low high (Err TooLong) = tt
large_ok at low high (Err (Lex p)) = tt
large_ok at low high (Err (Number p)) = tt
large_ok at low high (Err (Syntax p)) = tt
large_ok at low high (Err (Limit which p)) = tt
large_ok at low high (Err Memory) = tt

beginning_ok : (f : Front) (at high : ℕ) (rest : ℕ → Lexed) → ((more : ℕ) → AscendsIfOk at high (rest more)) → AscendsIfOk at high (beginning f at rest)
beginning_ok Nothing at high rest ascends = tt
beginning_ok (Blank n) at high rest ascends = ascends (n - 1)
beginning_ok (Large n) at high rest ascends = large_ok at at high (rest (n - 1))
beginning_ok (Begins kind n) at high rest ascends = token_ok at high n (record { kind = kind; span = record { from = at; to = at + n } }) (rest (n - 1)) refl
    (ascends (n - 1))

lexed_ascends : (bs : List ℕ) (at skip : ℕ) → AscendsIfOk at (at + length bs) (lexed at skip bs)
lexed_ascends [] at skip = omega arith
lexed_ascends (b ∷ bs) at (suc skip) =
    let long : at + 1 + length bs ≡ at + length (b ∷ bs) = omega arith in
    lower_ok at (at + 1) (at + length (b ∷ bs)) (lexed (at + 1) skip bs) (omega arith)
    (subst (λ n. AscendsIfOk (at + 1) n (lexed (at + 1) skip bs)) long (lexed_ascends bs (at + 1) skip))
lexed_ascends (b ∷ bs) at zero =
    let long : at + 1 + length bs ≡ at + length (b ∷ bs) = omega arith in
    beginning_ok (front_at b bs) at (at + length (b ∷ bs)) (λ more. lexed (at + 1) more bs)
    (λ more. lower_ok at (at + 1) (at + length (b ∷ bs)) (lexed (at + 1) more bs) (omega arith)
    (subst (λ n. AscendsIfOk (at + 1) n (lexed (at + 1) more bs)) long (lexed_ascends bs (at + 1) more)))

tokens_ascend : (text : List ℕ) → AscendsIfOk 0 (0 + length text) (tokens_of text)
tokens_ascend text = go (nat_lt (2 ^ 20) (length text))
  where
    go : (b : Bool) → AscendsIfOk 0 (0 + length text) (cond b (Err TooLong) (lexed 0 0 text))
    go true = tt
    go false = lexed_ascends text 0 0

low_place : (text : List ℕ) (low high : ℕ) (ts : List Token) (n : ℕ) → high ≤ length text → Ascends low high ts → low ≤ place_of text ts n
low_place text low high [] n ends ascends = le_trans ascends ends
low_place text low high (t ∷ ts) zero ends ascends = ascends.0
low_place text low high (t ∷ ts) (suc n) ends ascends = le_trans ascends.0 (low_place text t.span.from high ts n ends ascends.1)

places_ascend : (text : List ℕ) (low high : ℕ) (ts : List Token) (m n : ℕ) → high ≤ length text → Ascends low high ts → m ≤ n
    → place_of text ts m ≤ place_of text ts n
places_ascend text low high [] m n ends ascends less = le_refl (length text)
places_ascend text low high (t ∷ ts) zero zero ends ascends less = le_refl t.span.from
places_ascend text low high (t ∷ ts) zero (suc n) ends ascends less = low_place text t.span.from high ts n ends ascends.1
places_ascend text low high (t ∷ ts) (suc m) zero ends ascends less = absurd (let no : ⊥ = omega arith in no)
places_ascend text low high (t ∷ ts) (suc m) (suc n) ends ascends less = places_ascend text t.span.from high ts m n ends ascends.1 (omega arith)

length_classes : (ts : List Token) → length (classes ts) ≡ length ts
length_classes [] = refl
length_classes (t ∷ ts) = ap suc (length_classes ts)

pub limit_is_least : LimitIsLeast
limit_is_least text tree r over first = (there, go (sizes tree) (first_least tree r.fits over first))
  where
    there : over.at < length r.tokens
    there = omega (arith, first_there tree r.fits over first, ap length r.spelled, length_classes r.tokens)

    ascends : Ascends 0 (0 + length text) r.tokens
    ascends = subst (AscendsIfOk 0 (0 + length text)) r.falls (tokens_ascend text)

    go : (zs : List Size) → AllByRecursion (NotBefore over.at) zs
        → AllByRecursion (λ z. is_over z ≡ true → place_of text r.tokens over.at ≤ place_of text r.tokens z.at) zs
    go [] all = tt
    go (z ∷ zs) all = (λ is. places_ascend text 0 (0 + length text) r.tokens over.at z.at (omega arith) ascends (all.0 is), go zs all.1)
