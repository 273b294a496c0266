-- Strings: what is read of what stands for their bytes, and what stands for the bytes that are read.
use Rattle.std.proofs.Common.{◌≡◌, ℕ, zero, suc, ◌+◌, ◌-◌, ◌*◌, ◌≤◌, ◌<◌, true, false, ◌&&◌, ◌||◌, ◌==◌, List, [], ◌∷◌, ◌++◌, Option, Some, None}
use Rattle.std.proofs.Common.{take, drop, length, refl, ap, length-append, append_assoc, ◌∙◌, sym, subst, arith}
use Rattle.std.specs.Prelude.{if◌then◌else◌}
use Rattle.std.specs.List.{list_all}
use Rattle.std.proofs.lemmas.Bool.{eqb-true, eqb-false, ne_eqb, lt-ltb}
use Rattle.std.proofs.lemmas.Bool.Decides.{nat_tests}
use Rattle.std.proofs.Math.Seq.{take-add}
use Rattle.ipg_read_tokens.specs.Lexical.{Quoted, quoted, item, escape, with_item, after_bytes, is_hexadecimal, is_plain, digit_value}
use Rattle.ipg_read_tokens.specs.declared.string.Item.{Item}
use Rattle.ipg_read_tokens.specs.declared.string.Item.TheVariants.{End, Byte, Bad}
use Rattle.ipg_read_tokens.specs.Shaped.{is_byte}
use Rattle.ipg_read_token_laws.specs.Forms.{Stands, plain, escaped, coded, Closes}
use Rattle.ipg_read_token_laws.proofs.Bytes.{both, choose}

-- ---- what is read

escape_pair : (b : ℕ) (more : List ℕ) → (b == 34 || b == 92) ≡ true → escape (b ∷ more) ≡ Byte b 2
escape_pair b [] e = rw e refl
escape_pair b (h ∷ []) e = rw e refl
escape_pair b (h ∷ l ∷ more) e = rw e refl

escape_coded : (h l : ℕ) (more : List ℕ) → is_hexadecimal h ≡ true → is_hexadecimal l ≡ true
    → escape (120 ∷ h ∷ l ∷ more) ≡ Byte (digit_value h * 16 + digit_value l) 4
escape_coded h l more high low = rw (high, low) refl

-- the item is read as the byte, whatever follows
abbrev Reads : ℕ → List ℕ → List ℕ → Type 0
Reads b more xs = quoted 0 (xs ++ more) ≡ after_bytes (b ∷ []) (length xs) (quoted 0 more)

stands_read : (b : ℕ) (xs more : List ℕ) → Stands xs b → Reads b more xs
stands_read b xs more (plain is clear no_quote no_escape) =
    let quote : (b == 34) ≡ false = ne_eqb b 34 no_quote in
    let mark : (b == 92) ≡ false = ne_eqb b 92 no_escape in
    subst (Reads b more) (sym is) (rw (quote, mark, clear) refl)
stands_read b xs more (escaped is which) =
    let pair : (b == 34 || b == 92) ≡ true = grind (arith, nat_tests) in
    subst (Reads b more) (sym is) (ap (λ i. with_item i (λ k. quoted k (b ∷ more))) (escape_pair b more pair))
stands_read b xs more (coded h l is high low sum) =
    let same : digit_value h * 16 + digit_value l ≡ b = omega (arith, sum) in
    subst (Reads b more) (sym is) (
    ap (λ i. with_item i (λ k. quoted k (120 ∷ h ∷ l ∷ more))) (escape_coded h l more high low)
    ∙ ap (λ v. after_bytes (v ∷ []) 4 (quoted 0 more)) same
    )

pub closes_read : (bytes text rest : List ℕ) → Closes bytes text
    → quoted 0 (text ++ rest) ≡ Some (record { bytes = bytes; width = length text })
closes_read [] text rest is =
    subst (λ xs. quoted 0 (xs ++ rest) ≡ Some (record { bytes = []; width = length xs })) (sym is) refl
closes_read (b ∷ bytes) text rest (xs, more, is, stands, closes) =
    let width : length more + length xs ≡ length (xs ++ more) = omega (arith, length-append xs more) in
    subst (λ ys. quoted 0 (ys ++ rest) ≡ Some (record { bytes = b ∷ bytes; width = length ys })) (sym is) (
    ap (quoted 0) (append_assoc xs more rest)
    ∙ stands_read b xs (more ++ rest) stands
    ∙ ap (after_bytes (b ∷ []) (length xs)) (closes_read bytes more rest closes)
    ∙ ap (λ w. Some (record { bytes = b ∷ bytes; width = w })) width
    )

-- every value of a byte is below 256
stands_byte : (xs : List ℕ) (b : ℕ) → Stands xs b → is_byte b ≡ true
stands_byte xs b (plain is clear no_quote no_escape) = grind (arith, nat_tests)
stands_byte xs b (escaped is which) = grind (arith, nat_tests)
stands_byte xs b (coded h l is high low sum) =
    let first : digit_value h < 16 = grind (arith, nat_tests) in
    let second : digit_value l < 16 = grind (arith, nat_tests) in
    lt-ltb b 256 (omega (arith, sum, first, second))

pub closes_bytes : (bytes text : List ℕ) → Closes bytes text → list_all is_byte bytes ≡ true
closes_bytes [] text is = refl
closes_bytes (b ∷ bytes) text (xs, more, is, stands, closes) =
    ap (λ v. v && list_all is_byte bytes) (stands_byte xs b stands) ∙ closes_bytes bytes more closes

-- ---- what stands there

-- an item of n bytes, of which the first is at hand
abbrev IsItem : ℕ → List ℕ → Item → Type 0
IsItem b bs End = b ≡ 34
IsItem b bs (Byte c n) = (1 ≤ n) × Stands (b ∷ take (n - 1) bs) c
IsItem b bs Bad = Unit {0}

escaped_item : (x : ℕ) (bs : List ℕ) (other : Item) → IsItem 92 (x ∷ bs) other
    → IsItem 92 (x ∷ bs) (if x == 34 || x == 92 then Byte x 2 else other)
escaped_item x bs other is =
    choose (IsItem 92 (x ∷ bs)) (x == 34 || x == 92) (Byte x 2) other
    (λ pair. (omega arith, escaped refl (grind (arith, nat_tests)))) (λ none. is)

escape_item : (bs : List ℕ) → IsItem 92 bs (escape bs)
escape_item [] = tt
escape_item (x ∷ []) = escaped_item x [] Bad tt
escape_item (x ∷ h ∷ []) = escaped_item x (h ∷ []) Bad tt
escape_item (x ∷ h ∷ l ∷ bs) = escaped_item x (h ∷ l ∷ bs) _ (
    choose (IsItem 92 (x ∷ h ∷ l ∷ bs)) (x == 120 && is_hexadecimal h && is_hexadecimal l) _ _
    (λ code. let (first, low) = both (x == 120 && is_hexadecimal h) (is_hexadecimal l) code in
    let (mark, high) = both (x == 120) (is_hexadecimal h) first in
    (omega arith, coded h l (ap (λ y. 92 ∷ y ∷ h ∷ l ∷ []) (eqb-true x 120 mark)) high low (omega arith)))
    (λ none. tt))

item_is : (b : ℕ) (bs : List ℕ) → IsItem b bs (item b bs)
item_is b bs =
    choose (IsItem b bs) (b == 34) _ _ (λ quote. eqb-true b 34 quote)
    (λ quote. choose (IsItem b bs) (b == 92) _ _
    (λ mark. subst (λ x. IsItem x bs (escape bs)) (sym (eqb-true b 92 mark)) (escape_item bs))
    (λ mark. choose (IsItem b bs) (is_plain b) _ _
    (λ clear. (omega arith, plain refl clear (eqb-false b 34 quote) (eqb-false b 92 mark)))
    (λ clear. tt)))

-- a string after some bytes
abbrev pub Closed : ℕ → List ℕ → Option Quoted → Type 0
Closed skip bs (Some q) = (skip + q.width ≤ length bs) × Closes q.bytes (take q.width (drop skip bs))
Closed skip bs None = Unit {0}

later : (b : ℕ) (bs : List ℕ) (skip : ℕ) (o : Option Quoted) → Closed skip bs o → Closed (suc skip) (b ∷ bs) o
later b bs skip (Some q) (fits, closes) = (omega (arith, fits), closes)
later b bs skip None closes = tt

one_more : (b c n : ℕ) (bs : List ℕ) (o : Option Quoted) → 1 ≤ n → Stands (b ∷ take (n - 1) bs) c
    → Closed (n - 1) bs o → Closed 0 (b ∷ bs) (after_bytes (c ∷ []) n o)
one_more b c n bs (Some q) some stands (fits, closes) =
    let count : q.width + n ≡ suc (n - 1 + q.width) = omega (arith, some) in
    let parts : take (q.width + n) (b ∷ bs) ≡ b ∷ (take (n - 1) bs ++ take q.width (drop (n - 1) bs)) =
    ap (λ k. take k (b ∷ bs)) count ∙ ap (λ xs. b ∷ xs) (take-add (n - 1) q.width bs) in
    (omega (arith, fits, some), (b ∷ take (n - 1) bs, take q.width (drop (n - 1) bs), parts, stands, closes))
one_more b c n bs None some stands closes = tt

from_item : (b : ℕ) (bs : List ℕ) (i : Item) → IsItem b bs i → ((skip : ℕ) → Closed skip bs (quoted skip bs))
    → Closed 0 (b ∷ bs) (with_item i (λ k. quoted k bs))
from_item b bs End is rest = (omega arith, ap (λ x. x ∷ []) is)
from_item b bs (Byte c n) (some, stands) rest = one_more b c n bs (quoted (n - 1) bs) some stands (rest (n - 1))
from_item b bs Bad is rest = tt

pub closed : (bs : List ℕ) (skip : ℕ) → Closed skip bs (quoted skip bs)
closed [] skip = tt
closed (b ∷ bs) (suc k) = later b bs k (quoted k bs) (closed bs k)
closed (b ∷ bs) zero = from_item b bs (item b bs) (item_is b bs) (λ k. closed bs k)
