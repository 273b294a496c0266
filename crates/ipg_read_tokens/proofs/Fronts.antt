-- A front takes a byte at least, and no more than there are.
use Rattle.std.proofs.Common.{◌≡◌, ℕ, zero, suc, ◌+◌, ◌-◌, ◌≤◌, List, [], ◌∷◌, Option, Some, None, Bool, true, false}
use Rattle.std.proofs.Common.{◌||◌, ◌==◌, cond, drop, length, arith, refl, ap, sym, subst, true≢false}
use Rattle.std.specs.Prelude.{ℤ, if◌then◌else◌}
use Rattle.std.proofs.lemmas.Bool.{eqb-true}
use Rattle.ipg_read_tokens.specs.Lexical.{Quoted, quoted, item, with_item, after_bytes, text_front, in_class, run, is_white, is_letter, is_digit, is_prefixed}
use Rattle.ipg_read_tokens.specs.Lexical.{is_pair, is_single, single_front, symbol_front, front_of_value, hexadecimal_front, number_front, front_of}
use Rattle.ipg_read_tokens.specs.Within.{TakesWithin, WidthWithin, width_of}
use Rattle.ipg_read_tokens.specs.declared.front.Front.{Front}
use Rattle.ipg_read_tokens.specs.declared.front.Front.TheVariants.{Nothing, Blank, Large, Token as Begins}
use Rattle.ipg_read_tokens.specs.declared.class.Class.{Class}
use Rattle.ipg_read_tokens.specs.declared.class.Class.TheVariants.{White, Comment, Naming, Digit, Hexadecimal}
use Rattle.ipg_read_tokens.specs.declared.string.Item.{Item}
use Rattle.ipg_read_tokens.specs.declared.string.Item.TheVariants.{End, Byte, Bad}

choose : {A : Type 0} (P : A → Type 0) (c : Bool) (x y : A) → (c ≡ true → P x) → (c ≡ false → P y) → P (if c then x else y)
choose P c x y f g =
    (elim c as (λ v. (v ≡ true → P x) → (v ≡ false → P y) → P (if v then x else y)) [ true ↦ λ h k. h refl | false ↦ λ h k. k refl ]) f g

one_more : (class : Class) (n m : ℕ) (c : Bool) → n ≤ m → cond c (n + 1) 0 ≤ suc m
one_more class n m true within = omega arith
one_more class n m false within = omega arith

run_within : (class : Class) (bs : List ℕ) → run class bs ≤ length bs
run_within class [] = omega arith
run_within class (b ∷ bs) = one_more class (run class bs) (length bs) (in_class class b) (run_within class bs)

run_some : (class : Class) (b : ℕ) (bs : List ℕ) → in_class class b ≡ true → 1 ≤ run class (b ∷ bs)
run_some class b bs here = subst (λ c. 1 ≤ cond c (run class bs + 1) 0) (sym here) (omega arith)

value_within : (o : Option ℤ) (w m : ℕ) → 1 ≤ w → w ≤ m → TakesWithin (front_of_value o w) m
value_within (Some z) w m some within = (some, within)
value_within None w m some within = (some, within)

hexadecimal_within : (xs : List ℕ) → is_prefixed xs ≡ true → TakesWithin (hexadecimal_front (drop 2 xs)) (length xs)
hexadecimal_within [] is = absurd (true≢false (sym is))
hexadecimal_within (a ∷ []) is = absurd (true≢false (sym is))
hexadecimal_within (a ∷ b ∷ []) is = absurd (true≢false (sym is))
hexadecimal_within (a ∷ b ∷ c ∷ bs) is =
    value_within _ (run Hexadecimal (c ∷ bs) + 2) _ (omega arith) (omega (arith, run_within Hexadecimal (c ∷ bs)))

-- the width of a string from its first item on
abbrev QuotedWithin : Option Quoted → ℕ → ℕ → Type 0
QuotedWithin (Some q) skip m = q.width + skip ≤ m
QuotedWithin None skip m = Unit {0}

byte_within : (o : Option Quoted) (c n m : ℕ) → QuotedWithin o (n - 1) m → QuotedWithin (after_bytes (c ∷ []) n o) 0 (suc m)
byte_within (Some q) c n m within = omega arith
byte_within None c n m within = tt

item_within : (i : Item) (bs : List ℕ) → ((k : ℕ) → QuotedWithin (quoted k bs) k (length bs))
    → QuotedWithin (with_item i (λ more. quoted more bs)) 0 (suc (length bs))
item_within End bs rest = omega arith
item_within (Byte c n) bs rest = byte_within (quoted (n - 1) bs) c n (length bs) (rest (n - 1))
item_within Bad bs rest = tt

skipped_within : (o : Option Quoted) (k m : ℕ) → QuotedWithin o k m → QuotedWithin o (suc k) (suc m)
skipped_within (Some q) k m within = omega arith
skipped_within None k m within = tt

quoted_within : (bs : List ℕ) (skip : ℕ) → QuotedWithin (quoted skip bs) skip (length bs)
quoted_within [] skip = tt
quoted_within (b ∷ bs) zero = item_within (item b bs) bs (λ k. quoted_within bs k)
quoted_within (b ∷ bs) (suc k) = skipped_within (quoted k bs) k (length bs) (quoted_within bs k)

text_within : (o : Option Quoted) (m : ℕ) → QuotedWithin o 0 m → TakesWithin (text_front o) (suc m)
text_within (Some q) m within = (omega arith, omega arith)
text_within None m within = tt

single_within : (b m : ℕ) → TakesWithin (single_front b) (suc m)
single_within b m = choose (λ f. TakesWithin f (suc m)) (is_single b) _ _ (λ e. (omega arith, omega arith)) (λ e. tt)

symbol_within : (b : ℕ) (bs : List ℕ) → TakesWithin (symbol_front b bs) (suc (length bs))
symbol_within b [] = single_within b 0
symbol_within b (c ∷ cs) = choose (λ f. TakesWithin f (suc (suc (length cs)))) (is_pair b c) _ _ (λ e. (omega arith, omega arith))
    (λ e. single_within b (suc (length cs)))

number_within : (b : ℕ) (bs : List ℕ) → is_digit b ≡ true → TakesWithin (number_front (b ∷ bs)) (suc (length bs))
number_within b bs digit = choose (λ f. TakesWithin f (suc (length bs))) (is_prefixed (b ∷ bs)) _ _
    (λ e. hexadecimal_within (b ∷ bs) e)
    (λ e. value_within _ (run Digit (b ∷ bs)) _ (run_some Digit b bs digit) (run_within Digit (b ∷ bs)))

comment_some : (b : ℕ) (bs : List ℕ) → b ≡ 35 → 1 ≤ run Comment (b ∷ bs)
comment_some b bs is = subst (λ x. 1 ≤ run Comment (x ∷ bs)) (sym is) (omega arith)

pub front_within : (bs : List ℕ) → TakesWithin (front_of bs) (length bs)
front_within [] = tt
front_within (b ∷ bs) =
    let P : Front → Type 0 = λ f. TakesWithin f (suc (length bs)) in
    choose P (is_white b) _ _ (λ e. (run_some White b bs e, run_within White (b ∷ bs)))
    (λ e. choose P (b == 35) _ _ (λ e. (comment_some b bs (eqb-true b 35 e), run_within Comment (b ∷ bs)))
    (λ e. choose P (is_letter b) _ _ (λ e. (run_some Naming b bs (ap (λ v. v || is_digit b) e), run_within Naming (b ∷ bs)))
    (λ e. choose P (is_digit b) _ _ (λ e. number_within b bs e)
    (λ e. choose P (b == 34) _ _ (λ e. text_within (quoted 0 bs) (length bs) (quoted_within bs 0))
    (λ e. symbol_within b bs)))))

-- what of a front the scan goes on by
pub width_within : (f : Front) (m : ℕ) → TakesWithin f m → WidthWithin (width_of f) m
width_within Nothing m within = tt
width_within (Blank n) m within = within
width_within (Large n) m within = within
width_within (Begins kind n) m within = within

widen : (f : Front) (k m : ℕ) → k ≤ m → TakesWithin f k → TakesWithin f m
widen Nothing k m more within = tt
widen (Blank n) k m more within = (within.0, omega (arith, within.1, more))
widen (Large n) k m more within = (within.0, omega (arith, within.1, more))
widen (Begins kind n) k m more within = (within.0, omega (arith, within.1, more))

pub begins_within : (xs : List ℕ) (m : ℕ) (f : Front) → length xs ≤ m → f ≡ front_of xs → TakesWithin f m
begins_within xs m f few is = subst (λ g. TakesWithin g m) (sym is) (widen (front_of xs) (length xs) m few (front_within xs))
