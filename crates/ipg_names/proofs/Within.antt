-- Names that are among the names of attributes, and their numbers.
use Rattle.std.proofs.Common.{◌≡◌, ℕ, suc, ◌+◌, ◌<◌, Bool, true, false, not, ◌||◌, List, [], ◌∷◌, ◌++◌}
use Rattle.std.proofs.Common.{length, refl, sym, ap, ◌∙◌, cond, bytes_eq, arith, true≢false}
use Rattle.std.specs.List.{AllByRecursion, IsDistinct, list_any, position_or_len}
use Rattle.ipg_names_scope.specs.Names.{NameList, once}
use Rattle.ipg_names.proofs.Bytes.{same_bytes, bytes_same, bytes_turned}

abbrev pub IsIn : NameList → List ℕ → Type 0
IsIn names name = list_any (bytes_eq name) names ≡ true

abbrev pub AllIn : NameList → NameList → Type 0
AllIn names xs = AllByRecursion (IsIn names) xs

pub number_below : (names : NameList) (n : List ℕ) → IsIn names n → position_or_len (bytes_eq n) names < length names
number_below [] n h = absurd (true≢false (sym h))
number_below (x ∷ names) n h = by (bytes_eq n x) h (number_below names n)
  where
    by : (b : Bool) → (b || list_any (bytes_eq n) names) ≡ true → (IsIn names n → position_or_len (bytes_eq n) names < length names)
        → cond (not b) (1 + position_or_len (bytes_eq n) names) 0 < suc (length names)
    by true k f = omega arith
    by false k f = omega (arith, f k)

-- names of one number are one
pub number_apart : (names : NameList) (a b : List ℕ) → IsIn names a → IsIn names b
    → position_or_len (bytes_eq a) names ≡ position_or_len (bytes_eq b) names → a ≡ b
number_apart [] a b h k e = absurd (true≢false (sym h))
number_apart (x ∷ names) a b h k e = by (bytes_eq a x) (bytes_eq b x) refl refl h k e (number_apart names a b)
  where
    by : (r s : Bool) → bytes_eq a x ≡ r → bytes_eq b x ≡ s → (r || list_any (bytes_eq a) names) ≡ true → (s || list_any (bytes_eq b) names) ≡ true
        → cond (not r) (1 + position_or_len (bytes_eq a) names) 0 ≡ cond (not s) (1 + position_or_len (bytes_eq b) names) 0
        → (IsIn names a → IsIn names b → position_or_len (bytes_eq a) names ≡ position_or_len (bytes_eq b) names → a ≡ b) → a ≡ b
    by true true f g h k e rest = same_bytes a x f ∙ sym (same_bytes b x g)
    by true false f g h k e rest = absurd (omega (arith, e))
    by false true f g h k e rest = absurd (omega (arith, e))
    by false false f g h k e rest = rest h k (omega (arith, e))

any_append : (n : List ℕ) (xs ys : NameList) → list_any (bytes_eq n) (xs ++ ys) ≡ (list_any (bytes_eq n) xs || list_any (bytes_eq n) ys)
any_append n [] ys = refl
any_append n (x ∷ xs) ys = ap (λ b. bytes_eq n x || b) (any_append n xs ys) ∙ or_assoc (bytes_eq n x) (list_any (bytes_eq n) xs) (list_any (bytes_eq n) ys)
  where
    or_assoc : (a b c : Bool) → (a || (b || c)) ≡ ((a || b) || c)
    or_assoc true b c = refl
    or_assoc false b c = refl

or_true : (a b : Bool) → a ≡ true → (a || b) ≡ true
or_true true b h = refl
or_true false b h = absurd (true≢false (sym h))

true_or : (a b : Bool) → b ≡ true → (a || b) ≡ true
true_or true b h = refl
true_or false b h = h

-- what was seen stays
stays : (xs seen : NameList) (n : List ℕ) → IsIn seen n → IsIn (once seen xs) n
stays [] seen n h = h
stays (x ∷ xs) seen n h = by (list_any (bytes_eq x) seen) (stays xs seen n h) (stays xs (seen ++ x ∷ []) n (any_append n seen (x ∷ []) ∙ or_true _ _ h))
  where
    by : (b : Bool) → IsIn (once seen xs) n → IsIn (once (seen ++ x ∷ []) xs) n → IsIn (once (cond b seen (seen ++ x ∷ [])) xs) n
    by true f g = f
    by false f g = g

-- and each of the others is put in
pub once_has : (xs seen : NameList) → AllIn (once seen xs) xs
once_has [] seen = tt
once_has (x ∷ xs) seen = by (list_any (bytes_eq x) seen) refl (once_has xs seen) (once_has xs (seen ++ x ∷ []))
  where
    new : IsIn (seen ++ x ∷ []) x
    new = any_append x seen (x ∷ []) ∙ true_or (list_any (bytes_eq x) seen) _ (ap (λ b. b || false) (bytes_same x))

    by : (b : Bool) → list_any (bytes_eq x) seen ≡ b → AllIn (once seen xs) xs → AllIn (once (seen ++ x ∷ []) xs) xs
        → AllIn (once (cond b seen (seen ++ x ∷ [])) xs) (x ∷ xs)
    by true h f g = (stays xs seen x h, f)
    by false h f g = (stays xs (seen ++ x ∷ []) x new, g)

-- ---- no name stands twice

all_push : (P : List ℕ → Type 0) (xs : NameList) (x : List ℕ) → AllByRecursion P xs → P x → AllByRecursion P (xs ++ x ∷ [])
all_push P [] x h k = (k, tt)
all_push P (y ∷ xs) x h k = (h.0, all_push P xs x h.1 k)

or_parts : (a b : Bool) → (a || b) ≡ false → (a ≡ false) × (b ≡ false)
or_parts true b h = absurd (true≢false h)
or_parts false b h = (refl, h)

distinct_push : (seen : NameList) (x : List ℕ) → IsDistinct bytes_eq seen → list_any (bytes_eq x) seen ≡ false → IsDistinct bytes_eq (seen ++ x ∷ [])
unfolding IsDistinct
distinct_push [] x d none = (tt, tt)
distinct_push (y ∷ seen) x d none =
    let apart = or_parts (bytes_eq x y) (list_any (bytes_eq x) seen) none in
    (all_push (λ z. bytes_eq y z ≡ false) seen x d.0 (bytes_turned y x ∙ apart.0), distinct_push seen x d.1 apart.1)

pub once_distinct : (xs seen : NameList) → IsDistinct bytes_eq seen → IsDistinct bytes_eq (once seen xs)
once_distinct [] seen d = d
once_distinct (x ∷ xs) seen d = by (list_any (bytes_eq x) seen) refl (once_distinct xs seen d) (once_distinct xs (seen ++ x ∷ []))
  where
    by : (b : Bool) → list_any (bytes_eq x) seen ≡ b → IsDistinct bytes_eq (once seen xs) → (IsDistinct bytes_eq (seen ++ x ∷ [])
        → IsDistinct bytes_eq (once (seen ++ x ∷ []) xs))
        → IsDistinct bytes_eq (once (cond b seen (seen ++ x ∷ [])) xs)
    by true h f g = f
    by false h f g = g (distinct_push seen x d h)
