-- The first of faults that are put after one another.
use Rattle.std.proofs.Common.{◌≡◌, ℕ, Bool, true, false, ◌||◌, ◌&&◌, nat_lt, nat_eq, ◌+◌, ◌<◌, ◌≤◌, length, drop, get_or}
use Rattle.std.proofs.Common.{flat_map, List, [], ◌∷◌, ◌++◌, Option, Some, None, refl, sym, ap, ◌∙◌, cond, arith}
use Rattle.std.proofs.lemmas.Bool.Decides.{nat_tests}
use Rattle.std.proofs.lemmas.List.{drop_all}
use Rattle.ipg_names.proofs.Lists.{at_item}
use Rattle.ipg_names.specs.declared.fault.NameFault.{NameFault}
use Rattle.ipg_names.specs.Fault.{number_of, place_of, is_before, earlier, first_of}
use Rattle.ipg_names.specs.Faults.{when, unless}

abbrev before : ℕ → ℕ → ℕ → ℕ → Bool
before n p m q = nat_lt n m || (nat_eq n m && nat_lt p q)

before_before : (n p m q k r : ℕ) → before n p m q ≡ true → before m q k r ≡ true → before n p k r ≡ true
before_before n p m q k r f g = grind (arith, nat_tests)

pub not_before : (n p m q k r : ℕ) → before n p m q ≡ false → before m q k r ≡ false → before n p k r ≡ false
not_before n p m q k r f g = grind (arith, nat_tests)

three : (a b c : NameFault) (ba cb ca : Bool) → is_before b a ≡ ba → is_before c b ≡ cb → is_before c a ≡ ca
    → cond (is_before c (cond ba b a)) c (cond ba b a) ≡ cond (is_before (cond cb c b) a) (cond cb c b) a
three a b c true true ca ba cb e = ap (λ x. cond x c b) cb
    ∙ sym (ap (λ x. cond x c a) (before_before (number_of c) (place_of c) (number_of b) (place_of b) (number_of a) (place_of a) cb ba))
three a b c true false ca ba cb e = ap (λ x. cond x c b) cb ∙ sym (ap (λ x. cond x b a) ba)
three a b c false true ca ba cb e = refl
three a b c false false ca ba cb e = ap (λ x. cond x c a) (not_before (number_of c) (place_of c) (number_of b) (place_of b) (number_of a)
    (place_of a) cb ba) ∙ sym (ap (λ x. cond x b a) ba)

pub earlier_none : (a : Option NameFault) → earlier a None ≡ a
earlier_none None = refl
earlier_none (Some a) = refl

pub earlier_assoc : (a b c : Option NameFault) → earlier (earlier a b) c ≡ earlier a (earlier b c)
earlier_assoc None b c = refl
earlier_assoc (Some a) None c = refl
earlier_assoc (Some a) (Some b) None = refl
earlier_assoc (Some a) (Some b) (Some c) = ap Some (three a b c (is_before b a) (is_before c b) (is_before c a) refl refl refl)

pub first_append : (xs ys : List NameFault) → first_of (xs ++ ys) ≡ earlier (first_of xs) (first_of ys)
first_append [] ys = refl
first_append (x ∷ xs) ys = ap (earlier (Some x)) (first_append xs ys) ∙ sym (earlier_assoc (Some x) (first_of xs) (first_of ys))

pub first_when : (b : Bool) (fault : NameFault) → first_of (when b fault) ≡ cond b (Some fault) None
first_when true fault = refl
first_when false fault = refl

pub first_unless : (b : Bool) (fault : NameFault) → first_of (unless b fault) ≡ cond b None (Some fault)
first_unless true fault = refl
first_unless false fault = refl

pub ruleset firsts = (first_append, first_when, first_unless)

-- the first of a list of faults
pub record First (found : Option NameFault) (faults : List NameFault) : Type 0 where
  pub is : found ≡ first_of faults

pub join : {a b : Option NameFault} {xs ys : List NameFault} (found : Option NameFault) → First a xs → First b ys → found ≡ earlier a b → First found (xs ++ ys)
join {a = a} {b = b} {xs = xs} {ys = ys} found f g e = record {
  is = e ∙ ap (λ o. earlier o b) f.is ∙ ap (earlier (first_of xs)) g.is ∙ sym (first_append xs ys);
}

-- one turn of a loop
pub turn : {A : Type 0} {found : Option NameFault} (f : A → List NameFault) (items : List A) (i : ℕ) (x : A) (old new all : Option NameFault)
    → x ≡ get_or items i x → i < length items
    → First found (f x) → new ≡ earlier old found → earlier old (first_of (flat_map f (drop i items))) ≡ all
    → earlier new (first_of (flat_map f (drop (i + 1) items))) ≡ all
turn {found = found} f items i x old new all is within first put so_far =
    let rest = flat_map f (drop (i + 1) items) in
    ap (λ n. earlier n (first_of rest)) put ∙ earlier_assoc old found (first_of rest)
    ∙ ap (λ n. earlier old (earlier n (first_of rest))) first.is
    ∙ ap (earlier old) (sym (first_append (f x) rest))
    ∙ ap (λ xs. earlier old (first_of (flat_map f xs))) (sym (at_item items i x is within))
    ∙ so_far

pub done : {A : Type 0} (f : A → List NameFault) (items : List A) (i : ℕ) (old all : Option NameFault) → length items ≤ i
    → earlier old (first_of (flat_map f (drop i items))) ≡ all → old ≡ all
done f items i old all past so_far = sym (earlier_none old) ∙ sym (ap (λ xs. earlier old (first_of (flat_map f xs))) (drop_all i items past)) ∙ so_far
