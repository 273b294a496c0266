-- Bytes of a class, as many as there are and no more.
use Rattle.std.proofs.Common.{◌≡◌, ℕ, suc, ◌+◌, ◌≤◌, true, List, [], ◌∷◌, ◌++◌, take, length, cond, refl, ap, ◌∙◌, sym, subst, arith}
use Rattle.std.specs.List.{list_all}
use Rattle.std.proofs.Math.Numerals.{add-one}
use Rattle.ipg_read_tokens.specs.Lexical.{in_class, run}
use Rattle.ipg_read_tokens.specs.declared.class.Class.{Class}
use Rattle.ipg_read_token_laws.proofs.Bytes.{both, choose}

pub run_fits : (class : Class) (bs : List ℕ) → run class bs ≤ length bs
run_fits class [] = omega arith
run_fits class (b ∷ bs) =
    let fits = run_fits class bs in
    choose (λ n. n ≤ suc (length bs)) (in_class class b) (run class bs + 1) 0
    (λ here. omega (arith, fits)) (λ none. omega arith)

-- a run that goes on
pub one_run : (class : Class) (b : ℕ) (bs : List ℕ) → in_class class b ≡ true → suc (run class bs) ≡ run class (b ∷ bs)
one_run class b bs here = sym (add-one (run class bs)) ∙ ap (λ c. cond c (run class bs + 1) 0) (sym here)

pub run_all : (class : Class) (bs : List ℕ) → list_all (in_class class) (take (run class bs) bs) ≡ true
run_all class [] = refl
run_all class (b ∷ bs) =
    choose (λ n. list_all (in_class class) (take n (b ∷ bs)) ≡ true) (in_class class b) (run class bs + 1) 0
    (λ here. rw (add-one (run class bs), here) (run_all class bs)) (λ none. refl)

-- a run reaches past bytes of the class
pub run_reaches : (class : Class) (xs rest : List ℕ) → list_all (in_class class) xs ≡ true
    → length xs ≤ run class (xs ++ rest)
run_reaches class [] rest all = omega arith
run_reaches class (x ∷ xs) rest all =
    let (here, more) = both (in_class class x) (list_all (in_class class) xs) all in
    let further : length xs ≤ run class (xs ++ rest) = run_reaches class xs rest more in
    subst (λ n. suc (length xs) ≤ n) (one_run class x (xs ++ rest) here) (omega (arith, further))
