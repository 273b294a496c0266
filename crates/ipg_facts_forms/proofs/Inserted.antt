-- A term put among terms whose variables rise.
use Rattle.std.proofs.Common.{◌≡◌, ℕ, ℤ, zero, suc, ◌+◌, ◌<◌, ◌≤◌, List, [], ◌∷◌, ◌++◌, length, refl, sym, ap, ◌∙◌, arith, true, false, Some, nat_lt}
use Rattle.std.specs.Prelude.{slice_get}
use Rattle.std.specs.List.{insert as put_at}
use Rattle.std.proofs.lemmas.Bool.Decides.{nat_tests}
use Rattle.std.proofs.Common.{drop, get_or, ◌-◌}
use Rattle.std.proofs.lemmas.List.{drop_all}
use Rattle.ipg_facts_variables.specs.declared.variable.Variable.{Variable}
use Rattle.ipg_facts_forms.specs.Numbers.{insert, numbered, place}
use Rattle.ipg_facts_forms.specs.Pieces.{at_item}

-- the first i terms have smaller variables
abbrev pub Below : ℕ → List (ℕ × ℤ) → ℕ × ℤ → Type 0
Below zero xs t = Unit {0}
Below (suc i) [] t = Unit {0}
Below (suc i) (x ∷ xs) t = (nat_lt x.0 t.0 ≡ true) × Below i xs t

less : (m n : ℕ) → m < n → nat_lt m n ≡ true
less m n h = grind (arith, nat_tests)

not_less : (m n : ℕ) → n ≤ m → nat_lt m n ≡ false
not_less m n h = grind (arith, nat_tests)

pub further : (i : ℕ) (xs : List (ℕ × ℤ)) (x t : ℕ × ℤ) → Below i xs t → slice_get xs i ≡ Some x → x.0 < t.0 → Below (suc i) xs t
further zero [] x t b e h = tt
further (suc i) [] x t b e h = tt
further zero (y ∷ xs) x t b e h = let f : y ≡ x = cc in (ap (λ (z : ℕ × ℤ). nat_lt z.0 t.0) f ∙ less x.0 t.0 h, tt)
further (suc i) (y ∷ xs) x t b e h = (b.0, further i xs x t b.1 e h)

pub here : (i : ℕ) (xs : List (ℕ × ℤ)) (x t : ℕ × ℤ) → Below i xs t → slice_get xs i ≡ Some x → t.0 ≤ x.0 → put_at xs i t ≡ insert t xs
unfolding insert
here zero [] x t b e h = cc
here (suc i) [] x t b e h = cc
here zero (y ∷ xs) x t b e h = let f : y ≡ x = cc in rw (f, not_less x.0 t.0 h) refl
here (suc i) (y ∷ xs) x t b e h = rw b.0 (ap (λ zs. y ∷ zs) (here i xs x t b.1 e h))

pub last : (i : ℕ) (xs : List (ℕ × ℤ)) (t : ℕ × ℤ) → Below i xs t → length xs ≤ i → xs ++ t ∷ [] ≡ insert t xs
unfolding insert
last i [] t b h = refl
last zero (x ∷ xs) t b h = absurd (omega arith)
last (suc i) (x ∷ xs) t b h = rw b.0 (ap (λ zs. x ∷ zs) (last i xs t b.1 (omega arith)))

pub numbered_none : (variables : List Variable) (terms : List (Variable × ℤ)) → [] ≡ numbered variables (drop (length terms) terms)
unfolding numbered
numbered_none variables terms = sym (ap (numbered variables) (drop_all (length terms) terms (omega arith)))

pub numbered_more : (variables : List Variable) (terms : List (Variable × ℤ)) (i : ℕ) (t : Variable × ℤ) → 0 < i → i ≤ length terms → t ≡ get_or terms (i - 1) t
    → insert (place variables t.0, t.1) (numbered variables (drop i terms)) ≡ numbered variables (drop (i - 1) terms)
unfolding numbered
numbered_more variables terms i t some within is =
    let next : i - 1 + 1 ≡ i = omega arith in
    sym (ap (numbered variables) (at_item terms (i - 1) t is (omega arith))
    ∙ ap (λ n. insert (place variables t.0, t.1) (numbered variables (drop n terms))) next)
