-- A sum of facts: what it comes to under an assignment.
use Rattle.std.proofs.Common.{◌≡◌, ℕ, zero, suc, ◌+◌, ◌*◌, ◌≤◌, eqb-true, eq-eqb, ◌⊎◌, inl, inr, true, false, cond}
use Rattle.std.proofs.Common.{nat_eq, ℤ, pos, ◌+ℤ◌, ◌*ℤ◌, List, [], ◌∷◌, ◌++◌, map, length, refl, sym, ◌∙◌, ap, subst, arith}
use Rattle.std.specs.List.{list_all}
use Rattle.std.proofs.lemmas.Bool.{and_parts}
use Rattle.std.specs.Ordering.{int_eq}
use Rattle.std.proofs.lemmas.Bool.Decides.{Decides-int_eq}
use Rattle.std.proofs.lemmas.Int.{ints}
use borrow.Author.Differences.{up, down, same_in, product_is}
use Rattle.ipg_lin.specs.Form.{Form, Assignment, sum_at, value_at}
use Rattle.ipg_cert.specs.Checks.{coefficient, plus_times}

pub times_zero : (v : ℤ) → pos 0 *ℤ v ≡ pos 0
times_zero v = same_in _ _ (omega (arith, product_is (pos 0) v))

-- a sum as its two parts
sum_parts : (a b : ℤ) → up (a +ℤ b) + (down a + down b) ≡ down (a +ℤ b) + (up a + up b)
sum_parts a b = omega (arith, ints)

pub times_plus : (a b v : ℤ) → (a +ℤ b) *ℤ v ≡ (a *ℤ v) +ℤ (b *ℤ v)
times_plus a b v =
    same_in _ _ (omega (
      arith,
      ints,
      product_is (a +ℤ b) v,
      product_is a v,
      product_is b v,
      ap (λ n. n * up v) (sum_parts a b),
      ap (λ n. n * down v) (sum_parts a b),
    ))

pub times_times : (w a v : ℤ) → (w *ℤ a) *ℤ v ≡ w *ℤ (a *ℤ v)
times_times w a v =
    same_in _ _ (omega (
      arith,
      product_is (w *ℤ a) v,
      product_is w (a *ℤ v),
      ap (λ n. n * up v) (product_is w a).0,
      ap (λ n. n * down v) (product_is w a).0,
      ap (λ n. n * up v) (product_is w a).1,
      ap (λ n. n * down v) (product_is w a).1,
      ap (λ n. up w * n) (product_is a v).0,
      ap (λ n. down w * n) (product_is a v).0,
      ap (λ n. up w * n) (product_is a v).1,
      ap (λ n. down w * n) (product_is a v).1,
    ))

pub plus_times_right : (w a b : ℤ) → w *ℤ (a +ℤ b) ≡ (w *ℤ a) +ℤ (w *ℤ b)
plus_times_right w a b =
    same_in _ _ (omega (
      arith,
      ints,
      product_is w (a +ℤ b),
      product_is w a,
      product_is w b,
      ap (λ n. up w * n) (sum_parts a b),
      ap (λ n. down w * n) (sum_parts a b),
    ))

-- two lists of terms, one behind the other
sum_at-append : (v : Assignment) (xs ys : List (ℕ × ℤ)) → sum_at v (xs ++ ys) ≡ sum_at v xs +ℤ sum_at v ys
sum_at-append v [] ys = same_in _ _ (omega (arith, ints))
sum_at-append v (x ∷ xs) ys = ap (λ z. (x.1 *ℤ v x.0) +ℤ z) (sum_at-append v xs ys) ∙ same_in _ _ (omega (arith, ints))

sum_at-scaled : (v : Assignment) (w : ℕ) (xs : List (ℕ × ℤ)) → sum_at v (map (λ (t : ℕ × ℤ). (t.0, pos w *ℤ t.1)) xs) ≡ pos w *ℤ sum_at v xs
sum_at-scaled v w [] = same_in _ _ (omega (arith, product_is (pos w) (pos 0)))
sum_at-scaled v w (x ∷ xs) =
    ap (λ z. ((pos w *ℤ x.1) *ℤ v x.0) +ℤ z) (sum_at-scaled v w xs)
    ∙ ap (λ z. z +ℤ (pos w *ℤ sum_at v xs)) (times_times (pos w) x.1 (v x.0))
    ∙ sym (plus_times_right (pos w) (x.1 *ℤ v x.0) (sum_at v xs))

-- the value of a sum is the sum of the values
pub value_at-plus_times : (v : Assignment) (w : ℕ) (form rest : Form) → value_at v (plus_times w form rest) ≡ (pos w *ℤ value_at v form) +ℤ value_at v rest
value_at-plus_times v w form rest =
    ap (λ z. z +ℤ ((pos w *ℤ form.constant) +ℤ rest.constant))
    (sum_at-append v (map (λ (t : ℕ × ℤ). (t.0, pos w *ℤ t.1)) form.terms) rest.terms ∙ ap (λ z. z +ℤ sum_at v rest.terms) (sum_at-scaled v w form.terms))
    ∙ same_in _ _ (omega (arith, ints, plus_times_right (pos w) (sum_at v form.terms) form.constant))

-- the terms of other variables
abbrev without : ℕ → List (ℕ × ℤ) → List (ℕ × ℤ)
without x [] = []
without x (t ∷ ts) = cond (nat_eq t.0 x) (without x ts) (t ∷ without x ts)

without_shorter : (x : ℕ) (ts : List (ℕ × ℤ)) → length (without x ts) ≤ length ts
without_shorter x [] = omega arith
without_shorter x (t ∷ ts) = elim (nat_eq t.0 x) as (λ b. length (cond b (without x ts) (t ∷ without x ts)) ≤ suc (length ts))
    [ true ↦ omega (arith, without_shorter x ts) | false ↦ omega (arith, without_shorter x ts) ]

-- a variable's terms come to its coefficient times its value
part : (v : Assignment) (x : ℕ) (ts : List (ℕ × ℤ)) → sum_at v ts ≡ (coefficient x ts *ℤ v x) +ℤ sum_at v (without x ts)
part v x [] = same_in _ _ (omega (arith, ints, product_is (pos 0) (v x)))
part v x (t ∷ ts) =
    ap (λ z. (t.1 *ℤ v t.0) +ℤ z) (part v x ts)
    ∙ elim (nat_eq t.0 x) as (λ b. nat_eq t.0 x ≡ b → (t.1 *ℤ v t.0) +ℤ ((coefficient x ts *ℤ v x) +ℤ sum_at v (without x ts))
    ≡ ((cond b t.1 (pos 0) +ℤ coefficient x ts) *ℤ v x) +ℤ sum_at v (cond b (without x ts) (t ∷ without x ts))) [
      | true ↦ λ e. same_in _ _ (omega (arith, ints, times_plus t.1 (coefficient x ts) (v x), ap (λ y. t.1 *ℤ v y) (eqb-true t.0 x e)))
      | false ↦ λ e. same_in _ _ (omega (arith, ints, times_plus (pos 0) (coefficient x ts) (v x), times_zero (v x)))
    ] refl

-- no term of the variable is left
coefficient-gone : (x : ℕ) (ts : List (ℕ × ℤ)) → coefficient x (without x ts) ≡ pos 0
coefficient-gone x [] = refl
coefficient-gone x (t ∷ ts) =
    elim (nat_eq t.0 x) as (λ b. nat_eq t.0 x ≡ b → coefficient x (cond b (without x ts) (t ∷ without x ts)) ≡ pos 0) [
      | true ↦ λ e. coefficient-gone x ts
      | false ↦ λ e. ap (λ b. cond b t.1 (pos 0) +ℤ coefficient x (without x ts)) e ∙ ap (λ z. pos 0 +ℤ z) (coefficient-gone x ts)
    ] refl

-- the terms of another variable stay
coefficient-stays : (x y : ℕ) (ts : List (ℕ × ℤ)) → nat_eq x y ≡ false → coefficient y (without x ts) ≡ coefficient y ts
coefficient-stays x y [] apart = refl
coefficient-stays x y (t ∷ ts) apart =
    elim (nat_eq t.0 x) as (λ b. nat_eq t.0 x ≡ b → coefficient y (cond b (without x ts) (t ∷ without x ts)) ≡ coefficient y (t ∷ ts)) [
      | true ↦ λ e. coefficient-stays x y ts apart
          ∙ sym (ap (λ b. cond b t.1 (pos 0) +ℤ coefficient y ts) (ap (λ n. nat_eq n y) (eqb-true t.0 x e) ∙ apart) ∙ same_in _ _ (omega (arith, ints)))
      | false ↦ λ e. ap (λ z. cond (nat_eq t.0 y) t.1 (pos 0) +ℤ z) (coefficient-stays x y ts apart)
    ] refl

-- where no variable is left, the sum is 0
cancels : (v : Assignment) (k : ℕ) (ts : List (ℕ × ℤ)) → length ts ≤ k → ((y : ℕ) → coefficient y ts ≡ pos 0) → sum_at v ts ≡ pos 0
cancels v k [] short zeros = refl
cancels v zero (t ∷ ts) short zeros = absurd (omega arith)
cancels v (suc k) (t ∷ ts) short zeros =
    let gone : without t.0 (t ∷ ts) ≡ without t.0 ts = ap (λ b. cond b (without t.0 ts) (t ∷ without t.0 ts)) (eq-eqb t.0 t.0 refl) in
    let rest : sum_at v (without t.0 (t ∷ ts)) ≡ pos 0 =
    cancels v k (without t.0 (t ∷ ts)) (omega (arith, without_shorter t.0 ts, ap length gone)) (λ y.
    elim (nat_eq t.0 y) as (λ b. nat_eq t.0 y ≡ b → coefficient y (without t.0 (t ∷ ts)) ≡ pos 0) [
      | true ↦ λ e. subst (λ n. coefficient n (without t.0 (t ∷ ts)) ≡ pos 0) (eqb-true t.0 y e) (coefficient-gone t.0 (t ∷ ts))
      | false ↦ λ e. coefficient-stays t.0 y (t ∷ ts) e ∙ zeros y
    ] refl) in
    part v t.0 (t ∷ ts) ∙ ap (λ z. (coefficient t.0 (t ∷ ts) *ℤ v t.0) +ℤ z) rest ∙ ap (λ z. (z *ℤ v t.0) +ℤ pos 0) (zeros t.0)
    ∙ ap (λ z. z +ℤ pos 0) (times_zero (v t.0))

-- each variable's coefficient is 0, if it is at the variables that stand in the terms
pub zero_or_absent : (all ts : List (ℕ × ℤ)) → list_all (λ (t : ℕ × ℤ). int_eq (coefficient t.0 all) (pos 0)) ts ≡ true → (y : ℕ)
    → (coefficient y all ≡ pos 0) ⊎ (coefficient y ts ≡ pos 0)
zero_or_absent all [] h y = inr refl
zero_or_absent all (t ∷ ts) h y =
    elim (nat_eq t.0 y) as (λ b. nat_eq t.0 y ≡ b → (coefficient y all ≡ pos 0) ⊎ (cond b t.1 (pos 0) +ℤ coefficient y ts ≡ pos 0)) [
      | true ↦ λ e. inl (subst (λ n. coefficient n all ≡ pos 0) (eqb-true t.0 y e) ((Decides-int_eq (coefficient t.0 all) (pos 0)).0 (and_parts _ _ h).0))
      | false ↦ λ e. elim (zero_or_absent all ts (and_parts _ _ h).1 y) [ inl z ↦ inl z | inr z ↦ inr (ap (λ c. pos 0 +ℤ c) z) ]
    ] refl

pub zero_sum : (v : Assignment) (ts : List (ℕ × ℤ)) → list_all (λ (t : ℕ × ℤ). int_eq (coefficient t.0 ts) (pos 0)) ts ≡ true → sum_at v ts ≡ pos 0
zero_sum v ts h = cancels v (length ts) ts (omega arith) (λ y. elim (zero_or_absent ts ts h y) [ inl z ↦ z | inr z ↦ z ])
