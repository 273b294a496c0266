-- Steady readers, put together.
use Rattle.std.specs.Prelude.{◌≡◌, ℕ, zero, suc, List, [], ◌∷◌, ◌++◌, Ok, Err}
use Rattle.std.proofs.Common.{refl, sym, ap, subst, ◌∙◌, append_assoc, append-nil}
use Rattle.ipg_reader.specs.Found.{Found, ◌>>=◌, chain, made, both, items_at}
use Rattle.ipg_reader.specs.Exact.{AreBytes, IsTaken, Stays, IsAnswer, IsSteady}

-- bytes, and bytes behind them
pub joined : (xs ys : List ℕ) → AreBytes xs → AreBytes ys → AreBytes (xs ++ ys)
joined [] ys one other = other
joined (x ∷ xs) ys one other = (one.0, joined xs ys one.1 other)

-- takes nothing
pub nothing : {A : Type 0} (a : A) → IsSteady (λ bytes. Ok (a, bytes))
nothing a = record {
  each = λ bytes. record { taken = []; splits = refl; again = λ more. refl };
  some = [];
  are_bytes = tt;
  value = a;
  found = refl;
}

-- no value is found where there is a fault
pub no_error : {A : Type 0} (left : List ℕ) (x : A × List ℕ) → ◌≡◌ {A = Found A} (Err left) (Ok x) → ⊥
no_error {A} left x e = subst is_fault e tt
  where
    is_fault : Found A → Type 0
    is_fault (Ok y) = ⊥
    is_fault (Err other) = Unit {0}

-- ---- a reader behind another

module _ {A B : Type 0} (f : List ℕ → Found A) (g : A → List ℕ → Found B) (first : IsSteady f) (second : (a : A) → IsSteady (g a)) where
  -- past what the first takes
  past : (taken others more : List ℕ) (a : A) → f (taken ++ (others ++ more)) ≡ Ok (a, others ++ more)
      → chain f g ((taken ++ others) ++ more) ≡ g a (others ++ more)
  past taken others more a found = ap (chain f g) (append_assoc taken others more) ∙ ap (λ o. o >>= λ x. g x.0 x.1) found

  split : (bytes taken left others more : List ℕ) → bytes ≡ taken ++ left → left ≡ others ++ more → bytes ≡ (taken ++ others) ++ more
  split bytes taken left others more one other = one ∙ ap (λ l. taken ++ l) other ∙ sym (append_assoc taken others more)

  still : (taken others left : List ℕ) (a : A) → ((more : List ℕ) → f (taken ++ more) ≡ Ok (a, more)) → Stays (g a) others left
      → Stays (chain f g) (taken ++ others) left
  still taken others [] a found stays = tt
  still taken others (b ∷ left) a found stays = λ more. past taken others (b ∷ more) a (found (others ++ b ∷ more)) ∙ stays more

  behind : (bytes rest : List ℕ) (a : A) → IsTaken f bytes rest a → (o : Found B) → IsAnswer (g a) rest o → IsAnswer (chain f g) bytes o
  behind bytes rest a t (Ok x) u = record {
    taken = t.taken ++ u.taken;
    splits = split bytes t.taken rest u.taken x.1 t.splits u.splits;
    again = λ more. past t.taken u.taken more a (t.again (u.taken ++ more)) ∙ u.again more;
  }
  behind bytes rest a t (Err left) u = record {
    taken = t.taken ++ u.taken;
    splits = split bytes t.taken rest u.taken left t.splits u.splits;
    stays = still t.taken u.taken left a t.again u.stays;
    others = u.others;
    are_bytes = u.are_bytes;
    value = u.value;
    found = past t.taken u.taken u.others a (t.again (u.taken ++ u.others)) ∙ u.found;
  }

  stuck : (taken left : List ℕ) → Stays f taken left → Stays (chain f g) taken left
  stuck taken [] stays = tt
  stuck taken (b ∷ left) stays = λ more. ap (λ o. o >>= λ x. g x.0 x.1) (stays more)

  abbrev rest_in : List ℕ → Found A → List ℕ
  rest_in other (Ok x) = x.1
  rest_in other (Err left) = other

  abbrev value_in : A → Found A → A
  value_in other (Ok x) = x.0
  value_in other (Err left) = other

  -- what was found of all bytes is found with others behind them
  on : (bytes more : List ℕ) (a : A) (o : Found A) → f bytes ≡ o → o ≡ Ok (a, []) → IsAnswer f bytes o → f (bytes ++ more) ≡ Ok (a, more)
  on bytes more a (Ok x) is same t =
      ap (λ b. f (b ++ more)) (t.splits ∙ ap (λ l. t.taken ++ l) (ap (rest_in x.1) same) ∙ append-nil t.taken)
      ∙ t.again more ∙ ap (λ v. Ok (v, more)) (ap (value_in x.0) same)
  on bytes more a (Err left) is same s = absurd (no_error left (a, []) same)

  found_on : (bytes more : List ℕ) (a : A) → f bytes ≡ Ok (a, []) → f (bytes ++ more) ≡ Ok (a, more)
  found_on bytes more a is = on bytes more a (f bytes) refl is (first.each bytes)

  at : (bytes : List ℕ) (o : Found A) → IsAnswer f bytes o → IsAnswer (chain f g) bytes (o >>= λ x. g x.0 x.1)
  at bytes (Ok x) t = behind bytes x.1 x.0 t (g x.0 x.1) ((second x.0).each x.1)
  at bytes (Err left) s =
      let next = second s.value in
      record {
        taken = s.taken;
        splits = s.splits;
        stays = stuck s.taken left s.stays;
        others = s.others ++ next.some;
        are_bytes = joined s.others next.some s.are_bytes next.are_bytes;
        value = next.value;
        found =
            ap (chain f g) (sym (append_assoc s.taken s.others next.some))
            ∙ ap (λ o. o >>= λ x. g x.0 x.1) (found_on (s.taken ++ s.others) next.some s.value s.found) ∙ next.found;
      }

  pub chained : IsSteady (chain f g)
  chained =
      let next = second first.value in
      record {
        each = λ bytes. at bytes (f bytes) (first.each bytes);
        some = first.some ++ next.some;
        are_bytes = joined first.some next.some first.are_bytes next.are_bytes;
        value = next.value;
        found = ap (λ o. o >>= λ x. g x.0 x.1) (found_on first.some next.some first.value first.found) ∙ next.found;
      }

pub made_steadily : {A B : Type 0} (make : A → B) (f : List ℕ → Found A) → IsSteady f → IsSteady (made make f)
made_steadily make f first = chained f (λ a bytes. Ok (make a, bytes)) first (λ a. nothing (make a))

pub both_steadily : {A B : Type 0} (f : List ℕ → Found A) (g : List ℕ → Found B) → IsSteady f → IsSteady g → IsSteady (both f g)
both_steadily f g first second = chained f (λ a. made (λ b. (a, b)) g) first (λ a. made_steadily (λ b. (a, b)) g second)

pub items_steadily : {A : Type 0} (read : List ℕ → Found A) → IsSteady read → (n : ℕ) → IsSteady (items_at read n)
items_steadily read one zero = nothing []
items_steadily read one (suc n) =
    chained read (λ a. made (λ xs. a ∷ xs) (items_at read n)) one (λ a. made_steadily (λ xs. a ∷ xs) (items_at read n) (items_steadily read one n))
