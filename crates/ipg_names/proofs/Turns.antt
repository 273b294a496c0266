-- One turn of the loops over terms, alternatives and rules.
use Rattle.std.proofs.Common.{◌≡◌, ℕ, ◌+◌, ◌<◌, ◌≤◌, List, [], ◌∷◌, ◌++◌, length, drop, get_or, Option, refl, sym, ap, ◌∙◌, append-nil}
use Rattle.std.proofs.lemmas.List.{drop_all}
use Rattle.ipg_names.specs.declared.fault.NameFault.{NameFault}
use Rattle.ipg_names.specs.Fault.{earlier, first_of}
use Rattle.ipg_names.proofs.Lists.{at_item, pieces}
use Rattle.ipg_names.proofs.Firsts.{First, earlier_none, earlier_assoc, first_append}

-- what is made of a list from a number on, one item after another: by its first item and by the others
module _ {A B : Type 0} (made_from : ℕ → List A → List B) (make : ℕ → A → B)
    (on : (n : ℕ) (x : A) (xs : List A) → made_from n (x ∷ xs) ≡ make n x ∷ made_from (n + 1) xs) (none : (n : ℕ) → made_from n [] ≡ []) where
  pub made_turn : (items : List A) (i : ℕ) (x : A) (made new all : List B) → x ≡ get_or items i x → i < length items
      → new ≡ made ++ make i x ∷ [] → made ++ made_from i (drop i items) ≡ all → new ++ made_from (i + 1) (drop (i + 1) items) ≡ all
  made_turn items i x made new all is within put so_far =
      pieces made (make i x ∷ []) new (made_from (i + 1) (drop (i + 1) items)) (make i x ∷ made_from (i + 1) (drop (i + 1) items)) all put refl
      (ap (λ ys. made ++ ys) (sym (on i x (drop (i + 1) items))) ∙ ap (λ ys. made ++ made_from i ys) (sym (at_item items i x is within)) ∙ so_far)

  pub made_done : (items : List A) (i : ℕ) (made all : List B) → length items ≤ i → made ++ made_from i (drop i items) ≡ all → made ≡ all
  made_done items i made all past so_far =
      sym (append-nil made) ∙ ap (λ ys. made ++ ys) (sym (none i)) ∙ sym (ap (λ ys. made ++ made_from i ys) (drop_all i items past)) ∙ so_far

-- the same for the faults
module _ {A : Type 0} (faults_from : ℕ → List A → List NameFault) (faults_at : ℕ → A → List NameFault)
    (on : (n : ℕ) (x : A) (xs : List A) → faults_from n (x ∷ xs) ≡ faults_at n x ++ faults_from (n + 1) xs) (none : (n : ℕ) → faults_from n [] ≡ []) where
  pub fault_turn : {found : Option NameFault} (items : List A) (i : ℕ) (x : A) (old new all : Option NameFault) → x ≡ get_or items i x → i < length items
      → First found (faults_at i x) → new ≡ earlier old found
      → earlier old (first_of (faults_from i (drop i items))) ≡ all → earlier new (first_of (faults_from (i + 1) (drop (i + 1) items))) ≡ all
  fault_turn {found = found} items i x old new all is within first put so_far =
      let rest = faults_from (i + 1) (drop (i + 1) items) in
      ap (λ n. earlier n (first_of rest)) put ∙ earlier_assoc old found (first_of rest)
      ∙ ap (λ n. earlier old (earlier n (first_of rest))) first.is
      ∙ ap (earlier old) (sym (first_append (faults_at i x) rest))
      ∙ ap (λ xs. earlier old (first_of xs)) (sym (on i x (drop (i + 1) items)))
      ∙ ap (λ xs. earlier old (first_of (faults_from i xs))) (sym (at_item items i x is within))
      ∙ so_far

  pub fault_done : (items : List A) (i : ℕ) (old all : Option NameFault) → length items ≤ i → earlier old (first_of (faults_from i (drop i items))) ≡ all
      → old ≡ all
  fault_done items i old all past so_far =
      sym (earlier_none old) ∙ ap (λ xs. earlier old (first_of xs)) (sym (none i))
      ∙ sym (ap (λ xs. earlier old (first_of (faults_from i xs))) (drop_all i items past)) ∙ so_far
