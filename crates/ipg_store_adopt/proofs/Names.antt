-- A table of names has as many as the list exactly where none stands twice.
use Rattle.std.proofs.Common.{◌≡◌, ℕ, Bool, List, length, map, refl, sym, ap, subst, ◌∙◌, nat_eq, bytes_eq, Option, Result, Ok, Err, IfOk}
use Rattle.std.specs.Bool.{⊤}
use Rattle.std.specs.Iterator.{DrainsIf}
use Rattle.std.proofs.lemmas.Iterator.{YieldsList, items_from_drains}
use Rattle.std.specs.List.{IsDistinct}
use Rattle.std.specs.Cmp.{IsEquivalence}
use Rattle.std.specs.HashSet as bag
use Rattle.std.specs.HashSet.{HashSet, hash_set_len}
use Rattle.std.proofs.lemmas.List.{length-map, map-id}
use Rattle.std.proofs.lemmas.Slice.Eq.{bytes_eq-Decides}
use Rattle.std.proofs.lemmas.Bool.Decides.{Decides-like, Decides-eqb, same_from_decides}
use Rattle.std.proofs.lemmas.Map.Made.{hash_set_len-from_list, IsDistinct-from_count, distinct_count-from_IsDistinct}
use Rattle.ipg_store_adopt.specs.WellFormed.{all_differ}
use Rattle.ipg_store_adopt.proofs.Tests.{distinct_read, read_distinct, differ_tells}

module _ {K : Type 0} (read : K → List ℕ) where
  abbrev alike : K → K → Bool
  alike x y = bytes_eq (read x) (read y)

  laws : IsEquivalence alike
  laws = record {
    refl = λ x. (bytes_eq-Decides (read x) (read x)).1 refl;
    symm = λ x y. same_from_decides (alike x y) (alike y x) (bytes_eq-Decides (read x) (read y))
        (Decides-like (alike y x) (λ e. sym e) (λ e. sym e) (bytes_eq-Decides (read y) (read x)));
    congr = λ x y z e. ap (λ w. bytes_eq w (read z)) ((bytes_eq-Decides (read x) (read y)).0 e);
  }

  pub counted : {S : Type 0} (xs : List K) (table : HashSet K S) (names : List (List ℕ)) → map read xs ≡ names → length xs ≡ length names
      → bag.IsFromIterResult alike xs table → nat_eq (hash_set_len table) (length names) ≡ all_differ names
  counted xs table names are as_many h =
      let count = hash_set_len-from_list laws xs table h in
      same_from_decides (nat_eq (hash_set_len table) (length names)) (all_differ names)
      (Decides-like (nat_eq (hash_set_len table) (length names))
      (λ e. subst (IsDistinct bytes_eq) are (distinct_read read bytes_eq xs (IsDistinct-from_count laws xs (sym count ∙ e ∙ sym as_many))))
      (λ d. count ∙ distinct_count-from_IsDistinct laws xs (read_distinct read bytes_eq xs (subst (IsDistinct bytes_eq) (sym are) d)) ∙ as_many)
      (Decides-eqb (hash_set_len table) (length names)))
      (differ_tells names)

  -- the length of a table that was collected
  pub told : {S : Type 0} (table : HashSet K S) (n : ℕ) (names : List (List ℕ)) → n ≡ hash_set_len table
      → (xs : List K) × (map read xs ≡ map (λ (name : List ℕ). name) names) × bag.IsFromIterResult alike xs table
      → nat_eq n (length names) ≡ all_differ names
  told table n names is h =
      let are : map read h.0 ≡ names = h.1 ∙ map-id names in
      ap (λ m. nat_eq m (length names)) is ∙ counted h.0 table names are (sym (length-map h.0 read) ∙ ap length are) h.2

-- `collect`, where `read` reads each item
pub read_from_collect : {S A B V E : Type 0} {steps : S → Option A → S → Type 0} {s : S} {all : List B}
    (read : A → B) (Q : List A → V → Type 0) (r : Result V E)
    → IfOk r (λ v. (xs : List A) × DrainsIf steps ⊤ s xs × Q xs v) → YieldsList steps read s all
    → IfOk r (λ v. (xs : List A) × (map read xs ≡ all) × Q xs v)
read_from_collect read Q (Ok v) ran road = (ran.0, items_from_drains ran.0 ran.1 road, ran.2)
read_from_collect read Q (Err e) ran road = tt
