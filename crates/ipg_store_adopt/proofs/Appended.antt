-- A test of lists one after another.
use Rattle.std.proofs.Common.{◌≡◌, Bool, true, false, ◌&&◌, List, ◌++◌, ap, ◌∙◌}
use Rattle.std.specs.List.{list_all}
use Rattle.std.proofs.lemmas.List.Folds.{list_all-append}

module _ {X : Type 0} (p : X → Bool) (xs ys : List X) where
  pub all_behind : list_all p xs ≡ true → list_all p (xs ++ ys) ≡ list_all p ys
  all_behind h = list_all-append p xs ys ∙ ap (λ b. b && list_all p ys) h

  pub none_behind : list_all p xs ≡ false → list_all p (xs ++ ys) ≡ false
  none_behind h = list_all-append p xs ys ∙ ap (λ b. b && list_all p ys) h
