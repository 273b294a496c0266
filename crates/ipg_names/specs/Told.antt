-- Which fault of a list is told.
use Rattle.std.specs.Prelude.{◌≡◌, false, List, [], ◌∷◌, ◌⊎◌}
use Rattle.std.specs.List.{AllByRecursion}
use Rattle.ipg_names.specs.declared.fault.NameFault.{NameFault}
use Rattle.ipg_names.specs.Fault.{is_before}

-- x is one of the list
abbrev pub Stands : {A : Type 0} → List A → A → Type 0
Stands [] x = ⊥
Stands (y ∷ ys) x = (y ≡ x) ⊎ Stands ys x

-- one of the faults, before which none of them comes
pub record IsFirst (faults : List NameFault) (fault : NameFault) : Type 0 where
  pub stands : Stands faults fault
  pub least : AllByRecursion (λ other. is_before other fault ≡ false) faults
