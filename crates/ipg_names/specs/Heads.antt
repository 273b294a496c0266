-- The fault of a head, where the rule that is known by its name is at hand.
use Rattle.std.specs.Prelude.{ℕ, Bool, false, ◌||◌, not, List, Option, Some, None, is_some, nat_eq, if◌then◌else◌}
use Rattle.ipg_core.specs.Lines.{primitive_of}
use Rattle.ipg_names.specs.declared.fault.NameFault.{NameFault}
use Rattle.ipg_names.specs.declared.fault.NameFault.TheVariants.{DuplicateRule}

abbrev pub is_rule : Option ℕ → ℕ → Bool
is_rule None r = false
is_rule (Some known) r = nat_eq known r

abbrev pub head_told : Bool → List ℕ → ℕ → Option NameFault
head_told first name at = if not first || is_some (primitive_of name) then Some (DuplicateRule at) else None
