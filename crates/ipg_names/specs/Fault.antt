-- Which of several faults is told: the one of least number, among equal ones the one of least place.
use Rattle.std.specs.Prelude.{ℕ, Bool, ◌||◌, ◌&&◌, nat_lt, nat_eq, List, [], ◌∷◌, Option, Some, None, if◌then◌else◌}
use Rattle.ipg_names.specs.declared.fault.NameFault.{NameFault}
use Rattle.ipg_names.specs.declared.fault.NameFault.TheVariants.{DuplicateRule, UnknownRule, DuplicateAttr, UnknownAttr, PartAttr, NoOccurrence, Memory}

-- want of memory, which is no fault of a grammar, comes last
abbrev pub number_of : NameFault → ℕ
number_of (DuplicateRule at) = 6
number_of (UnknownRule at) = 7
number_of (DuplicateAttr at) = 8
number_of (UnknownAttr at) = 9
number_of (PartAttr at) = 10
number_of (NoOccurrence at) = 11
number_of Memory = 12

abbrev pub place_of : NameFault → ℕ
place_of (DuplicateRule at) = at
place_of (UnknownRule at) = at
place_of (DuplicateAttr at) = at
place_of (UnknownAttr at) = at
place_of (PartAttr at) = at
place_of (NoOccurrence at) = at
place_of Memory = 0

abbrev pub is_before : NameFault → NameFault → Bool
is_before a b = nat_lt (number_of a) (number_of b) || (nat_eq (number_of a) (number_of b) && nat_lt (place_of a) (place_of b))

abbrev pub earlier : Option NameFault → Option NameFault → Option NameFault
earlier None b = b
earlier (Some a) None = Some a
earlier (Some a) (Some b) = Some (if is_before b a then b else a)

-- the one that is told of a list of them
abbrev pub first_of : List NameFault → Option NameFault
first_of [] = None
first_of (fault ∷ faults) = earlier (Some fault) (first_of faults)
