-- Linear forms over variables that carry their own facts, and the facts that such forms make.
use Rattle.std.specs.Prelude.{◌^◌, List, [], ◌∷◌, ◌++◌, length, flat_map, map, Bool, false, not, ◌&&◌}
use Rattle.std.specs.Prelude.{nat_le, nat_lt, ℤ, pos, negsuc, ◌+ℤ◌, ◌*ℤ◌, if◌then◌else◌}
use Rattle.std.specs.List.{list_all, filter}
use Rattle.std.specs.Int.RustNames.{unsigned_abs}
use Rattle.ipg_facts_forms.specs.declared.fact.Part.{Part}
use Rattle.ipg_facts_forms.specs.declared.fact.Form.{Form}
use Rattle.ipg_facts_forms.specs.declared.fact.Fact.{Fact}
use Rattle.ipg_facts_forms.specs.declared.fact.Fact.TheVariants.{Atom, All, Any}
use Rattle.ipg_facts_variables.specs.declared.variable.Variable.{Variable}
use Rattle.ipg_facts_variables.specs.Variable.{same_variable}

-- a variable, with the facts that are put where it is mentioned
abbrev pub mention : Variable → List Fact → Form
mention variable facts = record { parts = record { variable = variable; facts = facts; factor = pos 1 } ∷ []; constant = pos 0 }

abbrev pub number : ℤ → Form
number z = record { parts = []; constant = z }

-- one part more: behind the others, or to the factor of the part of that variable
unfoldable pub add_part : List Part → Part → List Part
add_part [] p = p ∷ []
add_part (q ∷ qs) p = if same_variable q.variable p.variable then record q { factor = q.factor +ℤ p.factor } ∷ qs else q ∷ add_part qs p

unfoldable pub add_parts : List Part → List Part → List Part
add_parts ps [] = ps
add_parts ps (q ∷ qs) = add_parts (add_part ps q) qs

-- parts stay where they first stood, also those that cancel
unfoldable pub plus : Form → Form → Form
plus a b = record { parts = add_parts a.parts b.parts; constant = a.constant +ℤ b.constant }

abbrev pub scaled_part : ℤ → Part → Part
scaled_part k p = record p { factor = p.factor *ℤ k }

unfoldable pub scaled : ℤ → Form → Form
scaled k a = record { parts = map (scaled_part k) a.parts; constant = a.constant *ℤ k }

unfoldable pub shifted : Form → ℤ → Form
shifted a k = record a { constant = a.constant +ℤ k }

unfoldable pub minus : Form → Form → Form
minus a b = plus a (scaled (negsuc 0) b)

abbrev pub is_zero : ℤ → Bool
is_zero (pos n) = nat_le n 0
is_zero (negsuc n) = false

abbrev pub counts : Part → Bool
counts p = not (is_zero p.factor)

-- the parts whose variables a form mentions
unfoldable pub mentioned : Form → List Part
mentioned a = filter counts a.parts

-- a form with no variable is a number
unfoldable pub is_constant : Form → Bool
is_constant a = nat_le (length (mentioned a)) 0

-- from -2^63 to 2^63 - 1
abbrev pub is_number : ℤ → Bool
is_number (pos n) = nat_lt n (2 ^ 63)
is_number (negsuc n) = nat_lt n (2 ^ 63)

abbrev pub is_light : Part → Bool
is_light p = nat_le (unsigned_abs p.factor) (2 ^ 40)

-- the limits of a linear form: 64 variables, factors of 2^40 in size, a constant of 64 bits
unfoldable pub in_limits : Form → Bool
in_limits a = nat_le (length (mentioned a)) 64 && (list_all is_light (mentioned a) && is_number a.constant)

-- the facts of the variables that a form mentions
unfoldable pub facts_of : Form → List Fact
facts_of a = flat_map (λ p. p.facts) (mentioned a)

-- a form is at most 0, without the facts of its variables; a form that leaves the limits says nothing
unfoldable pub bare : Form → List Fact
bare a =
    if in_limits a then Atom (record { terms = map (λ p. (p.variable, p.factor)) (mentioned a); constant = a.constant }) ∷ []
    else []

-- a form is at most 0
unfoldable pub at_most_zero : Form → List Fact
at_most_zero a = if in_limits a then facts_of a ++ bare a else []

unfoldable pub leq : Form → Form → List Fact
leq a b = at_most_zero (minus a b)

unfoldable pub less : Form → Form → List Fact
less a b = at_most_zero (shifted (minus a b) (pos 1))

-- two forms of the same variables are at most 0: the facts of these stand once, before the first that says something
unfoldable pub both_at_most_zero : Form → Form → List Fact
both_at_most_zero d n = if in_limits d then at_most_zero d ++ bare n else at_most_zero n

-- a <= b, and then b <= a
unfoldable pub equal : Form → Form → List Fact
equal a b = both_at_most_zero (minus a b) (minus b a)

unfoldable pub choice : List Fact → List Fact → List Fact
choice a b = Any (All a ∷ All b ∷ []) ∷ []

unfoldable pub differ : Form → Form → List Fact
differ a b = choice (less a b) (less b a)
