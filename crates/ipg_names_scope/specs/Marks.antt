-- Tables from names to where the terms of an alternative have them, as what they say of a name.
use Rattle.std.specs.Prelude.{◌≡◌, ℕ, ◌≤◌, Bool, List, [], ◌∷◌, flat_map, length, Option, Some, None, nat_eq, bytes_eq, if◌then◌else◌}
use denote.Ref.{Bor}
use Rattle.indexmap.specs.IndexMap.{IndexMap, get_by}
use Rattle.ipg_ast.specs.declared.grammar.Term.{Term}
use Rattle.ipg_ast.specs.declared.grammar.Case.{Case}
use Rattle.ipg_ast.specs.Shape.{max_terms}
use Rattle.ipg_names_scope.specs.declared.marks.Spots.{Spots}
use Rattle.ipg_names_scope.specs.declared.marks.TermMark.{TermMark}
use Rattle.ipg_names_scope.specs.declared.marks.TermMark.TheVariants.{Met, Passed}
pub use Rattle.ipg_names_scope.specs.Nearest.{or_else}
use Rattle.ipg_names_scope.specs.Nearest.{first_from, left_of, right_of}
use Rattle.ipg_names_scope.specs.Terms.{case_calls}

abbrev pub look : {X S : Type 0} → IndexMap (Bor (List ℕ)) X S → List ℕ → Option X
look places name = get_by (λ key. bytes_eq name key.now) places

abbrev pub marked : TermMark → Option Spots → Option Spots
marked (Met u) None = Some (record { first = u; second = None; left = None })
marked (Met u) (Some spots) =
    Some (if nat_eq spots.first u then spots else record { first = spots.first; second = or_else spots.second (Some u); left = spots.left })
marked (Passed u) None = None
marked (Passed u) (Some spots) = Some (record { first = spots.first; second = spots.second; left = Some u })

-- what is said of the name x, once each name of a list was marked
abbrev pub marks_on : TermMark → List ℕ → List (List ℕ) → Option Spots → Option Spots
marks_on mark x [] spots = spots
marks_on mark x (name ∷ names) spots = marks_on mark x names (if bytes_eq name x then marked mark spots else spots)

abbrev pub IsMarked : {S : Type 0} → TermMark → List (List ℕ) → IndexMap (Bor (List ℕ)) Spots S → IndexMap (Bor (List ℕ)) Spots S → Type 0
IsMarked mark names old new = (x : List ℕ) → look new x ≡ marks_on mark x names (look old x)

abbrev pub cases_call : List Case → List (List ℕ)
cases_call cases = flat_map case_calls cases

abbrev pub nearest_spot : Option Spots → ℕ → Option ℕ
nearest_spot None u = None
nearest_spot (Some spots) u = or_else spots.left (if nat_eq spots.first u then spots.second else Some spots.first)

abbrev pub spots_from : {A : Type 0} → Option ℕ → (A → Bool) → List A → ℕ → Option Spots
spots_from None passes xs u = None
spots_from (Some first) passes xs u = Some (record { first = first; second = right_of passes xs first; left = left_of passes xs u })

-- the first two items that pass, and the last one to the left of u
abbrev pub spots_of : {A : Type 0} → (A → Bool) → List A → ℕ → Option Spots
spots_of passes xs u = spots_from (first_from passes 0 xs) passes xs u

abbrev pub IsShort : List Term → Type 0
IsShort terms = length terms ≤ max_terms
