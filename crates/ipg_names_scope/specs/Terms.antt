-- The names by which terms are referred to: what a term calls, what it has items of, what it sets.
use Rattle.std.specs.Prelude.{ℕ, Bool, List, [], ◌∷◌, ◌++◌, flat_map, bytes_eq}
use Rattle.std.specs.List.{list_any}
use Rattle.ipg_ast.specs.declared.grammar.Term.{Term}
use Rattle.ipg_ast.specs.declared.grammar.Term.TheVariants.{Slot as SlotTerm, Set, Test, Repeat, Many, Pick}
use Rattle.ipg_ast.specs.declared.grammar.Case.{Case}
use Rattle.ipg_ast.specs.declared.grammar.What.{What}
use Rattle.ipg_ast.specs.declared.grammar.What.TheVariants.{Text, Call}
use Rattle.ipg_names_scope.specs.declared.marks.Family.{Family}
use Rattle.ipg_names_scope.specs.declared.marks.Family.TheVariants.{Calls, Items, Sets}

abbrev pub what_calls : What → List (List ℕ)
what_calls (Text bytes) = []
what_calls (Call name) = name ∷ []

abbrev pub case_calls : Case → List (List ℕ)
case_calls c = what_calls c.slot.what

-- a call, or a switch with a branch of that name
abbrev pub calls_in : Term → List (List ℕ)
calls_in (SlotTerm slot) = what_calls slot.what
calls_in (Set name value) = []
calls_in (Test at cond) = []
calls_in (Repeat var first last item from to) = []
calls_in (Many at item place) = []
calls_in (Pick at cases other) = flat_map case_calls cases ++ what_calls other.what

-- an array or a repetition of that name
abbrev pub items_in : Term → List (List ℕ)
items_in (SlotTerm slot) = []
items_in (Set name value) = []
items_in (Test at cond) = []
items_in (Repeat var first last item from to) = item.name ∷ []
items_in (Many at item place) = item.name ∷ []
items_in (Pick at cases other) = []

abbrev pub sets_in : Term → List (List ℕ)
sets_in (SlotTerm slot) = []
sets_in (Set name value) = name.name ∷ []
sets_in (Test at cond) = []
sets_in (Repeat var first last item from to) = []
sets_in (Many at item place) = []
sets_in (Pick at cases other) = []

abbrev pub names_in : Family → Term → List (List ℕ)
names_in Calls = calls_in
names_in Items = items_in
names_in Sets = sets_in

-- the term has that name
abbrev pub has : Family → List ℕ → Term → Bool
has family name term = list_any (bytes_eq name) (names_in family term)

-- some term of the alternative sets the attribute
abbrev pub sets : List Term → List ℕ → Bool
sets terms name = list_any (has Sets name) terms
