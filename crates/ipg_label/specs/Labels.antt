-- The names of a node's children. A node doesn't say by which alternative it was made: those of its rule that set the same attributes
-- and have as many children could have been, and a child is called what all of them call it.
use Rattle.std.specs.Prelude.{ℕ, ◌+◌, List, [], ◌∷◌, ◌++◌, length, map, Option, Some, None, Bool, true, false, ◌&&◌, nat_eq, if◌then◌else◌, slice_get}
use Rattle.ipg_core.specs.declared.grammar.CoreTerm.{CoreTerm}
use Rattle.ipg_core.specs.declared.grammar.CoreTerm.TheVariants.{Slot, Set, Test, Repeat, Many, Pick}
use Rattle.ipg_core.specs.declared.grammar.CoreAlt.{CoreAlt}
use Rattle.ipg_core.specs.declared.grammar.CoreRule.{CoreRule}
use Rattle.ipg_core.specs.Grammar.{Grammar}
use Rattle.ipg_label.specs.declared.naming.Label.{Label}
use Rattle.ipg_label.specs.declared.shape.Shape.{Shape}
use Rattle.ipg_label.specs.Naming.{label}

-- the attribute that a term sets
abbrev pub set_by : CoreTerm → List ℕ
set_by (Set attr e) = attr ∷ []
set_by _ = []

-- the name of a term's result, where the term has one
abbrev pub called : List (List ℕ) → List CoreTerm → ℕ → CoreTerm → List (Option Label)
called names all t (Set attr e) = []
called names all t (Test e) = []
called names all t _ = label names all t ∷ []

-- the attributes that terms set, and the names of their results, the first of these terms being the term t of all
abbrev pub sets_in : List CoreTerm → List ℕ
sets_in [] = []
sets_in (term ∷ terms) = set_by term ++ sets_in terms

abbrev pub labels_in : List (List ℕ) → List CoreTerm → ℕ → List CoreTerm → List (Option Label)
labels_in names all t [] = []
labels_in names all t (term ∷ terms) = called names all t term ++ labels_in names all (t + 1) terms

-- what a node of the alternative looks like, and the names of its children
abbrev pub shape : List (List ℕ) → CoreAlt → Shape
shape names alt = record { attrs = sets_in alt.terms; labels = labels_in names alt.terms 0 alt.terms }

abbrev pub same_attrs : List ℕ → List ℕ → Bool
same_attrs [] [] = true
same_attrs (a ∷ xs) (b ∷ ys) = nat_eq a b && same_attrs xs ys
same_attrs _ _ = false

-- a node with these attributes and so many children looks like it
abbrev pub fits : List ℕ → ℕ → Shape → Bool
fits attrs kids one = same_attrs one.attrs attrs && nat_eq (length one.labels) kids

abbrev pub same_label : Label → Label → Bool
same_label a b = nat_eq a.attr b.attr && nat_eq a.long b.long

-- what both call it
abbrev pub both_call : Option Label → Option Label → Option Label
both_call (Some a) (Some b) = if same_label a b then Some a else None
both_call _ _ = None

abbrev pub both : List (Option Label) → List (Option Label) → List (Option Label)
both (a ∷ xs) (b ∷ ys) = both_call a b ∷ both xs ys
both _ _ = []

-- what they and those of these shapes call them that a node of the shape looks like
abbrev pub agreed : Shape → List (Option Label) → List Shape → List (Option Label)
agreed one labels [] = labels
agreed one labels (other ∷ shapes) = agreed one (if fits one.attrs (length one.labels) other then both labels other.labels else labels) shapes

abbrev pub agreed_shape : List Shape → Shape → Shape
agreed_shape shapes one = record { attrs = one.attrs; labels = agreed one one.labels shapes }

abbrev pub shapes_of : List (List ℕ) → CoreRule → List Shape
shapes_of names rule = let shapes = map (shape names) rule.alts in map (agreed_shape shapes) shapes

-- the names of the children of nodes, by rules and what nodes look like
abbrev pub table_of : Grammar → List (List Shape)
table_of g = map (shapes_of g.names) g.rules

-- the first that a node with these attributes and so many children looks like
abbrev pub first_fit : List ℕ → ℕ → List Shape → List (Option Label)
first_fit attrs kids [] = []
first_fit attrs kids (one ∷ shapes) = if fits attrs kids one then one.labels else first_fit attrs kids shapes

abbrev pub or_none : Option (List Shape) → List Shape
or_none None = []
or_none (Some shapes) = shapes

-- the names of the children of a node of the rule with these attributes and so many children
abbrev pub labels_of : Grammar → ℕ → List ℕ → ℕ → List (Option Label)
labels_of g rule attrs kids = first_fit attrs kids (or_none (slice_get (table_of g) rule))
