-- The name of a term: what the attributes that read it, and nothing else, say of it.
use Rattle.std.specs.Prelude.{ℕ, suc, zero, List, [], ◌∷◌, take, length, Option, Some, None, Bool, true, false, nat_eq, if◌then◌else◌, slice_get}
use Rattle.ipg_core.specs.declared.grammar.CoreExpr.{CoreExpr, out-CoreExpr}
use Rattle.ipg_core.specs.declared.grammar.CoreTerm.{CoreTerm}
use Rattle.ipg_core.specs.declared.grammar.CoreTerm.TheVariants.{Slot, Set, Test, Repeat, Many, Pick}
use Rattle.ipg_core.specs.Grammar.{name_at}
use Rattle.ipg_label.specs.declared.reading.What.{What}
use Rattle.ipg_label.specs.declared.reading.What.TheVariants.{Number, Part, Joined}
use Rattle.ipg_label.specs.declared.reading.Reading.{Reading}
use Rattle.ipg_label.specs.declared.naming.Label.{Label}
use Rattle.ipg_label.specs.declared.naming.Naming.{Naming}
use Rattle.ipg_label.specs.declared.naming.Naming.TheVariants as naming
use Rattle.ipg_label.specs.Reading.{read}

abbrev pub same_what : What → What → Bool
same_what (Number a) (Number b) = nat_eq a b
same_what (Part a) (Part b) = nat_eq a b
same_what Joined Joined = true
same_what _ _ = false

-- one attribute more that reads the term: the first counts, and the first that reads something else of it
abbrev pub named_by : Naming → ℕ → What → Naming
named_by naming.Nothing attr what = naming.One attr what
named_by (naming.One first of) attr what = if same_what of what then naming.One first of else naming.Two first of attr
named_by (naming.Two first of other) attr what = naming.Two first of other

-- the read of an attribute counts where it is of the term
abbrev pub with_read : ℕ → Naming → ℕ → Option Reading → Naming
with_read t so_far attr None = so_far
with_read t so_far attr (Some reading) = if nat_eq reading.term t then named_by so_far attr reading.what else so_far

abbrev pub with_term : List (List ℕ) → ℕ → Naming → CoreTerm → Naming
with_term names t so_far (Set attr e) = with_read t so_far attr (read names (out-CoreExpr e))
with_term names t so_far _ = so_far

-- the attributes that read the term t, in the order of the text
abbrev pub naming_of : List (List ℕ) → ℕ → Naming → List CoreTerm → Naming
naming_of names t so_far [] = so_far
naming_of names t so_far (term ∷ terms) = naming_of names t (with_term names t so_far term) terms

-- how many bytes two names begin alike
abbrev pub alike : List ℕ → List ℕ → ℕ
alike (x ∷ xs) (y ∷ ys) = if nat_eq x y then suc (alike xs ys) else 0
alike _ _ = 0

abbrev pub whole_name : List (List ℕ) → ℕ → Label
whole_name names attr = record { attr = attr; long = length (name_at names attr) }

-- so many bytes of the name, or all where they are none
abbrev pub beginning : List (List ℕ) → ℕ → ℕ → Label
beginning names attr zero = whole_name names attr
beginning names attr (suc n) = record { attr = attr; long = suc n }

-- a number whose halves have attributes of their own is called what their names begin with; a part whose fields have is called nothing
abbrev pub name_of_two : List (List ℕ) → ℕ → What → ℕ → Option Label
name_of_two names first (Part field) other = None
name_of_two names first _ other = Some (beginning names first (alike (name_at names first) (name_at names other)))

abbrev pub name_of : List (List ℕ) → Naming → Option Label
name_of names naming.Nothing = None
name_of names (naming.One first of) = Some (whole_name names first)
name_of names (naming.Two first of other) = name_of_two names first of other

-- the name of the term t among those of an alternative
abbrev pub label : List (List ℕ) → List CoreTerm → ℕ → Option Label
label names terms t = name_of names (naming_of names t naming.Nothing terms)

-- its text
abbrev pub text_of : List (List ℕ) → Option Label → List ℕ
text_of names None = []
text_of names (Some one) = take one.long (name_at names one.attr)
