-- What a term of a grammar asks for, and what its rule is called.
use Rattle.std.specs.Prelude.{ℕ, List, [], ◌∷◌, ◌++◌, map, take, length, slice_get, Bool, true, false, Option, None, Some}
use Rattle.ipg_core.specs.declared.grammar.Primitive.{Primitive}
use Rattle.ipg_core.specs.Lines.{primitive_of}
use Rattle.ipg_core.specs.Touch.{width}
use Rattle.ipg_ast.specs.declared.grammar.Grammar.{Grammar}
use Rattle.ipg_ast.specs.declared.grammar.Rule.{Rule, out-Rule}
use Rattle.ipg_ast.specs.declared.grammar.Term.{Term}
use Rattle.ipg_ast.specs.declared.grammar.Term.TheVariants.{Slot, Set, Test, Repeat, Many, Pick}
use Rattle.ipg_ast.specs.declared.grammar.What.{What}
use Rattle.ipg_ast.specs.declared.grammar.What.TheVariants.{Text, Call}
use Rattle.ipg_app_explain.specs.Bytes.{bytes_words, most_shown}
use Rattle.ipg_app_explain.specs.Spot.{seen_byte}
use Rattle.ipg_app_explain.specs.Terms.{all_rules, alts_of, branch_or, term_at}
use Rattle.ipg_app_explain.specs.Word.{told_bytes}

-- ---- rules

-- a longer name is cut
abbrev pub cut : List ℕ → List ℕ
cut name = take told_bytes name

abbrev pub name_of : Option Rule → List ℕ
name_of None = []
name_of (Some rule) = cut (out-Rule rule).name.name

abbrev pub rule_name : Grammar → ℕ → List ℕ
rule_name g r = name_of (slice_get (all_rules g) r)

abbrev pub count_of : Option Rule → ℕ
count_of None = 0
count_of (Some rule) = length (alts_of rule)

-- how many alternatives a rule has
abbrev pub alternatives : Grammar → ℕ → ℕ
alternatives g r = count_of (slice_get (all_rules g) r)

-- ---- terms

abbrev pub what_words : What → List ℕ
what_words (Text bytes) = bytes_words bytes
what_words (Call name) = cut name

-- what it reads, in a switch at a branch
abbrev pub wanted_of : ℕ → Term → List ℕ
wanted_of branch (Slot slot) = what_words slot.what
wanted_of branch (Set name value) = []
wanted_of branch (Test at cond) = []
wanted_of branch (Repeat var first last item from to) = cut item.name
wanted_of branch (Many at item place) = cut item.name
wanted_of branch (Pick at cases other) = what_words (branch_or (slice_get cases branch) other).what

-- a string in quotes
abbrev pub what_label : What → List ℕ
what_label (Text bytes) = 34 ∷ (map seen_byte (take most_shown bytes) ++ 34 ∷ [])
what_label (Call name) = cut name

-- what its result goes by: the name of what it reads, in a switch of what the first branch reads
abbrev pub label_of : Term → List ℕ
label_of (Slot slot) = what_label slot.what
label_of (Set name value) = []
label_of (Test at cond) = []
label_of (Repeat var first last item from to) = cut item.name
label_of (Many at item place) = cut item.name
label_of (Pick at cases other) = what_label (branch_or (slice_get cases 0) other).what

abbrev pub label_in : Option Term → List ℕ
label_in None = []
label_in (Some term) = label_of term

abbrev pub label_at : Grammar → (r a t : ℕ) → List ℕ
label_at g r a t = label_in (term_at g r a t)

abbrev pub loop_in : Option Term → List ℕ
loop_in None = []
loop_in (Some (Slot slot)) = []
loop_in (Some (Set name value)) = []
loop_in (Some (Test at cond)) = []
loop_in (Some (Repeat var first last item from to)) = cut var.name
loop_in (Some (Many at item place)) = []
loop_in (Some (Pick at cases other)) = []

-- the name of an array's variable
abbrev pub loop_name : Grammar → (r a t : ℕ) → List ℕ
loop_name g r a t = loop_in (term_at g r a t)

-- how many bytes a number takes, by the word of its primitive
abbrev pub width_if : Option Primitive → ℕ
width_if None = 0
width_if (Some prim) = width prim

abbrev pub width_of : List ℕ → ℕ
width_of name = width_if (primitive_of name)

abbrev pub what_size : What → ℕ
what_size (Text bytes) = length bytes
what_size (Call name) = width_of name

-- how many bytes the string or the number takes that it reads
abbrev pub size_of : ℕ → Term → ℕ
size_of branch (Slot slot) = what_size slot.what
size_of branch (Set name value) = 0
size_of branch (Test at cond) = 0
size_of branch (Repeat var first last item from to) = width_of item.name
size_of branch (Many at item place) = width_of item.name
size_of branch (Pick at cases other) = what_size (branch_or (slice_get cases branch) other).what

abbrev pub is_many : Option Term → Bool
is_many None = false
is_many (Some (Slot slot)) = false
is_many (Some (Set name value)) = false
is_many (Some (Test at cond)) = false
is_many (Some (Repeat var first last item from to)) = false
is_many (Some (Many at item place)) = true
is_many (Some (Pick at cases other)) = false
