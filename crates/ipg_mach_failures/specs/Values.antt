-- The names that the expressions of a term that fails read, with their values.
use Rattle.std.specs.Prelude.{ℕ, List, [], ◌∷◌, ◌++◌, length, flat_map, Option, Some, None, Bool, true, false, ◌&&◌, ◌||◌, if◌then◌else◌, ℤ, pos}
use Rattle.std.specs.Prelude.{nat_eq, nat_le, slice_get}
use Rattle.ipg_core.specs.declared.grammar.Sym.{Sym}
use Rattle.ipg_core.specs.declared.grammar.Sym.TheVariants as syms
use Rattle.ipg_core.specs.declared.grammar.CoreField.{CoreField}
use Rattle.ipg_core.specs.declared.grammar.CoreField.TheVariants as fields
use Rattle.ipg_core.specs.declared.grammar.CoreExpr.{CoreExpr, fold-CoreExpr}
use Rattle.ipg_core.specs.declared.grammar.CoreExpr.TheOpen.{CoreExpr-F}
use Rattle.ipg_core.specs.declared.grammar.CoreSlot.{CoreSlot}
use Rattle.ipg_core.specs.declared.grammar.CoreTerm.{CoreTerm}
use Rattle.ipg_core.specs.declared.grammar.CoreTerm.TheVariants as terms
use Rattle.ipg_core.specs.Grammar.{primitive_number}
use Rattle.ipg_core.specs.Tree.{Array, kids_of}
use Rattle.ipg_core.specs.Environment.{Environment, value_at, done_at, seen}
use Rattle.ipg_core.specs.Meaning.{Frame, State, environment, with_kid}
use Rattle.ipg_mach_moves.specs.Moves.{Entry, Outside, Items, Turns, OpenCall}
use Rattle.ipg_mach_failures.specs.declared.failure.Cause.{Cause}
use Rattle.ipg_mach_failures.specs.declared.failure.Cause.TheVariants.{Differs, CutShort, NoInterval, IsZero, NoValue}
use Rattle.ipg_mach_failures.specs.declared.failure.Failure.{Failure}
use Rattle.ipg_mach_failures.specs.declared.values.Taken.{Taken}
use Rattle.ipg_mach_failures.specs.declared.values.Taken.TheVariants.{Text, Prim, Rule}
use Rattle.ipg_mach_failures.specs.declared.values.Operand.{Operand}
use Rattle.ipg_mach_failures.specs.declared.values.Operand.TheVariants.{Eoi, Own, Outer, Loop, Seen}
use Rattle.ipg_mach_failures.specs.declared.values.Valued.{Valued}
use Rattle.ipg_mach_failures.specs.Chain.{first_left}

abbrev pub valued : Operand → Option ℤ → Valued
valued operand value = record { operand = operand; value = value }

abbrev pub taken_of : Sym → Taken
taken_of (syms.Text bytes) = Text
taken_of (syms.Prim prim) = Prim prim
taken_of (syms.Rule r) = Rule r

abbrev pub seen_by : ℕ → Taken → CoreField → Operand
seen_by term taken field = Seen term taken field

-- ---- what an expression reads

-- one expression in an environment, what each part of it reads at hand; of an item of an array what its index reads
abbrev pub reads_step : Environment → CoreExpr-F (List Valued) → List Valued
reads_step env (CoreExpr-F.Num z) = []
reads_step env CoreExpr-F.Eoi = valued Eoi (Some (pos env.eoi)) ∷ []
reads_step env (CoreExpr-F.Own a) = valued (Own a) (value_at env.own a) ∷ []
reads_step env (CoreExpr-F.Outer a) = valued (Outer a) (value_at env.outer a) ∷ []
reads_step env CoreExpr-F.Loop = valued Loop env.item ∷ []
reads_step env (CoreExpr-F.Seen term sym field) = valued (seen_by term (taken_of sym) field) (seen env.names sym field (done_at env.done term)) ∷ []
reads_step env (CoreExpr-F.Item term index field) = index
reads_step env (CoreExpr-F.After term left) = left
reads_step env (CoreExpr-F.Neg a) = a
reads_step env (CoreExpr-F.Not a) = a
reads_step env (CoreExpr-F.Two op a b) = a ++ b
reads_step env (CoreExpr-F.Both a b) = a ++ b
reads_step env (CoreExpr-F.Either a b) = a ++ b
reads_step env (CoreExpr-F.Cond c a b) = c ++ (a ++ b)

-- the names in an expression, from its left to its right, each with the value that it has
unfoldable pub reads : Environment → CoreExpr → List Valued
reads env = fold-CoreExpr (List Valued) (reads_step env)

-- ---- each name once

abbrev pub same_taken : Taken → Taken → Bool
same_taken Text Text = true
same_taken (Prim a) (Prim b) = nat_eq (primitive_number a) (primitive_number b)
same_taken (Rule a) (Rule b) = nat_eq a b
same_taken _ _ = false

abbrev pub same_field : CoreField → CoreField → Bool
same_field (fields.Attr a) (fields.Attr b) = nat_eq a b
same_field fields.Start fields.Start = true
same_field fields.End fields.End = true
same_field _ _ = false

abbrev pub same_operand : Operand → Operand → Bool
same_operand Eoi Eoi = true
same_operand (Own a) (Own b) = nat_eq a b
same_operand (Outer a) (Outer b) = nat_eq a b
same_operand Loop Loop = true
same_operand (Seen t by f) (Seen u taken g) = nat_eq t u && (same_taken by taken && same_field f g)
same_operand _ _ = false

abbrev pub is_among : List Valued → Operand → Bool
is_among [] operand = false
is_among (one ∷ values) operand = same_operand one.operand operand || is_among values operand

-- one more, unless its name is there, or eight are
abbrev pub with_value : List Valued → Valued → List Valued
with_value values one = if is_among values one.operand || nat_le 8 (length values) then values else values ++ one ∷ []

abbrev pub with_values : List Valued → List Valued → List Valued
with_values values [] = values
with_values values (one ∷ more) = with_values (with_value values one) more

-- each name once, where it is read first, eight at most
abbrev pub few_of : List Valued → List Valued
few_of read = with_values [] read

-- ---- the expressions of a term

abbrev pub in_slot : CoreSlot → List CoreExpr
in_slot slot = slot.from ∷ slot.to ∷ []

-- of an array its bounds as it is entered, then the ends of the next item's interval
abbrev pub in_array : Entry → (first last from to : CoreExpr) → List CoreExpr
in_array Outside first last from to = first ∷ last ∷ []
in_array (Items n i items) first last from to = from ∷ to ∷ []
in_array (Turns p r items) first last from to = []

-- of a switch the condition of the branch and the ends of its interval
abbrev pub in_branch : Option (CoreExpr × CoreSlot) → CoreSlot → List CoreExpr
in_branch None other = in_slot other
in_branch (Some one) other = one.0 ∷ in_slot one.1

-- of a term entered there, in a switch at a branch
abbrev pub in_term : Entry → ℕ → CoreTerm → List CoreExpr
in_term entry branch (terms.Slot slot) = in_slot slot
in_term entry branch (terms.Set attr e) = e ∷ []
in_term entry branch (terms.Test e) = e ∷ []
in_term entry branch (terms.Repeat first last sym from to) = in_array entry first last from to
in_term entry branch (terms.Many sym from to) = from ∷ to ∷ []
in_term entry branch (terms.Pick cases other) = in_branch (slice_get cases branch) other

-- ---- an open call

-- what they are evaluated in; in an array its items so far stand for its result
abbrev pub environment_in : Frame → State → ℕ → Entry → CoreTerm → Environment
environment_in f state u (Items n i items) (terms.Repeat first last sym from to) =
    environment f (with_kid state u false (Array sym (kids_of items))) (Some i)
environment_in f state u entry term = environment f state None

-- what its term u reads, in a switch at a branch
abbrev pub values_at : OpenCall → ℕ → ℕ → Option CoreTerm → List Valued
values_at c u branch None = []
values_at c u branch (Some term) = few_of (flat_map (reads (environment_in c.frame c.state u c.entry term)) (in_term c.entry branch term))

-- where the bytes are to blame, no value is told
abbrev pub if_asked : Cause → List Valued → List Valued
if_asked (Differs agreed) values = []
if_asked (CutShort left) values = []
if_asked (NoInterval from to) values = values
if_asked IsZero values = values
if_asked NoValue values = values

-- what its term at hand reads, in a switch at a branch
abbrev pub read_at_hand : OpenCall → ℕ → List Valued
read_at_hand c branch = values_at c (first_left c.left) branch (slice_get c.terms (first_left c.left))

-- where that fails so
abbrev pub values_of : OpenCall → Failure → List Valued
values_of c failure = if_asked failure.cause (read_at_hand c failure.branch)
