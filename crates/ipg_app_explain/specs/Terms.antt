-- Where a term stands in a text, by the number of its rule, of its alternative, and its own.
use Rattle.std.specs.Prelude.{ℕ, List, ◌∷◌, flat_map, slice_get, Option, None, Some}
use Rattle.std.specs.Option.{option_map, option_and_then}
use Rattle.ipg_ast.specs.declared.grammar.Grammar.{Grammar}
use Rattle.ipg_ast.specs.declared.grammar.Rule.{Rule, out-Rule}
use Rattle.ipg_ast.specs.declared.grammar.Alt.{Alt, out-Alt}
use Rattle.ipg_ast.specs.declared.grammar.Term.{Term}
use Rattle.ipg_ast.specs.declared.grammar.Term.TheVariants.{Slot, Set, Test, Repeat, Many, Pick}
use Rattle.ipg_ast.specs.declared.grammar.Case.{Case}
use Rattle.ipg_ast.specs.declared.grammar.Slot as written

abbrev pub alts_of : Rule → List Alt
alts_of rule = (out-Rule rule).alts

abbrev pub locals_of : Alt → List Rule
locals_of alt = (out-Alt alt).locals

-- a global rule, and the local rules of its alternatives
abbrev pub family : Rule → List Rule
family rule = rule ∷ flat_map locals_of (alts_of rule)

-- all rules, in the order of their heads
abbrev pub all_rules : Grammar → List Rule
all_rules g = flat_map family g.rules

abbrev pub terms_of : Alt → List Term
terms_of alt = (out-Alt alt).terms

-- term t of alternative a of rule r, where there is one
abbrev pub term_at : Grammar → (r a t : ℕ) → Option Term
term_at g r a t = option_and_then (λ rule. option_and_then (λ alt. slice_get (terms_of alt) t) (slice_get (alts_of rule) a)) (slice_get (all_rules g) r)

-- an attribute begins with its name here, and an array with its variable
abbrev pub begin_of : Term → ℕ
begin_of (Slot slot) = slot.span.from
begin_of (Set name value) = name.span.from
begin_of (Test at cond) = at.from
begin_of (Repeat var first last item from to) = var.span.from
begin_of (Many at item place) = at.from
begin_of (Pick at cases other) = at.from

abbrev pub branch_or : Option Case → written.Slot → written.Slot
branch_or None other = other
branch_or (Some one) other = one.slot

-- where what a term calls is named: its item, or the slot of a branch, of which the last is the one behind `else`
abbrev pub call_of : ℕ → Term → ℕ
call_of branch (Slot slot) = slot.span.from
call_of branch (Set name value) = name.span.from
call_of branch (Test at cond) = at.from
call_of branch (Repeat var first last item from to) = item.span.from
call_of branch (Many at item place) = item.span.from
call_of branch (Pick at cases other) = (branch_or (slice_get cases branch) other).span.from

abbrev pub term_place : Grammar → (r a t : ℕ) → Option ℕ
term_place g r a t = option_map begin_of (term_at g r a t)

abbrev pub call_place : Grammar → (r a t branch : ℕ) → Option ℕ
call_place g r a t branch = option_map (call_of branch) (term_at g r a t)
