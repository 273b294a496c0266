-- The intervals that aren't written, each from the `left` of its term.
use Rattle.std.specs.Prelude.{ℕ, ◌+◌, List, [], ◌∷◌, map, length, pos}
use Rattle.ipg_num.specs.declared.op.Op2.TheVariants.{Add}
use Rattle.ipg_core.specs.declared.grammar.Primitive.{Primitive}
use Rattle.ipg_core.specs.declared.grammar.Primitive.TheVariants.{Bytes}
use Rattle.ipg_core.specs.declared.grammar.Sym.{Sym}
use Rattle.ipg_core.specs.declared.grammar.Sym.TheVariants.{Text, Prim, Rule}
use Rattle.ipg_core.specs.declared.grammar.CoreField.TheVariants.{End}
use Rattle.ipg_core.specs.declared.grammar.CoreExpr.{CoreExpr}
use Rattle.ipg_core.specs.declared.grammar.CoreExpr.TheVariants.{Num, Eoi, Seen, After, Two}
use Rattle.ipg_core.specs.declared.grammar.CoreSlot.{CoreSlot}
use Rattle.ipg_core.specs.declared.grammar.CoreTerm.{CoreTerm}
use Rattle.ipg_core.specs.declared.grammar.CoreTerm.TheVariants as core
use Rattle.ipg_core.specs.Touch.{width}
use Rattle.ipg_names.specs.declared.named.NamedPlace.{NamedPlace}
use Rattle.ipg_names.specs.declared.named.NamedPlace.TheVariants.{Open, Length, Ends}
use Rattle.ipg_names.specs.declared.named.NamedSlot.{NamedSlot}
use Rattle.ipg_names.specs.declared.named.NamedTerm.{NamedTerm}
use Rattle.ipg_names.specs.declared.named.NamedTerm.TheVariants as named
use Rattle.ipg_names.specs.declared.named.NamedAlt.{NamedAlt}
use Rattle.ipg_names.specs.declared.named.NamedRule.{NamedRule}
use Rattle.ipg_names.specs.Resolved.{Resolved}
use Rattle.ipg_complete.specs.declared.completed.CompletedAlt.{CompletedAlt}
use Rattle.ipg_complete.specs.declared.completed.CompletedRule.{CompletedRule}
use Rattle.ipg_complete.specs.Unordered.{Unordered}

-- `left` of an alternative's first term, and behind the term u that has that `left` itself
abbrev pub left_at_first : CoreExpr
left_at_first = Num (pos 0)

abbrev pub behind : ℕ → CoreExpr → CoreTerm → CoreExpr
behind u left (core.Slot slot) = Seen u slot.sym End
behind u left (core.Set attr value) = left
behind u left (core.Test cond) = left
behind u left (core.Repeat first last item from to) = After u left
behind u left (core.Many item from to) = After u left
behind u left (core.Pick cases other) = Seen u (Text []) End

-- so many bytes from `left` on
abbrev pub so_many : CoreExpr → ℕ → CoreExpr
so_many left n = Two Add left (Num (pos n))

abbrev pub number_end : CoreExpr → Primitive → CoreExpr
number_end left Bytes = Eoi
number_end left prim = so_many left (width prim)

-- the right end of a slot or a branch that has no interval
abbrev pub open_end : CoreExpr → Sym → CoreExpr
open_end left (Text bytes) = so_many left (length bytes)
open_end left (Prim prim) = number_end left prim
open_end left (Rule r) = Eoi

-- both ends, with the right end of what has no interval
abbrev pub from_of : CoreExpr → NamedPlace → CoreExpr
from_of left Open = left
from_of left (Length e) = left
from_of left (Ends l r) = l

abbrev pub to_of : CoreExpr → CoreExpr → NamedPlace → CoreExpr
to_of left end Open = end
to_of left end (Length e) = Two Add left e
to_of left end (Ends l r) = r

abbrev pub slot_of : CoreExpr → NamedSlot → CoreSlot
slot_of left slot = record { sym = slot.sym; from = from_of left slot.place; to = to_of left (open_end left slot.sym) slot.place }

abbrev pub case_of : CoreExpr → CoreExpr × NamedSlot → CoreExpr × CoreSlot
case_of left c = (c.0, slot_of left c.1)

abbrev pub term_of : CoreExpr → NamedTerm → CoreTerm
term_of left (named.Slot slot) = core.Slot (slot_of left slot)
term_of left (named.Set attr value) = core.Set attr value
term_of left (named.Test cond) = core.Test cond
term_of left (named.Repeat first last item from to) = core.Repeat first last item from to
term_of left (named.Many item place) = core.Many item (from_of left place) (to_of left Eoi place)
term_of left (named.Pick cases other) = core.Pick (map (case_of left) cases) (slot_of left other)

-- the terms from number u on, the first with that `left`
abbrev pub terms_from : ℕ → CoreExpr → List NamedTerm → List CoreTerm
terms_from u left [] = []
terms_from u left (t ∷ ts) = term_of left t ∷ terms_from (u + 1) (behind u left (term_of left t)) ts

abbrev pub alt_of : NamedAlt → CompletedAlt
alt_of alt = record { terms = terms_from 0 left_at_first alt.terms }

abbrev pub rule_of : NamedRule → CompletedRule
rule_of rule = record { name = rule.name; holder = rule.holder; alts = map alt_of rule.alts }

-- the grammar with every interval written out
abbrev pub completed : Resolved → Unordered
completed n = record { rules = map rule_of n.rules; names = n.names }
