-- A resolved grammar as a core grammar: a part of an interval that isn't written mentions nothing, and terms have no order yet.
use Rattle.std.specs.Prelude.{[], map, pos}
use Rattle.ipg_core.specs.declared.grammar.CoreExpr.{CoreExpr}
use Rattle.ipg_core.specs.declared.grammar.CoreExpr.TheVariants.{Num, Eoi}
use Rattle.ipg_core.specs.declared.grammar.CoreSlot.{CoreSlot}
use Rattle.ipg_core.specs.declared.grammar.CoreTerm.{CoreTerm}
use Rattle.ipg_core.specs.declared.grammar.CoreTerm.TheVariants as core
use Rattle.ipg_core.specs.declared.grammar.CoreAlt.{CoreAlt}
use Rattle.ipg_core.specs.declared.grammar.CoreRule.{CoreRule}
use Rattle.ipg_core.specs.Grammar.{Grammar}
use Rattle.ipg_names.specs.declared.named.NamedPlace.{NamedPlace}
use Rattle.ipg_names.specs.declared.named.NamedPlace.TheVariants.{Open, Length, Ends}
use Rattle.ipg_names.specs.declared.named.NamedSlot.{NamedSlot}
use Rattle.ipg_names.specs.declared.named.NamedTerm.{NamedTerm}
use Rattle.ipg_names.specs.declared.named.NamedTerm.TheVariants as named
use Rattle.ipg_names.specs.declared.named.NamedAlt.{NamedAlt}
use Rattle.ipg_names.specs.declared.named.NamedRule.{NamedRule}
use Rattle.ipg_names.specs.Resolved.{Resolved}

abbrev pub bare_from : NamedPlace → CoreExpr
bare_from Open = Num (pos 0)
bare_from (Length e) = Num (pos 0)
bare_from (Ends l r) = l

abbrev pub bare_to : NamedPlace → CoreExpr
bare_to Open = Eoi
bare_to (Length e) = e
bare_to (Ends l r) = r

abbrev pub bare_slot : NamedSlot → CoreSlot
bare_slot slot = record { sym = slot.sym; from = bare_from slot.place; to = bare_to slot.place }

abbrev pub bare_case : CoreExpr × NamedSlot → CoreExpr × CoreSlot
bare_case c = (c.0, bare_slot c.1)

abbrev pub bare_term : NamedTerm → CoreTerm
bare_term (named.Slot slot) = core.Slot (bare_slot slot)
bare_term (named.Set attr value) = core.Set attr value
bare_term (named.Test cond) = core.Test cond
bare_term (named.Repeat first last item from to) = core.Repeat first last item from to
bare_term (named.Many item place) = core.Many item (bare_from place) (bare_to place)
bare_term (named.Pick cases other) = core.Pick (map bare_case cases) (bare_slot other)

abbrev pub bare_alt : NamedAlt → CoreAlt
bare_alt alt = record { terms = map bare_term alt.terms; order = [] }

abbrev pub bare_rule : NamedRule → CoreRule
bare_rule rule = record { name = rule.name; holder = rule.holder; alts = map bare_alt rule.alts }

abbrev pub bare : Resolved → Grammar
bare n = record { rules = map bare_rule n.rules; names = n.names }
