-- The good grammar of a body.
use Rattle.std.specs.Prelude.{◌≡◌, map}
use Rattle.ipg_core.specs.declared.grammar.CoreAlt.{CoreAlt}
use Rattle.ipg_core.specs.declared.grammar.CoreRule.{CoreRule}
use Rattle.ipg_core.specs.Grammar.{Grammar}
use Rattle.ipg_core.specs.Good.{Good}
use Rattle.ipg_complete.specs.declared.completed.CompletedAlt.{CompletedAlt}
use Rattle.ipg_complete.specs.declared.completed.CompletedRule.{CompletedRule}
use Rattle.ipg_complete.specs.Unordered.{Unordered}
use Rattle.ipg_store_body.specs.declared.body.Body.{Body}
use Rattle.ipg_store_body.specs.Fits.{bare}
use Rattle.ipg_store_adopt.specs.declared.adopting.AdoptFault.{AdoptFault}
use Rattle.ipg_store_adopt.specs.declared.adopting.AdoptFault.TheVariants.{NotGood, Memory}

-- the grammar is good, and has the body's names and rules
abbrev pub IsGrammarOf : Body → Grammar → Type 0
IsGrammarOf body g = Good g × (bare g ≡ body)

-- no good grammar has the body's names and rules
abbrev pub HasNoGrammar : Body → Type 0
HasNoGrammar body = (g : Grammar) → ¬ IsGrammarOf body g

abbrev pub IsAdoptFault : Body → AdoptFault → Type 0
IsAdoptFault body NotGood = HasNoGrammar body
IsAdoptFault body Memory = Unit {0}

-- ---- a body as a grammar whose terms have no order yet

abbrev pub completed_alt : CoreAlt → CompletedAlt
completed_alt alt = record { terms = alt.terms }

abbrev pub completed_rule : CoreRule → CompletedRule
completed_rule rule = record { name = rule.name; holder = rule.holder; alts = map completed_alt rule.alts }

abbrev pub completed : Body → Unordered
completed body = record { rules = map completed_rule body.rules; names = body.names }

-- the names and rules, as a grammar
abbrev pub grammar_in : Body → Grammar
grammar_in body = record { rules = body.rules; names = body.names }
