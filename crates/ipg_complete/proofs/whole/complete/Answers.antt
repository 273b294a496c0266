use Rattle.std.proofs.Common.{◌≡◌, ap, ◌∙◌, List, ℕ, map}
use Rattle.ipg_names.specs.Resolved.{Resolved}
use Rattle.ipg_names.specs.declared.named.NamedRule.{NamedRule}
use Rattle.ipg_complete.specs.declared.completed.CompletedRule.{CompletedRule}
use Rattle.ipg_complete.specs.Unordered.{Unordered}
use Rattle.ipg_complete.specs.Completion.{completed, rule_of}
use Rattle.ipg_complete.proofs.Keeping.{whole, are_few}
use Rattle.ipg_complete.proofs.whole.complete.Goals as goal

abbrev resolved : List NamedRule → List (List ℕ) → Resolved
resolved rules names = record { rules = rules; names = names }

abbrev unordered : List CompletedRule → List (List ℕ) → Unordered
unordered rules names = record { rules = rules; names = names }

pub rules-requires : goal.rules-requires
rules-requires c = are_few (resolved c.n.inside.rules c.n.inside.names) c.n.invariant

pub invariant_of-result : goal.invariant_of-result
invariant_of-result c = rw c.in_ok-rules.ensures (whole (resolved c.n.inside.rules c.n.inside.names) c.n.invariant)

pub returns : goal.returns
returns c = ap (λ rules. unordered rules c.n.inside.names) c.in_ok-rules.ensures ∙ ap completed c.n.view_is
