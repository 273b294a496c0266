use Rattle.std.proofs.Common.{◌≡◌, ◌++◌, drop}
use Rattle.ipg_facts_edges.specs.Edges.{numbered, alts_edges, edges_of}
use Rattle.ipg_facts_edges.proofs.listing.edges.Given as goal

-- the edges so far, and those of what is left
abbrev pub invariant-loop-rule : goal.invariant-loop-rule
invariant-loop-rule l = l.edges.items ++ numbered l.rule (λ r rule. alts_edges r rule.alts) (drop l.rule l.of-items) ≡ edges_of l.g
