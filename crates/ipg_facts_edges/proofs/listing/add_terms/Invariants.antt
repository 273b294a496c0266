use Rattle.std.proofs.Common.{◌≡◌, ◌++◌, drop}
use Rattle.ipg_core.specs.Mention.{term_syms}
use Rattle.ipg_facts_edges.specs.Edges.{numbered, syms_edges, terms_edges}
use Rattle.ipg_facts_edges.proofs.listing.add_terms.Given as goal

-- the edges so far, and those of what is left
abbrev pub invariant-loop-number : goal.invariant-loop-number
invariant-loop-number l = l.edges.items ++ numbered l.number (λ u term. syms_edges l.rule l.alt u (term_syms term)) (drop l.number l.terms) ≡ l.fn.edges.items
    ++ terms_edges l.rule l.alt l.terms
