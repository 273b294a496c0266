use Rattle.std.proofs.Common.{◌≡◌, ◌++◌, drop}
use Rattle.ipg_facts_edges.specs.Edges.{numbered, terms_edges, alts_edges}
use Rattle.ipg_facts_edges.proofs.listing.add_alts.Given as goal

-- the edges so far, and those of what is left
abbrev pub invariant-loop-alt : goal.invariant-loop-alt
invariant-loop-alt l = l.edges.items ++ numbered l.alt (λ a alt. terms_edges l.rule a alt.terms) (drop l.alt l.alts) ≡ l.fn.edges.items
    ++ alts_edges l.rule l.alts
