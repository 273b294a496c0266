use Rattle.std.proofs.Common.{◌≡◌, ◌++◌, drop}
use Rattle.ipg_facts_edges.specs.Edges.{numbered, call}
use Rattle.ipg_facts_edges.proofs.listing.add_branches.Given as goal

-- the edges so far, and those of what is left
abbrev pub invariant-loop-branch : goal.invariant-loop-branch
invariant-loop-branch l = l.edges.items ++ numbered l.branch (λ b c. call l.at.rule l.at.alt l.at.term b c.1.sym) (drop l.branch l.cases) ≡ l.fn.edges.items
    ++ numbered 0 (λ b c. call l.at.rule l.at.alt l.at.term b c.1.sym) l.cases
