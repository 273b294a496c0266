use Rattle.std.proofs.Common.{◌≡◌, ◌++◌, drop, [], if◌then◌else◌}
use Rattle.ipg_core.specs.MustTouch.{is_marked}
use Rattle.ipg_facts_edges.specs.Edges.{numbered}
use Rattle.ipg_cover.specs.Cover.{alternatives_of, alternatives}
use Rattle.ipg_cover.proofs.listing.alternatives.Given as goal

-- the places so far, and those of what is left
abbrev pub invariant-loop-rule : goal.invariant-loop-rule
invariant-loop-rule l = l.places.items
    ++ numbered l.rule (λ r rule. if is_marked l.flags r then alternatives_of r rule.alts else []) (drop l.rule l.of-items) ≡ alternatives l.g l.flags
