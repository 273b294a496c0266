use Rattle.std.proofs.Common.{◌≡◌, ◌∙◌, sym, subst, ◌≤◌, ◌+◌}
use Rattle.ipg_core.specs.Tree.{Node}
use Rattle.ipg_mach_nodes.specs.Stored.{kids_levels}
use Rattle.ipg_query.proofs.inside.levels_at.Goals as goal

pub returns-in-Some : goal.returns-in-Some
returns-in-Some c src st at (Node rule size attrs start end kids) h =
    let has = h.stands.1 in
    let same : c.in-Some.node ≡ has.node = let e = sym c.in-Some.is ∙ h.is_at has.node has.is_node in cc in
    subst (λ node. kids_levels kids + 1 ≤ node.levels) (sym same) has.are_levels

pub returns-in-None : goal.returns-in-None
returns-in-None c src st at (Node rule size attrs start end kids) h =
    let e = sym c.in-None.is ∙ h.is_at h.stands.1.node h.stands.1.is_node in
    absurd (cc)
