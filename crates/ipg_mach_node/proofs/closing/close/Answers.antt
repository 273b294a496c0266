use Rattle.std.proofs.Common.{◌∙◌}
use Rattle.ipg_mach_node.proofs.Nodes as nodes
use Rattle.ipg_mach_node.proofs.closing.close.Goals as goal

pub returns-clause-tree : goal.returns-clause-tree
returns-clause-tree g c =
    nodes.if_ok c.add_node.result _ _ _ c.add_node.ensures.id c.add_node.ensures.stored
    (λ id place is src at f terms state closes.
    nodes.closed src c.args.store.now at c.args.tables.now c.args.call.now f terms state closes c.kids_stay.ensures c.grows_on.ensures.node _ _ _ _ _ id
    place is (c.as_slice.ensures.value ∙ c.in_ok-put_attrs.ensures) (c.as_slice-kids.ensures.value ∙ c.in_ok-put_kids.ensures)
    (λ src at ones e h flat within. c.head.ensures ones flat within (c.extent-extent.ensures.ends src at ones e h flat))
    (λ src at ones e h flat. nodes.one_above ones _ _ (c.extent-extent.ensures.levels src at ones e h flat) c.in_ok-levels.ensures))
