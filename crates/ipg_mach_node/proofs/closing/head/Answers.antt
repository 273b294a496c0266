use Rattle.ipg_mach_results.specs.Ends.{ends_view}
use Rattle.ipg_mach_node.proofs.Inside as inside
use Rattle.ipg_mach_node.proofs.closing.head.Goals as goal

pub returns : goal.returns
returns c ones flat within touched =
    inside.head_is c.args.call.now.rule c.args.call.now.size ones (ends_view c.args.ends) c.within.result c.within-2.result flat within
    touched c.within.ensures c.within-2.ensures
