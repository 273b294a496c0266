use Rattle.std.proofs.Common.{◌++◌}
use Rattle.std.specs.Prelude.{codes, decimal}
use Rattle.ipg_tree_view.proofs.view.push_interval.Goals as goal

pub returns : goal.returns
returns c all end h =
    c.push_number-2.ensures all end (c.push.ensures all (decimal c.args.to ++ end) (c.push_number.ensures all (codes ".." ++ (decimal c.args.to ++ end)) h))
