use Rattle.std.proofs.Common.{◌++◌, []}
use Rattle.std.specs.Prelude.{codes}
use Rattle.ipg_tree_view.specs.View.{indented, interval}
use Rattle.ipg_tree_view.proofs.Cuts.{lacks_none}
use Rattle.ipg_tree_view.proofs.view.put_gap.Goals as goal

pub returns : goal.returns
returns g c small =
    let ends = interval c.args.from c.args.to [] in
    let said = codes "gap " ++ ends in
    let all = indented 1 said in
    c.put_piece.ensures said (lacks_none _ all (c.push_interval.ensures all [] (c.push.ensures all ends (c.indent-text.ensures said)))) small
