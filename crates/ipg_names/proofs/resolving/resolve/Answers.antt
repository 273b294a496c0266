use Rattle.ipg_names.proofs.Counts.{names_few}
use Rattle.ipg_names.proofs.resolving.resolve.Goals as goal

pub attrs_of-requires : goal.attrs_of-requires
attrs_of-requires c = names_few c.args.g.now c.requires
