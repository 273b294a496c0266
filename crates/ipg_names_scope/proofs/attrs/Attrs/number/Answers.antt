use Rattle.std.proofs.Common.{◌∙◌}
use Rattle.ipg_names_scope.proofs.Once.{found_there, found_nowhere}
use Rattle.ipg_names_scope.proofs.attrs.Attrs.number.Goals as goal

pub returns-in-Some : goal.returns-in-Some
returns-in-Some c = found_there c.args.name.now c.args.self.now.names.keys c.in-Some.number c.in-Some.ensures.index

pub returns-in-None : goal.returns-in-None
returns-in-None c = c.len.ensures.len ∙ found_nowhere c.args.name.now c.args.self.now.names.keys c.in-None.ensures.index
