use Rattle.std.proofs.Common.{◌∙◌, ap, map}
use Rattle.ipg_names_scope.proofs.Once.{shown_once}
use Rattle.ipg_names_scope.proofs.names.add_name.Goals as goal

pub returns : goal.returns
returns c = ap (map (λ name. name.now)) c.in_ok-insert.ensures.keys ∙ shown_once c.args.names.now.keys c.args.name
