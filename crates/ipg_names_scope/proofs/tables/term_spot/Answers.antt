use Rattle.ipg_names_scope.proofs.Scopes.{spot_plain}
use Rattle.ipg_names_scope.proofs.tables.term_spot.Goals as goal

pub returns-clause-scope : goal.returns-clause-scope
returns-clause-scope c = spot_plain c.args.site
