use Rattle.ipg_names_scope.proofs.Scopes as scopes
use Rattle.ipg_names_scope.proofs.laws.tables_tell.Goals as goal

pub returns : goal.returns
returns c = scopes.scope_here
