use Rattle.std.proofs.Common.{ap, ◌∙◌, is_some, Result, Ok, Err, IfOk}
use Rattle.ipg_names_scope.specs.declared.marks.Family.TheVariants.{Sets}
use Rattle.ipg_names_scope.specs.Terms.{has}
use Rattle.ipg_names_scope.proofs.Spots.{spots_any}
use Rattle.ipg_names_scope.proofs.tables.outer_of.Goals as goal

if_ok_weaker : {T E : Type 0} (P Q : T → Type 0) (r : Result T E) → ((t : T) → P t → Q t) → IfOk r P → IfOk r Q
if_ok_weaker P Q (Ok t) more h = more t h
if_ok_weaker P Q (Err e) more h = h

pub returns : goal.returns
returns c = if_ok_weaker _ _ c.places.result (λ outer says x. ap is_some (says x) ∙ spots_any (has Sets x) c.args.terms.now 0) c.places.ensures
