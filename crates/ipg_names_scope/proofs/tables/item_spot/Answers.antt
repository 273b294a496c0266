use Rattle.std.proofs.Common.{ap, ◌∙◌}
use Rattle.ipg_names_scope.specs.Scope.{inside}
use Rattle.ipg_names_scope.specs.Site.{spot_scope}
use Rattle.ipg_names_scope.proofs.Narrowed.{narrowed}
use Rattle.ipg_names_scope.proofs.tables.item_spot.Goals as goal

pub returns : goal.returns
returns c =
    narrowed c.args.spot.now (record { var = c.as_slice.result; item = c.as_slice-2.result }) c.requires
    ∙ ap (λ v. inside (spot_scope c.args.spot.now) v c.as_slice-2.result.now) c.as_slice.ensures
    ∙ ap (λ i. inside (spot_scope c.args.spot.now) c.args.var.now.name i) c.as_slice-2.ensures
