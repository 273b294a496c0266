-- The scope of an item interval, by its tables.
use Rattle.std.proofs.Common.{◌≡◌, sym, ap, Some, None}
use Rattle.ipg_names_scope.specs.declared.tables.Inside.{Inside}
use Rattle.ipg_names_scope.specs.declared.tables.TermSpot.{TermSpot}
use Rattle.ipg_names_scope.specs.Scope.{inside}
use Rattle.ipg_names_scope.specs.Site.{spot_scope, scope_at}

pub narrowed : (spot : TermSpot) (i : Inside) → spot.inside ≡ None
    → spot_scope (record { site = spot.site; inside = Some i }) ≡ inside (spot_scope spot) i.var.now i.item.now
unfolding spot_scope
narrowed spot i e = ap (λ o. inside (scope_at spot.site.now o) i.var.now i.item.now) (sym e)
