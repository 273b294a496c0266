use Rattle.std.proofs.Common.{◌≡◌, [], ◌∷◌, subst, sym}
use Rattle.ipg_query.specs.Picked.{members}
use Rattle.ipg_query.proofs.Piling.{no_children, none_named, none_nth}
use Rattle.ipg_query.proofs.deeper.takes_children.Goals as goal

pub returns-in-Named : goal.returns-in-Named
returns-in-Named c grammar rest x e none =
    subst (λ s. members grammar (s ∷ rest) (x ∷ []) ≡ []) (sym c.in-Named.is) (none_named grammar x none _ rest)

pub returns-in-Nth : goal.returns-in-Nth
returns-in-Nth c grammar rest x e none =
    subst (λ s. members grammar (s ∷ rest) (x ∷ []) ≡ []) (sym c.in-Nth.is) (none_nth grammar x none _ _ rest)

pub returns-in-Children : goal.returns-in-Children
returns-in-Children c grammar rest x e none =
    subst (λ s. members grammar (s ∷ rest) (x ∷ []) ≡ []) (sym c.in-Children.is) (no_children grammar x none rest)
