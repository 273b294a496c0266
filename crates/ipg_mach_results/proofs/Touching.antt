-- What children touch together, one child more before the others.
use Rattle.std.proofs.Common.{◌≡◌, sym, ap, ◌∙◌}
use Rattle.ipg_core.specs.Tree.{Kid, Kids, kid}
use Rattle.ipg_core.specs.Touch.{Ends, kid_touches, kids_touch, together}

pub one_before : (one : Kid) (more ones : Kids) (none e behind all : Ends) → all ≡ together e behind → e ≡ kid_touches one none
    → behind ≡ kids_touch more none → ones ≡ kid one more → all ≡ kids_touch ones none
one_before one more ones none e behind all is ends rest are =
    is ∙ ap (λ x. together x behind) ends ∙ ap (together (kid_touches one none)) rest ∙ sym (ap (λ ks. kids_touch ks none) are)

pub none_as : (one : Kid) (none other e : Ends) → none ≡ other → e ≡ kid_touches one none → e ≡ kid_touches one other
none_as one none other e same is = is ∙ ap (kid_touches one) same
