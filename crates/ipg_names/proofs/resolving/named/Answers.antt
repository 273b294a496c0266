use Rattle.std.proofs.Common.{◌≡◌, refl, subst}
use Rattle.ipg_core.specs.Good.{WellFormed}
use Rattle.ipg_names.specs.Resolved.{Resolved, names_of}
use Rattle.ipg_names.specs.Bare.{bare}
use Rattle.ipg_names.proofs.resolving.named.Goals as goal

pub invariant_of-result : goal.invariant_of-result
invariant_of-result c =
    let P : Resolved → Type 0 = λ n. WellFormed (bare n) in
    let same : names_of c.args.g.now ≡ record { rules = c.args.rules; names = c.in_ok-listed.field-0 } =
    rw (c.requires.rules, c.in_ok-listed.ensures, c.requires.attrs) refl in
    subst P same (c.faultless_is_formed.ensures c.args.g.now c.requires.readable c.requires.faultless)
