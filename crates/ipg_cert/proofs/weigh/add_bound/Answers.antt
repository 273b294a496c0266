use Rattle.std.proofs.Common.{arith, ap, subst, ◌&&◌, true, ◌≡◌, ◌∷◌, [], ◌≤◌, ◌^◌, ◌∙◌, pos, ◌*ℤ◌}
use Rattle.std.specs.Int.RustNames.{unsigned_abs}
use Rattle.std.proofs.lemmas.Int.{ints}
use mir.Val.{to_z, of_z}
use mir.Syntax.{w64, w128}
use Rattle.ipg_cert.specs.Totals.{AddsTerms}
use Rattle.ipg_cert.specs.Seen.{form_of}
use Rattle.ipg_cert.proofs.SeenLemmas.{added}
use Rattle.ipg_cert.proofs.TotalsLemmas.{is_small}
use Rattle.ipg_cert.proofs.weigh.add_bound.Goals as goal

pub returns : goal.returns
returns c =
    let bound = c.args.bound.now in
    let small : unsigned_abs bound.sign ≤ 2 ^ 40 = is_small (unsigned_abs bound.sign) bound.coefficient in
    let same : to_z w64 (of_z w64 bound.sign) ≡ bound.sign = omega (arith, ints) in
    let kept : to_z w128 (of_z w128 bound.constant) ≡ bound.constant = omega (arith, ints, bound.sized) in
    added c.args.weight c.args.totals.now.items c.add_terms.new.totals.items _ c.weighted.result (form_of bound) c.requires.weight (omega arith)
    (ap (λ b. b && true) bound.coefficient)
    (subst (λ s. AddsTerms c.args.totals.now.items c.add_terms.new.totals.items c.args.weight ((bound.var, s) ∷ [])) same c.in_ok-add_terms.ensures)
    (omega (arith, ints)) (c.weighted.ensures.value ∙ ap (λ z. pos c.args.weight *ℤ z) kept) c.weighted.ensures.size
