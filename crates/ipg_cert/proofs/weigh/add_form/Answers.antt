use Rattle.std.proofs.Common.{true, arith, ap, subst, ◌∙◌, pos, ◌*ℤ◌, ◌≡◌}
use Rattle.std.proofs.lemmas.Int.{ints}
use mir.Val.{to_z, of_z}
use mir.Syntax.{w128}
use Rattle.ipg_lin.specs.Form.{in_rule}
use Rattle.ipg_cert.specs.Totals.{AddsTerms}
use Rattle.ipg_cert.proofs.SeenLemmas.{added, rule_few, rule_small}
use Rattle.ipg_cert.proofs.weigh.add_form.Goals as goal

pub returns : goal.returns
returns c =
    let rule = subst (λ ts. in_rule ts ≡ true) c.terms.ensures.value c.terms.ensures.rule in
    let constant : to_z w128 (of_z w128 c.from.result) ≡ c.args.form.now.constant =
    omega (arith, ints, c.from.ensures, c.constant.ensures, c.constant.type_inv) in
    added c.args.weight c.args.totals.now.items c.add_terms.new.totals.items _ c.weighted.result c.args.form.now c.requires.weight
    (rule_few c.args.form.now.terms rule) (rule_small c.args.form.now.terms rule)
    (subst (AddsTerms c.args.totals.now.items c.add_terms.new.totals.items c.args.weight) c.terms.ensures.value c.in_ok-add_terms.ensures)
    (omega (arith, ints)) (c.weighted.ensures.value ∙ ap (λ z. pos c.args.weight *ℤ z) constant) c.weighted.ensures.size
