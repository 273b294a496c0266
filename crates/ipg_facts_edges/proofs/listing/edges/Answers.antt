use Rattle.std.proofs.Common.{sym, subst, ap, ◌∙◌}
use Rattle.std.proofs.lemmas.Option.{slice_get_read}
use Rattle.std.specs.Prelude.{slice_get}
use Rattle.std.proofs.Common.{refl}
use Rattle.ipg_facts_edges.specs.Few.{FewAlts}
use Rattle.ipg_facts_edges.proofs.Few.{few_alts}
use Rattle.ipg_facts_edges.proofs.listing.edges.Goals as goal

pub add_alts-requires : goal.add_alts-requires
add_alts-requires c =
    let rules = c.rules-of-items.result.now in
    let is = slice_get_read rules _ c.loop-rule.rule c.of-item.result refl c.loop-rule-test.true c.of-item.is in
    let there = sym (ap (λ rs. slice_get rs c.loop-rule.rule) c.rules-of-items.ensures.rules) ∙ is in
    subst FewAlts (sym c.as_slice.ensures) (few_alts c.args.g.now c.rules-of-items.ensures.good c.loop-rule.rule c.of-item.result there)
