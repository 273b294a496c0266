use Rattle.std.proofs.Common.{◌∙◌, subst, drop}
use Rattle.ipg_mach_moves.specs.Moves.{alts_of}
use Rattle.ipg_core.specs.Grammar.{rule_at}
use Rattle.ipg_mach.specs.Calls.{IsNext}
use Rattle.ipg_mach.proofs.Rows as rows
use Rattle.ipg_mach.proofs.alternatives.sets_of.Goals as goal

pub returns-in-Some : goal.returns-in-Some
returns-in-Some c g own rest stand stands =
    let those = drop c.args.alt (alts_of (rule_at g c.args.rule)) in
    let next = subst (λ found. IsNext c.args.tables.now found those) c.in-Some.is (c.alternative.ensures g stand) in
    c.sets.ensures ∙ rows.sets_there c.args.tables.now c.in-Some.row.now those rest own next stands

pub returns-in-None : goal.returns-in-None
returns-in-None c g own rest stand stands =
    let none = subst (λ found. IsNext c.args.tables.now found (drop c.args.alt (alts_of (rule_at g c.args.rule)))) c.in-None.is
    (c.alternative.ensures g stand) in
    absurd (cc)
