use Rattle.std.proofs.Common.{arith, sym, length, refl, ◌+◌}
use Rattle.std.proofs.lemmas.Option.{slice_get_read}
use Rattle.ipg_app_explain.specs.Terms.{family}
use Rattle.ipg_app_explain.proofs.Found.{in_piece, piece_more, past_all}
use Rattle.ipg_app_explain.proofs.terms.in_families.Goals as goal

pub returns-in-Ok : goal.returns-in-Ok
returns-in-Ok c =
    let rules = c.args.rules.now in
    let i = c.loop-rule.rule-index in
    let at = slice_get_read rules (length rules) i c.rule-item.result refl c.loop-rule-test.true c.rule-item.is in
    sym (in_piece family rules i c.loop-rule.rest c.rule-item.result c.in-Ok.found.now at c.in-Ok.ensures c.args.number c.loop-rule.invariant)

pub loop-rule-preserved : goal.loop-rule-preserved
loop-rule-preserved c =
    let rules = c.args.rules.now in
    let i = c.loop-rule.rule-index in
    let at = slice_get_read rules (length rules) i c.rule-item.result refl c.loop-rule-test.true c.rule-item.is in
    let more = piece_more family rules i (i + 1) c.rule-item.result at refl in
    omega (arith, more, c.in-Err.ensures, c.loop-rule.invariant)

pub returns : goal.returns
returns c = sym (past_all family c.args.rules.now c.loop-rule.rule-index c.loop-rule.rest c.args.number c.loop-rule-test.false c.loop-rule.invariant)
