use Rattle.std.proofs.Common.{refl, sym, ap, ◌∙◌, arith}
use Rattle.std.proofs.lemmas.List.{drop_all}
use Rattle.ipg_mach_failures.specs.Values as spec
use Rattle.ipg_mach_failures.proofs.Among as among
use Rattle.ipg_mach_failures.proofs.values.is_among.Goals as goal

pub loop-one-init : goal.loop-one-init
loop-one-init c = refl

pub returns-then-is_value_of : goal.returns-then-is_value_of
returns-then-is_value_of c =
    sym (among.is_one c.args.values.now c.loop-one.one-index c.args.operand _ c.loop-one-test.true c.loop-one.invariant
    (sym c.is_value_of.ensures ∙ c.if-is_value_of.true))

pub loop-one-preserved : goal.loop-one-preserved
loop-one-preserved c =
    among.is_later c.args.values.now c.loop-one.one-index c.args.operand _ c.loop-one-test.true c.loop-one.invariant
    (sym c.is_value_of.ensures ∙ c.if-is_value_of.false)

pub returns : goal.returns
returns c =
    let values = c.args.values.now in
    let here = c.loop-one in
    sym (here.invariant ∙ ap (λ l. spec.is_among l c.args.operand) (drop_all here.one-index values (omega (arith, c.loop-one-test.false))))
