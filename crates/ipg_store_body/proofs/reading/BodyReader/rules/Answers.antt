use Rattle.std.proofs.Common.{◌≡◌, ◌-◌, ◌+◌, suc, subst, sym, arith}
use Rattle.ipg_store_body.specs.Reading.{rule_at}
use Rattle.ipg_store_body.proofs.Loops.{Goes, starts, more, halts, ends}
use Rattle.ipg_store_body.proofs.reading.BodyReader.rules.Goals as goal

pub loop-at-init : goal.loop-at-init
loop-at-init c =
    starts rule_at c.args.self.now.bytes.left.now c.in_ok-count.count c.long.new.self.left.now c.new-rules.result.items (c.in_ok-count.count - 0)
    c.new-rules.ensures.items (omega arith) c.in_ok-count.ensures

pub loop-at-preserved : goal.loop-at-preserved
loop-at-preserved c =
    let count = c.in_ok-count.count in
    let at = c.loop-at._at in
    let size : count - at ≡ suc (count - (at + 1)) = omega (arith, c.loop-at-test.true) in
    subst (λ xs. Goes rule_at c.args.self.now.bytes.left.now xs (count - (at + 1)) c.rule.new.self.bytes.left.now) (sym c.in_ok-push.ensures.items)
    (more rule_at c.args.self.now.bytes.left.now c.loop-at.rules.items (count - at) (count - (at + 1)) c.loop-at.self.bytes.left.now
    c.rule.new.self.bytes.left.now c.in_ok-rule.rule size c.in_ok-rule.ensures c.loop-at.invariant)

pub returns-in_err-rule : goal.returns-in_err-rule
returns-in_err-rule c =
    let count = c.in_ok-count.count in
    let at = c.loop-at._at in
    let size : count - at ≡ suc (count - (at + 1)) = omega (arith, c.loop-at-test.true) in
    halts rule_at c.args.self.now.bytes.left.now c.loop-at.rules.items (count - at) (count - (at + 1)) c.loop-at.self.bytes.left.now
    c.rule.new.self.bytes.left.now c.in_err-rule.field-0.0 c.from_residual-in_err-rule.result size c.from_residual-in_err-rule.ensures.1
    c.in_err-rule.ensures c.loop-at.invariant

pub returns : goal.returns
returns c =
    let count = c.in_ok-count.count in
    let done : count - c.loop-at._at ≡ 0 = omega (arith, c.loop-at-test.false) in
    ends rule_at c.args.self.now.bytes.left.now c.loop-at.rules.items c.from_vec.result (count - c.loop-at._at) c.loop-at.self.bytes.left.now done
    c.from_vec.ensures c.loop-at.invariant
