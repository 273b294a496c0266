use Rattle.std.proofs.Common.{◌≡◌, ◌-◌, ◌+◌, suc, subst, sym, arith}
use Rattle.ipg_reader.specs.Found.{text_at}
use Rattle.ipg_store_body.proofs.Loops.{Goes, starts, more, halts, ends}
use Rattle.ipg_store_body.proofs.reading.BodyReader.names.Goals as goal

pub loop-at-init : goal.loop-at-init
loop-at-init c =
    starts text_at c.args.self.now.bytes.left.now c.in_ok-count.count c.long.new.self.left.now c.new-names.result.items (c.in_ok-count.count - 0)
    c.new-names.ensures.items (omega arith) c.in_ok-count.ensures

pub loop-at-preserved : goal.loop-at-preserved
loop-at-preserved c =
    let count = c.in_ok-count.count in
    let at = c.loop-at._at in
    let size : count - at ≡ suc (count - (at + 1)) = omega (arith, c.loop-at-test.true) in
    subst (λ xs. Goes text_at c.args.self.now.bytes.left.now xs (count - (at + 1)) c.text.new.self.left.now) (sym c.in_ok-push.ensures.items)
    (more text_at c.args.self.now.bytes.left.now c.loop-at.names.items (count - at) (count - (at + 1)) c.loop-at.self.bytes.left.now
    c.text.new.self.left.now c.in_ok-name.name size c.in_ok-name.ensures c.loop-at.invariant)

pub returns-in_err-name : goal.returns-in_err-name
returns-in_err-name c =
    let count = c.in_ok-count.count in
    let at = c.loop-at._at in
    let size : count - at ≡ suc (count - (at + 1)) = omega (arith, c.loop-at-test.true) in
    halts text_at c.args.self.now.bytes.left.now c.loop-at.names.items (count - at) (count - (at + 1)) c.loop-at.self.bytes.left.now
    c.text.new.self.left.now c.in_err-name.field-0.0 c.from_residual-in_err-name.result size c.from_residual-in_err-name.ensures.1
    c.in_err-name.ensures c.loop-at.invariant

pub returns : goal.returns
returns c =
    let count = c.in_ok-count.count in
    let done : count - c.loop-at._at ≡ 0 = omega (arith, c.loop-at-test.false) in
    ends text_at c.args.self.now.bytes.left.now c.loop-at.names.items c.from_vec.result (count - c.loop-at._at) c.loop-at.self.bytes.left.now done
    c.from_vec.ensures c.loop-at.invariant
