use Rattle.ipg_app_tree.proofs.Told.{starts, next_left, is_edit, goes_on, exits, ends}
use Rattle.ipg_app_tree.proofs.telling.tell_all.Goals as goal

pub loop-k-init : goal.loop-k-init
loop-k-init g c grammar ready each =
    starts grammar c.args.edits.now c.args.session.now ready each c.new-lines.result.items c.new-lines.ensures.items

pub loop-k-preserved : goal.loop-k-preserved
loop-k-preserved g c grammar ready each =
    let edits = c.args.edits.now in
    let old = c.args.session.now in
    let k = c.loop-k.k in
    let now = c.loop-k.session in
    let lines = c.loop-k.lines.items in
    let going = c.loop-k.invariant grammar ready each in
    let left = next_left edits k c.index-edits-k.result _ c.loop-k-test.true c.index-edits-k.is in
    goes_on grammar edits old k c.index-edits-k.result left now lines going c.loop-k-test.true c.step.new.session c.step.new.lines.items
    (c.in_ok-step.ensures grammar going.kept going.ready (is_edit grammar edits old k c.index-edits-k.result left now lines going))

pub returns-in_err-step : goal.returns-in_err-step
returns-in_err-step g c grammar ready each =
    let edits = c.args.edits.now in
    let old = c.args.session.now in
    let k = c.loop-k.k in
    let now = c.loop-k.session in
    let lines = c.loop-k.lines.items in
    let going = c.loop-k.invariant grammar ready each in
    let left = next_left edits k c.index-edits-k.result _ c.loop-k-test.true c.index-edits-k.is in
    exits grammar edits old k c.index-edits-k.result left now lines going c.in_err-step.field-0.0 c.step.new.session c.step.new.lines.items
    c.from_residual.result c.from_residual.ensures.1
    (c.in_err-step.ensures grammar going.kept going.ready (is_edit grammar edits old k c.index-edits-k.result left now lines going))

pub returns : goal.returns
returns g c grammar ready each =
    let going = c.loop-k.invariant grammar ready each in
    ends grammar c.args.edits.now c.args.session.now c.loop-k.k c.loop-k.session c.loop-k.lines.items c.loop-k-test.false going _ c.tell.new.session
    (c.in_ok-last.ensures.told grammar going.kept going.ready)
