use Rattle.std.proofs.Common.{◌≡◌, arith, map}
use Rattle.std.specs.String.{string_bytes}
use Rattle.ipg_c.proofs.Replying.{replied}
use Rattle.ipg_c.proofs.answer.reply.Goals as goal

pub returns : goal.returns
returns c =
    replied c.args.files.now c.run-status.new.files.files.now c.run-status.new.files.faults c.new-page.result.text.items c.new-page.result.faults
    c.run-status.new.out.text.items c.run-status.new.out.faults (map string_bytes c.args.words.now) c.run-status.result c.run-status.ensures.told
    c.new-page.ensures.text (omega (arith, c.if-page-gt0.false)) c.run-status.ensures.runs
