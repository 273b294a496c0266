use Rattle.ipg_touch.proofs.Rounds.{is_limit}
use Rattle.ipg_touch.proofs.marks.must_touch.Goals as goal

pub returns : goal.returns
returns c = record { limit = is_limit c.args.g.now c.mark_more.new.marks.items c.mark_more.ensures.sound (c.mark_more.ensures.closed c.loop-test.false) }
