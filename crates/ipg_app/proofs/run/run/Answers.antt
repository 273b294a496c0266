use Rattle.ipg_app.proofs.Replying.{runs_by, replies_by}
use Rattle.ipg_app.proofs.run.run.Goals as goal

pub returns-in-Ok-clause-runs : goal.returns-in-Ok-clause-runs
returns-in-Ok-clause-runs g c = runs_by _ _ _ c.put_reply.result c.in-Ok.reply c.in-Ok.ensures.settled c.put_reply.ensures

pub returns-in-Ok-clause-replies : goal.returns-in-Ok-clause-replies
returns-in-Ok-clause-replies g c =
    replies_by _ _ _ c.put_reply.result (runs_by _ _ _ c.put_reply.result c.in-Ok.reply c.in-Ok.ensures.settled c.put_reply.ensures)
