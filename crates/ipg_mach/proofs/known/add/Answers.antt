use Rattle.std.proofs.lemmas.Result.{on_ok_weaker}
use Rattle.ipg_mach.proofs.Knowing as knowing
use Rattle.ipg_mach.proofs.known.add.Goals as goal

pub returns-in-None : goal.returns-in-None
returns-in-None g c src st known answer h is =
    on_ok_weaker c.put.result
    (knowing.learned_so src st c.args.memo.now known c.args.key c.args.entry answer h is c.args.holder c.put.new.self c.in-None.is)
    c.put.ensures.ok
