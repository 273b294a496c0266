use Rattle.std.proofs.Common.{sym}
use Rattle.ipg_mach.proofs.Remembering as remembering
use Rattle.ipg_mach.proofs.remembered.remember_global.Goals as goal

pub returns : goal.returns
returns g c src grammar known answer global mark knows here =
    remembering.remembers c.trees_stay.ensures c.grows_from_before.ensures src c.args.store.now c.args.memo.now c.learn.new.memo known _ c.args.key answer
    c.args.floor mark c.args.entry c.raised.result c.raised.ensures
    (λ at knows here. c.in_ok-learn.ensures src at grammar known answer knows here (sym global)) knows here
