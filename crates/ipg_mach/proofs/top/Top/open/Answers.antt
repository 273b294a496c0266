use Rattle.ipg_mach.specs.Calls.{shown}
use Rattle.ipg_mach.proofs.Opening as opening
use Rattle.ipg_mach.proofs.top.Top.open.Goals as goal

pub returns-clause-highest : goal.returns-clause-highest
returns-clause-highest g c src frames lower f from new =
    c.begin.ensures.highest src frames lower f from
    (opening.ready c.args.tables.now src (shown c.args.self.now) frames lower c.args.new f from new _ c.tops.result c.mark.result c.tops.ensures
    c.mark.ensures)
