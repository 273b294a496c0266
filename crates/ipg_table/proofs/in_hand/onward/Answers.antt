use Rattle.std.proofs.Common.{◌≤◌, [], IfSome, subst, sym, arith}
use Rattle.ipg_table.specs.Hand.{LeadOn, handed}
use Rattle.ipg_table.proofs.Handing.{row_leads}
use Rattle.ipg_table.proofs.in_hand.onward.Goals as goal

pub returns-in-None : goal.returns-in-None
returns-in-None g c env room stands within =
    let some : 1 ≤ room = omega arith in
    subst (λ o. IfSome c.first.result (LeadOn env room c.args.rows.now (handed o))) (sym c.in-None.is)
    (row_leads env room c.args.rows.now c.index-rows-0.result [] c.first.result c.index-rows-0.is c.requires (c.first.ensures env room stands some))
