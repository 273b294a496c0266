use Rattle.std.proofs.Common.{IfSome, [], subst, sym}
use Rattle.ipg_core.specs.Environment.{done_at, items_so_far}
use Rattle.ipg_core.specs.Eval.{greatest_end}
use Rattle.ipg_table.specs.Hand.{LeadsOn}
use Rattle.ipg_table.proofs.in_hand.first.Goals as goal

pub returns-in-After : goal.returns-in-After
returns-in-After g c env room stands within =
    subst (λ op. IfSome c.end_or_none.result (LeadsOn env room op [])) (sym c.in-After.is)
    (c.end_or_none.ensures room (greatest_end (items_so_far (done_at env.done c.in-After.term))) within (c.greatest_end.ensures env stands))
