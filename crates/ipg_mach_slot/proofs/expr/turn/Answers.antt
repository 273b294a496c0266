use Rattle.std.proofs.Common.{sym}
use Rattle.ipg_mach_slot.proofs.Slots as slots
use Rattle.ipg_mach_slot.proofs.expr.turn.Goals as goal

pub returns-in-Some : goal.returns-in-Some
returns-in-Some c src st at f place own one is shares =
    slots.turn_to src st at f place own c.args.from c.args.to one c.in-Some.end c.symbol.result (sym (c.in-Some.ensures.end one is))
    (c.symbol.ensures src st at f place own one shares.syms is shares.part shares.lies)

pub returns-in-None : goal.returns-in-None
returns-in-None c src st at f place own one is shares = slots.no_turn src st at f place own c.args.from c.args.to one (sym (c.in-None.ensures.end one is))
