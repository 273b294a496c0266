use Rattle.std.proofs.Common.{refl, subst, Ok}
use Rattle.std.proofs.lemmas.Result.{on_ok_weaker}
use Rattle.ipg_mach_moves.specs.Moves.{Past}
use Rattle.ipg_mach.specs.Calls.{shown, IsHighest}
use Rattle.ipg_mach.proofs.Working as working
use Rattle.ipg_mach.proofs.top.Top.pass_result.Goals as goal

pub returns-clause-highest : goal.returns-clause-highest
returns-clause-highest g c src frames lower items call one some work done =
    on_ok_weaker c.pass.result (subst (IsHighest c.args.tables.now src (shown c.pass.new.self) frames lower) (working.as_past call _ (Ok (Past _)) refl))
    (c.pass.ensures.highest src frames lower items _ (c.set_result.ensures.work c.args.tables.now src frames lower items call one some work done))
