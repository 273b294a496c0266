use Rattle.std.proofs.Common.{w64, refl, subst, Ok}
use Rattle.std.proofs.lemmas.Int.{to_z-of_z}
use Rattle.std.proofs.lemmas.Result.{on_ok_weaker}
use Rattle.ipg_core.specs.Meaning.{with_value}
use Rattle.ipg_mach_moves.specs.Moves.{Past}
use Rattle.ipg_mach.specs.Calls.{shown, IsAtWork, IsHighest}
use Rattle.ipg_mach.proofs.Working as working
use Rattle.ipg_mach.proofs.top.Top.pass_value.Goals as goal

pub returns-clause-highest : goal.returns-clause-highest
returns-clause-highest g c src frames lower items call work =
    let t = c.args.tables.now in
    on_ok_weaker c.pass.result (subst (IsHighest t src (shown c.pass.new.self) frames lower) (working.as_past call _ (Ok (Past _)) refl))
    (c.pass.ensures.highest src frames lower items (record call { state = with_value call.state c.args.attr c.args.value })
    (subst (λ z. IsAtWork t src (shown c.add_value.new.self) frames lower items (record call { state = with_value call.state c.args.attr z }))
    (to_z-of_z w64 c.args.value c.ranges.value)
    (c.in_ok-add_value.ensures.work t src frames lower items call work)))
