use Rattle.std.proofs.Common.{refl, sym, ap, subst, List, []}
use Rattle.ipg_mach_moves.specs.Moves.{opening, opened}
use Rattle.ipg_mach.specs.declared.frame.Frame.{Frame}
use Rattle.ipg_mach.specs.Calls.{shown, IsHighest}
use Rattle.ipg_mach.specs.Known.{IsKnown}
use Rattle.ipg_mach.specs.Stage.{source}
use Rattle.ipg_mach.proofs.machine.Machine.over.Goals as goal

pub returns : goal.returns
unfolding opening
returns g c grammar known stand knows =
    let src = source c.args.tables.now c.args.input.now in
    record {
      input = refl;
      highest = subst (λ (frames : List Frame). IsHighest c.args.tables.now src (shown c.in_ok-top.top) frames [] (opened grammar 0 c.args.input.now 0 []))
          (sym (ap (λ stack. stack.items) c.in_ok-new.ensures)) (c.in_ok-top.ensures.highest grammar c.args.input.now stand refl);
      floor = c.in_ok-top.ensures.floor.0;
      known = subst (λ st. IsKnown src st c.args.kept.memo known) (sym c.in_ok-top.ensures.floor.1) knows;
      tally = c.opening.ensures grammar c.args.input.now known;
    }
