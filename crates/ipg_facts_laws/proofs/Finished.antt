-- Where all terms of an alternative have run, its variables have values that fit.
use Rattle.std.proofs.Common.{None}
use Rattle.ipg_core.specs.Laws.{LiesWithin, TouchingTouches}
use Rattle.ipg_facts_variables.specs.Variable.{caller_side}
use Rattle.ipg_facts.specs.Keep.{opening}
use Rattle.ipg_facts_laws.specs.Finished.{FinishedFit}
use Rattle.ipg_facts_laws.proofs.Works.{Finish, finish}
use Rattle.ipg_facts_laws.proofs.Sides.{Sides, sides}

pub finished_fit : LiesWithin → TouchingTouches → FinishedFit
unfolding opening
finished_fit lies must g marks at s outer height z good limit input grown number end =
    let ran : Finish g marks at end.alt s outer caller_side end.state =
    finish lies must g good marks limit at end.rule end.alt end.is_at height s input outer caller_side end.state end.came in
    let is : Sides g marks at end.rule end.alt s outer end.state None z =
    sides lies must g good marks limit at end.rule end.alt end.is_at s input outer grown end.state None ran.results z number in
    record {
      values = is.values;
      ranged = is.ranged;
      fits = is.fits;
      ran = ran.ran;
      holder = is.holder;
      size = is.size;
      place = is.place;
    }
