use Rattle.std.proofs.Common.{◌≡◌, drop, length}
use Rattle.ipg_cert.specs.Checks.{refutes}
use Rattle.ipg_cert.specs.Seen.{AreZero}
use Rattle.ipg_cert.specs.Goals.{open_goals, AreOpen}
use Rattle.ipg_cert.proofs.checking.run.Given as goal

-- the steps that are left refute the goals that are left exactly where all of them refute the first
abbrev pub invariant-loop-step : goal.invariant-loop-step
invariant-loop-step l = record {
  left : refutes l.vars (drop l.step-index l.steps) (open_goals l.known.items l.goals.items)
      ≡ refutes l.vars l.steps (open_goals l.fn.known.items l.fn.goals.items);
  stack : AreOpen (length l.known.items) l.goals.items;
  zero : AreZero l.totals.items;
}
