use Rattle.std.proofs.Common.{◌≡◌, ◌++◌, drop}
use Rattle.std.specs.List.{flat_map}
use Rattle.ipg_cert.specs.Words.{spaced}
use Rattle.ipg_cert.proofs.text.put_others.Given as goal

abbrev pub invariant-loop-step : goal.invariant-loop-step
invariant-loop-step l = l.out.items ++ flat_map spaced (drop l.step-index l.steps) ≡ l.fn.out.items ++ flat_map spaced l.steps
