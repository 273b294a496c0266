use Rattle.std.proofs.Common.{length, arith}
use Rattle.std.specs.Prelude.{slice_get}
use Rattle.ipg_cert.specs.Seen.{all_seen}
use Rattle.ipg_cert.proofs.GoalsLemmas.{either_steps, either_stack}
use Rattle.ipg_cert.proofs.checking.either.Goals as goal

pub returns-clause-steps : goal.returns-clause-steps
returns-clause-steps c vars steps =
    either_steps vars c.args.fact c.args.parts c.args.known.now c.args.goals.now.items c.open_members.new.goals.items
    (slice_get (all_seen c.args.known.now) c.args.fact) c.in-Some.members.now steps
    c.in-Some.ensures (omega arith) c.in_ok-open_members.ensures

pub returns-clause-stack : goal.returns-clause-stack
returns-clause-stack c = either_stack (length c.args.known.now) c.in-Some.members.now c.args.goals.now.items c.open_members.new.goals.items
    c.in_ok-open_members.ensures
