use Rattle.ipg_cert.proofs.GoalsLemmas.{entered}
use Rattle.ipg_cert.proofs.checking.next.Goals as goal

pub returns : goal.returns
returns c =
    entered c.args.known.now.items c.enter.new.known.items c.args.goals.now.items c.pop.new.self.items c.in-Some.goal c.in-Some.ensures.items c.requires
    c.in_ok-enter.ensures
