use Rattle.std.proofs.Common.{refl, ap}
use Rattle.ipg_query.proofs.Walking.{begins}
use Rattle.ipg_query.proofs.inside.begin.Goals as goal

pub returns-clause-begun : goal.returns-clause-begun
returns-clause-begun g c src x one more is fits all_of =
    begins src c.args.p.now.parse.store c.args.spot x c.args.size c.args.walk.now.room one more c.clear.new.self c.enter.new.walk _ refl refl refl
    (ap (λ w. w.room) c.clear.ensures) (ap (λ w. w.levels) c.clear.ensures) is fits (c.enter.ensures.entered src) all_of
