use Rattle.std.proofs.lemmas.Result.{on_ok_weaker}
use Rattle.ipg_query.specs.Spots.{fits}
use Rattle.ipg_query.proofs.Naming.{kept_here, left_out}
use Rattle.ipg_query.proofs.below.push_wanted.Goals as goal

pub returns-then-is_wanted : goal.returns-then-is_wanted
returns-then-is_wanted g c src grammar x before stand is made =
    let st = c.args.p.now.parse.store in
    on_ok_weaker c.push.result
    (λ put. kept_here src st (fits grammar c.args.wanted) c.args.spot x _ _ before c.is_wanted.result
    (c.is_wanted.ensures src grammar c.args.spot.at x.at x.child stand is.stands) made is c.if-is_wanted.true put)
    c.push.ensures

pub returns : goal.returns
returns g c src grammar x before stand is made =
    let st = c.args.p.now.parse.store in
    left_out src st (fits grammar c.args.wanted) c.args.spot x _ c.args.spots.now.items before c.is_wanted.result
    (c.is_wanted.ensures src grammar c.args.spot.at x.at x.child stand is.stands) made c.if-is_wanted.false
