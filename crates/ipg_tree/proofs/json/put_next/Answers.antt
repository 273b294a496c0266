use Rattle.std.proofs.Common.{◌++◌, refl, ap, subst}
use Rattle.ipg_tree.specs.JsonWalk as walk
use Rattle.ipg_tree.specs.Putting.{begun, more, next, exits_first, ended, as_text}
use Rattle.ipg_tree.proofs.json.put_next.Goals as goal

pub returns-in_err-put_between : goal.returns-in_err-put_between
returns-in_err-put_between g c src grammar one shares shows =
    let is = ap (λ d. walk.between c.args.last d ++ walk.kid_text grammar one.at one.child) shows.depth in
    as_text c.from_residual.result _ _ _ _ _ _ is (exits_first _ c.from_residual.result c.from_residual.ensures.1 _ _ c.in_err-put_between.ensures)

pub returns : goal.returns
returns g c src grammar one shares shows =
    let is = ap (λ d. walk.between c.args.last d ++ walk.kid_text grammar one.at one.child) shows.depth in
    as_text c.put_visit.result _ _ _ _ _ _ is (
    ended c.put_visit.result _ _ (next refl (begun _ _ _) c.in_ok-put_between.ensures) (c.put_visit.ensures src grammar one shares shows))
