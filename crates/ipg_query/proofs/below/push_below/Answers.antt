use Rattle.std.proofs.Common.{sym, ◌∙◌}
use Rattle.std.proofs.lemmas.Result.{on_ok_weaker}
use Rattle.ipg_tree_walk.specs.Visits.{kids_in}
use Rattle.ipg_query.specs.Spots.{fits}
use Rattle.ipg_query.proofs.Spreading.{all_below, none_below, rows_near, rows_stand}
use Rattle.ipg_query.proofs.below.push_below.Goals as goal

pub returns-then-has_items : goal.returns-then-has_items
returns-then-has_items g c src grammar x before stand is made =
    let st = c.args.p.now.parse.store in
    none_below src st c.args.spot x is (fits grammar c.args.wanted) _ before
    (sym (c.has_items.ensures src st c.args.spot.at x.child is.stands) ∙ c.if-has_items.true) made

pub returns : goal.returns
returns g c src grammar x before stand is made =
    let st = c.args.p.now.parse.store in
    let spot = c.args.spot in
    let there = c.place_in.ensures src st x.child is.stands is.near in
    let rows = c.rows_in.result.now in
    let lone = sym (c.has_items.ensures src st spot.at x.child is.stands) ∙ c.if-has_items.false in
    on_ok_weaker c.spread_each.result (λ h. all_below src st spot x is (fits grammar c.args.wanted) c.place_in.result _ before lone there h)
    (c.spread_each.ensures src grammar (kids_in x.child) before stand
    (rows_stand src st spot x is c.place_in.result rows there (c.rows_in.ensures src spot.at x.child is.stands))
    (rows_near src st spot x is c.place_in.result there) made)
