use Rattle.std.proofs.Common.{[], sym, ◌∙◌}
use Rattle.std.proofs.lemmas.Result.{on_ok_weaker}
use Rattle.ipg_tree_walk.specs.Visits.{kids_in}
use Rattle.ipg_query.specs.Picked.{found}
use Rattle.ipg_query.specs.Spots.{fits}
use Rattle.ipg_query.proofs.Lying.{spot_is}
use Rattle.ipg_query.proofs.Spreading.{items_near, items_stand, spread_items, spread_lone}
use Rattle.ipg_query.proofs.below.push_spread.Goals as goal

pub returns-then-has_items : goal.returns-then-has_items
returns-then-has_items g c src grammar one before stand stands near made =
    let st = c.args.p.now.parse.store in
    let at = c.args.at in
    let p = fits grammar c.args.wanted in
    let items = sym (c.has_items.ensures src st at one stands) ∙ c.if-has_items.true in
    on_ok_weaker c.push_rows.result (λ h. spread_items src st at one _ before p items h)
    (c.push_rows.ensures src grammar (kids_in one) before stand
    (items_stand src st at one [] before p c.rows_in.result.now items (c.rows_in.ensures src at one stands))
    (items_near src st at one [] before p items near) made)

pub returns : goal.returns
returns g c src grammar one before stand stands near made =
    let st = c.args.p.now.parse.store in
    let at = c.args.at in
    on_ok_weaker c.push_wanted.result
    (λ h. spread_lone src st at one _ before (fits grammar c.args.wanted)
    (sym (c.has_items.ensures src st at one stands) ∙ c.if-has_items.false) h)
    (c.push_wanted.ensures src grammar (found at one) before stand (spot_is src st at c.args.row one stands near) made)
