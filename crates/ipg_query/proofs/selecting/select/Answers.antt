use Rattle.std.proofs.Common.{◌++◌, [], ◌∷◌, ap, ◌∙◌, reverse, subst}
use Rattle.ipg_tree_walk.specs.Visits.{whole}
use Rattle.ipg_query.specs.Hits.{IsHit}
use Rattle.ipg_query.specs.Picked.{found, members, shown}
use Rattle.ipg_query.specs.Spots.{ReachesIf, left_at, seen}
use Rattle.ipg_query.proofs.Picking.{all_made, begun, one_more, started}
use Rattle.ipg_query.proofs.selecting.select.Goals as goal

pub piled-init : goal.piled-init
piled-init g c src grammar one is =
    let p = c.args.p.now.parse in
    let query = c.args.query.now in
    let root = found 0 (whole one) in
    begun IsHit (shown grammar p.input query.field) src p.store grammar _ c.new-hits.result.items (members grammar query.steps (root ∷ []))
    c.new-hits.ensures.items
    (started src p.store grammar query.steps c.root_of.result root (seen c.push_left.new.pile.items) (c.root_of.ensures src grammar one is)
    (c.in_ok-push_left.ensures ∙ ap (λ xs. seen xs ++ left_at c.as_slice.result.now c.root_of.result ∷ []) c.new-pile.ensures.items
    ∙ ap (λ ss. left_at ss c.root_of.result ∷ []) c.as_slice.ensures))

pub piled-preserved : goal.piled-preserved
piled-preserved g c src grammar one is =
    let p = c.args.p.now.parse in
    let query = c.args.query.now in
    one_more IsHit (shown grammar p.input query.field) src p.store grammar c.in-Some.spot _ _ _ _ _ (c.piled.invariant src grammar one is)
    (λ xs comes. subst (λ next. ReachesIf src p.store grammar next (reverse (seen c.next_member.new.pile.items)) xs) c.in-Some.is
    (c.in_ok-spot.ensures src grammar xs is.shares.tables comes))
    (λ x before there made. c.in_ok-push_hit-in-Some.ensures src grammar x before is.shares there made)

pub returns-in-None : goal.returns-in-None
returns-in-None g c src grammar one is =
    let p = c.args.p.now.parse in
    let query = c.args.query.now in
    all_made IsHit (shown grammar p.input query.field) src p.store grammar _ _ _ (c.piled.invariant src grammar one is) (λ xs comes.
    subst (λ next. ReachesIf src p.store grammar next (reverse (seen c.next_member.new.pile.items)) xs) c.in-None.is
    (c.in_ok-spot.ensures src grammar xs is.shares.tables comes))
