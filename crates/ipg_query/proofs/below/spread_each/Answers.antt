use Rattle.std.proofs.Common.{◌++◌, filter, subst}
use Rattle.ipg_query.specs.Picked.{each_of, spread}
use Rattle.ipg_query.specs.Spots.{IsSpot, AreSpots, Through, fits}
use Rattle.ipg_query.proofs.Going.{at_end, begin, go_at}
use Rattle.ipg_query.proofs.Lying.{IsRow, rows_are}
use Rattle.ipg_query.proofs.Naming.{spread_kept, wanted_of}
use Rattle.ipg_query.proofs.below.spread_each.Goals as goal

pub loop-row-init : goal.loop-row-init
loop-row-init g c src grammar ones before stand stands near made =
    let st = c.args.p.now.parse.store in
    let at = c.args.at in
    let p = fits grammar c.args.wanted in
    let rows = c.args.rows.now in
    let out = c.args.spots.now.items in
    subst (λ xs. Through (IsRow src st at) (IsSpot src st) (wanted_of p) rows out (before ++ xs)) (spread_kept p at ones)
    (begin (IsRow src st at) (IsSpot src st) (wanted_of p) rows out (each_of at ones) before (rows_are src st at rows ones stands near) made)

pub loop-row-preserved : goal.loop-row-preserved
loop-row-preserved g c src grammar ones before stand stands near made =
    let st = c.args.p.now.parse.store in
    let at = c.args.at in
    let p = fits grammar c.args.wanted in
    go_at (IsRow src st at) (IsSpot src st) (wanted_of p) c.args.rows.now c.loop-row.row-index _ _ _ _ c.loop-row-test.true
    (c.loop-row.invariant src grammar ones before stand stands near made)
    (λ x done is so_far. subst (λ n. AreSpots src st c.push_spread.new.spots.items (done ++ filter p (spread n x.child))) is.at
    (c.in_ok-push_spread.ensures src grammar x.child done stand is.stands is.near so_far))

pub returns : goal.returns
returns g c src grammar ones before stand stands near made =
    let st = c.args.p.now.parse.store in
    at_end (IsRow src st c.args.at) (IsSpot src st) (wanted_of (fits grammar c.args.wanted)) c.args.rows.now c.loop-row.row-index _ _ c.loop-row-test.false
    (c.loop-row.invariant src grammar ones before stand stands near made)
