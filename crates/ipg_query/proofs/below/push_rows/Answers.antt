use Rattle.std.proofs.Common.{◌++◌, subst}
use Rattle.ipg_query.specs.Picked.{each_of}
use Rattle.ipg_query.specs.Spots.{IsSpot, Through, fits}
use Rattle.ipg_query.proofs.Going.{at_end, begin, go_at}
use Rattle.ipg_query.proofs.Lying.{IsRow, rows_are}
use Rattle.ipg_query.proofs.Naming.{kept_is, own_of}
use Rattle.ipg_query.proofs.below.push_rows.Goals as goal

pub loop-row-init : goal.loop-row-init
loop-row-init g c src grammar ones before stand stands near made =
    let st = c.args.p.now.parse.store in
    let at = c.args.at in
    let p = fits grammar c.args.wanted in
    let rows = c.args.rows.now in
    let out = c.args.spots.now.items in
    subst (λ xs. Through (IsRow src st at) (IsSpot src st) (own_of p) rows out (before ++ xs)) (kept_is p (each_of at ones))
    (begin (IsRow src st at) (IsSpot src st) (own_of p) rows out (each_of at ones) before (rows_are src st at rows ones stands near) made)

pub loop-row-preserved : goal.loop-row-preserved
loop-row-preserved g c src grammar ones before stand stands near made =
    let st = c.args.p.now.parse.store in
    go_at (IsRow src st c.args.at) (IsSpot src st) (own_of (fits grammar c.args.wanted)) c.args.rows.now c.loop-row.row-index _ _ _ _ c.loop-row-test.true
    (c.loop-row.invariant src grammar ones before stand stands near made)
    (λ x done is so_far. c.in_ok-push_wanted.ensures src grammar x done stand is so_far)

pub returns : goal.returns
returns g c src grammar ones before stand stands near made =
    let st = c.args.p.now.parse.store in
    at_end (IsRow src st c.args.at) (IsSpot src st) (own_of (fits grammar c.args.wanted)) c.args.rows.now c.loop-row.row-index _ _ c.loop-row-test.false
    (c.loop-row.invariant src grammar ones before stand stands near made)
