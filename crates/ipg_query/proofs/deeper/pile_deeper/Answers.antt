use Rattle.std.proofs.Common.{◌∷◌, ◌++◌, ap, ◌∙◌, reverse, subst, sym}
use Rattle.std.proofs.lemmas.Result.{on_ok_weaker}
use Rattle.ipg_tree_walk.specs.Visits.{kids_in}
use Rattle.ipg_query_path.specs.declared.path.Step.TheVariants.{All}
use Rattle.ipg_query.specs.Picked.{each_of, members}
use Rattle.ipg_query.specs.Spots.{Comes, deeper, once_more, seen}
use Rattle.ipg_query.proofs.Coming.{no_deeper}
use Rattle.ipg_query.proofs.Spreading.{place_is, rows_near, rows_stand}
use Rattle.ipg_query.proofs.deeper.pile_deeper.Goals as goal

pub returns-in-All : goal.returns-in-All
returns-in-All g c src grammar rest x xs split is comes =
    let st = c.args.p.now.parse.store in
    let there = c.place_in.ensures src st x.child is.stands is.near in
    let rows = c.rows_in.result.now in
    let stand = rows_stand src st c.args.spot x is c.place_in.result rows there (c.rows_in.ensures src c.args.spot.at x.child is.stands) in
    let ones = kids_in x.child in
    let new = reverse (seen c.pile_rows.new.pile.items) in
    on_ok_weaker c.pile_rows.result
    (λ made. subst (λ s. Comes src st grammar new (once_more grammar s rest x ++ xs)) (sym c.in-All.is)
    (subst (λ ys. Comes src st grammar new (ys ++ xs))
    (ap (λ ss. members grammar ss (each_of c.place_in.result ones)) (split ∙ ap (λ s. s ∷ rest) c.in-All.is)
    ∙ ap (λ n. members grammar (All ∷ rest) (each_of n ones)) (place_is src st c.args.spot x is c.place_in.result there)) made))
    (c.pile_rows.ensures src st grammar ones xs stand
    (rows_near src st c.args.spot x is c.place_in.result there) comes)

pub returns-in-Named : goal.returns-in-Named
returns-in-Named g c src grammar rest x xs split is comes =
    no_deeper src _ grammar c.args.step.now rest x xs _ (ap (λ s. deeper s x) c.in-Named.is) comes

pub returns-in-Nth : goal.returns-in-Nth
returns-in-Nth g c src grammar rest x xs split is comes =
    no_deeper src _ grammar c.args.step.now rest x xs _ (ap (λ s. deeper s x) c.in-Nth.is) comes

pub returns-in-Children : goal.returns-in-Children
returns-in-Children g c src grammar rest x xs split is comes =
    no_deeper src _ grammar c.args.step.now rest x xs _ (ap (λ s. deeper s x) c.in-Children.is) comes
