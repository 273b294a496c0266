use Rattle.std.proofs.Common.{[], ◌∷◌}
use Rattle.std.proofs.lemmas.Result.{on_ok_weaker}
use Rattle.ipg_query.specs.Spots.{seen}
use Rattle.ipg_query.proofs.Coming.{put_more}
use Rattle.ipg_query.proofs.deeper.pile_spot.Goals as goal

pub returns : goal.returns
returns c src st grammar x xs is comes =
    on_ok_weaker c.push_left.result
    (λ put. put_more src st grammar c.args.steps.now (c.args.spot ∷ []) (seen c.args.pile.now.items) (seen c.push_left.new.pile.items) (x ∷ []) xs
    (is, tt) put comes)
    c.push_left.ensures
