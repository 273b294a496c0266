use Rattle.std.proofs.Common.{sym, ◌∙◌}
use Rattle.std.proofs.lemmas.Result.{on_ok_weaker}
use Rattle.ipg_query.proofs.Spreading.{put_none, put_own}
use Rattle.ipg_query.proofs.deeper.push_own.Goals as goal

pub returns-then-has_items : goal.returns-then-has_items
returns-then-has_items c src st x before is made =
    put_none src st c.args.spot x is _ before (sym (c.has_items.ensures src st c.args.spot.at x.child is.stands) ∙ c.if-has_items.true) made

pub returns : goal.returns
returns c src st x before is made =
    on_ok_weaker c.push.result
    (λ put. put_own src st c.args.spot x is _ _ before (sym (c.has_items.ensures src st c.args.spot.at x.child is.stands) ∙ c.if-has_items.false) made put)
    c.push.ensures
