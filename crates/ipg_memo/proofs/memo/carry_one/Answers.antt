use Rattle.std.proofs.Common.{subst, sym}
use Rattle.std.specs.FinMap as map
use Rattle.ipg_memo.specs.declared.memo.Key.{Key}
use Rattle.ipg_memo.specs.Moved.{IsMoved, IsThereOrPut}
use Rattle.ipg_memo.proofs.GrowthLemmas.{on_ok}
use Rattle.ipg_memo.proofs.MovedLemmas.{keeps_one, leaves_one, put_or_left}
use Rattle.ipg_memo.proofs.memo.carry_one.Goals as goal

pub returns-then-key-from : goal.returns-then-key-from
returns-then-key-from g c =
    on_ok c.put.result c.put.ensures.ok (λ e old fresh is.
    subst (IsMoved c.args.from c.args.to c.args.with (map.insert old c.args.known.now.0 c.args.known.now.1)) (sym e)
    (keeps_one c.args.from c.args.to c.args.with old c.args.new.now c.args.known.now.0 c.args.known.now.1 fresh is c.if-key-from.true))

pub returns-in-Some : goal.returns-in-Some
returns-in-Some g c =
    on_ok c.put_new.result c.put_new.ensures (λ put old fresh is.
    put_or_left c.args.from c.args.to c.args.with old c.args.new.now c.args.known.now.0 c.args.known.now.1 fresh is c.requires c.if-key-from.false
    c.in-Some.ensures.some.0 c.put_new.new.memo
    (subst (λ (k : Key). IsThereOrPut k c.args.known.now.1 c.args.new.now c.put_new.new.memo) c.in-Some.ensures.some.1 put))

pub returns-in-None : goal.returns-in-None
returns-in-None g c old fresh is =
    leaves_one c.args.from c.args.to c.args.with old c.args.new.now c.args.known.now.0 c.args.known.now.1 fresh is c.if-key-from.false
    (λ behind. absurd (c.in-None.ensures.none behind))
