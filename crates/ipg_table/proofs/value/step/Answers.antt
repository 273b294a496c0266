use Rattle.std.proofs.Common.{length, pos, sym, subst}
use Rattle.ipg_num.specs.declared.op.Answer.TheVariants.{Val}
use Rattle.ipg_table.specs.Running.{put, computed}
use Rattle.ipg_table.specs.Stack.{stacked, Turns}
use Rattle.ipg_table.proofs.value.step.Goals as goal

pub returns-in-Eoi-clause-turn : goal.returns-in-Eoi-clause-turn
returns-in-Eoi-clause-turn g c = λ env stands.
    let room = length c.args.area.now in
    let stack = stacked c.args.area.now c.args.top in
    subst (λ op. Turns c.put-in-Eoi.result c.put-in-Eoi.new.area (computed env room op stack)) (sym c.in-Eoi.is)
    (subst (λ n. Turns c.put-in-Eoi.result c.put-in-Eoi.new.area (put room (Val (pos n)) 0 stack)) (c.eoi.ensures env stands)
    (subst (λ a. Turns c.put-in-Eoi.result c.put-in-Eoi.new.area (put room a 0 stack)) c.whole.ensures c.put-in-Eoi.ensures.turn))

pub returns-in-Item-clause-turn : goal.returns-in-Item-clause-turn
returns-in-Item-clause-turn g c = λ env stands.
    let room = length c.args.area.now in
    let stack = stacked c.args.area.now c.args.top in
    subst (λ op. Turns c.item-in-Item.result c.item-in-Item.new.area (computed env room op stack)) (sym c.in-Item.is) (c.item-in-Item.ensures.turn env stands)

pub returns-in-Neg-clause-turn : goal.returns-in-Neg-clause-turn
returns-in-Neg-clause-turn g c = λ env stands.
    let room = length c.args.area.now in
    let stack = stacked c.args.area.now c.args.top in
    subst (λ op. Turns c.neg.result c.neg.new.area (computed env room op stack)) (sym c.in-Neg.is) c.neg.ensures.turn

pub returns-in-Not-clause-turn : goal.returns-in-Not-clause-turn
returns-in-Not-clause-turn g c = λ env stands.
    let room = length c.args.area.now in
    let stack = stacked c.args.area.now c.args.top in
    subst (λ op. Turns c.inverse.result c.inverse.new.area (computed env room op stack)) (sym c.in-Not.is) c.inverse.ensures.turn

pub returns-in-Two-clause-turn : goal.returns-in-Two-clause-turn
returns-in-Two-clause-turn g c = λ env stands.
    let room = length c.args.area.now in
    let stack = stacked c.args.area.now c.args.top in
    subst (λ op. Turns c.two.result c.two.new.area (computed env room op stack)) (sym c.in-Two.is) c.two.ensures.turn

pub returns-in-Both-clause-turn : goal.returns-in-Both-clause-turn
returns-in-Both-clause-turn g c = λ env stands.
    let room = length c.args.area.now in
    let stack = stacked c.args.area.now c.args.top in
    subst (λ op. Turns c.both.result c.both.new.area (computed env room op stack)) (sym c.in-Both.is) c.both.ensures.turn

pub returns-in-Either-clause-turn : goal.returns-in-Either-clause-turn
returns-in-Either-clause-turn g c = λ env stands.
    let room = length c.args.area.now in
    let stack = stacked c.args.area.now c.args.top in
    subst (λ op. Turns c.either.result c.either.new.area (computed env room op stack)) (sym c.in-Either.is) c.either.ensures.turn

pub returns-in-Truth-clause-turn : goal.returns-in-Truth-clause-turn
returns-in-Truth-clause-turn g c = λ env stands.
    let room = length c.args.area.now in
    let stack = stacked c.args.area.now c.args.top in
    subst (λ op. Turns c.as_truth.result c.as_truth.new.area (computed env room op stack)) (sym c.in-Truth.is) c.as_truth.ensures.turn

pub returns-in-Cond-clause-turn : goal.returns-in-Cond-clause-turn
returns-in-Cond-clause-turn g c = λ env stands.
    let room = length c.args.area.now in
    let stack = stacked c.args.area.now c.args.top in
    subst (λ op. Turns c.cond.result c.cond.new.area (computed env room op stack)) (sym c.in-Cond.is) c.cond.ensures.turn
