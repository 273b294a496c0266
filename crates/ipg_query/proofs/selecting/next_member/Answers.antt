use Rattle.std.proofs.Common.{◌≡◌, [], length, reverse, arith, ap, sym, ◌∙◌}
use Rattle.std.proofs.lemmas.Bool.{eqb-true, eqb-false}
use Rattle.std.proofs.lemmas.List.{nil_from_length}
use Rattle.ipg_query.specs.Spots.{seen}
use Rattle.ipg_query.proofs.Picking.{next_is, reaches, nothing_left}
use Rattle.ipg_query.proofs.selecting.next_member.Goals as goal

pub piled-preserved : goal.piled-preserved
piled-preserved g c src grammar xs stand comes =
    let next = c.without_idle-next.result in
    let rest = c.pop.new.self.items in
    c.in_ok-take-in-Some.ensures src grammar xs stand
    (omega (arith, eqb-false (length next.steps.now) 0 (sym c.is_empty.ensures ∙ c.if-is_empty.false)))
    (c.without_idle-next.ensures src grammar (reverse (seen rest)) xs
    (next_is src c.args.p.now.parse.store grammar c.piled.pile.items rest c.in-Some.top xs c.in-Some.ensures.items
    (c.piled.invariant src grammar xs stand comes)))

pub returns-then-is_empty : goal.returns-then-is_empty
returns-then-is_empty g c src grammar xs stand comes =
    let next = c.without_idle-next.result in
    let rest = c.pop.new.self.items in
    reaches src c.args.p.now.parse.store grammar next.steps.now next.spot (reverse (seen rest)) xs
    (nil_from_length next.steps.now (eqb-true (length next.steps.now) 0 (sym c.is_empty.ensures ∙ c.if-is_empty.true)))
    (c.without_idle-next.ensures src grammar (reverse (seen rest)) xs
    (next_is src c.args.p.now.parse.store grammar c.piled.pile.items rest c.in-Some.top xs c.in-Some.ensures.items
    (c.piled.invariant src grammar xs stand comes)))

pub returns-in-None : goal.returns-in-None
returns-in-None g c src grammar xs stand comes =
    let none : c.piled.pile.items ≡ [] = nil_from_length c.piled.pile.items (omega (arith, c.piled.pile.ok.0, c.in-None.ensures.cases.0)) in
    nothing_left src c.args.p.now.parse.store grammar (reverse (seen c.piled.pile.items)) xs (ap (λ items. reverse (seen items)) none)
    (c.piled.invariant src grammar xs stand comes)
