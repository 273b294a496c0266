use Rattle.std.proofs.Common.{◌≡◌, arith, sym, ap, ◌∙◌, ◌++◌, ◌∷◌, [], append_assoc}
use Rattle.ipg_region.specs.Piled.{items_of}
use Rattle.ipg_region.proofs.PiledLemmas.{counted_off, none_on, popped, not_empty}
use Rattle.ipg_region.proofs.stack.Stack.pop_into.Given.{Over}
use Rattle.ipg_region.proofs.stack.Stack.pop_into.Goals as goal

-- the items, the one on top last: of the top block
on_top : (g : Over) (c : goal.In-Some g) → (items_of c.self.inside.full.items ++ c.pop.new.self.items) ++ c.in-Some.item ∷ [] ≡ c.args.self.now.items
on_top g c =
    append_assoc (items_of c.self.inside.full.items) c.pop.new.self.items (c.in-Some.item ∷ [])
    ∙ ap (λ top. items_of c.self.inside.full.items ++ top) (sym c.in-Some.ensures.items)
    ∙ ap (λ stack. stack.items) c.self.view_is

-- of the last full block
in_block : (g : Over) (c : goal.After-drop-self-inside g)
    → (items_of c.pop-2.new.self.items ++ c.in-Some-pop.block.below.items) ++ c.in-Some-pop.block.last ∷ [] ≡ c.args.self.now.items
in_block g c =
    let none = sym c.self.inside.top.ok.0 ∙ c.in_default.ensures.cases.0 in
    sym (none_on c.self.inside.full.items c.pop-2.new.self.items c.in-Some-pop.block c.self.inside.top.items c.in-Some-pop.ensures.items none)
    ∙ ap (λ stack. stack.items) c.self.view_is

pub returns-in-Some-clause-some : goal.returns-in-Some-clause-some
returns-in-Some-clause-some g c rest item = popped _ _ _ rest item (on_top g c)

pub returns-in-Some-clause-none : goal.returns-in-Some-clause-none
returns-in-Some-clause-none g c none = not_empty _ _ (on_top g c ∙ none)

pub overflow_sub-self : goal.overflow_sub-self
overflow_sub-self g c =
    let own = c.len.ensures ∙ c.in-Some-pop.block.below.ok.0 in
    omega (arith, counted_off c.self.inside.full.items c.pop-2.new.self.items c.in-Some-pop.block _ _ c.in-Some-pop.ensures.items c.self.invariant.0 own)

pub invariant_of-self-in-Some-pop : goal.invariant_of-self-in-Some-pop
invariant_of-self-in-Some-pop g c =
    let own = c.len.ensures ∙ c.in-Some-pop.block.below.ok.0 in
    let n = counted_off c.self.inside.full.items c.pop-2.new.self.items c.in-Some-pop.block _ _ c.in-Some-pop.ensures.items c.self.invariant.0 own in
    (omega (arith, n), omega (arith, c.self.invariant.1))

pub returns-in-Some-pop-clause-some : goal.returns-in-Some-pop-clause-some
returns-in-Some-pop-clause-some g c rest item = popped _ _ _ rest item (in_block g c)

pub returns-in-Some-pop-clause-none : goal.returns-in-Some-pop-clause-none
returns-in-Some-pop-clause-none g c none = not_empty _ _ (in_block g c ∙ none)
