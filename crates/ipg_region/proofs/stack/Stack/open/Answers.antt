use Rattle.std.proofs.Common.{◌≡◌, length, length-append, arith, ap, ◌∙◌, sym, ◌++◌, ◌∷◌, []}
use Rattle.ipg_region.specs.Piled.{items_of}
use Rattle.ipg_region.proofs.PiledLemmas.{put_on, stacked}
use Rattle.ipg_region.proofs.stack.Stack.open.Given.{Over}
use Rattle.ipg_region.proofs.stack.Stack.open.Goals as goal

-- the block on top stands behind the full ones
more : (g : Over) (c : goal.After-self-1 g) → items_of c.push_reserved.new.self.items ≡ items_of c.self.inside.full.items ++ c.self.inside.top.items
more g c =
    put_on c.push_reserved.new.self.items c.self.inside.full.items (record { below = c.pop.new.self; last = c.in-Some.last }) c.self.inside.top.items
    (c.push_reserved.ensures.items ∙ ap (λ full. full ++ record { below = c.pop.new.self; last = c.in-Some.last } ∷ []) c.reserve.ensures.items)
    (ap (λ block. block.items) (sym c.replace-below.ensures.value) ∙ c.in-Some.ensures.items)

pub invariant_of-self-in-Some : goal.invariant_of-self-in-Some
invariant_of-self-in-Some g c =
    let n = ap length (more g c) ∙ length-append (items_of c.self.inside.full.items) c.self.inside.top.items in
    (omega (arith, n, c.len.ensures, c.self.inside.top.ok.0, c.self.invariant.0), omega (arith, c.if-before.false))

pub returns-in-Some : goal.returns-in-Some
returns-in-Some g c =
    stacked (items_of c.push_reserved.new.self.items) c.replace-below.new.dest.items (items_of c.self.inside.full.items ++ c.self.inside.top.items)
    (ap (λ block. block.items) c.replace-below.ensures.after ∙ c.in_ok-block.ensures) (more g c)
    ∙ c.self.view_is
