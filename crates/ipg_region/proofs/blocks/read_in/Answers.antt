use Rattle.std.proofs.Common.{suc, ◌≡◌, ◌-◌, ◌<◌, ◌≤◌, arith, length, take, ap, ◌∙◌}
use Rattle.ipg_region.specs.Stack.{flat}
use Rattle.ipg_region.proofs.StackLemmas.{earlier, holds, found}
use Rattle.ipg_region.proofs.blocks.read_in.Given.{Over}
use Rattle.ipg_region.proofs.blocks.read_in.Goals as goal

-- one block back
back : (g : Over) (c : goal.After-len-start g)
    → (length c.index-blocks-at.result.runs ≤ c.loop-start.start)
    × (c.loop-start.start - length c.index-blocks-at.result.runs ≡ length (flat (take (c.loop-start.at - 1) c.args.blocks.now)))
    × (c.args.place < length (flat (take (suc (c.loop-start.at - 1)) c.args.blocks.now)))
back g c =
    earlier c.args.blocks.now c.index-blocks-at.result c.loop-start.at c.loop-start.start c.args.place c.loop-start.invariant.0 c.loop-start.invariant.1
    c.loop-start-test.true c.index-blocks-at.is

pub overflow_sub-start : goal.overflow_sub-start
overflow_sub-start g c = omega (arith, c.len-start.ensures.value, (back g c).0)

pub loop-start-preserved : goal.loop-start-preserved
loop-start-preserved g c =
    (omega (arith, c.loop-start.invariant.0), ap (λ n. c.loop-start.start - n) c.len-start.ensures.value ∙ (back g c).1, (back g c).2)

pub read-requires : goal.read-requires
read-requires g c =
    holds c.args.blocks.now c.index-blocks-at-2.result c.loop-start.at c.loop-start.start c.args.place c.loop-start.invariant.1 c.loop-start-test.false
    c.loop-start.invariant.2 c.index-blocks-at-2.is

pub returns : goal.returns
returns g c =
    found c.args.blocks.now c.index-blocks-at-2.result c.loop-start.at c.loop-start.start c.args.place c.loop-start.invariant.1 c.loop-start-test.false
    c.loop-start.invariant.2 c.index-blocks-at-2.is
    ∙ c.read.ensures
