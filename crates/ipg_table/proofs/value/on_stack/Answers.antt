use Rattle.std.proofs.Common.{◌≡◌, ◌<◌, length, subst, ◌∙◌, rules}
use Rattle.ipg_table.specs.Running.{Next, computed}
use Rattle.ipg_table.specs.Stack.{stacked}
use Rattle.ipg_table.proofs.Turning.{turn_on}
use Rattle.ipg_table.proofs.value.on_stack.Goals as goal

pub loop-left-preserved : goal.loop-left-preserved
loop-left-preserved g c =
    let room = length c.args.area.now in
    let left = c.loop-left.left.now in
    let op = c.index-left-0.result in
    let stack = stacked c.loop-left.area c.loop-left.top in
    let next = stacked c.step.new.area c.in-On.next in
    let skip = c.in-On.skip in
    let within : 0 < length left = search rules in (
      (λ env stands.
          let does = subst (λ r. (go : Next) → computed env r op stack go ≡ go skip next) c.loop-left.invariant.2 (c.in-On.ensures.turn env stands) in
          c.loop-left.invariant.0 env stands
          ∙ turn_on env room left c.past-left.result.now op stack next skip c.index-left-0.is within does c.past-left.ensures),
      c.in-On.ensures.within,
      c.in-On.ensures.area ∙ c.loop-left.invariant.2,
    )
