use Rattle.std.proofs.Common.{refl, ap, ◌∙◌, length, map, arith}
use Rattle.std.specs.Vec.Iter.{into_iter_items}
use Rattle.ipg_store_adopt.specs.Adopted.{completed_alt}
use Rattle.ipg_store_adopt.proofs.Turns.{map_turn, all_came, one_came}
use Rattle.ipg_store_adopt.proofs.adopting.completed_alts.Goals as goal

pub loop-alt-preserved : goal.loop-alt-preserved
loop-alt-preserved c =
    let at = c.loop-alt in
    let steps = c.in-Some.ensures.steps.0 in (
      one_came c.in-Some.alt at.yielded _ _ _ steps at.invariant.0,
      let was = at.invariant.1 in
          let gone = c.in-Some.ensures.steps.1 in
          let short = ap length steps in
          omega arith,
      c.in_ok-push.ensures.items ∙ map_turn completed_alt at.yielded c.in-Some.alt at.made.items _ at.invariant.2 refl,
    )

pub returns : goal.returns
returns c =
    let at = c.loop-alt in
    let all = at.invariant.0 ∙ c.into_iter-alt-iterator.ensures.into_iter_gives.0 ∙ c.into_vec-alt-items.ensures in
    c.from_vec.ensures ∙ at.invariant.2
    ∙ ap (map completed_alt) (all_came at.yielded (into_iter_items at.alt-iterator) _ _ all at.invariant.1 c.in-None.ensures.steps.0)
