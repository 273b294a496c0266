use Rattle.std.proofs.Common.{◌≡◌, ◌+◌, ◌∷◌, [], ◌++◌, refl, sym, ap, ◌∙◌, append_assoc, length, map, arith}
use Rattle.std.specs.Vec.Iter.{into_iter_items}
use Rattle.ipg_core.specs.declared.grammar.CoreSlot.{CoreSlot}
use Rattle.ipg_complete.specs.Completion.{case_of}
use Rattle.ipg_complete.proofs.Turns.{map_turn, all_came}
use Rattle.ipg_complete.proofs.completing.cases.Goals as goal

pub loop-pair-preserved : goal.loop-pair-preserved
loop-pair-preserved c =
    let at = c.loop-pair in
    let steps : into_iter_items at.pair-iterator ≡ c.in-Some.pair ∷ into_iter_items c.next.new.self = c.in-Some.ensures.steps.0 in (
      append_assoc at.yielded (c.in-Some.pair ∷ []) _ ∙ rw (← steps) at.invariant.0,
      let was = at.invariant.1 in
          let gone = c.in-Some.ensures.steps.1 in
          let short = ap length steps in
          omega arith,
      c.in_ok-push.ensures.items ∙ map_turn (case_of c.args.left.now) at.yielded c.in-Some.pair at.made.items _ at.invariant.2
          (ap (λ (slot : CoreSlot). (c.in-Some.pair.0, slot)) c.in_ok-slot.ensures),
    )

pub returns : goal.returns
returns c =
    let at = c.loop-pair in
    let all = at.invariant.0 ∙ c.into_iter-pair-iterator.ensures.into_iter_gives.0 ∙ c.into_vec-pair-items.ensures in
    c.from_vec.ensures ∙ at.invariant.2 ∙ ap (map (case_of c.args.left.now))
    (all_came at.yielded (into_iter_items at.pair-iterator) _ _ all at.invariant.1 c.in-None.ensures.steps.0)
