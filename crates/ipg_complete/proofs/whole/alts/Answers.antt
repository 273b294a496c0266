use Rattle.std.proofs.Common.{◌≡◌, ◌+◌, ◌∷◌, List, [], ◌++◌, refl, sym, ap, ◌∙◌, append_assoc, length, map, arith}
use Rattle.std.specs.Vec.Iter.{into_iter_items}
use Rattle.ipg_core.specs.declared.grammar.CoreTerm.{CoreTerm}
use Rattle.ipg_complete.specs.declared.completed.CompletedAlt.{CompletedAlt}
use Rattle.ipg_complete.specs.Completion.{alt_of}
use Rattle.ipg_complete.proofs.Turns.{map_turn, all_came}
use Rattle.ipg_complete.proofs.whole.alts.Goals as goal

abbrev alt_with : List CoreTerm → CompletedAlt
alt_with terms = record { terms = terms }

pub loop-alt-preserved : goal.loop-alt-preserved
loop-alt-preserved c =
    let at = c.loop-alt in
    let steps : into_iter_items at.alt-iterator ≡ c.in-Some.alt ∷ into_iter_items c.next.new.self = c.in-Some.ensures.steps.0 in (
      append_assoc at.yielded (c.in-Some.alt ∷ []) _ ∙ rw (← steps) at.invariant.0,
      let was = at.invariant.1 in
          let gone = c.in-Some.ensures.steps.1 in
          let short = ap length steps in
          omega arith,
      c.in_ok-push.ensures.items ∙ map_turn alt_of at.yielded c.in-Some.alt at.made.items _ at.invariant.2 (ap alt_with c.in_ok-terms.ensures),
    )

pub returns : goal.returns
returns c =
    let at = c.loop-alt in
    let all = at.invariant.0 ∙ c.into_iter-alt-iterator.ensures.into_iter_gives.0 ∙ c.into_vec-alt-items.ensures in
    c.from_vec.ensures ∙ at.invariant.2
    ∙ ap (map alt_of) (all_came at.yielded (into_iter_items at.alt-iterator) _ _ all at.invariant.1 c.in-None.ensures.steps.0)
