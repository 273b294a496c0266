use Rattle.std.proofs.Common.{◌≡◌, ◌+◌, ◌-◌, ◌<◌, Some, None, length, get_or, set, sym, subst, ◌∙◌, arith}
use Rattle.std.proofs.lemmas.List.{get_or_default}
use Rattle.std.proofs.lemmas.List.Elements.{All-get_or}
use Rattle.ipg_graph_parts.specs.Chain.{Keys, key, IsLinked}
use Rattle.ipg_graph_parts.proofs.ChainLemmas.{linked-at}
use Rattle.ipg_graph_parts.proofs.chain.Chain.new.Goals as goal

pub loop-at-preserved : goal.loop-at-preserved
loop-at-preserved c =
    let k : Keys = record { keys = c.args.keys.items; limit = c.args.limit } in
    let firsts = c.loop-at.firsts.items in
    let nexts = c.loop-at.nexts.items in
    let at = c.loop-at.at - 1 in
    let v = c.index.result.now in
    let first = c.index-in-loop-at.result.now in
    let linked = c.loop-at.invariant.1 in
    let below : at < length k.keys = omega (arith, c.loop-at.invariant.0, c.loop-at-test.true) in
    let is : key k at ≡ v = get_or_default k.keys at k.limit v below ∙ sym c.index.ensures in
    let inside : v < k.limit = subst (λ x. x < k.limit) is (All-get_or (λ x. x < k.limit) k.keys at k.limit below c.requires.inside) in
    let first_is : get_or firsts v None ≡ first = get_or_default firsts v None first (omega (arith, inside, linked.firsts_len))
    ∙ sym c.index-in-loop-at.ensures in
    let up : c.loop-at.at ≡ at + 1 = omega (arith, c.loop-at-test.true) in (
      omega (arith, c.loop-at.invariant.0),
      subst (λ o. IsLinked k (set firsts v (Some at)) (set nexts at o) at) first_is
          (linked-at k firsts nexts at v below is inside (subst (IsLinked k firsts nexts) up linked)),
    )
