use Rattle.std.proofs.Common.{ap, sym, subst, ◌∙◌, ◌<◌, ◌≤◌, length, refl, add-one, arith}
use Rattle.std.proofs.lemmas.Option.{slice_get_read}
use Rattle.ipg_facts_forms.specs.Numbers.{insert}
use Rattle.ipg_facts_forms.proofs.Inserted.{Below, here, further, last}
use Rattle.ipg_facts_forms.proofs.numbers.insert.Goals as goal

pub returns-then-term-index : goal.returns-then-term-index
returns-then-term-index c =
    let xs = c.loop-at.terms.items in
    let within : c.loop-at.at < length xs = omega (arith, c.len-at-end.ensures, ap length c.loop-at.invariant.0) in
    let is = slice_get_read xs _ c.loop-at.at c.index.result.now refl within c.index.ensures in
    c.in_ok-insert.ensures.items ∙ here c.loop-at.at xs c.index.result.now c.args.term c.loop-at.invariant.1 is c.if-term-index.true
    ∙ ap (insert c.args.term) c.loop-at.invariant.0

pub loop-at-preserved : goal.loop-at-preserved
loop-at-preserved c =
    let xs = c.loop-at.terms.items in
    let within : c.loop-at.at < length xs = omega (arith, c.len-at-end.ensures, ap length c.loop-at.invariant.0) in
    let is = slice_get_read xs _ c.loop-at.at c.index.result.now refl within c.index.ensures in (
      c.loop-at.invariant.0,
      subst (λ n. Below n xs c.args.term) (sym (add-one c.loop-at.at))
          (further c.loop-at.at xs c.index.result.now c.args.term c.loop-at.invariant.1 is c.if-term-index.false),
    )

pub returns : goal.returns
returns c =
    let xs = c.loop-at.terms.items in
    let past : length xs ≤ c.loop-at.at = omega (arith, c.len-at-end.ensures, ap length c.loop-at.invariant.0) in
    c.in_ok-push.ensures.items ∙ last c.loop-at.at xs c.args.term c.loop-at.invariant.1 past ∙ ap (insert c.args.term) c.loop-at.invariant.0
