use Rattle.std.proofs.Common.{ap, ◌∙◌, ◌+◌, ◌++◌, drop, get_or}
use Rattle.ipg_facts.specs.Members.{passed_all, passed}
use Rattle.ipg_facts.specs.Aim.{terms_for}
use Rattle.ipg_facts.specs.View.{scope_of}
use Rattle.ipg_facts.proofs.Branches.{terms_more, terms_all, passed_more, all_passed}
use Rattle.ipg_facts.proofs.members.put_terms.Goals as goal

pub loop-term-preserved : goal.loop-term-preserved
loop-term-preserved c =
    let scope = scope_of c.loop-term.scope in
    let order = c.args.order.now in
    let i = c.loop-term.term-index in (
      ap (λ s. c.put_members.new.out.items ++ terms_for c.args.aim s (drop (i + 1) order)) c.in_ok-pass.ensures
          ∙ ap (λ m. m ++ terms_for c.args.aim (passed scope (get_or order i 0)) (drop (i + 1) order)) c.in_ok-put_members.ensures
          ∙ terms_more c.args.aim scope order i c.loop-term.out.items _ c.loop-term-test.true c.loop-term.invariant.0,
      ap (λ s. passed_all s (drop (i + 1) order)) c.in_ok-pass.ensures
          ∙ passed_more scope _ order i c.loop-term-test.true c.loop-term.invariant.1,
    )

pub returns : goal.returns
returns c = (
  terms_all c.args.aim (scope_of c.loop-term.scope) c.args.order.now c.loop-term.term-index c.loop-term.out.items _ c.loop-term-test.false
      c.loop-term.invariant.0,
  all_passed (scope_of c.loop-term.scope) _ c.args.order.now c.loop-term.term-index c.loop-term-test.false c.loop-term.invariant.1,
)
