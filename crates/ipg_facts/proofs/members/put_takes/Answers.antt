use Rattle.std.proofs.Common.{ap, ◌∙◌, ◌++◌, ◌+◌, ◌-◌, ◌<◌, ◌≤◌, drop, arith, length}
use Rattle.ipg_facts.specs.Members.{takes}
use Rattle.ipg_facts.specs.View.{scope_of}
use Rattle.ipg_facts.proofs.Branches.{takes_here, takes_more, takes_all}
use Rattle.ipg_facts_forms.specs.Pieces.{on_ok}
use Rattle.ipg_facts.proofs.members.put_takes.Goals as goal

pub returns-then-at-branch : goal.returns-then-at-branch
returns-then-at-branch c =
    on_ok c.put_taken_case.result _ _
    (λ e. e ∙ takes_here (scope_of c.args.scope.now) c.args.other.now c.args.cases.now c.loop-at.at c.args.branch c.index-cases-at.result c.loop-at.out.items _
    c.loop-at-test.true c.index-cases-at.is c.if-at-branch.true c.loop-at.invariant.1)
    c.put_taken_case.ensures

pub loop-at-preserved : goal.loop-at-preserved
loop-at-preserved c =
    let scope = scope_of c.args.scope.now in
    let below : c.loop-at.at < c.args.branch = omega arith in (
      omega arith,
      ap (λ m. m ++ takes scope (drop (c.loop-at.at + 1) c.args.cases.now) c.args.other.now (c.args.branch - (c.loop-at.at + 1))) c.in_ok-put_fails.ensures
          ∙ takes_more scope c.args.other.now c.args.cases.now c.loop-at.at c.args.branch c.index-cases-at.result c.loop-at.out.items _
          c.loop-at-test.true c.index-cases-at.is below c.loop-at.invariant.1,
    )

pub returns : goal.returns
returns c =
    let past : length c.args.cases.now ≤ c.loop-at.at = omega arith in
    on_ok c.put_is_whole.result _ _
    (λ e. e ∙ takes_all (scope_of c.args.scope.now) c.args.other.now c.args.cases.now c.loop-at.at c.args.branch c.loop-at.out.items _ past
    c.loop-at.invariant.1)
    c.put_is_whole.ensures
