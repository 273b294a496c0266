use Rattle.std.proofs.Common.{ap, ◌∙◌, ◌++◌, ◌+◌, ◌≤◌, drop, arith, length, ◌∷◌, []}
use Rattle.ipg_facts.specs.Reading.{read}
use Rattle.ipg_facts.specs.Aim.{branches_for, slot_for}
use Rattle.ipg_facts_forms.specs.declared.fact.Fact.TheVariants.{All}
use Rattle.ipg_facts.specs.View.{scope_of}
use Rattle.ipg_facts.proofs.Branches.{branches_more, branches_all}
use Rattle.ipg_facts.proofs.members.branches.Goals as goal

pub loop-case-preserved : goal.loop-case-preserved
loop-case-preserved c =
    let scope = scope_of c.args.scope.now in
    let cases = c.args.cases.now in
    let i = c.loop-case.case-index in
    let case = c.case-item.result in
    let earlier = c.loop-case.earlier.items in
    ap (λ e. c.put_case.new.out.items ++ branches_for c.args.ran.aim scope c.args.ran.term e (drop (i + 1) cases) c.args.other.now) c.in_ok-put_fails.ensures
    ∙ ap (λ m. m ++ branches_for c.args.ran.aim scope c.args.ran.term (earlier ++ (read scope case.0).fails) (drop (i + 1) cases) c.args.other.now)
    c.in_ok-put_case.ensures
    ∙ ap (λ e. (c.loop-case.members.items ++ All (e ++ ((read scope case.0).holds ++ slot_for c.args.ran.aim scope c.args.ran.term case.1)) ∷ [])
    ++ branches_for c.args.ran.aim scope c.args.ran.term (earlier ++ (read scope case.0).fails) (drop (i + 1) cases) c.args.other.now) c.as_slice.ensures.value
    ∙ branches_more c.args.ran.aim scope c.args.ran.term c.args.other.now cases i case c.loop-case.members.items earlier _ c.loop-case-test.true c.case-item.is
    c.loop-case.invariant

pub returns : goal.returns
returns c =
    let past : length c.args.cases.now ≤ c.loop-case.case-index = omega arith in
    c.in_ok-put_else.ensures
    ∙ branches_all c.args.ran.aim (scope_of c.args.scope.now) c.args.ran.term c.args.other.now c.args.cases.now c.loop-case.case-index c.loop-case.members.items
    c.loop-case.earlier.items _ past c.loop-case.invariant
