use Rattle.std.proofs.Common.{sym, ◌∙◌, ◌+◌, subst}
use Rattle.std.proofs.lemmas.Option.{MatchOption-at_none}
use Rattle.ipg_mach_watch.proofs.Agreeing as agreeing
use Rattle.ipg_mach_watch.proofs.Agreeing.{Agrees}
use Rattle.ipg_mach_watch.proofs.symbols.agreed.Goals as goal

pub loop-want-init : goal.loop-want-init
loop-want-init c = agreeing.begun _ _

pub loop-want-preserved : goal.loop-want-preserved
loop-want-preserved c =
    let w = c.args.wanted.now in
    let b = c.args.bytes.now in
    let here = c.loop-want in
    subst (λ rest. Agrees w b c.in-Some.others.now rest (here.count + 1)) (agreeing.behind_first here.rest.now)
    (agreeing.goes_on w b here.left.now c.in-Some.others.now here.rest.now here.count c.in-Some.want.now here.invariant c.in-Some.ensures.cases.0
    (sym c.begins_with.ensures ∙ c.if-not-begins_with.false))

pub returns-then-not-begins_with-clause-count : goal.returns-then-not-begins_with-clause-count
returns-then-not-begins_with-clause-count c =
    let here = c.loop-want in
    sym (agreeing.ends c.args.wanted.now c.args.bytes.now here.left.now c.in-Some.others.now here.rest.now here.count c.in-Some.want.now here.invariant
    c.in-Some.ensures.cases.0 (sym c.begins_with.ensures ∙ c.if-not-begins_with.true))

pub returns-clause-count : goal.returns-clause-count
returns-clause-count c =
    let here = c.loop-want in
    sym (agreeing.all c.args.wanted.now c.args.bytes.now here.left.now here.rest.now here.count here.invariant
    (MatchOption-at_none _ _ c.in_default.is c.split_first.ensures.cases))
