use Rattle.std.proofs.Common.{sym, ap, ◌∙◌, subst, Some, Option}
use Rattle.std.specs.Prelude.{OnOk}
use Rattle.ipg_mach_failures.specs.declared.failure.Failure.{Failure}
use Rattle.ipg_mach_failures.specs.Values.{values_of}
use Rattle.ipg_mach_failures.specs.Furthest as spec
use Rattle.ipg_mach_watch.specs.Told.{IsFurthest}
use Rattle.ipg_mach_watch.proofs.Moving as moving
use Rattle.ipg_mach_watch.proofs.watched.Watch.see.Goals as goal

pub returns-in-Some-clause-furthest : goal.returns-in-Some-clause-furthest
returns-in-Some-clause-furthest g c src call f q is =
    let calls = c.args.self.now.calls.items in
    let found = sym c.in-Some.is ∙ c.in_ok-failure.ensures.fails src call q in
    let read = values_of call in
    subst (λ (one : Option Failure). OnOk c.add.result (IsFurthest c.add.new.self (spec.furthest_with f (spec.story_with calls read one)))) found
    (subst (λ cs. OnOk c.add.result (IsFurthest c.add.new.self (spec.furthest_with f (spec.story_with cs read (Some c.in-Some.failure)))))
    c.as_slice.ensures.value (c.add.ensures src call f q is))

pub returns-in-Some-clause-last : goal.returns-in-Some-clause-last
returns-in-Some-clause-last g c src call q = moving.always_ok c.add.result (ap (λ x. Some x) (c.call_in.ensures src call q))

pub returns-in-None-clause-furthest : goal.returns-in-None-clause-furthest
returns-in-None-clause-furthest g c src call f q is =
    let calls = c.args.self.now.calls.items in
    let found = sym c.in-None.is ∙ c.in_ok-failure.ensures.fails src call q in
    subst (λ (one : Option Failure). IsFurthest c.args.self.now.furthest (spec.furthest_with f (spec.story_with calls (values_of call) one))) found is

pub returns-in-None-clause-last : goal.returns-in-None-clause-last
returns-in-None-clause-last g c src call q = ap (λ x. Some x) (c.call_in.ensures src call q)
