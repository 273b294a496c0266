use Rattle.std.proofs.Common.{sym, ap, ◌∙◌, [], Some, Option}
use Rattle.ipg_mach_moves.specs.Moves.{moves, opening, ended}
use Rattle.ipg_mach.specs.Stage.{source}
use Rattle.ipg_mach_failures.specs.Furthest.{furthest, stories}
use Rattle.ipg_mach_watch.specs.declared.findings.End.{End}
use Rattle.ipg_mach_watch.specs.Found.{found_with, end_of}
use Rattle.ipg_mach_watch.proofs.Moving as moving
use Rattle.ipg_mach_watch.proofs.watching.watch.Goals as goal

pub returns : goal.returns
returns g c = moving.of_all c.findings.result _ _ (λ grammar stand.
    let input = c.args.input.now in
    let src = source c.args.tables.now input in
    let e = opening grammar input (Some []) in
    let opened = c.in_ok-machine.ensures grammar stand in
    let over = c.in_ok-run.ensures src e opened (c.in_ok-watch.ensures e (moving.none_open grammar input (Some []))) in
    let last = moves over.moved e in
    let end = c.end.ensures (ended last) (c.ending.ensures src last over.at) ∙ ap (λ l. end_of l (ended last)) over.watch.last in
    let met = furthest (stories over.moved e) in
    moving.if_ok_weaker c.findings.result _ _
    (λ it is. (over.moved, ap (λ (x : Option End). found_with x met) (sym end) ∙ is))
    (c.findings.ensures met over.watch.furthest))
