use Rattle.std.proofs.Common.{refl, ap, ◌∙◌, subst, ◌≡◌, length, Some}
use Rattle.std.proofs.lemmas.Result.{IfOk-weaker}
use Rattle.ipg_mach_moves.specs.Moves.{moves, opening, ended, learn}
use Rattle.ipg_mach.specs.Calls.{IsAnswer}
use Rattle.ipg_mach.specs.Stage.{source}
use Rattle.ipg_mach.specs.Verdict.{first_call}
use Rattle.ipg_mach.proofs.Verdicts as verdicts
use Rattle.ipg_mach.proofs.kept.Kept.evaluate.Goals as goal

pub returns-in-Node : goal.returns-in-Node
returns-in-Node g c =
    IfOk-weaker c.verdict_found.result _ _
    (λ verdict gives grammar known answer stand right knows means fresh.
    let t = c.args.tables.now in
    let input = c.args.input.now in
    let src = source t input in
    let end = c.in_ok-run_to_end.ensures src (opening grammar input known) (c.in_ok-machine.ensures grammar known stand knows) in
    let same = c.ends_only_so.ensures grammar input known answer end.answer end.moved right means end.ends in
    let last = moves end.moved (opening grammar input known) in
    let ends : ended last ≡ Some answer = end.ends ∙ ap Some same in
    let stopped = c.in_ok-held.ensures src last answer end.at ends in
    let still = c.stays_right.ensures grammar input known answer end.moved right means in
    let kept = c.in_ok-held.field-0.kept in
    let is = subst (λ held. IsAnswer src kept.store 0 (length input) held answer) c.in-Node.is stopped.0 in
    let entry = verdicts.node_entry src kept.store input c.args.key c.in-Node.id answer c.requires.key is in (
      last.tally,
      learn grammar last.known (first_call input) answer,
      record { fresh = fresh; moved = end.moved; ends = ends; counts = refl; learned = refl },
      verdicts.first_right grammar input last.known answer still means,
      verdicts.of_first grammar src input verdict answer last.tally last.known c.args.key c.requires.key
          (gives src grammar answer last.tally last.known stand entry stopped.1 stopped.2),
    ))
    c.verdict_found.ensures

pub returns-in-NoTree : goal.returns-in-NoTree
returns-in-NoTree g c =
    IfOk-weaker c.verdict_found-in-NoTree.result _ _
    (λ verdict gives grammar known answer stand right knows means fresh.
    let t = c.args.tables.now in
    let input = c.args.input.now in
    let src = source t input in
    let end = c.in_ok-run_to_end.ensures src (opening grammar input known) (c.in_ok-machine.ensures grammar known stand knows) in
    let same = c.ends_only_so.ensures grammar input known answer end.answer end.moved right means end.ends in
    let last = moves end.moved (opening grammar input known) in
    let ends : ended last ≡ Some answer = end.ends ∙ ap Some same in
    let stopped = c.in_ok-held.ensures src last answer end.at ends in
    let still = c.stays_right.ensures grammar input known answer end.moved right means in
    let kept = c.in_ok-held.field-0.kept in
    let is = subst (λ held. IsAnswer src kept.store 0 (length input) held answer) c.in-NoTree.is stopped.0 in (
      last.tally,
      learn grammar last.known (first_call input) answer,
      record { fresh = fresh; moved = end.moved; ends = ends; counts = refl; learned = refl },
      verdicts.first_right grammar input last.known answer still means,
      verdicts.of_first grammar src input verdict answer last.tally last.known c.args.key c.requires.key
          (gives src grammar answer last.tally last.known stand is stopped.1 stopped.2),
    ))
    c.verdict_found-in-NoTree.ensures

pub returns-in-Range : goal.returns-in-Range
returns-in-Range g c grammar known answer stand right knows means fresh =
    let t = c.args.tables.now in
    let input = c.args.input.now in
    let src = source t input in
    let end = c.in_ok-run_to_end.ensures src (opening grammar input known) (c.in_ok-machine.ensures grammar known stand knows) in
    let same = c.ends_only_so.ensures grammar input known answer end.answer end.moved right means end.ends in
    let last = moves end.moved (opening grammar input known) in
    let ends : ended last ≡ Some answer = end.ends ∙ ap Some same in
    let stopped = c.in_ok-held.ensures src last answer end.at ends in
    let still = c.stays_right.ensures grammar input known answer end.moved right means in
    let is = subst (λ held. IsAnswer src c.in_ok-held.field-0.kept.store 0 (length input) held answer) c.in-Range.is stopped.0 in (
      last.tally,
      learn grammar last.known (first_call input) answer,
      record { fresh = fresh; moved = end.moved; ends = ends; counts = refl; learned = refl },
      verdicts.first_right grammar input last.known answer still means,
      (is, stopped.1),
    )
