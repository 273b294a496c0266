use Rattle.std.proofs.Common.{ap, sym, ◌∙◌}
use Rattle.ipg_proof.specs.Calls.{checked}
use Rattle.ipg_proof.specs.Proves.{first_false}
use Rattle.ipg_proof.proofs.Found.{told}
use Rattle.ipg_proof.proofs.judging.first_unsound.Goals as goal

pub returns : goal.returns
returns c =
    let g = c.args.g.now in
    let marks = c.in_ok-marks.marks.items in
    let calls = ap (λ edges. first_false 0 (checked (record { grammar = g; marks = marks; edges = edges }) c.args.c.now)) (sym c.requires)
    ∙ ap (λ flags. first_false 0 (checked (record { grammar = g; marks = flags; edges = c.args.edges.now }) c.args.c.now)) (sym c.as_slice.ensures.value)
    ∙ sym c.in_ok-at.ensures in
    told g c.args.c.now marks c.in_ok-marks.ensures.limit c.in_ok-at.at calls
