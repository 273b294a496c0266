use Rattle.std.proofs.Common.{ap, sym, append-nil, ◌∙◌, ◌++◌, option_to_list}
use Rattle.std.specs.Prelude.{option_map}
use Rattle.std.proofs.lemmas.Option.{slice_get_past}
use Rattle.ipg_facts.specs.Keep.{keep}
use Rattle.ipg_proof.proofs.conditions.put_keep.Goals as goal

pub returns-then-calls-edge : goal.returns-then-calls-edge
returns-then-calls-edge c =
    let calls = c.args.calls in
    let none = slice_get_past calls.edges.now c.args.edge c.if-calls-edge.true in
    sym (append-nil c.args.parts.now.items)
    ∙ ap (λ e. c.args.parts.now.items ++ option_to_list (option_map (keep calls.grammar.now calls.marks.now) e)) (sym none)
