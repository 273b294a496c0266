use Rattle.std.proofs.Common.{◌++◌, ap, ◌∙◌}
use Rattle.std.specs.Prelude.{flat_map}
use Rattle.std.proofs.lemmas.Result.{on_ok_weaker}
use Rattle.ipg_order.specs.Locals.{hands_to}
use Rattle.ipg_order.proofs.Called.{hands_by_callees}
use Rattle.ipg_order.proofs.locals.add_term_hands.Goals as goal

pub returns : goal.returns
returns c =
    let rules = c.args.rules.now in
    let rule = c.args.rule in
    on_ok_weaker c.add_hands.result (λ put. put ∙ ap (λ callees. c.args.hands.now.items ++ flat_map (hands_to rules rule) callees)
    (c.as_slice.ensures.value ∙ c.in_ok-callees.ensures)
    ∙ ap (λ made. c.args.hands.now.items ++ made) (hands_by_callees rules rule c.args.term.now)) c.add_hands.ensures
