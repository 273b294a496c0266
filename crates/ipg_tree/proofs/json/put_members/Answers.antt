use Rattle.std.proofs.Common.{ap, sym, map}
use Rattle.ipg_tree.specs.Json.{joined, member}
use Rattle.ipg_tree.specs.Putting.{exits_first, as_text}
use Rattle.ipg_tree.proofs.json.put_members.Goals as goal

pub returns-in_err-put_member-in-Some : goal.returns-in_err-put_member-in-Some
returns-in_err-put_member-in-Some g c grammar stand =
    let is = ap (λ attrs. joined (map (member grammar) attrs)) (sym c.in-Some.ensures.cases.0) in
    as_text c.from_residual.result _ _ _ _ _ _ is (
    exits_first _ c.from_residual.result c.from_residual.ensures.1 _ _ (c.in_err-put_member-in-Some.ensures grammar stand))
