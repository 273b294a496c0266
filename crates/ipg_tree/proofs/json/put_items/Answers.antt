use Rattle.std.proofs.Common.{refl, ap, ◌++◌}
use Rattle.std.specs.Prelude.{codes}
use Rattle.ipg_tree.specs.Putting.{begun, more, next, exits, exits_first, ended, as_text}
use Rattle.ipg_tree.proofs.json.put_items.Goals as goal

pub returns-in_err-put : goal.returns-in_err-put
returns-in_err-put g c grammar one stand is_sym =
    exits_first _ c.from_residual.result c.from_residual.ensures.1 _ _ c.in_err-put.ensures

pub returns-in_err-put-2 : goal.returns-in_err-put-2
returns-in_err-put-2 g c grammar one stand is_sym =
    let is = ap (λ n. c.args.opening.now ++ (n ++ codes "\",\"items\":[")) (c.sym_name.ensures grammar one stand is_sym) in
    as_text c.from_residual-in_err-put-2.result _ _ _ _ _ _ is (
    exits _ c.from_residual-in_err-put-2.result c.from_residual-in_err-put-2.ensures.1 _ refl (next refl (begun _ _ _) c.in_ok-put.ensures)
    c.in_err-put-2.ensures)

pub returns : goal.returns
returns g c grammar one stand is_sym =
    let is = ap (λ n. c.args.opening.now ++ (n ++ codes "\",\"items\":[")) (c.sym_name.ensures grammar one stand is_sym) in
    as_text c.put-3.result _ _ _ _ _ _ is (
    ended c.put-3.result _ _ (more (next refl (begun _ _ _) c.in_ok-put.ensures) c.in_ok-put-2.ensures) c.put-3.ensures)
