use Rattle.std.proofs.Common.{refl, sym, ◌++◌}
use Rattle.std.specs.Prelude.{codes}
use Rattle.hex.specs.Hex.{encode_lower}
use Rattle.ipg_tree.specs.Putting.{begun, more, next, exits, ended}
use Rattle.ipg_tree.proofs.Objects.{leaf_parts}
use Rattle.ipg_tree.proofs.json.put_terminal.Goals as goal

pub returns-in_err-put_front : goal.returns-in_err-put_front
returns-in_err-put_front g c =
    let is = sym (leaf_parts (codes "tok") c.args.visit.from c.args.visit.to (codes ",\"hex\":\"") (encode_lower c.args.text.now ++ codes "\"}")) in
    exits _ c.from_residual.result c.from_residual.ensures.1 _ is (begun _ _ _) c.in_err-put_front.ensures

pub returns-in_err-put_digits : goal.returns-in_err-put_digits
returns-in_err-put_digits g c =
    let is = sym (leaf_parts (codes "tok") c.args.visit.from c.args.visit.to (codes ",\"hex\":\"") (encode_lower c.args.text.now ++ codes "\"}")) in
    exits _ c.from_residual-in_err-put_digits.result c.from_residual-in_err-put_digits.ensures.1 _ refl
    (next is (begun _ _ _) c.in_ok-put_front.ensures) c.in_err-put_digits.ensures

pub returns : goal.returns
returns g c =
    let is = sym (leaf_parts (codes "tok") c.args.visit.from c.args.visit.to (codes ",\"hex\":\"") (encode_lower c.args.text.now ++ codes "\"}")) in
    ended c.put.result _ _ (more (next is (begun _ _ _) c.in_ok-put_front.ensures) c.in_ok-put_digits.ensures) c.put.ensures
