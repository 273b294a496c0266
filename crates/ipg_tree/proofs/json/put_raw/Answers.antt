use Rattle.std.proofs.Common.{refl, sym, ap, ◌++◌, ◌-◌, take, length}
use Rattle.std.specs.Prelude.{codes, decimal}
use Rattle.hex.specs.Hex.{encode_lower}
use Rattle.ipg_tree.specs.Putting.{begun, more, next, exits, ended, as_text}
use Rattle.ipg_tree.proofs.Objects.{leaf_parts}
use Rattle.ipg_tree.proofs.json.put_raw.Goals as goal

pub returns-in_err-put_front : goal.returns-in_err-put_front
returns-in_err-put_front g c =
    let b = c.args.bytes.now in
    let rest = encode_lower (take 32 b) ++ (codes "\",\"more\":" ++ (decimal (length b - 32) ++ codes "}")) in
    let is = sym (leaf_parts (codes "Bytes") c.args.visit.from c.args.visit.to (codes ",\"hex\":\"") rest) in
    exits _ c.from_residual.result c.from_residual.ensures.1 _ is (begun _ _ _) c.in_err-put_front.ensures

pub returns-in_err-put_digits : goal.returns-in_err-put_digits
returns-in_err-put_digits g c =
    let b = c.args.bytes.now in
    let rest = encode_lower (take 32 b) ++ (codes "\",\"more\":" ++ (decimal (length b - 32) ++ codes "}")) in
    let is = sym (leaf_parts (codes "Bytes") c.args.visit.from c.args.visit.to (codes ",\"hex\":\"") rest) in
    exits _ c.from_residual-in_err-put_digits.result c.from_residual-in_err-put_digits.ensures.1 _ refl
    (next is (begun _ _ _) c.in_ok-put_front.ensures) (rw c.first.ensures at c.in_err-put_digits.ensures)

pub returns : goal.returns
returns g c =
    let b = c.args.bytes.now in
    let rest = encode_lower (take 32 b) ++ (codes "\",\"more\":" ++ (decimal (length b - 32) ++ codes "}")) in
    let is = sym (leaf_parts (codes "Bytes") c.args.visit.from c.args.visit.to (codes ",\"hex\":\"") rest) in
    let said = ap (λ n. codes "\",\"more\":" ++ (decimal n ++ codes "}")) c.saturating_sub.ensures in
    ended c.put_more.result _ _ (more (next is (begun _ _ _) c.in_ok-put_front.ensures) (rw c.first.ensures at c.in_ok-put_digits.ensures))
    (as_text c.put_more.result _ _ _ _ _ _ said c.put_more.ensures)
