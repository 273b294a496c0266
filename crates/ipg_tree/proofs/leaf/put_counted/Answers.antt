use Rattle.std.proofs.Common.{◌∷◌, [], refl, sym, decimal}
use Rattle.ipg_tree.specs.Putting.{begun, next, exits}
use Rattle.ipg_tree.proofs.Pieces.{line_pieces}
use Rattle.ipg_tree.proofs.leaf.put_counted.Goals as goal

pub returns-in_err-put_kind : goal.returns-in_err-put_kind
returns-in_err-put_kind g c =
    let is = sym (line_pieces (decimal c.args.depth ∷ c.args.kind.now ∷ []) c.args.name.now (decimal c.args.count ∷ [])) in
    exits _ c.from_residual.result c.from_residual.ensures.1 _ is (begun _ _ _) c.in_err-put_kind.ensures

pub returns-in_err-put : goal.returns-in_err-put
returns-in_err-put g c =
    let is = sym (line_pieces (decimal c.args.depth ∷ c.args.kind.now ∷ []) c.args.name.now (decimal c.args.count ∷ [])) in
    exits _ c.from_residual-in_err-put.result c.from_residual-in_err-put.ensures.1 _ refl (next is (begun _ _ _) c.in_ok-put_kind.ensures) c.in_err-put.ensures
