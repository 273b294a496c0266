use Rattle.std.proofs.Common.{◌++◌, ◌+◌, ap, sym, take, drop, length}
use Rattle.ipg_tree_view.specs.View.{more_line, count_line, line, indented}
use Rattle.ipg_tree.specs.Putting.{begun, next, exits, ended}
use Rattle.ipg_tree_view.proofs.view.put_piece.Goals as goal

pub returns-in_err-put_line : goal.returns-in_err-put_line
returns-in_err-put_line g c end is small =
    let at = c.args.piece.at in
    let bytes = c.args.piece.bytes.now in
    let text = indented c.args.depth end in
    let rest = more_line (at + 16) (take 16 (drop 16 bytes)) ++ (more_line (at + 32) (take 16 (drop 32 bytes)) ++ count_line c.args.depth at (length bytes)) in
    let first = ap (λ t. line at t text ++ rest) (sym c.first.ensures) in
    exits _ c.from_residual.result c.from_residual.ensures.1 _ first (begun _ _ _) (c.in_err-put_line.ensures text is)

pub returns : goal.returns
returns g c end is small =
    let at = c.args.piece.at in
    let bytes = c.args.piece.bytes.now in
    let text = indented c.args.depth end in
    let rest = more_line (at + 16) (take 16 (drop 16 bytes)) ++ (more_line (at + 32) (take 16 (drop 32 bytes)) ++ count_line c.args.depth at (length bytes)) in
    let first = ap (λ t. line at t text ++ rest) (sym c.first.ensures) in
    ended c.put_rest.result _ _ (next first (begun _ _ _) (c.in_ok-put_line.ensures text is)) (c.put_rest.ensures small)
