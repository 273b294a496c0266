use Rattle.std.proofs.Common.{◌≡◌, ◌++◌, ◌+◌, arith, ap, sym, ◌∙◌, take, drop, length}
use Rattle.ipg_tree_view.specs.View.{more_line, count_line}
use Rattle.ipg_tree.specs.Putting.{begun, next, exits, ended}
use Rattle.ipg_tree_view.proofs.view.put_rest.Goals as goal

pub returns-in_err-put_more_line : goal.returns-in_err-put_more_line
returns-in_err-put_more_line g c small =
    let at = c.args.piece.at in
    let bytes = c.args.piece.bytes.now in
    let second = more_line (at + 32) (take 16 (drop 32 bytes)) in
    let third = count_line c.args.depth at (length bytes) in
    let here : c.saturating_add.result ≡ at + 16 = c.saturating_add.ensures ∙ omega (arith, small) in
    let is = ap (λ t. more_line (at + 16) t ++ (second ++ third)) (sym (c.first.ensures ∙ ap (take 16) c.behind.ensures))
    ∙ ap (λ k. more_line k c.first.result.now ++ (second ++ third)) (sym here) in
    exits _ c.from_residual.result c.from_residual.ensures.1 _ is (begun _ _ _) c.in_err-put_more_line.ensures

pub returns-in_err-put_more_line-2 : goal.returns-in_err-put_more_line-2
returns-in_err-put_more_line-2 g c small =
    let at = c.args.piece.at in
    let bytes = c.args.piece.bytes.now in
    let second = more_line (at + 32) (take 16 (drop 32 bytes)) in
    let third = count_line c.args.depth at (length bytes) in
    let here : c.saturating_add.result ≡ at + 16 = c.saturating_add.ensures ∙ omega (arith, small) in
    let is = ap (λ t. more_line (at + 16) t ++ (second ++ third)) (sym (c.first.ensures ∙ ap (take 16) c.behind.ensures))
    ∙ ap (λ k. more_line k c.first.result.now ++ (second ++ third)) (sym here) in
    let there : c.saturating_add-2.result ≡ at + 32 = c.saturating_add-2.ensures ∙ omega (arith, small) in
    let is_third = ap (λ t. more_line (at + 32) t ++ third) (sym (c.first-2.ensures ∙ ap (take 16) c.behind-2.ensures))
    ∙ ap (λ k. more_line k c.first-2.result.now ++ third) (sym there) in
    exits _ c.from_residual-in_err-put_more_line-2.result c.from_residual-in_err-put_more_line-2.ensures.1 _ is_third
    (next is (begun _ _ _) c.in_ok-put_more_line.ensures) c.in_err-put_more_line-2.ensures

pub returns : goal.returns
returns g c small =
    let at = c.args.piece.at in
    let bytes = c.args.piece.bytes.now in
    let second = more_line (at + 32) (take 16 (drop 32 bytes)) in
    let third = count_line c.args.depth at (length bytes) in
    let here : c.saturating_add.result ≡ at + 16 = c.saturating_add.ensures ∙ omega (arith, small) in
    let is = ap (λ t. more_line (at + 16) t ++ (second ++ third)) (sym (c.first.ensures ∙ ap (take 16) c.behind.ensures))
    ∙ ap (λ k. more_line k c.first.result.now ++ (second ++ third)) (sym here) in
    let there : c.saturating_add-2.result ≡ at + 32 = c.saturating_add-2.ensures ∙ omega (arith, small) in
    let is_third = ap (λ t. more_line (at + 32) t ++ third) (sym (c.first-2.ensures ∙ ap (take 16) c.behind-2.ensures))
    ∙ ap (λ k. more_line k c.first-2.result.now ++ third) (sym there) in
    ended c.put_count.result _ _ (next is_third (next is (begun _ _ _) c.in_ok-put_more_line.ensures) c.in_ok-put_more_line-2.ensures)
    (c.put_count.ensures small)
