use Rattle.std.proofs.Common.{◌≡◌, ◌+◌, ◌++◌, ◌∷◌, ap, sym, arith, map}
use Rattle.ipg_core.specs.Lines.{rule_name, attr_word}
use Rattle.ipg_tree_view.specs.View.{indented, interval}
use Rattle.ipg_tree.specs.Words.{spaced}
use Rattle.ipg_tree_view.proofs.Cuts.{lacks_as, lacks_none}
use Rattle.ipg_tree_view.proofs.view.node_text.Goals as goal

pub returns : goal.returns
returns c grammar stands small =
    let at = c.args.extent.at in
    let to = at + c.args.extent.size in
    let name = rule_name grammar c.args.rule in
    let words = spaced (map (attr_word grammar) c.args.attrs.now) in
    let rest = interval at to words in
    let all = indented c.args.depth (name ++ 32 ∷ rest) in
    let named = c.push.ensures all (32 ∷ rest)
    (lacks_as _ all _ _ (ap (λ n. n ++ 32 ∷ rest) (sym (c.rule_name.ensures grammar stands))) (c.indent-text.ensures (name ++ 32 ∷ rest))) in
    let ends : to ≡ c.saturating_add.result = omega (arith, small, c.saturating_add.ensures) in
    let placed = c.push_interval.ensures all words (lacks_as _ all _ _ (ap (λ k. interval at k words) ends) (c.push-2.ensures all rest named)) in
    lacks_none _ all (c.push_attrs.ensures grammar all stands placed)
