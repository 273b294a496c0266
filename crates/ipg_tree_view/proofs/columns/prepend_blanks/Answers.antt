use Rattle.std.proofs.Common.{◌++◌, ap, ◌∙◌}
use Rattle.std.proofs.lemmas.List.{take-replicate}
use Rattle.ipg_tree_view.proofs.columns.prepend_blanks.Goals as goal

pub returns-clause-text : goal.returns-clause-text
returns-clause-text c = c.prepend.ensures.text ∙ ap (λ t. t ++ c.args.line.now) (take-replicate c.args.count 78 32 c.requires.few)
