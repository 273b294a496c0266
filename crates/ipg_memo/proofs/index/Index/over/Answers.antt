use Rattle.std.proofs.Common.{◌++◌, ◌∙◌}
use Rattle.std.proofs.lemmas.List.{append-nil}
use Rattle.std.specs.Prelude.{None, replicate}
use Rattle.ipg_memo.proofs.WholeLemmas.{whole_none}
use Rattle.ipg_memo.proofs.index.Index.over.Goals as goal

pub loop-row-init : goal.loop-row-init
loop-row-init g c =
    whole_none c.args.rows.now.items _ c.requires.enough
    ((λ i. c.in_ok-no_links.ensures i ++ (c.new.ensures i).items) ∙ append-nil (replicate c.args.heads None))
    (λ i. (c.new-2.ensures i).items)
