use Rattle.std.proofs.Common.{◌++◌, ◌∙◌, ap}
use Rattle.ipg_tree_walk.specs.declared.parsed.Counts.{Counts}
use Rattle.ipg_app_tree.specs.Editing.{counted}
use Rattle.ipg_app_tree.specs.Telling.{words_by}
use Rattle.ipg_app_tree.proofs.Told.{told_of}
use Rattle.ipg_app_tree.proofs.telling.tell.Goals as goal

pub returns-clause-told : goal.returns-clause-told
returns-clause-told g c grammar kept ready =
    let k = c.args.k in
    let given = c.in_ok-given.given in
    let lines = c.args.lines.now.items in
    told_of grammar k kept c.args.session.now c.answer.new.self lines c.add_line.new.lines.items ready c.in_ok-given.ensures.input given
    (c.in_ok-given.ensures.ok grammar kept)
    (c.in_ok-add_line.ensures ∙ ap (λ w. lines ++ counted k w c.counts_in.result.bodies) c.words_by.ensures
    ∙ ap (λ (n : Counts). lines ++ counted k (words_by given) n.bodies) c.counts_in.ensures)
