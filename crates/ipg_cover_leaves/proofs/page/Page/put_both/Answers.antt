use Rattle.std.proofs.Common.{◌++◌, ◌∙◌, ap, sym, subst, append_assoc}
use Rattle.ipg_cover_leaves.specs.Page.{Holds}
use Rattle.ipg_cover_leaves.specs.Bytes.{from_on}
use Rattle.ipg_cover_leaves.proofs.Places.{from_on_append}
use Rattle.ipg_cover_leaves.proofs.page.Page.put_both.Goals as goal

pub returns-clause-put : goal.returns-clause-put
returns-clause-put c all holds =
    let first = c.args.first.now in let second = c.args.second.now in let to = c.put_all-2.new.self in
    subst (Holds to.cells.items to.clash)
    (append_assoc all (from_on c.args.from first) _ ∙ ap (λ these. all ++ these) (sym (from_on_append c.args.from first second)))
    (c.put_all-2.ensures.put _ (c.put_all.ensures.put all holds))
