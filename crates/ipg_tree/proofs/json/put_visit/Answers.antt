use Rattle.std.proofs.Common.{◌≡◌, refl, sym, ap, ◌∙◌, subst, Some}
use Rattle.std.specs.Prelude.{slice_get}
use Rattle.ipg_table.specs.Rows.{StandFor}
use Rattle.ipg_tree.specs.Putting.{as_text}
use Rattle.ipg_tree.specs.Behind.{IsNodeRow}
use Rattle.ipg_tree.proofs.Seen.{IsManyRow, tree_seen, many_seen}
use Rattle.ipg_tree.proofs.json.put_visit.Goals as goal

pub returns-in-Node : goal.returns-in-Node
returns-in-Node g c src grammar one shares shows =
    let seen = tree_seen src c.args.p.now.parse.store grammar c.args.visit one (subst IsNodeRow (sym c.in-Node.is) tt) shows in
    as_text c.put_tree.result _ _ _ _ _ _ seen.is (c.put_tree.ensures src grammar seen.at seen.one shares.tables seen.stands shows.small)

pub returns-in-Many : goal.returns-in-Many
returns-in-Many g c src grammar one shares shows =
    let row = subst (IsManyRow c.in-Many.sym) (sym c.in-Many.is) refl in
    let seen = many_seen src c.args.p.now.parse.store grammar c.args.visit one c.in-Many.sym row shows in
    let tables = c.tables-in-Many.ensures in
    let stand = subst (λ t. StandFor t grammar) (sym tables) shares.tables in
    let is_sym = subst (λ t. slice_get t.syms c.in-Many.sym ≡ Some seen.0) (sym tables)
    (ap (λ s. slice_get s c.in-Many.sym) (sym shares.syms) ∙ seen.1) in
    as_text c.put_items-in-Many.result _ _ _ _ _ _ seen.2 (c.put_items-in-Many.ensures grammar seen.0 stand is_sym)
