use Rattle.std.proofs.Common.{◌≡◌, ◌∷◌, [], sym, ap, ◌∙◌, subst, length}
use Rattle.std.specs.Prelude.{decimal, slice_get, Some}
use Rattle.ipg_core.specs.Lines.{line, sym_name}
use Rattle.ipg_table.specs.Rows.{StandFor}
use Rattle.ipg_tree.specs.Putting.{as_text}
use Rattle.ipg_tree.specs.Behind.{count_rows}
use Rattle.ipg_tree.proofs.leaf.put_items.Goals as goal

pub returns : goal.returns
returns g c src grammar at one rows items stand is_sym are_rows kids =
    let tables = sym c.tables.ensures in
    let is_one = subst (λ t. slice_get t.syms c.args.sym ≡ Some one) tables is_sym in
    let name = c.sym_name-name.ensures grammar one (subst (λ t. StandFor t grammar) tables stand) is_one in
    let count = ap length (c.items.ensures rows are_rows) ∙ count_rows src _ at rows items kids in
    let d = decimal c.args.visit.depth in
    let k = c.args.kind.now in
    let is =
    ap (λ n. line (d ∷ k ∷ n ∷ decimal (length c.items.result.now) ∷ [])) name
    ∙ ap (λ n. line (d ∷ k ∷ sym_name grammar one ∷ decimal n ∷ [])) count in
    as_text c.put_counted.result _ _ _ _ _ _ is c.put_counted.ensures
