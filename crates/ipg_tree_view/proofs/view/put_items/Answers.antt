use Rattle.std.proofs.Common.{◌≡◌, ◌++◌, [], ap, sym, ◌∙◌, subst, length, append-nil}
use Rattle.std.specs.Prelude.{codes, decimal, slice_get, Some}
use Rattle.ipg_core.specs.Lines.{sym_name}
use Rattle.ipg_core.specs.Tree.{count_of}
use Rattle.ipg_table.specs.Rows.{StandFor}
use Rattle.ipg_tree_view.specs.View.{indented}
use Rattle.ipg_tree_view.proofs.Cuts.{lacks_as, lacks_none}
use Rattle.ipg_tree.specs.Behind.{count_rows}
use Rattle.ipg_tree_view.proofs.view.put_items.Goals as goal

pub returns : goal.returns
returns g c src grammar at one rows kids stand is_sym are_rows stand_kids =
    let tables = sym c.tables.ensures in
    let is_one = subst (λ t. slice_get t.syms c.args.items.sym ≡ Some one) tables is_sym in
    let name = c.sym_name.ensures grammar one (subst (λ t. StandFor t grammar) tables stand) is_one in
    let count = ap length (c.items.ensures rows are_rows) ∙ count_rows src _ at rows kids stand_kids in
    let kind = c.args.kind.now in
    let digits = decimal (count_of kids) in
    let said = kind ++ (sym_name grammar one ++ (codes " x " ++ digits)) in
    let all = indented c.args.depth said in
    let opened = c.push.ensures all (sym_name grammar one ++ (codes " x " ++ digits)) (c.indent-text.ensures said) in
    let named = c.push-2.ensures all (codes " x " ++ digits) (lacks_as _ all _ _ (ap (λ n. n ++ (codes " x " ++ digits)) (sym name)) opened) in
    let text = lacks_none _ all (c.push_number.ensures all []
    (lacks_as _ all _ _ (ap decimal (sym count) ∙ sym (append-nil (decimal (length c.items.result.now)))) (c.push-3.ensures all digits named))) in
    c.put_bare_line.ensures all text
