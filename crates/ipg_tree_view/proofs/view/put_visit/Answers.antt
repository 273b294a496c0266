use Rattle.std.proofs.Common.{◌++◌, ◌∷◌, ap, sym, ◌∙◌, subst}
use Rattle.std.specs.Prelude.{slice_get, decimal}
use Rattle.ipg_core.specs.Lines.{primitive_name}
use Rattle.ipg_core.specs.Touch.{width}
use Rattle.ipg_table.specs.Rows.{Rows}
use Rattle.ipg_tree_view.specs.Bare.{end_of}
use Rattle.ipg_tree_view.specs.View.{piece_of}
use Rattle.ipg_tree.specs.Putting.{as_text}
use Rattle.ipg_tree.specs.Behind.{IsNodeRow}
use Rattle.ipg_tree_view.proofs.Walked.{tree_seen, leaf_seen, array_seen, many_seen}
use Rattle.ipg_tree_view.proofs.view.put_visit.Goals as goal

pub returns-in-Node : goal.returns-in-Node
returns-in-Node g c src grammar one shares shows =
    let seen = tree_seen src c.args.p.now.parse.store grammar c.args.p.now.parse.input c.args.visit one (subst IsNodeRow (sym c.in-Node.is) tt) shows in
    as_text c.put_tree.result _ _ _ _ _ _ seen.is (c.put_tree.ensures src grammar seen.at seen.one shares.tables seen.stands shows.small)

pub returns-in-Text : goal.returns-in-Text
returns-in-Text g c src grammar one shares shows =
    let is_sym = ap (λ s. slice_get s c.in-Text.sym) (ap (λ (t : Rows). t.syms) c.tables.ensures ∙ sym shares.syms) in
    as_text c.put_terminal.result _ _ _ _ _ _
    (leaf_seen src c.args.p.now.parse.store c.text_size.result c.args.visit grammar c.args.p.now.parse.input one _ c.in-Text.is tt
    (λ bytes is. c.text_size.ensures bytes (is_sym ∙ is)) shows)
    (c.put_terminal.ensures shows.small)

pub returns-in-Number : goal.returns-in-Number
returns-in-Number g c src grammar one shares shows =
    let visit = c.args.visit in
    let input = c.args.p.now.parse.input in
    let value = ap (λ n. piece_of input visit.depth visit.from (end_of visit.from visit.to (width c.in-Number.prim))
    (primitive_name c.in-Number.prim ++ 32 ∷ decimal n))
    c.value_of.ensures in
    as_text c.put_number.result _ _ _ _ _ _ (value ∙ leaf_seen src c.args.p.now.parse.store 0 visit grammar input one _ c.in-Number.is tt tt shows)
    (c.put_number.ensures shows.small)

pub returns-in-Raw : goal.returns-in-Raw
returns-in-Raw g c src grammar one shares shows =
    as_text c.put_raw.result _ _ _ _ _ _ (leaf_seen src c.args.p.now.parse.store 0 c.args.visit grammar c.args.p.now.parse.input one _ c.in-Raw.is tt tt shows)
    (c.put_raw.ensures shows.small)

pub returns-in-Array : goal.returns-in-Array
returns-in-Array g c src grammar one shares shows =
    let input = c.args.p.now.parse.input in
    let seen = array_seen src c.args.p.now.parse.store grammar input c.args.visit c.in-Array.sym c.in-Array.items one c.in-Array.is shows in
    let is_sym = ap (λ s. slice_get s c.in-Array.sym) (sym shares.syms) ∙ seen.is_sym in
    as_text c.put_items.result _ _ _ _ _ _ seen.is
    (c.put_items.ensures src grammar seen.at seen.one seen.rows seen.kids shares.tables is_sym seen.are_rows seen.stand)

pub returns-in-Many : goal.returns-in-Many
returns-in-Many g c src grammar one shares shows =
    let input = c.args.p.now.parse.input in
    let seen = many_seen src c.args.p.now.parse.store grammar input c.args.visit c.in-Many.sym c.in-Many.items one c.in-Many.is shows in
    let is_sym = ap (λ s. slice_get s c.in-Many.sym) (sym shares.syms) ∙ seen.is_sym in
    as_text c.put_items-in-Many.result _ _ _ _ _ _ seen.is
    (c.put_items-in-Many.ensures src grammar seen.at seen.one seen.rows seen.kids shares.tables is_sym seen.are_rows seen.stand)
