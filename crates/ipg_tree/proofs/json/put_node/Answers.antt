use Rattle.std.proofs.Common.{refl, sym, subst}
use Rattle.ipg_table.specs.Rows.{StandFor}
use Rattle.ipg_tree.specs.Putting.{begun, more, next, exits, ended}
use Rattle.ipg_tree.proofs.Objects.{node_pieces}
use Rattle.ipg_tree.proofs.json.put_node.Goals as goal

pub returns-in_err-put_rule : goal.returns-in_err-put_rule
returns-in_err-put_rule g c grammar one stand said small =
    let stands = subst (λ t. StandFor t grammar) (sym c.tables-tables.ensures) stand in
    let is = sym (node_pieces grammar c.args.p.now.parse.store c.args.node one c.args.at _ c.places_of-places.result _ said
    (c.rule_name-name.ensures grammar stands) c.places_of-places.ensures.from (c.places_of-places.ensures.others small)
    (c.attrs_at-attrs.ensures _ said.attrs)) in
    exits _ c.from_residual.result c.from_residual.ensures.1 _ is (begun _ _ _) c.in_err-put_rule.ensures

pub returns-in_err-put_members : goal.returns-in_err-put_members
returns-in_err-put_members g c grammar one stand said small =
    let stands = subst (λ t. StandFor t grammar) (sym c.tables-tables.ensures) stand in
    let is = sym (node_pieces grammar c.args.p.now.parse.store c.args.node one c.args.at _ c.places_of-places.result _ said
    (c.rule_name-name.ensures grammar stands) c.places_of-places.ensures.from (c.places_of-places.ensures.others small)
    (c.attrs_at-attrs.ensures _ said.attrs)) in
    exits _ c.from_residual-in_err-put_members.result c.from_residual-in_err-put_members.ensures.1 _ refl
    (next is (begun _ _ _) c.in_ok-put_rule.ensures) (c.in_err-put_members.ensures grammar stands)

pub returns : goal.returns
returns g c grammar one stand said small =
    let stands = subst (λ t. StandFor t grammar) (sym c.tables-tables.ensures) stand in
    let is = sym (node_pieces grammar c.args.p.now.parse.store c.args.node one c.args.at _ c.places_of-places.result _ said
    (c.rule_name-name.ensures grammar stands) c.places_of-places.ensures.from (c.places_of-places.ensures.others small)
    (c.attrs_at-attrs.ensures _ said.attrs)) in
    ended c.put.result _ _ (more (next is (begun _ _ _) c.in_ok-put_rule.ensures) (c.in_ok-put_members.ensures grammar stands)) c.put.ensures
