use Rattle.ipg_query.proofs.Placed.{ends_named, start_named}
use Rattle.ipg_query.proofs.fields.field_named.Goals as goal

pub returns-then-is_start : goal.returns-then-is_start
returns-then-is_start g c src grammar one shares stands near =
    start_named grammar c.args.name.now c.args.spot.at one c.is_start.result c.value_of.result c.ends_of.result c.is_start.ensures c.if-is_start.true near
    (c.ends_of.ensures src c.args.spot.at one shares.syms stands) c.value_of.ensures

pub returns-then-is_end : goal.returns-then-is_end
returns-then-is_end g c src grammar one shares stands near =
    ends_named grammar c.args.name.now c.args.spot.at one c.is_start.result c.is_end.result c.value_of-then-is_end.result c.ends_of-then-is_end.result
    c.is_start.ensures c.if-is_start.false
    c.is_end.ensures c.if-is_end.true near
    (c.ends_of-then-is_end.ensures src c.args.spot.at one shares.syms stands) c.value_of-then-is_end.ensures
