use Rattle.ipg_query.proofs.Valued.{no_value, value_found, value_not_found}
use Rattle.ipg_query.proofs.fields.value_named.Goals as goal

pub returns-then-is_some : goal.returns-then-is_some
returns-then-is_some c g stand =
    value_found g.names c.args.name.now c.args.attrs.now c.loop-attr.attr-index _ c.value_if-value.result c.loop-attr-test.true
    (c.value_if-value.ensures g stand)
    (c.loop-attr.invariant g stand) c.is_some.result c.is_some.ensures c.if-is_some.true

pub loop-attr-preserved : goal.loop-attr-preserved
loop-attr-preserved c g stand =
    value_not_found g.names c.args.name.now c.args.attrs.now c.loop-attr.attr-index _ c.value_if-value.result c.loop-attr-test.true
    (c.value_if-value.ensures g stand)
    (c.loop-attr.invariant g stand) c.is_some.result c.is_some.ensures c.if-is_some.false

pub returns : goal.returns
returns c g stand = no_value g.names c.args.name.now c.args.attrs.now c.loop-attr.attr-index c.loop-attr-test.false (c.loop-attr.invariant g stand)
