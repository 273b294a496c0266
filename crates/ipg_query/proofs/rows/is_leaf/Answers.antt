use Rattle.std.proofs.Common.{subst, sym}
use Rattle.ipg_query.proofs.Spreading.{IsLeafRow, leaf_alone}
use Rattle.ipg_query.proofs.rows.is_leaf.Goals as goal

pub returns-in-Text : goal.returns-in-Text
returns-in-Text c src st at place one stands e = leaf_alone src st at place c.args.kid one (subst IsLeafRow (sym c.in-Text.is) tt) stands

pub returns-in-Number : goal.returns-in-Number
returns-in-Number c src st at place one stands e = leaf_alone src st at place c.args.kid one (subst IsLeafRow (sym c.in-Number.is) tt) stands

pub returns-in-Raw : goal.returns-in-Raw
returns-in-Raw c src st at place one stands e = leaf_alone src st at place c.args.kid one (subst IsLeafRow (sym c.in-Raw.is) tt) stands
