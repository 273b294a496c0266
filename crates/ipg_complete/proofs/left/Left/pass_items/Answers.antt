use Rattle.std.proofs.Common.{◌∙◌, ap}
use Rattle.ipg_core.specs.declared.grammar.CoreExpr.TheVariants.{After}
use Rattle.ipg_complete.specs.Lefts.{base_expr, behind_items}
use Rattle.ipg_complete.proofs.Lists.{behind_one_more}
use Rattle.ipg_complete.proofs.left.Left.pass_items.Goals as goal

pub returns : goal.returns
returns c =
    ap (behind_items (base_expr c.self.inside.base)) c.in_ok-push.ensures.items
    ∙ behind_one_more (base_expr c.self.inside.base) c.self.inside.since.items c.args.number
    ∙ ap (After c.args.number) c.self.view_is
