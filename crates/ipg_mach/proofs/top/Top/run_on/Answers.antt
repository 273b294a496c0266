use Rattle.std.proofs.Common.{sym, ◌∙◌}
use Rattle.std.proofs.lemmas.Result.{on_ok_weaker}
use Rattle.ipg_table.specs.Rows.{HoldsInstr}
use Rattle.ipg_mach.specs.Calls.{shown}
use Rattle.ipg_mach.proofs.Working as working
use Rattle.ipg_mach.proofs.Rows as rows
use Rattle.ipg_mach.proofs.top.Top.run_on.Goals as goal

pub returns-then-is_empty-clause-highest : goal.returns-then-is_empty-clause-highest
returns-then-is_empty-clause-highest g c src frames lower call work outside =
    let t = c.args.tables.now in
    let none = rows.empty_left (HoldsInstr t call.terms) c.args.self.now.frame.left.now call.left work.is_open.left
    (sym c.is_empty.ensures ∙ c.if-is_empty.true) in
    on_ok_weaker c.close.result (working.closed t src (shown c.close.new.self) frames lower call none) (c.close.ensures.holds src frames lower _ call work)

pub returns-else-is_empty-clause-highest : goal.returns-else-is_empty-clause-highest
returns-else-is_empty-clause-highest g c src frames lower call work outside =
    let t = c.args.tables.now in
    let s = shown c.args.self.now in
    let one = rows.one_left (HoldsInstr t call.terms) s.frame.left.now call.left work.is_open.left
    (sym c.is_empty.ensures ∙ c.if-is_empty.false) in
    working.goes t src s frames lower call one outside work
