use Rattle.std.proofs.Common.{refl, []}
use Rattle.ipg_mach.specs.Calls.{shown}
use Rattle.ipg_mach.proofs.Working as working
use Rattle.ipg_mach.proofs.Rows as rows
use Rattle.ipg_mach.proofs.top.Top.pass.Goals as goal

pub returns-clause-highest : goal.returns-clause-highest
returns-clause-highest g c src frames lower items call work =
    let t = c.args.tables.now in
    let s = shown c.args.self.now in
    let cleared = working.turns_to t src s frames lower items call work c.clear_items.new.self _ call.state [] (c.clear_items.ensures work.base)
    work.is_open.count work.is_open.attrs work.is_open.done (record { stand = tt; within = tt; single = tt }) in
    let past = working.passed t src (record s { piles = c.clear_items.new.self }) frames lower [] call cleared c.unwrap_or_default-self.result
    (rows.behind_first s.frame.left.now c.get.result c.unwrap_or_default-self.result c.get.ensures.lookup c.unwrap_or_default-self.ensures) refl in
    c.run_on.ensures.highest src frames lower _ past refl
