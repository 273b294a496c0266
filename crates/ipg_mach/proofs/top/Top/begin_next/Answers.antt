use Rattle.std.proofs.lemmas.Result.{on_ok_weaker}
use Rattle.std.proofs.Common.{◌+◌, subst, OnOk}
use Rattle.ipg_mach_moves.specs.Moves.{begins}
use Rattle.ipg_mach.specs.Calls.{shown, IsHighest}
use Rattle.ipg_mach.proofs.Working as working
use Rattle.ipg_mach.proofs.Stores as stores
use Rattle.ipg_mach.proofs.top.Top.begin_next.Goals as goal

pub returns-clause-highest : goal.returns-clause-highest
returns-clause-highest g c src frames lower items call mark work =
    let t = c.args.tables.now in
    let s = shown c.args.self.now in
    let behind = record call.frame { alt = call.frame.alt + 1 } in
    subst (λ alts. OnOk c.begin.result (IsHighest t src (shown c.begin.new.self) frames lower (begins behind call.from alts)))
    (working.later_alternatives call work.is_open.alternative)
    (c.begin.ensures.highest src frames lower _ call.from
    (working.next_ready t src s frames lower items call work c.later.result c.cut.new.self c.in_ok-self.field-0 c.before_before.ensures
    (record { nodes = c.later.ensures.nodes; kids = c.later.ensures.kids; attrs = c.later.ensures.attrs }) c.cut.ensures c.in_ok-self.ensures))

pub returns-clause-keeps : goal.returns-clause-keeps
returns-clause-keeps g c floor mark =
    let s = shown c.args.self.now in
    let cut = stores.keeps_cut c.before_before.ensures s c.later.result c.cut.new.self (record s.frame { alt = c.in_ok-self.field-0 })
    (record { nodes = c.later.ensures.nodes; kids = c.later.ensures.kids; attrs = c.later.ensures.attrs }) c.cut.ensures floor in
    on_ok_weaker c.begin.result (λ more. stores.keeps_on s _ (shown c.begin.new.self) cut more) (c.begin.ensures.keeps cut.mark)
