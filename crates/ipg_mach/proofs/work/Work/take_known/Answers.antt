use Rattle.std.proofs.Common.{sym, subst, Some}
use Rattle.std.proofs.lemmas.Result.{on_ok_weaker}
use Rattle.ipg_mach_moves.specs.Moves.{always}
use Rattle.ipg_mach_nodes.specs.Stored.{before}
use Rattle.ipg_mach_term.specs.Advance.{EndsBy}
use Rattle.ipg_mach.specs.Calls.{shown, IsSub}
use Rattle.ipg_mach.specs.Stage.{staged}
use Rattle.ipg_mach.proofs.Knowing as knowing
use Rattle.ipg_mach.proofs.Stepping as stepping
use Rattle.ipg_mach.proofs.work.Work.take_known.Goals as goal

pub returns : goal.returns
returns g c src e call rule key answer q at works begins ends entry =
    let s = staged c.args.self.now in
    let st = s.top.store in
    let frame = s.top.frame in
    let ask = q.call.ask in
    let work = stepping.is_working src s e at call works in
    let grown = c.grows_from_before.ensures st s.top.floor at.floor in
    let here = knowing.entry_stays c.trees_stay.ensures src (before st s.top.floor) st grown key (Some c.args.entry) (Some answer) entry in
    let sub = subst (λ kid. IsSub src st frame.from ask kid answer) (sym c.known_kid.ensures)
    (stepping.sub_of src st key frame.from ask answer c.args.entry c.args.from c.args.to here begins ends q.call.is_from q.call.is_to) in
    let within = stepping.within s.tables src s.top s.frames e.lower call work rule c.args.from c.args.to q in
    let bounded = subst (EndsBy frame.entry) (sym q.call.is_to) q.bounded in
    let adv = c.answered-adv.ensures src s.frames e.lower call ask answer work q.call.is_asked bounded within.0 within.1 sub in
    on_ok_weaker c.turned.result
    (λ both. stepping.goes_on src s e at (shown c.turned.new.self) s.frames e.lower _ c.with_known-self.result _ both.1 both.0
    (c.with_known-self.ensures e.tally at.tally))
    (stepping.both_ok _ _ c.turned.result (c.turned.ensures.highest src s.frames e.lower call (always answer) at.floor work adv)
    (c.turned.ensures.keeps at.floor work.at_work.mark))
