use Rattle.std.proofs.Common.{sym, ap, ◌∙◌, ◌∷◌, subst, arith, Some}
use Rattle.std.proofs.lemmas.Result.{on_ok_weaker}
use Rattle.ipg_mach_moves.specs.Moves as moves
use Rattle.ipg_mach_nodes.specs.Stored.{before}
use Rattle.ipg_mach.specs.declared.frame.Frame.{Frame}
use Rattle.ipg_mach.specs.Calls.{Shown, shown, IsHolding, IsSub, Awaits}
use Rattle.ipg_mach.specs.Known.{IsKnown, IsEntryOf}
use Rattle.ipg_mach.specs.Stage.{staged, key_in}
use Rattle.ipg_mach.proofs.Stepping as stepping
use Rattle.ipg_mach.proofs.work.Work.come_back.Goals as goal

pub returns : goal.returns
returns g c src e call lower key answer at holds is_lower entry =
    let s = staged c.args.self.now in
    let t = s.tables in
    let held = stepping.is_holding src s e at call lower key answer holds is_lower in
    let now = c.resume.new.self in
    let frames = c.resume.new.frames.items in
    let is_top = c.in_ok-remember.ensures.top in
    let holding = subst (λ (top : Shown). IsHolding t src top s.frames (call ∷ lower) key answer) (sym is_top)
    (stepping.other_floor t src s.top s.frames (call ∷ lower) key answer held c.remember.new.self.floor) in
    let working = c.resume.ensures.working src lower call key answer holding in
    let awaits = subst (λ (f : Frame). Awaits now.frame call f.from f.to) (ap (λ (top : Shown). top.frame) is_top)
    (c.resume.ensures.awaits src lower call key answer holding) in
    let same_store = c.resume.ensures.store ∙ ap (λ (top : Shown). top.store) is_top in
    let kept = stepping.same_memory src s.top.store now.store c.remember.new.self.floor now.floor c.remember.new.memo _ same_store c.resume.ensures.floor
    (c.in_ok-remember.ensures.remembers src call.frame.grammar e.known answer working.at_work.is_open.call.tables at.floor at.known entry) in
    let knows = subst (λ k. IsKnown src (before now.store now.floor) c.remember.new.memo (moves.learn call.frame.grammar e.known k answer))
    (stepping.same_key s.top.frame key held.is_key) kept.holds in
    let resumed = stepping.resumed_at src s e at call lower (shown now) frames c.remember.new.memo _ working kept.mark knows in
    let from = c.saturating_sub-from in
    let to = c.saturating_sub-to in
    let begins = awaits.begins in
    let ends = awaits.ends in
    let valid = awaits.valid in
    let inside = awaits.inside in
    let first = from.ensures in
    let last = to.ensures in
    let here = subst (λ st. IsEntryOf src st (key_in s.top.frame) (Some c.args.entry) (Some answer)) (sym same_store) entry in
    let sub = subst (λ kid. IsSub src now.store now.frame.from awaits.ask kid answer) (sym c.known_kid.ensures)
    (stepping.sub_of src now.store (key_in s.top.frame) now.frame.from awaits.ask answer c.args.entry from.result to.result here (omega arith) (omega arith)
    (omega arith) (omega arith)) in
    let adv = c.answered-adv.ensures src frames lower call awaits.ask answer working awaits.asks awaits.bounded valid (omega arith) sub in
    on_ok_weaker c.turned.result
    (λ both. stepping.goes_on src _ _ resumed (shown c.turned.new.self) frames lower _ s.counts e.tally both.1 both.0 at.tally)
    (stepping.both_ok _ _ c.turned.result (c.turned.ensures.highest src frames lower call (moves.always answer) kept.mark working adv)
    (c.turned.ensures.keeps kept.mark working.at_work.mark))
