use Rattle.std.proofs.Common.{◌≡◌, [], length, arith, ◌∷◌, ◌+◌, refl, sym, ap, ◌∙◌, subst}
use Rattle.std.proofs.lemmas.List.{length-append}
use Rattle.ipg_mach_nodes.specs.Stored.{before}
use Rattle.ipg_mach.specs.Piled.{below}
use Rattle.std.proofs.lemmas.Result.{on_ok_weaker}
use Rattle.ipg_core.specs.Meaning.{outer_for}
use Rattle.ipg_core.specs.Grammar.{rule_at, holder_of}
use Rattle.ipg_mach_moves.specs.Moves.{one_opened}
use Rattle.ipg_mach.specs.declared.frame.NewCall.{NewCall}
use Rattle.ipg_mach.specs.Calls.{shown, IsNew}
use Rattle.ipg_mach.specs.Counted.{IsTally}
use Rattle.ipg_mach.specs.Stage.{staged}
use Rattle.ipg_mach.proofs.Stepping as stepping
use Rattle.ipg_mach.proofs.work.Work.open.Goals as goal

pub returns : goal.returns
returns g c src e call from to q at works begins ends =
    let s = staged c.args.self.now in
    let t = s.tables in
    let work = stepping.is_working src s e at call works in
    let is = work.at_work.is_open.call in
    let holder = c.holder-holder.ensures call.frame.grammar is.tables in
    let outer = q.call.is_outer ∙ ap (outer_for call.frame call.state.own) (sym holder)
    ∙ c.outer-outer.ensures.outer call.frame call.state.own is.rule is.alt work.at_work.is_open.attrs is.outer is.outer_inside work.at_work.base in
    let called : NewCall = record { rule = c.args.key.rule; from = c.args.key.from; to = c.args.key.to; outer = c.outer-outer.result } in
    let new = stepping.is_new t src s.top s.frames e.lower call work c.args.key.rule from to q called refl begins ends outer
    (c.outer-outer.ensures.inside is.outer_inside work.at_work.base) in
    let frames = c.in_ok-push.ensures.ok in
    let opened : c.len.result + 1 ≡ length e.lower + 2 =
    let count = c.len.ensures.value in
    let same = ap length frames in
    let more = length-append s.frames (s.top.frame ∷ []) in
    let frame = s.top.frame in
    let wait = stepping.wait_length t src (before s.top.store frame.mark) s.frames (below s.top.piles frame.base) frame.from frame.to e.lower
    work.at_work.wait in
    omega arith in
    let counted = c.with_opened-self.ensures e.tally at.tally _ (holder ∙ ap (λ r. holder_of (rule_at call.frame.grammar r)) (sym q.call.is_rule)) in
    on_ok_weaker c.open.result
    (λ both. stepping.goes_on src s e at (shown c.open.new.self) c.push.new.self.items (call ∷ e.lower) _ c.with_opened-self.result _ both.1 both.0
    (subst (λ n. IsTally c.with_opened-self.result (one_opened e.tally (holder_of (rule_at call.frame.grammar q.call.ask.callee)) n)) opened counted))
    (stepping.both_ok _ _ c.open.result
    (c.open.ensures.highest src c.push.new.self.items (call ∷ e.lower) _ _
    (subst (λ frames. IsNew t src s.top frames (call ∷ e.lower) called (stepping.frame_of t src s.top s.frames e.lower call work c.args.key.rule from to q)
    (call.from + q.call.ask.from)) (sym frames) new))
    (c.open.ensures.keeps at.floor))
