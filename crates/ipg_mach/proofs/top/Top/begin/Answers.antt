use Rattle.ipg_mach.specs.declared.frame.HeldAnswer.TheVariants.{NoTree}
use Rattle.std.proofs.Common.{refl, sym, subst, drop, Some, None}
use Rattle.std.proofs.lemmas.Result.{on_ok_weaker}
use Rattle.ipg_core.specs.Grammar.{rule_at}
use Rattle.ipg_mach_moves.specs.Moves.{alts_of, begins}
use Rattle.ipg_mach.specs.Calls.{shown, alternatives, IsHighest, IsNext}
use Rattle.ipg_mach.proofs.Working as working
use Rattle.ipg_mach.proofs.top.Top.begin.Goals as goal

pub returns-in_ok-begin-in-Some-clause-highest : goal.returns-in_ok-begin-in-Some-clause-highest
returns-in_ok-begin-in-Some-clause-highest g c src frames lower f from ready =
    let t = c.args.tables.now in
    let s = shown c.args.self.now in
    let those = alternatives f in
    let there = drop s.frame.alt (alts_of (rule_at f.grammar s.frame.rule)) in
    let at = sym (working.alternatives_at t src s.frame _ f from ready.call) in
    let row = subst (λ found. IsNext t found there) c.in-Some.is (c.alternative.ensures f.grammar ready.call.tables) in
    let one = subst (IsNext t (Some c.in-Some.alt)) at row in
    let rest = drop 1 those in
    on_ok_weaker c.run_on.result
    (subst (IsHighest t src (shown c.run_on.new.self) frames lower)
    (working.begins_so t src s frames lower f from ready c.in-Some.alt.now one.0 rest one.1 those one.2))
    (c.run_on.ensures.highest src frames lower _
    (working.begun t src s frames lower f from ready c.in-Some.alt.now one.0 rest one.1 c.none_has_run.ensures c.instrs-self.result c.begin.new.self one.2
    c.instrs-self.ensures (c.in_ok-begin-in-Some.ensures ready.base)) refl)

pub returns-in-None-clause-highest : goal.returns-in-None-clause-highest
returns-in-None-clause-highest g c src frames lower f from ready =
    let t = c.args.tables.now in
    let s = shown c.args.self.now in
    let there = drop s.frame.alt (alts_of (rule_at f.grammar s.frame.rule)) in
    let at = sym (working.alternatives_at t src s.frame _ f from ready.call) in
    let none = subst (IsNext t None) at (subst (λ found. IsNext t found there) c.in-None.is (c.alternative.ensures f.grammar ready.call.tables)) in
    subst (λ alts. IsHighest t src (shown c.hold.new.self) frames lower (begins f from alts)) (sym none)
    (working.holds_so t src s frames lower f from ready (shown c.hold.new.self) NoTree _ (c.hold.ensures.shown ready.base) refl)
