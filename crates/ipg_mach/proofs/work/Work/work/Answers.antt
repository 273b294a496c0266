use Rattle.std.proofs.Common.{sym, ap, subst, List, OnOk, Bor, ℕ}
use Rattle.std.proofs.lemmas.Result.{on_ok_weaker}
use Rattle.ipg_mach_moves.specs.Moves.{works, silent, at_hand}
use Rattle.ipg_table.specs.Rows.{Rows}
use Rattle.ipg_mach_term.specs.Advance.{IsAtHand}
use Rattle.ipg_mach.specs.Calls.{shown, size_of, items_in, term_at_hand}
use Rattle.ipg_mach.specs.Stage.{Stage, staged, IsAt, IsAsking}
use Rattle.ipg_mach.proofs.Stepping as stepping
use Rattle.ipg_mach.proofs.work.Work.work.Goals as goal

pub returns-in-Makes : goal.returns-in-Makes
returns-in-Makes g c src e call at highest =
    let s = staged c.args.self.now in
    let top = s.top in
    let work = stepping.is_working src s e at call highest in
    let found = c.at_hand.ensures.found src s.frames e.lower call at.input work in
    let made = subst (λ hand. IsAtHand src top.store top.frame.from (size_of top.frame) (term_at_hand call.left) call.state (items_in call.entry) call.frame
    top.frame.entry hand (at_hand silent call)) c.in-Makes.is found in
    let now = stepping.same_reader src s e at c.at_hand.new.self.tables.now c.at_hand.new.self.input.now
    (ap (λ (b : Bor Rows). b.now) c.at_hand.ensures.tables) (ap (λ (b : Bor (List ℕ)). b.now) c.at_hand.ensures.input) in
    let stage : Stage = record s { tables = c.at_hand.new.self.tables.now; input = c.at_hand.new.self.input.now } in
    let works_now = stepping.is_working src stage e now call highest in
    subst (λ asked. OnOk c.turned.result (IsAt src (record stage { top = shown c.turned.new.self }) (works e call (at_hand silent call).answer asked)))
    (sym made.0)
    (on_ok_weaker c.turned.result
    (λ both. stepping.goes_on src stage e now (shown c.turned.new.self) s.frames e.lower _ s.counts e.tally both.1 both.0 at.tally)
    (stepping.both_ok _ _ c.turned.result (c.turned.ensures.highest src s.frames e.lower call silent at.floor works_now made.1)
    (c.turned.ensures.keeps at.floor work.at_work.mark)))

pub returns-in-Calls : goal.returns-in-Calls
returns-in-Calls g c src e call at highest =
    let s = staged c.args.self.now in
    let top = s.top in
    let work = stepping.is_working src s e at call highest in
    let found = c.at_hand.ensures.found src s.frames e.lower call at.input work in
    let calls = subst (λ hand. IsAtHand src top.store top.frame.from (size_of top.frame) (term_at_hand call.left) call.state (items_in call.entry) call.frame
    top.frame.entry hand (at_hand silent call)) c.in-Calls.is found in
    let now = stepping.same_reader src s e at c.at_hand.new.self.tables.now c.at_hand.new.self.input.now
    (ap (λ (b : Bor Rows). b.now) c.at_hand.ensures.tables) (ap (λ (b : Bor (List ℕ)). b.now) c.at_hand.ensures.input) in
    let q : IsAsking top.frame call c.in-Calls.rule c.in-Calls.from c.in-Calls.to = record { call = calls.0; bounded = calls.1 } in
    subst (λ asked. OnOk c.ask.result (IsAt src (staged c.ask.new.self) (works e call (at_hand silent call).answer asked))) (sym calls.0.is_asked)
    (c.ask.ensures src e call q now highest)
