use Rattle.std.proofs.Common.{w64, sym, subst, ◌++◌, ◌∷◌, [], OnOk, Result, Ok}
use Rattle.std.proofs.lemmas.Int.{to_z-of_z}
use Rattle.ipg_core.specs.Run.{Stop}
use Rattle.ipg_core.specs.Meaning.{with_value}
use Rattle.ipg_mach_moves.specs.Moves.{Advance, Past, turned, at_hand}
use Rattle.ipg_mach_term.specs.Advance.{IsAdvance, IsEntry}
use Rattle.ipg_mach.specs.declared.frame.Frame.{Frame}
use Rattle.ipg_mach.specs.Calls.{shown, IsHighest, size_of, items_in, term_at_hand}
use Rattle.ipg_mach.proofs.Working as working
use Rattle.ipg_mach.proofs.top.Top.turned.Goals as goal

pub returns-in-Value-clause-highest : goal.returns-in-Value-clause-highest
returns-in-Value-clause-highest g c src frames lower call by floor work adv =
    let answer = (at_hand by call).answer in
    let t = c.args.tables.now in
    let s = shown c.args.self.now in
    let is = subst (λ a. IsAdvance src s.store s.frame.from (size_of s.frame) (term_at_hand call.left) call.state (items_in call.entry) a answer)
    c.in-Value.is adv in
    let highest = λ (a : Result Advance Stop). OnOk c.pass_value.result (IsHighest t src (shown c.pass_value.new.self) frames lower (turned call a)) in
    subst highest (sym is.1)
    (subst (λ z. highest (Ok (Past (with_value call.state c.in-Value.attr z)))) (to_z-of_z w64 c.in-Value.value is.0)
    (c.pass_value.ensures.highest src frames lower (items_in call.entry) call work.at_work))

pub returns-in-Result-clause-highest : goal.returns-in-Result-clause-highest
returns-in-Result-clause-highest g c src frames lower call by floor work adv =
    let answer = (at_hand by call).answer in
    let t = c.args.tables.now in
    let s = shown c.args.self.now in
    let is = subst (λ a. IsAdvance src s.store s.frame.from (size_of s.frame) (term_at_hand call.left) call.state (items_in call.entry) a answer)
    c.in-Result.is adv in
    subst (λ a. OnOk c.pass_result.result (IsHighest t src (shown c.pass_result.new.self) frames lower (turned call a))) (sym is.2)
    (c.pass_result.ensures.highest src frames lower (items_in call.entry) call is.0 (working.some_left by call _ is.2) work.at_work is.1)

pub returns-in-Array-clause-highest : goal.returns-in-Array-clause-highest
returns-in-Array-clause-highest g c src frames lower call by floor work adv =
    let answer = (at_hand by call).answer in
    let t = c.args.tables.now in
    let s = shown c.args.self.now in
    let is = subst (λ a. IsAdvance src s.store s.frame.from (size_of s.frame) (term_at_hand call.left) call.state (items_in call.entry) a answer)
    c.in-Array.is adv in
    subst (λ a. OnOk c.pass_items.result (IsHighest t src (shown c.pass_items.new.self) frames lower (turned call a))) (sym is.2)
    (c.pass_items.ensures.highest src frames lower (items_in call.entry) call is.0 (working.some_left by call _ is.2) work.at_work is.1)

pub returns-in_ok-add_item-in-Last-clause-highest : goal.returns-in_ok-add_item-in-Last-clause-highest
returns-in_ok-add_item-in-Last-clause-highest g c src frames lower call by floor work adv =
    let answer = (at_hand by call).answer in
    let t = c.args.tables.now in
    let s = shown c.args.self.now in
    let is = subst (λ a. IsAdvance src s.store s.frame.from (size_of s.frame) (term_at_hand call.left) call.state (items_in call.entry) a answer)
    c.in-Last.is adv in
    subst (λ a. OnOk c.pass_items-in-Last.result (IsHighest t src (shown c.pass_items-in-Last.new.self) frames lower (turned call a))) (sym is.4)
    (c.pass_items-in-Last.ensures.highest src frames lower (items_in call.entry ++ is.2 ∷ []) call is.0 (working.some_left by call _ is.4)
    (c.in_ok-add_item-in-Last.ensures.work t src frames lower (items_in call.entry) call is.2 work.at_work is.3) is.1)

pub returns-in-Many-clause-highest : goal.returns-in-Many-clause-highest
returns-in-Many-clause-highest g c src frames lower call by floor work adv =
    let answer = (at_hand by call).answer in
    let t = c.args.tables.now in
    let s = shown c.args.self.now in
    let is = subst (λ a. IsAdvance src s.store s.frame.from (size_of s.frame) (term_at_hand call.left) call.state (items_in call.entry) a answer)
    c.in-Many.is adv in
    subst (λ a. OnOk c.pass_items-in-Many.result (IsHighest t src (shown c.pass_items-in-Many.new.self) frames lower (turned call a))) (sym is.2)
    (c.pass_items-in-Many.ensures.highest src frames lower (items_in call.entry) call is.0 (working.some_left by call _ is.2) work.at_work is.1)

pub returns-in_ok-add_item-in-Item-clause-highest : goal.returns-in_ok-add_item-in-Item-clause-highest
returns-in_ok-add_item-in-Item-clause-highest g c src frames lower call by floor work adv =
    let answer = (at_hand by call).answer in
    let t = c.args.tables.now in
    let s = shown c.args.self.now in
    let is = subst (λ a. IsAdvance src s.store s.frame.from (size_of s.frame) (term_at_hand call.left) call.state (items_in call.entry) a answer)
    c.in-Item.is adv in
    let more = c.in_ok-add_item-in-Item.ensures.work t src frames lower (items_in call.entry) call is.0 work.at_work is.1 in
    working.inside t src (shown c.add_item-in-Item.new.self) frames lower (items_in call.entry ++ is.0 ∷ []) call more c.in-Item.entry is.2 answer is.4
    (subst (λ (f : Frame). IsEntry (size_of f) c.in-Item.entry (items_in call.entry ++ is.0 ∷ []) is.2) (sym c.add_item-in-Item.ensures.frame) is.3)
