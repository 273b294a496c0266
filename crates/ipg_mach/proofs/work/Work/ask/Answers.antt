use Rattle.std.proofs.Common.{refl, sym, ap, ◌∙◌, subst, OnOk}
use Rattle.ipg_memo.specs.declared.memo.Key.{Key}
use Rattle.ipg_mach_moves.specs.Moves.{asks, known_of}
use Rattle.ipg_mach_nodes.specs.Stored.{before}
use Rattle.ipg_mach.specs.Known.{IsEntryOf, key_of}
use Rattle.ipg_mach.specs.Stage.{staged, IsAt}
use Rattle.ipg_mach.proofs.Stepping as stepping
use Rattle.ipg_mach.proofs.work.Work.ask.Goals as goal

pub returns-in-Some : goal.returns-in-Some
returns-in-Some g c src e call q at highest =
    let s = staged c.args.self.now in
    let st = before s.top.store s.top.floor in
    let work = stepping.is_working src s e at call highest in
    let key : Key = record { rule = c.args.rule; from = c.in_ok-further.field-0; to = c.in_ok-further-2.field-0 } in
    let same = stepping.key_is s.tables src s.top s.frames e.lower call work c.args.rule c.args.from c.args.to q key refl c.in_ok-further.ensures
    c.in_ok-further-2.ensures in
    let entry = subst (λ found. IsEntryOf src st key found (known_of e.known (key_of key))) c.in-Some.is (c.known.ensures src st e.known at.known) in
    let known = stepping.some_known src st key c.in-Some.entry _ entry in
    subst (λ found. OnOk c.take_known.result (IsAt src (staged c.take_known.new.self) (asks e call q.call.ask found)))
    (sym (ap (known_of e.known) same ∙ known.1))
    (c.take_known.ensures src e call c.args.rule key known.0 q at highest c.in_ok-further.ensures c.in_ok-further-2.ensures known.2)

pub returns-in-None : goal.returns-in-None
returns-in-None g c src e call q at highest =
    let s = staged c.args.self.now in
    let st = before s.top.store s.top.floor in
    let work = stepping.is_working src s e at call highest in
    let key : Key = record { rule = c.args.rule; from = c.in_ok-further.field-0; to = c.in_ok-further-2.field-0 } in
    let same = stepping.key_is s.tables src s.top s.frames e.lower call work c.args.rule c.args.from c.args.to q key refl c.in_ok-further.ensures
    c.in_ok-further-2.ensures in
    let entry = subst (λ found. IsEntryOf src st key found (known_of e.known (key_of key))) c.in-None.is (c.known.ensures src st e.known at.known) in
    subst (λ found. OnOk c.open.result (IsAt src (staged c.open.new.self) (asks e call q.call.ask found)))
    (sym (ap (known_of e.known) same ∙ stepping.none_known src st key _ entry))
    (c.open.ensures src e call c.args.from c.args.to q at highest c.in_ok-further.ensures c.in_ok-further-2.ensures)
