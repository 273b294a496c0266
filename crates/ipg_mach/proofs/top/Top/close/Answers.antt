use Rattle.std.proofs.Common.{refl, sym, ap, ◌∙◌, subst, Ok}
use Rattle.ipg_table.specs.Rows.{attrs_in}
use Rattle.ipg_core.specs.Within.{TreeWithin}
use Rattle.ipg_core.specs.Meaning.{node_of}
use Rattle.ipg_mach_slot.specs.Now.{AreResults}
use Rattle.ipg_mach.specs.declared.frame.HeldAnswer.TheVariants.{Node}
use Rattle.ipg_mach.specs.Calls.{shown, size_of}
use Rattle.ipg_mach.proofs.Working as working
use Rattle.ipg_mach.proofs.top.Top.close.Goals as goal

pub returns-clause-holds : goal.returns-clause-holds
returns-clause-holds g c src frames lower items call work =
    let t = c.args.tables.now in
    let s = shown c.args.self.now in
    let grown = working.grown t src s frames lower items call work c.results_stay.ensures c.items_stay.ensures c.close.new.store c.in_ok-id.ensures.grows in
    let one = node_of call.frame call.terms call.state in
    let size = c.size.ensures in
    let own = work.is_open.alternative in
    let stands = sym (working.alternatives_at t src s.frame _ call.frame call.from work.is_open.call) ∙ own.stands in
    let sets = c.sets_of.ensures call.frame.grammar own.own call.alts work.is_open.call.tables stands ∙ sym (ap attrs_in own.same) in
    let tree = c.in_ok-id.ensures.tree src s.frame.from call.frame call.terms call.state (record {
      syms = work.is_open.call.syms;
      rule = work.is_open.call.rule;
      size = working.part_size t src s.frame _ call.frame call.from work.is_open.call ∙ sym size;
      sets = sets;
      own = work.is_open.attrs ∙ sym c.own.ensures;
      done = subst (λ n. AreResults src s.store s.frame.from n c.done.result.now call.state.done) (sym size)
          (subst (λ rows. AreResults src s.store s.frame.from (size_of s.frame) rows call.state.done) (sym c.done.ensures) work.is_open.done);
    }) in
    working.holds_so t src (record s { store = c.close.new.store }) frames lower call.frame call.from
    (working.ready_of t src (record s { store = c.close.new.store }) frames lower items call grown)
    (shown c.hold.new.self) (Node c.in_ok-id.id) (Ok one) (c.hold.ensures.shown work.base)
    (one, refl, tree.0, subst (λ n. TreeWithin n one) size tree.1)
