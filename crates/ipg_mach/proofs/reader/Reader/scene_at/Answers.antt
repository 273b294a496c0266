use Rattle.std.proofs.Common.{◌≡◌, rules, sym, ap, ◌∙◌, subst, length, arith}
use Rattle.ipg_core.specs.Part.{part}
use Rattle.ipg_table.specs.Rows.{Rows, HoldsTerm}
use Rattle.ipg_mach_slot.specs.Now.{lent}
use Rattle.ipg_mach_term.specs.Advance.{IsEntry}
use Rattle.ipg_mach.specs.Lending.{Lends}
use Rattle.ipg_mach.specs.Piled.{below, above}
use Rattle.ipg_mach.specs.Calls.{size_of, items_in}
use Rattle.ipg_mach.proofs.Reading as reading
use Rattle.ipg_mach.proofs.Working as working
use Rattle.ipg_mach.proofs.reader.Reader.scene_at.Goals as goal

pub returns : goal.returns
returns g c src frames lower call u rest input work is_left holds =
    let t = c.args.self.now.tables.now in
    let top = c.args.top.now in
    let frame = top.frame in
    let is_open = work.at_work.is_open in
    let items = items_in call.entry in
    let here = c.site-site.ensures.part ∙ ap (λ s. part s frame.from frame.to) (sym input) in
    let whole = working.part_size t src frame (below top.piles frame.base) call.frame call.from is_open.call in
    let size = ap length (here ∙ sym is_open.call.bytes) ∙ whole in
    let own = above top.piles frame.base in
    let n = c.site-site.result.size in
    let counted : length c.site-site.result.bytes.now ≡ c.site-site.result.size = search rules in
    let size_is : n ≡ size_of frame = sym counted ∙ size in
    let lends = subst (λ k. Lends (record { tables = c.args.self.now.tables; top = c.args.top; size = k; instr = c.args.instr }) (lent c.now.result))
    (sym counted) c.now.ensures in
    record {
      number = u;
      rest = rest;
      left = is_left;
      term = holds.term;
      is_term = holds.is_term;
      is_number = holds.number;
      holds = subst (λ t. HoldsTerm t c.args.instr.now.action holds.term) (sym c.site-site.ensures.tables) holds.holds;
      entry = subst (λ n. IsEntry n frame.entry items call.entry) (sym size_is) work.entry;
      stands = reading.view_stands _ src items call is_open whole size c.site-site.ensures.small u holds.term holds.is_term holds.number
          work.entry holds.holds (lent c.now.result) lends;
      rule = is_open.call.rule;
      alt = is_open.call.alt;
      begins = is_open.call.begins;
      ends = let from = is_open.call.begins in let ordered = is_open.call.ordered in omega (arith, whole, from, ordered);
      bytes = is_open.call.bytes ∙ sym here;
      size = counted;
      syms = is_open.call.syms ∙ ap (λ (t : Rows). t.syms) (sym c.site-site.ensures.tables);
      done = reading.results_lent src top.store c.now.result.store.now frame.from call.from (size_of frame) n own.done c.now.result.done.now
          call.state.done (sym c.now.ensures.store) (sym is_open.call.begins) (sym size_is) (sym c.now.ensures.done) is_open.done;
      have = reading.items_lent src top.store c.now.result.store.now frame.from call.from (size_of frame) n own.items c.items.result.now
          items (sym c.now.ensures.store) (sym is_open.call.begins) (sym size_is) (sym c.items.ensures) is_open.have;
    }
