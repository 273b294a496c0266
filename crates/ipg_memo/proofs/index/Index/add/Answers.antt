use Rattle.std.proofs.Common.{arith}
use Rattle.std.proofs.lemmas.Option.{slice_get_within}
use Rattle.std.specs.Prelude.{None}
use Rattle.ipg_memo.proofs.PartedLemmas.{parted_wider}
use Rattle.ipg_memo.proofs.GrowthLemmas.{on_ok, on_err, err_always, either, vacant_of, bare_of, room_after, leads_vacant_as, stays_vacant_as, stays_same}
use Rattle.ipg_memo.proofs.GrowthLemmas.{stays_opened_as, parted_opened_as, leads_bare_as, stays_bare_as, stays_wider}
use Rattle.ipg_memo.proofs.index.Index.add.Goals as goal

pub link-requires-clause-cell : goal.link-requires-clause-cell
link-requires-clause-cell g c =
    slice_get_within c.args.self.now.cells c.in-Vacant.cell None (vacant_of c.args.self.now c.args.end c.in-Vacant.cell c.requires.ends c.in-Vacant.is)

pub open-requires : goal.open-requires
open-requires g c =
    slice_get_within c.args.self.now.below c.in-Bare.above None (bare_of c.args.self.now c.args.end c.in-Bare.above c.in-Bare.side c.requires.ends
    c.in-Bare.is).0

pub overflow_add-begin : goal.overflow_add-begin
overflow_add-begin g c =
    let small = (bare_of c.args.self.now c.args.end c.in-Bare.above c.in-Bare.side c.requires.ends c.in-Bare.is).1 in
    let low = c.in_ok-begin-in-Bare.ensures.small in omega (arith, small, low)

pub link-requires-in-Bare-clause-cell : goal.link-requires-in-Bare-clause-cell
link-requires-in-Bare-clause-cell g c =
    room_after c.args.self.now c.open.new.self c.in-Bare.above c.in-Bare.side c.in_ok-begin-in-Bare.begin c.in_ok-begin-in-Bare.ensures.ok
    c.in_ok-begin-in-Bare.ensures.begin (bare_of c.args.self.now c.args.end c.in-Bare.above c.in-Bare.side c.requires.ends c.in-Bare.is).1

pub returns-in-Vacant-clause-stays : goal.returns-in-Vacant-clause-stays
returns-in-Vacant-clause-stays g c =
    let vacant = vacant_of c.args.self.now c.args.end c.in-Vacant.cell c.requires.ends c.in-Vacant.is in
    either c.link.result c.link.ensures.ok c.link.ensures.err
    (λ e. stays_vacant_as c.args.self.now c.link.new.self c.in-Vacant.cell c.args.row vacant e)
    (λ e. stays_same c.args.self.now c.link.new.self e)

pub returns-in-Vacant-clause-ok : goal.returns-in-Vacant-clause-ok
returns-in-Vacant-clause-ok g c =
    let vacant = vacant_of c.args.self.now c.args.end c.in-Vacant.cell c.requires.ends c.in-Vacant.is in
    on_ok c.link.result c.link.ensures.ok
    (λ e. leads_vacant_as c.args.self.now c.link.new.self c.args.end c.in-Vacant.cell c.args.row vacant c.in-Vacant.is e)

pub returns-in_ok-begin-in-Bare-clause-stays : goal.returns-in_ok-begin-in-Bare-clause-stays
returns-in_ok-begin-in-Bare-clause-stays g c =
    let bare = bare_of c.args.self.now c.args.end c.in-Bare.above c.in-Bare.side c.requires.ends c.in-Bare.is in
    either c.link-in-Bare.result c.link-in-Bare.ensures.ok c.link-in-Bare.ensures.err
    (λ e. stays_bare_as c.args.self.now c.open.new.self c.link-in-Bare.new.self c.in-Bare.above c.in-Bare.side c.args.row c.in_ok-begin-in-Bare.begin
    bare.0 bare.1 c.in_ok-begin-in-Bare.ensures.ok c.in_ok-begin-in-Bare.ensures.begin e)
    (λ e. stays_opened_as c.args.self.now c.open.new.self c.link-in-Bare.new.self c.in-Bare.above bare.0 c.in_ok-begin-in-Bare.ensures.ok e)

pub returns-in_ok-begin-in-Bare-clause-ok : goal.returns-in_ok-begin-in-Bare-clause-ok
returns-in_ok-begin-in-Bare-clause-ok g c =
    let bare = bare_of c.args.self.now c.args.end c.in-Bare.above c.in-Bare.side c.requires.ends c.in-Bare.is in
    on_ok c.link-in-Bare.result c.link-in-Bare.ensures.ok
    (λ e. leads_bare_as c.args.self.now c.open.new.self c.link-in-Bare.new.self c.args.end c.in-Bare.above c.in-Bare.side c.args.row
    c.in_ok-begin-in-Bare.begin bare.0 bare.1 c.in-Bare.is c.in_ok-begin-in-Bare.ensures.ok c.in_ok-begin-in-Bare.ensures.begin e)

pub returns-in_err-begin-in-Bare-clause-stays : goal.returns-in_err-begin-in-Bare-clause-stays
returns-in_err-begin-in-Bare-clause-stays g c = stays_wider c.args.self.now c.open.new.self c.in_err-begin-in-Bare.ensures.err

pub returns-in_err-begin-in-Bare-clause-err : goal.returns-in_err-begin-in-Bare-clause-err
returns-in_err-begin-in-Bare-clause-err g c =
    err_always c.from_residual.result (parted_wider c.args.self.now c.open.new.self c.in_err-begin-in-Bare.ensures.err)

pub returns-in_ok-begin-in-Bare-clause-err : goal.returns-in_ok-begin-in-Bare-clause-err
returns-in_ok-begin-in-Bare-clause-err g c =
    on_err c.link-in-Bare.result c.link-in-Bare.ensures.err
    (λ e. parted_opened_as c.args.self.now c.open.new.self c.link-in-Bare.new.self c.in-Bare.above c.in_ok-begin-in-Bare.ensures.ok e)
