use Rattle.std.proofs.Common.{arith, get_or, subst}
use Rattle.std.proofs.lemmas.Int.{ints}
use Rattle.std.specs.Prelude.{Some}
use mir.Val.{to_z}
use mir.Syntax.{w128}
use Rattle.ipg_cert.specs.Seen.{all_seen, Weighs}
use Rattle.ipg_cert.specs.Checks.{form_of_entry}
use Rattle.ipg_cert.proofs.SeenLemmas.{started, weighed, weighs_size}
use Rattle.ipg_cert.proofs.weigh.weigh.Goals as goal

pub loop-entry-init : goal.loop-entry-init
loop-entry-init c = started (all_seen c.args.known.now) c.args.entries.now c.args.totals.now.items c.requires.zero

pub loop-entry-preserved : goal.loop-entry-preserved
loop-entry-preserved c =
    let facts = all_seen c.args.known.now in
    let entry = get_or c.args.entries.now c.loop-entry.entry-index (0, 0) in
    let weighs : Weighs entry.0 c.loop-entry.totals.items c.add_entry.new.totals.items (Some c.in-Some.more) (form_of_entry facts entry) =
    subst (λ o. Weighs entry.0 c.loop-entry.totals.items c.add_entry.new.totals.items o (form_of_entry facts entry)) c.in-Some.is c.in_ok-more.ensures in
    let size = weighs_size entry.0 c.loop-entry.totals.items c.add_entry.new.totals.items c.in-Some.more (form_of_entry facts entry) weighs in
    weighed facts c.args.entries.now c.loop-entry.entry-index c.loop-entry.totals.items c.add_entry.new.totals.items
    (to_z w128 c.loop-entry.constant-bits) c.in-Some.more _ (0, 0) (omega arith)
    c.loop-entry.invariant weighs (omega (arith, ints, c.plus-constant.ensures.value, c.plus-constant.type_inv, size))
