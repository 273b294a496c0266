use Rattle.std.proofs.Common.{sym, ap, ◌∙◌, arith}
use Rattle.ipg_memo.specs.Table.{Table}
use Rattle.ipg_memo.specs.Places.{home}
use Rattle.ipg_memo.specs.Ways.{key_at, way}
use Rattle.ipg_memo.proofs.WayLemmas.{goes_left, way_stops, way_goes, passed_few}
use Rattle.ipg_memo.proofs.PartedLemmas.{never_lost}
use Rattle.ipg_memo.proofs.index.Index.reach.Goals as goal

pub loop-reached-init : goal.loop-reached-init
loop-reached-init g c = (
  omega arith,
  ap (way (key_at c.args.rows.now.items) c.args.self.now c.args.key.now 32)
      (sym (c.home-cell.ensures.value ∙ ap (λ (t : Table). home t.heads c.args.key.now) c.self.view_is)),
)

pub step-requires : goal.step-requires
step-requires g c = c.loop-reached.invariant.0

pub returns-in-Stops-clause-value : goal.returns-in-Stops-clause-value
returns-in-Stops-clause-value g c =
    sym (c.loop-reached.invariant.1
    ∙ way_stops (key_at c.args.rows.now.items) c.args.self.now c.args.key.now c.loop-reached.left c.loop-reached.cell c.in-Stops.reached
    (sym c.in-Stops.is ∙ c.step.ensures))

pub loop-reached-smaller : goal.loop-reached-smaller
loop-reached-smaller g c =
    omega (
      arith,
      goes_left (key_at c.args.rows.now.items) c.args.self.now c.args.key.now c.loop-reached.left c.loop-reached.cell c.in-Goes.next
          (sym c.in-Goes.is ∙ c.step.ensures),
    )

pub loop-reached-preserved : goal.loop-reached-preserved
loop-reached-preserved g c = (
  omega (arith, c.loop-reached.invariant.0),
  c.loop-reached.invariant.1
      ∙ way_goes (key_at c.args.rows.now.items) c.args.self.now c.args.key.now c.loop-reached.left c.loop-reached.cell c.in-Goes.next
      (sym c.in-Goes.is ∙ c.step.ensures),
)

pub returns-in-Stops-clause-ends : goal.returns-in-Stops-clause-ends
returns-in-Stops-clause-ends g c =
    never_lost (key_at c.args.rows.now.items) c.args.self.now c.requires.parted.0 c.requires.parted.1 c.args.key.now c.home-cell.ensures.bits c.in-Stops.reached
    (c.loop-reached.invariant.1
    ∙ way_stops (key_at c.args.rows.now.items) c.args.self.now c.args.key.now c.loop-reached.left c.loop-reached.cell c.in-Stops.reached
    (sym c.in-Stops.is ∙ c.step.ensures))

pub returns-in-Stops-clause-few : goal.returns-in-Stops-clause-few
returns-in-Stops-clause-few g c =
    passed_few (key_at c.args.rows.now.items) c.args.self.now c.args.key.now 32 (home c.args.self.now.heads c.args.key.now)
