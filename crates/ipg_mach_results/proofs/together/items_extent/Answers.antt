use Rattle.std.proofs.Common.{subst, sym, ap, arith}
use Rattle.ipg_core.specs.Touch.{kids_touch}
use Rattle.ipg_mach_results.specs.Flat.{AreItems}
use Rattle.ipg_mach_results.specs.Ends.{ends_view}
use Rattle.ipg_mach_results.proofs.Alone.{alone}
use Rattle.ipg_mach_results.proofs.Deep.{none_deep, levels_more}
use Rattle.ipg_mach_results.proofs.Lists.{nothing_left, no_row, last_more}
use Rattle.ipg_mach_results.proofs.Touching.{one_before}
use Rattle.ipg_mach_results.proofs.together.items_extent.Goals as goal

pub loop-at-init : goal.loop-at-init
loop-at-init g c = (
  λ src at ones e h items. sym (ap (λ ks. kids_touch ks (ends_view c.args.none)) (nothing_left src c.args.store.now at c.args.items.now ones h)),
  λ src at ones e h items. none_deep ones 0 (nothing_left src c.args.store.now at c.args.items.now ones h),
  omega arith,
)

pub loop-at-preserved : goal.loop-at-preserved
loop-at-preserved g c = (
  λ src at ones e h items.
      let none = ends_view c.args.none in
      let last = last_more src c.args.store.now at c.args.items.now c.loop-at.at no_row ones c.loop-at-test.true c.loop-at.auto.at h in
      let are = subst AreItems last.are items in
      one_before last.one last.more ones none _ _ _ c.extent_together-extent.ensures.ends
      (alone last.one none _ are.0 (c.extent_of.ensures.ends src at last.one e last.stands))
      (c.loop-at.invariant.0 src at last.more e last.stand are.1) last.are,
  λ src at ones e h items.
      let last = last_more src c.args.store.now at c.args.items.now c.loop-at.at no_row ones c.loop-at-test.true c.loop-at.auto.at h in
      let are = subst AreItems last.are items in
      levels_more last.one last.more ones _ _ _ c.extent_together-extent.ensures.levels
      (c.extent_of.ensures.levels src at last.one e last.stands are.0) (c.loop-at.invariant.1 src at last.more e last.stand are.1) last.are,
  omega (arith, c.extent_together-extent.ensures.levels, c.extent_of.ensures.small, c.loop-at.invariant.2),
)
