use Rattle.std.proofs.Common.{◌≡◌, ℕ, sym, ap, ◌∙◌, subst, arith}
use Rattle.ipg_core.specs.Touch.{kids_touch, untouched}
use Rattle.ipg_mach_results.specs.Flat.{AreFlat}
use Rattle.ipg_mach_results.specs.Ends.{ends_view}
use Rattle.ipg_mach_results.proofs.Deep.{none_deep, levels_more}
use Rattle.ipg_mach_results.proofs.Lists.{nothing_left, no_row, last_more}
use Rattle.ipg_mach_results.proofs.Touching.{none_as, one_before}
use Rattle.ipg_mach_results.proofs.together.extent.Goals as goal

none_is : (n size : ℕ) → n ≡ size → ends_view (record { start = n; end = 0 }) ≡ untouched size
unfolding untouched
none_is n size e = ap untouched e

pub loop-at-init : goal.loop-at-init
loop-at-init g c = (
  λ src at ones e h flat.
      none_is c.from.result c.args.size c.from.ensures
      ∙ sym (ap (λ ks. kids_touch ks (untouched c.args.size)) (nothing_left src c.args.store.now at c.args.kids.now ones h)),
  λ src at ones e h flat. none_deep ones 0 (nothing_left src c.args.store.now at c.args.kids.now ones h),
  omega arith,
)

pub loop-at-preserved : goal.loop-at-preserved
loop-at-preserved g c = (
  λ src at ones e h flat.
      let last = last_more src c.args.store.now at c.args.kids.now c.loop-at.at no_row ones c.loop-at-test.true c.loop-at.auto.at h in
      let are = subst AreFlat last.are flat in
      let none = untouched c.args.size in
      let same = none_is c.from.result c.args.size c.from.ensures in
      one_before last.one last.more ones none _ _ _ c.extent_together-extent.ensures.ends
      (none_as last.one _ none _ same (c.kid_extent.ensures.ends src at last.one e last.stands are.0))
      (c.loop-at.invariant.0 src at last.more e last.stand are.1) last.are,
  λ src at ones e h flat.
      let last = last_more src c.args.store.now at c.args.kids.now c.loop-at.at no_row ones c.loop-at-test.true c.loop-at.auto.at h in
      let are = subst AreFlat last.are flat in
      levels_more last.one last.more ones _ _ _ c.extent_together-extent.ensures.levels
      (c.kid_extent.ensures.levels src at last.one e last.stands are.0) (c.loop-at.invariant.1 src at last.more e last.stand are.1) last.are,
  omega (arith, c.extent_together-extent.ensures.levels, c.kid_extent.ensures.small, c.loop-at.invariant.2),
)
