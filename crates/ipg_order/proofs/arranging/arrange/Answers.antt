use Rattle.std.proofs.Common.{rules, ◌≡◌, ◌<◌, ℕ, sym, ap, ◌∙◌, subst, arith, [], length, true, false}
use Rattle.std.specs.Prelude.{slice_set, replicate}
use Rattle.std.proofs.lemmas.List.{length-replicate}
use Rattle.ipg_core.specs.MustTouch.{is_marked}
use Rattle.ipg_order.specs.Needs.{Listed, IsReady, IsFirstReady, IsFirstFree}
use Rattle.ipg_order.proofs.Going.{Goes, Shows, taken_after, taken_more, goes_more, goes_whole, goes_stuck, shows_none, shows_more, is_next, is_end}
use Rattle.ipg_order.proofs.Going.{fewer_unset, set_size, none_set}
use Rattle.ipg_order.proofs.arranging.arrange.Goals as goal

pub loop-next-init : goal.loop-next-init
loop-next-init c =
    let n = length c.args.needs.now in
    let empty : c.in_ok-order.order.items ≡ [] = search rules in
    record {
      goes = subst (Goes (Listed c.args.needs.now) n []) (sym empty) tt;
      shows = subst (λ order. Shows c.in_ok-taken.taken.items (taken_after [] order)) (sym empty)
          (shows_none c.in_ok-taken.taken.items
          (λ v h. none_set n v (ap (λ fs. is_marked fs v) (let e : c.in_ok-taken.taken.items ≡ replicate n false = search rules in sym e) ∙ h)));
      size = (let e : c.in_ok-taken.taken.items ≡ replicate n false = search rules in ap length e) ∙ length-replicate n false;
    }

pub loop-next-smaller : goal.loop-next-smaller
loop-next-smaller c =
    let flags = c.loop-next.taken.items in
    let first = subst (λ fs. IsFirstReady c.args.needs.now fs c.in-Some.next) c.as_slice.ensures.value c.in-Some.ensures.some in
    fewer_unset flags c.in-Some.next (let a = first.ready.below in let b = c.loop-next.invariant.size in omega arith) first.ready.fresh

pub loop-next-preserved : goal.loop-next-preserved
loop-next-preserved c =
    let needs = c.args.needs.now in
    let flags = c.loop-next.taken.items in
    let order = c.loop-next.order.items in
    let u = c.in-Some.next in
    let first = subst (λ fs. IsFirstReady needs fs u) c.as_slice.ensures.value c.in-Some.ensures.some in
    let next = is_next needs flags (taken_after [] order) u c.loop-next.invariant.shows first in
    let room : u < length flags = let a = first.ready.below in let b = c.loop-next.invariant.size in omega arith in
    record {
      goes = subst (Goes (Listed needs) (length needs) []) (sym c.in_ok-push.ensures.items)
          (goes_more (Listed needs) (length needs) [] order u c.loop-next.invariant.goes next);
      shows = subst (λ items. Shows (slice_set flags u true) (taken_after [] items)) (sym c.in_ok-push.ensures.items)
          (subst (Shows (slice_set flags u true)) (sym (taken_more [] order u)) (shows_more flags (taken_after [] order) u room c.loop-next.invariant.shows));
      size = set_size flags u ∙ c.loop-next.invariant.size;
    }

pub returns-in-Some-first_free : goal.returns-in-Some-first_free
returns-in-Some-first_free c =
    let needs = c.args.needs.now in
    let flags = c.loop-next.taken.items in
    let order = c.loop-next.order.items in
    let none = subst (λ fs. (w : ℕ) → IsReady needs fs w → ⊥) c.as_slice.ensures.value c.in_default.ensures.none in
    let free = subst (λ fs. IsFirstFree fs c.in-Some-first_free.left) c.as_slice-2.ensures.value c.in-Some-first_free.ensures.some in (
      order,
      goes_stuck (Listed needs) (length needs) [] order c.in-Some-first_free.left c.loop-next.invariant.goes
          (is_end needs flags (taken_after [] order) c.in-Some-first_free.left c.loop-next.invariant.shows c.loop-next.invariant.size none free),
    )

pub returns : goal.returns
returns c =
    let needs = c.args.needs.now in
    let flags = c.loop-next.taken.items in
    let order = c.loop-next.order.items in
    let all = subst (λ fs. (w : ℕ) → w < length fs → is_marked fs w ≡ true) c.as_slice-2.ensures.value c.in-None.ensures.none in
    goes_whole (Listed needs) (length needs) [] order c.loop-next.invariant.goes
    (λ u lt. c.loop-next.invariant.shows.only u (all u (let b = c.loop-next.invariant.size in omega arith)))
