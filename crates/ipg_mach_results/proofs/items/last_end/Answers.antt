use Rattle.std.proofs.Common.{◌≡◌, ℕ, Option, sym, ap, ◌∙◌}
use Rattle.ipg_core.specs.Tree.{Kid, Kids, kid}
use Rattle.ipg_core.specs.Touch.{Ends, ends_of}
use Rattle.ipg_core.specs.Eval.{greatest_end, later}
use Rattle.ipg_mach_results.proofs.Lists.{nothing_left, no_row, last_more}
use Rattle.ipg_mach_results.proofs.items.last_end.Goals as goal

pub loop-at-init : goal.loop-at-init
loop-at-init g c = λ src at ones e h. sym (ap greatest_end (nothing_left src c.args.store.now at c.args.items.now ones h))

-- one item more, before the others
one_before : (one : Kid) (more ones : Kids) (e : Ends) (behind all : Option ℕ) → all ≡ later e behind → e ≡ ends_of one → behind ≡ greatest_end more
    → ones ≡ kid one more → all ≡ greatest_end ones
one_before one more ones e behind all is ends rest are =
    is ∙ ap (λ x. later x behind) ends ∙ ap (later (ends_of one)) rest ∙ sym (ap greatest_end are)

pub loop-at-preserved : goal.loop-at-preserved
loop-at-preserved g c = λ src at ones e h.
    let last = last_more src c.args.store.now at c.args.items.now c.loop-at.at no_row ones c.loop-at-test.true c.loop-at.auto.at h in
    one_before last.one last.more ones _ _ _ c.later-greatest.ensures
    (c.ends_of.ensures src at last.one e last.stands) (c.loop-at.invariant src at last.more e last.stand) last.are
