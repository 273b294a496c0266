use Rattle.std.proofs.Common.{w64, sym, subst, None, FitsSigned}
use Rattle.std.proofs.lemmas.Int.{to_z-of_z}
use Rattle.ipg_mach_term.proofs.Entering as entering
use Rattle.ipg_mach_term.proofs.enter.set.Goals as goal

pub returns-in-Val-clause-made : goal.returns-in-Val-clause-made
returns-in-Val-clause-made g c src st at n u f state e stands holds =
    entering.sets src st at n u state c.args.attr _ c.in-Val.value _ (c.in-Val.ensures.value f state None e stands holds)
    (to_z-of_z w64 c.in-Val.value c.in-Val.ensures.sized)
    (subst (FitsSigned w64) (sym (to_z-of_z w64 c.in-Val.value c.in-Val.ensures.sized)) c.in-Val.ensures.sized)

pub returns-in-Fail-clause-made : goal.returns-in-Fail-clause-made
returns-in-Fail-clause-made g c src st at n u f state e stands holds =
    entering.on_fail src st at n u state _ _ (c.in-Fail.ensures.value f state None e stands holds)

pub returns-in-Range-clause-made : goal.returns-in-Range-clause-made
returns-in-Range-clause-made g c src st at n u f state e stands holds =
    entering.on_range src st at n u state _ _ (c.in-Range.ensures.value f state None e stands holds)
