use Rattle.std.proofs.Common.{w64, None, [], subst}
use mir.Val.{to_z, of_z}
use Rattle.std.proofs.lemmas.Int.{to_z-of_z}
use Rattle.ipg_mach_term.specs.Advance.{IsMade}
use Rattle.ipg_mach_term.specs.Parts as parts
use Rattle.ipg_mach_term.proofs.Entering as entering
use Rattle.ipg_mach_term.proofs.enter.many_from.Goals as goal

pub returns-in-Val-clause-made : goal.returns-in-Val-clause-made
returns-in-Val-clause-made g c src st at u f state e stands holds size =
    entering.on_value src st at _ u state _ _ c.in-Val.to _ _ (c.in-Val.ensures.value f state None e stands holds)
    (to_z-of_z w64 c.in-Val.to c.in-Val.ensures.sized)
    (subst (λ x. IsMade src st at c.args.site.now.size u state [] c.many_between.result (parts.many_between f x (to_z w64 (of_z w64 c.in-Val.to))))
    (to_z-of_z w64 c.args.from c.ranges.from) (c.many_between.ensures src st at u f state size))

pub returns-in-Fail-clause-made : goal.returns-in-Fail-clause-made
returns-in-Fail-clause-made g c src st at u f state e stands holds size =
    entering.on_fail src st at c.args.site.now.size u state _ _ (c.in-Fail.ensures.value f state None e stands holds)

pub returns-in-Range-clause-made : goal.returns-in-Range-clause-made
returns-in-Range-clause-made g c src st at u f state e stands holds size =
    entering.on_range src st at c.args.site.now.size u state _ _ (c.in-Range.ensures.value f state None e stands holds)
