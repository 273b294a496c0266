use Rattle.std.proofs.Common.{w64, None}
use Rattle.std.proofs.lemmas.Int.{to_z-of_z}
use Rattle.ipg_mach_term.proofs.Entering as entering
use Rattle.ipg_mach_term.proofs.enter.many.Goals as goal

pub returns-in-Val-clause-made : goal.returns-in-Val-clause-made
returns-in-Val-clause-made g c src st at u f state slot stands holds size =
    entering.on_value src st at _ u state _ _ c.in-Val.from _ _ (c.in-Val.ensures.value f state None slot.from stands holds.from)
    (to_z-of_z w64 c.in-Val.from c.in-Val.ensures.sized) (c.many_from.ensures.made src st at u f state slot.to stands holds.to size)

pub returns-in-Fail-clause-made : goal.returns-in-Fail-clause-made
returns-in-Fail-clause-made g c src st at u f state slot stands holds size =
    entering.on_fail src st at c.args.site.now.size u state _ _ (c.in-Fail.ensures.value f state None slot.from stands holds.from)

pub returns-in-Range-clause-made : goal.returns-in-Range-clause-made
returns-in-Range-clause-made g c src st at u f state slot stands holds size =
    entering.on_range src st at c.args.site.now.size u state _ _ (c.in-Range.ensures.value f state None slot.from stands holds.from)
