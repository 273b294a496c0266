use Rattle.std.proofs.Common.{w64, None, [], subst}
use mir.Val.{to_z, of_z}
use Rattle.std.proofs.lemmas.Int.{to_z-of_z}
use Rattle.ipg_mach_term.specs.Advance.{IsMade}
use Rattle.ipg_mach_term.specs.Parts as parts
use Rattle.ipg_mach_term.proofs.Entering as entering
use Rattle.ipg_mach_term.proofs.enter.array_from.Goals as goal

pub returns-in-Val-clause-made : goal.returns-in-Val-clause-made
returns-in-Val-clause-made g c src st at n u f state name b stands holds is =
    entering.on_value src st at n u state _ _ c.in-Val.last _ _ (c.in-Val.ensures.value f state None b stands holds)
    (to_z-of_z w64 c.in-Val.last c.in-Val.ensures.sized)
    (subst (λ x. IsMade src st at n u state [] c.array_between.result (parts.array_between state u name x (to_z w64 (of_z w64 c.in-Val.last))))
    (to_z-of_z w64 c.args.first c.ranges.first) (c.array_between.ensures src st at n u state name is))

pub returns-in-Fail-clause-made : goal.returns-in-Fail-clause-made
returns-in-Fail-clause-made g c src st at n u f state name b stands holds is =
    entering.on_fail src st at n u state _ _ (c.in-Fail.ensures.value f state None b stands holds)

pub returns-in-Range-clause-made : goal.returns-in-Range-clause-made
returns-in-Range-clause-made g c src st at n u f state name b stands holds is =
    entering.on_range src st at n u state _ _ (c.in-Range.ensures.value f state None b stands holds)
