use Rattle.std.proofs.Common.{w64, None}
use Rattle.std.proofs.lemmas.Int.{to_z-of_z}
use Rattle.ipg_mach_term.proofs.Entering as entering
use Rattle.ipg_mach_term.proofs.enter.array.Goals as goal

pub returns-in-Val-clause-made : goal.returns-in-Val-clause-made
returns-in-Val-clause-made g c src st at n u f state a b slot stands first last is =
    entering.on_value src st at n u state _ _ c.in-Val.first _ _ (c.in-Val.ensures.value f state None a stands first)
    (to_z-of_z w64 c.in-Val.first c.in-Val.ensures.sized) (c.array_from.ensures.made src st at n u f state slot.sym b stands last is)

pub returns-in-Fail-clause-made : goal.returns-in-Fail-clause-made
returns-in-Fail-clause-made g c src st at n u f state a b slot stands first last is =
    entering.on_fail src st at n u state _ _ (c.in-Fail.ensures.value f state None a stands first)

pub returns-in-Range-clause-made : goal.returns-in-Range-clause-made
returns-in-Range-clause-made g c src st at n u f state a b slot stands first last is =
    entering.on_range src st at n u state _ _ (c.in-Range.ensures.value f state None a stands first)
