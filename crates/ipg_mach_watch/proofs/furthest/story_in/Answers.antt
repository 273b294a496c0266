use Rattle.std.proofs.Common.{ap, ◌∙◌}
use Rattle.ipg_mach_failures.specs.Chain.{story}
use Rattle.ipg_mach_watch.proofs.furthest.story_in.Goals as goal

pub returns : goal.returns
returns g c src call q = c.of.ensures ∙ ap (λ v. story c.args.calls.now v c.args.failure) (c.values_in.ensures src call q)
