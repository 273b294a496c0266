use Rattle.std.proofs.Common.{◌≡◌, ◌+◌, ◌-◌, drop, arith, subst, refl, ap}
use Rattle.ipg_cert.specs.Facts.{facts_of}
use Rattle.ipg_cert.specs.Goals.{OpensEach}
use Rattle.ipg_cert.proofs.GoalsLemmas.{open_more}
use Rattle.ipg_cert.proofs.checking.open_members.Goals as goal

pub loop-left-preserved : goal.loop-left-preserved
loop-left-preserved c =
    let at : c.loop-left.left ≡ c.loop-left.left - 1 + 1 = omega arith in (
      omega (arith, c.loop-left.invariant.0),
      open_more c.args.kept c.args.members.now (c.loop-left.left - 1) c.args.goals.now.items c.loop-left.goals.items c.push_goal.new.goals.items _
          c.index-members-left.result (omega (arith, c.loop-left.invariant.0))
          (subst (λ n. OpensEach c.args.kept (drop n c.args.members.now) c.args.goals.now.items c.loop-left.goals.items) at c.loop-left.invariant.1)
          (refl, ap facts_of c.index-members-left.is) c.in_ok-push_goal.ensures,
    )
