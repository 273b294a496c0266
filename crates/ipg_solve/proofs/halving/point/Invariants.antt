use Rattle.std.proofs.Common.{◌≡◌, ◌++◌, drop, map}
use Rattle.ipg_solve.specs.declared.domain.Domain.{Domain}
use Rattle.ipg_solve.proofs.halving.point.Given as goal

abbrev pub invariant-loop-domain : goal.invariant-loop-domain
invariant-loop-domain l = l.values ++ map (λ (s : Domain). s.low) (drop l.domain-index l.domains) ≡ map (λ (s : Domain). s.low) l.domains
