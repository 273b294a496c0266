use Rattle.std.proofs.Common.{◌≡◌, ℕ, ◌<◌, ◌≤◌, length, MatchOption}
use Rattle.ipg_solve.specs.Domains.{domain_at, width_of}
use Rattle.ipg_solve.proofs.halving.widest.Given as goal

-- no domain so far is wider, and the widest is one that is wide
abbrev pub invariant-loop-x : goal.invariant-loop-x
invariant-loop-x l = record {
  best : MatchOption l.widest (l.most ≡ 0) (λ b. (b < length l.domains) × (0 < width_of (domain_at l.domains b)));
  below : (k : ℕ) → k < l.x → width_of (domain_at l.domains k) ≤ l.most;
}
