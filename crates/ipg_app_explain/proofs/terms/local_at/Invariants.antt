use Rattle.std.proofs.Common.{◌≡◌, ◌+◌, length, flat_map, take}
use Rattle.ipg_app_explain.specs.Terms.{locals_of}
use Rattle.ipg_app_explain.proofs.terms.local_at.Given as goal

-- the rules gone over are counted off
abbrev pub invariant-loop-alt : goal.invariant-loop-alt
invariant-loop-alt l = l.number ≡ length (flat_map locals_of (take l.alt-index l.alts)) + l.rest
