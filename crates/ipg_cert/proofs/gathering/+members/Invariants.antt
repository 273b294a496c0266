use Rattle.std.proofs.Common.{◌≡◌, drop, List, ◌++◌}
use Rattle.std.specs.List.{flat_map}
use Rattle.ipg_cert.specs.Facts.{facts_of}
use Rattle.ipg_cert.specs.Seen.{all_seen}
use Rattle.ipg_cert.specs.declared.fact_ref.FactRef.{FactRef}
use Rattle.ipg_cert.proofs.gathering.+members.Given as goal

-- the facts put so far, and those of the members that are left, are those of all members
abbrev pub invariant-add_members-loop-member : goal.invariant-add_members-loop-member
invariant-add_members-loop-member l =
    (more : List FactRef) × (l.known.items ≡ l.fn.known.items ++ more)
    × (all_seen more ++ flat_map facts_of (drop l.member-index l.members) ≡ flat_map facts_of l.members)
