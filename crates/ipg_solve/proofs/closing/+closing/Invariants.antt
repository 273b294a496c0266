use Rattle.std.proofs.Common.{◌≡◌, ◌≤◌, ◌+◌, take, drop, map, length}
use Rattle.std.specs.Prelude.{IsTrue}
use Rattle.std.specs.List.{flat_map}
use Rattle.ipg_cert.specs.Facts.{facts_of}
use Rattle.ipg_lin.specs.Formula.{every, some, greatest, width}
use Rattle.ipg_solve.specs.Domains.{rules_out}
use Rattle.ipg_solve.specs.Closes.{ClosesSome}
use Rattle.ipg_solve.proofs.closing.+closing.Given as goal

-- some member that is left is ruled out, and these are the facts of those before it
abbrev pub invariant-close_all-loop-member : goal.invariant-close_all-loop-member
invariant-close_all-loop-member l = record {
  left : IsTrue (some (map (rules_out l.domains) (drop l.member-index l.members)));
  valued : greatest (map width (drop l.member-index l.members)) ≤ length l.domains;
  steps : l.steps.items ≡ l.fn.steps.items;
  number : l.first ≡ l.number + length (flat_map facts_of (take l.member-index l.members));
}

abbrev pub invariant-close_cases-loop-member : goal.invariant-close_cases-loop-member
invariant-close_cases-loop-member l = record {
  closed : ClosesSome l.domains l.next l.members (drop l.member-index l.members) l.fn.steps.items l.steps.items;
  left : IsTrue (every (map (rules_out l.domains) (drop l.member-index l.members)));
  valued : greatest (map width (drop l.member-index l.members)) ≤ length l.domains;
}
