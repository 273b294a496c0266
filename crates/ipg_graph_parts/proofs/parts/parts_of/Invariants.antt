use Rattle.std.proofs.Common.{ℕ, ◌<◌}
use Rattle.ipg_graph_parts.specs.Parts.{AreParts, IsIn}
use Rattle.ipg_graph_parts.proofs.parts.parts_of.Given as goal

abbrev pub invariant-loop-rule : goal.invariant-loop-rule
invariant-loop-rule l = AreParts l.links l.parts.names.of.items l.parts.found.of.items

abbrev pub invariant-loop-rule-2 : goal.invariant-loop-rule-2
invariant-loop-rule-2 l = record {
  parts : AreParts l.links l.parts.names.of.items l.parts.found.of.items;
  all : (v : ℕ) → v < l.rule → IsIn l.parts.names.of.items v;
}
