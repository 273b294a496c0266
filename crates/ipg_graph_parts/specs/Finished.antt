-- A walk that goes deep first, and how much of it is left.
use Rattle.std.specs.Prelude.{◌≡◌, ℕ, suc, ◌+◌, ◌*◌, ◌<◌, List, [], ◌∷◌, Bool, true, false, All, length}
use Rattle.ipg_graph.specs.Graph.{Graph}
use Rattle.ipg_graph_parts.specs.declared.finished.Walk.{Walk}
use Rattle.ipg_graph_parts.specs.declared.finished.Move.{Move}
use Rattle.ipg_graph_parts.specs.declared.finished.Move.TheVariants.{Enter, Leave}

abbrev pub rule_of : Move → ℕ
rule_of (Enter rule) = rule
rule_of (Leave rule) = rule

-- how many rules weren't seen
abbrev pub unseen : List Bool → ℕ
unseen [] = 0
unseen (true ∷ seen) = unseen seen
unseen (false ∷ seen) = suc (unseen seen)

-- no fewer moves are left: a rule is entered once, and then as many are to be entered as it has edges
abbrev pub moves_left : Graph → Walk → ℕ
moves_left g walk = length walk.moves.items + unseen walk.seen.items * (length g.callers + 2)

-- all rules are those of the graph
pub record IsWalk (g : Graph) (walk : Walk) : Type 0 where
  pub seen : length walk.seen.items ≡ g.rules
  pub moves : All (λ move. rule_of move < g.rules) walk.moves.items
  pub left : All (λ rule. rule < g.rules) walk.left.items
