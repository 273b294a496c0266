use Rattle.std.proofs.Common.{List, ℕ, drop, map}
use Rattle.ipg_core.specs.Grammar.{Grammar}
use Rattle.ipg_core.specs.Lines.{attr_word}
use Rattle.ipg_table.specs.Rows.{StandFor}
use Rattle.ipg_tree_view.specs.Cutting.{Lacks}
use Rattle.ipg_tree.specs.Words.{spaced}
use Rattle.ipg_tree_view.proofs.view.push_attrs.Given as goal

abbrev pub invariant-loop-attr : goal.invariant-loop-attr
invariant-loop-attr l =
    (grammar : Grammar) (all : List ℕ) → StandFor l.tables grammar → Lacks l.fn.text all (spaced (map (attr_word grammar) l.attrs))
    → Lacks l.text all (spaced (map (attr_word grammar) (drop l.attr-index l.attrs)))
