-- Which alternatives are closed by a node.
use Rattle.std.specs.Prelude.{◌≡◌, ℕ, List, length}
use Rattle.ipg_core.specs.declared.grammar.CoreTerm.{CoreTerm}
use Rattle.ipg_core.specs.Tree.{Kids}
use Rattle.ipg_core.specs.Touch.{kids_touch, untouched}
use Rattle.ipg_core.specs.Meaning.{Frame, State}
use Rattle.ipg_mach_nodes.specs.declared.kid.Head.{Head}
use Rattle.ipg_mach_nodes.specs.Stored.{Stored, Source}
use Rattle.ipg_table.specs.Rows.{Rows, attrs_in}
use Rattle.ipg_mach_slot.specs.Now.{AreResults}
use Rattle.ipg_mach_node.specs.declared.closing.Closing.{Closing}

-- the call is that of an alternative with these terms, in this state, on a part that begins at a place of the input
pub record Closes (src : Source) (st : Stored) (at : ℕ) (t : Rows) (call : Closing) (f : Frame) (terms : List CoreTerm) (state : State) : Type 0 where
  pub syms : src.syms ≡ t.syms
  pub rule : f.rule ≡ call.rule
  pub size : length f.bytes ≡ call.size
  pub sets : call.sets.now ≡ attrs_in terms
  pub own : state.own ≡ call.own.now
  pub done : AreResults src st at call.size call.done.now state.done

-- the head of the node of a rule with these children
abbrev pub head_of : ℕ → ℕ → Kids → Head
head_of rule size ones = let ends = kids_touch ones (untouched size) in record { rule = rule; size = size; start = ends.start; end = ends.end }
