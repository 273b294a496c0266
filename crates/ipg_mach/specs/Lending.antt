-- What is lent of the highest call to expressions.
use denote.Bor.{Bor}
use Rattle.std.specs.Prelude.{◌≡◌, List}
use Rattle.ipg_mach_nodes.specs.declared.kid.Kid.{Kid}
use Rattle.ipg_mach_slot.specs.Now.{Lent}
use Rattle.ipg_mach.specs.Piled.{between, above}
use Rattle.ipg_mach.specs.Calls.{running_in}
use Rattle.ipg_mach.specs.declared.reader.View.{View}

-- what is lent is the call's: its attributes, its holder's, its results, and the items of its array that runs
pub record Lends {A : Type 0} (view : View A) (l : Lent) : Type 0 where
  pub rows : l.rows ≡ view.tables.now
  pub store : l.store ≡ view.top.now.store
  pub size : l.size ≡ view.size
  pub own : l.own ≡ (above view.top.now.piles view.top.now.frame.base).own
  pub outer : l.outer ≡ between view.top.now.piles.own view.top.now.frame.outer.from view.top.now.frame.outer.to
  pub done : l.done ≡ (above view.top.now.piles view.top.now.frame.base).done
  pub items : Bor (List Kid)
  pub are_items : items.now ≡ (above view.top.now.piles view.top.now.frame.base).items
  pub running : l.running ≡ running_in view.instr.now view.top.now.frame.entry items
