-- The items of an array or a repetition so far, as they stand in rows.
use Rattle.std.specs.Prelude.{ℕ, List}
use Rattle.ipg_core.specs.declared.grammar.Sym.{Sym}
use Rattle.ipg_core.specs.Tree as tree
use Rattle.ipg_core.specs.Tree.{kids_of}
use Rattle.ipg_core.specs.Within.{KidsWithin}
use Rattle.ipg_region.specs.declared.region.RunId.{RunId}
use Rattle.ipg_mach_nodes.specs.declared.kid.Kid.{Kid}
use Rattle.ipg_mach_nodes.specs.declared.kid.Kid.TheVariants as row
use Rattle.ipg_mach_nodes.specs.Stored.{Stored, Source, StandKids}
use Rattle.ipg_mach_results.specs.Flat.{AreItems}
use Rattle.ipg_mach_node.specs.declared.results.Several.{Several}
use Rattle.ipg_mach_node.specs.declared.results.Several.TheVariants.{Array, Repetition}

-- the rows hold these items of a part of n bytes, of which none is an array or a repetition
pub record HasItems (src : Source) (st : Stored) (at n : ℕ) (rows : List Kid) (items : List tree.Kid) : Type 0 where
  pub stand : StandKids src st at rows (kids_of items)
  pub within : KidsWithin n (kids_of items)
  pub single : AreItems (kids_of items)

-- items as one result, and its row
abbrev pub together : Several → Sym → tree.Kids → tree.Kid
together Array one items = tree.Array one items
together Repetition one items = tree.Many one items

abbrev pub row_of : Several → ℕ → RunId → Kid
row_of Array sym items = row.Array sym items
row_of Repetition sym items = row.Many sym items
