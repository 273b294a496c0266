use Rattle.std.proofs.Common.{◌≡◌, ◌++◌, length, take, drop}
use Rattle.std.specs.List.{flat_map, AllByRecursion}
use Rattle.ipg_reader.specs.Laws.{long_text, counted_text, IsText}
use Rattle.ipg_store_body.proofs.writing.put_names.Given as goal

abbrev pub invariant-loop-name : goal.invariant-loop-name
invariant-loop-name l =
    (l.out.items ≡ l.fn.out.items ++ (long_text (length l.names) ++ flat_map counted_text (take l.name-index l.names)))
    × (AllByRecursion IsText (drop l.name-index l.names) → AllByRecursion IsText l.names)
