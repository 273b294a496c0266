use Rattle.std.proofs.Common.{◌≡◌, ◌++◌, length, take, drop}
use Rattle.std.specs.List.{flat_map, AllByRecursion}
use Rattle.ipg_reader.specs.Laws.{long_text}
use Rattle.ipg_store_body.specs.Format.{alt_text}
use Rattle.ipg_store_body.specs.Fits.{AltFits}
use Rattle.ipg_store_body.proofs.writing.put_alts.Given as goal

abbrev pub invariant-loop-alt : goal.invariant-loop-alt
invariant-loop-alt l =
    (l.out.items ≡ l.fn.out.items ++ (long_text (length l.alts) ++ flat_map alt_text (take l.alt-index l.alts)))
    × (AllByRecursion AltFits (drop l.alt-index l.alts) → AllByRecursion AltFits l.alts)
