use Rattle.std.proofs.Common.{◌≡◌, ◌++◌, length, take, drop}
use Rattle.std.specs.List.{flat_map, AllByRecursion}
use Rattle.ipg_reader.specs.Laws.{long_text}
use Rattle.ipg_store_body.specs.Format.{case_text}
use Rattle.ipg_store_body.specs.Fits.{CaseFits}
use Rattle.ipg_store_body.proofs.writing.put_cases.Given as goal

abbrev pub invariant-loop-case : goal.invariant-loop-case
invariant-loop-case l =
    (l.out.items ≡ l.fn.out.items ++ (long_text (length l.cases) ++ flat_map case_text (take l.case-index l.cases)))
    × (AllByRecursion CaseFits (drop l.case-index l.cases) → AllByRecursion CaseFits l.cases)
