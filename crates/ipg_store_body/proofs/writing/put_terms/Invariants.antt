use Rattle.std.proofs.Common.{◌≡◌, ◌++◌, length, take, drop}
use Rattle.std.specs.List.{flat_map, AllByRecursion}
use Rattle.ipg_reader.specs.Laws.{long_text}
use Rattle.ipg_store_body.specs.Format.{term_text}
use Rattle.ipg_store_body.specs.Fits.{TermFits}
use Rattle.ipg_store_body.proofs.writing.put_terms.Given as goal

abbrev pub invariant-loop-term : goal.invariant-loop-term
invariant-loop-term l =
    (l.out.items ≡ l.fn.out.items ++ (long_text (length l.terms) ++ flat_map term_text (take l.term-index l.terms)))
    × (AllByRecursion TermFits (drop l.term-index l.terms) → AllByRecursion TermFits l.terms)
