use Rattle.std.proofs.Common.{◌≡◌, ◌++◌, drop}
use Rattle.std.specs.Prelude.{flat_map}
use Rattle.ipg_facts_forms.proofs.joining.put_all_own.Given as goal

abbrev pub invariant-loop-part : goal.invariant-loop-part
invariant-loop-part l = l.out.items ++ flat_map (λ part. drop 1 part.1.bounds) (drop l.part-index l.parts) ≡ l.fn.out.items
    ++ flat_map (λ part. drop 1 part.1.bounds) l.parts
