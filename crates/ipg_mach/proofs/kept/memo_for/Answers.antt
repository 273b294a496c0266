use Rattle.std.proofs.Common.{sym, ap, ◌∙◌, subst, Some, None}
use Rattle.std.specs.FinMap as map
use Rattle.ipg_memo.specs.Keyed.{key_cmp, Entries}
use Rattle.ipg_mach.specs.Known.{IsKnown, IsEntryOf}
use Rattle.ipg_mach.specs.Turning.{known_at}
use Rattle.ipg_mach.proofs.kept.memo_for.Goals as goal

pub returns-in-Answers-clause-known : goal.returns-in-Answers-clause-known
returns-in-Answers-clause-known g c src st =
    subst (λ remember. IsKnown src st (Some c.new.result) (known_at remember)) (sym c.in-Answers.is)
    (λ key. subst (λ found. IsEntryOf src st key found None)
    (sym (ap (λ (m : Entries). map.get m key) c.new.ensures ∙ map.get-empty key_cmp key)) tt)
