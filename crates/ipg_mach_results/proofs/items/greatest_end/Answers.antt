use Rattle.std.proofs.Common.{sym, ap, ◌∙◌, ◌≡◌, Some, pos, ℕ}
use Rattle.std.specs.Prelude.{option_map}
use Rattle.ipg_core.specs.Eval as eval
use Rattle.ipg_mach_results.proofs.Short.{greatest_short}
use Rattle.ipg_mach_results.proofs.items.greatest_end.Goals as goal

pub returns-in-Some : goal.returns-in-Some
returns-in-Some g c = λ src at ones e h s.
    let is : Some c.in-Some.end ≡ eval.greatest_end ones = sym c.in-Some.is ∙ c.last_end.ensures src at ones e h in
    c.signed.ensures (greatest_short ones c.in-Some.end is s) ∙ ap (option_map (λ (x : ℕ). pos x)) is
