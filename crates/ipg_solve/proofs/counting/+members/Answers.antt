use Rattle.std.proofs.Common.{◌≡◌, length, ap, sym, subst, ◌∙◌}
use Rattle.std.specs.Prelude.{IfOk}
use Rattle.std.specs.List.{flat_map}
use Rattle.ipg_cert.specs.Facts.{facts_of}
use Rattle.ipg_cert.specs.Told.{facts_of-All, facts_of-Any}
use Rattle.ipg_solve.proofs.counting.+members.Goals as goal

pub count-returns-in-All : goal.count-returns-in-All
count-returns-in-All t c =
    subst (λ k. IfOk c.count_all.result (λ n. n ≡ length k)) (ap (flat_map facts_of) c.as_slice.ensures
    ∙ sym (ap facts_of c.in-All.is ∙ facts_of-All c.in-All.members)) c.count_all.ensures

pub count-returns-in-Any : goal.count-returns-in-Any
count-returns-in-Any t c = sym (ap (λ f. length (facts_of f)) c.in-Any.is ∙ ap length (facts_of-Any c.in-Any.field-0))
