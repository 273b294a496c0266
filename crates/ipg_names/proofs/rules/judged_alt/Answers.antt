use Rattle.std.proofs.Common.{ap, ◌∙◌}
use Rattle.ipg_names.specs.declared.named.NamedAlt.{NamedAlt}
use Rattle.ipg_names.specs.Fault.{first_of}
use Rattle.ipg_names.specs.Resolved.{terms_from}
use Rattle.ipg_names.specs.Faults.{terms_faults}
use Rattle.ipg_names_scope.specs.Site.{scopes_at}
use Rattle.ipg_names.proofs.rules.judged_alt.Goals as goal

pub returns-clause-made : goal.returns-clause-made
returns-clause-made c =
    ap (λ terms. let alt : NamedAlt = record { terms = terms } in alt)
    (c.in_ok-judged.ensures.made ∙ ap (λ ts. terms_from (scopes_at c.args.tables.now c.args.entry.now c.args.at ts) 0 ts) c.as_slice.ensures)

pub returns-clause-fault : goal.returns-clause-fault
returns-clause-fault c =
    c.in_ok-judged.ensures.fault ∙ ap (λ ts. first_of (terms_faults (scopes_at c.args.tables.now c.args.entry.now c.args.at ts) 0 ts)) c.as_slice.ensures
