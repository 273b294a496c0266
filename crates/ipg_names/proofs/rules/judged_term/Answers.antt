use Rattle.std.proofs.Common.{ap, ◌∙◌}
use Rattle.ipg_names.specs.Fault.{first_of}
use Rattle.ipg_names.specs.Faults.{term_faults}
use Rattle.ipg_names.specs.Resolved.{term_in}
use Rattle.ipg_names.proofs.rules.judged_term.Goals as goal

pub returns-clause-made : goal.returns-clause-made
returns-clause-made c = c.in_ok-named_term.ensures ∙ ap (λ s. term_in s c.args.term.now) c.term_spot-spot.ensures.scope

pub returns-clause-fault : goal.returns-clause-fault
returns-clause-fault c = c.term_fault.ensures ∙ ap (λ s. first_of (term_faults s c.args.term.now)) c.term_spot-spot.ensures.scope
