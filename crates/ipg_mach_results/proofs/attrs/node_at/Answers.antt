use Rattle.ipg_mach_results.proofs.Deep as deep
use Rattle.ipg_mach_results.proofs.attrs.node_at.Goals as goal

pub returns-in-Some-clause-levels : goal.returns-in-Some-clause-levels
returns-in-Some-clause-levels g c src at one h = deep.said src c.args.store.now at c.args.id one c.in-Some.node h c.in-Some.ensures.some

pub returns-in-None-clause-levels : goal.returns-in-None-clause-levels
returns-in-None-clause-levels g c src at one h = deep.is_there src c.args.store.now at c.args.id one h c.in-None.ensures.some
