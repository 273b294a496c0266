use Rattle.ipg_graph.proofs.MoveLemmas.{next-start, none-start, next-found, none-found}
use Rattle.ipg_graph.proofs.search.Search.next.Goals as goal

pub returns-in-Start-clause-found : goal.returns-in-Start-clause-found
returns-in-Start-clause-found c = λ is. next-start _ _ c.in-Start.is c.requires (c.find.ensures.found is)

pub returns-in-Start-clause-none : goal.returns-in-Start-clause-none
returns-in-Start-clause-none c = λ is. none-start _ _ c.in-Start.is c.requires (c.find.ensures.none is)

pub returns-in-Found-clause-found : goal.returns-in-Found-clause-found
returns-in-Found-clause-found c = λ is. next-found _ _ _ c.in-Found.is c.resume.ensures (c.find-in-Found.ensures.found is)

pub returns-in-Found-clause-none : goal.returns-in-Found-clause-none
returns-in-Found-clause-none c = λ is. none-found _ _ _ c.in-Found.is c.resume.ensures (c.find-in-Found.ensures.none is)
