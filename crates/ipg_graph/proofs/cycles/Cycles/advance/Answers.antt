use Rattle.std.proofs.Common.{subst}
use Rattle.ipg_graph.specs.Answers.{Listing, IsNextAnswer, IsLastAnswer}
use Rattle.ipg_graph.specs.Search.{listing}
use Rattle.ipg_graph.proofs.MoveLemmas.{next-answer, last-answer}
use Rattle.ipg_graph.proofs.cycles.Cycles.advance.Goals as goal

pub returns-clause-found : goal.returns-clause-found
returns-clause-found c = λ is. subst (λ (o : Listing). IsNextAnswer o (listing c.next.new.self)) c.self.view_is
    (next-answer c.self.inside.search c.next.new.self (c.next.ensures.found is))

pub returns-clause-none : goal.returns-clause-none
returns-clause-none c = λ is. subst (λ (o : Listing). IsLastAnswer o (listing c.next.new.self)) c.self.view_is
    (last-answer c.self.inside.search c.next.new.self (c.next.ensures.none is))
