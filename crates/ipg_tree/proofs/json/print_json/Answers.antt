use Rattle.std.proofs.Common.{◌++◌, refl, sym, ap, ◌∙◌, subst, append_assoc}
use Rattle.ipg_mach_nodes.specs.Stored.{StandsTree}
use Rattle.ipg_tree_walk.specs.Left.{Shows}
use Rattle.ipg_tree_walk.specs.Visits.{visits}
use Rattle.ipg_tree.specs.JsonWalk as walk
use Rattle.ipg_tree.specs.Shares.{Shares}
use Rattle.ipg_tree.specs.Putting.{begun, as_left, next, exits, ended}
use Rattle.ipg_tree.proofs.Nested.{all_said, texts_next}
use Rattle.ipg_tree.specs.Behind.{began, ended_at}
use Rattle.ipg_tree.specs.Json.{json}
use Rattle.ipg_tree.proofs.json.print_json.Goals as goal

pub loop-visit-init : goal.loop-visit-init
loop-visit-init g c = record {
  parse = c.rewind.ensures.parse;
  so_far = λ src grammar one is.
      let stands = subst (λ q. StandsTree src q.store 0 q.root one) (sym c.rewind.ensures.parse) is.stands in (
        visits one,
        c.rewind.ensures.left src one stands,
        as_left (sym (all_said grammar one)) (begun (json grammar one) _ _),
      );
}

pub loop-visit-preserved : goal.loop-visit-preserved
loop-visit-preserved g c = record {
  parse = c.in-Some.ensures.parse ∙ c.loop-visit.invariant.parse;
  so_far = λ src grammar one is.
      let here = c.loop-visit.invariant.so_far src grammar one is in
      let b = began src c.loop-visit.p c.next.new.self c.in-Some.visit here.0 (c.in-Some.ensures.end src) (c.in-Some.ensures.more src) here.1 in
      let shares = subst (λ q. Shares q src grammar) (sym (c.in-Some.ensures.parse ∙ c.loop-visit.invariant.parse)) is.shares in
      let shows = subst (λ q. Shows src q.store c.in-Some.visit b.first) (sym c.in-Some.ensures.parse) b.shows in
      let is_text = ap (walk.texts_of grammar c.loop-visit.last) b.is ∙ texts_next grammar c.loop-visit.last b.first b.more in
      let progress = next is_text here.2 (c.in_ok-put_next.ensures src grammar b.first shares shows) in
      let last = c.behind-last.ensures src grammar b.first _ shows in
      (b.more, b.behind, as_left (ap (λ last. walk.texts_of grammar last b.more) (sym last)) progress);
}

pub returns-in_err-put_next-clause-json : goal.returns-in_err-put_next-clause-json
returns-in_err-put_next-clause-json g c src grammar one is =
    let here = c.loop-visit.invariant.so_far src grammar one is in
    let b = began src c.loop-visit.p c.next.new.self c.in-Some.visit here.0 (c.in-Some.ensures.end src) (c.in-Some.ensures.more src) here.1 in
    let shares = subst (λ q. Shares q src grammar) (sym (c.in-Some.ensures.parse ∙ c.loop-visit.invariant.parse)) is.shares in
    let shows = subst (λ q. Shows src q.store c.in-Some.visit b.first) (sym c.in-Some.ensures.parse) b.shows in
    let is_text = ap (walk.texts_of grammar c.loop-visit.last) b.is ∙ texts_next grammar c.loop-visit.last b.first b.more in
    exits _ c.from_residual.result c.from_residual.ensures.1 _ is_text here.2 (c.in_err-put_next.ensures src grammar b.first shares shows)

pub returns-clause-json : goal.returns-clause-json
returns-clause-json g c src grammar one is =
    let here = c.loop-visit.invariant.so_far src grammar one is in
    let none = ended_at src c.loop-visit.p c.next.new.self here.0 (c.in_default.ensures.more src) here.1 in
    ended c.put_closing.result _ _ (as_left (ap (walk.texts_of grammar c.loop-visit.last) none) here.2)
    c.put_closing.ensures
