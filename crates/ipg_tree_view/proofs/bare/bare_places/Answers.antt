use Rattle.std.proofs.Common.{◌≡◌, ◌<◌, ◌&&◌, ◌+◌, not, sym, ap, ◌∙◌, subst, length, get_or, true, arith}
use Rattle.std.proofs.lemmas.List.{length-replicate, get_or-replicate}
use Rattle.ipg_mach_nodes.specs.Stored.{StandsTree}
use Rattle.ipg_table.specs.Rows.{Rows}
use Rattle.ipg_tree_walk.specs.Parse.{Parse}
use Rattle.ipg_tree_walk.specs.Visits.{visits}
use Rattle.ipg_tree_view.specs.Bare.{none_has, has_byte}
use Rattle.ipg_tree_view.proofs.Runs.{next_struck, all_struck, same_bare, whole_new}
use Rattle.ipg_tree.specs.Behind.{began, ended_at}
use Rattle.ipg_tree_view.proofs.bare.bare_places.Goals as goal

pub loop-visit-init : goal.loop-visit-init
loop-visit-init g c = record {
  parse = c.rewind.ensures.parse;
  long = ap length (c.in_ok-bare.ensures.items_if_clones_equal (λ y same. same)) ∙ length-replicate _ true;
  so_far = λ src grammar one is.
      let all = c.in_ok-bare.ensures.items_if_clones_equal (λ y same. same) in
      let stands = subst (λ q. StandsTree src q.store 0 q.root one) (sym c.rewind.ensures.parse) is.stands in (
        visits one,
        c.rewind.ensures.left src one stands,
        λ place short. ap (λ b. b && none_has place (visits one)) (ap (λ xs. get_or xs place true) all ∙ get_or-replicate _ place true true short),
      );
}

pub loop-visit-preserved : goal.loop-visit-preserved
loop-visit-preserved g c =
    let items = c.loop-visit.bare.items in
    let was : length items ≡ c.loop-visit.bare.len = sym (ap length c.deref_mut.ensures.value) ∙ c.deref_mut.ensures.len in
    let is_new = whole_new c.strike_visit.new.bare items c.loop-visit.bare.len (c.strike_visit.ensures.long ∙ c.deref_mut.ensures.len) was in
    record {
      parse = c.in-Some.ensures.parse ∙ c.loop-visit.invariant.parse;
      long = ap length is_new ∙ c.strike_visit.ensures.long ∙ ap length c.deref_mut.ensures.value ∙ c.loop-visit.invariant.long;
      so_far = λ src grammar one is.
          let here = c.loop-visit.invariant.so_far src grammar one is in
          let same = c.in-Some.ensures.parse ∙ c.loop-visit.invariant.parse in
          let syms = is.shares.syms ∙ ap (λ (q : Parse). q.tables.syms) (sym same) ∙ ap (λ (t : Rows). t.syms) (sym c.tables.ensures) in
          let b = began src c.loop-visit.p c.next.new.self c.in-Some.visit here.0 (c.in-Some.ensures.end src) (c.in-Some.ensures.more src) here.1 in (
            b.more,
            b.behind,
            λ place short.
                let within : place < length c.deref_mut.result.now =
                let e = ap length c.deref_mut.ensures.value in let f = c.loop-visit.invariant.long in omega (arith, e, f, short) in
                let struck = ap (λ xs. get_or xs place true) is_new ∙ c.strike_visit.ensures.struck src _ b.first place syms b.shows within
                ∙ ap (λ xs. get_or xs place true && not (has_byte place b.first.at b.first.child)) c.deref_mut.ensures.value in
                next_struck _ (get_or items place true) place b.first b.more _ struck
                (ap (λ left. get_or items place true && none_has place left) (sym b.is) ∙ here.2 place short),
          );
    }

pub returns-clause-long : goal.returns-clause-long
returns-clause-long g c = c.loop-visit.invariant.long

pub returns-clause-bare : goal.returns-clause-bare
returns-clause-bare g c src grammar one is =
    let here = c.loop-visit.invariant.so_far src grammar one is in
    let none = ended_at src c.loop-visit.p c.next.new.self here.0 (c.in_default.ensures.more src) here.1 in
    same_bare 0 _ c.loop-visit.bare.items (visits one) c.loop-visit.invariant.long
    (λ place short.
    let same : place ≡ 0 + place = omega arith in
    all_struck _ place here.0 _ none (here.2 place short) ∙ ap (λ k. none_has k (visits one)) same)
