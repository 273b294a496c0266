use Rattle.std.proofs.Common.{◌≡◌, ◌+◌, ◌∷◌, [], ◌++◌, refl, sym, ap, subst, ◌∙◌, append_assoc, length, arith}
use Rattle.std.proofs.lemmas.List.{length-append}
use Rattle.std.specs.Vec.Iter.{into_iter_items}
use Rattle.ipg_complete.specs.Completion.{left_at_first, terms_from, term_of}
use Rattle.ipg_complete.proofs.Turns.{AreDone, so_many_done, none_done, one_done, all_came}
use Rattle.ipg_complete.proofs.completing.terms.Goals as goal

pub loop-written-init : goal.loop-written-init
loop-written-init c = (
  refl,
  c.into_iter-written-iterator.ensures.into_iter_gives.1 ∙ c.into_vec-written-items.result.ok.0
      ∙ ap length (sym c.into_iter-written-iterator.ensures.into_iter_gives.0),
  rw (c.first-left.ensures, c.in_ok-made.ensures.items) none_done,
)

pub add_term-requires : goal.add_term-requires
add_term-requires c =
    let at = c.loop-written in
    let all = at.invariant.0 ∙ c.into_iter-written-iterator.ensures.into_iter_gives.0 ∙ c.into_vec-written-items.ensures in
    let parts = sym (length-append at.yielded (into_iter_items at.written-iterator)) ∙ ap length all in
    let many = so_many_done at.yielded at.left at.made.items at.invariant.2 in
    let few = c.requires in
    omega arith

pub loop-written-preserved : goal.loop-written-preserved
loop-written-preserved c =
    let at = c.loop-written in
    let steps : into_iter_items at.written-iterator ≡ c.in-Some.written ∷ into_iter_items c.next.new.self = c.in-Some.ensures.steps.0 in
    let many = so_many_done at.yielded at.left at.made.items at.invariant.2 in
    let number : length at.made.items ≡ 0 + length at.yielded = omega (arith, many) in (
      append_assoc at.yielded (c.in-Some.written ∷ []) _ ∙ rw (← steps) at.invariant.0,
      let was = at.invariant.1 in
          let gone = c.in-Some.ensures.steps.1 in
          let short = ap length steps in
          omega arith,
      subst (AreDone (at.yielded ++ c.in-Some.written ∷ []) c.add_term.new.left) (sym c.in_ok-add_term.ensures.0)
          (one_done at.yielded at.left at.made.items c.in-Some.written (length at.made.items) (term_of at.left c.in-Some.written) c.add_term.new.left
          at.invariant.2 number refl c.in_ok-add_term.ensures.1),
    )

pub returns : goal.returns
returns c =
    let at = c.loop-written in
    let all = at.invariant.0 ∙ c.into_iter-written-iterator.ensures.into_iter_gives.0 ∙ c.into_vec-written-items.ensures in
    c.from_vec.ensures ∙ at.invariant.2.made_is ∙ ap (terms_from 0 left_at_first)
    (all_came at.yielded (into_iter_items at.written-iterator) _ _ all at.invariant.1 c.in-None.ensures.steps.0)
