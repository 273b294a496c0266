use Rattle.std.proofs.Common.{◌≡◌, List, ◌+◌, ◌≤◌, max, true, ◌∷◌, [], map, take, drop, length, ap, sym, ◌∙◌, subst, arith}
use Rattle.std.proofs.lemmas.List.{drop_more, drop_all}
use Rattle.ipg_lin.specs.Formula.{every, greatest, width}
use Rattle.std.proofs.lemmas.Bool.{and_parts}
use Rattle.std.proofs.lemmas.Result.{on_ok_weaker}
use Rattle.ipg_solve.specs.Domains.{rules_out}
use Rattle.std.specs.Prelude.{OnOk}
use Rattle.std.specs.List.{flat_map}
use Rattle.ipg_cert.specs.Facts.{Fact, facts_of, Choice}
use Rattle.ipg_cert.specs.Told.{facts_of-Atom, facts_of-All, facts_of-Any}
use Rattle.ipg_solve.specs.Closes.{ClosesFacts}
use Rattle.ipg_solve.proofs.Ruled.{rules_out-Atom, width-Atom}
use Rattle.ipg_solve.proofs.Closers.{closes_atom, closes_members, closes_choice, none_closed, one_closed, all_closed, parted}
use Rattle.ipg_solve.proofs.closing.+closing.Goals as goal

pub close-returns-in_ok-combine_of-in-Atom : goal.close-returns-in_ok-combine_of-in-Atom
close-returns-in_ok-combine_of-in-Atom t c =
    on_ok_weaker c.push_step.result
    (λ e. subst (λ facts. ClosesFacts c.args.domains.now c.args.number c.args.next facts c.args.steps.now.items c.push_step.new.steps.items)
    (sym (ap facts_of c.in-Atom.is ∙ facts_of-Atom c.in-Atom.form))
    (closes_atom c.ends_combine.ensures
    c.args.domains.now c.args.number c.args.next c.in-Atom.form c.args.steps.now.items c.push_step.new.steps.items c.in_ok-combine_of-in-Atom.field-0
    (width-Atom c.args.f.now c.in-Atom.form c.args.domains.now c.in-Atom.is c.requires.width) c.in_ok-combine_of-in-Atom.ensures.rule
    (rules_out-Atom c.args.f.now c.in-Atom.form c.args.domains.now c.in-Atom.is c.requires.ruled_out) c.in_ok-combine_of-in-Atom.ensures.step e))
    c.push_step.ensures

pub close-returns-in-All : goal.close-returns-in-All
close-returns-in-All t c =
    subst (λ facts. OnOk c.close_all.result (ClosesFacts c.args.domains.now c.args.number c.args.next facts c.args.steps.now.items c.close_all.new.steps.items))
    (ap (flat_map facts_of) c.as_slice.ensures ∙ sym (ap facts_of c.in-All.is ∙ facts_of-All c.in-All.members)) c.close_all.ensures

pub close-returns-in-Any : goal.close-returns-in-Any
close-returns-in-Any t c =
    subst (λ facts. OnOk c.close_any.result (ClosesFacts c.args.domains.now c.args.number c.args.next facts c.args.steps.now.items c.close_any.new.steps.items))
    (ap (λ ms. Choice ms ∷ []) c.as_slice-in-Any.ensures ∙ sym (ap facts_of c.in-Any.is ∙ facts_of-Any c.in-Any.members)) c.close_any.ensures

pub close_all-returns-then-rules_out : goal.close_all-returns-then-rules_out
close_all-returns-then-rules_out t c =
    let members = c.args.members.now in
    let at = c.loop-member.member-index in
    let member = c.member-item.result in
    let domains = c.args.domains.now in
    let own : List Fact = flat_map facts_of members in
    on_ok_weaker c.close.result
    (λ closes. subst (λ old. ClosesFacts domains c.args.number c.args.next own old c.close.new.steps.items) c.loop-member.invariant.steps
    (closes_members domains c.args.number c.args.next c.loop-member.first members (take at members) (drop (at + 1) members) member
    c.loop-member.steps.items c.close.new.steps.items
    (parted members at member (omega arith) c.member-item.is) c.loop-member.invariant.number closes)) c.close.ensures

pub close_any-returns : goal.close_any-returns
close_any-returns t c =
    on_ok_weaker c.close_cases.result
    (closes_choice c.args.domains.now c.args.number c.args.next c.args.members.now c.args.steps.now.items c.push_step.new.steps.items
    c.close_cases.new.steps.items c.in_ok-push_step.ensures) c.close_cases.ensures

pub close_cases-loop-member-init : goal.close_cases-loop-member-init
close_cases-loop-member-init t c =
    record {
      closed = none_closed c.args.domains.now c.args.next c.args.members.now c.args.steps.now.items;
      left = c.requires.ruled_out;
      valued = c.requires.width;
    }

pub close_cases-loop-member-preserved : goal.close_cases-loop-member-preserved
close_cases-loop-member-preserved t c =
    let domains = c.args.domains.now in
    let members = c.args.members.now in
    let at = c.loop-member.member-index in
    let member = c.member-item.result in
    let is : drop at members ≡ member ∷ drop (at + 1) members = drop_more members at member (omega arith) ∙ ap (λ m. m ∷ drop (at + 1) members)
    (sym c.member-item.is) in
    record {
      closed = one_closed domains c.args.next c.in_ok-behind.behind members (drop at members) (drop (at + 1) members) member c.args.steps.now.items
          c.loop-member.steps.items c.close.new.steps.items is
          (c.in_ok-behind.ensures ∙ ap (λ n. c.args.next + n) c.in_ok-count.ensures) c.loop-member.invariant.closed c.in_ok-close.ensures;
      left = (and_parts _ _ (subst (λ ms. every (map (rules_out domains) ms) ≡ true) is c.loop-member.invariant.left)).1;
      valued = let h : max (width member) (greatest (map width (drop (at + 1) members))) ≤ length domains =
          subst (λ ms. greatest (map width ms) ≤ length domains) is c.loop-member.invariant.valued in omega arith;
    }

pub close_cases-returns : goal.close_cases-returns
close_cases-returns t c =
    all_closed c.args.domains.now c.args.next c.args.members.now (drop c.loop-member.member-index c.args.members.now) c.args.steps.now.items
    c.loop-member.steps.items (drop_all c.loop-member.member-index c.args.members.now (omega arith))
    c.loop-member.invariant.closed
