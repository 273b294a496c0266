use Rattle.std.proofs.Common.{◌≡◌, refl, sym, ap, ◌∙◌, subst, arith, length}
use Rattle.std.specs.Prelude.{slice_get}
use Rattle.std.proofs.lemmas.Option.{slice_get_read}
use Rattle.ipg_touch.specs.Pass.{Marking}
use Rattle.ipg_touch.proofs.Passes.{Passing, sound_next, passing_next, passed_closed, passed_fewer, nothing_passed}
use Rattle.ipg_touch.proofs.marks.mark_more.Goals as goal

pub loop-rule-init : goal.loop-rule-init
loop-rule-init c = record { sound = c.requires; pass = nothing_passed c.args.g.now.rules c.args.marks.now.items }

pub loop-rule-preserved : goal.loop-rule-preserved
loop-rule-preserved c =
    let g = c.args.g.now in
    let rules = c.rules-body-items.result.now in
    let old = c.loop-rule.marks.items in
    let is = slice_get_read rules _ c.loop-rule.rule c.body-item.result refl c.loop-rule-test.true c.body-item.is in
    let there = sym (ap (λ rs. slice_get rs c.loop-rule.rule) c.rules-body-items.ensures.rules) ∙ is in
    let m = subst (λ alts. Marking c.mark-more.result old c.loop-rule.rule alts c.mark-more.new.marks.items) c.as_slice.ensures c.mark-more.ensures in
    let room = ap length (sym c.rules-body-items.ensures.rules) ∙ refl in
    record {
      sound = sound_next g c.mark-more.result old c.mark-more.new.marks.items c.loop-rule.rule c.body-item.result there m c.loop-rule.invariant.sound;
      pass = passing_next g.rules c.loop-rule.more c.mark-more.result c.args.marks.now.items old c.mark-more.new.marks.items c.loop-rule.rule
          c.body-item.result there
          (let a = c.loop-rule.invariant.sound.size in omega arith) m c.loop-rule.invariant.pass;
    }

pub returns-clause-closed : goal.returns-clause-closed
returns-clause-closed c = λ e.
    let end : c.loop-rule.rule ≡ length c.args.g.now.rules = let a = ap length c.rules-body-items.ensures.rules in omega arith in
    passed_closed c.args.g.now.rules c.loop-rule.more c.args.marks.now.items c.loop-rule.marks.items e
    (subst (λ i. Passing c.loop-rule.more c.args.g.now.rules i c.args.marks.now.items c.loop-rule.marks.items) end c.loop-rule.invariant.pass)

pub returns-clause-fewer : goal.returns-clause-fewer
returns-clause-fewer c = λ e. passed_fewer c.args.g.now.rules c.loop-rule.more c.loop-rule.rule c.args.marks.now.items c.loop-rule.marks.items e
    c.loop-rule.invariant.pass
