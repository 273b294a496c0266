use Rattle.std.proofs.Common.{refl, ap, ◌∙◌, reverse, arith}
use Rattle.std.proofs.lemmas.List.{nil_from_length}
use Rattle.ipg_solve.specs.Cuts.{is_below, waiting}
use Rattle.ipg_solve.proofs.Backing.{taken_off, turned_over}
use Rattle.ipg_solve.proofs.halving.back.Goals as goal

pub loop-cut-init : goal.loop-cut-init
loop-cut-init g c = record { domains_are = c.requires.0; cuts_are = c.requires.1; waits = λ root. refl; work_is = refl }

pub loop-cut-preserved : goal.loop-cut-preserved
loop-cut-preserved g c =
    taken_off c.args.first g.start c.loop-cut.domains.items _ c.args.cuts.now.items c.loop-cut.cuts.items c.pop.new.self.items c.in-Some.cut
    c.loop-cut.invariant c.in-Some.ensures.items (ap is_below c.in-Above.is) refl

pub returns-in-Below : goal.returns-in-Below
returns-in-Below g c =
    turned_over c.args.first g.start c.loop-cut.domains.items c.go_above.new.domains.items c.args.cuts.now.items c.loop-cut.cuts.items
    c.pop.new.self.items c.go_above.new.cuts.items c.in-Some.cut c.loop-cut.invariant
    c.in-Some.ensures.items (ap is_below c.in-Below.is) c.in_ok-go_above-in-Below.ensures.cuts c.in_ok-go_above-in-Below.ensures.domains

pub returns : goal.returns
returns g c = λ root. c.loop-cut.invariant.waits root ∙ ap (λ cs. waiting root (reverse cs))
    (nil_from_length c.loop-cut.cuts.items (omega (arith, c.in_default.ensures.cases, c.loop-cut.cuts.ok.0)))
