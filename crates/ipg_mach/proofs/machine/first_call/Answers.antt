use Rattle.std.proofs.Common.{◌≡◌, ◌-◌, take, refl, sym, ap, ◌∙◌, arith, []}
use Rattle.std.proofs.lemmas.List.{take_all}
use Rattle.ipg_mach.specs.Stage.{source}
use Rattle.ipg_mach.proofs.Remembering.{before_end, end_is_mark}
use Rattle.ipg_mach.proofs.machine.first_call.Goals as goal

pub returns-clause-highest : goal.returns-clause-highest
returns-clause-highest g c grammar input stand size =
    c.in_ok-open.ensures.highest (source c.args.tables.now input) [] [] (record { grammar = grammar; rule = 0; alt = 0; bytes = input; outer = [] }) 0 (record {
      answer = refl;
      syms = refl;
      tables = stand;
      rule = refl;
      first = refl;
      begins = refl;
      ordered = omega arith;
      inside = omega arith;
      bytes = sym (ap (λ n. take n input) (let e : c.args.size - 0 ≡ c.args.size = omega arith in e) ∙ take_all c.args.size input (omega arith));
      outer = refl;
      outer_inside = omega arith;
      wait = (refl, refl, sym size);
    })

pub returns-clause-floor : goal.returns-clause-floor
returns-clause-floor g c =
    let keeps = c.in_ok-open.ensures.keeps (end_is_mark c.args.store _ c.mark-mark.ensures) in
    (keeps.mark, keeps.before ∙ before_end c.args.store _ c.mark-mark.ensures)
