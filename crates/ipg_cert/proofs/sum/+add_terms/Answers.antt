use Rattle.std.proofs.Common.{arith, get_or, pos, ◌^◌}
use Rattle.std.proofs.lemmas.Result.{on_ok_weaker}
use Rattle.ipg_cert.proofs.TotalsLemmas.{grown, adds_more, others, others_small}
use Rattle.ipg_cert.proofs.sum.+add_terms.Goals as goal

pub add_term-requires-clause-size : goal.add_term-requires-clause-size
add_term-requires-clause-size t c =
    omega (
      arith,
      grown c.args.totals.now.items c.add_terms.new.totals.items c.args.weight (others c.args.terms.now) (2 ^ 120) c.requires.weight (omega arith)
          (others_small c.args.terms.now c.requires.coefficients) c.in_ok-add_terms-in-len1-up.ensures c.requires.size (get_or c.args.terms.now 0 (0, pos 0)).0,
    )

pub returns-in_ok-add_terms-in-len1-up : goal.returns-in_ok-add_terms-in-len1-up
returns-in_ok-add_terms-in-len1-up t c =
    on_ok_weaker c.add_term.result
    (adds_more c.args.totals.now.items c.add_terms.new.totals.items c.add_term.new.totals.items c.args.weight c.args.terms.now c.in-len1-up.len_at_least
    c.in_ok-add_terms-in-len1-up.ensures)
    c.add_term.ensures
