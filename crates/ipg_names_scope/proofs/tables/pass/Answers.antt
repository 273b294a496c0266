use Rattle.std.proofs.lemmas.Result.{on_ok_weaker}
use Rattle.ipg_names_scope.specs.declared.marks.Family.TheVariants.{Calls, Items, Sets}
use Rattle.ipg_names_scope.proofs.Spots.{pass_turn}
use Rattle.ipg_names_scope.proofs.tables.pass.Goals as goal

pub returns : goal.returns
returns c =
    let terms = c.args.terms.now in
    let term = c.index-terms-term.result in
    let old = c.args.tables.now in
    let marks = c.requires.marks in
    let here = c.index-terms-term.is in
    let within = c.requires.within in
    on_ok_weaker c.mark_term-3.result (λ passed. record {
      calls = pass_turn Calls old.calls c.mark_term.new.places terms c.args.term term here within c.in_ok-mark_term.ensures marks.calls;
      items = pass_turn Items old.items c.mark_term-2.new.places terms c.args.term term here within c.in_ok-mark_term-2.ensures marks.items;
      sets = pass_turn Sets old.sets c.mark_term-3.new.places terms c.args.term term here within passed marks.sets;
    }) c.mark_term-3.ensures
