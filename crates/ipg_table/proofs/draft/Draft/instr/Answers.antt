use Rattle.std.proofs.Common.{refl}
use Rattle.std.proofs.lemmas.Option.{slice_get_read}
use Rattle.ipg_table.proofs.draft.Draft.instr.Goals as goal

pub returns-clause-holds : goal.returns-clause-holds
returns-clause-holds c = record {
  number = refl;
  term = c.index-terms-term.result;
  is_term = slice_get_read c.args.terms.now _ c.args.term c.index-terms-term.result refl c.requires c.index-terms-term.is;
  holds = c.in_ok-action.ensures.holds;
}
