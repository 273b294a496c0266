use Rattle.std.proofs.Common.{◌≡◌, ◌≤◌, ◌++◌, drop, map, length}
use Rattle.ipg_lin.specs.Form.{terms_width}
use Rattle.ipg_solve.specs.Closes.{entry_of}
use Rattle.ipg_solve.proofs.closing.put_ends.Given as goal

abbrev pub invariant-loop-term : goal.invariant-loop-term
invariant-loop-term l = record {
  put : l.entries.items ++ map (entry_of l.domains) (drop l.term-index l.terms) ≡ l.fn.entries.items ++ map (entry_of l.domains) l.terms;
  valued : terms_width (drop l.term-index l.terms) ≤ length l.domains;
}
