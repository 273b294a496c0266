use Rattle.std.proofs.Common.{◌≡◌, nat_le, drop}
use Rattle.ipg_lin.specs.Form.{terms_width}
use Rattle.ipg_lin.proofs.formula.are_over.Given as goal

-- the terms that are left decide
abbrev pub invariant-loop-term : goal.invariant-loop-term
invariant-loop-term l = nat_le (terms_width (drop l.term-index l.terms)) l.vars ≡ nat_le (terms_width l.terms) l.vars
