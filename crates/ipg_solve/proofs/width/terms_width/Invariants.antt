use Rattle.std.proofs.Common.{◌≡◌, max, drop}
use Rattle.ipg_lin.specs.Form.{terms_width}
use Rattle.ipg_solve.proofs.width.terms_width.Given as goal

-- the width so far, and that of the terms that are left
abbrev pub invariant-loop-term : goal.invariant-loop-term
invariant-loop-term l = max l.width (terms_width (drop l.term-index l.terms)) ≡ terms_width l.terms
