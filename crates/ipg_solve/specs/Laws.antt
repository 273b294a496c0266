-- What holds of the ends of domains.
use Rattle.std.specs.Prelude.{◌≡◌, ℕ, ◌≤◌, true, List, ◌∷◌, map, length, slice_get, Some, pos, int_lt}
use Rattle.ipg_lin.specs.Form.{Form, are_coefficients, terms_width}
use Rattle.ipg_cert.specs.Facts.{Fact, AtMost}
use Rattle.ipg_cert.specs.Checks.{combines}
use Rattle.ipg_solve.specs.declared.domain.Domain.{Domain}
use Rattle.ipg_solve.specs.Domains.{least_of}
use Rattle.ipg_solve.specs.Closes.{entry_of, AreDomains}

-- an atom whose least value in the domains is above 0 is refuted by one sum: its own fact once, and of each term the end at which it is least
abbrev pub EndsCombine : Type 0
EndsCombine = (facts : List Fact) (domains : List Domain) (number : ℕ) (form : Form) → AreDomains facts domains → terms_width form.terms ≤ length domains
    → length form.terms ≤ 64 → are_coefficients form.terms ≡ true → slice_get facts number ≡ Some (AtMost form)
    → int_lt (pos 0) (least_of domains form) ≡ true → combines ((1, number) ∷ map (entry_of domains) form.terms) facts ≡ true
