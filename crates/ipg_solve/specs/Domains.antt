-- What each variable can be in a part of the box, and which forms and formulas that rules out.
use Rattle.std.specs.Prelude.{◌≡◌, ℕ, ◌+◌, ◌*◌, ◌<◌, Bool, ℤ, pos, negsuc, ◌+ℤ◌, ◌-ℤ◌, ◌*ℤ◌, ◌≤ℤ◌, int_lt, List, [], ◌∷◌, length, slice_index_or}
use Rattle.std.specs.Int.RustNames.{unsigned_abs}
use Rattle.ipg_lin.specs.Form.{Form}
use Rattle.ipg_lin.specs.Formula.{every, some}
use Rattle.ipg_lin.specs.declared.formula.Formula.{Formula}
use Rattle.ipg_lin.specs.declared.formula.Formula.TheOpen.{Formula-F}
use Rattle.ipg_lin.specs.declared.formula.Formula.TheOpen.Formula-F.{Atom, All, Any}
use Rattle.ipg_lin.specs.declared.formula.Formula.TheFolds.{fold-Formula}
use Rattle.ipg_solve.specs.declared.domain.Domain.{Domain}

abbrev pub no_domain : Domain
no_domain = record { low = pos 0; low_at = 0; high = pos 0; high_at = 0 }

abbrev pub domain_at : List Domain → ℕ → Domain
domain_at domains x = slice_index_or domains x no_domain

-- the end of the domain at which a multiple of the variable is least
abbrev pub end_of : Domain → ℤ → ℤ
end_of domain (pos c) = domain.low
end_of domain (negsuc c) = domain.high

-- the fact that says so
abbrev pub fact_of_end : Domain → ℤ → ℕ
fact_of_end domain (pos c) = domain.low_at
fact_of_end domain (negsuc c) = domain.high_at

abbrev pub least : List Domain → List (ℕ × ℤ) → ℤ
least domains [] = pos 0
least domains (term ∷ terms) = (term.1 *ℤ end_of (domain_at domains term.0) term.1) +ℤ least domains terms

-- the least value that the form takes in the domains
abbrev pub least_of : List Domain → Form → ℤ
least_of domains form = least domains form.terms +ℤ form.constant

-- an atom is ruled out where its form's least value is above 0, All where some member is, Any where every member is
abbrev pub rules_out_step : List Domain → Formula-F Bool → Bool
rules_out_step domains (Atom form) = int_lt (pos 0) (least_of domains form)
rules_out_step domains (All members) = some members
rules_out_step domains (Any members) = every members

abbrev pub rules_out : List Domain → Formula → Bool
rules_out domains = fold-Formula Bool (rules_out_step domains)

-- no domain is empty
abbrev pub AreFull : List Domain → Type 0
AreFull domains = (x : ℕ) → x < length domains → (domain_at domains x).low ≤ℤ (domain_at domains x).high

abbrev pub width_of : Domain → ℕ
width_of domain = unsigned_abs (domain.high -ℤ domain.low)

-- each variable can be one value alone
abbrev pub ArePoints : List Domain → Type 0
ArePoints domains = (x : ℕ) → x < length domains → (domain_at domains x).low ≡ (domain_at domains x).high

-- how many points the domains have
abbrev pub points : List Domain → ℕ
points [] = 1
points (domain ∷ domains) = (width_of domain + 1) * points domains
