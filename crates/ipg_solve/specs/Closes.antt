-- Steps that refute a list of facts, whatever steps and goals come behind.
use Rattle.std.specs.Prelude.{◌≡◌, ℕ, ◌<◌, List, [], ◌∷◌, ◌++◌, drop, length, slice_get, Some, ℤ}
use Rattle.std.specs.List.{flat_map}
use Rattle.std.specs.Int.RustNames.{unsigned_abs}
use Rattle.ipg_lin.specs.declared.formula.Formula.{Formula}
use Rattle.ipg_cert.specs.Facts.{Fact, Choice, at_least, at_most, facts_of}
use Rattle.ipg_cert.specs.Checks.{refutes, cases_of}
use Rattle.ipg_cert.specs.declared.refutation.Step.{Step}
use Rattle.ipg_solve.specs.declared.domain.Domain.{Domain}
use Rattle.ipg_solve.specs.Domains.{domain_at, fact_of_end}

-- as often as the coefficient says, the end at which the term is least
abbrev pub entry_of : List Domain → ℕ × ℤ → ℕ × ℕ
entry_of domains term = (unsigned_abs term.1, fact_of_end (domain_at domains term.0) term.1)

-- the ends of the domains stand among the facts
abbrev pub AreDomains : List Fact → List Domain → Type 0
AreDomains facts domains =
    (x : ℕ) → x < length domains
    → (slice_get facts (domain_at domains x).low_at ≡ Some (at_least x (domain_at domains x).low)) ×
    (slice_get facts (domain_at domains x).high_at ≡ Some (at_most x (domain_at domains x).high))

abbrev pub CloseAll : ℕ → List Step → List (List Fact) → Type 0
CloseAll vars steps cases = (more : List Step) (goals : List (List Fact)) → refutes vars (steps ++ more) (cases ++ goals) ≡ refutes vars more goals

-- these facts stand among the others from this number on
abbrev pub StandAt : ℕ → List Fact → List Fact → Type 0
StandAt number own facts = (back : List Fact) × (drop number facts ≡ own ++ back)

-- steps were put behind the old ones; they refute facts among which these stand at this number
abbrev pub ClosesFacts : List Domain → ℕ → ℕ → List Fact → List Step → List Step → Type 0
ClosesFacts domains number next own old new =
    (steps : List Step) × (new ≡ old ++ steps)
    × ((vars : ℕ) (facts : List Fact) → AreDomains facts domains → StandAt number own facts → length facts ≡ next → CloseAll vars steps (facts ∷ []))

abbrev pub ClosesFormula : List Domain → ℕ → ℕ → Formula → List Step → List Step → Type 0
ClosesFormula domains number next f old new = ClosesFacts domains number next (facts_of f) old new

abbrev pub ClosesMembers : List Domain → ℕ → ℕ → List Formula → List Step → List Step → Type 0
ClosesMembers domains number next members old new = ClosesFacts domains number next (flat_map facts_of members) old new

abbrev pub ClosesChoice : List Domain → ℕ → ℕ → List Formula → List Step → List Step → Type 0
ClosesChoice domains number next members old new = ClosesFacts domains number next (Choice members ∷ []) old new

-- steps were put behind the old ones; they refute the case of each member
abbrev pub ClosesCases : List Domain → ℕ → List Formula → List Step → List Step → Type 0
ClosesCases domains next members old new =
    (steps : List Step) × (new ≡ old ++ steps)
    × ((vars : ℕ) (facts : List Fact) → AreDomains facts domains → length facts ≡ next → CloseAll vars steps (cases_of facts members))

-- steps were put behind the old ones; they refute the cases but for these that are left
abbrev pub ClosesSome : List Domain → ℕ → List Formula → List Formula → List Step → List Step → Type 0
ClosesSome domains next members left old new =
    (steps : List Step) × (new ≡ old ++ steps)
    × ((vars : ℕ) (facts : List Fact) → AreDomains facts domains → length facts ≡ next
    → (more : List Step) (goals : List (List Fact))
    → refutes vars (steps ++ more) (cases_of facts members ++ goals) ≡ refutes vars more (cases_of facts left ++ goals))
