-- The facts as they lie in memory, seen as facts.
use Rattle.std.specs.Prelude.{◌≡◌, ℕ, ◌+◌, ◌*◌, ◌^◌, ◌≤◌, ℤ, pos, ◌*ℤ◌, List, [], ◌∷◌, ◌++◌, map, Option, None, Some}
use Rattle.std.specs.Int.RustNames.{unsigned_abs}
use Rattle.ipg_lin.specs.Form.{Form}
use Rattle.ipg_cert.specs.Facts.{Fact, AtMost, Choice}
use Rattle.ipg_cert.specs.Totals.{total_at, AddsTerms, AreWithin}
use Rattle.ipg_cert.specs.Checks.{coefficient, sum_from, weighted_sum}
use Rattle.ipg_cert.specs.declared.fact_ref.Bound.{Bound}
use Rattle.ipg_cert.specs.declared.fact_ref.FactRef.{FactRef}
use Rattle.ipg_cert.specs.declared.fact_ref.FactRef.TheVariants as fact_ref

abbrev pub form_of : Bound → Form
form_of bound = record { terms = (bound.var, bound.sign) ∷ []; constant = bound.constant }

abbrev pub seen : FactRef → Fact
seen (fact_ref.Limit bound) = AtMost (form_of bound)
seen (fact_ref.Atom form) = AtMost form.now
seen (fact_ref.Choice members) = Choice members.now

abbrev pub all_seen : List FactRef → List Fact
all_seen facts = map seen facts

-- w times the form is added to the totals, and this is w times its constant
pub record Added (w : ℕ) (old new : List ℤ) (constant : ℤ) (form : Form) : Type 0 where
  pub terms : AddsTerms old new w form.terms
  pub constant_is : constant ≡ pos w *ℤ form.constant
  pub size : unsigned_abs constant ≤ 2 ^ 103
  pub grows : (most : ℕ) → AreWithin most old → AreWithin (most + 2 ^ 86) new

-- the form was added, or there was none
abbrev pub Weighs : ℕ → List ℤ → List ℤ → Option ℤ → Option Form → Type 0
Weighs w old new None None = Unit {0}
Weighs w old new None (Some form) = ⊥
Weighs w old new (Some constant) None = ⊥
Weighs w old new (Some constant) (Some form) = Added w old new constant form

-- no variable has been taken yet
abbrev pub AreZero : List ℤ → Type 0
AreZero totals = (x : ℕ) → total_at totals x ≡ pos 0

-- each total is the variable's coefficient in the form
abbrev pub StandFor : List ℤ → Form → Type 0
StandFor totals form = (x : ℕ) → total_at totals x ≡ coefficient x form.terms

-- the totals and the constant are the sum, if there is one
abbrev pub Sums : List ℤ → Option ℤ → Option Form → Type 0
Sums totals None None = Unit {0}
Sums totals None (Some form) = ⊥
Sums totals (Some constant) None = ⊥
Sums totals (Some constant) (Some form) = StandFor totals form × (constant ≡ form.constant)

-- A sum on its way: with the entries that are left it leads to the sum of all.
pub record Progress (facts : List Fact) (left entries : List (ℕ × ℕ)) (count : ℕ) (totals : List ℤ) (constant : ℤ) : Type 0 where
  pub sum : Form
  pub leads : sum_from facts sum left ≡ weighted_sum facts entries
  pub stands : StandFor totals sum
  pub constant_is : constant ≡ sum.constant
  pub within : AreWithin (count * 2 ^ 86) totals
  pub size : unsigned_abs constant ≤ count * 2 ^ 103

-- facts were put behind the old ones, which stay
abbrev pub Appends : List FactRef → List FactRef → List Fact → Type 0
Appends old new facts = (more : List FactRef) × (new ≡ old ++ more) × (all_seen more ≡ facts)
