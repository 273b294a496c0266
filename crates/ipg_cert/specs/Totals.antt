-- A sum of forms as the checker keeps it: what each variable is taken times so far, and the constant.
use Rattle.std.specs.Prelude.{◌≡◌, ℕ, ◌≤◌, if◌then◌else◌, nat_eq, ℤ, pos, ◌+ℤ◌, ◌*ℤ◌, List, slice_index_or}
use Rattle.std.specs.Int.RustNames.{unsigned_abs}
use Rattle.ipg_cert.specs.Checks.{coefficient}

-- what the variable is taken times: 0 behind the last total
abbrev pub total_at : List ℤ → ℕ → ℤ
total_at totals x = slice_index_or totals x (pos 0)

-- the amount is added at the one variable
abbrev pub AddsAt : List ℤ → List ℤ → ℕ → ℤ → Type 0
AddsAt old new var amount = (x : ℕ) → total_at new x ≡ (if nat_eq var x then amount else pos 0) +ℤ total_at old x

-- w times the terms are added
abbrev pub AddsTerms : List ℤ → List ℤ → ℕ → List (ℕ × ℤ) → Type 0
AddsTerms old new w terms = (x : ℕ) → total_at new x ≡ (pos w *ℤ coefficient x terms) +ℤ total_at old x

-- no total is above this in size
abbrev pub AreWithin : ℕ → List ℤ → Type 0
AreWithin most totals = (x : ℕ) → unsigned_abs (total_at totals x) ≤ most
