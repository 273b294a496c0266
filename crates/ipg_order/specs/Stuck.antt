-- Where an order of terms gets stuck.
use Rattle.std.specs.Prelude.{◌≡◌, ℕ, ◌<◌, List, [], ◌∷◌, length, true, false}
use Rattle.ipg_core.specs.declared.grammar.CoreTerm.{CoreTerm}
use Rattle.ipg_core.specs.Grammar.{Grammar}
use Rattle.ipg_core.specs.Order.{is_taken, IsNext, Provides}

-- no term is next, and u is the least that isn't taken
pub record IsEnd (provides : ℕ → ℕ → Type 0) (n : ℕ) (taken : List ℕ) (u : ℕ) : Type 0 where
  pub below : u < n
  pub fresh : is_taken taken u ≡ false
  pub least : (w : ℕ) → w < u → is_taken taken w ≡ true
  pub none_next : (w : ℕ) → IsNext provides n taken w → ⊥

-- after as many terms as can be taken, u is the least that isn't
abbrev pub EndsAt : (ℕ → ℕ → Type 0) → ℕ → List ℕ → List ℕ → ℕ → Type 0
EndsAt provides n taken [] u = IsEnd provides n taken u
EndsAt provides n taken (v ∷ order) u = IsNext provides n taken v × EndsAt provides n (v ∷ taken) order u

-- the terms of the alternative have no order: the leftmost that hasn't run is u
pub record IsStuck (g : Grammar) (at : ℕ × ℕ) (terms : List CoreTerm) (u : ℕ) : Type 0 where
  pub order : List ℕ
  pub ends : EndsAt (Provides g at terms) (length terms) [] order u
