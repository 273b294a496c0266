-- The first loose repetition, in words: it names raw bytes, or a rule that isn't marked, and none before it does.
use Rattle.std.specs.Prelude.{◌≡◌, ℕ, ◌<◌, ◌⊎◌, ◌↔◌, List, [], false, Some, None, slice_get}
use Rattle.ipg_core.specs.declared.grammar.Primitive.TheVariants.{Bytes}
use Rattle.ipg_core.specs.declared.grammar.Sym.{Sym}
use Rattle.ipg_core.specs.declared.grammar.Sym.TheVariants.{Text, Prim, Rule}
use Rattle.ipg_core.specs.declared.grammar.CoreTerm.{CoreTerm}
use Rattle.ipg_core.specs.declared.grammar.CoreTerm.TheVariants.{Many}
use Rattle.ipg_core.specs.declared.grammar.CoreAlt.{CoreAlt}
use Rattle.ipg_core.specs.declared.grammar.CoreRule.{CoreRule}
use Rattle.ipg_core.specs.MustTouch.{Marks, is_marked}
use Rattle.ipg_touch.specs.Loose.{loose}

-- a term of the rules, by the numbers of its rule, of its alternative and its own
pub record TermAt (rules : List CoreRule) (term : CoreTerm) (at : ℕ × ℕ × ℕ) : Type 0 where
  pub rule : CoreRule
  pub alt : CoreAlt
  pub is_rule : slice_get rules at.0 ≡ Some rule
  pub is_alt : slice_get rule.alts at.1 ≡ Some alt
  pub is_term : slice_get alt.terms at.2 ≡ Some term

-- the symbol may be parsed and touch no byte: raw bytes, a rule that isn't marked, or an empty terminal
abbrev pub MayNotTouch : Marks → Sym → Type 0
MayNotTouch marks (Text bytes) = bytes ≡ []
MayNotTouch marks (Prim prim) = prim ≡ Bytes
MayNotTouch marks (Rule rule) = is_marked marks rule ≡ false

-- a repetition of such a symbol
abbrev pub IsLoose : Marks → CoreTerm → Type 0
IsLoose marks (Many item from to) = MayNotTouch marks item
IsLoose marks _ = ⊥

-- the place is before the other one, in the order of the text
abbrev pub IsEarlier : ℕ × ℕ × ℕ → ℕ × ℕ × ℕ → Type 0
IsEarlier at to = (at.0 < to.0) ⊎ ((at.0 ≡ to.0) × ((at.1 < to.1) ⊎ ((at.1 ≡ to.1) × (at.2 < to.2))))

pub record IsFirstLoose (marks : Marks) (rules : List CoreRule) (at : ℕ × ℕ × ℕ) : Type 0 where
  pub term : CoreTerm
  pub there : TermAt rules term at
  pub loose : IsLoose marks term
  pub before : (to : ℕ × ℕ × ℕ) (other : CoreTerm) → IsEarlier to at → TermAt rules other to → IsLoose marks other → ⊥

-- no repetition is loose
abbrev pub IsTight : Marks → List CoreRule → Type 0
IsTight marks rules = (at : ℕ × ℕ × ℕ) (term : CoreTerm) → TermAt rules term at → IsLoose marks term → ⊥

-- the search finds the first, exactly where there is one
pub record LooseIsFirst : Type 0 where
  pub first : (marks : Marks) (rules : List CoreRule) (at : ℕ × ℕ × ℕ) → (loose marks rules ≡ Some at) ↔ IsFirstLoose marks rules at
  pub none : (marks : Marks) (rules : List CoreRule) → (loose marks rules ≡ None) ↔ IsTight marks rules
