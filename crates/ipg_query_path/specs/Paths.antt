-- Paths over a tree: how they are written, and where a text first isn't one.
use Rattle.std.specs.Prelude.{◌≡◌, ℕ, ◌^◌, ◌≤◌, ◌<◌, Bool, true, ◌||◌, ◌&&◌, ◌==◌, nat_le, List, [], ◌∷◌, ◌++◌, length, decimal, Option, None, Some}
use Rattle.std.specs.List.{flat_map, AllByRecursion}
use Rattle.ipg_reader.specs.Digits.{is_digit}
use Rattle.ipg_query_path.specs.declared.path.Query.{Query}
use Rattle.ipg_query_path.specs.declared.path.Step.{Step}
use Rattle.ipg_query_path.specs.declared.path.Step.TheVariants.{Named, Nth, Children, All}

-- ---- how a path is written

-- `NAME`, `NAME(k)`, `*`, `**`
abbrev pub step_text : Step → List ℕ
step_text (Named name) = name
step_text (Nth name k) = name ++ 40 ∷ (decimal k ++ 41 ∷ [])
step_text Children = 42 ∷ []
step_text All = 42 ∷ 42 ∷ []

-- a step behind another, and its slash
abbrev pub slashed : Step → List ℕ
slashed step = 47 ∷ step_text step

abbrev pub steps_text : List Step → List ℕ
steps_text [] = []
steps_text (step ∷ steps) = step_text step ++ flat_map slashed steps

abbrev pub field_text : Option (List ℕ) → List ℕ
field_text None = []
field_text (Some name) = 46 ∷ name

abbrev pub path_text : Query → List ℕ
path_text query = steps_text query.steps ++ field_text query.field

-- ---- what may stand in it

abbrev pub between : ℕ → ℕ → ℕ → Bool
between low high b = nat_le low b && nat_le b high

abbrev pub is_letter : ℕ → Bool
is_letter b = between 65 90 b || between 97 122 b || b == 95

abbrev pub is_naming : ℕ → Bool
is_naming b = is_letter b || is_digit b

abbrev pub IsNaming : ℕ → Type 0
IsNaming b = is_naming b ≡ true

-- a letter or `_`, then letters, digits and `_`
abbrev pub IsName : List ℕ → Type 0
IsName [] = ⊥
IsName (b ∷ bs) = (is_letter b ≡ true) × AllByRecursion IsNaming bs

abbrev pub IsStep : Step → Type 0
IsStep (Named name) = IsName name
IsStep (Nth name k) = IsName name × (k < 2 ^ 32)
IsStep Children = Unit {0}
IsStep All = Unit {0}

abbrev pub IsField : Option (List ℕ) → Type 0
IsField None = Unit {0}
IsField (Some name) = IsName name

-- one step or more, and a field or none
pub record FitsPath (query : Query) : Type 0 where
  pub some : 1 ≤ length query.steps
  pub steps : AllByRecursion IsStep query.steps
  pub field : IsField query.field

-- the text is that of the path
pub record IsPath (query : Query) (text : List ℕ) : Type 0 where
  pub fits : FitsPath query
  pub written : text ≡ path_text query
