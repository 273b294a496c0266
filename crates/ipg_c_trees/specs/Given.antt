-- A grammar that is given by its text, or by the name of a built-in one.
use Rattle.std.specs.Prelude.{◌≡◌, ◌⊎◌, ℕ, List, Option, Some, None, Ok, Err}
use Rattle.ipg_core.specs.Grammar.{Grammar}
use Rattle.ipg_formats.specs.declared.Kind.{Kind}
use Rattle.ipg_formats.specs.Names.{kind_of}
use Rattle.ipg_formats.specs.Text as built_in
use Rattle.ipg_app_text.specs.Said.{Said}
use Rattle.ipg_app_text.specs.CoreOf.{CoreOf}
use Rattle.ipg_app_grammar.specs.Checks.{Checks}

abbrev pub text_by : Option Kind → List ℕ → List ℕ
text_by (Some kind) given = built_in.text_of kind
text_by None given = given

-- the built-in text of this name, else these bytes
abbrev pub text_of : List ℕ → List ℕ
text_of given = text_by (kind_of given) given

-- the core grammar of the text, by which parsing always ends
pub record IsAccepted (text : List ℕ) (g : Grammar) : Type 0 where
  pub core : CoreOf text (Ok g)
  pub checks : Checks g (Ok g)

-- the text has no core grammar, or one by which parsing may not end
abbrev pub IsRefused : List ℕ → Type 0
IsRefused text = (said : Said) × (CoreOf text (Err said) ⊎ ((g : Grammar) × CoreOf text (Ok g) × Checks g (Err said)))
