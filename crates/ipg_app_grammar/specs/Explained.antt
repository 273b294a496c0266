-- What is said of a grammar for a person: that it is accepted, or where and why it is refused.
use Rattle.std.specs.Prelude.{◌≡◌, ℕ, List, codes, Option, None, Some}
use Rattle.ipg_app_explain.specs.Why.{explained}
use Rattle.ipg_app_text.specs.Said.{Said, done_line}
use Rattle.ipg_app_text.specs.Reasons.{Reason}
use Rattle.ipg_app_grammar.specs.Judged.{Judged}

-- the name is the one under which the text was given
abbrev pub explained_said : (name text : List ℕ) → Option Reason → Said
explained_said name text None = done_line (codes "accepted")
explained_said name text (Some reason) =
    record reason.said { text = explained reason.said.text name text reason.why reason.places reason.notes }

-- what `explain` says of a text
abbrev pub Explains : (name text : List ℕ) → Said → Type 0
Explains name text said = (reason : Option Reason) × Judged text reason × (said ≡ explained_said name text reason)

-- what `explain` says of a text that is refused
abbrev pub Refuses : (name text : List ℕ) → Said → Type 0
Refuses name text said = (reason : Reason) × Judged text (Some reason) × (said ≡ explained_said name text (Some reason))
