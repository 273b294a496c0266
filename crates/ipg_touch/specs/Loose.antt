-- The first repetition whose items may touch no byte: it names raw bytes, or a rule that isn't marked.
use Rattle.std.specs.Prelude.{ℕ, ◌+◌, List, [], ◌∷◌, Option, Some, None, Bool, false, not, if◌then◌else◌}
use Rattle.ipg_core.specs.declared.grammar.CoreTerm.{CoreTerm}
use Rattle.ipg_core.specs.declared.grammar.CoreTerm.TheVariants.{Slot, Set, Test, Repeat, Many, Pick}
use Rattle.ipg_core.specs.declared.grammar.CoreAlt.{CoreAlt}
use Rattle.ipg_core.specs.declared.grammar.CoreRule.{CoreRule}
use Rattle.ipg_core.specs.MustTouch.{Marks, sym_marked}

abbrev pub is_loose : Marks → CoreTerm → Bool
is_loose marks (Many item from to) = not (sym_marked marks item)
is_loose marks (Slot slot) = false
is_loose marks (Set attr e) = false
is_loose marks (Test e) = false
is_loose marks (Repeat first last item from to) = false
is_loose marks (Pick cases other) = false

-- what is found in the item at hand, with its number; else what is found behind it
abbrev pub or_later : {B : Type 0} → ℕ → Option B → Option (ℕ × B) → Option (ℕ × B)
or_later n None later = later
or_later n (Some found) later = Some (n, found)

-- the first such term, alternative and rule, numbered from n on
abbrev pub loose_term : Marks → ℕ → List CoreTerm → Option ℕ
loose_term marks n [] = None
loose_term marks n (term ∷ terms) = if is_loose marks term then Some n else loose_term marks (n + 1) terms

abbrev pub loose_alt : Marks → ℕ → List CoreAlt → Option (ℕ × ℕ)
loose_alt marks n [] = None
loose_alt marks n (alt ∷ alts) = or_later n (loose_term marks 0 alt.terms) (loose_alt marks (n + 1) alts)

-- rule, alternative and term
abbrev pub placed : Option (ℕ × (ℕ × ℕ)) → Option (ℕ × ℕ × ℕ)
placed None = None
placed (Some at) = Some (at.0, at.1.0, at.1.1)

abbrev pub loose_rule : Marks → ℕ → List CoreRule → Option (ℕ × (ℕ × ℕ))
loose_rule marks n [] = None
loose_rule marks n (rule ∷ rules) = or_later n (loose_alt marks 0 rule.alts) (loose_rule marks (n + 1) rules)

abbrev pub loose : Marks → List CoreRule → Option (ℕ × ℕ × ℕ)
loose marks rules = placed (loose_rule marks 0 rules)
