-- What a local rule reads of its holder: the terms that set the attributes which it mentions, itself or through calls.
use Rattle.std.specs.Prelude.{ℕ, ◌+◌, ◌≤◌, List, [], ◌∷◌, ◌++◌, length, flat_map, option_map, option_to_list, Option, Some, None, Bool, true, false}
use Rattle.std.specs.Prelude.{nat_eq, if◌then◌else◌, slice_get}
use Rattle.std.specs.List.{AllByRecursion}
use Rattle.ipg_core.specs.declared.grammar.Sym.{Sym}
use Rattle.ipg_core.specs.declared.grammar.Sym.TheVariants as syms
use Rattle.ipg_core.specs.declared.grammar.CoreTerm.{CoreTerm}
use Rattle.ipg_core.specs.declared.grammar.CoreTerm.TheVariants.{Slot, Set, Test, Repeat, Many, Pick}
use Rattle.ipg_core.specs.Mention.{term_mentions, term_syms}
use Rattle.ipg_complete.specs.declared.completed.CompletedAlt.{CompletedAlt}
use Rattle.ipg_complete.specs.declared.completed.CompletedRule.{CompletedRule}
use Rattle.ipg_order.specs.declared.named.Named.{Named}
use Rattle.ipg_order.specs.declared.named.Named.TheVariants.{Term, Own, Outer}
use Rattle.ipg_order.specs.declared.closure.Hand.{Hand}
use Rattle.ipg_order.specs.Named.{named}
use Rattle.ipg_order.specs.Closure.{flag}

abbrev pub sets : CoreTerm → ℕ → Bool
sets (Set a e) attr = nat_eq a attr
sets (Slot slot) attr = false
sets (Test e) attr = false
sets (Repeat first last item from to) attr = false
sets (Many item from to) attr = false
sets (Pick cases other) attr = false

-- the first of the terms, numbered from n on, that sets the attribute
abbrev pub setter : ℕ → List CoreTerm → ℕ → Option ℕ
setter n [] attr = None
setter n (term ∷ terms) attr = if sets term attr then Some n else setter (n + 1) terms attr

abbrev pub terms_in : Option CompletedAlt → List CoreTerm
terms_in None = []
terms_in (Some alt) = alt.terms

abbrev pub terms_of : List CompletedAlt → ℕ → List CoreTerm
terms_of alts alt = terms_in (slice_get alts alt)

abbrev pub terms_of_rule : Option CompletedRule → ℕ → List CoreTerm
terms_of_rule None alt = []
terms_of_rule (Some rule) alt = terms_of rule.alts alt

-- the terms of the alternative at a place
abbrev pub terms_at : List CompletedRule → ℕ × ℕ → List CoreTerm
terms_at rules at = terms_of_rule (slice_get rules at.0) at.1

-- ---- what each rule reads itself, as places of flags

abbrev pub name_keys : List CoreTerm → ℕ → Named → List ℕ
name_keys terms rule (Term t) = []
name_keys terms rule (Own attr) = []
name_keys terms rule (Outer attr) = option_to_list (option_map (flag rule) (setter 0 terms attr))

abbrev pub term_keys : List CoreTerm → ℕ → CoreTerm → List ℕ
term_keys terms rule term = flat_map (name_keys terms rule) (flat_map named (term_mentions term))

abbrev pub alt_keys : List CoreTerm → ℕ → CompletedAlt → List ℕ
alt_keys terms rule alt = flat_map (term_keys terms rule) alt.terms

abbrev pub keys_under : List CompletedRule → ℕ → Option (ℕ × ℕ) → List CompletedAlt → List ℕ
keys_under rules rule None alts = []
keys_under rules rule (Some holder) alts = flat_map (alt_keys (terms_at rules holder) rule) alts

abbrev pub rule_keys : List CompletedRule → ℕ → CompletedRule → List ℕ
rule_keys rules r rule = keys_under rules r rule.holder rule.alts

-- what f gives of each item and its number, one behind another; the first number is n
abbrev pub numbered : {A B : Type 0} → ℕ → (ℕ → A → List B) → List A → List B
numbered n f [] = []
numbered n f (x ∷ xs) = f n x ++ numbered (n + 1) f xs

abbrev pub all_keys : List CompletedRule → List ℕ
all_keys rules = numbered 0 (rule_keys rules) rules

-- ---- calls of local rules by local rules

abbrev pub is_some : Option (ℕ × ℕ) → Bool
is_some None = false
is_some (Some holder) = true

abbrev pub is_local : Option CompletedRule → Bool
is_local None = false
is_local (Some rule) = is_some rule.holder

abbrev pub hands_to : List CompletedRule → ℕ → ℕ → List Hand
hands_to rules rule callee = if is_local (slice_get rules callee) then record { caller = rule; callee = callee } ∷ [] else []

abbrev pub sym_hands : List CompletedRule → ℕ → Sym → List Hand
sym_hands rules rule (syms.Text bytes) = []
sym_hands rules rule (syms.Prim prim) = []
sym_hands rules rule (syms.Rule callee) = hands_to rules rule callee

abbrev pub term_hands : List CompletedRule → ℕ → CoreTerm → List Hand
term_hands rules rule term = flat_map (sym_hands rules rule) (term_syms term)

abbrev pub alt_hands : List CompletedRule → ℕ → CompletedAlt → List Hand
alt_hands rules rule alt = flat_map (term_hands rules rule) alt.terms

abbrev pub hands_under : List CompletedRule → ℕ → Option (ℕ × ℕ) → List CompletedAlt → List Hand
hands_under rules rule None alts = []
hands_under rules rule (Some holder) alts = flat_map (alt_hands rules rule) alts

abbrev pub rule_hands : List CompletedRule → ℕ → CompletedRule → List Hand
rule_hands rules r rule = hands_under rules r rule.holder rule.alts

abbrev pub all_hands : List CompletedRule → List Hand
all_hands rules = numbered 0 (rule_hands rules) rules

-- that alternatives have at most 256 terms
pub record IsFew (rules : List CompletedRule) : Type 0 where
  pub count : length rules ≤ 1024
  pub each : AllByRecursion (λ rule. AllByRecursion (λ alt. length alt.terms ≤ 256) rule.alts) rules
