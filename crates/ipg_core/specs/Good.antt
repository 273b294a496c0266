-- When a core grammar is good: what holds of each one that was resolved, completed and ordered.
use Rattle.std.specs.Prelude.{◌≡◌, ◌≢◌, ℕ, ◌+◌, ◌^◌, ◌<◌, ◌≤◌, List, [], Option, Some, None, slice_get, sum_by, length, bytes_eq, ◌⊎◌}
use Rattle.std.specs.List.{AllByRecursion, IsDistinct}
use Rattle.ipg_core.specs.declared.grammar.Sym.{Sym}
use Rattle.ipg_core.specs.declared.grammar.Sym.TheVariants.{Text, Prim, Rule}
use Rattle.ipg_core.specs.declared.grammar.CoreTerm.{CoreTerm}
use Rattle.ipg_core.specs.declared.grammar.CoreTerm.TheVariants.{Slot, Set, Test, Repeat, Many, Pick}
use Rattle.ipg_core.specs.declared.grammar.CoreAlt.{CoreAlt}
use Rattle.ipg_core.specs.declared.grammar.CoreRule.{CoreRule}
use Rattle.ipg_core.specs.Grammar.{Grammar, rule_at, holder_of}
use Rattle.ipg_core.specs.Mention.{Mention, SeenOf, ItemOf, AfterOf, OwnOf, OuterOf, FieldOf, LoopOf, term_mentions, EachSym}
use Rattle.ipg_core.specs.Order.{Sets, Provides, InOrder}

-- an alternative of a rule, with where it stands
pub record AltAt (g : Grammar) (rule : CoreRule) (alt : CoreAlt) (at : ℕ × ℕ) : Type 0 where
  pub is_rule : rule_at g at.0 ≡ Some rule
  pub is_alt : slice_get rule.alts at.1 ≡ Some alt

-- the alternative sets the attribute
abbrev pub SetsSome : List CoreTerm → ℕ → Type 0
SetsSome terms attr = (v : ℕ) × Sets terms v attr

-- the holder, which is an alternative, sets the attribute
abbrev pub HolderSets : Grammar → Option (ℕ × ℕ) → ℕ → Type 0
HolderSets g None attr = ⊥
HolderSets g (Some holder) attr = (rule : CoreRule) × (alt : CoreAlt) × AltAt g rule alt holder × SetsSome alt.terms attr

-- an array or a repetition
abbrev pub HasItems : Option CoreTerm → Type 0
HasItems (Some (Repeat first last item from to)) = Unit {0}
HasItems (Some (Many item from to)) = Unit {0}
HasItems _ = ⊥

abbrev pub IsSlotOrSwitch : Option CoreTerm → Type 0
IsSlotOrSwitch (Some (Slot slot)) = Unit {0}
IsSlotOrSwitch (Some (Pick cases other)) = Unit {0}
IsSlotOrSwitch _ = ⊥

-- the symbol names a rule of the grammar, if it names one
abbrev pub IsSym : Grammar → Sym → Type 0
IsSym g (Rule r) = r < length g.rules
IsSym g (Text bytes) = Unit {0}
IsSym g (Prim prim) = Unit {0}

-- a local rule is called only in its holder or in a rule of the same holder
abbrev pub MayCall : ℕ × ℕ → Option (ℕ × ℕ) → Option (ℕ × ℕ) → Type 0
MayCall at holder None = Unit {0}
MayCall at holder (Some h) = (h ≡ at) ⊎ (holder ≡ Some h)

-- a symbol that a term of the alternative may parse
abbrev pub IsCallable : Grammar → ℕ × ℕ → Option (ℕ × ℕ) → Sym → Type 0
IsCallable g at holder (Rule r) = (r < length g.rules) × MayCall at holder (holder_of (rule_at g r))
IsCallable g at holder (Text bytes) = Unit {0}
IsCallable g at holder (Prim prim) = Unit {0}

-- what the term u of an alternative with that holder may name
abbrev pub IsGoodMention : Grammar → Option (ℕ × ℕ) → List CoreTerm → ℕ → Mention → Type 0
IsGoodMention g holder terms u (SeenOf term sym) = IsSlotOrSwitch (slice_get terms term) × IsSym g sym
IsGoodMention g holder terms u (ItemOf term) = HasItems (slice_get terms term)
IsGoodMention g holder terms u (AfterOf term) = HasItems (slice_get terms term) × (term ≢ u)
IsGoodMention g holder terms u (OwnOf attr) = SetsSome terms attr
IsGoodMention g holder terms u (OuterOf attr) = HolderSets g holder attr
IsGoodMention g holder terms u (FieldOf attr) = attr < length g.names
IsGoodMention g holder terms u LoopOf = Unit {0}

-- items are of no terminal
abbrev pub IsItemSym : Sym → Type 0
IsItemSym (Text bytes) = ⊥
IsItemSym (Prim prim) = Unit {0}
IsItemSym (Rule r) = Unit {0}

-- an attribute that a term sets has a name; an array or a repetition is of no terminal
abbrev pub IsGoodShape : Grammar → CoreTerm → Type 0
IsGoodShape g (Slot slot) = Unit {0}
IsGoodShape g (Set attr e) = attr < length g.names
IsGoodShape g (Test e) = Unit {0}
IsGoodShape g (Repeat first last item from to) = IsItemSym item
IsGoodShape g (Many item from to) = IsItemSym item
IsGoodShape g (Pick cases other) = Unit {0}

pub record GoodTerm (g : Grammar) (at : ℕ × ℕ) (holder : Option (ℕ × ℕ)) (terms : List CoreTerm) (u : ℕ) (term : CoreTerm) : Type 0 where
  pub shape : IsGoodShape g term
  pub syms : EachSym (IsCallable g at holder) term
  pub mentions : AllByRecursion (IsGoodMention g holder terms u) (term_mentions term)

pub record GoodAlt (g : Grammar) (at : ℕ × ℕ) (holder : Option (ℕ × ℕ)) (alt : CoreAlt) : Type 0 where
  pub some : 0 < length alt.terms
  pub limit : length alt.terms ≤ 256
  pub sets_once : (attr u v : ℕ) → Sets alt.terms u attr → Sets alt.terms v attr → u ≡ v
  pub terms : (u : ℕ) (term : CoreTerm) → slice_get alt.terms u ≡ Some term → GoodTerm g at holder alt.terms u term

pub record GoodRule (rule : CoreRule) : Type 0 where
  pub some : 0 < length rule.alts
  pub limit : length rule.alts ≤ 64

-- a holder is an alternative of a global rule
abbrev pub IsGlobalAlt : Grammar → ℕ × ℕ → Type 0
IsGlobalAlt g at = (rule : CoreRule) × (alt : CoreAlt) × AltAt g rule alt at × (rule.holder ≡ None)

-- how many slots, arrays, repetitions and branches of switches a term has
abbrev pub slots_in : CoreTerm → ℕ
slots_in (Slot slot) = 1
slots_in (Set attr e) = 0
slots_in (Test e) = 0
slots_in (Repeat first last item from to) = 1
slots_in (Many item from to) = 1
slots_in (Pick cases other) = length cases + 1

abbrev pub slots_of : Grammar → ℕ
slots_of g = sum_by (λ rule. sum_by (λ alt. sum_by slots_in alt.terms) rule.alts) g.rules

-- what holds once references are resolved and intervals complete, whatever the orders of terms
pub record WellFormed (g : Grammar) : Type 0 where
  pub first : (rule : CoreRule) × (rule_at g 0 ≡ Some rule) × (rule.holder ≡ None)
  pub limit : length g.rules ≤ 1024
  pub rules : (r : ℕ) (rule : CoreRule) → rule_at g r ≡ Some rule → GoodRule rule
  pub alts : (at : ℕ × ℕ) (rule : CoreRule) (alt : CoreAlt) → AltAt g rule alt at → GoodAlt g at rule.holder alt
  pub holders : (r : ℕ) (holder : ℕ × ℕ) → holder_of (rule_at g r) ≡ Some holder → IsGlobalAlt g holder
  pub few_names : length g.names < 2 ^ 32
  pub names_differ : IsDistinct bytes_eq g.names
  pub few_slots : slots_of g < 2 ^ 32

-- the alternative runs its terms in their order
abbrev pub IsOrdered : Grammar → ℕ × ℕ → CoreAlt → Type 0
IsOrdered g at alt = InOrder (Provides g at alt.terms) (length alt.terms) [] alt.order

pub record Good (g : Grammar) : Type 0 where
  pub well_formed : WellFormed g
  pub ordered : (at : ℕ × ℕ) (rule : CoreRule) (alt : CoreAlt) → AltAt g rule alt at → IsOrdered g at alt
