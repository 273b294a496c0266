-- A test of whether a grammar is well formed, word by word as `WellFormed` has it.
use Rattle.std.specs.Prelude.{ℕ, ◌^◌, ◌+◌, List, [], ◌∷◌, length, Option, Some, None, Bool, true, false, not, ◌&&◌, ◌||◌}
use Rattle.std.specs.Prelude.{nat_eq, nat_lt, nat_le, slice_get, bytes_eq}
use Rattle.std.specs.List.{list_all, list_any, sum_by}
use Rattle.ipg_core.specs.declared.grammar.Sym.{Sym}
use Rattle.ipg_core.specs.declared.grammar.Sym.TheVariants.{Text, Prim, Rule}
use Rattle.ipg_core.specs.declared.grammar.CoreTerm.{CoreTerm}
use Rattle.ipg_core.specs.declared.grammar.CoreTerm.TheVariants.{Slot, Set, Test, Repeat, Many, Pick}
use Rattle.ipg_core.specs.declared.grammar.CoreAlt.{CoreAlt}
use Rattle.ipg_core.specs.declared.grammar.CoreRule.{CoreRule}
use Rattle.ipg_core.specs.Grammar.{Grammar, rule_at, same_place}
use Rattle.ipg_core.specs.Mention.{Mention, SeenOf, ItemOf, AfterOf, OwnOf, OuterOf, FieldOf, LoopOf, term_mentions}
use Rattle.ipg_core.specs.Good.{slots_in}

-- the test passes for each item, of which the first has the number n
abbrev pub all_from : {X : Type 0} → (ℕ → X → Bool) → ℕ → List X → Bool
all_from test n [] = true
all_from test n (x ∷ xs) = test n x && all_from test (n + 1) xs

-- ---- attributes that are set

abbrev pub sets_attr : ℕ → CoreTerm → Bool
sets_attr attr (Set a e) = nat_eq a attr
sets_attr attr (Slot slot) = false
sets_attr attr (Test e) = false
sets_attr attr (Repeat first last item from to) = false
sets_attr attr (Many item from to) = false
sets_attr attr (Pick cases other) = false

abbrev pub sets_some : List CoreTerm → ℕ → Bool
sets_some terms attr = list_any (sets_attr attr) terms

-- a term behind this one sets the attribute that it sets
abbrev pub sets_again : CoreTerm → List CoreTerm → Bool
sets_again (Set attr e) behind = sets_some behind attr
sets_again (Slot slot) behind = false
sets_again (Test e) behind = false
sets_again (Repeat first last item from to) behind = false
sets_again (Many item from to) behind = false
sets_again (Pick cases other) behind = false

abbrev pub sets_once : List CoreTerm → Bool
sets_once [] = true
sets_once (term ∷ behind) = not (sets_again term behind) && sets_once behind

-- ---- places of alternatives

-- the terms of an alternative of a rule; none where there is no such alternative
abbrev pub terms_or_none : Option CoreAlt → List CoreTerm
terms_or_none None = []
terms_or_none (Some alt) = alt.terms

abbrev pub terms_in : Option CoreRule → ℕ → List CoreTerm
terms_in None a = []
terms_in (Some rule) a = terms_or_none (slice_get rule.alts a)

abbrev pub terms_at : Grammar → ℕ × ℕ → List CoreTerm
terms_at g at = terms_in (rule_at g at.0) at.1

abbrev pub holder_sets : Grammar → Option (ℕ × ℕ) → ℕ → Bool
holder_sets g None attr = false
holder_sets g (Some holder) attr = sets_some (terms_at g holder) attr

abbrev pub is_global : Option (ℕ × ℕ) → Bool
is_global None = true
is_global (Some holder) = false

-- the rule is global and has an alternative of that number
abbrev pub has_global_alt : Option CoreRule → ℕ → Bool
has_global_alt None a = false
has_global_alt (Some rule) a = nat_lt a (length rule.alts) && is_global rule.holder

abbrev pub is_holder : Grammar → Option (ℕ × ℕ) → Bool
is_holder g None = true
is_holder g (Some at) = has_global_alt (rule_at g at.0) at.1

-- ---- what a term names

abbrev pub has_items : Option CoreTerm → Bool
has_items None = false
has_items (Some (Repeat first last item from to)) = true
has_items (Some (Many item from to)) = true
has_items (Some (Slot slot)) = false
has_items (Some (Set attr e)) = false
has_items (Some (Test e)) = false
has_items (Some (Pick cases other)) = false

abbrev pub is_slot_or_switch : Option CoreTerm → Bool
is_slot_or_switch None = false
is_slot_or_switch (Some (Slot slot)) = true
is_slot_or_switch (Some (Pick cases other)) = true
is_slot_or_switch (Some (Set attr e)) = false
is_slot_or_switch (Some (Test e)) = false
is_slot_or_switch (Some (Repeat first last item from to)) = false
is_slot_or_switch (Some (Many item from to)) = false

abbrev pub is_sym : Grammar → Sym → Bool
is_sym g (Rule r) = nat_lt r (length g.rules)
is_sym g (Text bytes) = true
is_sym g (Prim prim) = true

abbrev pub has_holder : Option (ℕ × ℕ) → ℕ × ℕ → Bool
has_holder None at = false
has_holder (Some holder) at = same_place holder at

abbrev pub may_call : ℕ × ℕ → Option (ℕ × ℕ) → Option (ℕ × ℕ) → Bool
may_call at holder None = true
may_call at holder (Some h) = same_place h at || has_holder holder h

abbrev pub may_call_rule : ℕ × ℕ → Option (ℕ × ℕ) → Option CoreRule → Bool
may_call_rule at holder None = false
may_call_rule at holder (Some rule) = may_call at holder rule.holder

abbrev pub is_callable : Grammar → ℕ × ℕ → Option (ℕ × ℕ) → Sym → Bool
is_callable g at holder (Rule r) = may_call_rule at holder (rule_at g r)
is_callable g at holder (Text bytes) = true
is_callable g at holder (Prim prim) = true

-- each symbol that the term parses may be parsed there
abbrev pub calls_well : Grammar → ℕ × ℕ → Option (ℕ × ℕ) → CoreTerm → Bool
calls_well g at holder (Slot slot) = is_callable g at holder slot.sym
calls_well g at holder (Set attr e) = true
calls_well g at holder (Test e) = true
calls_well g at holder (Repeat first last item from to) = is_callable g at holder item
calls_well g at holder (Many item from to) = is_callable g at holder item
calls_well g at holder (Pick cases other) = list_all (λ c. is_callable g at holder c.1.sym) cases && is_callable g at holder other.sym

-- what the term u of an alternative with that holder may name
abbrev pub is_good_mention : Grammar → Option (ℕ × ℕ) → List CoreTerm → ℕ → Mention → Bool
is_good_mention g holder terms u (SeenOf term sym) = is_slot_or_switch (slice_get terms term) && is_sym g sym
is_good_mention g holder terms u (ItemOf term) = has_items (slice_get terms term)
is_good_mention g holder terms u (AfterOf term) = has_items (slice_get terms term) && not (nat_eq term u)
is_good_mention g holder terms u (OwnOf attr) = sets_some terms attr
is_good_mention g holder terms u (OuterOf attr) = holder_sets g holder attr
is_good_mention g holder terms u (FieldOf attr) = nat_lt attr (length g.names)
is_good_mention g holder terms u LoopOf = true

-- ---- terms, alternatives, rules

abbrev pub is_item_sym : Sym → Bool
is_item_sym (Text bytes) = false
is_item_sym (Prim prim) = true
is_item_sym (Rule r) = true

abbrev pub is_good_shape : Grammar → CoreTerm → Bool
is_good_shape g (Slot slot) = true
is_good_shape g (Set attr e) = nat_lt attr (length g.names)
is_good_shape g (Test e) = true
is_good_shape g (Repeat first last item from to) = is_item_sym item
is_good_shape g (Many item from to) = is_item_sym item
is_good_shape g (Pick cases other) = true

abbrev pub is_good_term : Grammar → ℕ × ℕ → Option (ℕ × ℕ) → List CoreTerm → ℕ → CoreTerm → Bool
is_good_term g at holder terms u term =
    is_good_shape g term
    && (calls_well g at holder term && list_all (is_good_mention g holder terms u) (term_mentions term))

-- it has terms, and not too many, of which no two set one attribute
abbrev pub is_small_alt : CoreAlt → Bool
is_small_alt alt = nat_lt 0 (length alt.terms) && (nat_le (length alt.terms) 256 && sets_once alt.terms)

abbrev pub has_small_alts : CoreRule → Bool
has_small_alts rule = list_all is_small_alt rule.alts

abbrev pub has_good_terms : Grammar → ℕ × ℕ → Option (ℕ × ℕ) → CoreAlt → Bool
has_good_terms g at holder alt = all_from (is_good_term g at holder alt.terms) 0 alt.terms

abbrev pub has_good_alts : Grammar → ℕ → CoreRule → Bool
has_good_alts g r rule = all_from (λ a alt. has_good_terms g (r, a) rule.holder alt) 0 rule.alts

abbrev pub is_good_rule : CoreRule → Bool
is_good_rule rule = nat_lt 0 (length rule.alts) && nat_le (length rule.alts) 64

-- ---- the whole

abbrev pub starts_global : List CoreRule → Bool
starts_global [] = false
starts_global (rule ∷ rules) = is_global rule.holder

-- no name stands twice
abbrev pub all_differ : List (List ℕ) → Bool
all_differ [] = true
all_differ (name ∷ names) = not (list_any (bytes_eq name) names) && all_differ names

-- what is asked of the rules
abbrev pub has_good_rules : Grammar → Bool
has_good_rules g =
    starts_global g.rules
    && (nat_le (length g.rules) 1024
    && (list_all is_good_rule g.rules
    && (list_all has_small_alts g.rules
    && (all_from (has_good_alts g) 0 g.rules && list_all (λ rule. is_holder g rule.holder) g.rules))))

abbrev pub has_few_slots : List CoreRule → Bool
has_few_slots rules = nat_lt (sum_by (λ rule. sum_by (λ alt. sum_by slots_in alt.terms) rule.alts) rules) (2 ^ 32)

abbrev pub is_well_formed : Grammar → Bool
is_well_formed g = has_good_rules g && (nat_lt (length g.names) (2 ^ 32) && (has_few_slots g.rules && all_differ g.names))
