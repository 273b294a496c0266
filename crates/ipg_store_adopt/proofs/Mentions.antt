-- What the tests of a term tell: what it names and what it calls.
use Rattle.std.proofs.Common.{◌≡◌, ℕ, not, ◌&&◌, List, length, Option}
use Rattle.std.proofs.Common.{Some, None, slice_get, refl, sym, ap, subst, nat_eq}
use Rattle.std.specs.Bool.{Decides}
use Rattle.std.specs.List.{list_all}
use Rattle.std.proofs.lemmas.Option.{slice_get_within}
use Rattle.std.proofs.lemmas.Bool.Decides.{Decides-and, Decides-or, Decides-not, Decides-like, Decides-eqb, Decides-ltb}
use Rattle.ipg_core.specs.declared.grammar.Sym.{Sym}
use Rattle.ipg_core.specs.declared.grammar.Sym.TheVariants.{Text, Prim, Rule}
use Rattle.ipg_core.specs.declared.grammar.CoreExpr.{CoreExpr}
use Rattle.ipg_core.specs.declared.grammar.CoreSlot.{CoreSlot}
use Rattle.ipg_core.specs.declared.grammar.CoreTerm.{CoreTerm}
use Rattle.ipg_core.specs.declared.grammar.CoreTerm.TheVariants.{Slot, Set, Test, Repeat, Many, Pick}
use Rattle.ipg_core.specs.declared.grammar.CoreRule.{CoreRule}
use Rattle.ipg_core.specs.Grammar.{Grammar, rule_at, holder_of, same_place}
use Rattle.ipg_core.specs.Mention.{Mention, SeenOf, ItemOf, AfterOf, OwnOf, OuterOf, FieldOf, LoopOf, term_mentions, EachSym}
use Rattle.ipg_core.specs.Good.{HasItems, IsSlotOrSwitch, IsSym, MayCall, IsCallable, IsGoodMention, IsItemSym, IsGoodShape, GoodTerm}
use Rattle.ipg_store_adopt.specs.WellFormed.{has_items, is_slot_or_switch, is_sym, has_holder, may_call, may_call_rule, is_callable, calls_well}
use Rattle.ipg_store_adopt.specs.WellFormed.{is_good_mention, is_item_sym, is_good_shape, is_good_term}
use Rattle.ipg_store_adopt.proofs.Tests.{never, always, some_same, there, same_place_tells, all_tells}
use Rattle.ipg_store_adopt.proofs.Attributes.{some_tells, holder_sets_tells}

-- ---- terms that are named

items_tells : (o : Option CoreTerm) → Decides (has_items o) (HasItems o)
items_tells None = never (λ h. h)
items_tells (Some (Repeat first last item from to)) = always tt
items_tells (Some (Many item from to)) = always tt
items_tells (Some (Slot slot)) = never (λ h. h)
items_tells (Some (Set attr e)) = never (λ h. h)
items_tells (Some (Test e)) = never (λ h. h)
items_tells (Some (Pick cases other)) = never (λ h. h)

slot_tells : (o : Option CoreTerm) → Decides (is_slot_or_switch o) (IsSlotOrSwitch o)
slot_tells None = never (λ h. h)
slot_tells (Some (Slot slot)) = always tt
slot_tells (Some (Pick cases other)) = always tt
slot_tells (Some (Set attr e)) = never (λ h. h)
slot_tells (Some (Test e)) = never (λ h. h)
slot_tells (Some (Repeat first last item from to)) = never (λ h. h)
slot_tells (Some (Many item from to)) = never (λ h. h)

sym_tells : (g : Grammar) (s : Sym) → Decides (is_sym g s) (IsSym g s)
sym_tells g (Rule r) = Decides-ltb r (length g.rules)
sym_tells g (Text bytes) = always tt
sym_tells g (Prim prim) = always tt

item_sym_tells : (s : Sym) → Decides (is_item_sym s) (IsItemSym s)
item_sym_tells (Rule r) = always tt
item_sym_tells (Text bytes) = never (λ h. h)
item_sym_tells (Prim prim) = always tt

shape_tells : (g : Grammar) (t : CoreTerm) → Decides (is_good_shape g t) (IsGoodShape g t)
shape_tells g (Set attr e) = Decides-ltb attr (length g.names)
shape_tells g (Repeat first last item from to) = item_sym_tells item
shape_tells g (Many item from to) = item_sym_tells item
shape_tells g (Slot slot) = always tt
shape_tells g (Test e) = always tt
shape_tells g (Pick cases other) = always tt

mention_tells : (g : Grammar) (holder : Option (ℕ × ℕ)) (terms : List CoreTerm) (u : ℕ) (m : Mention)
    → Decides (is_good_mention g holder terms u m) (IsGoodMention g holder terms u m)
mention_tells g holder terms u (SeenOf term s) =
    Decides-and (is_slot_or_switch (slice_get terms term)) (is_sym g s) (slot_tells (slice_get terms term)) (sym_tells g s)
mention_tells g holder terms u (ItemOf term) = items_tells (slice_get terms term)
mention_tells g holder terms u (AfterOf term) =
    Decides-and (has_items (slice_get terms term)) (not (nat_eq term u)) (items_tells (slice_get terms term))
    (Decides-not (nat_eq term u) (Decides-eqb term u))
mention_tells g holder terms u (OwnOf attr) = some_tells terms attr
mention_tells g holder terms u (OuterOf attr) = holder_sets_tells g holder attr
mention_tells g holder terms u (FieldOf attr) = Decides-ltb attr (length g.names)
mention_tells g holder terms u LoopOf = always tt

-- ---- rules that are called

has_holder_tells : (holder : Option (ℕ × ℕ)) (h : ℕ × ℕ) → Decides (has_holder holder h) (holder ≡ Some h)
has_holder_tells None h = never (λ e. absurd (cc))
has_holder_tells (Some o) h = Decides-like (same_place o h) (λ e. ap Some e) (λ e. some_same o h e) (same_place_tells o h)

may_call_tells : (at : ℕ × ℕ) (holder other : Option (ℕ × ℕ)) → Decides (may_call at holder other) (MayCall at holder other)
may_call_tells at holder None = always tt
may_call_tells at holder (Some h) =
    Decides-or (same_place h at) (has_holder holder h) (same_place_tells h at) (has_holder_tells holder h)

module _ (g : Grammar) (at : ℕ × ℕ) (holder : Option (ℕ × ℕ)) where
  rule_tells : (r : ℕ) (o : Option CoreRule) → rule_at g r ≡ o → Decides (may_call_rule at holder o) (IsCallable g at holder (Rule r))
  rule_tells r None e = never (λ h. let k = (there g.rules r h.0).1 in absurd (cc))
  rule_tells r (Some rule) e =
      Decides-like (may_call at holder rule.holder)
      (λ m. (slice_get_within g.rules r rule e, subst (λ o. MayCall at holder (holder_of o)) (sym e) m))
      (λ h. subst (λ o. MayCall at holder (holder_of o)) e h.1)
      (may_call_tells at holder rule.holder)

  callable_tells : (s : Sym) → Decides (is_callable g at holder s) (IsCallable g at holder s)
  callable_tells (Rule r) = rule_tells r (rule_at g r) refl
  callable_tells (Text bytes) = always tt
  callable_tells (Prim prim) = always tt

  calls_tell : (t : CoreTerm) → Decides (calls_well g at holder t) (EachSym (IsCallable g at holder) t)
  calls_tell (Slot slot) = callable_tells slot.sym
  calls_tell (Set attr e) = always tt
  calls_tell (Test e) = always tt
  calls_tell (Repeat first last item from to) = callable_tells item
  calls_tell (Many item from to) = callable_tells item
  calls_tell (Pick cases other) =
      let test = λ (c : CoreExpr × CoreSlot). is_callable g at holder c.1.sym in
      Decides-and (list_all test cases) (is_callable g at holder other.sym)
      (all_tells test (λ c. IsCallable g at holder c.1.sym) (λ c. callable_tells c.1.sym) cases)
      (callable_tells other.sym)

-- ---- a term

pub term_tells : (g : Grammar) (at : ℕ × ℕ) (holder : Option (ℕ × ℕ)) (terms : List CoreTerm) (u : ℕ) (t : CoreTerm)
    → Decides (is_good_term g at holder terms u t) (GoodTerm g at holder terms u t)
term_tells g at holder terms u t =
    let names = is_good_mention g holder terms u in
    Decides-like (is_good_term g at holder terms u t)
    (λ h. record { shape = h.0; syms = h.1.0; mentions = h.1.1 })
    (λ r. (r.shape, (r.syms, r.mentions)))
    (Decides-and (is_good_shape g t) (calls_well g at holder t && list_all names (term_mentions t)) (shape_tells g t)
    (Decides-and (calls_well g at holder t) (list_all names (term_mentions t))
    (calls_tell g at holder t)
    (all_tells names (IsGoodMention g holder terms u) (mention_tells g holder terms u) (term_mentions t))))
