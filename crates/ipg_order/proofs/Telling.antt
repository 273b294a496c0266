-- Flags that are reached are those of the terms that a local rule waits for.
use Rattle.std.proofs.Common.{◌≡◌, ℕ, zero, suc, ◌+◌, ◌<◌, ◌≤◌, refl, sym, ap, ◌∙◌, subst, arith, List, [], ◌∷◌, Option, Some, None, Bool, true}
use Rattle.std.proofs.Common.{false, cond, map, length, inl, inr, true≢false}
use Rattle.std.specs.Prelude.{slice_get, option_map, option_to_list, flat_map, Contains}
use Rattle.std.specs.List.{AllByRecursion}
use Rattle.std.proofs.lemmas.Option.{slice_get-map, slice_get_within}
use Rattle.std.proofs.lemmas.List.Elements.{Contains-append_cases}
use Rattle.ipg_core.specs.declared.grammar.Sym.{Sym}
use Rattle.ipg_core.specs.declared.grammar.Sym.TheVariants as syms
use Rattle.ipg_core.specs.declared.grammar.CoreExpr.{CoreExpr}
use Rattle.ipg_core.specs.declared.grammar.CoreSlot.{CoreSlot}
use Rattle.ipg_core.specs.declared.grammar.CoreTerm.{CoreTerm}
use Rattle.ipg_core.specs.declared.grammar.CoreTerm.TheVariants.{Slot, Set, Test, Repeat, Many, Pick}
use Rattle.ipg_core.specs.declared.grammar.CoreAlt.{CoreAlt}
use Rattle.ipg_core.specs.declared.grammar.CoreRule.{CoreRule}
use Rattle.ipg_core.specs.Grammar.{Grammar, rule_at, holder_of}
use Rattle.ipg_core.specs.Mention.{OuterOf, EachSym, term_mentions, term_syms}
use Rattle.ipg_core.specs.MustTouch.{Marks}
use Rattle.ipg_core.specs.Order.{Sets, TermOf, Reads, itself, through}
use Rattle.ipg_core.specs.Good.{AltAt, IsCallable, MayCall, WellFormed}
use Rattle.ipg_complete.specs.declared.completed.CompletedAlt.{CompletedAlt}
use Rattle.ipg_complete.specs.declared.completed.CompletedRule.{CompletedRule}
use Rattle.ipg_complete.specs.Unordered.{Unordered, core_of, rule_of, alt_of}
use Rattle.ipg_order.specs.declared.named.Named.{Named}
use Rattle.ipg_order.specs.declared.named.Named.TheVariants.{Term, Own, Outer}
use Rattle.ipg_order.specs.declared.closure.Hand.{Hand}
use Rattle.ipg_order.specs.Named.{named}
use Rattle.ipg_order.specs.Closure.{flag, Reached, direct, handed, AreReached}
use Rattle.ipg_order.specs.Locals.{setter, terms_in, terms_of_rule, terms_at, name_keys, term_keys, alt_keys, keys_under, rule_keys, all_keys}
use Rattle.ipg_order.specs.Locals.{is_some, is_local, sym_hands, term_hands, alt_hands, hands_under, rule_hands, all_hands}
use Rattle.ipg_order.specs.Reading.{WaitsFor, TellWaits}
use Rattle.ipg_order.proofs.Members.{by, not_in, cons_cases, here, in_flat, to_flat, in_numbered, to_numbered, in_map, to_map, place_of}
use Rattle.ipg_order.proofs.Handing.{only_one}
use Rattle.ipg_order.proofs.Waiting.{SetsOnce, setter_is, is_setter, mentioned_outer, outer_named, same_row, same_column}

-- ---- the parts of a completed grammar as those of a core grammar

pub rule_there : (c : Unordered) (r : ℕ) (rule : CompletedRule) → slice_get c.rules r ≡ Some rule → rule_at (core_of c) r ≡ Some (rule_of rule)
rule_there c r rule e = slice_get-map rule_of c.rules r ∙ ap (option_map rule_of) e

pub record Written {X Y : Type 0} (f : X → Y) (xs : List X) (k : ℕ) (y : Y) : Type 0 where
  pub item : X
  pub is_item : slice_get xs k ≡ Some item
  pub is : y ≡ f item

pub written : {X Y : Type 0} (f : X → Y) (xs : List X) (k : ℕ) (y : Y) → slice_get (map f xs) k ≡ Some y → Written f xs k y
written f [] k y e = absurd (cc)
written f (x ∷ xs) zero y e = record { item = x; is_item = refl; is = cc }
written f (x ∷ xs) (suc k) y e = let w = written f xs k y e in record { item = w.item; is_item = w.is_item; is = w.is }

-- the terms of an alternative, wherever it is looked up
pub terms_there : (c : Unordered) (rule : CoreRule) (alt : CoreAlt) (at : ℕ × ℕ) → AltAt (core_of c) rule alt at → alt.terms ≡ terms_at c.rules at
terms_there c rule alt at a =
    let w = written rule_of c.rules at.0 rule a.is_rule in
    let v = written alt_of w.item.alts at.1 alt (subst (λ (r : CoreRule). slice_get r.alts at.1 ≡ Some alt) w.is a.is_alt) in
    ap (λ (x : CoreAlt). x.terms) v.is ∙ sym (ap terms_in v.is_item) ∙ sym (ap (λ o. terms_of_rule o at.1) w.is_item)

-- ---- a symbol of a term

cases_at : (P : Sym → Type 0) (cases : List (CoreExpr × CoreSlot)) (one : Sym) → AllByRecursion (λ x. P x.1.sym) cases
    → Contains (flat_map (λ x. x.1.sym ∷ []) cases) one → P one
cases_at P [] one h m = absurd (not_in one m)
cases_at P (x ∷ cases) one h m = elim (cons_cases x.1.sym (flat_map (λ y. y.1.sym ∷ []) cases) one m) as (λ _. P one) [
  | inl e ↦ subst P (sym e) h.0
  | inr k ↦ cases_at P cases one h.1 k
]

alone : (P : Sym → Type 0) (s one : Sym) → P s → Contains (s ∷ []) one → P one
alone P s one h m = subst P (sym (only_one s one m)) h

pub each_at : (P : Sym → Type 0) (term : CoreTerm) (one : Sym) → EachSym P term → Contains (term_syms term) one → P one
each_at P (Slot slot) one h m = alone P slot.sym one h m
each_at P (Set attr e) one h m = absurd (not_in one m)
each_at P (Test e) one h m = absurd (not_in one m)
each_at P (Repeat first last item from to) one h m = alone P item one h m
each_at P (Many item from to) one h m = alone P item one h m
each_at P (Pick cases other) one h m = by (Contains-append_cases (flat_map (λ x. x.1.sym ∷ []) cases) (other.sym ∷ []) one m)
    (λ k. cases_at P cases one h.0 k) (λ k. alone P other.sym one h.1 k)

-- ---- a local rule calls local rules of its own holder alone

module _ (c : Unordered) (good : WellFormed (core_of c)) where
  abbrev g : Grammar
  g = core_of c

  -- the holder of a rule has none
  no_holder : (at : ℕ × ℕ) (rule : CoreRule) (r : ℕ) → rule_at g at.0 ≡ Some rule → holder_of (rule_at g r) ≡ Some at → rule.holder ≡ None
  no_holder at rule r e h =
      let global = good.holders r at h in
      let same : rule ≡ global.0 = let a = global.2.is_rule in cc in
      ap (λ (x : CoreRule). x.holder) same ∙ global.3

  same_holder : (r callee : ℕ) (holder other : ℕ × ℕ) (term : CoreTerm) → TermOf g r term → holder_of (rule_at g r) ≡ Some holder
      → Contains (term_syms term) (syms.Rule callee) → holder_of (rule_at g callee) ≡ Some other → other ≡ holder
  same_holder r callee holder other term t h m k =
      let alt = place_of t.rule.alts t.alt t.is_alt in
      let term_at = place_of t.alt.terms term t.is_term in
      let at : AltAt g t.rule t.alt (r, alt.place) = record { is_rule = t.is_rule; is_alt = alt.is } in
      let call = each_at (IsCallable g (r, alt.place) t.rule.holder) term (syms.Rule callee)
      ((good.alts (r, alt.place) t.rule t.alt at).terms term_at.place term term_at.is).syms m in
      one (r, alt.place) t.rule refl t.is_rule (subst (MayCall (r, alt.place) t.rule.holder) k call.1)
    where
      one : (at : ℕ × ℕ) (rule : CoreRule) → at.0 ≡ r → rule_at g r ≡ Some rule → MayCall at rule.holder (Some other) → other ≡ holder
      one at rule same e (inl here) =
          let none = no_holder at rule callee (ap (rule_at g) same ∙ e) (k ∙ ap Some here) in
          let some : rule.holder ≡ Some holder = sym (ap holder_of e) ∙ h in
          absurd (cc)
      one at rule same e (inr there) = let some : rule.holder ≡ Some holder = sym (ap holder_of e) ∙ h in cc

  -- ---- what the keys are

  pub record IsKey (k : ℕ) : Type 0 where
    pub row : ℕ
    pub column : ℕ
    pub holder : ℕ × ℕ
    pub is : k ≡ flag row column
    pub is_local : holder_of (rule_at g row) ≡ Some holder
    pub waits : WaitsFor c holder row column

  keys_by : (terms : List CoreTerm) (row k attr : ℕ) (o : Option ℕ) → Contains (option_to_list (option_map (flag row) o)) k
      → (v : ℕ) × ((o ≡ Some v) × (k ≡ flag row v))
  keys_by terms row k attr None m = absurd (not_in k m)
  keys_by terms row k attr (Some v) m = (v, (refl, only_one (flag row v) k m))

  name_key : (row : ℕ) (holder : ℕ × ℕ) (term : CoreTerm) (k : ℕ) (name : Named) → holder_of (rule_at g row) ≡ Some holder → TermOf g row term
      → Contains (flat_map named (term_mentions term)) name
      → Contains (name_keys (terms_at c.rules holder) row name) k → IsKey k
  name_key row holder term k (Term t) h of m n = absurd (not_in k n)
  name_key row holder term k (Own a) h of m n = absurd (not_in k n)
  name_key row holder term k (Outer attr) h of m n =
      let s = keys_by (terms_at c.rules holder) row k attr (setter 0 (terms_at c.rules holder) attr) n in
      record {
        row = row;
        column = s.0;
        holder = holder;
        is = s.1.1;
        is_local = h;
        waits = record {
          attr = attr;
          sets = setter_is (terms_at c.rules holder) attr s.0 s.1.0;
          reads = itself row term of (mentioned_outer (term_mentions term) attr m);
        };
      }

  written_term : (r : ℕ) (rule : CompletedRule) (alt : CompletedAlt) (term : CoreTerm) → slice_get c.rules r ≡ Some rule → Contains rule.alts alt
      → Contains alt.terms term → TermOf g r term
  written_term r rule alt term e m n =
      record { rule = rule_of rule; alt = alt_of alt; is_rule = rule_there c r rule e; is_alt = to_map alt_of rule.alts alt m; is_term = n }

  key_under : (r : ℕ) (rule : CompletedRule) (k : ℕ) (o : Option (ℕ × ℕ)) → slice_get c.rules r ≡ Some rule → rule.holder ≡ o
      → Contains (keys_under c.rules r o rule.alts) k → IsKey k
  key_under r rule k None e h m = absurd (not_in k m)
  key_under r rule k (Some holder) e h m =
      let alt = in_flat (alt_keys (terms_at c.rules holder) r) rule.alts k m in
      let term = in_flat (term_keys (terms_at c.rules holder) r) alt.item.terms k alt.holds in
      let name = in_flat (name_keys (terms_at c.rules holder) r) (flat_map named (term_mentions term.item)) k term.holds in
      name_key r holder term.item k name.item (ap holder_of (rule_there c r rule e) ∙ h)
      (written_term r rule alt.item term.item e alt.member term.member) name.member name.holds

  pub is_key : (k : ℕ) → Contains (all_keys c.rules) k → IsKey k
  is_key k m = let n = in_numbered 0 (rule_keys c.rules) c.rules k m in
      key_under (0 + n.number) n.item k n.item.holder (ap (slice_get c.rules) (let e : 0 + n.number ≡ n.number = omega arith in e) ∙ n.is_item) refl n.holds

  -- ---- what the hands are

  pub record IsHand (hand : Hand) : Type 0 where
    pub holder : ℕ × ℕ
    pub is_local : holder_of (rule_at g hand.caller) ≡ Some holder
    pub term : CoreTerm
    pub of : TermOf g hand.caller term
    pub calls : Contains (term_syms term) (syms.Rule hand.callee)
    pub under : ℕ × ℕ
    pub callee_local : holder_of (rule_at g hand.callee) ≡ Some under

  some_holder : (o : Option (ℕ × ℕ)) → is_some o ≡ true → (h : ℕ × ℕ) × (o ≡ Some h)
  some_holder None h = absurd (true≢false (sym h))
  some_holder (Some holder) h = (holder, refl)

  local_holder : (callee : ℕ) (rule : Option CompletedRule) → slice_get c.rules callee ≡ rule → is_local rule ≡ true
      → (h : ℕ × ℕ) × (holder_of (rule_at g callee) ≡ Some h)
  local_holder callee None e h = absurd (true≢false (sym h))
  local_holder callee (Some rule) e h = let s = some_holder rule.holder h in (s.0, ap holder_of (rule_there c callee rule e) ∙ s.1)

  -- the hand of a call, where the callee is local
  chosen_hand : (row callee : ℕ) (hand : Hand) (b : Bool) → Contains (cond b (record { caller = row; callee = callee } ∷ []) []) hand
      → (b ≡ true) × (hand ≡ record { caller = row; callee = callee })
  chosen_hand row callee hand true m = (refl, only_one (record { caller = row; callee = callee }) hand m)
  chosen_hand row callee hand false m = absurd (not_in hand m)

  sym_hand : (row : ℕ) (holder : ℕ × ℕ) (term : CoreTerm) (hand : Hand) (one : Sym) → holder_of (rule_at g row) ≡ Some holder → TermOf g row term
      → Contains (term_syms term) one
      → Contains (sym_hands c.rules row one) hand → IsHand hand
  sym_hand row holder term hand (syms.Text bytes) h of m n = absurd (not_in hand n)
  sym_hand row holder term hand (syms.Prim prim) h of m n = absurd (not_in hand n)
  sym_hand row holder term hand (syms.Rule callee) h of m n =
      let s = chosen_hand row callee hand (is_local (slice_get c.rules callee)) n in
      let under = local_holder callee (slice_get c.rules callee) refl s.0 in
      subst IsHand (sym s.1) (record { holder = holder; is_local = h; term = term; of = of; calls = m; under = under.0; callee_local = under.1 })

  hand_under : (r : ℕ) (rule : CompletedRule) (hand : Hand) (o : Option (ℕ × ℕ)) → slice_get c.rules r ≡ Some rule → rule.holder ≡ o
      → Contains (hands_under c.rules r o rule.alts) hand → IsHand hand
  hand_under r rule hand None e h m = absurd (not_in hand m)
  hand_under r rule hand (Some holder) e h m =
      let alt = in_flat (alt_hands c.rules r) rule.alts hand m in
      let term = in_flat (term_hands c.rules r) alt.item.terms hand alt.holds in
      let one = in_flat (sym_hands c.rules r) (term_syms term.item) hand term.holds in
      sym_hand r holder term.item hand one.item (ap holder_of (rule_there c r rule e) ∙ h)
      (written_term r rule alt.item term.item e alt.member term.member) one.member one.holds

  pub is_hand : (hand : Hand) → Contains (all_hands c.rules) hand → IsHand hand
  is_hand hand m = let n = in_numbered 0 (rule_hands c.rules) c.rules hand m in
      hand_under (0 + n.number) n.item hand n.item.holder (ap (slice_get c.rules) (let e : 0 + n.number ≡ n.number = omega arith in e) ∙ n.is_item) refl n.holds

  -- ---- the terms of a holder are few, and set each attribute once

  pub record IsHolder (holder : ℕ × ℕ) : Type 0 where
    pub few : length (terms_at c.rules holder) ≤ 256
    pub once : SetsOnce (terms_at c.rules holder)

  is_holder : (r : ℕ) (holder : ℕ × ℕ) → holder_of (rule_at g r) ≡ Some holder → IsHolder holder
  is_holder r holder h =
      let global = good.holders r holder h in
      let alt = good.alts holder global.0 global.1 global.2 in
      let there = terms_there c global.0 global.1 holder global.2 in
      record {
        few = subst (λ ts. length ts ≤ 256) there alt.limit;
        once = subst (λ ts. (attr u v : ℕ) → Sets ts u attr → Sets ts v attr
            → u ≡ v) there alt.sets_once;
      }

  pub column_below : (r : ℕ) (holder : ℕ × ℕ) (v attr : ℕ) → holder_of (rule_at g r) ≡ Some holder → Sets (terms_at c.rules holder) v attr → v < 256
  column_below r holder v attr h s = let lt = slice_get_within (terms_at c.rules holder) v _ s.1 in let few = (is_holder r holder h).few in omega arith

  -- ---- what is reached waits

  reached_waits : (k : ℕ) → Reached (all_keys c.rules) (all_hands c.rules) k → (holder : ℕ × ℕ) (r v : ℕ) → holder_of (rule_at g r) ≡ Some holder
      → v < 256 → k ≡ flag r v → WaitsFor c holder r v
  reached_waits k (direct _ m) holder r v h lt e =
      let key = is_key k m in
      let below = column_below key.row key.holder key.column key.waits.attr key.is_local key.waits.sets in
      let row = same_row r key.row v key.column (sym e ∙ key.is) lt below in
      let column = same_column r key.row v key.column (sym e ∙ key.is) lt below in
      let same : holder ≡ key.holder = let a = ap (λ n. holder_of (rule_at g n)) row in let b = key.is_local in cc in
      subst (λ hd. WaitsFor c hd r v) (sym same)
      (subst (λ n. WaitsFor c key.holder n v) (sym row) (subst (WaitsFor c key.holder key.row) (sym column) key.waits))
  reached_waits k (handed hand column m below more) holder r v h lt e =
      let is = is_hand hand m in
      let row = same_row r hand.caller v column (sym e) lt below in
      let same_col = same_column r hand.caller v column (sym e) lt below in
      let local : holder_of (rule_at g hand.caller) ≡ Some holder = ap (λ n. holder_of (rule_at g n)) (sym row) ∙ h in
      let one = same_holder hand.caller hand.callee holder is.under is.term is.of local is.calls is.callee_local in
      let w = reached_waits (flag hand.callee column) more holder hand.callee column (is.callee_local ∙ ap Some one) below refl in
      subst (λ n. WaitsFor c holder n v) (sym row) (subst (WaitsFor c holder hand.caller) (sym same_col)
      (record { attr = w.attr; sets = w.sets; reads = through hand.caller hand.callee is.under is.term is.of is.calls is.callee_local w.reads }))

  -- ---- what waits is reached

  record Standing (r : ℕ) (term : CoreTerm) : Type 0 where
    rule : CompletedRule
    is_rule : slice_get c.rules r ≡ Some rule
    alt : CompletedAlt
    is_alt : Contains rule.alts alt
    is_term : Contains alt.terms term

  standing : (r : ℕ) (term : CoreTerm) → TermOf g r term → Standing r term
  standing r term of =
      let w = written rule_of c.rules r of.rule of.is_rule in
      let i = in_map alt_of w.item.alts of.alt (subst (λ (x : CoreRule). Contains x.alts of.alt) w.is of.is_alt) in
      record { rule = w.item; is_rule = w.is_item; alt = i.item; is_alt = i.member; is_term = subst (λ (x : CoreAlt). Contains x.terms term) i.is of.is_term }

  under_is : (r : ℕ) (rule : CompletedRule) (holder : ℕ × ℕ) → slice_get c.rules r ≡ Some rule → holder_of (rule_at g r) ≡ Some holder
      → rule.holder ≡ Some holder
  under_is r rule holder e h = sym (ap holder_of (rule_there c r rule e)) ∙ h

  holder_some : (o : Option (ℕ × ℕ)) (holder : ℕ × ℕ) → o ≡ Some holder → is_some o ≡ true
  holder_some o holder e = ap is_some e

  own_key : (r v attr : ℕ) (holder : ℕ × ℕ) (term : CoreTerm) → holder_of (rule_at g r) ≡ Some holder → TermOf g r term
      → Contains (term_mentions term) (OuterOf attr) → Sets (terms_at c.rules holder) v attr
      → Contains (all_keys c.rules) (flag r v)
  own_key r v attr holder term h of m s =
      let st = standing r term of in
      let terms = terms_at c.rules holder in
      let set = is_setter terms attr v (is_holder r holder h).once s in
      let key : Contains (name_keys terms r (Outer attr)) (flag r v) =
      subst (λ o. Contains (option_to_list (option_map (flag r) o)) (flag r v)) (sym set) (here (flag r v) []) in
      let in_term = to_flat (name_keys terms r) (flat_map named (term_mentions term)) (Outer attr) (flag r v) (outer_named (term_mentions term) attr m) key in
      let in_alt = to_flat (term_keys terms r) st.alt.terms term (flag r v) st.is_term in_term in
      let in_rule = to_flat (alt_keys terms r) st.rule.alts st.alt (flag r v) st.is_alt in_alt in
      let under = subst (λ o. Contains (keys_under c.rules r o st.rule.alts) (flag r v)) (sym (under_is r st.rule holder st.is_rule h)) in_rule in
      to_numbered 0 (rule_keys c.rules) c.rules r st.rule (flag r v) st.is_rule
      (subst (λ n. Contains (rule_keys c.rules n st.rule) (flag r v)) (let e : r ≡ 0 + r = omega arith in e) under)

  own_hand : (r callee : ℕ) (holder other : ℕ × ℕ) (term : CoreTerm) → holder_of (rule_at g r) ≡ Some holder → TermOf g r term
      → Contains (term_syms term) (syms.Rule callee) → holder_of (rule_at g callee) ≡ Some other
      → Contains (all_hands c.rules) (record { caller = r; callee = callee })
  own_hand r callee holder other term h of m k =
      let st = standing r term of in
      let hand : Hand = record { caller = r; callee = callee } in
      let local = callee_is callee other (slice_get c.rules callee) refl k in
      let one : Contains (sym_hands c.rules r (syms.Rule callee)) hand = subst (λ b. Contains (cond b (hand ∷ []) []) hand) (sym local) (here hand []) in
      let in_term = to_flat (sym_hands c.rules r) (term_syms term) (syms.Rule callee) hand m one in
      let in_alt = to_flat (term_hands c.rules r) st.alt.terms term hand st.is_term in_term in
      let in_rule = to_flat (alt_hands c.rules r) st.rule.alts st.alt hand st.is_alt in_alt in
      let under = subst (λ o. Contains (hands_under c.rules r o st.rule.alts) hand) (sym (under_is r st.rule holder st.is_rule h)) in_rule in
      to_numbered 0 (rule_hands c.rules) c.rules r st.rule hand st.is_rule
      (subst (λ n. Contains (rule_hands c.rules n st.rule) hand) (let e : r ≡ 0 + r = omega arith in e) under)
    where
      callee_is : (callee : ℕ) (other : ℕ × ℕ) (rule : Option CompletedRule) → slice_get c.rules callee ≡ rule
          → holder_of (rule_at g callee) ≡ Some other → is_local rule ≡ true
      callee_is callee other None e k = let none = ap holder_of (slice_get-map rule_of c.rules callee ∙ ap (option_map rule_of) e) in absurd (cc)
      callee_is callee other (Some rule) e k = holder_some rule.holder other (under_is callee rule other e k)

  waits_reached : (attr r : ℕ) → Reads g attr r → (holder : ℕ × ℕ) (v : ℕ) → holder_of (rule_at g r) ≡ Some holder
      → Sets (terms_at c.rules holder) v attr → Reached (all_keys c.rules) (all_hands c.rules) (flag r v)
  waits_reached attr r (itself _ term of m) holder v h s = direct (flag r v) (own_key r v attr holder term h of m s)
  waits_reached attr r (through _ callee under term of m k reads) holder v h s =
      let one = same_holder r callee holder under term of h m k in
      handed (record { caller = r; callee = callee }) v (own_hand r callee holder under term h of m k) (column_below r holder v attr h s)
      (waits_reached attr callee reads holder v (k ∙ ap Some one) s)

  pub tell_waits : (flags : Marks) → AreReached (length c.rules) (all_keys c.rules) (all_hands c.rules) flags → TellWaits c flags
  tell_waits flags are holder r v h lt = (
    λ m. reached_waits (flag r v) ((are.exact (flag r v)).0 m) holder r v h lt refl,
    λ w. (are.exact (flag r v)).1 (waits_reached w.attr r w.reads holder v h w.sets),
  )
