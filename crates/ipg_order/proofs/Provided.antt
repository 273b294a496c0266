-- The lists of what terms need are their providers.
use Rattle.std.proofs.Common.{◌≡◌, ◌≢◌, ℕ, zero, suc, ◌<◌, ◌≤◌, refl, sym, ap, ◌∙◌, subst, arith, List, [], ◌∷◌, Option, Some, None, Bool, true}
use Rattle.std.proofs.Common.{false, cond, map, length, ◌⊎◌, inl, inr, true≢false}
use Rattle.std.specs.Prelude.{slice_get, flat_map, nat_eq, Contains}
use Rattle.std.proofs.lemmas.Bool.{and_parts}
use Rattle.std.proofs.lemmas.Bool.Decides.{nat_tests}
use Rattle.std.proofs.lemmas.Option.{slice_get_within}
use Rattle.std.proofs.lemmas.List.Elements.{Contains-append_left, Contains-append_right, Contains-append_cases}
use Rattle.ipg_core.specs.declared.grammar.Sym.{Sym}
use Rattle.ipg_core.specs.declared.grammar.Sym.TheVariants as syms
use Rattle.ipg_core.specs.declared.grammar.CoreTerm.{CoreTerm}
use Rattle.ipg_core.specs.declared.grammar.CoreAlt.{CoreAlt}
use Rattle.ipg_core.specs.declared.grammar.CoreRule.{CoreRule}
use Rattle.ipg_core.specs.Grammar.{Grammar, rule_at, holder_of, same_place}
use Rattle.ipg_core.specs.Mention.{Mention, SeenOf, ItemOf, AfterOf, OwnOf, OuterOf, FieldOf, LoopOf, term_mentions, term_syms}
use Rattle.ipg_core.specs.MustTouch.{Marks, is_marked}
use Rattle.ipg_core.specs.Order.{Sets, Needs, Names, Passes, Provides}
use Rattle.ipg_core.specs.Good.{AltAt, WellFormed}
use Rattle.ipg_complete.specs.declared.completed.CompletedRule.{CompletedRule}
use Rattle.ipg_complete.specs.Unordered.{Unordered, core_of, rule_of}
use Rattle.ipg_order.specs.declared.named.Named.{Named}
use Rattle.ipg_order.specs.declared.named.Named.TheVariants.{Term, Own, Outer}
use Rattle.ipg_order.specs.Named.{named}
use Rattle.ipg_order.specs.Closure.{flag}
use Rattle.ipg_order.specs.Locals.{setter, terms_at}
use Rattle.ipg_order.specs.Reading.{WaitsFor, TellWaits, holders_of}
use Rattle.ipg_order.specs.Providers.{Holders, other, others, name_needs, is_holder, is_here, row_needs, sym_needs, syms_needs, term_needs}
use Rattle.ipg_order.proofs.Members.{by, not_in, here, in_flat, to_flat}
use Rattle.ipg_order.proofs.Handing.{only_one}
use Rattle.ipg_order.proofs.Waiting.{SetsOnce, setter_is, is_setter, own_mention}
use Rattle.ipg_order.proofs.Telling.{terms_there}

-- ---- a term never needs itself

other_by : (u v w : ℕ) (b : Bool) → nat_eq u v ≡ b → Contains (cond b [] (v ∷ [])) w → (w ≡ v) × (w ≢ u)
other_by u v w true e m = absurd (not_in w m)
other_by u v w false e m = let same = only_one v w m in (same, λ k. let one : u ≡ v = sym k ∙ same in let e' = e in grind (arith, nat_tests))

in_other : (u v w : ℕ) → Contains (other u v) w → (w ≡ v) × (w ≢ u)
in_other u v w m = other_by u v w _ refl m

to_other_by : (u v : ℕ) (b : Bool) → nat_eq u v ≡ b → v ≢ u → Contains (cond b [] (v ∷ [])) v
to_other_by u v true e n = absurd (n (let same : v ≡ u = grind (arith, nat_tests) in same))
to_other_by u v false e n = here v []

to_other : (u v : ℕ) → v ≢ u → Contains (other u v) v
to_other u v n = to_other_by u v _ refl n

in_others : (u : ℕ) (o : Option ℕ) (w : ℕ) → Contains (others u o) w → (o ≡ Some w) × (w ≢ u)
in_others u None w m = absurd (not_in w m)
in_others u (Some v) w m = let k = in_other u v w m in (ap Some (sym k.0), k.1)

-- ---- columns of a row

row_by : (flags : Marks) (row u n v : ℕ) (b : Bool) → is_marked flags (flag row n) ≡ b → Contains (cond b (other u n) []) v
    → (v ≡ n) × (is_marked flags (flag row n) ≡ true) × (v ≢ u)
row_by flags row u n v true e m = let k = in_other u n v m in (k.0, e, k.1)
row_by flags row u n v false e m = absurd (not_in v m)

in_row : (flags : Marks) (row u n v : ℕ) → Contains (row_needs flags row u n) v → (v < n) × (is_marked flags (flag row v) ≡ true) × (v ≢ u)
in_row flags row u zero v m = absurd (not_in v m)
in_row flags row u (suc n) v m =
    by (Contains-append_cases (row_needs flags row u n) (cond (is_marked flags (flag row n)) (other u n) []) v m)
    (λ k. let i = in_row flags row u n v k in let lt = i.0 in (omega arith, i.1, i.2))
    (λ k. let i = row_by flags row u n v _ refl k in let e = i.0 in (omega arith, subst (λ j. is_marked flags (flag row j) ≡ true) (sym e) i.1, i.2))

below_or_same : (v n : ℕ) → v < suc n → (v < n) ⊎ (v ≡ n)
below_or_same v n lt = grind arith

to_row : (flags : Marks) (row u n v : ℕ) → v < n → is_marked flags (flag row v) ≡ true → v ≢ u → Contains (row_needs flags row u n) v
to_row flags row u zero v lt e k = absurd (omega arith)
to_row flags row u (suc n) v lt e k =
    by (below_or_same v n lt)
    (λ b. Contains-append_left (row_needs flags row u n) (cond (is_marked flags (flag row n)) (other u n) []) v (to_row flags row u n v b e k))
    (λ s. Contains-append_right (row_needs flags row u n) (cond (is_marked flags (flag row n)) (other u n) []) v
    (subst (λ b. Contains (cond b (other u n) []) v) (sym (ap (λ j. is_marked flags (flag row j)) (sym s) ∙ e))
    (subst (λ j. Contains (other u j) v) s (to_other u v k))))

-- ---- mentions of terms

term_mention : (m : Mention) (terms : List CoreTerm) (t v : ℕ) → Contains (named m) (Term t) → v ≡ t → Needs terms v m
term_mention (SeenOf s one) terms t v c e = let same = only_one (Term s) (Term t) c in e ∙ (let k : t ≡ s = cc in k)
term_mention (ItemOf s) terms t v c e = let same = only_one (Term s) (Term t) c in e ∙ (let k : t ≡ s = cc in k)
term_mention (AfterOf s) terms t v c e = let same = only_one (Term s) (Term t) c in e ∙ (let k : t ≡ s = cc in k)
term_mention (OwnOf a) terms t v c e = absurd (let same = only_one (Own a) (Term t) c in cc)
term_mention (OuterOf a) terms t v c e = absurd (let same = only_one (Outer a) (Term t) c in cc)
term_mention (FieldOf a) terms t v c e = absurd (not_in _ c)
term_mention LoopOf terms t v c e = absurd (not_in _ c)

-- what a mention needs, as a name
needed_name : (m : Mention) (terms : List CoreTerm) (u v : ℕ) → SetsOnce terms → Needs terms v m → v ≢ u
    → (name : Named) × (Contains (named m) name × Contains (name_needs terms u name) v)
needed_name (SeenOf s one) terms u v once n k = (Term s, (here (Term s) [], subst (λ j. Contains (other u j) v) n (to_other u v k)))
needed_name (ItemOf s) terms u v once n k = (Term s, (here (Term s) [], subst (λ j. Contains (other u j) v) n (to_other u v k)))
needed_name (AfterOf s) terms u v once n k = (Term s, (here (Term s) [], subst (λ j. Contains (other u j) v) n (to_other u v k)))
needed_name (OwnOf a) terms u v once n k = (Own a, (here (Own a) [], subst (λ o. Contains (others u o) v) (sym (is_setter terms a v once n)) (to_other u v k)))
needed_name (OuterOf a) terms u v once n k = absurd n
needed_name (FieldOf a) terms u v once n k = absurd n
needed_name LoopOf terms u v once n k = absurd n

-- ---- the rule is held here

same_pair : (a b : ℕ × ℕ) → same_place a b ≡ true → a ≡ b
same_pair (a, b) (c, d) e =
    let parts = and_parts (nat_eq a c) (nat_eq b d) e in
    let p : a ≡ c = let t = parts.0 in grind (arith, nat_tests) in
    let q : b ≡ d = let t = parts.1 in grind (arith, nat_tests) in
    ap (λ x. (x, b)) p ∙ ap (λ y. (c, y)) q

same_refl : (a : ℕ × ℕ) → same_place a a ≡ true
same_refl (a, b) = let p : nat_eq a a ≡ true = grind (arith, nat_tests) in let q : nat_eq b b ≡ true = grind (arith, nat_tests) in rw (p, q) refl

-- the holder of a rule, by either list
holders_tell : (rules : List CompletedRule) (r : ℕ) (at : ℕ × ℕ) → slice_get (holders_of rules) r ≡ Some (Some at)
    → holder_of (slice_get (map rule_of rules) r) ≡ Some at
holders_tell [] r at h = absurd (cc)
holders_tell (rule ∷ rules) zero at h = cc
holders_tell (rule ∷ rules) (suc r) at h = holders_tell rules r at h

told_holders : (rules : List CompletedRule) (r : ℕ) (at : ℕ × ℕ) → holder_of (slice_get (map rule_of rules) r) ≡ Some at
    → slice_get (holders_of rules) r ≡ Some (Some at)
told_holders [] r at h = absurd (cc)
told_holders (rule ∷ rules) zero at h = ap Some h
told_holders (rule ∷ rules) (suc r) at h = told_holders rules r at h

held : (at : ℕ × ℕ) (o : Option (Option (ℕ × ℕ))) → is_holder at o ≡ true → o ≡ Some (Some at)
held at None h = absurd (true≢false (sym h))
held at (Some None) h = absurd (true≢false (sym h))
held at (Some (Some holder)) h = ap (λ x. Some (Some x)) (same_pair holder at h)

module _ (c : Unordered) (good : WellFormed (core_of c)) (flags : Marks) (tells : TellWaits c flags) (rule : CoreRule) (alt : CoreAlt) (at : ℕ × ℕ)
    (is : AltAt (core_of c) rule alt at) where
  abbrev g : Grammar
  g = core_of c

  abbrev holders : Holders
  holders = holders_of c.rules

  once : SetsOnce alt.terms
  once = (good.alts at rule alt is).sets_once

  few : length alt.terms ≤ 256
  few = (good.alts at rule alt is).limit

  there : alt.terms ≡ terms_at c.rules at
  there = terms_there c rule alt at is

  here_holder : (callee : ℕ) → is_here holders at callee ≡ true → holder_of (rule_at g callee) ≡ Some at
  here_holder callee h = holders_tell c.rules callee at (held at (slice_get holders callee) h)

  holder_here : (callee : ℕ) → holder_of (rule_at g callee) ≡ Some at → is_here holders at callee ≡ true
  holder_here callee h = ap (is_holder at) (told_holders c.rules callee at h) ∙ same_refl at

  chosen_row : (callee u v : ℕ) (b : Bool) → is_here holders at callee ≡ b → Contains (cond b (row_needs flags callee u (length alt.terms)) []) v
      → (holder_of (rule_at g callee) ≡ Some at) × Contains (row_needs flags callee u (length alt.terms)) v
  chosen_row callee u v true e m = (here_holder callee e, m)
  chosen_row callee u v false e m = absurd (not_in v m)

  -- what a name of a term needs is a provider
  name_provides : (u v : ℕ) (term : CoreTerm) (name : Named) → slice_get alt.terms u ≡ Some term → Contains (flat_map named (term_mentions term)) name
      → Contains (name_needs alt.terms u name) v → Provides g at alt.terms u v
  name_provides u v term (Term t) e m n =
      let o = in_other u t v n in
      let a = in_flat named (term_mentions term) (Term t) m in
      record {
        other = o.1;
        term = term;
        is_term = e;
        how = inl (record { mention = a.item; stands = a.member; needs = term_mention a.item alt.terms t v a.holds o.0 });
      }
  name_provides u v term (Own attr) e m n =
      let o = in_others u (setter 0 alt.terms attr) v n in
      let a = in_flat named (term_mentions term) (Own attr) m in
      record {
        other = o.1;
        term = term;
        is_term = e;
        how = inl (record {
          mention = a.item;
          stands = a.member;
          needs = subst (Needs alt.terms v) (sym (own_mention a.item attr a.holds))
              (setter_is alt.terms attr v o.0);
        });
      }
  name_provides u v term (Outer attr) e m n = absurd (not_in v n)

  -- what a call of a local rule needs is a provider
  sym_provides : (u v : ℕ) (term : CoreTerm) (one : Sym) → slice_get alt.terms u ≡ Some term → Contains (term_syms term) one
      → Contains (sym_needs holders flags at (length alt.terms) u one) v → Provides g at alt.terms u v
  sym_provides u v term (syms.Text bytes) e m n = absurd (not_in v n)
  sym_provides u v term (syms.Prim prim) e m n = absurd (not_in v n)
  sym_provides u v term (syms.Rule callee) e m n =
      let r = chosen_row callee u v (is_here holders at callee) refl n in
      let i = in_row flags callee u (length alt.terms) v r.1 in
      let lt : v < 256 = let a = i.0 in let b = few in omega arith in
      let w = (tells at callee v r.0 lt).0 i.1 in
      record {
        other = i.2;
        term = term;
        is_term = e;
        how = inr (record {
          callee = callee;
          attr = w.attr;
          calls = m;
          is_local = r.0;
          reads = w.reads;
          sets = subst (λ ts. Sets ts v w.attr) (sym there) w.sets;
        });
      }

  pub listed_provides : (u v : ℕ) (term : CoreTerm) → slice_get alt.terms u ≡ Some term → Contains (term_needs holders flags at alt.terms u term) v
      → Provides g at alt.terms u v
  listed_provides u v term e m =
      by (Contains-append_cases (flat_map (name_needs alt.terms u) (flat_map named (term_mentions term))) (syms_needs holders flags at alt.terms u term) v m)
      (λ k. let a = in_flat (name_needs alt.terms u) (flat_map named (term_mentions term)) v k in name_provides u v term a.item e a.member a.holds)
      (λ k. let a = in_flat (sym_needs holders flags at (length alt.terms) u) (term_syms term) v k in sym_provides u v term a.item e a.member a.holds)

  names_listed : (u v : ℕ) (term : CoreTerm) → v ≢ u → Names alt.terms term v
      → Contains (flat_map (name_needs alt.terms u) (flat_map named (term_mentions term))) v
  names_listed u v term k n =
      let w = needed_name n.mention alt.terms u v once n.needs k in
      to_flat (name_needs alt.terms u) (flat_map named (term_mentions term)) w.0 v (to_flat named (term_mentions term) n.mention w.0 n.stands w.1.0) w.1.1

  passes_listed : (u v : ℕ) (term : CoreTerm) → v ≢ u → Passes g at alt.terms term v → Contains (syms_needs holders flags at alt.terms u term) v
  passes_listed u v term k p =
      let lt : v < length alt.terms = slice_get_within alt.terms v _ p.sets.1 in
      let w : WaitsFor c at p.callee v = record { attr = p.attr; sets = subst (λ ts. Sets ts v p.attr) there p.sets; reads = p.reads } in
      let set = (tells at p.callee v p.is_local (let b = few in omega arith)).1 w in
      to_flat (sym_needs holders flags at (length alt.terms) u) (term_syms term) (syms.Rule p.callee) v p.calls
      (subst (λ b. Contains (cond b (row_needs flags p.callee u (length alt.terms)) []) v) (sym (holder_here p.callee p.is_local))
      (to_row flags p.callee u (length alt.terms) v lt set k))

  pub provides_listed : (u v : ℕ) (term : CoreTerm) → slice_get alt.terms u ≡ Some term → Provides g at alt.terms u v
      → Contains (term_needs holders flags at alt.terms u term) v
  provides_listed u v term e p =
      let same : p.term ≡ term = let a = p.is_term in cc in
      let left = flat_map (name_needs alt.terms u) (flat_map named (term_mentions term)) in
      by p.how
      (λ n. Contains-append_left left (syms_needs holders flags at alt.terms u term) v
      (names_listed u v term p.other (subst (λ t. Names alt.terms t v) same n)))
      (λ q. Contains-append_right left (syms_needs holders flags at alt.terms u term) v
      (passes_listed u v term p.other (subst (λ t. Passes g at alt.terms t v) same q)))
