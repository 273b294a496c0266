-- What a name means where no rule's name is taken.
use Rattle.std.proofs.Common.{◌≡◌, ℕ, ◌+◌, ◌<◌, Bool, true, false, ◌⊎◌, inl, inr, nat_lt, nat_eq, ◌&&◌, List, Option, Some}
use Rattle.std.proofs.Common.{None, is_some, slice_get, refl, sym, ap, ◌∙◌, cond, bytes_eq, arith, true≢false}
use Rattle.std.proofs.lemmas.Bool.Decides.{nat_tests}
use Rattle.ipg_ast.specs.declared.grammar.Grammar.{Grammar}
use Rattle.ipg_core.specs.declared.grammar.Primitive.{Primitive}
use Rattle.ipg_core.specs.declared.grammar.Sym.{Sym}
use Rattle.ipg_core.specs.declared.grammar.Sym.TheVariants.{Prim, Rule}
use Rattle.ipg_names_scope.specs.Roster.{ListedRule, name_of, head_at, roster_of}
use Rattle.ipg_core.specs.Lines.{primitive_of}
use Rattle.ipg_names_scope.specs.Scope.{is_named, is_visible, entry_visible, rule_named, rule_sym, sym_else, sym_named}
use Rattle.ipg_names.specs.Refusals.{IsDuplicateRule, IsRuleFor, IsPrimitive}
use Rattle.ipg_names.proofs.Bytes.{same_bytes, bytes_same}
use Rattle.ipg_names.proofs.HeadTable.{is_none}
use Rattle.ipg_names.proofs.Found.{first_found}
use Rattle.ipg_names.proofs.Alone.{first_is}
use Rattle.ipg_names.proofs.GoodTerms.{same_pair}

itself : (a b : ℕ) → (nat_eq a a && nat_eq b b) ≡ true
itself a b = grind (arith, nat_tests)

visible : (home : ℕ × ℕ) (holder : Option (ℕ × ℕ)) → (holder ≡ None) ⊎ (holder ≡ Some home) → is_visible home holder ≡ true
visible home holder (inl e) = ap (is_visible home) e
visible home holder (inr e) = ap (is_visible home) e ∙ itself home.0 home.1

in_sight : (home : ℕ × ℕ) (holder : Option (ℕ × ℕ)) → is_visible home holder ≡ true → (holder ≡ None) ⊎ (holder ≡ Some home)
in_sight home None h = inl refl
in_sight home (Some p) h = inr (ap Some (same_pair p home h))

module _ (g : Grammar) (apart : (at : ℕ) → IsDuplicateRule g at → ⊥) where
  abbrev roster : List ListedRule
  roster = roster_of g

  earlier : (r s : ℕ) (e f : ListedRule) → slice_get roster r ≡ Some e → slice_get roster s ≡ Some f → name_of e ≡ name_of f → r < s → ⊥
  earlier r s e f a b same lt = apart (head_at f) (record {
    rule = s;
    entry = f;
    is_rule = b;
    is_at = refl;
    twice = inl (record { earlier = r; before = lt; entry = e; is_rule = a; has_name = same });
  })

  one_rule : (r s : ℕ) (e f : ListedRule) → slice_get roster r ≡ Some e → slice_get roster s ≡ Some f → name_of e ≡ name_of f → r ≡ s
  one_rule r s e f a b same = by (nat_lt r s) (nat_lt s r) refl refl
    where
      by : (x y : Bool) → nat_lt r s ≡ x → nat_lt s r ≡ y → r ≡ s
      by true y h k = absurd (earlier r s e f a b same (grind (arith, nat_tests)))
      by false true h k = absurd (earlier s r f e b a (sym same) (grind (arith, nat_tests)))
      by false false h k = grind (arith, nat_tests)

  no_primitive : (r : ℕ) (e : ListedRule) → slice_get roster r ≡ Some e → primitive_of (name_of e) ≡ None
  no_primitive r e a = by (is_some (primitive_of (name_of e))) refl
    where
      by : (b : Bool) → is_some (primitive_of (name_of e)) ≡ b → primitive_of (name_of e) ≡ None
      by true h = absurd (apart (head_at e) (record { rule = r; entry = e; is_rule = a; is_at = refl; twice = inr h }))
      by false h = is_none (primitive_of (name_of e)) h

  module _ (home : ℕ × ℕ) (name : List ℕ) where
    abbrev meaning : Option Sym
    meaning = sym_named roster home name

    rule_is : (r : ℕ) (e : ListedRule) → slice_get roster r ≡ Some e → name_of e ≡ name → rule_named roster name ≡ Some r
    rule_is r e a same =
        first_is (is_named name) 0 roster r e a (ap (bytes_eq name) same ∙ bytes_same name)
        (λ j f b t. one_rule j r f e b a (sym (same_bytes name (name_of f) t) ∙ sym same))
        ∙ ap Some (let z : 0 + r ≡ r = omega arith in z)

    -- a rule of the name that is in sight is what the name means
    pub rule_meant : (e : ListedRule) → IsRuleFor g home name e → (r : ℕ) × (slice_get roster r ≡ Some e) × (meaning ≡ Some (Rule r))
    rule_meant e w = (
      w.rule,
      w.is_rule,
      ap (λ o. sym_else o (rule_sym roster home (rule_named roster name)))
          (ap primitive_of (sym w.has_name) ∙ no_primitive w.rule e w.is_rule)
          ∙ ap (rule_sym roster home) (rule_is w.rule e w.is_rule w.has_name)
          ∙ ap (λ b. cond b (Some (Rule w.rule)) None)
          (ap (entry_visible home) w.is_rule ∙ visible home e.holder w.in_sight),
    )

    pub primitive_meant : (p : Primitive) → primitive_of name ≡ Some p → meaning ≡ Some (Prim p)
    primitive_meant p e = ap (λ o. sym_else o (rule_sym roster home (rule_named roster name))) e

    -- what a name means is a primitive, or a rule that is in sight
    abbrev pub Meant : Sym → Type 0
    Meant s =
        ((p : Primitive) × (primitive_of name ≡ Some p) × (s ≡ Prim p))
        ⊎ ((r : ℕ) × (e : ListedRule) × (slice_get roster r ≡ Some e) × IsRuleFor g home name e × (s ≡ Rule r))

    seen : (r : ℕ) (e : ListedRule) (s : Sym) → slice_get roster r ≡ Some e → name_of e ≡ name → (b : Bool) → is_visible home e.holder ≡ b
        → cond b (Some (Rule r)) None ≡ Some s → Meant s
    seen r e s a n true k h =
        inr (r, e, a, record { rule = r; is_rule = a; has_name = n; in_sight = in_sight home e.holder k }, (let same : s ≡ Rule r = cc in same))
    seen r e s a n false k h = absurd (cc)

    of_rule : (r : ℕ) (s : Sym) → rule_named roster name ≡ Some r → rule_sym roster home (Some r) ≡ Some s → Meant s
    of_rule r s e h =
        let w = first_found (is_named name) 0 roster r e in
        let here : slice_get roster r ≡ Some w.2.item = ap (slice_get roster) (let z : r ≡ w.0 = omega (arith, w.1) in z) ∙ w.2.is in
        seen r w.2.item s here (sym (same_bytes name (name_of w.2.item) w.2.passes)) (is_visible home w.2.item.holder) refl
        (sym (ap (λ o. cond (entry_visible home o) (Some (Rule r)) None) here) ∙ h)

    of_named : (s : Sym) (o : Option ℕ) → rule_named roster name ≡ o → rule_sym roster home o ≡ Some s → Meant s
    of_named s None e h = absurd (cc)
    of_named s (Some r) e h = of_rule r s e h

    pub meant : (s : Sym) → meaning ≡ Some s → Meant s
    meant s h = by (primitive_of name) refl h
      where
        by : (o : Option Primitive) → primitive_of name ≡ o → sym_else o (rule_sym roster home (rule_named roster name)) ≡ Some s → Meant s
        by (Some p) e k = inl (p, e, (let same : s ≡ Prim p = cc in same))
        by None e k = of_named s (rule_named roster name) refl k

    pub unknown : is_some meaning ≡ false → (IsPrimitive name → ⊥) × ((e : ListedRule) → IsRuleFor g home name e → ⊥)
    unknown h = (by (primitive_of name) refl, λ e w. true≢false (sym (ap is_some (rule_meant e w).2) ∙ h))
      where
        by : (o : Option Primitive) → primitive_of name ≡ o → is_some o ≡ true → ⊥
        by (Some p) e k = true≢false (sym (ap is_some (primitive_meant p e)) ∙ h)
        by None e k = true≢false (sym k)

    pub unmeant : (IsPrimitive name → ⊥) → ((e : ListedRule) → IsRuleFor g home name e → ⊥) → is_some meaning ≡ false
    unmeant primitive rule = by meaning refl
      where
        no : (s : Sym) → Meant s → ⊥
        no s (inl w) = primitive (ap is_some w.1)
        no s (inr w) = rule w.1 w.3

        by : (o : Option Sym) → meaning ≡ o → is_some o ≡ false
        by None e = refl
        by (Some s) e = absurd (no s (meant s e))
