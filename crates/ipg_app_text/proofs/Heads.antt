-- The rules of a completed grammar bear the names at the heads of the text's rules, in their order.
use Rattle.std.proofs.Common.{◌≡◌, ℕ, ◌+◌, List, [], ◌∷◌, ◌++◌, length, map, flat_map, slice_get}
use Rattle.std.proofs.Common.{Option, None, Some, Ok, refl, sym, ap, ◌∙◌}
use Rattle.std.specs.Option.{option_map}
use Rattle.std.proofs.lemmas.List.{map-append}
use Rattle.std.proofs.lemmas.Option.{slice_get-map}
use Rattle.ipg_ast.specs.declared.grammar.Grammar as written
use Rattle.ipg_ast.specs.declared.grammar.Rule.{Rule, out-Rule}
use Rattle.ipg_ast.specs.declared.grammar.Alt.{Alt, out-Alt}
use Rattle.ipg_names_scope.specs.Roster.{ListedRule, name_of, local, locals_from, family_of, roster_from, roster_of}
use Rattle.ipg_names_scope.specs.Names.{attr_names}
use Rattle.ipg_names.specs.declared.fault.NameFault.{NameFault}
use Rattle.ipg_names.specs.declared.named.NamedRule.{NamedRule}
use Rattle.ipg_names.specs.Fault.{first_of}
use Rattle.ipg_names.specs.Faults.{faults_of}
use Rattle.ipg_names.specs.Resolved.{Resolved, rules_from, names_of}
use Rattle.ipg_complete.specs.declared.completed.CompletedRule.{CompletedRule}
use Rattle.ipg_complete.specs.Completion.{rule_of}
use Rattle.ipg_complete.specs.Unordered.{Unordered}
use Rattle.ipg_core.specs.Grammar.{name_at, or_empty}
use Rattle.ipg_app_explain.specs.Terms.{locals_of, family, all_rules}
use Rattle.ipg_app_text.specs.CoreOf.{unless_fault}
use Rattle.ipg_app_text.specs.Reasons.{IsCompleted, head_of, head_at}

abbrev head : Rule → List ℕ
head rule = (out-Rule rule).name.name

-- ---- the rules as they are listed

locals_own : (r a : ℕ) (alt : Alt) (rules : List Rule) → map name_of (map (local r a alt) rules) ≡ map head rules
locals_own r a alt [] = refl
locals_own r a alt (rule ∷ rules) = ap (λ xs. head rule ∷ xs) (locals_own r a alt rules)

locals : (r a : ℕ) (alts : List Alt) → map name_of (locals_from r a alts) ≡ map head (flat_map locals_of alts)
locals r a [] = refl
locals r a (alt ∷ alts) =
    map-append name_of (map (local r a alt) (out-Alt alt).locals) (locals_from r (a + 1) alts)
    ∙ ap (λ xs. xs ++ map name_of (locals_from r (a + 1) alts)) (locals_own r a alt (out-Alt alt).locals)
    ∙ ap (λ xs. map head (locals_of alt) ++ xs) (locals r (a + 1) alts)
    ∙ sym (map-append head (locals_of alt) (flat_map locals_of alts))

families : (r : ℕ) (rules : List Rule) → map name_of (roster_from r rules) ≡ map head (flat_map family rules)
families r [] = refl
families r (rule ∷ rules) =
    let own = family_of r rule in
    let others = roster_from (r + length own) rules in
    map-append name_of own others
    ∙ ap (λ xs. (head rule ∷ xs) ++ map name_of others) (locals r 0 (out-Rule rule).alts)
    ∙ ap (λ xs. map head (family rule) ++ xs) (families (r + length own) rules)
    ∙ sym (map-append head (family rule) (flat_map family rules))

-- ---- with their names resolved, and completed

numbered : (roster : List ListedRule) (names : List (List ℕ)) (r : ℕ) (entries : List ListedRule)
    → map (λ (x : NamedRule). x.name) (rules_from roster names r entries) ≡ map name_of entries
numbered roster names r [] = refl
numbered roster names r (entry ∷ entries) = ap (λ xs. name_of entry ∷ xs) (numbered roster names (r + 1) entries)

whole : (rules : List NamedRule) → map (λ (x : CompletedRule). x.name) (map rule_of rules) ≡ map (λ (x : NamedRule). x.name) rules
whole [] = refl
whole (rule ∷ rules) = ap (λ xs. rule.name ∷ xs) (whole rules)

no_fault : (fault : Option NameFault) (x n : Resolved) → unless_fault fault x ≡ Ok n → n ≡ x
no_fault None x n e = cc
no_fault (Some fault) x n e = absurd (cc)

heads : (g : written.Grammar) (c : Unordered) → IsCompleted g c → map (λ (x : CompletedRule). x.name) c.rules ≡ map head (all_rules g)
heads g c is =
    ap (λ (x : Unordered). map (λ (y : CompletedRule). y.name) x.rules) is.completes
    ∙ whole is.n.rules
    ∙ ap (λ (x : Resolved). map (λ (y : NamedRule). y.name) x.rules) (no_fault (first_of (faults_of g)) (names_of g) is.n is.resolves)
    ∙ numbered (roster_of g) (attr_names g) 0 (roster_of g)
    ∙ families 0 g.rules

head_by : (found : Option Rule) → or_empty (option_map head found) ≡ head_of found
head_by None = refl
head_by (Some rule) = refl

-- a rule's name in the completed grammar is the one at its head
pub name_is_head : (g : written.Grammar) (c : Unordered) (r : ℕ) → IsCompleted g c
    → name_at (map (λ (x : CompletedRule). x.name) c.rules) r ≡ head_at g r
name_is_head g c r is =
    ap (λ names. name_at names r) (heads g c is) ∙ ap or_empty (slice_get-map head (all_rules g) r) ∙ head_by (slice_get (all_rules g) r)
