-- What is written of a grammar is the body of it without its orders.
use Rattle.std.proofs.Common.{◌≡◌, ℕ, ◌<◌, ◌^◌, List, [], ◌∷◌, ◌++◌, length, map, refl, sym, ap, subst, ◌∙◌}
use Rattle.std.specs.List.{flat_map, AllByRecursion}
use Rattle.std.proofs.lemmas.List.{length-map}
use Rattle.ipg_core.specs.Grammar.{Grammar}
use Rattle.ipg_core.specs.declared.grammar.CoreTerm.{CoreTerm}
use Rattle.ipg_core.specs.declared.grammar.CoreAlt.{CoreAlt}
use Rattle.ipg_core.specs.declared.grammar.CoreRule.{CoreRule}
use Rattle.ipg_reader.specs.Laws.{IsText, AreCounted, long_text, counted_text, list_text}
use Rattle.ipg_store_body.specs.Format.{alt_text, holder_text, rule_text, body_text}
use Rattle.ipg_store_body.specs.Fits.{FitsTerm, FitsAlt, FitsRule, NestsTerm, NestsAlt, NestsRule, TermFits, AltFits, RuleFits}
use Rattle.ipg_store_body.specs.Fits.{bare_alt, bare_rule, bare, IsBody}

terms_fit : (terms : List CoreTerm) → AllByRecursion TermFits terms → AllByRecursion NestsTerm terms → AllByRecursion FitsTerm terms
unfolding TermFits
terms_fit [] are nest = tt
terms_fit (t ∷ terms) are nest = (are.0 nest.0, terms_fit terms are.1 nest.1)

alts_fit : (alts : List CoreAlt) → AllByRecursion AltFits alts → AllByRecursion NestsAlt alts → AllByRecursion FitsAlt (map bare_alt alts)
alts_fit [] are nest = tt
alts_fit (alt ∷ alts) are nest = (((are.0.0, terms_fit alt.terms are.0.1 nest.0), refl), alts_fit alts are.1 nest.1)

as_many : {A : Type 0} (f : A → A) (xs : List A) → length xs < 2 ^ 64 → length (map f xs) < 2 ^ 64
as_many f xs few = subst (λ n. n < 2 ^ 64) (sym (length-map xs f)) few

rules_fit : (rules : List CoreRule) → AllByRecursion RuleFits rules → AllByRecursion NestsRule rules → AllByRecursion FitsRule (map bare_rule rules)
rules_fit [] are nest = tt
rules_fit (rule ∷ rules) are nest = (
  (are.0.0, (are.0.1.0, (as_many bare_alt rule.alts are.0.1.1.0, alts_fit rule.alts are.0.1.1.1 nest.0))),
  rules_fit rules are.1 nest.1,
)

alts_text : (alts : List CoreAlt) → flat_map alt_text (map bare_alt alts) ≡ flat_map alt_text alts
alts_text [] = refl
alts_text (alt ∷ alts) = ap (λ w. alt_text alt ++ w) (alts_text alts)

-- as many, each spelled as before
listed : {A : Type 0} (spell : A → List ℕ) (f : A → A) (xs : List A) → flat_map spell (map f xs) ≡ flat_map spell xs
    → list_text spell (map f xs) ≡ list_text spell xs
listed spell f xs same =
    ap (λ n. long_text n ++ flat_map spell (map f xs)) (length-map xs f) ∙ ap (λ w. long_text (length xs) ++ w) same

rules_text : (rules : List CoreRule) → flat_map rule_text (map bare_rule rules) ≡ flat_map rule_text rules
rules_text [] = refl
rules_text (rule ∷ rules) =
    ap (λ w. (counted_text rule.name ++ (holder_text rule.holder ++ w)) ++ flat_map rule_text (map bare_rule rules))
    (listed alt_text bare_alt rule.alts (alts_text rule.alts))
    ∙ ap (λ w. rule_text rule ++ w) (rules_text rules)

pub is_body : (g : Grammar) (bytes : List ℕ) → AreCounted IsText g.names → AreCounted RuleFits g.rules → AllByRecursion NestsRule g.rules
    → bytes ≡ body_text g.names g.rules → IsBody (bare g) bytes
is_body g bytes names rules nest is = (
  (names, (as_many bare_rule g.rules rules.0, rules_fit g.rules rules.1 nest)),
  is ∙ ap (λ w. list_text counted_text g.names ++ w) (sym (listed rule_text bare_rule g.rules (rules_text g.rules))),
)
