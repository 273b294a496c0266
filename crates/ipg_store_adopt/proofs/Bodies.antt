-- A body as a grammar: with no order, as it is.
use Rattle.std.proofs.Common.{◌≡◌, ℕ, Bool, false, refl, sym, ap, ◌∙◌, subst, List, [], ◌∷◌, map}
use Rattle.std.specs.Bool.{Decides}
use Rattle.std.specs.List.{AllByRecursion}
use Rattle.ipg_core.specs.declared.grammar.CoreAlt.{CoreAlt}
use Rattle.ipg_core.specs.declared.grammar.CoreRule.{CoreRule}
use Rattle.ipg_core.specs.Grammar.{Grammar}
use Rattle.ipg_core.specs.Good.{WellFormed}
use Rattle.ipg_complete.specs.Unordered as unordered
use Rattle.ipg_order.specs.Answer.{without_orders, IsFirstStuck}
use Rattle.ipg_order.specs.Laws.{OrdersOnce, GoodIsNotStuck, FormedWithout}
use Rattle.ipg_store_body.specs.declared.body.Body.{Body}
use Rattle.ipg_store_body.specs.Fits.{bare, FitsAlt, FitsRule, FitsBody}
use Rattle.ipg_store_adopt.specs.Adopted.{IsGrammarOf, HasNoGrammar, completed_alt, completed_rule, completed, grammar_in}

-- ---- a body that fits has no orders

alts_stay : (alts : List CoreAlt) → AllByRecursion FitsAlt alts → map unordered.alt_of (map completed_alt alts) ≡ alts
alts_stay [] fit = refl
alts_stay (alt ∷ alts) fit =
    let rest = alts_stay alts fit.1 in
    let one : unordered.alt_of (completed_alt alt) ≡ alt = ap (λ order. record { terms = alt.terms; order = order }) (sym fit.0.1) in
    rw (one, rest) refl

rules_stay : (rules : List CoreRule) → AllByRecursion FitsRule rules → map unordered.rule_of (map completed_rule rules) ≡ rules
rules_stay [] fit = refl
rules_stay (rule ∷ rules) fit =
    let rest = rules_stay rules fit.1 in
    let one : unordered.rule_of (completed_rule rule) ≡ rule =
    ap (λ alts. record { name = rule.name; holder = rule.holder; alts = alts }) (alts_stay rule.alts fit.0.1.1.1) in
    rw (one, rest) refl

pub stays : (body : Body) → FitsBody body → unordered.core_of (completed body) ≡ grammar_in body
stays body fits = ap (λ rules. record { rules = rules; names = body.names }) (rules_stay body.rules fits.1.1)

-- ---- grammars that are of a body

abbrev body_in : Grammar → Body
body_in g = record { names = g.names; rules = g.rules }

-- of a body exactly where it is that without orders
pub of_body : (body : Body) (g : Grammar) → without_orders g ≡ grammar_in body → bare g ≡ body
of_body body g is = ap body_in is

pub to_alone : (body : Body) (g : Grammar) → bare g ≡ body → without_orders g ≡ grammar_in body
to_alone body g is = ap grammar_in is

pub one_grammar : (once : OrdersOnce) (body : Body) (g h : Grammar) → IsGrammarOf body g → IsGrammarOf body h → g ≡ h
one_grammar once body g h is_g is_h = once g h is_g.0 is_h.0 (to_alone body g is_g.1 ∙ sym (to_alone body h is_h.1))

pub none_ill : (without : FormedWithout) (body : Body) → ¬ WellFormed (grammar_in body) → HasNoGrammar body
none_ill without body ill g is = ill (subst WellFormed (to_alone body g is.1) (without g is.0.well_formed))

pub none_stuck : (never : GoodIsNotStuck) (body : Body) (at : ℕ × ℕ) (u : ℕ) → IsFirstStuck (grammar_in body) at u → HasNoGrammar body
none_stuck never body at u stuck g is = never g at u is.0 (subst (λ h. IsFirstStuck h at u) (sym (to_alone body g is.1)) stuck)

-- ---- what tests and orders say of a body

pub ill_formed : (is : Bool) (rules : List CoreRule) (names : List (List ℕ)) (body : Body) → Decides is (WellFormed (record { rules = rules; names = names }))
    → rules ≡ body.rules → names ≡ body.names → is ≡ false → ¬ WellFormed (grammar_in body)
ill_formed is rules names body tells same_rules same_names fails well =
    let holds = tells.1 (subst (λ ns. WellFormed (record { rules = rules; names = ns })) (sym same_names)
    (subst (λ rs. WellFormed (record { rules = rs; names = body.names })) (sym same_rules) well)) in
    absurd (cc)

pub ordered : (body : Body) (fits : FitsBody body) (c : unordered.Unordered) (g : Grammar) → c ≡ completed body → without_orders g ≡ unordered.core_of c
    → bare g ≡ body
ordered body fits c g same is = of_body body g (is ∙ ap unordered.core_of same ∙ stays body fits)

pub stuck : (never : GoodIsNotStuck) (body : Body) (fits : FitsBody body) (c : unordered.Unordered) (at : ℕ × ℕ) (u : ℕ) → c ≡ completed body
    → IsFirstStuck (unordered.core_of c) at u → HasNoGrammar body
stuck never body fits c at u same is =
    none_stuck never body at u (subst (λ h. IsFirstStuck h at u) (ap unordered.core_of same ∙ stays body fits) is)
