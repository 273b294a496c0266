-- What the tables of a good grammar rest on: its orders name terms, and rules and names come last.
use Rattle.std.proofs.Common.{◌≡◌, ℕ, zero, suc, ◌<◌, List, [], ◌∷◌, length, refl, Some, slice_get}
use Rattle.std.specs.List.{AllByRecursion}
use Rattle.ipg_core.specs.declared.grammar.CoreRule.{CoreRule}
use Rattle.ipg_core.specs.Grammar.{Grammar}
use Rattle.ipg_core.specs.Order.{InOrder, Provides}
use Rattle.ipg_core.specs.Good.{Good}
use Rattle.ipg_table.specs.declared.row.RowSpan.{RowSpan}
use Rattle.ipg_table.specs.declared.row.RuleRow.{RuleRow}
use Rattle.ipg_table.specs.Rows.{Rows, Each, Stands, HoldsRule, StandFor}
use Rattle.ipg_table.specs.Grows.{NamesTerms, Grows}
use Rattle.ipg_table.proofs.Growth.{grows_trans, each_map, rule_grow, finished}

-- what holds at each place holds of each
pub at_each : {A : Type 0} (P : A → Type 0) (xs : List A) → ((i : ℕ) (x : A) → slice_get xs i ≡ Some x → P x) → AllByRecursion P xs
at_each P [] h = tt
at_each P (x ∷ xs) h = (h zero x refl, at_each P xs (λ i y e. h (suc i) y e))

order_below : (provides : ℕ → ℕ → Type 0) (n : ℕ) (taken order : List ℕ) → InOrder provides n taken order → AllByRecursion (λ u. u < n) order
order_below provides n taken [] h = tt
order_below provides n taken (u ∷ order) h = (h.0.below, order_below provides n (u ∷ taken) order h.1)

pub names_terms : (g : Grammar) → Good g → AllByRecursion (λ (rule : CoreRule). AllByRecursion NamesTerms rule.alts) g.rules
names_terms g good = at_each (λ (rule : CoreRule). AllByRecursion NamesTerms rule.alts) g.rules (λ r rule is_rule.
    at_each NamesTerms rule.alts (λ a alt is_alt.
    order_below (Provides g (r, a) alt.terms) (length alt.terms) [] alt.order
    (good.ordered (r, a) rule alt (record { is_rule = is_rule; is_alt = is_alt }))))

-- rules and names, put to the rest
pub stands_all : (t u : Rows) (rules : List RuleRow) (names : List RowSpan) (g : Grammar) → Grows t u
    → Each (HoldsRule t) rules g.rules → Each (Stands u.bytes) names g.names → StandFor (record u { rules = rules; names = names }) g
stands_all t u rules names g grows rs ns =
    let all = record u { rules = rules; names = names } in
    record {
      rules = each_map (HoldsRule t) (HoldsRule all) (rule_grow t all (grows_trans t u all grows (finished u rules names))) rules g.rules rs;
      names = ns;
    }
