-- Where an edge is reached, its conditions have a solution.
use Rattle.std.proofs.Common.{◌≡◌, ℕ, ◌≤◌, ◌^◌, refl, sym, ap, ◌∙◌, subst, arith, List, [], ◌∷◌, ◌++◌, length, Some, Bool, true, false, true≢false}
use Rattle.std.proofs.Common.{if◌then◌else◌, pos}
use Rattle.std.specs.Prelude.{slice_get, nat_eq, ◌||◌}
use Rattle.std.proofs.lemmas.Int.{ints}
use Rattle.ipg_lin.specs.Form.{Assignment}
use Rattle.ipg_graph.specs.declared.edge.Edge.{Edge}
use Rattle.ipg_core.specs.declared.grammar.CoreAlt.{CoreAlt}
use Rattle.ipg_core.specs.Grammar.{Grammar}
use Rattle.ipg_core.specs.Environment.{Environment, Values}
use Rattle.ipg_core.specs.Meaning.{environment}
use Rattle.ipg_core.specs.MustTouch.{Marks, AreLimit}
use Rattle.ipg_core.specs.Order.{is_taken}
use Rattle.ipg_core.specs.Good.{Good}
use Rattle.ipg_core.specs.Grown.{IsInput, Grown}
use Rattle.ipg_core.specs.Laws.{LiesWithin, TouchingTouches}
use Rattle.ipg_facts_variables.specs.Variable.{caller_side}
use Rattle.ipg_facts.specs.declared.edition.Edition.TheVariants.{Later}
use Rattle.ipg_facts.specs.Reading.{Scope}
use Rattle.ipg_facts.specs.Members.{terms_members, passed_all, own_members, own_at}
use Rattle.ipg_facts.specs.Members as puts
use Rattle.ipg_facts.specs.Keep.{opening, before, alt_at, holder_facts, caller_facts, rule_facts, edge_facts}
use Rattle.ipg_facts.specs.Keep.{keep}
use Rattle.ipg_facts_laws.specs.Valued.{Valuation}
use Rattle.ipg_facts_laws.specs.Known.{AreSo, Fits}
use Rattle.ipg_facts_laws.specs.Reached.{Reached}
use Rattle.ipg_facts_laws.specs.Laws.{Solves, ReachedEdgesSolve}
use Rattle.ipg_facts_laws.proofs.Forms.{so_append}
use Rattle.ipg_facts_laws.proofs.Numbering.{facts_solve}
use Rattle.ipg_facts_laws.proofs.Ran.{terms_are_known, own_members_are_known}
use Rattle.ipg_facts_laws.proofs.Calls.{edges_call}
use Rattle.ipg_facts_laws.proofs.Results.{are_good}
use Rattle.ipg_facts_laws.proofs.Came.{same_nat}
use Rattle.ipg_facts_laws.proofs.Steps.{passed}
use Rattle.ipg_facts_laws.proofs.Ordered.{taken_still}
use Rattle.ipg_facts_laws.proofs.Works.{first_scope, at_work, Work, work}
use Rattle.ipg_facts_laws.proofs.Moments.{Moment, moment}
use Rattle.ipg_facts_laws.proofs.Holders.{alt_is}
use Rattle.ipg_facts_laws.proofs.Sides.{Sides, sides}

-- ---- the terms before one, in their order

before_by : (u w : ℕ) (rest behind : List ℕ) (b : Bool) → nat_eq w u ≡ b → (nat_eq w u ≡ true → ⊥) → before u (rest ++ u ∷ behind) ≡ rest
    → (if b then [] else w ∷ before u (rest ++ u ∷ behind)) ≡ w ∷ rest
before_by u w rest behind true e other h = absurd (other e)
before_by u w rest behind false e other h = ap (λ xs. w ∷ xs) h

same_if : (u : ℕ) (behind : List ℕ) (b : Bool) → b ≡ true → (if b then [] else u ∷ before u behind) ≡ []
same_if u behind true e = refl
same_if u behind false e = absurd (cc)

or_true : (b c : Bool) → b ≡ true → b || c ≡ true
or_true b c e = ap (λ x. x || c) e

before_is : (taken first behind : List ℕ) (u : ℕ) → is_taken (passed taken first) u ≡ false → before u (first ++ u ∷ behind) ≡ first
before_is taken [] behind u fresh = same_if u behind (nat_eq u u) (same_nat u)
before_is taken (w ∷ first) behind u fresh =
    before_by u w first behind (nat_eq w u) refl
    (λ e. true≢false (sym (taken_still (w ∷ taken) first u (or_true (nat_eq w u) (is_taken taken u) e)) ∙ fresh))
    (before_is (w ∷ taken) first behind u fresh)

-- ---- the caller

passed_terms : (s : Scope) (order : List ℕ) → (passed_all s order).terms ≡ s.terms
unfolding passed_all puts.passed
passed_terms s [] = refl
passed_terms s (u ∷ order) = passed_terms (puts.passed s u) order

module _ (lies : LiesWithin) (must : TouchingTouches) (g : Grammar) (good : Good g) (marks : Marks) (limit : AreLimit g marks) (e : Edge) (s : List ℕ)
    (outer : Values) (height : ℕ) (input : IsInput s) (grown : Grown g e.caller s outer) (reached : Reached g e s outer height) where
  abbrev place : ℕ × ℕ
  place = (e.caller, e.alt)

  abbrev caller : CoreAlt
  caller = reached.alt

  abbrev caller_scope : Scope
  caller_scope = first_scope g marks caller_side caller

  caller_work : Work g marks place caller s outer caller_side reached.before e.term reached.state
  caller_work =
      work lies must g good marks limit place reached.rule caller reached.at height s input outer caller_side reached.before reached.behind e.term
      reached.splits reached.state reached.came

  when : Moment g marks place caller s outer caller_side reached.before e.term reached.state caller_work height
      (are_good lies must g good marks limit height) input.bytes e.branch reached.term
  when =
      moment g marks place caller s outer caller_side reached.before e.term reached.state caller_work height
      (are_good lies must g good marks limit height) input.bytes e.branch reached.term reached.is_term (edges_call g e s outer height reached)

  abbrev caller_env : Environment
  caller_env = environment (at_work g place s outer) when.end when.item

  sides_of : Sides g marks place reached.rule caller s outer when.end when.item (pos 0)
  sides_of =
      sides lies must g good marks limit place reached.rule caller reached.at s input outer grown when.end when.item when.results (pos 0)
      (omega (arith, ints), omega (arith, ints))

  values : Valuation
  values = sides_of.values

  caller_fits : Fits values caller_scope caller_env
  unfolding values
  caller_fits = sides_of.fits

  caller_size : caller_env.eoi ≤ 2 ^ 30
  unfolding environment
  caller_size = input.size

  order_is : before e.term caller.order ≡ reached.before
  order_is = ap (before e.term) reached.splits ∙ before_is [] reached.before reached.behind e.term caller_work.fresh

  before_so : AreSo values (terms_members caller_scope reached.before) × Fits values (passed_all caller_scope reached.before) caller_env
  before_so = terms_are_known values caller_scope caller_env caller_fits caller_size reached.before (caller_work.ran when.end when.item when.later)

  own_so : AreSo values (own_at (passed_all caller_scope reached.before) e.term e.branch)
  own_so =
      subst (λ ts. AreSo values (own_members (passed_all caller_scope reached.before) e.branch (slice_get ts e.term)))
      (sym (passed_terms caller_scope reached.before))
      (subst (λ t. AreSo values (own_members (passed_all caller_scope reached.before) e.branch t)) (sym reached.is_term)
      (own_members_are_known values (passed_all caller_scope reached.before) caller_env before_so.1 e.branch reached.term when.calls))

  caller_so : AreSo values (caller_facts g marks Later e caller)
  unfolding caller_facts opening
  caller_so =
      subst (λ us. AreSo values (terms_members caller_scope us ++ own_at (passed_all caller_scope us) e.term e.branch)) (sym order_is)
      (so_append values (terms_members caller_scope reached.before) (own_at (passed_all caller_scope reached.before) e.term e.branch) before_so.0 own_so)

  rule_so : AreSo values (rule_facts g marks Later e (Some reached.rule) (Some caller))
  unfolding rule_facts values
  rule_so = so_append values (holder_facts g marks reached.rule.holder caller) (caller_facts g marks Later e caller) sides_of.holder caller_so

  edge_so : AreSo values (edge_facts g marks Later e)
  unfolding edge_facts
  edge_so =
      subst (λ o. AreSo values (rule_facts g marks Later e o (alt_at g place))) (sym reached.at.is_rule)
      (subst (λ o. AreSo values (rule_facts g marks Later e (Some reached.rule) o)) (sym (alt_is g place reached.rule caller reached.at)) rule_so)

  solved : (assigned : Assignment) × Solves assigned (keep g marks e) × (assigned 0 ≡ pos (length s))
  unfolding keep values
  solved = let is = facts_solve values (edge_facts g marks Later e) sides_of.ranged edge_so in (is.0, is.1, is.2 ∙ sides_of.size)

pub reached_edges_solve : LiesWithin → TouchingTouches → ReachedEdgesSolve
reached_edges_solve lies must g marks e s outer height good limit input grown reached = solved lies must g good marks limit e s outer height input grown reached
