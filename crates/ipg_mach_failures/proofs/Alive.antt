-- The calls of an evaluation that has met no failure.
use Rattle.std.proofs.Common.{◌≡◌, ℕ, zero, suc, ◌<◌, refl, sym, ap, ◌∙◌, subst, arith, List, [], ◌∷◌, drop, Option, Some, None, Result, Ok, Err, false}
use Rattle.std.proofs.Common.{length}
use Rattle.std.specs.Prelude.{slice_get}
use Rattle.ipg_core.specs.declared.grammar.Sym.TheVariants.{Prim}
use Rattle.ipg_core.specs.declared.grammar.CoreTerm.{CoreTerm}
use Rattle.ipg_core.specs.declared.grammar.CoreAlt.{CoreAlt}
use Rattle.ipg_core.specs.declared.grammar.CoreRule.{CoreRule}
use Rattle.ipg_core.specs.Grammar.{Grammar, rule_at}
use Rattle.ipg_core.specs.Good.{Good, AltAt}
use Rattle.ipg_core.specs.Order.{InOrder}
use Rattle.ipg_core.specs.Run.{Stop, NoTree, OutOfRange, Deep}
use Rattle.ipg_core.specs.Meaning.{Call, Frame, State, start}
use Rattle.ipg_mach_moves.specs.Moves.{Entry, Outside, OpenCall, Highest, Works, Holds, Advance, Inside, Past, advance, at_hand, first_left, runs_on}
use Rattle.ipg_mach_moves.specs.Moves.{begins, turned}
use Rattle.ipg_mach_failures.specs.Failing.{term_fails, given_fails, failure_at, first_fails, call_fails}
use Rattle.ipg_mach_failures.specs.Laws.{MayEnter, NeverNone, is_no_tree}
use Rattle.ipg_mach_failures.proofs.Sound.{Goes, goes}

-- ---- a call at work

pub record Enters (terms : List CoreTerm) (entry : Entry) (u : ℕ) : Type 0 where
  pub term : CoreTerm
  pub is_term : slice_get terms u ≡ Some term
  pub may : MayEnter entry term

abbrev pub AreThere : List CoreTerm → List ℕ → Type 0
AreThere terms [] = Unit {0}
AreThere terms (u ∷ left) = Enters terms Outside u × AreThere terms left

abbrev pub Runs : List CoreTerm → Entry → List ℕ → Type 0
Runs terms entry [] = ⊥
Runs terms entry (u ∷ left) = Enters terms entry u × AreThere terms left

-- it has a term at hand, and it is of an alternative of the grammar
pub record Alive (g : Grammar) (c : OpenCall) : Type 0 where
  pub grammar : c.frame.grammar ≡ g
  pub rule : CoreRule
  pub alt : CoreAlt
  pub stands : AltAt g rule alt (c.frame.rule, c.frame.alt)
  pub terms : c.terms ≡ alt.terms
  pub left : Runs c.terms c.entry c.left

-- the highest call is at work, or holds an answer other than that there is no tree
abbrev pub HasSome : Grammar → Highest → Type 0
HasSome g (Works c) = Alive g c
HasSome g (Holds key answer) = is_no_tree answer ≡ false

goes_on : (g : Grammar) (c : OpenCall) (state : State) (left : List ℕ) → Alive g c → AreThere c.terms left → HasSome g (runs_on c state left)
goes_on g c state [] alive there = refl
goes_on g c state (u ∷ left) alive there =
    record { grammar = alive.grammar; rule = alive.rule; alt = alive.alt; stands = alive.stands; terms = alive.terms; left = there }

turns : (g : Grammar) (c : OpenCall) (u : ℕ) (left : List ℕ) (term : CoreTerm) → Alive g c → c.left ≡ u ∷ left → slice_get c.terms u ≡ Some term
    → AreThere c.terms left → (answer : Result Advance Stop) → Goes term answer → HasSome g (turned c answer)
turns g c u left term alive is_left is_term there (Ok (Inside entry)) may = record {
  grammar = alive.grammar;
  rule = alive.rule;
  alt = alive.alt;
  stands = alive.stands;
  terms = alive.terms;
  left = subst (Runs c.terms entry) (sym is_left) (record { term = term; is_term = is_term; may = may }, there);
}
turns g c u left term alive is_left is_term there (Ok (Past state)) may =
    goes_on g c state (drop 1 c.left) alive (subst (λ l. AreThere c.terms (drop 1 l)) (sym is_left) there)
turns g c u left term alive is_left is_term there (Err NoTree) may = absurd may
turns g c u left term alive is_left is_term there (Err OutOfRange) may = refl
turns g c u left term alive is_left is_term there (Err Deep) may = refl

none_at : (c : OpenCall) (u : ℕ) (term : CoreTerm) (given : Option CoreTerm) → given ≡ Some term
    → failure_at c u (given_fails c.frame c.state u c.entry given) ≡ None → term_fails c.frame c.state u c.entry term ≡ None
none_at c u term None is none = absurd (cc)
none_at c u term (Some one) is none =
    let same : one ≡ term = cc in
    subst (λ t. term_fails c.frame c.state u c.entry t ≡ None) same (no_miss _ none)
  where
    no_miss : (m : Option _) → failure_at c u m ≡ None → m ≡ None
    no_miss None e = refl
    no_miss (Some m) e = absurd (cc)

onward_by : (g : Grammar) (call : Call) (c : OpenCall) (left : List ℕ) → NeverNone call → Alive g c → c.left ≡ left → Runs c.terms c.entry left
    → first_fails c left ≡ None → HasSome g (turned c (first_left call c left).answer)
onward_by g call c [] never alive is runs none = absurd runs
onward_by g call c (u ∷ left) never alive is runs none =
    let one = runs.0 in
    turns g c u left one.term alive is one.is_term runs.1 _
    (subst (λ (t : Option CoreTerm). Goes one.term (advance call c.frame c.state u c.entry t).answer) (sym one.is_term)
    (goes call c.frame c.state u never c.entry one.term one.may (none_at c u one.term _ one.is_term none)))

-- a call that doesn't fail by itself goes on, if the call that it makes has a tree
pub onward : (g : Grammar) (call : Call) (c : OpenCall) → NeverNone call → Alive g c → call_fails c ≡ None
    → HasSome g (turned c (at_hand call c).answer)
onward g call c never alive none = onward_by g call c c.left never alive refl alive.left none

-- ---- the first alternative of a rule begins

there_below : (terms : List CoreTerm) (u : ℕ) → u < length terms → (term : CoreTerm) × (slice_get terms u ≡ Some term)
there_below [] u h = absurd (omega (arith, h))
there_below (term ∷ terms) zero h = (term, refl)
there_below (term ∷ terms) (suc u) h = there_below terms u (omega (arith, h))

order_there : (terms : List CoreTerm) (provides : ℕ → ℕ → Type 0) (n : ℕ) (taken order : List ℕ) → n ≡ length terms → InOrder provides n taken order
    → AreThere terms order
order_there terms provides n taken [] size h = tt
order_there terms provides n taken (u ∷ order) size h =
    let one = there_below terms u (subst (λ k. u < k) size h.0.below) in
    (record { term = one.0; is_term = one.1; may = tt }, order_there terms provides n (u ∷ taken) order size h.1)

begins_by : (g : Grammar) (f : Frame) (from : ℕ) (rule : CoreRule) (alts : List CoreAlt) → Good g → f.grammar ≡ g → f.alt ≡ 0
    → rule_at g f.rule ≡ Some rule → rule.alts ≡ alts → HasSome g (begins f from alts)
begins_by g f from rule [] good is first is_rule is_alts =
    let some = (good.well_formed.rules f.rule rule is_rule).some in
    let none = ap length is_alts in absurd (omega (arith, some, none))
begins_by g f from rule (alt ∷ alts) good is first is_rule is_alts =
    let at : AltAt g rule alt (f.rule, f.alt) =
    record { is_rule = is_rule; is_alt = ap (λ n. slice_get rule.alts n) first ∙ ap (λ l. slice_get l 0) is_alts } in
    started alt.order (order_there alt.terms _ (length alt.terms) [] alt.order refl (good.ordered (f.rule, f.alt) rule alt at)) at
  where
    started : (order : List ℕ) → AreThere alt.terms order → AltAt g rule alt (f.rule, f.alt)
        → HasSome g (runs_on (record { frame = f; from = from; terms = alt.terms; alts = alts; state = start (length alt.terms); left = []; entry = Outside })
        (start (length alt.terms)) order)
    started [] there at = refl
    started (u ∷ order) there at = record { grammar = is; rule = rule; alt = alt; stands = at; terms = refl; left = there }

pub begins_alive : (g : Grammar) (f : Frame) (from : ℕ) (rule : CoreRule) → Good g → f.grammar ≡ g → f.alt ≡ 0 → rule_at g f.rule ≡ Some rule
    → HasSome g (begins f from rule.alts)
begins_alive g f from rule good is first is_rule = begins_by g f from rule rule.alts good is first is_rule refl
