-- A text has a core grammar, or something refuses it.
use Rattle.std.proofs.Common.{◌≡◌, ℕ, refl, ap, ◌∙◌, subst, List, [], ◌∷◌, map, Option, Some, None, Result, Ok, Err}
use Rattle.ipg_ast.specs.declared.grammar.Grammar as written
use Rattle.ipg_read_tokens.specs.declared.fault.ReadFault.{ReadFault}
use Rattle.ipg_read_syntax.specs.Reading.{read_of}
use Rattle.ipg_names.specs.declared.fault.NameFault.{NameFault}
use Rattle.ipg_names.specs.Fault.{first_of}
use Rattle.ipg_names.specs.Faults.{faults_of}
use Rattle.ipg_names.specs.Laws.{FaultlessIsFormed}
use Rattle.ipg_names_text.specs.Laws.{ReadIsReadable}
use Rattle.ipg_names.specs.Resolved.{Resolved, names_of}
use Rattle.ipg_complete.specs.declared.completed.CompletedAlt.{CompletedAlt}
use Rattle.ipg_complete.specs.declared.completed.CompletedRule.{CompletedRule}
use Rattle.ipg_complete.specs.Completion.{completed}
use Rattle.ipg_complete.specs.Laws.{CompletedIsFormed}
use Rattle.ipg_order.specs.Laws.{GoodAsOrdered}
use Rattle.ipg_complete.specs.Unordered.{Unordered, core_of, alt_of, rule_of}
use Rattle.ipg_core.specs.declared.grammar.CoreAlt.{CoreAlt}
use Rattle.ipg_core.specs.declared.grammar.CoreRule.{CoreRule}
use Rattle.ipg_core.specs.Grammar.{Grammar}
use Rattle.ipg_core.specs.Good.{Good, WellFormed}
use Rattle.ipg_order.specs.Answer.{alt_alone, rule_alone, without_orders}
use Rattle.ipg_touch.specs.Loose.{loose}
use Rattle.ipg_app_text.specs.Said.{Said}
use Rattle.ipg_app_text.specs.Refusal.{circular}
use Rattle.ipg_app_text.specs.CoreOf.{Answer, On, grammar_in, or_fault, resolved, unless_fault, Orders, unless_loose, Touches, OrdersAndTouches, CoreFrom}
use Rattle.ipg_app_text.specs.CoreOf.{CoreOf}
use Rattle.ipg_app_reply_laws.proofs.Classical.{Somehow, some, ◌>>=◌, by}
use Rattle.ipg_app_reply_laws.proofs.Limits.{limits}
use Rattle.ipg_app_reply_laws.proofs.Orders.{good_or_stuck}

-- ---- a completed grammar has no orders

alts_alone : (alts : List CompletedAlt) → map alt_alone (map alt_of alts) ≡ map alt_of alts
alts_alone [] = refl
alts_alone (alt ∷ alts) = ap (λ xs. alt_of alt ∷ xs) (alts_alone alts)

rules_alone : (rules : List CompletedRule) → map rule_alone (map rule_of rules) ≡ map rule_of rules
rules_alone [] = refl
rules_alone (rule ∷ rules) =
    ap (λ (alts : List CoreAlt). record { name = rule.name; holder = rule.holder; alts = alts } ∷ map rule_alone (map rule_of rules)) (alts_alone rule.alts)
    ∙ ap (λ rs. rule_of rule ∷ rs) (rules_alone rules)

pub completed_alone : (c : Unordered) → without_orders (core_of c) ≡ core_of c
completed_alone c = ap (λ (rs : List CoreRule). record { rules = rs; names = c.names }) (rules_alone c.rules)

-- ---- orders and marks

orders : GoodAsOrdered → (c : Unordered) → WellFormed (core_of c) → Somehow ((answer : Answer) × Orders c answer)
orders as_ordered c formed = do
  found ← good_or_stuck (core_of c) as_ordered formed (completed_alone c)
  some (by found (λ one. (Ok one.grammar, (one.good, one.same ∙ completed_alone c)))
      (λ stuck. (Err (circular stuck.first.rule.name stuck.at.1 stuck.term), record { at = stuck.at; term = stuck.term; first = stuck.first; is = refl })))

touches : (g : Grammar) → Somehow ((answer : Answer) × Touches g answer)
touches g = do
  marks ← limits g
  some (unless_loose g (loose marks.0 g.rules), record { marks = marks.0; limit = marks.1; is = refl })

touches_on : (ordered : Answer) → Somehow ((answer : Answer) × On ordered Touches answer)
touches_on (Ok g) = touches g
touches_on (Err said) = some (Err said, refl)

pub orders_and_touches : GoodAsOrdered → (c : Unordered) → WellFormed (core_of c) → Somehow ((answer : Answer) × OrdersAndTouches c answer)
orders_and_touches as_ordered c formed = do
  ordered ← orders as_ordered c formed
  answer ← touches_on ordered.0
  some (answer.0, record { ordered = ordered.0; orders = ordered.1; touches = answer.1 })

-- ---- names

-- a grammar that is resolved is free of faults
pub record IsResolved (g : written.Grammar) (n : Resolved) : Type 0 where
  pub faultless : first_of (faults_of g) ≡ None
  pub is : names_of g ≡ n

resolved_by : (g : written.Grammar) (fault : Option NameFault) (n : Resolved) → first_of (faults_of g) ≡ fault
    → unless_fault fault (names_of g) ≡ Ok n → IsResolved g n
resolved_by g None n e is = record { faultless = e; is = cc }
resolved_by g (Some fault) n e is = absurd (cc)

module _ (readable : ReadIsReadable) (faultless : FaultlessIsFormed) (completing : CompletedIsFormed) (as_ordered : GoodAsOrdered) where
  pub completed_formed : (text : List ℕ) (g : written.Grammar) (n : Resolved) → read_of text ≡ Ok g → resolved g ≡ Ok n → WellFormed (core_of (completed n))
  completed_formed text g n reads is =
      let r = resolved_by g (first_of (faults_of g)) n refl is in
      subst (λ m. WellFormed (core_of (completed m))) r.is
      (completing (names_of g) (faultless g (readable text g reads) r.faultless))

  core_on : (text : List ℕ) (g : written.Grammar) → read_of text ≡ Ok g → (named : Result Resolved Said) → resolved g ≡ named
      → Somehow ((answer : Answer) × On named (λ n. OrdersAndTouches (completed n)) answer)
  core_on text g reads (Ok n) is = orders_and_touches as_ordered (completed n) (completed_formed text g n reads is)
  core_on text g reads (Err said) is = some (Err said, refl)

  core_in : (text : List ℕ) (read : Result written.Grammar ReadFault) → read_of text ≡ read → Somehow ((answer : Answer) × On (or_fault read) CoreFrom answer)
  core_in text (Ok g) reads = core_on text g reads (resolved g) refl
  core_in text (Err fault) reads = some (_, refl)

  -- a text has a core grammar, or is refused
  pub core : (text : List ℕ) → Somehow ((answer : Answer) × CoreOf text answer)
  core text = core_in text (read_of text) refl

-- ---- the core grammar of a text is good

good_ordered : (c : Unordered) (ordered : Answer) (g : Grammar) → Orders c ordered → On ordered Touches (Ok g) → Good g
good_ordered c (Ok h) g orders touches = loose_same (loose touches.marks h.rules) touches.is
  where
    loose_same : (at : Option (ℕ × ℕ × ℕ)) → Ok g ≡ unless_loose h at → Good g
    loose_same None e = subst Good (let same : h ≡ g = cc in same) orders.0
    loose_same (Some at) e = absurd (cc)
good_ordered c (Err said) g orders touches = absurd (cc)

good_from : (named : Result Resolved Said) (g : Grammar) → On named (λ n. OrdersAndTouches (completed n)) (Ok g) → Good g
good_from (Ok n) g h = good_ordered (completed n) h.ordered g h.orders h.touches
good_from (Err said) g h = absurd (cc)

pub core_from_good : (w : written.Grammar) (g : Grammar) → CoreFrom w (Ok g) → Good g
core_from_good w g h = good_from (resolved w) g h

good_in : (read : Result written.Grammar Said) (g : Grammar) → On read CoreFrom (Ok g) → Good g
good_in (Ok w) g h = core_from_good w g h
good_in (Err said) g h = absurd (cc)

pub core_good : (text : List ℕ) (g : Grammar) → CoreOf text (Ok g) → Good g
core_good text g h = good_in (grammar_in text) g h
