-- A text has a core grammar by which parsing ends, or there is a reason against it.
use Rattle.std.proofs.Common.{◌≡◌, ℕ, ℤ, [], ◌⊎◌, inl, inr, refl, sym, ap, ◌∙◌, subst, List, Option, Some, None, Result, Ok, Err}
use Rattle.ipg_ast.specs.declared.grammar.Grammar as written
use Rattle.ipg_read_tokens.specs.declared.fault.ReadFault.{ReadFault}
use Rattle.ipg_read_syntax.specs.Reading.{read_of}
use Rattle.ipg_names.specs.declared.fault.NameFault.{NameFault}
use Rattle.ipg_names.specs.Fault.{first_of}
use Rattle.ipg_names.specs.Faults.{faults_of}
use Rattle.ipg_names.specs.Laws.{FaultlessIsFormed}
use Rattle.ipg_names_text.specs.Laws.{ReadIsReadable}
use Rattle.ipg_names.specs.Resolved.{Resolved, names_of}
use Rattle.ipg_complete.specs.Completion.{completed}
use Rattle.ipg_complete.specs.Laws.{CompletedIsFormed}
use Rattle.ipg_order.specs.Laws.{GoodAsOrdered}
use Rattle.ipg_complete.specs.Unordered.{core_of}
use Rattle.ipg_core.specs.Grammar.{Grammar, rule_at}
use Rattle.ipg_core.specs.Good.{WellFormed}
use Rattle.ipg_core.specs.MustTouch.{Marks, AreLimit}
use Rattle.ipg_facts_laws.specs.Bounded.{JointIsPart}
use Rattle.ipg_facts_laws.specs.Laws.{ConditionsAreParts}
use Rattle.ipg_lin.specs.Formula.{assigned}
use Rattle.ipg_proof.specs.Proves.{Accepts}
use Rattle.ipg_term.specs.Loops.{Loops}
use Rattle.ipg_touch.specs.Loose.{loose}
use Rattle.ipg_app_explain.specs.declared.why.Why.TheVariants as why
use Rattle.ipg_app_explain.specs.Terms.{term_place}
use Rattle.ipg_app_values.specs.Laws.{NotedSomehow}
use Rattle.ipg_app_values.specs.Notes.{AreNotes}
use Rattle.ipg_app_grammar.specs.Checks.{Checks, may_loop}
use Rattle.ipg_app_text.specs.CoreOf.{Answer, On, or_fault, grammar_in, unless_fault, resolved, name_of, unless_loose, OrdersAndTouches, CoreFrom, CoreOf}
use Rattle.ipg_app_grammar.specs.Explained.{Explains, explained_said}
use Rattle.ipg_app_grammar.specs.Followed.{Cleared, Clears}
use Rattle.ipg_app_text.specs.Reasons.{Reason, listed, read_reason, name_reason, IsUnordered}
use Rattle.ipg_app_grammar.specs.Judged.{cycle_places, IsRefused, Judged}
use Rattle.ipg_app_text.specs.Refusal.{circular, no_touch}
use Rattle.ipg_app_text.specs.Said.{Said}
use Rattle.ipg_app_reply_laws.proofs.Checking.{checked}
use Rattle.ipg_app_reply_laws.proofs.Classical.{Somehow, some, ◌>>=◌, by}
use Rattle.ipg_app_reply_laws.proofs.Cores.{completed_alone, completed_formed}
use Rattle.ipg_app_reply_laws.proofs.Limits.{limits}
use Rattle.ipg_app_reply_laws.proofs.Orders.{GoodOne, IsStuckFirst, good_or_stuck}

-- ---- either way

-- the grammar of a text and its core grammar, by which parsing ends
pub record IsClear (text : List ℕ) : Type 0 where
  pub grammar : written.Grammar
  pub core : Grammar
  pub reads : grammar_in text ≡ Ok grammar
  pub from : CoreFrom grammar (Ok core)
  pub accepts : Accepts core

abbrev Verdict : List ℕ → Type 0
Verdict text = IsClear text ⊎ ((reason : Reason) × Judged text (Some reason))

module _ (as_ordered : GoodAsOrdered) (are_parts : ConditionsAreParts) (is_part : JointIsPart) (noted : NotedSomehow) (text : List ℕ) (g : written.Grammar)
    (reads : grammar_in text ≡ Ok g) where
  refused : (reason : Reason) → IsRefused g reason → Verdict text
  refused reason is = inr (reason, inr (g, reads, is))

  -- ---- G13

  some_notes : (core : Grammar) (cycle : List ℕ) (values : List ℤ) (loops : Loops core cycle values)
      → Somehow ((notes : List ℕ) × AreNotes g core loops.marks cycle (assigned values 0) notes)
  some_notes core cycle values loops none = noted g core loops.marks cycle (assigned values 0) (λ notes are. none (notes, are))

  by_checks : (core : Grammar) → CoreFrom g (Ok core) → (answer : Answer) → Checks core answer → Somehow (Verdict text)
  by_checks core from (Ok same) checks =
      some (inl (record { grammar = g; core = core; reads = reads; from = from; accepts = checks.1 }))
  by_checks core from (Err said) loop = do
    notes ← some_notes core loop.cycle loop.values loop.loops
    some (refused (record {
      said = may_loop core loop.cycle (assigned loop.values 0);
      why = why.MayLoop;
      places = cycle_places g core loop.cycle;
      notes = notes.0;
    }) (inr (core, from, record { cycle = loop.cycle; values = loop.values; loops = loop.loops; notes = notes.0; noted = notes.1; is = refl })))

  -- ---- G12 and G14

  module _ (n : Resolved) (is : resolved g ≡ Ok n) where
    unordered : (reason : Reason) → IsUnordered g (completed n) reason → Verdict text
    unordered reason why = refused reason (inl (inr (n, is, why)))

    by_stuck : IsStuckFirst (core_of (completed n)) → Verdict text
    by_stuck s =
        unordered (record {
          said = circular s.first.rule.name s.at.1 s.term;
          why = why.Circular;
          places = listed (term_place g s.at.0 s.at.1 s.term);
          notes = [];
        }) (inl (record { at = s.at; term = s.term; first = s.first; is = refl }))

    by_loose : (one : GoodOne (core_of (completed n))) (marks : Marks) → AreLimit one.grammar marks → (at : Option (ℕ × ℕ × ℕ))
        → loose marks one.grammar.rules ≡ at → Somehow (Verdict text)
    by_loose one marks limit (Some at) e =
        some (unordered (record {
          said = no_touch (name_of (rule_at one.grammar at.0)) at.1 at.2;
          why = why.NoTouch;
          places = listed (term_place g at.0 at.1 at.2);
          notes = [];
        }) (inr (one.grammar, (one.good, one.same ∙ completed_alone (completed n)), record { marks = marks; limit = limit; at = at; found = e; is = refl })))
    by_loose one marks limit None e = do
      let from = subst (λ named. On named (λ m. OrdersAndTouches (completed m)) (Ok one.grammar)) (sym is) (record {
        ordered = Ok one.grammar;
        orders = (one.good, one.same ∙ completed_alone (completed n));
        touches = record { marks = marks; limit = limit; is = sym (ap (unless_loose one.grammar) e) };
      })
      answer ← checked are_parts is_part one.grammar
      by_checks one.grammar from answer.0 answer.1

    by_order : WellFormed (core_of (completed n)) → Somehow (Verdict text)
    by_order formed = do
      found ← good_or_stuck (core_of (completed n)) as_ordered formed (completed_alone (completed n))
      by found (λ one. do
        marks ← limits one.grammar
        by_loose one marks.0 marks.1 (loose marks.0 one.grammar.rules) refl) (λ stuck. some (by_stuck stuck))

  -- ---- G6 to G11

  by_names : ((n : Resolved) → resolved g ≡ Ok n → WellFormed (core_of (completed n))) → (fault : Option NameFault) → first_of (faults_of g) ≡ fault
      → Somehow (Verdict text)
  by_names formed None e =
      let is = ap (λ fault. unless_fault fault (names_of g)) e in
      by_order (names_of g) is (formed (names_of g) is)
  by_names formed (Some fault) e = some (refused (name_reason fault) (inl (inl (record { fault = fault; first = e; is = refl }))))

-- ---- the whole

module _ (readable : ReadIsReadable) (faultless : FaultlessIsFormed) (completing : CompletedIsFormed) (as_ordered : GoodAsOrdered)
    (are_parts : ConditionsAreParts) (is_part : JointIsPart) (noted : NotedSomehow) where
  by_reading : (text : List ℕ) (read : Result written.Grammar ReadFault) → read_of text ≡ read → Somehow (Verdict text)
  by_reading text (Ok g) e =
      by_names as_ordered are_parts is_part noted text g (ap or_fault e) (λ n is. completed_formed readable faultless completing as_ordered text g n e is)
      (first_of (faults_of g)) refl
  by_reading text (Err fault) e = some (inr (read_reason fault, inl (record { fault = fault; reads = e; is = refl })))

  verdict : (text : List ℕ) → Somehow (Verdict text)
  verdict text = by_reading text (read_of text) refl

  pub explains : (name text : List ℕ) → Somehow ((said : Said) × Explains name text said)
  explains name text = do
    found ← verdict text
    some (by found (λ clear. (explained_said name text None, (None, (clear.core, core_of_text text clear, clear.accepts), refl)))
        (λ refused. (explained_said name text (Some refused.0), (Some refused.0, refused.1, refl))))
    where
      core_of_text : (text : List ℕ) (clear : IsClear text) → CoreOf text (Ok clear.core)
      core_of_text text clear = subst (λ read. On read CoreFrom (Ok clear.core)) (sym clear.reads) clear.from

  pub clears : (text : List ℕ) → Somehow ((answer : Result Cleared Reason) × Clears text answer)
  clears text = do
    found ← verdict text
    some (by found (λ clear. (Ok (clear.grammar, clear.core), (clear.reads, clear.from, clear.accepts))) (λ refused. (Err refused.0, refused.1)))
