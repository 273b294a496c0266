-- What the log is told of while each form is read, where `at` is the number of its first token.
use Rattle.std.proofs.Common.{ℕ, ◌+◌, List, [], ◌∷◌}
use Rattle.ipg_read_syntax.specs.Written.{ExprTree, PlaceTree, anywhere, long, ends, SlotTree, CaseTree, TermTree, slot_term, set_term}
use Rattle.ipg_read_syntax.specs.Written.{test_term, repeat_term, many_term, pick_term, LocalTree, AltTree, RuleTree, spell_expr, spell_case}
use Rattle.ipg_read_syntax.specs.Written.{spell_cases, spell_term, spell_terms, spell_local, spell_alt, spell_rule}
use Rattle.ipg_read_syntax.specs.Limits.{past}
use Rattle.ipg_read_syntax.specs.Machine.{Acts}
use Rattle.ipg_read_syntax.specs.Making.{expr_by, term_by, terms_by, locals_by}

module _ (A : Acts) where
  abbrev pub log_expr : ℕ → ExprTree → A.Log → A.Log
  log_expr at e log = A.saw_expr (expr_by A e) at log

  abbrev pub log_place : ℕ → PlaceTree → A.Log → A.Log
  log_place at anywhere log = log
  log_place at (long e) log = log_expr (at + 1) e log
  log_place at (ends l r) log = log_expr (past (at + 1) (spell_expr l) + 1) r (log_expr (at + 1) l log)

  abbrev pub log_slot : ℕ → SlotTree → A.Log → A.Log
  log_slot at s log = log_place (at + 1) s.place log

  abbrev pub log_case : ℕ → CaseTree → A.Log → A.Log
  log_case at c log = log_slot (past (at + 1 + 1) (spell_expr c.test) + 1) c.slot (log_expr (at + 1 + 1) c.test log)

  abbrev pub log_cases : ℕ → List CaseTree → A.Log → A.Log
  log_cases at [] log = log
  log_cases at (c ∷ cs) log = log_cases (past at (spell_case c)) cs (log_case at c log)

  abbrev pub log_term : ℕ → TermTree → A.Log → A.Log
  log_term at (slot_term s) log = log_slot at s log
  log_term at (set_term x e) log = log_expr (at + 1 + 1 + 1) e log
  log_term at (test_term span e) log = log_expr (at + 1 + 1) e log
  log_term at (repeat_term x a b i l r) log =
      let second : ℕ = past (at + 1 + 1 + 1) (spell_expr a) + 1 in
      log_place (past second (spell_expr b) + 1 + 1) (ends l r) (log_expr second b (log_expr (at + 1 + 1 + 1) a log))
  log_term at (many_term span i p) log = log_place (at + 1 + 1) p log
  log_term at (pick_term span cs other) log =
      log_slot (past (at + 1 + 1) (spell_cases cs) + 1) other (log_cases (at + 1 + 1) cs log)

  abbrev pub log_terms : A.Terms → ℕ → List TermTree → A.Log → A.Log
  log_terms before at [] log = log
  log_terms before at (t ∷ ts) log =
      log_terms (A.with_term before (term_by A t)) (past at (spell_term t)) ts (log_term at t (A.saw_term before at log))

  -- from the mark at `at` on
  abbrev pub log_local_alts : A.LocalAlts → ℕ → List (List TermTree) → A.Log → A.Log
  log_local_alts before at [] log = log
  log_local_alts before at (ts ∷ rest) log =
      log_local_alts (A.with_local_alt before (terms_by A A.no_terms ts)) (past (at + 1) (spell_terms ts)) rest
      (log_terms A.no_terms (at + 1) ts (A.saw_local_alt before (at + 1) log))

  abbrev pub log_locals : ℕ → List LocalTree → A.Log → A.Log
  log_locals at [] log = log
  log_locals at (r ∷ rs) log = log_locals (past at (spell_local r)) rs (log_local_alts A.no_local_alts (at + 1) r.alts (A.saw_rule at log))

  abbrev pub log_alt : ℕ → AltTree → A.Log → A.Log
  log_alt at a log = log_locals (past at (spell_terms a.terms) + 1 + 1) a.locals (log_terms A.no_terms at a.terms log)

  abbrev pub log_alts : A.Alts → ℕ → List AltTree → A.Log → A.Log
  log_alts before at [] log = log
  log_alts before at (a ∷ rest) log =
      log_alts (A.with_alt before (terms_by A A.no_terms a.terms) (locals_by A A.no_locals a.locals)) (past (at + 1) (spell_alt a)) rest
      (log_alt (at + 1) a (A.saw_alt before (at + 1) log))

  abbrev pub log_rules : ℕ → List RuleTree → A.Log → A.Log
  log_rules at [] log = log
  log_rules at (r ∷ rs) log = log_rules (past at (spell_rule r)) rs (log_alts A.no_alts (at + 1) r.alts (A.saw_rule at log))
