-- The place of a fault depends neither on what is made nor on the places of tokens.
use Rattle.std.proofs.Common.{◌≡◌, ℕ, List, Option, Some, None, Result, Ok, Err, refl, ap, ◌∙◌, sym}
use Rattle.ipg_read_syntax.specs.Classes.{Tok}
use Rattle.ipg_read_syntax.specs.Machine.{Acts, Read, verdict, start_state}
use Rattle.ipg_read_syntax.specs.Bare.{bare_toks}
use Rattle.ipg_read_syntax.proofs.Maps.{Maps, on_read, whole_map}

-- the actions that make nothing
abbrev pub nothing : Acts
nothing = record {
  Expr = Unit {0};
  Place = Unit {0};
  Slot = Unit {0};
  Cases = Unit {0};
  Term = Unit {0};
  Terms = Unit {0};
  LocalAlts = Unit {0};
  Locals = Unit {0};
  Alts = Unit {0};
  Rules = Unit {0};
  Log = Unit {0};
  num = λ z. tt;
  eoi = tt;
  own = λ i. tt;
  part = λ i f. tt;
  item = λ i e f. tt;
  group = λ e. tt;
  neg = λ e. tt;
  isnt = λ e. tt;
  two = λ i a b. tt;
  choose = λ c at a b. tt;
  anywhere = tt;
  long = λ e. tt;
  ends = λ l r. tt;
  slot = λ what at p. tt;
  no_cases = tt;
  with_case = λ cs c s. tt;
  slot_term = λ s. tt;
  set_term = λ x e. tt;
  test_term = λ at e. tt;
  repeat_term = λ x a b i l r. tt;
  many_term = λ at i p. tt;
  pick_term = λ at cs s. tt;
  no_terms = tt;
  with_term = λ ts t. tt;
  no_local_alts = tt;
  with_local_alt = λ las ts. tt;
  no_locals = tt;
  with_local = λ ls n las. tt;
  no_alts = tt;
  with_alt = λ alts ts ls. tt;
  no_rules = tt;
  with_rule = λ rs n alts. tt;
  blank = tt;
  saw_rule = λ at log. tt;
  saw_local_alt = λ las at log. tt;
  saw_alt = λ alts at log. tt;
  saw_term = λ ts at log. tt;
  saw_expr = λ e at log. tt;
}

to_nothing : (A : Acts) → Maps A nothing
to_nothing A = record {
  on_expr = λ e. tt;
  on_place = λ p. tt;
  on_slot = λ s. tt;
  on_cases = λ cs. tt;
  on_term = λ t. tt;
  on_terms = λ ts. tt;
  on_local_alts = λ las. tt;
  on_locals = λ ls. tt;
  on_alts = λ alts. tt;
  on_rules = λ rs. tt;
  on_log = λ log. tt;
  num = λ z. refl;
  eoi = refl;
  own = λ i. refl;
  part = λ i f. refl;
  item = λ i e f. refl;
  group = λ e. refl;
  neg = λ e. refl;
  isnt = λ e. refl;
  two = λ i a b. refl;
  choose = λ c at a b. refl;
  anywhere = refl;
  long = λ e. refl;
  ends = λ l r. refl;
  slot = λ w at p. refl;
  no_cases = refl;
  with_case = λ cs c s. refl;
  slot_term = λ s. refl;
  set_term = λ x e. refl;
  test_term = λ at e. refl;
  repeat_term = λ x a b i l r. refl;
  many_term = λ at i p. refl;
  pick_term = λ at cs s. refl;
  no_terms = refl;
  with_term = λ ts t. refl;
  no_local_alts = refl;
  with_local_alt = λ las ts. refl;
  no_locals = refl;
  with_local = λ ls n las. refl;
  no_alts = refl;
  with_alt = λ alts ts ls. refl;
  no_rules = refl;
  with_rule = λ rs n alts. refl;
  blank = refl;
  saw_rule = λ at log. refl;
  saw_local_alt = λ las at log. refl;
  saw_alt = λ alts at log. refl;
  saw_term = λ ts at log. refl;
  saw_expr = λ e at log. refl;
}

-- a verdict without what was made
abbrev pub fault : {R : Type 0} → Result R ℕ → Option ℕ
fault (Ok r) = None
fault (Err n) = Some n

fault_mapped : (A : Acts) (v : Result (Read A) ℕ) → fault v ≡ fault (on_read A nothing (to_nothing A) v)
fault_mapped A (Ok r) = refl
fault_mapped A (Err n) = refl

pub fault_plain : (A : Acts) (ts : List Tok) → fault (verdict A 0 (start_state A) ts) ≡ fault (verdict nothing 0 (start_state nothing) (bare_toks ts))
fault_plain A ts = fault_mapped A (verdict A 0 (start_state A) ts) ∙ ap fault (whole_map A nothing (to_nothing A) ts)

-- all actions find the same fault
pub same_fault : (A B : Acts) (ts : List Tok) → fault (verdict A 0 (start_state A) ts) ≡ fault (verdict B 0 (start_state B) ts)
same_fault A B ts = fault_plain A ts ∙ sym (fault_plain B ts)

-- and find it in the same tokens at other places
pub same_fault_plain : (A : Acts) (ts us : List Tok) → bare_toks ts ≡ bare_toks us
    → fault (verdict A 0 (start_state A) ts) ≡ fault (verdict A 0 (start_state A) us)
same_fault_plain A ts us same = fault_plain A ts ∙ ap (λ toks. fault (verdict nothing 0 (start_state nothing) toks)) same ∙ sym (fault_plain A us)
