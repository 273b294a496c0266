-- Tokens that are the same but for their places read alike.
use Rattle.std.proofs.Common.{◌≡◌, ℕ, List, [], Option, None, Result, Ok, Err, refl, ap, ◌∙◌, sym, map}
use Rattle.std.proofs.lemmas.Option.{none-some}
use Rattle.ipg_ast.specs.declared.grammar.Rule.{Rule}
use Rattle.ipg_read_syntax.specs.Bare.{bare_toks, bare_rule, bare}
use Rattle.ipg_read_syntax.specs.Classes.{classes}
use Rattle.ipg_read_syntax.specs.Written.{RuleTree, Fits, spell}
use Rattle.ipg_read_syntax.specs.Grammars.{grammar_of}
use Rattle.ipg_read_syntax.specs.Limits.{Over, sizes, first_over}
use Rattle.ipg_read_syntax.specs.Machine.{Acts, Read, verdict, start_state}
use Rattle.ipg_read_syntax.specs.Counting.{counters}
use Rattle.ipg_read_syntax.specs.Making.{trees, made, rules_by}
use Rattle.ipg_read_syntax.specs.Reading.{ReadsTree}
use Rattle.ipg_read_syntax.specs.Laws.{ReadsBack, ReadsButForPlaces}
use Rattle.ipg_read_syntax.proofs.TakesRules.{takes}
use Rattle.ipg_read_syntax.proofs.Logs.{log_rules}
use Rattle.ipg_read_syntax.proofs.Maps.{Maps, on_read, whole_map}
use Rattle.ipg_read_syntax.proofs.Plain.{fault, same_fault_plain}
use Rattle.ipg_read_syntax.proofs.Runs.{OnGood, Spelled, run_spelled}
use Rattle.ipg_read_syntax.proofs.Makes.{makes_rules}
use Rattle.ipg_read_syntax.proofs.Counts.{counted}
use Rattle.ipg_read_syntax.proofs.Outcomes.{tree_taken}
use Rattle.ipg_read_syntax.proofs.Readings.{reads_within}
use Rattle.ipg_read_syntax.proofs.Bares.{bared}

-- the counters do not look at places
abbrev blind : Maps counters counters
blind = record {
  on_expr = λ e. e;
  on_place = λ p. p;
  on_slot = λ s. s;
  on_cases = λ cs. cs;
  on_term = λ t. t;
  on_terms = λ ts. ts;
  on_local_alts = λ las. las;
  on_locals = λ ls. ls;
  on_alts = λ alts. alts;
  on_rules = λ rs. rs;
  on_log = λ log. log;
  num = λ z. refl;
  eoi = refl;
  own = λ i. refl;
  part = λ i f. refl;
  item = λ i e f. refl;
  group = λ e. refl;
  neg = λ e. refl;
  isnt = λ e. refl;
  two = λ i a b. refl;
  choose = λ c at a b. refl;
  anywhere = refl;
  long = λ e. refl;
  ends = λ l r. refl;
  slot = λ w at p. refl;
  no_cases = refl;
  with_case = λ cs c s. refl;
  slot_term = λ s. refl;
  set_term = λ x e. refl;
  test_term = λ at e. refl;
  repeat_term = λ x a b i l r. refl;
  many_term = λ at i p. refl;
  pick_term = λ at cs s. refl;
  no_terms = refl;
  with_term = λ ts t. refl;
  no_local_alts = refl;
  with_local_alt = λ las ts. refl;
  no_locals = refl;
  with_local = λ ls n las. refl;
  no_alts = refl;
  with_alt = λ alts ts ls. refl;
  no_rules = refl;
  with_rule = λ rs n alts. refl;
  blank = refl;
  saw_rule = λ at log. refl;
  saw_local_alt = λ las at log. refl;
  saw_alt = λ alts at log. refl;
  saw_term = λ ts at log. refl;
  saw_expr = λ e at log. refl;
}

-- ---- two trees with the same tokens but for their places

module _ (A : Acts) (m : Maps A A) where
  taken_bare : (t : List RuleTree) → Fits t
      → on_read A A m (Ok (record { log = log_rules A 0 t A.blank; rules = rules_by A A.no_rules t })) ≡ verdict A 0 (start_state A) (bare_toks (spell t))
  taken_bare t fits = ap (on_read A A m) (sym (takes A t fits)) ∙ whole_map A A m (spell t)

  same_read : (t u : List RuleTree) → Fits t → Fits u → bare_toks (spell t) ≡ bare_toks (spell u)
      → on_read A A m (Ok (record { log = log_rules A 0 t A.blank; rules = rules_by A A.no_rules t }))
      ≡ on_read A A m (Ok (record { log = log_rules A 0 u A.blank; rules = rules_by A A.no_rules u }))
  same_read t u ft fu same = taken_bare t ft ∙ ap (verdict A 0 (start_state A)) same ∙ sym (taken_bare u fu)

abbrev over_in : Result (Read counters) ℕ → Option Over
over_in (Ok r) = r.log.over
over_in (Err n) = None

abbrev rules_in : Result (Read made) ℕ → List Rule → List Rule
rules_in (Ok r) d = r.rules
rules_in (Err n) d = d

same_over : (t u : List RuleTree) → Fits t → Fits u → bare_toks (spell t) ≡ bare_toks (spell u) → first_over (sizes t) ≡ first_over (sizes u)
same_over t u ft fu same = sym (counted t) ∙ ap over_in (same_read counters blind t u ft fu same) ∙ counted u

same_bare : (t u : List RuleTree) → Fits t → Fits u → bare_toks (spell t) ≡ bare_toks (spell u) → bare (grammar_of t) ≡ bare (grammar_of u)
same_bare t u ft fu same =
    sym (bare_by t)
    ∙ ap (λ v. record { rules = rules_in v (map bare_rule (rules_by made [] t)) }) (same_read made bared t u ft fu same)
    ∙ bare_by u
  where
    bare_by : (rs : List RuleTree) → record { rules = map bare_rule (rules_by made [] rs) } ≡ bare (grammar_of rs)
    bare_by rs = ap (λ rules. record { rules = map bare_rule rules }) (makes_rules [] rs)

-- ---- whole texts

pub reads_but_for_places : ReadsButForPlaces
reads_but_for_places text ts u falls same fits within =
    go (verdict trees 0 (start_state trees) (classes ts)) (run_spelled (classes ts) 0 (start_state trees) tt)
    (same_fault_plain trees (classes ts) (spell u) same ∙ ap fault (tree_taken u fits))
  where
    go : (v : Result (Read trees) ℕ) → OnGood (λ r. Spelled (classes ts) r.rules) v → fault v ≡ None → ReadsBack text (grammar_of u)
    go (Err n) good none = absurd (none-some n (sym none))
    go (Ok r) good none =
        let reads : ReadsTree text r.rules = record { tokens = ts; falls = falls; fits = good.fits; spelled = sym good.same } in
        let alike : bare_toks (spell r.rules) ≡ bare_toks (spell u) = ap bare_toks (sym good.same) ∙ same in
        record {
          found = grammar_of r.rules;
          answer = reads_within text r.rules reads (same_over r.rules u good.fits fits alike ∙ within);
          same = same_bare r.rules u good.fits fits alike;
        }
