-- The three ways that reading a text may end.
use Rattle.std.proofs.Common.{◌≡◌, ℕ, List, [], ◌∷◌, ◌++◌, length, Some, None, Result, Ok, Err, refl}
use Rattle.std.proofs.Common.{ap, ◌∙◌, sym, ap₂, unwrap_or, subst, append_assoc, append-nil, arith}
use Rattle.std.proofs.lemmas.Option.{none-some}
use Rattle.ipg_read_tokens.specs.Lexical.{tokens_of}
use Rattle.ipg_read_tokens.specs.declared.token.Token.{Token}
use Rattle.ipg_read_tokens.specs.declared.fault.ReadFault.{ReadFault}
use Rattle.ipg_read_tokens.specs.declared.fault.ReadFault.TheVariants.{Syntax}
use Rattle.ipg_read_syntax.specs.Classes.{class_of, classes}
use Rattle.ipg_read_syntax.specs.Written.{Toks, RuleTree, Fits, spell}
use Rattle.ipg_read_syntax.specs.Limits.{sizes, first_over}
use Rattle.ipg_read_syntax.specs.Machine.{Read, State, verdict, start_state}
use Rattle.ipg_read_syntax.specs.Counting.{counters}
use Rattle.ipg_read_syntax.specs.Making.{trees, made}
use Rattle.ipg_read_syntax.specs.Grammars.{grammar_of}
use Rattle.ipg_read_syntax.specs.Reading.{ReadsTree, place_of, tokens_answer, counted_answer, within_answer, made_answer, read_of}
use Rattle.ipg_read_syntax.specs.Laws.{IsGrammar, Begins, EndsBefore, first_place, Breaks}
use Rattle.ipg_read_syntax.proofs.TakesRules.{takes}
use Rattle.ipg_read_syntax.proofs.Plain.{fault, same_fault}
use Rattle.ipg_read_syntax.proofs.Runs.{OnGood, OnBad, Spelled, Stuck, run_spelled, run_stuck}
use Rattle.ipg_read_syntax.proofs.Closers.{IsGood, close_pos, closers_good}
use Rattle.ipg_read_syntax.proofs.Selfs.{self_rules}
use Rattle.ipg_read_syntax.proofs.Makes.{makes_rules}
use Rattle.ipg_read_syntax.proofs.Counts.{counted}

-- ---- a grammar

pub tree_taken : (tree : List RuleTree) → Fits tree → verdict trees 0 (start_state trees) (spell tree) ≡ Ok (record { log = tt; rules = tree })
tree_taken tree fits = takes trees tree fits ∙ ap (λ rs. Ok (record { log = tt; rules = rs })) (self_rules [] tree)

-- the answer for a grammar, by its first limit passed
pub grammar_answer : (text : List ℕ) (tree : List RuleTree) (r : ReadsTree text tree) → read_of text ≡ within_answer text r.tokens (first_over (sizes tree))
grammar_answer text tree r =
    ap (tokens_answer text) r.falls
    ∙ ap (λ toks. counted_answer text r.tokens (verdict counters 0 (start_state counters) toks)) (sym r.spelled)
    ∙ ap (counted_answer text r.tokens) (takes counters tree r.fits)
    ∙ ap (within_answer text r.tokens) (counted tree)

pub made_grammar : (text : List ℕ) (tree : List RuleTree) (r : ReadsTree text tree) → within_answer text r.tokens None ≡ Ok (grammar_of tree)
made_grammar text tree r =
    ap (λ toks. made_answer text r.tokens (verdict made 0 (start_state made) toks)) (sym r.spelled)
    ∙ ap (made_answer text r.tokens) (takes made tree r.fits)
    ∙ ap (λ rules. Ok (record { rules = rules })) (makes_rules [] tree)

-- ---- no grammar

fault_err : {R : Type 0} (v : Result R ℕ) (n : ℕ) → fault v ≡ Some n → v ≡ Err n
fault_err (Ok r) n is = absurd (none-some n is)
fault_err (Err m) n is = ap Err (ap (λ o. unwrap_or o m) is)

classes_append : (xs ys : List Token) → classes (xs ++ ys) ≡ classes xs ++ classes ys
classes_append [] ys = refl
classes_append (x ∷ xs) ys = ap (λ ts. class_of x ∷ ts) (classes_append xs ys)

place_split : (text : List ℕ) (before after : List Token) → place_of text (before ++ after) (length before) ≡ first_place text after
place_split text [] [] = refl
place_split text [] (t ∷ after) = refl
place_split text (t ∷ before) after = place_split text before after

-- what was taken begins a grammar
stuck_begins : (ts : List Token) (n : ℕ) (stuck : Stuck 0 (start_state trees) ts n) → Begins stuck.read
stuck_begins ts n stuck =
    record {
      more = close_pos stuck.pos;
      grammar = go (verdict trees 0 closed (classes closing)) (closers_good 0 stuck.pos)
          (run_spelled (classes closing) 0 closed stuck.kept);
    }
  where
    closing : List Token
    closing = close_pos stuck.pos

    closed : State trees
    closed = record { log = tt; pos = stuck.pos }

    go : (v : Result (Read trees) ℕ) → IsGood v → OnGood (λ r. Spelled (Rattle.ipg_read_syntax.proofs.Taken.pos_before stuck.pos (classes closing)) r.rules) v
        → IsGrammar (stuck.read ++ closing)
    go (Ok r) good spelled =
        record { tree = r.rules; fits = spelled.fits; spelled = sym (classes_append stuck.read closing ∙ stuck.same (classes closing) ∙ spelled.same) }
    go (Err m) good spelled = absurd good

ok_err : {R : Type 0} (v : Result R ℕ) (r : R) (n : ℕ) → v ≡ Ok r → v ≡ Err n → ⊥
ok_err v r n ok err = subst IsGood (sym ok ∙ err) tt

-- no tokens of a grammar are at fault
no_fault : (toks : Toks) (n : ℕ) (tree : List RuleTree) → Fits tree → spell tree ≡ toks → verdict trees 0 (start_state trees) toks ≡ Err n → ⊥
no_fault toks n tree fits same err =
    ok_err (verdict trees 0 (start_state trees) toks) (record { log = tt; rules = tree }) n
    (ap (verdict trees 0 (start_state trees)) (sym same) ∙ tree_taken tree fits) err

-- and goes no further
stuck_ends : (ts : List Token) (n : ℕ) → verdict trees 0 (start_state trees) (classes ts) ≡ Err n → (stuck : Stuck 0 (start_state trees) ts n)
    → EndsBefore stuck.read stuck.left
stuck_ends ts n is stuck = go stuck.left refl
  where
    go : (left : List Token) → stuck.left ≡ left → EndsBefore stuck.read left
    go [] none = λ g. no_fault (classes ts) n g.tree g.fits
        (g.spelled ∙ ap classes (sym (stuck.splits ∙ ap (λ left. stuck.read ++ left) none ∙ append-nil stuck.read))) is
    go (t ∷ after) here = λ b. no_fault (classes stuck.read ++ (class_of t ∷ classes b.more)) n b.grammar.tree b.grammar.fits
        (b.grammar.spelled ∙ ap classes (append_assoc stuck.read (t ∷ []) b.more) ∙ classes_append stuck.read (t ∷ b.more))
        (stuck.stops t after (classes b.more) here)

syntax_answer : (text : List ℕ) (ts : List Token) (n : ℕ) → tokens_of text ≡ Ok ts → verdict trees 0 (start_state trees) (classes ts) ≡ Err n
    → read_of text ≡ Err (Syntax (place_of text ts n))
syntax_answer text ts n falls is =
    ap (tokens_answer text) falls
    ∙ ap (counted_answer text ts) (fault_err (verdict counters 0 (start_state counters) (classes ts)) n (same_fault counters trees (classes ts) ∙ ap fault is))

broken : (text : List ℕ) (ts : List Token) (n : ℕ) → tokens_of text ≡ Ok ts → verdict trees 0 (start_state trees) (classes ts) ≡ Err n
    → Stuck 0 (start_state trees) ts n → Breaks text (place_of text ts n)
broken text ts n falls is stuck =
    let count : n ≡ length stuck.read = omega (arith, stuck.count) in
    record {
      before = stuck.read;
      after = stuck.left;
      falls = falls ∙ ap Ok stuck.splits;
      begins = stuck_begins ts n stuck;
      stops = stuck_ends ts n is stuck;
      is = ap₂ (place_of text) stuck.splits count ∙ place_split text stuck.read stuck.left;
    }

-- ---- all texts

pub data Outcome (text : List ℕ) : Type 0 where
  by_tokens : (f : ReadFault) → tokens_of text ≡ Err f → Outcome text
  by_syntax : (place : ℕ) → Breaks text place → read_of text ≡ Err (Syntax place) → Outcome text
  by_tree : (tree : List RuleTree) → ReadsTree text tree → Outcome text

pub outcome : (text : List ℕ) → Outcome text
outcome text = of_tokens (tokens_of text) refl
  where
    of_verdict : (ts : List Token) → tokens_of text ≡ Ok ts → (v : Result (Read trees) ℕ) → verdict trees 0 (start_state trees) (classes ts) ≡ v
        → OnGood (λ r. Spelled (classes ts) r.rules) v → OnBad (Stuck 0 (start_state trees) ts) v → Outcome text
    of_verdict ts falls (Ok r) is good bad = by_tree r.rules (record { tokens = ts; falls = falls; fits = good.fits; spelled = sym good.same })
    of_verdict ts falls (Err n) is good bad = by_syntax (place_of text ts n) (broken text ts n falls is bad) (syntax_answer text ts n falls is)

    of_tokens : (l : Result (List Token) ReadFault) → tokens_of text ≡ l → Outcome text
    of_tokens (Err f) is = by_tokens f is
    of_tokens (Ok ts) is = of_verdict ts is (verdict trees 0 (start_state trees) (classes ts)) refl
        (run_spelled (classes ts) 0 (start_state trees) tt) (run_stuck ts 0 (start_state trees) tt)
