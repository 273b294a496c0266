-- The laws of reading.
use Rattle.std.proofs.Common.{◌≡◌, ◌⊎◌, inl, inr, ℕ, List, [], ◌∷◌, ◌++◌, Option, Some, None, Result}
use Rattle.std.proofs.Common.{Ok, Err, refl, ap, ap₂, ◌∙◌, sym, subst, append_assoc, append-nil}
use Rattle.ipg_ast.specs.declared.grammar.Grammar.{Grammar}
use Rattle.ipg_read_tokens.specs.Lexical.{tokens_of}
use Rattle.ipg_read_tokens.specs.declared.token.Token.{Token}
use Rattle.ipg_read_tokens.specs.declared.fault.ReadFault.{ReadFault}
use Rattle.ipg_read_tokens.specs.declared.fault.ReadFault.TheVariants.{TooLong, Lex, Number, Syntax, Limit, Memory}
use Rattle.ipg_read_tokens.specs.declared.fault.Which.{Which}
use Rattle.ipg_read_syntax.specs.Classes.{classes}
use Rattle.ipg_read_syntax.specs.Written.{RuleTree, spell}
use Rattle.ipg_read_syntax.specs.Limits.{Over, sizes, first_over}
use Rattle.ipg_read_syntax.specs.Machine.{Read, verdict, start_state}
use Rattle.ipg_read_syntax.specs.Making.{trees}
use Rattle.ipg_read_syntax.specs.Grammars.{grammar_of}
use Rattle.ipg_read_syntax.specs.Reading.{ReadsTree, ReadsWithin, place_of, tokens_answer, within_answer, read_of}
use Rattle.ipg_read_syntax.specs.Laws.{IsGrammar, Begins, EndsBefore, first_place, Breaks, PassesLimit, IsOfTokens, Refused, OneGrammar}
use Rattle.ipg_read_syntax.specs.Laws.{ReadsExactly, RefusedExactly, AlwaysOneAnswer, SyntaxPlace, LimitPlace, TokensFirst}
use Rattle.ipg_read_syntax.proofs.Lexed.{FailsByTokens, tokens_fail, too_long, long_is}
use Rattle.ipg_read_syntax.proofs.Outcomes.{Outcome, by_tokens, by_syntax, by_tree, outcome, tree_taken, grammar_answer, made_grammar}

abbrev Answer : Type 0
Answer = Result Grammar ReadFault

-- ---- answers apart

abbrev IsMade : {X Y : Type 0} → Result X Y → Type 0
IsMade (Ok x) = Unit {0}
IsMade (Err y) = ⊥

not_both : {X Y : Type 0} {r : Result X Y} {x : X} {y : Y} → r ≡ Ok x → r ≡ Err y → ⊥
not_both ok err = subst IsMade (sym ok ∙ err) tt

abbrev IsSyntax : Answer → Type 0
IsSyntax (Ok g) = ⊥
IsSyntax (Err TooLong) = ⊥
IsSyntax (Err (Lex p)) = ⊥
IsSyntax (Err (Number p)) = ⊥
IsSyntax (Err (Syntax p)) = Unit {0}
IsSyntax (Err (Limit w p)) = ⊥
IsSyntax (Err Memory) = ⊥

abbrev IsLimit : Answer → Type 0
IsLimit (Err (Limit w p)) = Unit {0}
IsLimit r = ⊥

abbrev place_in : Answer → ℕ → ℕ
place_in (Ok g) n = n
place_in (Err TooLong) n = n
place_in (Err (Lex p)) n = n
place_in (Err (Number p)) n = n
place_in (Err (Syntax p)) n = p
place_in (Err (Limit w p)) n = p
place_in (Err Memory) n = n

abbrev which_in : Answer → Which → Which
which_in (Ok g) w = w
which_in (Err TooLong) w = w
which_in (Err (Lex p)) w = w
which_in (Err (Number p)) w = w
which_in (Err (Syntax p)) w = w
which_in (Err (Limit v p)) w = v
which_in (Err Memory) w = w

abbrev fault_in : {X : Type 0} → Result X ReadFault → ReadFault → ReadFault
fault_in (Ok x) f = f
fault_in (Err e) f = e

-- what the lexer finds is no fault of syntax, and none of a limit
tokens_never : (text : List ℕ) (f g : ReadFault) → tokens_of text ≡ Err f → read_of text ≡ Err g → IsOfTokens g
tokens_never text f g falls is =
    let same : f ≡ g = ap (λ r. fault_in r f) (sym (ap (tokens_answer text) falls) ∙ is) in
    subst IsOfTokens same (subst FailsByTokens falls (tokens_fail text))

-- ---- one grammar

abbrev value_in : {X Y : Type 0} → Result X Y → X → X
value_in (Ok x) d = x
value_in (Err y) d = d

abbrev rules_in : Result (Read trees) ℕ → List RuleTree → List RuleTree
rules_in (Ok r) d = r.rules
rules_in (Err n) d = d

one_tree : (text : List ℕ) (t u : List RuleTree) → ReadsTree text t → ReadsTree text u → t ≡ u
one_tree text t u rt ru =
    let tokens : rt.tokens ≡ ru.tokens = ap (λ r. value_in r rt.tokens) (sym rt.falls ∙ ru.falls) in
    let spelled : spell t ≡ spell u = rt.spelled ∙ ap classes tokens ∙ sym ru.spelled in
    ap (λ r. rules_in r t) (sym (tree_taken t rt.fits) ∙ ap (verdict trees 0 (start_state trees)) spelled ∙ tree_taken u ru.fits)

pub one_grammar : OneGrammar
one_grammar text g h rg rh = rg.is ∙ ap grammar_of (one_tree text rg.tree rh.tree rg.reads rh.reads) ∙ sym rh.is

-- ---- exactly

pub reads_within : (text : List ℕ) (tree : List RuleTree) (r : ReadsTree text tree) → first_over (sizes tree) ≡ None → read_of text ≡ Ok (grammar_of tree)
reads_within text tree r within = grammar_answer text tree r ∙ ap (within_answer text r.tokens) within ∙ made_grammar text tree r

passes_limit : (text : List ℕ) (tree : List RuleTree) (r : ReadsTree text tree) (o : Over) → first_over (sizes tree) ≡ Some o
    → read_of text ≡ Err (Limit o.which (place_of text r.tokens o.at))
passes_limit text tree r o passed = grammar_answer text tree r ∙ ap (within_answer text r.tokens) passed

read_back : (text : List ℕ) (g : Grammar) → read_of text ≡ Ok g → Outcome text → ReadsWithin text g
read_back text g is (by_tokens f falls) = absurd (not_both is (ap (tokens_answer text) falls))
read_back text g is (by_syntax place broken fails) = absurd (not_both is fails)
read_back text g is (by_tree tree r) = go (first_over (sizes tree)) refl
  where
    go : (o : Option Over) → first_over (sizes tree) ≡ o → ReadsWithin text g
    go (Some o) passed = absurd (not_both is (passes_limit text tree r o passed))
    go None within = record { tree = tree; reads = r; is = ap (λ a. value_in a g) (sym is ∙ reads_within text tree r within); within = within }

pub reads_exactly : ReadsExactly
reads_exactly text g = (λ is. read_back text g is (outcome text), λ r. reads_within text r.tree r.reads r.within ∙ ap Ok (sym r.is))

-- ---- the place of a fault of syntax

-- two ways to part a list
data Parts (A : Type 0) (b a c d : List A) : Type 0 where
  alike : a ≡ d → Parts A b a c d
  shorter : (x : A) (mid : List A) → c ≡ b ++ (x ∷ mid) → a ≡ x ∷ (mid ++ d) → Parts A b a c d
  longer : (x : A) (mid : List A) → b ≡ c ++ (x ∷ mid) → d ≡ x ∷ (mid ++ a) → Parts A b a c d

abbrev head_or : {A : Type 0} → List A → A → A
head_or [] x = x
head_or (y ∷ ys) x = y

abbrev tail_of : {A : Type 0} → List A → List A
tail_of [] = []
tail_of (y ∷ ys) = ys

parts : {A : Type 0} (b a c d : List A) → b ++ a ≡ c ++ d → Parts A b a c d
parts [] a [] d same = alike same
parts [] a (x ∷ c) d same = shorter x c refl same
parts (x ∷ b) a [] d same = longer x b refl (sym same)
parts {A = A} (x ∷ b) a (y ∷ c) d same = go (parts b a c d (ap tail_of same))
  where
    heads : x ≡ y
    heads = ap (λ l. head_or l x) same

    go : Parts A b a c d → Parts A (x ∷ b) a (y ∷ c) d
    go (alike e) = alike e
    go (shorter z mid e f) = shorter z mid (ap₂ (λ h t. h ∷ t) (sym heads) e) f
    go (longer z mid e f) = longer z mid (ap₂ (λ h t. h ∷ t) heads e) f

-- what begins with more begins with less
less_begins : (before : List Token) (x : Token) (mid : List Token) → Begins (before ++ (x ∷ mid)) → Begins (before ++ (x ∷ []))
less_begins before x mid b = record {
  more = mid ++ b.more;
  grammar = subst IsGrammar (append_assoc before (x ∷ mid) b.more ∙ sym (append_assoc before (x ∷ []) (mid ++ b.more))) b.grammar;
}

never_shorter : (b a c d : List Token) (x : Token) (mid : List Token) → c ≡ b ++ (x ∷ mid) → a ≡ x ∷ (mid ++ d) → EndsBefore b a → Begins c → ⊥
never_shorter b a c d x mid e f ends begins =
    let no : Begins (b ++ (x ∷ [])) → ⊥ = subst (EndsBefore b) f ends in
    no (less_begins b x mid (subst Begins e begins))

one_place : (text : List ℕ) (p q : ℕ) → Breaks text p → Breaks text q → p ≡ q
one_place text p q bp bq = bp.is ∙ go (parts bp.before bp.after bq.before bq.after (ap (λ r. value_in r []) (sym bp.falls ∙ bq.falls))) ∙ sym bq.is
  where
    go : Parts Token bp.before bp.after bq.before bq.after → first_place text bp.after ≡ first_place text bq.after
    go (alike e) = ap (first_place text) e
    go (shorter x mid e f) = absurd (never_shorter bp.before bp.after bq.before bq.after x mid e f bp.stops bq.begins)
    go (longer x mid e f) = absurd (never_shorter bq.before bq.after bp.before bp.after x mid e f bq.stops bp.begins)

-- a grammar does not break
never_breaks : (text : List ℕ) (tree : List RuleTree) (p : ℕ) → ReadsTree text tree → Breaks text p → ⊥
never_breaks text tree p r b = go b.after refl b.stops
  where
    tokens : r.tokens ≡ b.before ++ b.after
    tokens = ap (λ l. value_in l []) (sym r.falls ∙ b.falls)

    go : (after : List Token) → b.after ≡ after → EndsBefore b.before after → ⊥
    go [] none ends = ends
        (record { tree = tree; fits = r.fits; spelled = r.spelled ∙ ap classes (tokens ∙ ap (λ a. b.before ++ a) none ∙ append-nil b.before) })
    go (t ∷ after) here ends = ends (record {
      more = after;
      grammar = record {
        tree = tree;
        fits = r.fits;
        spelled = r.spelled ∙ ap classes (tokens ∙ ap (λ a. b.before ++ a) here ∙ sym (append_assoc b.before (t ∷ []) after));
      };
    })

syntax_back : (text : List ℕ) (place : ℕ) → read_of text ≡ Err (Syntax place) → Outcome text → Breaks text place
syntax_back text place is (by_tokens f falls) = absurd (tokens_never text f (Syntax place) falls is)
syntax_back text place is (by_syntax p broken fails) = subst (Breaks text) (ap (λ a. place_in a p) (sym fails ∙ is)) broken
syntax_back text place is (by_tree tree r) = go (first_over (sizes tree)) refl
  where
    go : (o : Option Over) → first_over (sizes tree) ≡ o → Breaks text place
    go (Some o) passed = absurd (subst IsSyntax (sym is ∙ passes_limit text tree r o passed) tt)
    go None within = absurd (not_both (reads_within text tree r within) is)

syntax_on : (text : List ℕ) (place : ℕ) → Breaks text place → Outcome text → read_of text ≡ Err (Syntax place)
syntax_on text place b (by_tokens f falls) = absurd (not_both b.falls falls)
syntax_on text place b (by_syntax p broken fails) = fails ∙ ap (λ q. Err (Syntax q)) (one_place text p place broken b)
syntax_on text place b (by_tree tree r) = absurd (never_breaks text tree place r b)

pub syntax_place : SyntaxPlace
syntax_place text place = (λ is. syntax_back text place is (outcome text), λ b. syntax_on text place b (outcome text))

-- ---- the place of a limit's fault

limit_back : (text : List ℕ) (which : Which) (place : ℕ) → read_of text ≡ Err (Limit which place) → Outcome text → PassesLimit text which place
limit_back text which place is (by_tokens f falls) = absurd (tokens_never text f (Limit which place) falls is)
limit_back text which place is (by_syntax p broken fails) = absurd (subst IsSyntax (sym fails ∙ is) tt)
limit_back text which place is (by_tree tree r) = go (first_over (sizes tree)) refl
  where
    go : (o : Option Over) → first_over (sizes tree) ≡ o → PassesLimit text which place
    go (Some o) passed =
        let same : Err (Limit which place) ≡ Err (Limit o.which (place_of text r.tokens o.at)) = sym is ∙ passes_limit text tree r o passed in
        record {
          tree = tree;
          reads = r;
          at = o.at;
          first = passed ∙ ap (λ w. Some (record { which = w; at = o.at })) (sym (ap (λ a. which_in a which) same));
          is = ap (λ a. place_in a place) same;
        }
    go None within = absurd (not_both (reads_within text tree r within) is)

pub limit_place : LimitPlace
limit_place text which place = (
  λ is. limit_back text which place is (outcome text),
  λ p. passes_limit text p.tree p.reads (record { which = which; at = p.at }) p.first ∙ ap (λ q. Err (Limit which q)) (sym p.is),
)

-- a fault of the tokens is none of a grammar
tokens_back : (text : List ℕ) (fault : ReadFault) → IsOfTokens fault → read_of text ≡ Err fault → Outcome text → tokens_of text ≡ Err fault
tokens_back text fault of_tokens is (by_tokens f falls) =
    let same : f ≡ fault = ap (λ a. fault_in a f) (sym (ap (tokens_answer text) falls) ∙ is) in
    falls ∙ ap Err same
tokens_back text fault of_tokens is (by_syntax p broken fails) =
    absurd (subst IsOfTokens (ap (λ a. fault_in a fault) (sym is ∙ fails)) of_tokens)
tokens_back text fault of_tokens is (by_tree tree r) = go (first_over (sizes tree)) refl
  where
    go : (o : Option Over) → first_over (sizes tree) ≡ o → tokens_of text ≡ Err fault
    go (Some o) passed = absurd (subst IsOfTokens (ap (λ a. fault_in a fault) (sym is ∙ passes_limit text tree r o passed)) of_tokens)
    go None within = absurd (not_both (reads_within text tree r within) is)

pub tokens_first : TokensFirst
tokens_first text fault =
    (λ falls. (subst FailsByTokens falls (tokens_fail text), ap (tokens_answer text) falls), λ both. tokens_back text fault both.0 both.1 (outcome text))

-- ---- refusals

never_memory : (text : List ℕ) → read_of text ≡ Err Memory → Outcome text → ⊥
never_memory text is (by_tokens f falls) = tokens_never text f Memory falls is
never_memory text is (by_syntax p broken fails) = subst IsSyntax (sym fails ∙ is) tt
never_memory text is (by_tree tree r) = go (first_over (sizes tree)) refl
  where
    go : (o : Option Over) → first_over (sizes tree) ≡ o → ⊥
    go (Some o) passed = subst IsLimit (sym (passes_limit text tree r o passed) ∙ is) tt
    go None within = not_both (reads_within text tree r within) is

refused_of : (text : List ℕ) (fault : ReadFault) → read_of text ≡ Err fault → Refused text fault
refused_of text TooLong is = too_long text ((tokens_first text TooLong).1 (tt, is))
refused_of text (Lex at) is = (tokens_first text (Lex at)).1 (tt, is)
refused_of text (Number at) is = (tokens_first text (Number at)).1 (tt, is)
refused_of text (Syntax at) is = (syntax_place text at).0 is
refused_of text (Limit which at) is = (limit_place text which at).0 is
refused_of text Memory is = never_memory text is (outcome text)

refused_is : (text : List ℕ) (fault : ReadFault) → Refused text fault → read_of text ≡ Err fault
refused_is text TooLong long = ((tokens_first text TooLong).0 (long_is text long)).1
refused_is text (Lex at) falls = ((tokens_first text (Lex at)).0 falls).1
refused_is text (Number at) falls = ((tokens_first text (Number at)).0 falls).1
refused_is text (Syntax at) breaks = (syntax_place text at).1 breaks
refused_is text (Limit which at) passes = (limit_place text which at).1 passes
refused_is text Memory never = absurd never

pub refused_exactly : RefusedExactly
refused_exactly text fault = (refused_of text fault, refused_is text fault)

some_answer : (text : List ℕ) (r : Answer) → read_of text ≡ r → ((g : Grammar) × ReadsWithin text g) ⊎ ((fault : ReadFault) × Refused text fault)
some_answer text (Ok g) is = inl (g, (reads_exactly text g).0 is)
some_answer text (Err fault) is = inr (fault, refused_of text fault is)

pub always_one_answer : AlwaysOneAnswer
always_one_answer text = record {
  some = some_answer text (read_of text) refl;
  apart = λ g fault reads refused. not_both ((reads_exactly text g).1 reads) (refused_is text fault refused);
  one = λ fault other first second. ap (λ r. fault_in r fault) (sym (refused_is text fault first) ∙ refused_is text other second);
}
