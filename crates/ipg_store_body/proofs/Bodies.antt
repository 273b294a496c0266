-- Bodies are read exactly.
use Rattle.std.proofs.Common.{◌≡◌, ℕ, suc, ◌<◌, List, [], ◌∷◌, ◌++◌, get_or, Result, Ok, Err, refl, sym, ap, subst, ◌∙◌}
use Rattle.std.specs.Prelude.{MatchResult}
use Rattle.ipg_core.specs.declared.grammar.Sym.{Sym}
use Rattle.ipg_core.specs.declared.grammar.CoreExpr.{CoreExpr}
use Rattle.ipg_core.specs.declared.grammar.CoreSlot.{CoreSlot}
use Rattle.ipg_core.specs.declared.grammar.CoreTerm.{CoreTerm}
use Rattle.ipg_core.specs.declared.grammar.CoreTerm.TheVariants as term
use Rattle.ipg_core.specs.declared.grammar.CoreAlt.{CoreAlt}
use Rattle.ipg_core.specs.declared.grammar.CoreRule.{CoreRule}
use Rattle.ipg_reader.specs.declared.fault.Fault.{Fault}
use Rattle.ipg_reader.specs.declared.fault.Fault.TheVariants.{At, Memory}
use Rattle.ipg_reader.specs.Found.{Found, chain, tag_at, Ends, whole_of}
use Rattle.ipg_reader.specs.Exact.{AreBytes, IsExact}
use Rattle.ipg_reader.specs.Laws.{ShortAreExact, LongAreExact, SignedAreExact, TextsAreExact}
use Rattle.ipg_reader.specs.Chains.{IsBehind, exact_tagged}
use Rattle.ipg_reader.specs.Whole.{settled, settled_back}
use Rattle.ipg_store_body.specs.declared.body.Body.{Body}
use Rattle.ipg_store_body.specs.declared.tag.TermTag.{TermTag}
use Rattle.ipg_store_body.specs.declared.tag.TermTag.TheVariants as term_tag
use Rattle.ipg_store_body.specs.Format.{expr_text, slot_text, case_text, term_text, alt_text, rule_text}
use Rattle.ipg_reader.specs.Faults.{IsFault}
use Rattle.ipg_store_body.specs.Fits.{FitsExpr, FitsSlot, FitsCase, FitsTerm, FitsAlt, FitsRule, FitsBody, IsBody, spelled}
use Rattle.ipg_store_body.specs.Reading.{term_tags, whole_expr_at, slot_at, case_at, array_at, term_fields, term_at, alt_at, rule_at, body_at}
use Rattle.ipg_store_body.proofs.Codec.{Codec, pair, many, behind, again, of_parts}
use Rattle.ipg_store_body.proofs.Symbols.{short, syms, holders, texts}
use Rattle.ipg_store_body.proofs.Exprs.{exprs_exact}

module _ (short_is : ShortAreExact) (long_is : LongAreExact) (signed_is : SignedAreExact) (texts_are : TextsAreExact) where
  pub exact_exprs : IsExact FitsExpr expr_text whole_expr_at
  exact_exprs = exprs_exact short_is signed_is texts_are 399

  abbrev exprs : Codec CoreExpr
  exprs = record { Is = FitsExpr; spell = expr_text; read = whole_expr_at; exact = exact_exprs }

  abbrev interval : Codec (CoreExpr × CoreExpr)
  interval = pair exprs exprs

  exact_slots : IsExact FitsSlot slot_text slot_at
  unfolding slot_at
  exact_slots = of_parts (pair (syms short_is texts_are) interval) (λ x. record { sym = x.0; from = x.1.0; to = x.1.1 }) FitsSlot slot_text
      (λ x is. is) (λ x is. refl) (λ slot is. ((slot.sym, (slot.from, slot.to)), is, refl))

  abbrev slots : Codec CoreSlot
  slots = record { Is = FitsSlot; spell = slot_text; read = slot_at; exact = exact_slots }

  exact_cases : IsExact FitsCase case_text case_at
  unfolding case_at
  exact_cases = (pair exprs slots).exact

  abbrev cases : Codec (CoreExpr × CoreSlot)
  cases = record { Is = FitsCase; spell = case_text; read = case_at; exact = exact_cases }

  -- ---- terms

  abbrev place : TermTag → ℕ
  place term_tag.Slot = 0
  place term_tag.Set = 1
  place term_tag.Test = 2
  place term_tag.Repeat = 3
  place term_tag.Pick = 4
  place term_tag.Many = 5

  abbrev sets : Codec (ℕ × CoreExpr)
  sets = pair (short short_is) exprs

  abbrev items : Codec (Sym × (CoreExpr × CoreExpr))
  items = pair (syms short_is texts_are) interval

  abbrev arrays : Codec (CoreExpr × (CoreExpr × (Sym × (CoreExpr × CoreExpr))))
  arrays = pair exprs (pair exprs items)

  abbrev picks : Codec (List (CoreExpr × CoreSlot) × CoreSlot)
  picks = pair (many long_is cases) slots

  terms_behind : (tag : TermTag) → IsBehind FitsTerm term_text (place tag) (term_fields tag)
  unfolding term_fields array_at
  terms_behind term_tag.Slot = behind slots term.Slot FitsTerm term_text 0 (λ x is. is) (λ x is. refl)
  terms_behind term_tag.Set = behind sets (λ x. term.Set x.0 x.1) FitsTerm term_text 1 (λ x is. is) (λ x is. refl)
  terms_behind term_tag.Test = behind exprs term.Test FitsTerm term_text 2 (λ x is. is) (λ x is. refl)
  terms_behind term_tag.Repeat =
      behind arrays (λ x. term.Repeat x.0 x.1.0 x.1.1.0 x.1.1.1.0 x.1.1.1.1) FitsTerm term_text 3 (λ x is. is) (λ x is. refl)
  terms_behind term_tag.Pick = behind picks (λ x. term.Pick x.0 x.1) FitsTerm term_text 4 (λ x is. is) (λ x is. refl)
  terms_behind term_tag.Many = behind items (λ x. term.Many x.0 x.1.0 x.1.1) FitsTerm term_text 5 (λ x is. is) (λ x is. refl)

  terms_again : (t : CoreTerm) (more : List ℕ) → FitsTerm t → chain (tag_at term_tags) term_fields (term_text t ++ more) ≡ Ok (t, more)
  unfolding term_fields array_at
  terms_again (term.Slot slot) more is = again slots term.Slot slot more is
  terms_again (term.Set attr value) more is = again sets (λ x. term.Set x.0 x.1) (attr, value) more is
  terms_again (term.Test test) more is = again exprs term.Test test more is
  terms_again (term.Repeat first last item from to) more is =
      again arrays (λ x. term.Repeat x.0 x.1.0 x.1.1.0 x.1.1.1.0 x.1.1.1.1) (first, (last, (item, (from, to)))) more is
  terms_again (term.Pick branches other) more is = again picks (λ x. term.Pick x.0 x.1) (branches, other) more is
  terms_again (term.Many item from to) more is = again items (λ x. term.Many x.0 x.1.0 x.1.1) (item, (from, to)) more is

  exact_terms : IsExact FitsTerm term_text term_at
  unfolding term_at
  exact_terms = exact_tagged term_tag.Slot (term_tag.Set ∷ term_tag.Test ∷ term_tag.Repeat ∷ term_tag.Pick ∷ term_tag.Many ∷ []) place
      (refl, (refl, (refl, (refl, (refl, (refl, tt)))))) FitsTerm term_text term_fields terms_behind terms_again

  abbrev terms : Codec CoreTerm
  terms = record { Is = FitsTerm; spell = term_text; read = term_at; exact = exact_terms }

  -- ---- alternatives, rules and bodies

  exact_alts : IsExact FitsAlt alt_text alt_at
  unfolding alt_at
  exact_alts = of_parts (many long_is terms) (λ xs. record { terms = xs; order = [] }) FitsAlt alt_text
      (λ xs is. (is, refl)) (λ xs is. refl) (λ alt is. (alt.terms, is.0, ap (λ o. record { terms = alt.terms; order = o }) (sym is.1)))

  abbrev alts : Codec CoreAlt
  alts = record { Is = FitsAlt; spell = alt_text; read = alt_at; exact = exact_alts }

  exact_rules : IsExact FitsRule rule_text rule_at
  unfolding rule_at
  exact_rules = of_parts (pair (texts short_is texts_are) (pair (holders short_is) (many long_is alts)))
      (λ x. record { name = x.0; holder = x.1.0; alts = x.1.1 }) FitsRule rule_text
      (λ x is. is) (λ x is. refl) (λ rule is. ((rule.name, (rule.holder, rule.alts)), is, refl))

  abbrev rules : Codec CoreRule
  rules = record { Is = FitsRule; spell = rule_text; read = rule_at; exact = exact_rules }

  pub exact_bodies : IsExact FitsBody spelled body_at
  unfolding body_at
  exact_bodies = of_parts (pair (many long_is (texts short_is texts_are)) (many long_is rules)) (λ x. record { names = x.0; rules = x.1 })
      FitsBody spelled (λ x is. is) (λ x is. refl) (λ body is. ((body.names, body.rules), is, refl))

  -- ---- bytes are the body of one grammar

  abbrev value_in : Body → Found Body → Body
  value_in other (Ok found) = found.0
  value_in other (Err left) = other

  pub one_body : (text : List ℕ) (a b : Body) → IsBody a text → IsBody b text → a ≡ b
  one_body text a b is_a is_b =
      ap (value_in a)
      (sym (exact_bodies.again a [] is_a.0) ∙ ap (λ t. body_at (t ++ [])) (sym is_a.1 ∙ is_b.1) ∙ exact_bodies.again b [] is_b.0)

  -- ---- what a reader of all bytes answers

  abbrev Says : List ℕ → Result Body Fault → Type 0
  Says text r = MatchResult r (λ body. IsBody body text) (λ fault. IsFault FitsBody spelled text fault)

  module _ (text : List ℕ) (are : AreBytes text) where
    says : (r : Result Body Fault) (o : Result Body ℕ) → o ≡ whole_of text (body_at text) → Ends o r → Says text r
    says (Ok body) o is ends =
        subst (λ s. MatchResult s (λ b. IsBody b text) (λ at. IsFault FitsBody spelled text (At at))) (sym is ∙ ends)
        (settled FitsBody spelled body_at exact_bodies text are)
    says (Err (At at)) o is ends =
        subst (λ s. MatchResult s (λ b. IsBody b text) (λ n. IsFault FitsBody spelled text (At n))) (sym is ∙ ends)
        (settled FitsBody spelled body_at exact_bodies text are)
    says (Err Memory) o is ends = tt

    pub body_says : (r : Result Body Fault) → Ends (whole_of text (body_at text)) r → Says text r
    body_says r ends = says r (whole_of text (body_at text)) refl ends

    abbrev Backs : Body → Result Body Fault → Type 0
    Backs body r = MatchResult r (λ read. read ≡ body) (λ fault. fault ≡ Memory)

    backs : (body : Body) (r : Result Body Fault) → Ends (Ok body) r → Backs body r
    backs body (Ok read) ends = sym (same read ends)
      where
        value_in : Body → Result Body ℕ → Body
        value_in other (Ok b) = b
        value_in other (Err at) = other

        same : (read : Body) → ◌≡◌ {A = Result Body ℕ} (Ok body) (Ok read) → body ≡ read
        same read e = ap (value_in body) e
    backs body (Err (At at)) ends = absurd (no_fault at ends)
      where
        is_value : Result Body ℕ → Type 0
        is_value (Ok b) = Unit {0}
        is_value (Err n) = ⊥

        no_fault : (n : ℕ) → ◌≡◌ {A = Result Body ℕ} (Ok body) (Err n) → ⊥
        no_fault n e = subst is_value e tt
    backs body (Err Memory) ends = refl

    pub body_back : (r : Result Body Fault) (body : Body) → Ends (whole_of text (body_at text)) r → IsBody body text → Backs body r
    body_back r body ends is =
        backs body r (subst (λ o. Ends o r) (settled_back FitsBody spelled body_at exact_bodies text are body is.0 is.1) ends)

-- ---- bytes as the code knows them

pub are_bytes : (xs : List ℕ) → ((i : ℕ) → get_or xs i 0 < 256) → AreBytes xs
are_bytes [] each = tt
are_bytes (x ∷ xs) each = (each 0, are_bytes xs (λ i. each (suc i)))
