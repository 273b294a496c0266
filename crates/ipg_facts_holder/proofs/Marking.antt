-- Calls of local rules, by marks and without.
use Rattle.std.proofs.Common.{◌≡◌, refl, ap, ◌∙◌, sym, List, [], ◌∷◌, ◌++◌, Bool, true, false, ◌||◌, ◌&&◌, ℕ, Option, Some, None}
use Rattle.std.specs.List.{list_any, flat_map}
use Rattle.ipg_core.specs.declared.grammar.CoreExpr.{CoreExpr}
use Rattle.ipg_core.specs.declared.grammar.CoreSlot.{CoreSlot}
use Rattle.ipg_core.specs.declared.grammar.CoreTerm.{CoreTerm}
use Rattle.ipg_core.specs.declared.grammar.CoreTerm.TheVariants.{Pick}
use Rattle.ipg_core.specs.declared.grammar.Sym.{Sym}
use Rattle.ipg_core.specs.declared.grammar.Sym.TheVariants.{Text, Prim, Rule}
use Rattle.ipg_core.specs.Grammar.{Grammar, rule_at, holder_of}
use Rattle.ipg_core.specs.Mention.{term_syms}
use Rattle.ipg_core.specs.MustTouch.{is_marked}
use Rattle.ipg_facts_holder.specs.Holder.{calls, calls_some, is_held}
use Rattle.ipg_facts_holder.specs.Calling.{calls_by, calls_some_by, calls_one}
use Rattle.ipg_facts_holder.proofs.Mentions.{or_assoc, or_false, or_true}

pub any_one : {A : Type 0} (p : A → Bool) (x : A) → list_any p (x ∷ []) ≡ p x
any_one p x = or_false (p x)

pub any_same : {A : Type 0} (p q : A → Bool) → ((x : A) → p x ≡ q x) → (xs : List A) → list_any p xs ≡ list_any q xs
any_same p q same [] = refl
any_same p q same (x ∷ xs) = ap (λ b. b || list_any p xs) (same x) ∙ ap (λ b. q x || b) (any_same p q same xs)

pub either : (a b c d : Bool) → (a ≡ true → b ≡ true) → (c ≡ true → d ≡ true) → a || c ≡ true → b || d ≡ true
either true b c d f k h = ap (λ x. x || d) (f refl)
either false b c d f k h = ap (λ x. b || x) (k h) ∙ or_true b

-- where each that passes one test passes another
pub any_more : {A : Type 0} (p q : A → Bool) → ((x : A) → p x ≡ true → q x ≡ true) → (xs : List A) → list_any p xs ≡ true → list_any q xs ≡ true
any_more p q more [] h = h
any_more p q more (x ∷ xs) h = either (p x) (q x) (list_any p xs) (list_any q xs) (more x) (any_more p q more xs) h

-- the symbols of a switch
any_cases : {A B : Type 0} (p : B → Bool) (f : A → B) (cases : List A) (other : B)
    → list_any p (flat_map (λ c. f c ∷ []) cases ++ other ∷ []) ≡ list_any (λ c. p (f c)) cases || p other
any_cases p f [] other = or_false (p other)
any_cases p f (c ∷ cases) other = ap (λ b. p (f c) || b) (any_cases p f cases other) ∙ sym (or_assoc (p (f c)) (list_any (λ c. p (f c)) cases) (p other))

pub any_calls : (g : Grammar) (at : Option (ℕ × ℕ)) (marks : Option (List Bool)) (cases : List (CoreExpr × CoreSlot)) (other : Sym)
    → list_any (calls_by g at marks) (flat_map (λ c. c.1.sym ∷ []) cases ++ other ∷ [])
    ≡ list_any (λ c. calls_by g at marks c.1.sym) cases || calls_by g at marks other
any_calls g at marks cases other = any_cases (calls_by g at marks) (λ c. c.1.sym) cases other

pub calls_pick : (g : Grammar) (at : Option (ℕ × ℕ)) (marks : Option (List Bool)) (cases : List (CoreExpr × CoreSlot)) (other : CoreSlot) (found : Bool)
    → found ≡ list_any (λ c. calls_by g at marks c.1.sym) cases → found || calls_by g at marks other.sym ≡ calls_some_by g at marks (Pick cases other)
unfolding calls_some_by
calls_pick g at marks cases other found e = ap (λ b. b || calls_by g at marks other.sym) e ∙ sym (any_calls g at marks cases other.sym)

-- ---- with marks and without

marked : (g : Grammar) (at : Option (ℕ × ℕ)) (marks : List Bool) (s : Sym) → calls_by g at (Some marks) s ≡ calls g at marks s
marked g at marks (Text bytes) = refl
marked g at marks (Prim prim) = refl
marked g at marks (Rule callee) = refl

pub marked_calls : (g : Grammar) (at : Option (ℕ × ℕ)) (marks : List Bool) (term : CoreTerm) → calls_some_by g at (Some marks) term ≡ calls_some g at marks term
unfolding calls_some_by calls_some
marked_calls g at marks term = any_same (calls_by g at (Some marks)) (calls g at marks) (marked g at marks) (term_syms term)

one_of_both : (a b : Bool) → a && b ≡ true → a && true ≡ true
one_of_both true b h = refl
one_of_both false b h = h

unmarked : (g : Grammar) (at : Option (ℕ × ℕ)) (marks : List Bool) (s : Sym) → calls g at marks s ≡ true → calls_by g at None s ≡ true
unmarked g at marks (Text bytes) h = h
unmarked g at marks (Prim prim) h = h
unmarked g at marks (Rule callee) h = one_of_both (is_held at (holder_of (rule_at g callee))) (is_marked marks callee) h

pub calls_without : (g : Grammar) (at : ℕ × ℕ) (marks : List Bool) (term : CoreTerm) → calls_some g (Some at) marks term ≡ true
    → calls_one g at (Some term) ≡ true
unfolding calls_some_by calls_some
calls_without g at marks term h = any_more (calls g (Some at) marks) (calls_by g (Some at) None) (unmarked g (Some at) marks) (term_syms term) h
