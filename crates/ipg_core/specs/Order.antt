-- The order in which the terms of an alternative run: always the least that hasn't run and whose providers all have.
use Rattle.std.specs.Prelude.{◌≡◌, ◌≢◌, ℕ, ◌<◌, List, [], ◌∷◌, Bool, true, false, ◌||◌, nat_eq, Some, Contains, slice_get, ◌⊎◌}
use Rattle.ipg_core.specs.declared.grammar.Sym.TheVariants.{Prim, Rule}
use Rattle.ipg_core.specs.declared.grammar.CoreExpr.{CoreExpr}
use Rattle.ipg_core.specs.declared.grammar.CoreTerm.{CoreTerm}
use Rattle.ipg_core.specs.declared.grammar.CoreTerm.TheVariants.{Set}
use Rattle.ipg_core.specs.declared.grammar.CoreAlt.{CoreAlt}
use Rattle.ipg_core.specs.declared.grammar.CoreRule.{CoreRule}
use Rattle.ipg_core.specs.Grammar.{Grammar, rule_at, holder_of}
use Rattle.ipg_core.specs.Mention.{Mention, SeenOf, ItemOf, AfterOf, OwnOf, OuterOf, FieldOf, LoopOf, term_mentions, term_syms}

-- the term v sets the attribute
abbrev pub Sets : List CoreTerm → ℕ → ℕ → Type 0
Sets terms v attr = (e : CoreExpr) × (slice_get terms v ≡ Some (Set attr e))

-- a mention in a term needs the term v: it names v, or an attribute that v sets
abbrev pub Needs : List CoreTerm → ℕ → Mention → Type 0
Needs terms v (SeenOf term sym) = v ≡ term
Needs terms v (ItemOf term) = v ≡ term
Needs terms v (AfterOf term) = v ≡ term
Needs terms v (OwnOf attr) = Sets terms v attr
Needs terms v (OuterOf attr) = ⊥
Needs terms v (FieldOf attr) = ⊥
Needs terms v LoopOf = ⊥

-- a term of some alternative of the rule r
pub record TermOf (g : Grammar) (r : ℕ) (term : CoreTerm) : Type 0 where
  pub rule : CoreRule
  pub alt : CoreAlt
  pub is_rule : rule_at g r ≡ Some rule
  pub is_alt : Contains rule.alts alt
  pub is_term : Contains alt.terms term

-- the local rule r reads the holder's attribute, itself or through other local rules that it calls
pub data Reads (g : Grammar) (attr : ℕ) : ℕ → Type 0 where
  itself : (r : ℕ) (term : CoreTerm) → TermOf g r term → Contains (term_mentions term) (OuterOf attr) → Reads g attr r
  through : (r callee : ℕ) (holder : ℕ × ℕ) (term : CoreTerm) → TermOf g r term → Contains (term_syms term) (Rule callee)
      → holder_of (rule_at g callee) ≡ Some holder → Reads g attr callee → Reads g attr r

-- a term calls a local rule of the alternative at hand, which reads an attribute that the term v sets
pub record Passes (g : Grammar) (at : ℕ × ℕ) (terms : List CoreTerm) (term : CoreTerm) (v : ℕ) : Type 0 where
  pub callee : ℕ
  pub attr : ℕ
  pub calls : Contains (term_syms term) (Rule callee)
  pub is_local : holder_of (rule_at g callee) ≡ Some at
  pub reads : Reads g attr callee
  pub sets : Sets terms v attr

-- a mention of the term that needs v
pub record Names (terms : List CoreTerm) (term : CoreTerm) (v : ℕ) : Type 0 where
  pub mention : Mention
  pub stands : Contains (term_mentions term) mention
  pub needs : Needs terms v mention

-- the term v is a provider of the term u, in the alternative at that place
pub record Provides (g : Grammar) (at : ℕ × ℕ) (terms : List CoreTerm) (u v : ℕ) : Type 0 where
  pub other : v ≢ u
  pub term : CoreTerm
  pub is_term : slice_get terms u ≡ Some term
  pub how : Names terms term v ⊎ Passes g at terms term v

abbrev pub is_taken : List ℕ → ℕ → Bool
is_taken [] u = false
is_taken (t ∷ taken) u = nat_eq t u || is_taken taken u

-- each provider of u is taken
abbrev pub IsProvided : (ℕ → ℕ → Type 0) → List ℕ → ℕ → Type 0
IsProvided provides taken u = (v : ℕ) → provides u v → is_taken taken v ≡ true

-- u is the next of n terms: the least that isn't taken and whose providers all are
pub record IsNext (provides : ℕ → ℕ → Type 0) (n : ℕ) (taken : List ℕ) (u : ℕ) : Type 0 where
  pub below : u < n
  pub fresh : is_taken taken u ≡ false
  pub provided : IsProvided provides taken u
  pub least : (w : ℕ) → w < u → is_taken taken w ≡ false → IsProvided provides taken w → ⊥

-- the order goes on, where some are taken, until all n are
abbrev pub InOrder : (ℕ → ℕ → Type 0) → ℕ → List ℕ → List ℕ → Type 0
InOrder provides n taken [] = (u : ℕ) → u < n → is_taken taken u ≡ true
InOrder provides n taken (u ∷ order) = IsNext provides n taken u × InOrder provides n (u ∷ taken) order
