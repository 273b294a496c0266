-- What each term of an alternative needs, as lists: the terms that its expressions name, those that set the attributes
-- that it reads, and those that a local rule which it calls waits for.
use Rattle.std.specs.Prelude.{ℕ, zero, suc, ◌+◌, List, [], ◌∷◌, ◌++◌, length, flat_map, Option, Some, None, Bool, false, nat_eq, if◌then◌else◌, slice_get}
use Rattle.ipg_core.specs.declared.grammar.Sym.{Sym}
use Rattle.ipg_core.specs.declared.grammar.Sym.TheVariants as syms
use Rattle.ipg_core.specs.declared.grammar.CoreTerm.{CoreTerm}
use Rattle.ipg_core.specs.Grammar.{same_place}
use Rattle.ipg_core.specs.Mention.{term_mentions, term_syms}
use Rattle.ipg_core.specs.MustTouch.{Marks, is_marked}
use Rattle.ipg_order.specs.declared.named.Named.{Named}
use Rattle.ipg_order.specs.declared.named.Named.TheVariants.{Term, Own, Outer}
use Rattle.ipg_order.specs.Named.{named}
use Rattle.ipg_order.specs.Closure.{flag}
use Rattle.ipg_order.specs.Locals.{setter}

abbrev pub Holders : Type 0
Holders = List (Option (ℕ × ℕ))

-- a term needs another one, and never itself
abbrev pub other : ℕ → ℕ → List ℕ
other u v = if nat_eq u v then [] else v ∷ []

abbrev pub others : ℕ → Option ℕ → List ℕ
others u None = []
others u (Some v) = other u v

abbrev pub name_needs : List CoreTerm → ℕ → Named → List ℕ
name_needs terms u (Term t) = other u t
name_needs terms u (Own attr) = others u (setter 0 terms attr)
name_needs terms u (Outer attr) = []

abbrev pub is_holder : ℕ × ℕ → Option (Option (ℕ × ℕ)) → Bool
is_holder at None = false
is_holder at (Some None) = false
is_holder at (Some (Some holder)) = same_place holder at

-- the alternative holds the rule
abbrev pub is_here : Holders → ℕ × ℕ → ℕ → Bool
is_here holders at rule = is_holder at (slice_get holders rule)

abbrev pub is_set : Marks → ℕ → Bool
is_set = is_marked

-- the columns below n that are set in a row
abbrev pub row_needs : Marks → ℕ → ℕ → ℕ → List ℕ
row_needs flags row u zero = []
row_needs flags row u (suc n) = row_needs flags row u n ++ (if is_marked flags (flag row n) then other u n else [])

abbrev pub callee_needs : Holders → Marks → ℕ × ℕ → ℕ → ℕ → ℕ → List ℕ
callee_needs holders flags at n u callee = if is_here holders at callee then row_needs flags callee u n else []

abbrev pub sym_needs : Holders → Marks → ℕ × ℕ → ℕ → ℕ → Sym → List ℕ
sym_needs holders flags at n u (syms.Text bytes) = []
sym_needs holders flags at n u (syms.Prim prim) = []
sym_needs holders flags at n u (syms.Rule callee) = callee_needs holders flags at n u callee

abbrev pub syms_needs : Holders → Marks → ℕ × ℕ → List CoreTerm → ℕ → CoreTerm → List ℕ
syms_needs holders flags at terms u term = flat_map (sym_needs holders flags at (length terms) u) (term_syms term)

abbrev pub term_needs : Holders → Marks → ℕ × ℕ → List CoreTerm → ℕ → CoreTerm → List ℕ
term_needs holders flags at terms u term = flat_map (name_needs terms u) (flat_map named (term_mentions term)) ++ syms_needs holders flags at terms u term

-- of each term, the first of which has the number n
abbrev pub all_needs : Holders → Marks → ℕ × ℕ → List CoreTerm → ℕ → List CoreTerm → List (List ℕ)
all_needs holders flags at terms n [] = []
all_needs holders flags at terms n (term ∷ rest) = term_needs holders flags at terms n term ∷ all_needs holders flags at terms (n + 1) rest
