-- The limits of a grammar's size, and where a grammar first passes one; a token is named by its number.
use Rattle.std.specs.Prelude.{ℕ, ◌+◌, Bool, List, [], ◌∷◌, ◌++◌, length, Option, Some, None, nat_lt, max, if◌then◌else◌}
use Rattle.ipg_read_tokens.specs.declared.fault.Which.{Which}
use Rattle.ipg_read_tokens.specs.declared.fault.Which.TheVariants.{Rules, Alternatives, Terms, Depth}
use Rattle.ipg_read_syntax.specs.Written.{Toks, ExprTree, num, eoi, own, part, item, group, neg, isnt, two, choose, PlaceTree, anywhere, long, ends, SlotTree}
use Rattle.ipg_read_syntax.specs.Written.{CaseTree, TermTree, slot_term, set_term, test_term, repeat_term, many_term, pick_term, LocalTree, AltTree, RuleTree}
use Rattle.ipg_read_syntax.specs.Written.{spell_expr, spell_case, spell_cases, spell_term, spell_terms, spell_local, spell_alt, spell_rule}

abbrev pub depth : ExprTree → ℕ
depth (num z) = 1
depth eoi = 1
depth (own i) = 1
depth (part i f) = 1
depth (item i e f) = depth e + 1
depth (group e) = depth e + 1
depth (neg e) = depth e + 1
depth (isnt e) = depth e + 1
depth (two i a b) = max (depth a) (depth b) + 1
depth (choose c at a b) = max (depth c) (max (depth a) (depth b)) + 1

-- up to the token `at` the grammar has `count` of what is limited; or the expression that begins there has this depth
pub record Size : Type 0 where
  pub which : Which
  pub count : ℕ
  pub at : ℕ

-- the number of the token after some
abbrev pub past : ℕ → Toks → ℕ
past at [] = at
past at (t ∷ ts) = past (at + 1) ts

abbrev pub expr_size : ℕ → ExprTree → Size
expr_size at e = record { which = Depth; count = depth e; at = at }

-- the sizes of each form in the order of their tokens, where `at` is its first token

abbrev pub place_sizes : ℕ → PlaceTree → List Size
place_sizes at anywhere = []
place_sizes at (long e) = expr_size (at + 1) e ∷ []
place_sizes at (ends l r) = expr_size (at + 1) l ∷ expr_size (past (at + 1) (spell_expr l) + 1) r ∷ []

abbrev pub slot_sizes : ℕ → SlotTree → List Size
slot_sizes at s = place_sizes (at + 1) s.place

abbrev pub case_sizes : ℕ → CaseTree → List Size
case_sizes at c = expr_size (at + 1 + 1) c.test ∷ slot_sizes (past (at + 1 + 1) (spell_expr c.test) + 1) c.slot

abbrev pub cases_sizes : ℕ → List CaseTree → List Size
cases_sizes at [] = []
cases_sizes at (c ∷ cs) = case_sizes at c ++ cases_sizes (past at (spell_case c)) cs

abbrev pub term_sizes : ℕ → TermTree → List Size
term_sizes at (slot_term s) = slot_sizes at s
term_sizes at (set_term x e) = expr_size (at + 1 + 1 + 1) e ∷ []
term_sizes at (test_term span e) = expr_size (at + 1 + 1) e ∷ []
term_sizes at (repeat_term x a b i l r) =
    let second : ℕ = past (at + 1 + 1 + 1) (spell_expr a) + 1 in
    expr_size (at + 1 + 1 + 1) a ∷ expr_size second b ∷ place_sizes (past second (spell_expr b) + 1 + 1) (ends l r)
term_sizes at (many_term span i p) = place_sizes (at + 1 + 1) p
term_sizes at (pick_term span cs other) =
    cases_sizes (at + 1 + 1) cs ++ slot_sizes (past (at + 1 + 1) (spell_cases cs) + 1) other

-- after `n` terms of the alternative
abbrev pub terms_sizes : ℕ → ℕ → List TermTree → List Size
terms_sizes n at [] = []
terms_sizes n at (t ∷ ts) =
    record { which = Terms; count = n + 1; at = at } ∷ (term_sizes at t ++ terms_sizes (n + 1) (past at (spell_term t)) ts)

-- after `n` alternatives of the rule, from the mark at `at` on
abbrev pub local_alts_sizes : ℕ → ℕ → List (List TermTree) → List Size
local_alts_sizes n at [] = []
local_alts_sizes n at (ts ∷ rest) =
    record { which = Alternatives; count = n + 1; at = at + 1 }
    ∷ (terms_sizes 0 (at + 1) ts ++ local_alts_sizes (n + 1) (past (at + 1) (spell_terms ts)) rest)

-- after `k` rules of the grammar, local ones included
abbrev pub locals_sizes : ℕ → ℕ → List LocalTree → List Size
locals_sizes k at [] = []
locals_sizes k at (r ∷ rs) =
    record { which = Rules; count = k + 1; at = at }
    ∷ (local_alts_sizes 0 (at + 1) r.alts ++ locals_sizes (k + 1) (past at (spell_local r)) rs)

abbrev pub alt_sizes : ℕ → ℕ → AltTree → List Size
alt_sizes k at a = terms_sizes 0 at a.terms ++ locals_sizes k (past at (spell_terms a.terms) + 1 + 1) a.locals

abbrev pub alts_sizes : ℕ → ℕ → ℕ → List AltTree → List Size
alts_sizes k n at [] = []
alts_sizes k n at (a ∷ rest) =
    record { which = Alternatives; count = n + 1; at = at + 1 }
    ∷ (alt_sizes k (at + 1) a ++ alts_sizes (k + length a.locals) (n + 1) (past (at + 1) (spell_alt a)) rest)

abbrev pub locals_in : List AltTree → ℕ
locals_in [] = 0
locals_in (a ∷ rest) = length a.locals + locals_in rest

abbrev pub rules_sizes : ℕ → ℕ → List RuleTree → List Size
rules_sizes k at [] = []
rules_sizes k at (r ∷ rs) =
    record { which = Rules; count = k + 1; at = at }
    ∷ (alts_sizes (k + 1) 0 (at + 1) r.alts ++ rules_sizes (k + 1 + locals_in r.alts) (past at (spell_rule r)) rs)

abbrev pub sizes : List RuleTree → List Size
sizes = rules_sizes 0 0

-- ---- the limits

abbrev pub limit : Which → ℕ
limit Rules = 1024
limit Alternatives = 64
limit Terms = 256
limit Depth = 64

abbrev pub is_over : Size → Bool
is_over s = nat_lt (limit s.which) s.count

-- what is past its limit, and the token
pub record Over : Type 0 where
  pub which : Which
  pub at : ℕ

abbrev pub first_over : List Size → Option Over
first_over [] = None
first_over (s ∷ ss) = if is_over s then Some (record { which = s.which; at = s.at }) else first_over ss
