-- The rules that must touch a byte: found in rounds, and their limit. Raw bytes, arrays and repetitions never count.
use Rattle.std.specs.Prelude.{◌≡◌, ℕ, zero, suc, List, [], ◌∷◌, Bool, true, false, ◌&&◌, ◌||◌, map, length, nat_lt, slice_get, Option, Some, None, ◌↔◌}
use Rattle.ipg_core.specs.declared.grammar.Sym.{Sym}
use Rattle.ipg_core.specs.declared.grammar.Sym.TheVariants.{Text, Prim, Rule}
use Rattle.ipg_core.specs.declared.grammar.CoreExpr.{CoreExpr}
use Rattle.ipg_core.specs.declared.grammar.CoreSlot.{CoreSlot}
use Rattle.ipg_core.specs.declared.grammar.CoreTerm.{CoreTerm}
use Rattle.ipg_core.specs.declared.grammar.CoreTerm.TheVariants.{Slot, Set, Test, Repeat, Many, Pick}
use Rattle.ipg_core.specs.declared.grammar.CoreAlt.{CoreAlt}
use Rattle.ipg_core.specs.declared.grammar.CoreRule.{CoreRule}
use Rattle.ipg_core.specs.Grammar.{Grammar}
use Rattle.ipg_core.specs.Touch.{width}

-- an answer for each rule, by number; no rule past the end is marked
abbrev pub Marks : Type 0
Marks = List Bool

abbrev pub or_false : Option Bool → Bool
or_false None = false
or_false (Some mark) = mark

abbrev pub is_marked : Marks → ℕ → Bool
is_marked marks r = or_false (slice_get marks r)

-- a terminal that isn't empty, a number, or a rule that is marked
abbrev pub sym_marked : Marks → Sym → Bool
sym_marked marks (Text bytes) = nat_lt 0 (length bytes)
sym_marked marks (Prim prim) = nat_lt 0 (width prim)
sym_marked marks (Rule r) = is_marked marks r

abbrev pub cases_marked : Marks → List (CoreExpr × CoreSlot) → Bool
cases_marked marks [] = true
cases_marked marks (c ∷ cases) = sym_marked marks c.1.sym && cases_marked marks cases

-- a slot of such a symbol, or a switch each of whose branches is one
abbrev pub term_marked : Marks → CoreTerm → Bool
term_marked marks (Slot slot) = sym_marked marks slot.sym
term_marked marks (Set attr e) = false
term_marked marks (Test e) = false
term_marked marks (Repeat first last item from to) = false
term_marked marks (Many item from to) = false
term_marked marks (Pick cases other) = cases_marked marks cases && sym_marked marks other.sym

-- some term touches
abbrev pub some_marked : Marks → List CoreTerm → Bool
some_marked marks [] = false
some_marked marks (term ∷ terms) = term_marked marks term || some_marked marks terms

-- each alternative has a term that touches
abbrev pub all_marked : Marks → List CoreAlt → Bool
all_marked marks [] = true
all_marked marks (alt ∷ alts) = some_marked marks alt.terms && all_marked marks alts

-- the rules that touch by the marks of the round before
abbrev pub next_round : Grammar → Marks → Marks
next_round g marks = map (λ rule. all_marked marks rule.alts) g.rules

-- no rule touches in round 0
unfoldable pub round : Grammar → ℕ → Marks
round g zero = map (λ rule. false) g.rules
round g (suc k) = next_round g (round g k)

-- some round marks the rule
pub record MustTouch (g : Grammar) (r : ℕ) : Type 0 where
  pub rounds : ℕ
  pub marked : is_marked (round g rounds) r ≡ true

-- the marks of the limit: whether each rule must touch
pub record AreLimit (g : Grammar) (marks : Marks) : Type 0 where
  pub size : length marks ≡ length g.rules
  pub exact : (r : ℕ) → (is_marked marks r ≡ true) ↔ MustTouch g r
