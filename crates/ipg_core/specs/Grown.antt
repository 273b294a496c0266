-- What a rule may be asked in a run from the first rule: a part, and attributes that its holder may have come to.
use Rattle.std.specs.Prelude.{◌≡◌, ℕ, ◌≤◌, ◌<◌, ◌^◌, List, [], ◌∷◌, ◌++◌, length, Ok, Option, Some, None, Contains, slice_get}
use Rattle.std.specs.List.{AllByRecursion}
use Rattle.ipg_core.specs.declared.grammar.Sym.TheVariants.{Rule}
use Rattle.ipg_core.specs.declared.grammar.CoreTerm.{CoreTerm}
use Rattle.ipg_core.specs.declared.grammar.CoreAlt.{CoreAlt}
use Rattle.ipg_core.specs.declared.grammar.CoreRule.{CoreRule}
use Rattle.ipg_core.specs.Grammar.{Grammar, rule_at, holder_of}
use Rattle.ipg_core.specs.Environment.{Values}
use Rattle.ipg_core.specs.Meaning.{Frame, State, start, terms_on, den}
use Rattle.ipg_core.specs.Mention.{term_syms}
use Rattle.ipg_core.specs.Order.{TermOf}
use Rattle.ipg_core.specs.Good.{AltAt}

-- the length of the longest input
abbrev pub max_input : ℕ
max_input = 2 ^ 30

-- bytes of an input, or of a part of one
pub record IsInput (s : List ℕ) : Type 0 where
  pub size : length s ≤ max_input
  pub bytes : AllByRecursion (λ b. b < 256) s

-- an alternative of a global rule at work on some bytes
abbrev pub holder_frame : Grammar → ℕ × ℕ → List ℕ → Frame
holder_frame g holder bytes = record { grammar = g; rule = holder.0; alt = holder.1; bytes = bytes; outer = [] }

-- the holder, on a part at least as long as s, comes to a term that calls the local rule, its attributes being then `own`
pub record ComesTo (g : Grammar) (holder : ℕ × ℕ) (callee : ℕ) (s : List ℕ) (own : Values) : Type 0 where
  pub rule : CoreRule
  pub alt : CoreAlt
  pub at : AltAt g rule alt holder
  -- its part
  pub part : List ℕ
  pub input : IsInput part
  pub longer : length s ≤ length part
  -- the terms that have run, the one at hand, and those after it
  pub before : List ℕ
  pub at_hand : ℕ
  pub behind : List ℕ
  pub splits : alt.order ≡ before ++ at_hand ∷ behind
  pub height : ℕ
  pub state : State
  pub came : (terms_on (den g height) (holder_frame g holder part) alt.terms before (start (length alt.terms))).answer ≡ Ok state
  pub attributes : state.own ≡ own
  pub term : CoreTerm
  pub is_term : slice_get alt.terms at_hand ≡ Some term
  pub calls : Contains (term_syms term) (Rule callee)
  pub is_local : holder_of (rule_at g callee) ≡ Some holder

-- a local rule leads to one of the same holder: to itself, or through calls of local rules
pub data LeadsTo (g : Grammar) (holder : ℕ × ℕ) (first : ℕ) : ℕ → Type 0 where
  itself : LeadsTo g holder first first
  further : (r callee : ℕ) (term : CoreTerm) → LeadsTo g holder first r → TermOf g r term → Contains (term_syms term) (Rule callee)
      → holder_of (rule_at g callee) ≡ Some holder → LeadsTo g holder first callee

-- a local rule of the holder: one that the holder calls leads to it
pub record GrownLocal (g : Grammar) (holder : ℕ × ℕ) (r : ℕ) (s : List ℕ) (outer : Values) : Type 0 where
  pub called : ℕ
  pub comes : ComesTo g holder called s outer
  pub leads : LeadsTo g holder called r

abbrev pub GrownUnder : Grammar → Option (ℕ × ℕ) → ℕ → List ℕ → Values → Type 0
GrownUnder g None r s outer = outer ≡ []
GrownUnder g (Some holder) r s outer = GrownLocal g holder r s outer

-- a global rule has no attributes of a holder, a local one those that its holder may have come to
abbrev pub Grown : Grammar → ℕ → List ℕ → Values → Type 0
Grown g r s outer = GrownUnder g (holder_of (rule_at g r)) r s outer
