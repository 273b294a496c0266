-- Laws of the meaning.
use Rattle.std.specs.Prelude.{◌≡◌, ◌≢◌, ℕ, ◌+◌, ◌<◌, ◌≤◌, List, [], length, Ok, Err, true}
use Rattle.std.specs.List.{AllByRecursion}
use Rattle.ipg_core.specs.declared.grammar.Sym.{Sym}
use Rattle.ipg_core.specs.declared.grammar.CoreTerm.{CoreTerm}
use Rattle.ipg_core.specs.Grammar.{Grammar}
use Rattle.ipg_core.specs.Part.{part}
use Rattle.ipg_core.specs.Tree.{Tree, Kid}
use Rattle.ipg_core.specs.Touch.{tree_ends, touches}
use Rattle.ipg_core.specs.Environment.{Values}
use Rattle.ipg_core.specs.Run.{Deep, Asked}
use Rattle.ipg_core.specs.Meaning.{Frame, Place, many_on, rule_on, den}
use Rattle.ipg_core.specs.Order.{Provides, InOrder}
use Rattle.ipg_core.specs.Good.{Good}
use Rattle.ipg_core.specs.Within.{TreeWithin}
use Rattle.ipg_core.specs.Holds.{TreeHolds}
use Rattle.ipg_core.specs.MustTouch.{MustTouch}
use Rattle.ipg_core.specs.Total.{Fits, Total, IsForward}

-- a larger height gives the same answer as any answer that isn't Deep
abbrev pub HeightsAgree : Type 0
HeightsAgree = (g : Grammar) (low high r : ℕ) (s : List ℕ) (outer : Values)
    → low ≤ high → den g low r s outer ≢ Err Deep → den g high r s outer ≡ den g low r s outer

-- a grammar whose calls all go to later rules is total
abbrev pub ForwardIsTotal : Type 0
ForwardIsTotal = (g : Grammar) → IsForward g → Total g

-- an alternative has one order at most
abbrev pub OneOrder : Type 0
OneOrder = (g : Grammar) (at : ℕ × ℕ) (terms : List CoreTerm) (one other : List ℕ)
    → InOrder (Provides g at terms) (length terms) [] one → InOrder (Provides g at terms) (length terms) [] other → one ≡ other

-- a tree lies within its part
abbrev pub LiesWithin : Type 0
LiesWithin = (g : Grammar) (h r : ℕ) (s : List ℕ) (outer : Values) (tree : Tree)
    → den g h r s outer ≡ Ok tree → TreeWithin (length s) tree

-- a tree holds bytes of its part
abbrev pub HoldsItsBytes : Type 0
HoldsItsBytes = (g : Grammar) (h r : ℕ) (s : List ℕ) (outer : Values) (tree : Tree)
    → den g h r s outer ≡ Ok tree → TreeHolds s tree

-- a repetition never uses up its turns: with one more it comes to the same
abbrev pub TurnsSuffice : Type 0
TurnsSuffice = (g : Grammar) (h : ℕ) (f : Frame) (place : Place) (own : Values) (sym : Sym) (n p r : ℕ) (items : List Kid)
    → p ≤ r → r ≤ length f.bytes → r < p + n
    → many_on (den g h) f place own sym (n + 1) p r items ≡ many_on (den g h) f place own sym n p r items

-- a tree of a rule that must touch does
abbrev pub TouchingTouches : Type 0
TouchingTouches = (g : Grammar) (h r : ℕ) (s : List ℕ) (outer : Values) (tree : Tree)
    → Good g → MustTouch g r → den g h r s outer ≡ Ok tree → touches (tree_ends tree) ≡ true

-- a call, made by a rule on s
pub record AskedFits (g : Grammar) (s : List ℕ) (ask : Asked) : Type 0 where
  pub valid : ask.from ≤ ask.to
  pub inside : ask.to ≤ length s
  pub fits : Fits g ask.callee (part s ask.from ask.to) ask.outer

-- what a rule asks, asked what fits, fits again
abbrev pub AsksWhatFits : Type 0
AsksWhatFits = (g : Grammar) (h r : ℕ) (s : List ℕ) (outer : Values)
    → Good g → Fits g r s outer → AllByRecursion (AskedFits g s) (rule_on (den g h) g r s outer).asked
