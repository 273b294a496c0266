-- What a term names: other terms, attributes and symbols.
use Rattle.std.specs.Prelude.{ℕ, List, [], ◌∷◌, ◌++◌, flat_map}
use Rattle.std.specs.List.{AllByRecursion}
use Rattle.ipg_core.specs.declared.grammar.CoreField.{CoreField}
use Rattle.ipg_core.specs.declared.grammar.CoreField.TheVariants.{Attr, Start, End}
use Rattle.ipg_core.specs.declared.grammar.Sym.{Sym}
use Rattle.ipg_core.specs.declared.grammar.CoreExpr.{CoreExpr, fold-CoreExpr}
use Rattle.ipg_core.specs.declared.grammar.CoreExpr.TheOpen.{CoreExpr-F}
use Rattle.ipg_core.specs.declared.grammar.CoreSlot.{CoreSlot}
use Rattle.ipg_core.specs.declared.grammar.CoreTerm.{CoreTerm}
use Rattle.ipg_core.specs.declared.grammar.CoreTerm.TheVariants.{Slot, Set, Test, Repeat, Many, Pick}

pub data Mention : Type 0 where
  -- the result of a slot or a switch, read by a symbol; the items of an array or a repetition; the end behind them
  SeenOf : (term : ℕ) → Sym → Mention
  ItemOf : (term : ℕ) → Mention
  AfterOf : (term : ℕ) → Mention
  -- an attribute of the alternative, of its holder, of a result
  OwnOf : (attr : ℕ) → Mention
  OuterOf : (attr : ℕ) → Mention
  FieldOf : (attr : ℕ) → Mention
  -- the loop variable
  LoopOf : Mention

abbrev pub field_mentions : CoreField → List Mention
field_mentions (Attr a) = FieldOf a ∷ []
field_mentions Start = []
field_mentions End = []

-- one expression, the mentions of each part of it already gathered
abbrev pub mentions_step : CoreExpr-F (List Mention) → List Mention
mentions_step (CoreExpr-F.Num z) = []
mentions_step CoreExpr-F.Eoi = []
mentions_step (CoreExpr-F.Own a) = OwnOf a ∷ []
mentions_step (CoreExpr-F.Outer a) = OuterOf a ∷ []
mentions_step CoreExpr-F.Loop = LoopOf ∷ []
mentions_step (CoreExpr-F.Seen term sym field) = SeenOf term sym ∷ field_mentions field
mentions_step (CoreExpr-F.Item term index field) = ItemOf term ∷ index ++ field_mentions field
mentions_step (CoreExpr-F.After term left) = AfterOf term ∷ left
mentions_step (CoreExpr-F.Neg a) = a
mentions_step (CoreExpr-F.Not a) = a
mentions_step (CoreExpr-F.Two op a b) = a ++ b
mentions_step (CoreExpr-F.Both a b) = a ++ b
mentions_step (CoreExpr-F.Either a b) = a ++ b
mentions_step (CoreExpr-F.Cond c a b) = c ++ (a ++ b)

abbrev pub mentions : CoreExpr → List Mention
mentions = fold-CoreExpr (List Mention) mentions_step

abbrev pub slot_mentions : CoreSlot → List Mention
slot_mentions slot = mentions slot.from ++ mentions slot.to

abbrev pub case_mentions : CoreExpr × CoreSlot → List Mention
case_mentions c = mentions c.0 ++ slot_mentions c.1

-- what the expressions of a term name, its completed intervals included
abbrev pub term_mentions : CoreTerm → List Mention
term_mentions (Slot slot) = slot_mentions slot
term_mentions (Set attr e) = mentions e
term_mentions (Test e) = mentions e
term_mentions (Repeat first last item from to) =
    mentions first ++ (mentions last ++ (mentions from ++ mentions to))
term_mentions (Many item from to) = mentions from ++ mentions to
term_mentions (Pick cases other) = flat_map case_mentions cases ++ slot_mentions other

-- the symbols that a term parses
abbrev pub term_syms : CoreTerm → List Sym
term_syms (Slot slot) = slot.sym ∷ []
term_syms (Set attr e) = []
term_syms (Test e) = []
term_syms (Repeat first last item from to) = item ∷ []
term_syms (Many item from to) = item ∷ []
term_syms (Pick cases other) = flat_map (λ c. c.1.sym ∷ []) cases ++ other.sym ∷ []

-- P holds of each symbol that a term parses
abbrev pub EachSym : (Sym → Type 0) → CoreTerm → Type 0
EachSym P (Slot slot) = P slot.sym
EachSym P (Set attr e) = Unit {0}
EachSym P (Test e) = Unit {0}
EachSym P (Repeat first last item from to) = P item
EachSym P (Many item from to) = P item
EachSym P (Pick cases other) = AllByRecursion (λ c. P c.1.sym) cases × P other.sym
