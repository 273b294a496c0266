-- Where names stand in a term: the attribute that it sets, its loop variable, what its expressions read, the symbols that it names.
use Rattle.std.specs.Prelude.{ℕ, List, [], ◌∷◌, ◌++◌, flat_map}
use Rattle.ipg_ast.specs.declared.grammar.Ident.{Ident}
use Rattle.ipg_ast.specs.declared.grammar.Term.{Term}
use Rattle.ipg_ast.specs.declared.grammar.Term.TheVariants.{Slot as SlotTerm, Set, Test, Repeat, Many, Pick}
use Rattle.ipg_ast.specs.declared.grammar.Case.{Case}
use Rattle.ipg_ast.specs.declared.grammar.Slot.{Slot}
use Rattle.ipg_ast.specs.declared.grammar.What.{What}
use Rattle.ipg_ast.specs.declared.grammar.What.TheVariants.{Text, Call}
use Rattle.ipg_ast.specs.declared.grammar.Place.{Place}
use Rattle.ipg_ast.specs.declared.grammar.Place.TheVariants.{Open, Length, Ends}
use Rattle.ipg_ast.specs.declared.grammar.Field.{Field}
use Rattle.ipg_ast.specs.declared.grammar.Field.TheVariants.{Id as Attribute, Start, End}
use Rattle.ipg_ast.specs.declared.grammar.Expr.{Expr}
use Rattle.ipg_ast.specs.declared.grammar.Expr.TheOpen.{Expr-F}
use Rattle.ipg_ast.specs.declared.grammar.Expr.TheFolds.{fold-Expr}

-- ---- attributes and loop variables

abbrev pub set_by : Term → List Ident
set_by (SlotTerm slot) = []
set_by (Set name value) = name ∷ []
set_by (Test at cond) = []
set_by (Repeat var first last item from to) = []
set_by (Many at item place) = []
set_by (Pick at cases other) = []

abbrev pub loop_of : Term → List Ident
loop_of (SlotTerm slot) = []
loop_of (Set name value) = []
loop_of (Test at cond) = []
loop_of (Repeat var first last item from to) = var ∷ []
loop_of (Many at item place) = []
loop_of (Pick at cases other) = []

-- ---- expressions

abbrev pub place_exprs : Place → List Expr
place_exprs Open = []
place_exprs (Length e) = e ∷ []
place_exprs (Ends l r) = l ∷ r ∷ []

abbrev pub slot_exprs : Slot → List Expr
slot_exprs slot = place_exprs slot.place

abbrev pub case_exprs : Case → List Expr
case_exprs c = c.cond ∷ slot_exprs c.slot

-- the expressions of a term, but for the item interval of an array
abbrev pub exprs_in : Term → List Expr
exprs_in (SlotTerm slot) = slot_exprs slot
exprs_in (Set name value) = value ∷ []
exprs_in (Test at cond) = cond ∷ []
exprs_in (Repeat var first last item from to) = first ∷ last ∷ []
exprs_in (Many at item place) = place_exprs place
exprs_in (Pick at cases other) = flat_map case_exprs cases ++ slot_exprs other

-- the item interval of an array
abbrev pub item_exprs : Term → List Expr
item_exprs (SlotTerm slot) = []
item_exprs (Set name value) = []
item_exprs (Test at cond) = []
item_exprs (Repeat var first last item from to) = from ∷ to ∷ []
item_exprs (Many at item place) = []
item_exprs (Pick at cases other) = []

-- ---- what expressions read

pub data Use : Type 0 where
  -- `x`
  Bare : Ident → Use
  -- `A.f`
  Part : Ident → Field → Use
  -- `A(e).f`
  Item : Ident → Field → Use

abbrev pub uses_step : Expr-F (List Use) → List Use
uses_step (Expr-F.Num n) = []
uses_step Expr-F.Eoi = []
uses_step (Expr-F.Id i) = Bare i ∷ []
uses_step (Expr-F.Part of f) = Part of f ∷ []
uses_step (Expr-F.Item of e f) = e ++ Item of f ∷ []
uses_step (Expr-F.Group e) = e
uses_step (Expr-F.Neg e) = e
uses_step (Expr-F.Not e) = e
uses_step (Expr-F.Two op a b) = a ++ b
uses_step (Expr-F.Both a b) = a ++ b
uses_step (Expr-F.Either a b) = a ++ b
uses_step (Expr-F.Cond c a b) = c ++ (a ++ b)

abbrev pub expr_uses : Expr → List Use
expr_uses = fold-Expr (List Use) uses_step

abbrev pub uses_in : Term → List Use
uses_in term = flat_map expr_uses (exprs_in term)

abbrev pub item_uses : Term → List Use
item_uses term = flat_map expr_uses (item_exprs term)

abbrev pub all_uses : Term → List Use
all_uses term = uses_in term ++ item_uses term

-- ---- symbols

-- the name of a symbol, and where it stands
pub record Symbol : Type 0 where
  pub name : List ℕ
  pub at : ℕ

abbrev pub symbol_of : Ident → Symbol
symbol_of i = record { name = i.name; at = i.span.from }

abbrev pub what_symbols : What → ℕ → List Symbol
what_symbols (Text bytes) at = []
what_symbols (Call name) at = record { name = name; at = at } ∷ []

abbrev pub slot_symbols : Slot → List Symbol
slot_symbols slot = what_symbols slot.what slot.span.from

abbrev pub case_symbols : Case → List Symbol
case_symbols c = slot_symbols c.slot

-- in the slots of a term, of an array, of a repetition
abbrev pub parsed_by : Term → List Symbol
parsed_by (SlotTerm slot) = slot_symbols slot
parsed_by (Set name value) = []
parsed_by (Test at cond) = []
parsed_by (Repeat var first last item from to) = symbol_of item ∷ []
parsed_by (Many at item place) = symbol_of item ∷ []
parsed_by (Pick at cases other) = flat_map case_symbols cases ++ slot_symbols other

-- before `.` or `(`
abbrev pub referred_by : Use → List Symbol
referred_by (Bare i) = []
referred_by (Part of f) = symbol_of of ∷ []
referred_by (Item of f) = symbol_of of ∷ []

abbrev pub symbols_in : Term → List Symbol
symbols_in term = parsed_by term ++ flat_map referred_by (all_uses term)

-- an attribute that is read of a symbol
pub record Read : Type 0 where
  pub of : List ℕ
  pub attr : Ident

abbrev pub field_reads : Ident → Field → List Read
field_reads of (Attribute i) = record { of = of.name; attr = i } ∷ []
field_reads of Start = []
field_reads of End = []

abbrev pub read_by : Use → List Read
read_by (Bare i) = []
read_by (Part of f) = field_reads of f
read_by (Item of f) = field_reads of f

abbrev pub reads_in : Term → List Read
reads_in term = flat_map read_by (all_uses term)
