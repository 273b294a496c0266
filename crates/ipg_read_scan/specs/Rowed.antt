-- What reading makes of tokens, row by row: each form after its parts.
use Rattle.std.specs.Prelude.{ℕ, ℤ, List, [], ◌∷◌}
use Rattle.ipg_ast.specs.declared.grammar.Ident.{Ident}
use Rattle.ipg_ast.specs.declared.grammar.Span.{Span}
use Rattle.ipg_ast.specs.declared.grammar.Field.{Field}
use Rattle.ipg_ast.specs.declared.grammar.Field.TheVariants as F
use Rattle.ipg_read_syntax.specs.Classes as C
use Rattle.ipg_read_scan.specs.Lexemes.{ident_of, infix_of}
use Rattle.ipg_read_scan.specs.declared.row.Site.{Site}
use Rattle.ipg_read_scan.specs.declared.row.Role.{Role}
use Rattle.ipg_read_scan.specs.declared.row.Extent.{Extent}
use Rattle.ipg_read_scan.specs.declared.row.Member.{Member}
use Rattle.ipg_read_scan.specs.declared.row.Member.TheVariants as M
use Rattle.ipg_read_scan.specs.declared.row.Row.{Row as Coded}
use Rattle.ipg_read_scan.specs.declared.row.Row.TheVariants as V

-- a number of a token; names with their places
pub data Row : Type 0 where
  rule : ℕ → Row
  name : Ident → Row
  first : Site → ℕ → Row
  term : ℕ → Row
  text : Ident → Row
  call : Ident → Row
  placed : Extent → Role → Row
  set : Row
  test : Span → Row
  repeat : Row
  pick : Span → Row
  next_alt : Site → Row
  end_rule : Site → Row
  locals : Row
  end_locals : Row
  close : Row
  num : ℤ → Row
  eoi : Row
  own : Row
  part : Field → Row
  item : Field → Row
  group : Row
  neg : Row
  isnt : Row
  two : C.Infix → Row
  choose : Row
  whole : ℕ → Row

abbrev pub member_of : Member → Field
member_of (M.Named l) = F.Id (ident_of l)
member_of M.Start = F.Start
member_of M.End = F.End

abbrev pub row_of : Coded → Row
row_of (V.Rule at) = rule at
row_of (V.Name l) = name (ident_of l)
row_of (V.First site at) = first site at
row_of (V.Term at) = term at
row_of (V.Text l) = text (ident_of l)
row_of (V.Call l) = call (ident_of l)
row_of (V.Placed extent role) = placed extent role
row_of V.Set = set
row_of (V.Test at) = test at
row_of V.Repeat = repeat
row_of (V.Pick at) = pick at
row_of (V.NextAlt site) = next_alt site
row_of (V.EndRule site) = end_rule site
row_of V.Locals = locals
row_of V.EndLocals = end_locals
row_of V.Close = close
row_of (V.Num z) = num z
row_of V.Eoi = eoi
row_of V.Id = own
row_of (V.Part m) = part (member_of m)
row_of (V.Item m) = item (member_of m)
row_of V.Group = group
row_of V.Neg = neg
row_of V.Not = isnt
row_of (V.Two i) = two (infix_of i)
row_of V.Cond = choose
row_of (V.Whole at) = whole at

abbrev pub rows_of : List Coded → List Row
rows_of [] = []
rows_of (r ∷ rs) = row_of r ∷ rows_of rs
