-- The rows of a list after another.
use Rattle.std.proofs.Common.{◌≡◌, List, [], ◌∷◌, ◌++◌, refl, ap}
use Rattle.ipg_read_scan.specs.declared.row.Row.{Row as Coded}
use Rattle.ipg_read_scan.specs.Rowed.{row_of, rows_of}

pub rows_append : (xs ys : List Coded) → rows_of (xs ++ ys) ≡ rows_of xs ++ rows_of ys
rows_append [] ys = refl
rows_append (x ∷ xs) ys = ap (λ rows. row_of x ∷ rows) (rows_append xs ys)
