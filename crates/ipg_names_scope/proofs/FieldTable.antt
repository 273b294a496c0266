-- The tables of attributes as they are made.
use Rattle.std.proofs.Common.{◌≡◌, ℕ, ◌+◌, ◌<◌, Bool, length, get_or, drop, List, [], ◌∷◌, ◌++◌, map, is_some, refl, sym, ap, ◌∙◌}
use denote.Ref.{Bor}
use Rattle.indexmap.specs.IndexMap.{IndexMap}
use Rattle.ipg_ast.specs.declared.grammar.Alt.{Alt, out-Alt}
use Rattle.ipg_names_scope.specs.declared.marks.Spots.{Spots}
use Rattle.ipg_names_scope.specs.declared.marks.Family.TheVariants.{Sets}
use Rattle.ipg_names_scope.specs.Terms.{has}
use Rattle.ipg_names_scope.specs.Scope.{alt_sets}
use Rattle.ipg_names_scope.specs.Marks.{look, spots_of}
use Rattle.ipg_names_scope.specs.Fields.{alts_set, rows_set, row_of}
use Rattle.ipg_names_scope.specs.declared.roster.ListedRule as code
use Rattle.ipg_names_scope.specs.View.{entry_view, entries_view}
use Rattle.ipg_names_scope.proofs.Lists.{map_push, at_item, pieces}
use Rattle.ipg_names_scope.proofs.Spots.{spots_any}

-- a table of an alternative's attributes is put after the others
pub row_more : {S : Type 0} (row now : List (IndexMap (Bor (List ℕ)) Spots S)) (table : IndexMap (Bor (List ℕ)) Spots S) (alt : Alt) (f : List ℕ)
    → now ≡ row ++ table ∷ [] → ((x : List ℕ) → look table x ≡ spots_of (has Sets x) (out-Alt alt).terms 0)
    → alts_set f now ≡ alts_set f row ++ alt_sets f alt ∷ []
row_more row now table alt f put is =
    ap (alts_set f) put ∙ map_push (λ places. is_some (look places f)) row table
    ∙ ap (λ b. alts_set f row ++ b ∷ []) (ap is_some (is f) ∙ spots_any (has Sets f) (out-Alt alt).terms 0)

pub rows_more : {S : Type 0} (rows now : List (List (IndexMap (Bor (List ℕ)) Spots S))) (row : List (IndexMap (Bor (List ℕ)) Spots S)) (f : List ℕ)
    (bs : List Bool)
    → now ≡ rows ++ row ∷ [] → alts_set f row ≡ bs → rows_set f now ≡ rows_set f rows ++ bs ∷ []
rows_more rows now row f bs put is = ap (rows_set f) put ∙ map_push (alts_set f) rows row ∙ ap (λ b. rows_set f rows ++ b ∷ []) is

pub rows_turn : (roster : List code.ListedRule) (i : ℕ) (e : code.ListedRule) (f : List ℕ) (made new all : List (List Bool)) → e ≡ get_or roster i e
    → i < length roster → new ≡ made ++ row_of f (entry_view e) ∷ []
    → made ++ map (row_of f) (entries_view (drop i roster)) ≡ all → new ++ map (row_of f) (entries_view (drop (i + 1) roster)) ≡ all
rows_turn roster i e f made new all is within put so_far =
    let rest = drop (i + 1) roster in
    pieces made (row_of f (entry_view e) ∷ []) new (map (row_of f) (entries_view rest)) (map (row_of f) (entries_view (e ∷ rest))) all put refl
    (ap (λ ys. made ++ map (row_of f) (entries_view ys)) (sym (at_item roster i e is within)) ∙ so_far)
