-- The rows of a node: the results of its terms, and its attributes.
use Rattle.std.proofs.Common.{◌≡◌, ℕ, refl, sym, ap, List, [], ◌∷◌, ◌++◌, Option, Some, None}
use Rattle.ipg_core.specs.declared.grammar.CoreTerm.{CoreTerm}
use Rattle.ipg_core.specs.declared.grammar.CoreTerm.TheVariants as term
use Rattle.ipg_core.specs.Tree.{kids_of}
use Rattle.ipg_core.specs.Environment as core
use Rattle.ipg_core.specs.Environment.{Values, value_at}
use Rattle.ipg_core.specs.Meaning.{kids_done, entry, attrs_set}
use Rattle.ipg_core.specs.Within.{KidsWithin}
use Rattle.ipg_mach_nodes.specs.Stored.{Stored, Source, StandKids}
use Rattle.ipg_table.specs.Rows.{attrs_in}
use Rattle.ipg_mach_results.specs.Flat.{AreFlat}
use Rattle.ipg_mach_slot.specs.declared.now.Done.{Done}
use Rattle.ipg_mach_slot.specs.Now.{AreResults}
use Rattle.ipg_mach_node.specs.Kept.{rows_done, attrs_at}

module _ (src : Source) (st : Stored) (at n : ℕ) where
  pub kids_stand : (rows : List (Option Done)) (results : List (Option core.Done)) → AreResults src st at n rows results
      → StandKids src st at (rows_done rows) (kids_of (kids_done results))
  kids_stand [] [] h = tt
  kids_stand (None ∷ rows) (None ∷ ds) h = kids_stand rows ds h.1
  kids_stand (Some r ∷ rows) (Some d ∷ ds) h = (h.0.stands, kids_stand rows ds h.1)
  kids_stand (None ∷ rows) (Some d ∷ ds) h = absurd h.0
  kids_stand (Some r ∷ rows) (None ∷ ds) h = absurd h.0
  kids_stand [] (d ∷ ds) h = absurd h
  kids_stand (r ∷ rows) [] h = absurd h

  pub kids_within : (rows : List (Option Done)) (results : List (Option core.Done)) → AreResults src st at n rows results
      → KidsWithin n (kids_of (kids_done results))
  kids_within [] [] h = tt
  kids_within (None ∷ rows) (None ∷ ds) h = kids_within rows ds h.1
  kids_within (Some r ∷ rows) (Some d ∷ ds) h = (h.0.within, kids_within rows ds h.1)
  kids_within (None ∷ rows) (Some d ∷ ds) h = absurd h.0
  kids_within (Some r ∷ rows) (None ∷ ds) h = absurd h.0
  kids_within [] (d ∷ ds) h = absurd h
  kids_within (r ∷ rows) [] h = absurd h

  pub kids_flat : (rows : List (Option Done)) (results : List (Option core.Done)) → AreResults src st at n rows results
      → AreFlat (kids_of (kids_done results))
  kids_flat [] [] h = tt
  kids_flat (None ∷ rows) (None ∷ ds) h = kids_flat rows ds h.1
  kids_flat (Some r ∷ rows) (Some d ∷ ds) h = (h.0.flat, kids_flat rows ds h.1)
  kids_flat (None ∷ rows) (Some d ∷ ds) h = absurd h.0
  kids_flat (Some r ∷ rows) (None ∷ ds) h = absurd h.0
  kids_flat [] (d ∷ ds) h = absurd h
  kids_flat (r ∷ rows) [] h = absurd h

pub attrs_are : (terms : List CoreTerm) (own : Values) → attrs_set terms own ≡ attrs_at own (attrs_in terms)
attrs_are [] own = refl
attrs_are (term.Set a e ∷ terms) own = ap (λ vs. entry a (value_at own a) ++ vs) (attrs_are terms own)
attrs_are (term.Slot s ∷ terms) own = attrs_are terms own
attrs_are (term.Test e ∷ terms) own = attrs_are terms own
attrs_are (term.Repeat first last sym from to ∷ terms) own = attrs_are terms own
attrs_are (term.Many sym from to ∷ terms) own = attrs_are terms own
attrs_are (term.Pick cases other ∷ terms) own = attrs_are terms own
