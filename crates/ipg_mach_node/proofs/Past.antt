-- Items of an array or a repetition that is past are its result.
use Rattle.std.proofs.Common.{◌≡◌, ℕ, refl, sym, ap, ◌∙◌, subst, List, [], ◌∷◌, ◌++◌, Some, false, length}
use Rattle.std.specs.Prelude.{slice_get}
use Rattle.ipg_core.specs.declared.grammar.Sym.{Sym}
use Rattle.ipg_core.specs.Tree as tree
use Rattle.ipg_core.specs.Tree.{kids_of}
use Rattle.ipg_region.specs.declared.region.RunId.{RunId}
use Rattle.ipg_mach_nodes.specs.declared.kid.Kid.{Kid}
use Rattle.ipg_mach_nodes.specs.Stored.{Stored, Source, with_list}
use Rattle.ipg_mach_nodes.specs.Laws.{Grows}
use Rattle.ipg_mach_slot.specs.Now.{IsDone}
use Rattle.ipg_mach_node.specs.declared.results.Several.{Several}
use Rattle.ipg_mach_node.specs.declared.results.Several.TheVariants.{Array, Repetition}
use Rattle.ipg_mach_node.specs.Items.{HasItems, row_of, together}
use Rattle.ipg_mach_node.specs.Laws.{ItemsStay, GrowsByList}

pub last_of : {A : Type 0} (xs : List A) (a : A) → slice_get (xs ++ a ∷ []) (length xs) ≡ Some a
last_of [] a = refl
last_of (x ∷ xs) a = last_of xs a

-- the list that was stored last is read at its place
list_there : (st more : Stored) (rows : List Kid) (id : RunId) → more ≡ with_list st rows → id.place ≡ length st.kids
    → slice_get more.kids id.place ≡ Some rows
list_there st more rows id is place =
    ap (λ (s : Stored). slice_get s.kids id.place) is ∙ ap (slice_get (st.kids ++ rows ∷ [])) place ∙ last_of st.kids rows

module _ (stay : ItemsStay) (grows : GrowsByList) (src : Source) (st more : Stored) (at n number : ℕ) (one : Sym) (rows : List Kid) (items : List tree.Kid)
    (id : RunId) (is : more ≡ with_list st rows) (place : id.place ≡ length st.kids)
    (known : slice_get src.syms number ≡ Some one) (has : HasItems src st at n rows items)
  where
    stays : HasItems src more at n rows items
    stays = stay src st more at n rows items (subst (Grows st) (sym is) (grows st rows)) has

    -- they are its result, whichever of the two it is
    pub past_items : (several : Several) → IsDone src more at n (record { is_switch = false; kid = row_of several number id })
        (record { is_switch = false; kid = together several one (kids_of items) })
    past_items Array = record {
      switch = refl;
      stands = (number, id, rows, refl, known, list_there st more rows id is place, stays.stand);
      within = has.within;
      flat = has.single;
    }
    past_items Repetition = record {
      switch = refl;
      stands = (number, id, rows, refl, known, list_there st more rows id is place, stays.stand);
      within = has.within;
      flat = has.single;
    }
