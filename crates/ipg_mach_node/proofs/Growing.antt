-- Items and results of terms, one by one.
use Rattle.std.proofs.Common.{◌≡◌, ℕ, zero, suc, List, [], ◌∷◌, ◌++◌, Option, Some, None, false}
use Rattle.ipg_core.specs.Tree as tree
use Rattle.ipg_core.specs.Tree.{Kids, no_kids, kid, kids_of}
use Rattle.ipg_core.specs.Environment as core
use Rattle.ipg_core.specs.Within.{KidWithin, KidsWithin}
use Rattle.ipg_mach_nodes.specs.declared.kid.Kid.{Kid}
use Rattle.ipg_mach_nodes.specs.Stored.{Stored, Source, StandsKid, StandKids}
use Rattle.ipg_mach_nodes.specs.Laws.{Grows, KidsStay}
use Rattle.ipg_mach_results.specs.Flat.{AreItems, has_items}
use Rattle.ipg_mach_slot.specs.declared.now.Done.{Done}
use Rattle.ipg_mach_slot.specs.Now.{IsResult, AreResults}
use Rattle.ipg_mach_node.specs.Laws.{NoItems, OneMore, ItemsStay, ResultsStay, ResultSet, NoneHasRun}

-- ---- items

pub no_items : NoItems
no_items src st at n = record { stand = tt; within = tt; single = tt }

module _ (src : Source) (st : Stored) (at n : ℕ) where
  more_stand : (rows : List Kid) (items : List tree.Kid) (row : Kid) (one : tree.Kid) → StandKids src st at rows (kids_of items)
      → StandsKid src st at row one → StandKids src st at (rows ++ row ∷ []) (kids_of (items ++ one ∷ []))
  more_stand [] [] row one h k = (k, tt)
  more_stand (r ∷ rows) (i ∷ items) row one h k = (h.0, more_stand rows items row one h.1 k)
  more_stand [] (i ∷ items) row one h k = absurd h
  more_stand (r ∷ rows) [] row one h k = absurd h

  more_within : (items : List tree.Kid) (one : tree.Kid) → KidsWithin n (kids_of items) → KidWithin n one → KidsWithin n (kids_of (items ++ one ∷ []))
  more_within [] one h k = (k, tt)
  more_within (i ∷ items) one h k = (h.0, more_within items one h.1 k)

more_single : (items : List tree.Kid) (one : tree.Kid) → AreItems (kids_of items) → has_items one ≡ false → AreItems (kids_of (items ++ one ∷ []))
more_single [] one h k = (k, tt)
more_single (i ∷ items) one h k = (h.0, more_single items one h.1 k)

pub one_more : OneMore
one_more src st at n rows items row one h stands within single = record {
  stand = more_stand src st at n rows items row one h.stand stands;
  within = more_within src st at n items one h.within within;
  single = more_single items one h.single single;
}

-- ---- what stood stays

module _ (stays : KidsStay) (src : Source) (st more : Stored) (at n : ℕ) (grows : Grows st more) where
  pub kids_stay : (rows : List Kid) (ones : Kids) → StandKids src st at rows ones → StandKids src more at rows ones
  kids_stay [] no_kids h = tt
  kids_stay (r ∷ rows) (kid one ones) h = (stays src st more at r one grows h.0, kids_stay rows ones h.1)
  kids_stay [] (kid one ones) h = absurd h
  kids_stay (r ∷ rows) no_kids h = absurd h

  done_stays : (row : Option Done) (one : Option core.Done) → IsResult src st at n row one → IsResult src more at n row one
  done_stays None None h = tt
  done_stays (Some row) (Some one) h = record {
    switch = h.switch;
    stands = stays src st more at row.kid one.kid grows h.stands;
    within = h.within;
    flat = h.flat;
  }
  done_stays None (Some one) h = absurd h
  done_stays (Some row) None h = absurd h

  all_stay : (rows : List (Option Done)) (results : List (Option core.Done)) → AreResults src st at n rows results → AreResults src more at n rows results
  all_stay [] [] h = tt
  all_stay (r ∷ rows) (d ∷ ds) h = (done_stays r d h.0, all_stay rows ds h.1)
  all_stay [] (d ∷ ds) h = absurd h
  all_stay (r ∷ rows) [] h = absurd h

pub items_stay : KidsStay → ItemsStay
items_stay stays src st more at n rows items grows h = record {
  stand = kids_stay stays src st more at n grows rows (kids_of items) h.stand;
  within = h.within;
  single = h.single;
}

pub results_stay : KidsStay → ResultsStay
results_stay stays src st more at n rows results grows h = all_stay stays src st more at n grows rows results h

-- ---- results by their numbers

pub result_set : ResultSet
result_set src st at n [] [] row one u h is = tt
result_set src st at n (r ∷ rows) (d ∷ ds) row one zero h is = (is, h.1)
result_set src st at n (r ∷ rows) (d ∷ ds) row one (suc u) h is = (h.0, result_set src st at n rows ds row one u h.1 is)
result_set src st at n [] (d ∷ ds) row one u h is = absurd h
result_set src st at n (r ∷ rows) [] row one u h is = absurd h

pub none_has_run : NoneHasRun
none_has_run src st at n zero = tt
none_has_run src st at n (suc terms) = (tt, none_has_run src st at n terms)
