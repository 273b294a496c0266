-- The spot of a number, and the result that it is.
use Rattle.std.proofs.Common.{◌≡◌, ℕ, zero, suc, List, [], ◌∷◌, ◌++◌, Some, None, refl, sym, subst, append-nil}
use Rattle.std.specs.Prelude.{slice_get}
use Rattle.std.proofs.lemmas.Option.{none-some, same_Some}
use Rattle.ipg_mach_nodes.specs.Stored.{Stored, Source}
use Rattle.ipg_query.specs.declared.spot.Spot.{Spot}
use Rattle.ipg_query.specs.Picked.{Found, only}
use Rattle.ipg_query.specs.Spots.{IsSpot, AreSpots}
use Rattle.ipg_query.proofs.Going.{each_append}

module _ (src : Source) (st : Stored) where
  only_one : (spots : List Spot) (xs : List Found) (k : ℕ) (spot : Spot) → AreSpots src st spots xs → slice_get spots k ≡ Some spot
      → AreSpots src st (spot ∷ []) (only xs k)
  only_one [] xs k spot h e = absurd (none-some spot e)
  only_one (s ∷ spots) [] k spot h e = absurd h
  only_one (s ∷ spots) (x ∷ xs) zero spot h e = subst (λ t. AreSpots src st (t ∷ []) (x ∷ [])) (same_Some s spot e) (h.0, tt)
  only_one (s ∷ spots) (x ∷ xs) (suc k) spot h e = only_one spots xs k spot h.1 e

  only_none : (spots : List Spot) (xs : List Found) (k : ℕ) → AreSpots src st spots xs → slice_get spots k ≡ None → only xs k ≡ []
  only_none [] [] k h e = refl
  only_none [] (x ∷ xs) k h e = absurd h
  only_none (s ∷ spots) [] k h e = absurd h
  only_none (s ∷ spots) (x ∷ xs) zero h e = absurd (none-some s (sym e))
  only_none (s ∷ spots) (x ∷ xs) (suc k) h e = only_none spots xs k h.1 e

  pub chosen : (from out : List Spot) (xs before : List Found) (k : ℕ) (spot : Spot) → slice_get from k ≡ Some spot → AreSpots src st from xs
      → AreSpots src st out before → AreSpots src st (out ++ spot ∷ []) (before ++ only xs k)
  chosen from out xs before k spot e h made = each_append (IsSpot src st) out (spot ∷ []) before (only xs k) made (only_one from xs k spot h e)

  pub none_chosen : (from out : List Spot) (xs before : List Found) (k : ℕ) → slice_get from k ≡ None → AreSpots src st from xs
      → AreSpots src st out before → AreSpots src st out (before ++ only xs k)
  none_chosen from out xs before k e h made =
      subst (λ ys. AreSpots src st out (before ++ ys)) (sym (only_none from xs k h e)) (subst (AreSpots src st out) (sym (append-nil before)) made)
