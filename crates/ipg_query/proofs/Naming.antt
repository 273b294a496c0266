-- What is wanted of lists of results, one by one.
use Rattle.std.proofs.Common.{◌≡◌, ℕ, Bool, true, false, List, [], ◌∷◌, ◌++◌, filter, flat_map, refl, ap, ◌∙◌, sym, subst, append-nil, if◌then◌else◌}
use Rattle.std.proofs.lemmas.List.Elements.{filter-append}
use Rattle.ipg_core.specs.Grammar.{Grammar}
use Rattle.ipg_core.specs.Tree.{Kids}
use Rattle.ipg_mach_nodes.specs.Stored.{Stored, Source}
use Rattle.ipg_query.specs.declared.names.Wanted.TheVariants.{Any}
use Rattle.ipg_query.specs.declared.spot.Spot.{Spot}
use Rattle.ipg_query.specs.Picked.{Found, each_of, spread_each}
use Rattle.ipg_query.specs.Spots.{IsSpot, AreSpots, fits}
use Rattle.ipg_query.proofs.Going.{push_one}
use Rattle.ipg_query.proofs.Lying.{spread_of, spread_is}

by_test : (b : Bool) (x : Found) (xs ys : List Found) → xs ≡ ys → (if b then x ∷ [] else []) ++ xs ≡ (if b then x ∷ ys else ys)
by_test true x xs ys e = ap (λ zs. x ∷ zs) e
by_test false x xs ys e = e

module _ (p : Found → Bool) where
  -- a result alone, if it is wanted
  abbrev pub own_of : Found → List Found
  own_of x = filter p (x ∷ [])

  -- what is wanted of a result's items, or of it alone
  abbrev pub wanted_of : Found → List Found
  wanted_of x = filter p (spread_of x)

  pub kept_is : (xs : List Found) → flat_map own_of xs ≡ filter p xs
  kept_is [] = refl
  kept_is (x ∷ xs) = by_test (p x) x (flat_map own_of xs) (filter p xs) (kept_is xs)

  each_kept : (xs : List Found) → flat_map wanted_of xs ≡ filter p (flat_map spread_of xs)
  each_kept [] = refl
  each_kept (x ∷ xs) = ap (λ ys. filter p (spread_of x) ++ ys) (each_kept xs) ∙ sym (filter-append p (spread_of x) (flat_map spread_of xs))

  pub spread_kept : (at : ℕ) (ones : Kids) → flat_map wanted_of (each_of at ones) ≡ filter p (spread_each at ones)
  spread_kept at ones = each_kept (each_of at ones) ∙ ap (filter p) (spread_is at ones)

-- all are kept where any is wanted
pub any_kept : (g : Grammar) (xs : List Found) → filter (fits g Any) xs ≡ xs
any_kept g [] = refl
any_kept g (x ∷ xs) = ap (λ ys. x ∷ ys) (any_kept g xs)

module _ (src : Source) (st : Stored) (p : Found → Bool) (spot : Spot) (x : Found) (out to : List Spot) (before : List Found) (b : Bool)
    (is : b ≡ p x) (made : AreSpots src st out before) where
  -- a spot that is wanted is put behind the others
  pub kept_here : IsSpot src st spot x → b ≡ true → to ≡ out ++ spot ∷ [] → AreSpots src st to (before ++ filter p (x ∷ []))
  kept_here here e put =
      subst (λ ys. AreSpots src st ys (before ++ filter p (x ∷ []))) (sym put)
      (subst (λ c. AreSpots src st (out ++ spot ∷ []) (before ++ (if c then x ∷ [] else []))) (sym e ∙ is)
      (push_one (IsSpot src st) out before spot x made here))

  pub left_out : b ≡ false → AreSpots src st out (before ++ filter p (x ∷ []))
  left_out e =
      subst (λ c. AreSpots src st out (before ++ (if c then x ∷ [] else []))) (sym e ∙ is) (subst (AreSpots src st out) (sym (append-nil before)) made)
