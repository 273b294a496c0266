-- Spots of a stored tree, and which results of the tree they are.
use Rattle.std.specs.Prelude.{◌≡◌, ℕ, ◌+◌, ◌^◌, ◌≤◌, Bool, true, List, [], ◌∷◌, ◌++◌, map, flat_map, Option, None, Some, if◌then◌else◌}
use Rattle.ipg_core.specs.Grammar.{Grammar}
use Rattle.ipg_core.specs.Tree as tree
use Rattle.ipg_core.specs.Tree.{Kids}
use Rattle.ipg_core.specs.Within.{KidWithin, KidsWithin}
use Rattle.ipg_mach_nodes.specs.declared.kid.Kid.{Kid}
use Rattle.ipg_mach_nodes.specs.Stored.{Stored, Source, StandsKid}
use Rattle.ipg_mach_results.specs.Flat.{has_items}
use Rattle.ipg_table.specs.Rows.{Each}
use Rattle.ipg_tree_walk.specs.Visits.{kids_in, place_in}
use Rattle.ipg_query_path.specs.declared.path.Step.{Step}
use Rattle.ipg_query_path.specs.declared.path.Step.TheVariants.{Named, Nth, Children, All}
use Rattle.ipg_query.specs.declared.left.Left.{Left}
use Rattle.ipg_query.specs.declared.names.Wanted.{Wanted}
use Rattle.ipg_query.specs.declared.names.Wanted.TheVariants as wanted
use Rattle.ipg_query.specs.declared.spot.Spot.{Spot}
use Rattle.ipg_query.specs.declared.hit.Hit.{Hit}
use Rattle.ipg_query.specs.Hits.{IsHit}
use Rattle.ipg_query.specs.Picked.{Found, Pick, each_of, below, is_named, named, only, members}

-- a row of a part that begins there
abbrev pub spot_at : ℕ → Kid → Spot
spot_at at kid = record { at = at; kid = kid }

-- it lies in a part of so many bytes, which ends within the first 2^30
pub record IsNear (at : ℕ) (one : tree.Kid) : Type 0 where
  pub size : ℕ
  pub within : KidWithin size one
  pub small : at + size ≤ 2 ^ 30

pub record AreNear (at : ℕ) (ones : Kids) : Type 0 where
  pub size : ℕ
  pub within : KidsWithin size ones
  pub small : at + size ≤ 2 ^ 30

-- the spot is that result
pub record IsSpot (src : Source) (st : Stored) (spot : Spot) (x : Found) : Type 0 where
  pub at : spot.at ≡ x.at
  pub stands : StandsKid src st spot.at spot.kid x.child
  pub near : IsNear spot.at x.child

-- one by one, the spots are those results
abbrev pub AreSpots : Source → Stored → List Spot → List Found → Type 0
AreSpots src st spots xs = Each (IsSpot src st) spots xs

-- what stands one by one in `left` is yet to be replaced, and with that what is in `out` is the whole
pub record Through {A B X Y : Type 0} (R : A → X → Type 0) (Q : B → Y → Type 0) (f : X → List Y) (left : List A) (out : List B) (whole : List Y)
    : Type 0 where
  pub rest : List X
  pub done : List Y
  pub stand : Each R left rest
  pub made : Each Q out done
  pub is : done ++ flat_map f rest ≡ whole

-- a result alone; nothing of an array or a repetition
abbrev pub own : Found → List Found
own x = if has_items x.child then [] else x ∷ []

-- what lies in a result, each array and repetition as it is
abbrev pub inner : Found → List Found
inner x = each_of (place_in x.at x.child) (kids_in x.child)

-- what a step takes of a result at once: of `**` that is the result alone
abbrev pub taken : Grammar → Step → Found → List Found
taken g (Named name) x = named g name x
taken g (Nth name k) x = only (named g name x) k
taken g Children x = below x
taken g All x = own x

-- and where the step is to be taken once more: `**` in all that lies in a result
abbrev pub deeper : Step → Found → List Found
deeper (Named name) x = []
deeper (Nth name k) x = []
deeper Children x = []
deeper All x = inner x

-- and what is come to from there
abbrev pub once_more : Grammar → Step → List Step → Found → List Found
once_more g step rest x = members g (step ∷ rest) (deeper step x)

-- a result that is wanted
abbrev pub fits : Grammar → Wanted → Found → Bool
fits g wanted.Any x = true
fits g (wanted.Named name) x = is_named g name.now x

-- ---- what is left to be done

-- steps that are to be taken, and the spot that they begin at
pub record Rest : Type 0 where
  pub steps : List Step
  pub spot : Spot

abbrev pub left_at : List Step → Spot → Rest
left_at steps spot = record { steps = steps; spot = spot }

abbrev pub seen_one : Left → Rest
seen_one left = left_at left.steps.now left.spot

abbrev pub seen : List Left → List Rest
seen lefts = map seen_one lefts

-- the same at a result
pub record Course : Type 0 where
  pub steps : List Step
  pub from : Found

abbrev pub course : List Step → Found → Course
course steps x = record { steps = steps; from = x }

abbrev pub comes_to : Grammar → Course → List Found
comes_to g c = members g c.steps (c.from ∷ [])

pub record IsLeft (src : Source) (st : Stored) (left : Rest) (c : Course) : Type 0 where
  pub steps : left.steps ≡ c.steps
  pub spot : IsSpot src st left.spot c.from

-- what is left, one after the other, comes to these results
pub record Comes (src : Source) (st : Stored) (g : Grammar) (lefts : List Rest) (xs : List Found) : Type 0 where
  pub courses : List Course
  pub stand : Each (IsLeft src st) lefts courses
  pub is : flat_map (comes_to g) courses ≡ xs

-- the results begin with what the spot is, and what is left comes to the others
pub record Reaches (src : Source) (st : Stored) (g : Grammar) (spot : Spot) (lefts : List Rest) (xs : List Found) : Type 0 where
  pub next : Found
  pub more : List Found
  pub are : xs ≡ next ∷ more
  pub is_spot : IsSpot src st spot next
  pub comes : Comes src st g lefts more

-- where there is no spot there are no results
abbrev pub ReachesIf : Source → Stored → Grammar → Option Spot → List Rest → List Found → Type 0
ReachesIf src st g None lefts xs = xs ≡ []
ReachesIf src st g (Some spot) lefts xs = Reaches src st g spot lefts xs

-- what is shown of a spot is all that is picked of a result
abbrev pub IsShown : Option Hit → List Pick → Type 0
IsShown None picks = picks ≡ []
IsShown (Some hit) picks = (pick : Pick) × (picks ≡ pick ∷ []) × IsHit hit pick
