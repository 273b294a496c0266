-- Lists of children that stand in rows, one by one.
use Rattle.std.proofs.Common.{◌≡◌, ℕ, zero, suc, ◌-◌, ◌<◌, ◌≤◌, ℤ, pos, negsuc, refl, sym, ap, ◌∙◌, subst, arith}
use Rattle.std.proofs.Common.{List, [], ◌∷◌, Option, Some, None, length, get_or, drop}
use Rattle.std.proofs.Math.Seq.{drop-cons, drop-length}
use Rattle.std.specs.Prelude.{slice_get}
use Rattle.ipg_core.specs.Tree as tree
use Rattle.ipg_core.specs.Tree.{Kids, no_kids, kid, kid_at}
use Rattle.ipg_core.specs.Eval.{item_at}
use Rattle.ipg_mach_nodes.specs.declared.kid.Kid.{Kid}
use Rattle.ipg_mach_nodes.specs.declared.kid.Kid.TheVariants as row
use Rattle.ipg_mach_nodes.specs.Stored.{Stored, Source, StandsKid, StandKids}
use Rattle.ipg_mach_results.specs.Ends.{IsShort, AreShort}
use Rattle.ipg_mach_results.specs.Reads.{row_at}

-- what is read where there is no row
abbrev pub no_row : Kid
no_row = row.Node (record { place = 0 }) 0 0

-- the rows from one place before the given one on
drop_back : (ks : List Kid) (i : ℕ) (d : Kid) → 0 < i → i ≤ length ks → drop (i - 1) ks ≡ get_or ks (i - 1) d ∷ drop i ks
drop_back ks zero d lt le = absurd (omega arith)
drop_back ks (suc n) d lt le =
    let m : suc n - 1 ≡ n = omega arith in
    ap (λ i. drop i ks) m ∙ drop-cons ks n d (omega arith) ∙ ap (λ i. get_or ks i d ∷ drop (suc n) ks) (sym m)

-- a row and the rows behind it hold a child and the children behind it
pub record AreMore (src : Source) (st : Stored) (at : ℕ) (k : Kid) (ks : List Kid) (ones : Kids) : Type 0 where
  pub one : tree.Kid
  pub more : Kids
  pub are : ones ≡ kid one more
  pub stands : StandsKid src st at k one
  pub stand : StandKids src st at ks more

-- a row and a child, or neither
abbrev pub StandsAt : Source → Stored → ℕ → Option Kid → Option tree.Kid → Type 0
StandsAt src st at None None = Unit {0}
StandsAt src st at (Some k) (Some one) = StandsKid src st at k one
StandsAt src st at None (Some one) = ⊥
StandsAt src st at (Some k) None = ⊥

module _ (src : Source) (st : Stored) (at : ℕ) where
  -- no rows hold no children
  none_left : (ks : List Kid) (ones : Kids) → ks ≡ [] → StandKids src st at ks ones → ones ≡ no_kids
  none_left [] no_kids e h = refl
  none_left [] (kid one more) e h = absurd h
  none_left (k ∷ ks) ones e h = absurd (cc)

  pub nothing_left : (ks : List Kid) (ones : Kids) → StandKids src st at (drop (length ks) ks) ones → ones ≡ no_kids
  nothing_left ks ones h = none_left (drop (length ks) ks) ones (drop-length ks) h

  one_more : (k : Kid) (ks : List Kid) (ones : Kids) → StandKids src st at (k ∷ ks) ones → AreMore src st at k ks ones
  one_more k ks (kid one more) h = record { one = one; more = more; are = refl; stands = h.0; stand = h.1 }
  one_more k ks no_kids h = absurd h

  pub last_more : (ks : List Kid) (i : ℕ) (d : Kid) (ones : Kids) → 0 < i → i ≤ length ks → StandKids src st at (drop (i - 1) ks) ones
      → AreMore src st at (get_or ks (i - 1) d) (drop i ks) ones
  last_more ks i d ones lt le h =
      one_more (get_or ks (i - 1) d) (drop i ks) ones (subst (λ rows. StandKids src st at rows ones) (drop_back ks i d lt le) h)

  at_place : (ks : List Kid) (ones : Kids) (n : ℕ) → StandKids src st at ks ones → StandsAt src st at (slice_get ks n) (kid_at ones n)
  at_place [] no_kids n h = tt
  at_place (k ∷ ks) (kid one more) zero h = h.0
  at_place (k ∷ ks) (kid one more) (suc n) h = at_place ks more n h.1
  at_place [] (kid one more) n h = absurd h
  at_place (k ∷ ks) no_kids n h = absurd h

  at_index : (ks : List Kid) (ones : Kids) (i : ℤ) → StandKids src st at ks ones → StandsAt src st at (row_at ks i) (item_at ones i)
  at_index ks ones (pos n) h = at_place ks ones n h
  at_index ks ones (negsuc n) h = tt

  one_of : (row : Option Kid) (item : Option tree.Kid) (k : Kid) → StandsAt src st at row item → row ≡ Some k
      → (one : tree.Kid) × (item ≡ Some one) × StandsKid src st at k one
  one_of (Some r) (Some one) k h e = let same : r ≡ k = cc in (one, refl, subst (λ x. StandsKid src st at x one) same h)
  one_of (Some r) None k h e = absurd h
  one_of None item k h e = absurd (cc)

  none_of : (row : Option Kid) (item : Option tree.Kid) → StandsAt src st at row item → row ≡ None → item ≡ None
  none_of None None h e = refl
  none_of None (Some one) h e = absurd h
  none_of (Some r) item h e = absurd (cc)

  -- the item at the place of a row
  pub item_stands : (ks : List Kid) (ones : Kids) (i : ℤ) (k : Kid) → StandKids src st at ks ones → row_at ks i ≡ Some k
      → (one : tree.Kid) × (item_at ones i ≡ Some one) × StandsKid src st at k one
  item_stands ks ones i k h e = one_of (row_at ks i) (item_at ones i) k (at_index ks ones i h) e

  pub no_item : (ks : List Kid) (ones : Kids) (i : ℤ) → StandKids src st at ks ones → row_at ks i ≡ None → item_at ones i ≡ None
  no_item ks ones i h e = none_of (row_at ks i) (item_at ones i) (at_index ks ones i h) e

short_place : (ones : Kids) (n : ℕ) (one : tree.Kid) → kid_at ones n ≡ Some one → AreShort ones → IsShort one
short_place no_kids n one e h = absurd (cc)
short_place (kid k ks) zero one e h = let f : k ≡ one = cc in subst IsShort f h.0
short_place (kid k ks) (suc n) one e h = short_place ks n one e h.1

pub short_index : (ones : Kids) (i : ℤ) (one : tree.Kid) → item_at ones i ≡ Some one → AreShort ones → IsShort one
short_index ones (pos n) one e h = short_place ones n one e h
short_index ones (negsuc n) one e h = absurd (cc)
