-- What a walk has left, step by step.
use Rattle.std.proofs.Common.{◌≡◌, ℕ, ◌+◌, ◌<◌, ◌≤◌, refl, sym, ap, ap₂, ◌∙◌, subst, subst₂, arith, max}
use Rattle.std.proofs.Common.{List, [], ◌∷◌, ◌++◌, length, append_assoc, append-nil, add-one}
use Rattle.ipg_core.specs.Tree as tree
use Rattle.ipg_core.specs.Tree.{Kids, no_kids, kid}
use Rattle.ipg_mach_nodes.specs.declared.kid.Kid.{Kid}
use Rattle.ipg_mach_nodes.specs.Stored.{Stored, Source, StandsKid, StandKids, kid_levels, kids_levels}
use Rattle.ipg_tree_walk.specs.Visits.{Seen, seen, kid_visits, kids_visits, kids_in, place_in, size_in}
use Rattle.ipg_query.specs.declared.inside.Deep.{Deep}
use Rattle.ipg_query.specs.Inside.{Lot, Walked, LotOf, HasLeft, Leave, Entered, IsDeep, visits_of}
use Rattle.ipg_query.specs.Picked.{Found, found}
use Rattle.ipg_query.specs.Spots.{IsNear, AreNear, IsSpot, spot_at}
use Rattle.ipg_query.specs.declared.spot.Spot.{Spot}
use Rattle.ipg_query.proofs.Lying.{first_near, rest_near, in_near, spot_is}

-- a child is visited, and then what lies in it
pub its_visits : (depth at n : ℕ) (one : tree.Kid)
    → kid_visits depth at n one ≡ seen depth at n one ∷ kids_visits (depth + 1) (place_in at one) (size_in n one) (kids_in one)
its_visits depth at n (tree.Sub from to (tree.Node rule size attrs start end kids)) = refl
its_visits depth at n (tree.Token from to bytes) = refl
its_visits depth at n (tree.Number from to prim high low) = refl
its_visits depth at n (tree.Raw from to bytes) = refl
its_visits depth at n (tree.Array sym items) = refl
its_visits depth at n (tree.Many sym items) = refl

-- where something lies in a child there is a level for that
deeper : (one : tree.Kid) → (kids_in one ≡ no_kids → ⊥) → kids_levels (kids_in one) + 1 ≤ kid_levels one
deeper (tree.Sub from to (tree.Node rule size attrs start end kids)) some = omega arith
deeper (tree.Token from to bytes) some = absurd (some refl)
deeper (tree.Number from to prim high low) some = absurd (some refl)
deeper (tree.Raw from to bytes) some = absurd (some refl)
deeper (tree.Array sym items) some = omega arith
deeper (tree.Many sym items) some = omega arith

pub heads : (a b : Seen) (xs ys : List Seen) → a ∷ xs ≡ b ∷ ys → a ≡ b
heads a b xs ys e = cc

pub tails : (a b : Seen) (xs ys : List Seen) → a ∷ xs ≡ b ∷ ys → xs ≡ ys
tails a b xs ys e = cc

not_nothing : (a : Seen) (xs : List Seen) → a ∷ xs ≡ [] → ⊥
not_nothing a xs e = cc

module _ (src : Source) (st : Stored) where
  none_in : (at : ℕ) (kids : Kids) → StandKids src st at [] kids → kids ≡ no_kids
  none_in at no_kids h = refl
  none_in at (kid one more) h = absurd h

  no_rows : (at : ℕ) (rows : List Kid) (kids : Kids) → length rows ≡ 0 → StandKids src st at rows kids → kids ≡ no_kids
  no_rows at [] kids e h = none_in at kids h
  no_rows at (k ∷ rows) kids e h = absurd (omega (arith, e))

  some_rows : (at : ℕ) (rows : List Kid) (kids : Kids) → 0 < length rows → StandKids src st at rows kids → kids ≡ no_kids → ⊥
  some_rows at [] kids lt h e = omega (arith, lt)
  some_rows at (k ∷ rows) kids lt h e = absurd (subst (StandKids src st at (k ∷ rows)) e h)

  module _ (room : ℕ) (levels : List Lot) (at : ℕ) (k : Kid) (size : ℕ) (level : Lot) (new_room : ℕ) (new : List Lot)
      (is : (one : tree.Kid) → StandsKid src st at k one → IsNear at one → LotOf src st level at size one) (same : new_room ≡ room) where
    pub entered_rows : 0 < length level.rows → (length levels < room → new ≡ level ∷ levels) → Entered src st room levels at k size new_room new
    entered_rows some pushed one more stands near fits leave =
        let l = is one stands near in
        let n = length levels + 1 in
        let more_levels = deeper one (some_rows (place_in at one) level.rows (kids_in one) some l.stand) in
        subst₂ (λ r ls. Leave src st r ls (kids_visits n (place_in at one) (size_in size one) (kids_in one) ++ more)) (sym same)
        (sym (pushed (omega (arith, more_levels, fits)))) (
          kids_in one,
          more,
          record {
            stand = subst (λ a. StandKids src st a level.rows (kids_in one)) (sym l.place) l.stand;
            near = subst (λ a. AreNear a (kids_in one)) (sym l.place) (in_near at one near);
            fits = omega (arith, more_levels, fits);
          },
          leave,
          ap₂ (λ a s. kids_visits n a s (kids_in one) ++ more) l.place l.long,
        )

    pub entered_none : length level.rows ≡ 0 → new ≡ levels → Entered src st room levels at k size new_room new
    entered_none none kept one more stands near fits leave =
        let l = is one stands near in
        let no = no_rows (place_in at one) level.rows (kids_in one) none l.stand in
        subst₂ (λ r ls. Leave src st r ls (kids_visits (length levels + 1) (place_in at one) (size_in size one) (kids_in one) ++ more)) (sym same) (sym kept)
        (subst (λ ks. Leave src st room levels (kids_visits (length levels + 1) (place_in at one) (size_in size one) ks ++ more)) (sym no) leave)

  -- rows of which the first holds a child
  pub record AreMore (at : ℕ) (k : Kid) (ks : List Kid) (kids : Kids) : Type 0 where
    pub one : tree.Kid
    pub more : Kids
    pub are : kids ≡ kid one more
    pub stands : StandsKid src st at k one
    pub stand : StandKids src st at ks more

  more_in : (at : ℕ) (k : Kid) (ks : List Kid) (kids : Kids) → StandKids src st at (k ∷ ks) kids → AreMore at k ks kids
  more_in at k ks no_kids h = absurd h
  more_in at k ks (kid one more) h = record { one = one; more = more; are = refl; stands = h.0; stand = h.1 }

  -- with one row before the others
  abbrev pub with_row : Kid → Lot → Lot
  with_row k rest = record { rows = k ∷ rest.rows; at = rest.at; size = rest.size }

  -- what the innermost of some levels has left begins with a child, in this row
  pub record Goes (room : ℕ) (around : List Lot) (rest : Lot) (k : Kid) (left : List Seen) : Type 0 where
    pub one : tree.Kid
    pub kids : Kids
    pub more : List Seen
    pub stands : StandsKid src st rest.at k one
    pub near : IsNear rest.at one
    pub behind : HasLeft src st room (length around) rest kids
    pub fits : length around + 1 + kid_levels one ≤ room
    pub leave : Leave src st room around more
    pub visits : kid_visits (length around + 1) rest.at rest.size one ++ (kids_visits (length around + 1) rest.at rest.size kids ++ more) ≡ left

  goes : (room : ℕ) (around : List Lot) (rest : Lot) (k : Kid) (left : List Seen) → Leave src st room (with_row k rest ∷ around) left
      → Goes room around rest k left
  goes room around rest k left (kids, more, has, leave, e) =
      let n = length around + 1 in
      let m = more_in rest.at k rest.rows kids has.stand in
      let near : AreNear rest.at (kid m.one m.more) = subst (AreNear rest.at) m.are has.near in
      let fits : n + max (kid_levels m.one) (kids_levels m.more) ≤ room = subst (λ ks. n + kids_levels ks ≤ room) m.are has.fits in
      record {
        one = m.one;
        kids = m.more;
        more = more;
        stands = m.stands;
        near = first_near rest.at m.one m.more near;
        behind = record { stand = m.stand; near = rest_near rest.at m.one m.more near; fits = omega (arith, fits) };
        fits = omega (arith, fits);
        leave = leave;
        visits = sym (append_assoc (kid_visits n rest.at rest.size m.one) (kids_visits n rest.at rest.size m.more) more)
            ∙ ap (λ ks. kids_visits n rest.at rest.size ks ++ more) (sym m.are) ∙ e;
      }

  is_deep : (deep : Deep) (spot : Spot) (depth size : ℕ) (x : Found) → deep.depth ≡ depth → deep.size ≡ size → deep.spot ≡ spot → IsSpot src st spot x
      → IsDeep src st deep (seen depth x.at size x.child)
  is_deep deep spot depth size x ed es ep is = record { depth = ed; size = es; spot = subst (λ s. IsSpot src st s (found x.at x.child)) (sym ep) is }

  pub goes_on : (room : ℕ) (around : List Lot) (rest : Lot) (k : Kid) (one : Seen) (more : List Seen) (replaced entered : Walked) (deep : Deep)
      → deep.depth ≡ length around + 1 → deep.size ≡ rest.size → deep.spot ≡ spot_at rest.at k
      → replaced.room ≡ room → replaced.levels ≡ rest ∷ around
      → Entered src st replaced.room replaced.levels rest.at k rest.size entered.room entered.levels
      → Leave src st room (with_row k rest ∷ around) (one ∷ more)
      → IsDeep src st deep one × Leave src st entered.room entered.levels more
  goes_on room around rest k one more replaced entered deep ed es ep same is enter leave =
      let go = goes room around rest k (one ∷ more) leave in
      let n = length around + 1 in
      let fits = go.fits in
      let behind = kids_visits n rest.at rest.size go.kids ++ go.more in
      let all = ap (λ vs. vs ++ behind) (sym (its_visits n rest.at rest.size go.one)) ∙ go.visits in
      let long : length replaced.levels ≡ n = ap length is ∙ sym (add-one (length around)) in
      let left : Leave src st replaced.room replaced.levels behind = subst₂ (λ r levels. Leave src st r levels behind) (sym same) (sym is)
      (go.kids, go.more, go.behind, go.leave, refl) in
      let inner = enter go.one behind go.stands go.near (omega (arith, fits, long, same)) left in (
        subst (IsDeep src st deep) (heads _ _ _ _ all)
            (is_deep deep (spot_at rest.at k) n rest.size (found rest.at go.one) ed es ep (spot_is src st rest.at k go.one go.stands go.near)),
        subst (Leave src st entered.room entered.levels)
            (ap (λ m. kids_visits (m + 1) (place_in rest.at go.one) (size_in rest.size go.one) (kids_in go.one) ++ behind) long ∙ tails _ _ _ _ all) inner,
      )

  -- where no row is left the levels around have all
  pub nothing_next : (room : ℕ) (around : List Lot) (level : Lot) (left : List Seen) → level.rows ≡ [] → Leave src st room (level ∷ around) left
      → Leave src st room around left
  nothing_next room around level left none (kids, more, has, leave, e) =
      let no = none_in level.at kids (subst (λ rows. StandKids src st level.at rows kids) none has.stand) in
      subst (Leave src st room around) (ap (λ ks. kids_visits (length around + 1) level.at level.size ks ++ more) (sym no) ∙ e) leave

  -- where a row comes next something is left
  pub something_left : (room : ℕ) (around : List Lot) (rest : Lot) (k : Kid) → Leave src st room (with_row k rest ∷ around) [] → ⊥
  something_left room around rest k leave =
      let go = goes room around rest k [] leave in
      let behind = kids_visits (length around + 1) rest.at rest.size go.kids ++ go.more in
      not_nothing _ _ (ap (λ vs. vs ++ behind) (sym (its_visits (length around + 1) rest.at rest.size go.one)) ∙ go.visits)

  -- the same, with the innermost level by itself
  pub parted : (room other : ℕ) (levels around : List Lot) (level : Lot) (left : List Seen) → other ≡ room → levels ≡ level ∷ around
      → Leave src st room levels left
      → Leave src st other (level ∷ around) left
  parted room other levels around level left same is h =
      subst (λ r. Leave src st r (level ∷ around) left) (sym same) (subst (λ ls. Leave src st room ls left) is h)

  -- behind what a walk begins with, what lies in that is left
  pub begins : (spot : Spot) (x : Found) (size room : ℕ) (one : Seen) (more : List Seen) (cleared entered : Walked) (deep : Deep)
      → deep.depth ≡ 0 → deep.size ≡ size → deep.spot ≡ spot → cleared.room ≡ room → cleared.levels ≡ [] → IsSpot src st spot x
      → kid_levels x.child ≤ room
      → Entered src st cleared.room cleared.levels spot.at spot.kid size entered.room entered.levels → visits_of size x ≡ one ∷ more
      → IsDeep src st deep one × Leave src st entered.room entered.levels more
  begins spot x size room one more cleared entered deep ed es ep same none is fits enter all_of =
      let all = sym (its_visits 0 x.at size x.child) ∙ all_of in
      let inner = subst (λ levels. Entered src st cleared.room levels spot.at spot.kid size entered.room entered.levels) none enter in
      let near = is.near in
      let left = inner x.child [] is.stands near (omega (arith, fits, same)) refl in (
        subst (IsDeep src st deep) (heads _ _ _ _ all) (is_deep deep spot 0 size x ed es ep is),
        subst (Leave src st entered.room entered.levels)
            (ap (λ a. kids_visits 1 (place_in a x.child) (size_in size x.child) (kids_in x.child) ++ []) is.at ∙ append-nil _ ∙ tails _ _ _ _ all) left,
      )
