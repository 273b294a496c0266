-- What a walk has left, step by step.
use Rattle.std.proofs.Common.{◌≡◌, ℕ, zero, suc, ◌+◌, ◌*◌, ◌^◌, ◌<◌, ◌≤◌, refl, sym, ap, ap₂, ◌∙◌, subst, arith, max, List, [], ◌∷◌, ◌++◌, length, drop}
use Rattle.std.proofs.Common.{Option, Some, None, add-one, drop-cons, inl, inr}
use Rattle.std.proofs.lemmas.Bool.{cases_lt}
use Rattle.std.specs.Prelude.{slice_get, MatchOption}
use Rattle.std.proofs.lemmas.List.{append_assoc, drop_all}
use Rattle.std.proofs.lemmas.Option.{slice_get_within, get_or_from_slice_get}
use Rattle.ipg_core.specs.Tree as tree
use Rattle.ipg_core.specs.Tree.{Tree, Kids, no_kids, kid}
use Rattle.ipg_mach_nodes.specs.declared.kid.Kid.{Kid}
use Rattle.ipg_mach_nodes.specs.Stored.{Stored, Source, StandsKid, StandKids, kid_levels, kids_levels}
use Rattle.ipg_tree_walk.specs.declared.stack.Level.{Level}
use Rattle.ipg_tree_walk.specs.declared.walk.Taken.{Taken}
use Rattle.ipg_tree_walk.specs.declared.walk.Visit.{Visit}
use Rattle.ipg_tree_walk.specs.Stack.{Stacked}
use Rattle.ipg_tree_walk.specs.Visits.{Seen, seen, kid_visits, kids_visits, kids_in, place_in, size_in, from_of}
use Rattle.ipg_tree_walk.specs.Left.{Shows, RowsLeft, BeginsRows, Follows, Takes, TakesIf, IsOpen, Leave}
use Rattle.ipg_region.specs.declared.region.RunId.{RunId}

-- a child is visited, and then what lies in it
pub its_visits : (depth at n : ℕ) (one : tree.Kid)
    → kid_visits depth at n one ≡ seen depth at n one ∷ kids_visits (depth + 1) (place_in at one) (size_in n one) (kids_in one)
its_visits depth at n (tree.Sub from to (tree.Node rule size attrs start end kids)) = refl
its_visits depth at n (tree.Token from to bytes) = refl
its_visits depth at n (tree.Number from to prim high low) = refl
its_visits depth at n (tree.Raw from to bytes) = refl
its_visits depth at n (tree.Array sym items) = refl
its_visits depth at n (tree.Many sym items) = refl

-- what lies in a child begins within its interval's start
pub place_near : (at : ℕ) (one : tree.Kid) → place_in at one ≤ at + from_of one
place_near at (tree.Sub from to sub) = omega arith
place_near at (tree.Token from to bytes) = omega arith
place_near at (tree.Number from to prim high low) = omega arith
place_near at (tree.Raw from to bytes) = omega arith
place_near at (tree.Array sym items) = omega arith
place_near at (tree.Many sym items) = omega arith

row_at : (rows : List Kid) (n : ℕ) (k : Kid) → slice_get rows n ≡ Some k → drop n rows ≡ k ∷ drop (suc n) rows
row_at rows n k e = drop-cons rows n k (slice_get_within rows n k e) ∙ ap (λ r. r ∷ drop (suc n) rows) (get_or_from_slice_get rows n k k e)

no_row : (rows : List Kid) (n : ℕ) → slice_get rows n ≡ None → drop n rows ≡ []
no_row [] zero e = refl
no_row [] (suc n) e = refl
no_row (x ∷ rows) zero e = absurd (cc)
no_row (x ∷ rows) (suc n) e = no_row rows n e

-- where a list's rows are known, what is left of them
rows_left : (st : Stored) (list : Option RunId) (one : RunId) (next : ℕ) (all rows : List Kid) → list ≡ Some one
    → ((kids : List Kid) → slice_get st.kids one.place ≡ Some kids → all ≡ kids) → RowsLeft st list next rows → rows ≡ drop next all
rows_left st list one next all rows is known left =
    let h = subst (λ l. RowsLeft st l next rows) is left in h.2 ∙ ap (drop next) (sym (known h.0 h.1))

begins : (st : Stored) (level : Level) (list : RunId) (all : List Kid) (taken : Taken) (rows : List Kid) → level.list ≡ Some list
    → ((kids : List Kid) → slice_get st.kids list.place ≡ Some kids → all ≡ kids) → Follows level all taken → RowsLeft st level.list level.next rows
    → BeginsRows st taken.kid taken.rest.list taken.rest.next rows
begins st level list all taken rows is known h left = (
  drop (level.next + 1) all,
  rows_left st level.list list level.next all rows is known left ∙ row_at all level.next taken.kid h.kid
      ∙ ap (λ i. taken.kid ∷ drop i all) (sym (add-one level.next)),
  elim (cases_lt (level.next + 1) (length all)) [
    | inl lt ↦ subst (λ l. RowsLeft st l taken.rest.next (drop (level.next + 1) all)) (sym (h.more lt))
        (subst (λ l. RowsLeft st l taken.rest.next (drop (level.next + 1) all)) (sym is) (
        let known_at = subst (λ l. RowsLeft st l level.next rows) is left in
        (all, known_at.1 ∙ ap Some (sym (known known_at.0 known_at.1)), ap (λ n. drop n all) (sym h.next))))
    | inr ge ↦ subst (λ l. RowsLeft st l taken.rest.next (drop (level.next + 1) all)) (sym (h.none ge)) (drop_all (level.next + 1) all ge)
  ],
)

-- the row that comes next where the list's rows are known
pub takes_if : (st : Stored) (level : Level) (list : RunId) (rows : List Kid) (taken : Option Taken) → level.list ≡ Some list
    → ((kids : List Kid) → slice_get st.kids list.place ≡ Some kids → rows ≡ kids)
    → MatchOption taken (slice_get rows level.next ≡ None) (Follows level rows)
    → TakesIf st level taken
takes_if st level list rows None is known h = λ left h'. rows_left st level.list list level.next rows left is known h' ∙ no_row rows level.next h
takes_if st level list rows (Some taken) is known h = record {
  rows = λ left h'. begins st level list rows taken left is known h h';
  at = h.at;
  size = h.size;
  next = h.next;
  counts = h.counts;
}

module _ (src : Source) (st : Stored) where
  -- rows of which the first holds a child
  pub record AreMore (at : ℕ) (k : Kid) (ks : List Kid) (kids : Kids) : Type 0 where
    pub one : tree.Kid
    pub more : Kids
    pub are : kids ≡ kid one more
    pub stands : StandsKid src st at k one
    pub stand : StandKids src st at ks more

  more_in : (at : ℕ) (k : Kid) (ks : List Kid) (kids : Kids) → StandKids src st at (k ∷ ks) kids → AreMore at k ks kids
  more_in at k ks no_kids h = absurd h
  more_in at k ks (kid one more) h = record { one = one; more = more; are = refl; stands = h.0; stand = h.1 }

  none_in : (at : ℕ) (kids : Kids) → StandKids src st at [] kids → kids ≡ no_kids
  none_in at no_kids h = refl
  none_in at (kid one more) h = absurd h

  -- what the innermost of some levels has left begins with a child, in this row
  pub record Goes (room : ℕ) (around : List Level) (rest : Level) (k : Kid) (left : List Seen) : Type 0 where
    pub one : tree.Kid
    pub kids : Kids
    pub more : List Seen
    pub stands : StandsKid src st rest.at k one
    pub behind : IsOpen src st room (length around) rest kids
    pub fits : length around + 1 + kid_levels one ≤ room
    pub leave : Leave src st room around more
    pub visits : kid_visits (length around + 1) rest.at rest.size one ++ (kids_visits (length around + 1) rest.at rest.size kids ++ more) ≡ left

  goes : (room : ℕ) (around : List Level) (level : Level) (taken : Taken) (left : List Seen) → Takes st level taken → Leave src st room (level ∷ around) left
      → Goes room around taken.rest taken.kid left
  goes room around level taken left takes (kids, more, is, leave, e) =
      let h = is.holds in
      let n = length around + 1 in
      let at = taken.rest.at in
      let size = taken.rest.size in
      let rows = takes.rows h.rows h.are_rows in
      let stand : StandKids src st at h.rows kids = subst (λ a. StandKids src st a h.rows kids) (sym takes.at) h.stand in
      let m = more_in at taken.kid rows.0 kids (subst (λ ks. StandKids src st at ks kids) rows.1 stand) in
      let near : at ≤ length around * 2 ^ 32 = subst (λ a. a ≤ length around * 2 ^ 32) (sym takes.at) is.near in
      let fits : n + max (kid_levels m.one) (kids_levels m.more) ≤ room = subst (λ ks. n + kids_levels ks ≤ room) m.are is.fits in
      record {
        one = m.one;
        kids = m.more;
        more = more;
        stands = m.stands;
        behind = record {
          holds = record { rows = rows.0; are_rows = rows.2; stand = m.stand };
          fits = omega (arith, fits);
          near = near;
        };
        fits = omega (arith, fits);
        leave = leave;
        visits = sym (append_assoc (kid_visits n at size m.one) (kids_visits n at size m.more) more)
            ∙ ap (λ ks. kids_visits n at size ks ++ more) (sym m.are)
            ∙ ap₂ (λ a s. kids_visits n a s kids ++ more) takes.at takes.size ∙ e;
      }

  -- what going into a child leaves
  abbrev pub Entered : ℕ → List Level → ℕ → ℕ → Kid → ℕ → List Level → Type 0
  Entered room levels at size k new_room new =
      (one : tree.Kid) (more : List Seen) → StandsKid src st at k one → place_in at one < 2 ^ 64 → place_in at one ≤ length levels * 2 ^ 32
      → length levels + kid_levels one ≤ room
      → Leave src st room levels more
      → Leave src st new_room new (kids_visits (length levels + 1) (place_in at one) (size_in size one) (kids_in one) ++ more)

  pub heads : (a b : Seen) (xs ys : List Seen) → a ∷ xs ≡ b ∷ ys → a ≡ b
  heads a b xs ys e = cc

  pub tails : (a b : Seen) (xs ys : List Seen) → a ∷ xs ≡ b ∷ ys → xs ≡ ys
  tails a b xs ys e = cc

  pub goes_on : (room : ℕ) (around : List Level) (level : Level) (taken : Taken) (one : Seen) (more : List Seen)
      → (pushed entered : Stacked) (depth : ℕ) (visit : Visit)
      → room < 2 ^ 32 → depth ≡ length around + 1
      → pushed.room ≡ room → pushed.levels ≡ taken.rest ∷ around
      → Entered pushed.room pushed.levels taken.rest.at taken.rest.size taken.kid entered.room entered.levels
      → ((k : tree.Kid) → StandsKid src st taken.rest.at taken.kid k → from_of k < 2 ^ 32)
      → ((k : tree.Kid) → StandsKid src st taken.rest.at taken.kid k → taken.rest.at + 2 ^ 33 ≤ 2 ^ 64
      → Shows src st visit (seen depth taken.rest.at taken.rest.size k))
      → Takes st level taken → Leave src st room (level ∷ around) (one ∷ more)
      → Shows src st visit one × Leave src st entered.room entered.levels more
  goes_on room around level taken one more pushed entered depth visit small deep same is enter near shows takes leave =
      let at = taken.rest.at in
      let size = taken.rest.size in
      let go = goes room around level taken (one ∷ more) takes leave in
      let fits = go.fits in
      let close = go.behind.near in
      let from = near go.one go.stands in
      let place = place_near at go.one in
      let behind = kids_visits (length around + 1) at size go.kids ++ go.more in
      let all = ap (λ vs. vs ++ behind) (sym (its_visits (length around + 1) at size go.one)) ∙ go.visits in
      let long : length pushed.levels ≡ length around + 1 = ap length is ∙ sym (add-one (length around)) in
      let rest = subst (λ levels. Leave src st pushed.room levels behind) (sym is) (
        go.kids,
        go.more,
        subst (λ r. IsOpen src st r (length around) taken.rest go.kids) (sym same) go.behind,
        subst (λ r. Leave src st r around go.more) (sym same) go.leave,
        refl,
      ) in
      let inner = enter go.one behind go.stands (omega arith) (omega arith) (omega arith) rest in (
        subst (Shows src st visit) (ap (λ d. seen d at size go.one) deep ∙ heads _ _ _ _ all) (shows go.one go.stands (omega arith)),
        subst (Leave src st entered.room entered.levels)
            (ap (λ n. kids_visits (n + 1) (place_in at go.one) (size_in size go.one) (kids_in go.one) ++ behind) long ∙ tails _ _ _ _ all) inner,
      )

  -- where no row comes next the levels around have all
  pub nothing_next : (room : ℕ) (around : List Level) (level : Level) (left : List Seen) → TakesIf st level None → Leave src st room (level ∷ around) left
      → Leave src st room around left
  nothing_next room around level left none (kids, more, is, leave, e) =
      let no = none_in level.at kids (subst (λ rows. StandKids src st level.at rows kids) (none is.holds.rows is.holds.are_rows) is.holds.stand) in
      subst (Leave src st room around) (ap (λ ks. kids_visits (length around + 1) level.at level.size ks ++ more) (sym no) ∙ e) leave

  not_nothing : (a : Seen) (xs : List Seen) → a ∷ xs ≡ [] → ⊥
  not_nothing a xs e = cc

  -- where a row comes next something is left
  pub something_left : (room : ℕ) (around : List Level) (level : Level) (taken : Taken) → Takes st level taken → Leave src st room (level ∷ around) [] → ⊥
  something_left room around level taken takes leave =
      let go = goes room around level taken [] takes leave in
      let behind = kids_visits (length around + 1) taken.rest.at taken.rest.size go.kids ++ go.more in
      not_nothing _ _ (ap (λ vs. vs ++ behind) (sym (its_visits (length around + 1) taken.rest.at taken.rest.size go.one)) ∙ go.visits)

  -- the same, with the innermost level by itself
  pub parted : (room other : ℕ) (levels around : List Level) (level : Level) (left : List Seen) → other ≡ room → levels ≡ level ∷ around
      → Leave src st room levels left
      → Leave src st other (level ∷ around) left
  parted room other levels around level left same is h =
      subst (λ r. Leave src st r (level ∷ around) left) (sym same) (subst (λ ls. Leave src st room ls left) is h)
