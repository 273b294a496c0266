-- Ways stay as they are where the rows, the cells and what lies below the rows only grow.
use Rattle.std.proofs.Common.{◌≡◌, ℕ, zero, suc, ◌+◌, ◌-◌, ◌<◌, ◌≤◌, Bool, true, false, cond, ◌&&◌, refl, sym, ap, subst, ◌∙◌, arith, nat_eq}
use Rattle.std.proofs.lemmas.Bool.Decides.{nat_tests}
use Rattle.std.specs.Prelude.{Option, None, Some, slice_get}
use Rattle.ipg_memo.specs.declared.memo.Key.{Key}
use Rattle.ipg_memo.specs.declared.reached.Reached.{Reached}
use Rattle.ipg_memo.specs.declared.reached.Reached.TheVariants.{Row, Vacant, Bare, Lost}
use Rattle.ipg_memo.specs.declared.reached.Step.{Step}
use Rattle.ipg_memo.specs.declared.reached.Step.TheVariants.{Stops, Goes}
use Rattle.ipg_memo.specs.Table.{Table}
use Rattle.ipg_memo.specs.Places.{home, side}
use Rattle.ipg_memo.specs.Ways.{same_key, from_cells, past, at_row, at_cell, step, end_of, way, reached, named_by, count_on, passed, IsMore}

-- a step that stays where all only grows
IsKept : Step → Type 0
IsKept (Stops (Row row)) = Unit {0}
IsKept (Stops (Vacant cell)) = ⊥
IsKept (Stops (Bare row side)) = ⊥
IsKept (Stops Lost) = ⊥
IsKept (Goes cell) = Unit {0}

-- what is at a place stays
Stay : {X : Type 0} → (old new : Option (Option X)) → Type 0
Stay {X} old new = (x : X) → old ≡ Some (Some x) → new ≡ Some (Some x)

pub record Grown (keys more : ℕ → Option Key) (old new : Table) : Type 0 where
  pub heads : new.heads ≡ old.heads
  pub rows : IsMore keys more
  pub cells : (c n : ℕ) → slice_get old.cells c ≡ Some (Some n) → slice_get new.cells c ≡ Some (Some n)
  pub below : (r b : ℕ) → slice_get old.below r ≡ Some (Some b) → slice_get new.below r ≡ Some (Some b)

not_kept : {P : Type 0} (s t : Step) → s ≡ t → (IsKept s → ⊥) → IsKept t → P
not_kept s t e refuse kept = absurd (refuse (subst IsKept (sym e) kept))

kept_from : (key : Key) (left row : ℕ) (o p : Option (Option ℕ)) (s : Step) → ((n : ℕ) → o ≡ Some (Some n) → p ≡ Some (Some n)) → IsKept s
    → from_cells key left row o ≡ s → from_cells key left row p ≡ s
unfolding IsKept
kept_from key left row None p s stay kept e = not_kept (Stops Lost) s e (λ h. h) kept
kept_from key left row (Some None) p s stay kept e = not_kept (Stops (Bare row (side key left))) s e (λ h. h) kept
kept_from key left row (Some (Some n)) p s stay kept e = ap (from_cells key left row) (stay n refl) ∙ e

kept_past : (old new : Table) (key : Key) (left row : ℕ) (s : Step)
    → ((b : ℕ) → slice_get old.below row ≡ Some (Some b) → slice_get new.below row ≡ Some (Some b)) → IsKept s
    → past old key left row ≡ s → past new key left row ≡ s
unfolding IsKept
kept_past old new key zero row s stay kept e = not_kept (Stops Lost) s e (λ h. h) kept
kept_past old new key (suc left) row s stay kept e =
    kept_from key (suc left) row (slice_get old.below row) (slice_get new.below row) s stay kept e

kept_test : (b : Bool) (found old new s : Step) → (old ≡ s → new ≡ s) → cond b found old ≡ s → cond b found new ≡ s
kept_test true found old new s stay e = e
kept_test false found old new s stay e = stay e

kept_row : (old new : Table) (key : Key) (left row : ℕ) (o p : Option Key) (s : Step)
    → ((b : ℕ) → slice_get old.below row ≡ Some (Some b) → slice_get new.below row ≡ Some (Some b)) → ((k : Key) → o ≡ Some k → p ≡ Some k) → IsKept s
    → at_row old key left row o ≡ s → at_row new key left row p ≡ s
unfolding IsKept
kept_row old new key left row None p s stay rows kept e = not_kept (Stops Lost) s e (λ h. h) kept
kept_row old new key left row (Some k) p s stay rows kept e =
    ap (at_row new key left row) (rows k refl)
    ∙ kept_test (same_key key k) (Stops (Row row)) (past old key left row) (past new key left row) s (kept_past old new key left row s stay kept) e

kept_cell : (keys more : ℕ → Option Key) (old new : Table) (key : Key) (left cell : ℕ) (o p : Option (Option ℕ)) (s : Step)
    → Grown keys more old new → ((n : ℕ) → o ≡ Some (Some n) → p ≡ Some (Some n)) → IsKept s
    → at_cell keys old key left cell o ≡ s → at_cell more new key left cell p ≡ s
unfolding IsKept
kept_cell keys more old new key left cell None p s grown stay kept e = not_kept (Stops Lost) s e (λ h. h) kept
kept_cell keys more old new key left cell (Some None) p s grown stay kept e = not_kept (Stops (Vacant cell)) s e (λ h. h) kept
kept_cell keys more old new key left cell (Some (Some row)) p s grown stay kept e =
    ap (at_cell more new key left cell) (stay row refl)
    ∙ kept_row old new key left row (keys row) (more row) s (grown.below row) (grown.rows row) kept e

kept_step : (keys more : ℕ → Option Key) (old new : Table) (key : Key) (left cell : ℕ) (s : Step) → Grown keys more old new → IsKept s
    → step keys old key left cell ≡ s → step more new key left cell ≡ s
kept_step keys more old new key left cell s grown kept e =
    kept_cell keys more old new key left cell (slice_get old.cells cell) (slice_get new.cells cell) s grown (grown.cells cell) kept e

stays_end : (s t : Step) (on then : ℕ → Reached) (row : ℕ) → (IsKept s → t ≡ s) → ((c : ℕ) → on c ≡ Row row → then c ≡ Row row)
    → end_of s on ≡ Row row → end_of t then ≡ Row row
unfolding IsKept
stays_end (Stops (Row i)) t on then row same follow e = ap (λ s. end_of s then) (same tt) ∙ e
stays_end (Stops (Vacant c)) t on then row same follow e = absurd (cc)
stays_end (Stops (Bare r d)) t on then row same follow e = absurd (cc)
stays_end (Stops Lost) t on then row same follow e = absurd (cc)
stays_end (Goes c) t on then row same follow e = ap (λ s. end_of s then) (same tt) ∙ follow c e

stays_way : (keys more : ℕ → Option Key) (old new : Table) (key : Key) (row : ℕ) → Grown keys more old new → (left cell : ℕ)
    → way keys old key left cell ≡ Row row → way more new key left cell ≡ Row row
unfolding way
stays_way keys more old new key row grown zero cell e =
    stays_end (step keys old key zero cell) (step more new key zero cell) (λ _. Lost) (λ _. Lost) row
    (λ kept. kept_step keys more old new key zero cell (step keys old key zero cell) grown kept refl) (λ c h. h) e
stays_way keys more old new key row grown (suc left) cell e =
    stays_end (step keys old key (suc left) cell) (step more new key (suc left) cell) (way keys old key left) (way more new key left) row
    (λ kept. kept_step keys more old new key (suc left) cell (step keys old key (suc left) cell) grown kept refl)
    (stays_way keys more old new key row grown left) e

-- what is found stays found
pub stays_reached : (keys more : ℕ → Option Key) (old new : Table) → Grown keys more old new → (key : Key) (row : ℕ)
    → reached keys old key ≡ Row row → reached more new key ≡ Row row
stays_reached keys more old new grown key row e =
    ap (λ heads. way more new key 32 (home heads key)) grown.heads ∙ stays_way keys more old new key row grown 32 (home old.heads key) e

-- no row stops a way at a vacant cell
IsTaken : Step → Type 0
IsTaken (Stops (Row row)) = Unit {0}
IsTaken (Stops (Vacant cell)) = ⊥
IsTaken (Stops (Bare row side)) = Unit {0}
IsTaken (Stops Lost) = Unit {0}
IsTaken (Goes cell) = Unit {0}

taken_from : (key : Key) (left row : ℕ) (o : Option (Option ℕ)) → IsTaken (from_cells key left row o)
unfolding IsTaken
taken_from key left row None = tt
taken_from key left row (Some None) = tt
taken_from key left row (Some (Some b)) = tt

taken_past : (table : Table) (key : Key) (left row : ℕ) → IsTaken (past table key left row)
unfolding IsTaken
taken_past table key zero row = tt
taken_past table key (suc left) row = taken_from key (suc left) row (slice_get table.below row)

taken_test : (b : Bool) (s t : Step) → IsTaken s → IsTaken t → IsTaken (cond b s t)
taken_test true s t h k = h
taken_test false s t h k = k

taken_row : (table : Table) (key : Key) (left row : ℕ) (o : Option Key) → IsTaken (at_row table key left row o)
unfolding IsTaken
taken_row table key left row None = tt
taken_row table key left row (Some k) = taken_test (same_key key k) (Stops (Row row)) (past table key left row) tt (taken_past table key left row)

cell_of : Step → ℕ
cell_of (Stops (Row row)) = 0
cell_of (Stops (Vacant cell)) = cell
cell_of (Stops (Bare row side)) = 0
cell_of (Stops Lost) = 0
cell_of (Goes cell) = 0

-- a way that ends at a vacant cell ends where it is, and the cell names no row
vacant_at : (keys : ℕ → Option Key) (table : Table) (key : Key) (left cell : ℕ) (o : Option (Option ℕ)) (c : ℕ)
    → at_cell keys table key left cell o ≡ Stops (Vacant c) → (o ≡ Some None) × (cell ≡ c)
unfolding IsTaken cell_of
vacant_at keys table key left cell None c e = absurd (subst IsTaken e tt)
vacant_at keys table key left cell (Some None) c e = (refl, ap cell_of e)
vacant_at keys table key left cell (Some (Some row)) c e = absurd (subst IsTaken e (taken_row table key left row (keys row)))

vacant_end : (s : Step) (on : ℕ → Reached) (c : ℕ) {P : Type 0} → (s ≡ Stops (Vacant c) → P) → ((d : ℕ) → on d ≡ Vacant c → P) → end_of s on ≡ Vacant c → P
vacant_end (Stops (Row i)) on c here below e = absurd (cc)
vacant_end (Stops (Vacant d)) on c here below e = here (ap Stops e)
vacant_end (Stops (Bare r d)) on c here below e = absurd (cc)
vacant_end (Stops Lost) on c here below e = absurd (cc)
vacant_end (Goes d) on c here below e = below d e

vacant_way : (keys : ℕ → Option Key) (table : Table) (key : Key) (c left cell : ℕ) → way keys table key left cell ≡ Vacant c
    → slice_get table.cells c ≡ Some None
unfolding way
vacant_way keys table key c zero cell e =
    vacant_end (step keys table key zero cell) (λ _. Lost) c
    (λ h. let at = vacant_at keys table key zero cell (slice_get table.cells cell) c h in subst (λ d. slice_get table.cells d ≡ Some None) at.1 at.0)
    (λ d h. absurd (cc)) e
vacant_way keys table key c (suc left) cell e =
    vacant_end (step keys table key (suc left) cell) (way keys table key left) c
    (λ h. let at = vacant_at keys table key (suc left) cell (slice_get table.cells cell) c h in subst (λ d. slice_get table.cells d ≡ Some None) at.1 at.0)
    (λ d h. vacant_way keys table key c left d h) e

pub vacant_cell : (keys : ℕ → Option Key) (table : Table) (key : Key) (c : ℕ) → reached keys table key ≡ Vacant c → slice_get table.cells c ≡ Some None
vacant_cell keys table key c e = vacant_way keys table key c 32 (home table.heads key) e

same_nat : (n : ℕ) → nat_eq n n ≡ true
same_nat n = grind (arith, nat_tests)

pub same_self : (key : Key) → same_key key key ≡ true
same_self key = ap (λ b. b && (nat_eq key.from key.from && nat_eq key.to key.to)) (same_nat key.rule)
    ∙ ap (λ b. b && nat_eq key.to key.to) (same_nat key.from) ∙ same_nat key.to

-- a cell that names the row of the key ends its way
named : (keys : ℕ → Option Key) (table : Table) (key : Key) (left cell row : ℕ) → slice_get table.cells cell ≡ Some (Some row) → keys row ≡ Some key
    → step keys table key left cell ≡ Stops (Row row)
named keys table key left cell row e h =
    ap (at_cell keys table key left cell) e ∙ ap (at_row table key left row) h
    ∙ ap (λ b. cond b (Stops (Row row)) (past table key left row)) (same_self key)

leads_end : (s t : Step) (on then : ℕ → Reached) (c row : ℕ) → (IsKept s → t ≡ s) → (s ≡ Stops (Vacant c) → t ≡ Stops (Row row))
    → ((d : ℕ) → on d ≡ Vacant c → then d ≡ Row row) → end_of s on ≡ Vacant c → end_of t then ≡ Row row
unfolding IsKept
leads_end (Stops (Row i)) t on then c row same last follow e = absurd (cc)
leads_end (Stops (Vacant d)) t on then c row same last follow e = ap (λ s. end_of s then) (last (ap Stops e))
leads_end (Stops (Bare r d)) t on then c row same last follow e = absurd (cc)
leads_end (Stops Lost) t on then c row same last follow e = absurd (cc)
leads_end (Goes d) t on then c row same last follow e = ap (λ s. end_of s then) (same tt) ∙ follow d e

leads_last : (keys more : ℕ → Option Key) (old new : Table) (key : Key) (c row left cell : ℕ) → slice_get new.cells c ≡ Some (Some row) → more row ≡ Some key
    → step keys old key left cell ≡ Stops (Vacant c) → step more new key left cell ≡ Stops (Row row)
leads_last keys more old new key c row left cell names known h =
    let at = vacant_at keys old key left cell (slice_get old.cells cell) c h in
    named more new key left cell row (ap (slice_get new.cells) at.1 ∙ names) known

leads_way : (keys more : ℕ → Option Key) (old new : Table) (key : Key) (c row : ℕ) → Grown keys more old new → slice_get new.cells c ≡ Some (Some row)
    → more row ≡ Some key → (left cell : ℕ) → way keys old key left cell ≡ Vacant c → way more new key left cell ≡ Row row
unfolding way
leads_way keys more old new key c row grown names known zero cell e =
    leads_end (step keys old key zero cell) (step more new key zero cell) (λ _. Lost) (λ _. Lost) c row
    (λ kept. kept_step keys more old new key zero cell (step keys old key zero cell) grown kept refl)
    (leads_last keys more old new key c row zero cell names known) (λ d h. absurd (cc)) e
leads_way keys more old new key c row grown names known (suc left) cell e =
    leads_end (step keys old key (suc left) cell) (step more new key (suc left) cell) (way keys old key left) (way more new key left) c row
    (λ kept. kept_step keys more old new key (suc left) cell (step keys old key (suc left) cell) grown kept refl)
    (leads_last keys more old new key c row (suc left) cell names known) (leads_way keys more old new key c row grown names known left) e

-- a key whose way ended at a vacant cell leads to the row that the cell names now
pub leads_reached : (keys more : ℕ → Option Key) (old new : Table) (key : Key) (c row : ℕ) → Grown keys more old new → slice_get new.cells c ≡ Some (Some row)
    → more row ≡ Some key → reached keys old key ≡ Vacant c → reached more new key ≡ Row row
leads_reached keys more old new key c row grown names known e =
    ap (λ heads. way more new key 32 (home heads key)) grown.heads
    ∙ leads_way keys more old new key c row grown names known 32 (home old.heads key) e

-- the code's walk
pub never_goes : (keys : ℕ → Option Key) (table : Table) (key : Key) (cell c : ℕ) → step keys table key zero cell ≡ Goes c → ⊥
never_goes keys table key cell c e = goes_at (slice_get table.cells cell) e where
  goes_test : (b : Bool) (row : ℕ) → cond b (Stops (Row row)) (Stops Lost) ≡ Goes c → ⊥
  goes_test true row e = absurd (cc)
  goes_test false row e = absurd (cc)

  goes_row : (row : ℕ) (o : Option Key) → at_row table key zero row o ≡ Goes c → ⊥
  goes_row row None e = absurd (cc)
  goes_row row (Some k) e = goes_test (same_key key k) row e

  goes_at : (o : Option (Option ℕ)) → at_cell keys table key zero cell o ≡ Goes c → ⊥
  goes_at None e = absurd (cc)
  goes_at (Some None) e = absurd (cc)
  goes_at (Some (Some row)) e = goes_row row (keys row) e

pub goes_left : (keys : ℕ → Option Key) (table : Table) (key : Key) (left cell c : ℕ) → Goes c ≡ step keys table key left cell → 0 < left
goes_left keys table key zero cell c e = absurd (never_goes keys table key cell c (sym e))
goes_left keys table key (suc left) cell c e = omega arith

pub way_stops : (keys : ℕ → Option Key) (table : Table) (key : Key) (left cell : ℕ) (r : Reached) → Stops r ≡ step keys table key left cell
    → way keys table key left cell ≡ r
unfolding way
way_stops keys table key zero cell r e = ap (λ s. end_of s (λ _. Lost)) (sym e)
way_stops keys table key (suc left) cell r e = ap (λ s. end_of s (way keys table key left)) (sym e)

pub way_goes : (keys : ℕ → Option Key) (table : Table) (key : Key) (left cell c : ℕ) → Goes c ≡ step keys table key left cell
    → way keys table key left cell ≡ way keys table key (left - 1) c
unfolding way
way_goes keys table key zero cell c e = absurd (never_goes keys table key cell c (sym e))
way_goes keys table key (suc left) cell c e =
    let back : left ≡ suc left - 1 = omega arith in ap (λ s. end_of s (way keys table key left)) (sym e) ∙ ap (λ n. way keys table key n c) back

-- a way that ends at a row without cells under it
bare_from : (key : Key) (left row : ℕ) (o : Option (Option ℕ)) (r d : ℕ) → from_cells key left row o ≡ Stops (Bare r d)
    → (o ≡ Some None) × ((row ≡ r) × (side key left ≡ d))
bare_from key left row None r d e = absurd (cc)
bare_from key left row (Some None) r d e = (refl, (ap row_of e, ap side_of e)) where
  row_of : Step → ℕ
  row_of (Stops (Bare row side)) = row
  row_of (Stops (Row row)) = 0
  row_of (Stops (Vacant cell)) = 0
  row_of (Stops Lost) = 0
  row_of (Goes cell) = 0

  side_of : Step → ℕ
  side_of (Stops (Bare row side)) = side
  side_of (Stops (Row row)) = 0
  side_of (Stops (Vacant cell)) = 0
  side_of (Stops Lost) = 0
  side_of (Goes cell) = 0
bare_from key left row (Some (Some b)) r d e = absurd (cc)

bare_test : {P : Type 0} (b : Bool) (row : ℕ) (s : Step) (r d : ℕ) → (s ≡ Stops (Bare r d) → P) → cond b (Stops (Row row)) s ≡ Stops (Bare r d) → P
bare_test true row s r d below e = absurd (cc)
bare_test false row s r d below e = below e

pub small_side : (key : Key) (left : ℕ) → side key left < 8
unfolding side
small_side key left = omega arith

-- it has bits left, and no cells are known to lie under the row
bare_past : (table : Table) (key : Key) (left row r d : ℕ) → past table key left row ≡ Stops (Bare r d)
    → (0 < left) × ((slice_get table.below r ≡ Some None) × (d < 8))
bare_past table key zero row r d e = absurd (cc)
bare_past table key (suc left) row r d e =
    let at = bare_from key (suc left) row (slice_get table.below row) r d e in
    (omega arith, (subst (λ n. slice_get table.below n ≡ Some None) at.1.0 at.0, subst (λ n. n < 8) at.1.1 (small_side key (suc left))))

bare_row : (table : Table) (key : Key) (left row : ℕ) (o : Option Key) (r d : ℕ) → at_row table key left row o ≡ Stops (Bare r d)
    → (0 < left) × ((slice_get table.below r ≡ Some None) × (d < 8))
bare_row table key left row None r d e = absurd (cc)
bare_row table key left row (Some k) r d e = bare_test (same_key key k) row (past table key left row) r d (bare_past table key left row r d) e

bare_at : (keys : ℕ → Option Key) (table : Table) (key : Key) (left cell : ℕ) (o : Option (Option ℕ)) (r d : ℕ)
    → at_cell keys table key left cell o ≡ Stops (Bare r d) → (0 < left) × ((slice_get table.below r ≡ Some None) × (d < 8))
bare_at keys table key left cell None r d e = absurd (cc)
bare_at keys table key left cell (Some None) r d e = absurd (cc)
bare_at keys table key left cell (Some (Some row)) r d e = bare_row table key left row (keys row) r d e

bare_end : (s : Step) (on : ℕ → Reached) (r d : ℕ) {P : Type 0} → (s ≡ Stops (Bare r d) → P) → ((c : ℕ) → on c ≡ Bare r d → P) → end_of s on ≡ Bare r d → P
bare_end (Stops (Row i)) on r d here below e = absurd (cc)
bare_end (Stops (Vacant c)) on r d here below e = absurd (cc)
bare_end (Stops (Bare i j)) on r d here below e = here (ap Stops e)
bare_end (Stops Lost) on r d here below e = absurd (cc)
bare_end (Goes c) on r d here below e = below c e

bare_way : (keys : ℕ → Option Key) (table : Table) (key : Key) (r d left cell : ℕ) → way keys table key left cell ≡ Bare r d
    → (slice_get table.below r ≡ Some None) × (d < 8)
unfolding way
bare_way keys table key r d zero cell e =
    bare_end (step keys table key zero cell) (λ _. Lost) r d (λ h. (bare_at keys table key zero cell (slice_get table.cells cell) r d h).1)
    (λ c h. absurd (cc)) e
bare_way keys table key r d (suc left) cell e =
    bare_end (step keys table key (suc left) cell) (way keys table key left) r d
    (λ h. (bare_at keys table key (suc left) cell (slice_get table.cells cell) r d h).1) (λ c h. bare_way keys table key r d left c h) e

pub bare_row_under : (keys : ℕ → Option Key) (table : Table) (key : Key) (r d : ℕ) → reached keys table key ≡ Bare r d
    → (slice_get table.below r ≡ Some None) × (d < 8)
bare_row_under keys table key r d e = bare_way keys table key r d 32 (home table.heads key) e

-- once the cells are known, the way goes on to one of them
opens_past : (old new : Table) (key : Key) (left row r d b : ℕ) → slice_get new.below r ≡ Some (Some b)
    → past old key (suc left) row ≡ Stops (Bare r d) → past new key (suc left) row ≡ Goes (b + d)
opens_past old new key left row r d b names e =
    let at = bare_from key (suc left) row (slice_get old.below row) r d e in
    ap (from_cells key (suc left) row) (ap (slice_get new.below) at.1.0 ∙ names) ∙ ap (λ n. Goes (b + n)) at.1.1

opens_test : (b : Bool) (row : ℕ) (s t : Step) (r d c : ℕ) → (s ≡ Stops (Bare r d) → t ≡ Goes c) → cond b (Stops (Row row)) s ≡ Stops (Bare r d)
    → cond b (Stops (Row row)) t ≡ Goes c
opens_test true row s t r d c below e = absurd (cc)
opens_test false row s t r d c below e = below e

opens_row : (old new : Table) (key : Key) (left row : ℕ) (o : Option Key) (r d b : ℕ) → slice_get new.below r ≡ Some (Some b)
    → at_row old key (suc left) row o ≡ Stops (Bare r d) → at_row new key (suc left) row o ≡ Goes (b + d)
opens_row old new key left row None r d b names e = absurd (cc)
opens_row old new key left row (Some k) r d b names e =
    opens_test (same_key key k) row (past old key (suc left) row) (past new key (suc left) row) r d (b + d) (opens_past old new key left row r d b names) e

opens_at : (keys : ℕ → Option Key) (old new : Table) (key : Key) (left cell : ℕ) (o p : Option (Option ℕ)) (r d b : ℕ)
    → ((n : ℕ) → o ≡ Some (Some n) → p ≡ Some (Some n)) → slice_get new.below r ≡ Some (Some b)
    → at_cell keys old key (suc left) cell o ≡ Stops (Bare r d) → at_cell keys new key (suc left) cell p ≡ Goes (b + d)
opens_at keys old new key left cell None p r d b stay names e = absurd (cc)
opens_at keys old new key left cell (Some None) p r d b stay names e = absurd (cc)
opens_at keys old new key left cell (Some (Some row)) p r d b stay names e =
    ap (at_cell keys new key (suc left) cell) (stay row refl) ∙ opens_row old new key left row (keys row) r d b names e

opens_end : (s t : Step) (on then : ℕ → Reached) (r d v : ℕ) → (IsKept s → t ≡ s) → (s ≡ Stops (Bare r d) → end_of t then ≡ Vacant v)
    → ((c : ℕ) → on c ≡ Bare r d → then c ≡ Vacant v) → end_of s on ≡ Bare r d → end_of t then ≡ Vacant v
unfolding IsKept
opens_end (Stops (Row i)) t on then r d v same last follow e = absurd (cc)
opens_end (Stops (Vacant c)) t on then r d v same last follow e = absurd (cc)
opens_end (Stops (Bare i j)) t on then r d v same last follow e = last (ap Stops e)
opens_end (Stops Lost) t on then r d v same last follow e = absurd (cc)
opens_end (Goes c) t on then r d v same last follow e = ap (λ s. end_of s then) (same tt) ∙ follow c e

vacant_here : (keys : ℕ → Option Key) (table : Table) (key : Key) (left c : ℕ) → slice_get table.cells c ≡ Some None → way keys table key left c ≡ Vacant c
unfolding way
vacant_here keys table key zero c e = ap (λ o. end_of (at_cell keys table key zero c o) (λ _. Lost)) e
vacant_here keys table key (suc left) c e = ap (λ o. end_of (at_cell keys table key (suc left) c o) (way keys table key left)) e

opens_way : (keys : ℕ → Option Key) (old new : Table) (key : Key) (r d b : ℕ) → Grown keys keys old new → slice_get new.below r ≡ Some (Some b)
    → slice_get new.cells (b + d) ≡ Some None → (left cell : ℕ) → way keys old key left cell ≡ Bare r d → way keys new key left cell ≡ Vacant (b + d)
unfolding way
opens_way keys old new key r d b grown names vacant zero cell e =
    opens_end (step keys old key zero cell) (step keys new key zero cell) (λ _. Lost) (λ _. Lost) r d (b + d)
    (λ kept. kept_step keys keys old new key zero cell (step keys old key zero cell) grown kept refl)
    (λ h. let at = bare_at keys old key zero cell (slice_get old.cells cell) r d h in absurd (omega (arith, at.0))) (λ c h. absurd (cc)) e
opens_way keys old new key r d b grown names vacant (suc left) cell e =
    opens_end (step keys old key (suc left) cell) (step keys new key (suc left) cell) (way keys old key left) (way keys new key left) r d (b + d)
    (λ kept. kept_step keys keys old new key (suc left) cell (step keys old key (suc left) cell) grown kept refl)
    (λ h. ap (λ s. end_of s (way keys new key left))
    (opens_at keys old new key left cell (slice_get old.cells cell) (slice_get new.cells cell) r d b (grown.cells cell) names h)
    ∙ vacant_here keys new key left (b + d) vacant)
    (opens_way keys old new key r d b grown names vacant left) e

pub opens_reached : (keys : ℕ → Option Key) (old new : Table) (key : Key) (r d b : ℕ) → Grown keys keys old new → slice_get new.below r ≡ Some (Some b)
    → slice_get new.cells (b + d) ≡ Some None → reached keys old key ≡ Bare r d → reached keys new key ≡ Vacant (b + d)
opens_reached keys old new key r d b grown names vacant e =
    ap (λ heads. way keys new key 32 (home heads key)) grown.heads ∙ opens_way keys old new key r d b grown names vacant 32 (home old.heads key) e

-- the key of a row that a way ends at
same_nat_means : (m n : ℕ) → nat_eq m n ≡ true → m ≡ n
same_nat_means m n h = grind (arith, nat_tests)

both : (x y : Bool) → (x && y) ≡ true → (x ≡ true) × (y ≡ true)
both true y h = (refl, h)
both false y h = absurd (cc)

pub same_means : (a b : Key) → same_key a b ≡ true → a ≡ b
same_means a b h =
    let one = both (nat_eq a.rule b.rule) (nat_eq a.from b.from && nat_eq a.to b.to) h in
    let two = both (nat_eq a.from b.from) (nat_eq a.to b.to) one.1 in
    λ i. record { rule = same_nat_means a.rule b.rule one.0 i; from = same_nat_means a.from b.from two.0 i; to = same_nat_means a.to b.to two.1 i }

HasKey : (ℕ → Option Key) → Key → Step → Type 0
HasKey keys key (Stops (Row row)) = keys row ≡ Some key
HasKey keys key (Stops (Vacant cell)) = Unit {0}
HasKey keys key (Stops (Bare row side)) = Unit {0}
HasKey keys key (Stops Lost) = Unit {0}
HasKey keys key (Goes cell) = Unit {0}

has_from : (keys : ℕ → Option Key) (key : Key) (left row : ℕ) (o : Option (Option ℕ)) → HasKey keys key (from_cells key left row o)
unfolding HasKey
has_from keys key left row None = tt
has_from keys key left row (Some None) = tt
has_from keys key left row (Some (Some b)) = tt

has_past : (keys : ℕ → Option Key) (table : Table) (key : Key) (left row : ℕ) → HasKey keys key (past table key left row)
unfolding HasKey
has_past keys table key zero row = tt
has_past keys table key (suc left) row = has_from keys key (suc left) row (slice_get table.below row)

has_test : (keys : ℕ → Option Key) (key : Key) (b : Bool) (s t : Step) → (b ≡ true → HasKey keys key s) → HasKey keys key t → HasKey keys key (cond b s t)
has_test keys key true s t h k = h refl
has_test keys key false s t h k = k

has_row : (keys : ℕ → Option Key) (table : Table) (key : Key) (left row : ℕ) (o : Option Key) → keys row ≡ o → HasKey keys key (at_row table key left row o)
unfolding HasKey
has_row keys table key left row None e = tt
has_row keys table key left row (Some k) e =
    has_test keys key (same_key key k) (Stops (Row row)) (past table key left row) (λ h. e
    ∙ ap Some (sym (same_means key k h))) (has_past keys table key left row)

has_cell : (keys : ℕ → Option Key) (table : Table) (key : Key) (left cell : ℕ) (o : Option (Option ℕ)) → HasKey keys key (at_cell keys table key left cell o)
unfolding HasKey
has_cell keys table key left cell None = tt
has_cell keys table key left cell (Some None) = tt
has_cell keys table key left cell (Some (Some row)) = has_row keys table key left row (keys row) refl

has_end : (keys : ℕ → Option Key) (key : Key) (s : Step) (on : ℕ → Reached) (row : ℕ) → HasKey keys key s → ((c : ℕ) → on c ≡ Row row → keys row ≡ Some key)
    → end_of s on ≡ Row row → keys row ≡ Some key
unfolding HasKey
has_end keys key (Stops (Row i)) on row has below e = subst (λ r. HasKey keys key (Stops r)) e has
has_end keys key (Stops (Vacant c)) on row has below e = absurd (cc)
has_end keys key (Stops (Bare r d)) on row has below e = absurd (cc)
has_end keys key (Stops Lost) on row has below e = absurd (cc)
has_end keys key (Goes c) on row has below e = below c e

has_way : (keys : ℕ → Option Key) (table : Table) (key : Key) (row left cell : ℕ) → way keys table key left cell ≡ Row row → keys row ≡ Some key
unfolding way
has_way keys table key row zero cell e =
    has_end keys key (step keys table key zero cell) (λ _. Lost) row (has_cell keys table key zero cell (slice_get table.cells cell)) (λ c h. absurd (cc)) e
has_way keys table key row (suc left) cell e =
    has_end keys key (step keys table key (suc left) cell) (way keys table key left) row (has_cell keys table key (suc left) cell (slice_get table.cells cell))
    (has_way keys table key row left) e

pub row_has_key : (keys : ℕ → Option Key) (table : Table) (key : Key) (row : ℕ) → reached keys table key ≡ Row row → keys row ≡ Some key
row_has_key keys table key row e = has_way keys table key row 32 (home table.heads key) e

-- a way passes a row for each bit that is left, and one more
one_named : (o : Option (Option ℕ)) → named_by o ≤ 1
one_named None = omega arith
one_named (Some None) = omega arith
one_named (Some (Some row)) = omega arith

count_few : (s : Step) (on : ℕ → ℕ) (most : ℕ) → ((c : ℕ) → on c ≤ most) → count_on s on ≤ most
count_few (Stops end) on most few = omega arith
count_few (Goes c) on most few = few c

pub passed_few : (keys : ℕ → Option Key) (table : Table) (key : Key) (left cell : ℕ) → passed keys table key left cell ≤ left + 1
unfolding passed
passed_few keys table key zero cell = one_named (slice_get table.cells cell)
passed_few keys table key (suc left) cell =
    let here = one_named (slice_get table.cells cell) in
    let on = count_few (step keys table key (suc left) cell) (passed keys table key left) (left + 1) (passed_few keys table key left) in omega (arith, here, on)
