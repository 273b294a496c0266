-- Keys that part: where the way of one may end, and that they are parted still where a row comes.
use Rattle.std.proofs.Common.{◌≡◌, ℕ, zero, suc, ◌+◌, ◌-◌, ◌*◌, ◌/◌, ◌%◌, ◌^◌, ◌<◌, ◌≤◌, Bool, true, false, cond, List}
use Rattle.std.proofs.Common.{[], ◌∷◌, ◌++◌, length, refl, sym, ap, subst, ◌∙◌, arith, length-append, below_more}
use Rattle.std.proofs.lemmas.Bool.{lt-ltb, le-ltb}
use Rattle.std.proofs.lemmas.List.{length-set, length-replicate}
use Rattle.std.proofs.lemmas.Nat.{mod-pow-add, div_below}
use Rattle.std.proofs.lemmas.Option.{slice_get_within}
use Rattle.std.proofs.Math.Nat.{mod-eq_of_lt, mul_comm, mul-lt-mul_of_pos_right}
use Rattle.std.proofs.Math.Dec.{ltb}
use Rattle.std.specs.Prelude.{Option, None, Some, slice_get, slice_set, replicate}
use Rattle.ipg_memo.specs.declared.memo.Key.{Key}
use Rattle.ipg_memo.specs.declared.reached.Reached.{Reached}
use Rattle.ipg_memo.specs.declared.reached.Reached.TheVariants.{Row, Vacant, Bare, Lost}
use Rattle.ipg_memo.specs.declared.reached.Step.{Step}
use Rattle.ipg_memo.specs.declared.reached.Step.TheVariants.{Stops, Goes}
use Rattle.ipg_memo.specs.Table.{Table}
use Rattle.ipg_memo.specs.Places.{mixed, home, side}
use Rattle.ipg_memo.specs.Parted.{Spot, under, turns, spot_of, IsSmall, IsKeyed, IsParted}
use Rattle.ipg_memo.specs.Ways.{same_key, from_cells, past, at_row, at_cell, step, end_of, way, reached, IsMore, IsFree, StaysParted, IsWider, opened, linked}
use Rattle.ipg_memo.proofs.WayLemmas.{never_goes, small_side, same_self}

-- keys that turned to the same sides have the same bits
bit_more : (n k : ℕ) → n % 2 ^ suc k ≡ n / 2 ^ k % 2 * 2 ^ k + n % 2 ^ k
bit_more n k = let e : suc k ≡ 1 + k = omega arith in ap (λ m. n % 2 ^ m) e ∙ mod-pow-add n 1 k

side_bits : (key : Key) (n : ℕ) → n ≤ 32 → side key (32 - n) ≡ key.rule / 2 ^ n % 2 * 4 + key.from / 2 ^ n % 2 * 2 + key.to / 2 ^ n % 2
unfolding side
side_bits key n le =
    let back : 32 - (32 - n) ≡ n = omega (arith, le) in
    ap (λ m. key.rule / 2 ^ m % 2 * 4 + key.from / 2 ^ m % 2 * 2 + key.to / 2 ^ m % 2) back

bits_apart : (a b c d e f : ℕ) → a % 2 * 4 + b % 2 * 2 + c % 2 ≡ d % 2 * 4 + e % 2 * 2 + f % 2 → (a % 2 ≡ d % 2) × (b % 2 ≡ e % 2) × (c % 2 ≡ f % 2)
bits_apart a b c d e f h = (omega (arith, h), omega (arith, h), omega (arith, h))

first_of : List ℕ → ℕ
first_of [] = 0
first_of (x ∷ xs) = x

rest_of : List ℕ → List ℕ
rest_of [] = []
rest_of (x ∷ xs) = xs

first_same : (x y : ℕ) (xs ys : List ℕ) → x ∷ xs ≡ y ∷ ys → x ≡ y
unfolding first_of
first_same x y xs ys e = ap first_of e

rest_same : (x y : ℕ) (xs ys : List ℕ) → x ∷ xs ≡ y ∷ ys → xs ≡ ys
unfolding rest_of
rest_same x y xs ys e = ap rest_of e

bits_same : (x y n : ℕ) → x / 2 ^ n % 2 ≡ y / 2 ^ n % 2 → x % 2 ^ n ≡ y % 2 ^ n → x % 2 ^ suc n ≡ y % 2 ^ suc n
bits_same x y n e f = bit_more x n ∙ (λ i. e i * 2 ^ n + f i) ∙ sym (bit_more y n)

turns_mean : (a b : Key) (n : ℕ) → n ≤ 32 → turns a n ≡ turns b n
    → (a.rule % 2 ^ n ≡ b.rule % 2 ^ n) × (a.from % 2 ^ n ≡ b.from % 2 ^ n) × (a.to % 2 ^ n ≡ b.to % 2 ^ n)
turns_mean a b zero le e = (omega arith, omega arith, omega arith)
turns_mean a b (suc n) le e =
    let short : n ≤ 32 = omega (arith, le) in
    let low = turns_mean a b n short (rest_same (side a (32 - n)) (side b (32 - n)) (turns a n) (turns b n) e) in
    let here = first_same (side a (32 - n)) (side b (32 - n)) (turns a n) (turns b n) e in
    let bits = bits_apart (a.rule / 2 ^ n) (a.from / 2 ^ n) (a.to / 2 ^ n) (b.rule / 2 ^ n) (b.from / 2 ^ n) (b.to / 2 ^ n)
    (sym (side_bits a n short) ∙ here ∙ side_bits b n short) in
    (bits_same a.rule b.rule n bits.0 low.0, bits_same a.from b.from n bits.1 low.1, bits_same a.to b.to n bits.2 low.2)

length_turns : (key : Key) (n : ℕ) → length (turns key n) ≡ n
length_turns key zero = refl
length_turns key (suc n) = ap suc (length_turns key n)

small_same : (x y : ℕ) → x < 2 ^ 32 → y < 2 ^ 32 → x % 2 ^ 32 ≡ y % 2 ^ 32 → x ≡ y
small_same x y a b e = sym (mod-eq_of_lt a) ∙ e ∙ mod-eq_of_lt b

-- after all of their bits no two keys are at one spot
same_spot : (heads : ℕ) (a b : Key) (n m : ℕ) → n ≡ 32 → IsSmall a → IsSmall b → spot_of heads a n ≡ spot_of heads b m → a ≡ b
same_spot heads a b n m all sa sb e =
    let long : m ≡ 32 = sym (length_turns b m) ∙ sym (ap (λ (s : Spot). length s.turns) e) ∙ length_turns a n ∙ all in
    let same = turns_mean a b 32 (omega arith) (ap (turns a) (sym all) ∙ ap (λ (s : Spot). s.turns) e ∙ ap (turns b) long) in
    let rule = small_same a.rule b.rule sa.rule sb.rule same.0 in
    let from = small_same a.from b.from sa.from sb.from same.1 in
    let to = small_same a.to b.to sa.to sb.to same.2 in
    λ i. record { rule = rule i; from = from i; to = to i }

-- each key begins at a head
share_below : (h q : ℕ) → h < 2 ^ 32 → 1 ≤ q → h * q / 2 ^ 32 < q
share_below h q small some =
    div_below (h * q) (2 ^ 32) q (omega arith) (subst (λ n. h * q < n) (mul_comm (2 ^ 32) q) (mul-lt-mul_of_pos_right small some))

home_within : (heads : ℕ) (key : Key) → 16 ≤ heads → home heads key < heads
unfolding home
home_within heads key enough =
    let share = share_below (mixed key / 2 ^ 32 % 2 ^ 32) (heads / 16) (omega arith) (omega (arith, enough)) in
    within (mixed key / 2 ^ 32 % 2 ^ 32 * (heads / 16) / 2 ^ 32) (key.from + 2 * key.to + mixed key / 2 ^ 12) heads share where
      within : (line slot heads : ℕ) → line < heads / 16 → line * 16 + slot % 16 < heads
      within line slot heads lt = omega (arith, lt)

got_within : {X : Type 0} (xs : List X) (i : ℕ) → i < length xs → slice_get xs i ≡ None → ⊥
got_within [] i lt e = omega (arith, lt)
got_within (x ∷ xs) zero lt e = absurd (cc)
got_within (x ∷ xs) (suc i) lt e = got_within xs i (omega (arith, lt)) e

some_of : {X : Type 0} → Option X → X → X
some_of None d = d
some_of (Some x) d = x

same_some : {X : Type 0} (a b : X) → Some a ≡ Some b → a ≡ b
unfolding some_of
same_some a b e = ap (λ o. some_of o a) e

-- where the way of a key may end, and how it may go on after so many turns
module _ (keys : ℕ → Option Key) (table : Table) (count : ℕ) (p : IsParted keys table count) (key : Key) (small : IsSmall key) where
  abbrev pub MayEnd : Reached → Type 0
  MayEnd (Row row) = row < count
  MayEnd (Vacant cell) = (n : ℕ) × (p.spot cell ≡ spot_of table.heads key n)
  MayEnd (Bare row d) = (row < count) × (n : ℕ) × (p.spot_of_row row ≡ spot_of table.heads key n) × (d ≡ side key (32 - n))
  MayEnd Lost = ⊥

  abbrev MayStep : (n : ℕ) → Step → Type 0
  MayStep n (Stops end) = MayEnd end
  MayStep n (Goes cell) = (cell < length table.cells) × (p.spot cell ≡ spot_of table.heads key (suc n))

  may_from : (left n row : ℕ) (o : Option (Option ℕ)) → slice_get table.below row ≡ o → left ≡ 32 - n → row < count
      → p.spot_of_row row ≡ spot_of table.heads key n → MayStep n (from_cells key left row o)
  may_from left n row None e eq lt at = absurd (got_within table.below row (omega (arith, lt, p.counted)) e)
  may_from left n row (Some None) e eq lt at = (lt, n, at, ap (side key) eq)
  may_from left n row (Some (Some begin)) e eq lt at =
      let next = p.below row begin (side key left) e (small_side key left) in
      (next.0, next.1 ∙ ap (λ s. under s (side key left)) at ∙ ap (λ m. under (spot_of table.heads key n) (side key m)) eq)

  may_past : (left n row : ℕ) (other : Key) (m : ℕ) → left + n ≡ 32 → row < count → p.spot_of_row row ≡ spot_of table.heads key n
      → same_key key other ≡ false → IsSmall other → p.spot_of_row row ≡ spot_of table.heads other m → MayStep n (past table key left row)
  may_past zero n row other m eq lt at differ tiny known =
      let all : n ≡ 32 = omega (arith, eq) in
      let same = same_spot table.heads key other n m all small tiny (sym at ∙ known) in
      let self = same_self key in
      let not = ap (same_key key) same ∙ differ in absurd (cc)
  may_past (suc left) n row other m eq lt at differ tiny known =
      may_from (suc left) n row (slice_get table.below row) refl (omega (arith, eq)) lt at

  may_test : (n : ℕ) (b : Bool) (s t : Step) → MayStep n s → (b ≡ false → MayStep n t) → MayStep n (cond b s t)
  may_test n true s t h k = h
  may_test n false s t h k = k refl

  may_row : (left n row : ℕ) (o : Option Key) → o ≡ keys row → left + n ≡ 32 → row < count → p.spot_of_row row ≡ spot_of table.heads key n
      → MayStep n (at_row table key left row o)
  may_row left n row None e eq lt at = let known = e ∙ (p.keyed row lt).2 in absurd (cc)
  may_row left n row (Some other) e eq lt at =
      let own = p.keyed row lt in
      let same = same_some own.0 other (sym own.2 ∙ sym e) in
      may_test n (same_key key other) (Stops (Row row)) (past table key left row) lt
      (λ differ. may_past left n row own.0 own.1 eq lt at (ap (same_key key) same ∙ differ) own.3 own.4)

  may_cell : (left n cell : ℕ) (o : Option (Option ℕ)) → slice_get table.cells cell ≡ o → left + n ≡ 32 → cell < length table.cells
      → p.spot cell ≡ spot_of table.heads key n → MayStep n (at_cell keys table key left cell o)
  may_cell left n cell None e eq lt at = absurd (got_within table.cells cell lt e)
  may_cell left n cell (Some None) e eq lt at = (n, at)
  may_cell left n cell (Some (Some row)) e eq lt at =
      let names = p.named cell row e in may_row left n row (keys row) refl eq names.0 (sym names.1 ∙ at)

  may_end : (n : ℕ) (s : Step) (on : ℕ → Reached) → MayStep n s
      → ((c : ℕ) → s ≡ Goes c → c < length table.cells → p.spot c ≡ spot_of table.heads key (suc n) → MayEnd (on c)) → MayEnd (end_of s on)
  may_end n (Stops end) on may further = may
  may_end n (Goes c) on may further = further c refl may.0 may.1

  may_way : (left n cell : ℕ) → left + n ≡ 32 → cell < length table.cells → p.spot cell ≡ spot_of table.heads key n → MayEnd (way keys table key left cell)
  unfolding way
  may_way zero n cell eq lt at =
      may_end n (step keys table key zero cell) (λ _. Lost) (may_cell zero n cell (slice_get table.cells cell) refl eq lt at)
      (λ c goes less on. absurd (never_goes keys table key cell c goes))
  may_way (suc left) n cell eq lt at =
      may_end n (step keys table key (suc left) cell) (way keys table key left) (may_cell (suc left) n cell (slice_get table.cells cell) refl eq lt at)
      (λ c goes less on. may_way left (suc n) c (omega (arith, eq)) less on)

  pub may_reach : MayEnd (reached keys table key)
  may_reach =
      let begins = p.heads (home table.heads key) (home_within table.heads key p.enough) in may_way 32 0 (home table.heads key) refl begins.0 begins.1

  -- no way is lost
  pub never_lost : (end : Reached) → reached keys table key ≡ end → (end ≡ Lost → ⊥)
  never_lost end e lost = subst MayEnd (e ∙ lost) may_reach

-- cells and rows more, as links in lists
set_cases : {P : Type 0} (xs : List (Option ℕ)) (i j : ℕ) (y : Option ℕ) (z : ℕ) → slice_get (slice_set xs i y) j ≡ Some (Some z)
    → (j ≡ i → y ≡ Some z → P) → (slice_get xs j ≡ Some (Some z) → P) → P
set_cases [] i j y z e here old = absurd (cc)
set_cases (x ∷ xs) zero zero y z e here old = here refl (same_some y (Some z) e)
set_cases (x ∷ xs) zero (suc j) y z e here old = old e
set_cases (x ∷ xs) (suc i) zero y z e here old = old e
set_cases (x ∷ xs) (suc i) (suc j) y z e here old = set_cases xs i j y z e (λ f. here (ap suc f)) old

before_nones : (xs ys : List (Option ℕ)) (i z : ℕ) → ((j : ℕ) → slice_get ys j ≡ Some (Some z) → ⊥) → slice_get (xs ++ ys) i ≡ Some (Some z)
    → slice_get xs i ≡ Some (Some z)
before_nones [] ys i z none e = absurd (none i e)
before_nones (x ∷ xs) ys zero z none e = e
before_nones (x ∷ xs) ys (suc i) z none e = before_nones xs ys i z none e

pub names_none : (k i z : ℕ) → slice_get (replicate k None) i ≡ Some (Some z) → ⊥
names_none zero i z e = absurd (cc)
names_none (suc k) zero z e = absurd (cc)
names_none (suc k) (suc i) z e = names_none k i z e

one_names_none : (i z : ℕ) → slice_get (None ∷ []) i ≡ Some (Some z) → ⊥
one_names_none zero z e = absurd (cc)
one_names_none (suc i) z e = absurd (cc)

-- cells that lie under no row change nothing
pub parted_wider : (old new : Table) → IsWider old new → StaysParted old new
parted_wider old new wider keys count p =
    subst (λ t. IsParted keys t count) (sym wider.1) (record {
      spot = p.spot;
      spot_of_row = p.spot_of_row;
      enough = p.enough;
      counted = p.counted;
      heads = λ h lt. let at = p.heads h lt in (omega (arith, at.0, length-append old.cells (replicate wider.0 None)), at.1);
      named = λ c r e. p.named c r (before_nones old.cells (replicate wider.0 None) c r (λ j. names_none wider.0 j r) e);
      keyed = p.keyed;
      below = λ r begin turn e small.
          let at = p.below r begin turn e small in (omega (arith, at.0, length-append old.cells (replicate wider.0 None)), at.1);
    })

-- the cells that are opened under a row have its spot and a turn more
module _ (keys : ℕ → Option Key) (table : Table) (count : ℕ) (p : IsParted keys table count) (row : ℕ) where
  wide_spot : ℕ → Spot
  wide_spot c = cond (ltb c (length table.cells)) (p.spot c) (under (p.spot_of_row row) (c - length table.cells))

  spot_before : (c : ℕ) → c < length table.cells → wide_spot c ≡ p.spot c
  unfolding wide_spot
  spot_before c lt =
      ap (λ b. cond b (p.spot c) (under (p.spot_of_row row) (c - length table.cells))) (lt-ltb c (length table.cells) lt)

  spot_behind : (d : ℕ) → wide_spot (length table.cells + d) ≡ under (p.spot_of_row row) d
  unfolding wide_spot
  spot_behind d =
      let back : length table.cells + d - length table.cells ≡ d = omega arith in
      ap (λ b. cond b (p.spot (length table.cells + d)) (under (p.spot_of_row row) (length table.cells + d - length table.cells)))
      (le-ltb (length table.cells + d) (length table.cells) (omega arith))
      ∙ ap (under (p.spot_of_row row)) back

  longer : length (table.cells ++ replicate 8 None) ≡ length table.cells + 8
  longer = length-append table.cells (replicate 8 None) ∙ ap (λ n. length table.cells + n) (length-replicate {A = Option ℕ} 8 None)

  pub parted_opened : IsParted keys (opened table row) count
  parted_opened = record {
    spot = wide_spot;
    spot_of_row = p.spot_of_row;
    enough = p.enough;
    counted = length-set table.below row (Some (length table.cells)) ∙ p.counted;
    heads = λ h lt. let at = p.heads h lt in (omega (arith, at.0, longer), spot_before h at.0 ∙ at.1);
    named = λ c r e.
        let before = before_nones table.cells (replicate 8 None) c r (λ j. names_none 8 j r) e in
        let names = p.named c r before in
        (names.0, spot_before c (slice_get_within table.cells c (Some r) before) ∙ names.1);
    keyed = p.keyed;
    below = λ r begin turn e small.
        set_cases table.below row r (Some (length table.cells)) begin e
        (λ same opens. under_new r begin turn same (same_some (length table.cells) begin opens) small)
        (λ before. let at = p.below r begin turn before small in (omega (arith, at.0, longer), spot_before (begin + turn) at.0 ∙ at.1));
  } where
    under_new : (r begin turn : ℕ) → r ≡ row → length table.cells ≡ begin → turn < 8
        → (begin + turn < length (opened table row).cells) × (wide_spot (begin + turn) ≡ under (p.spot_of_row r) turn)
    under_new r begin turn same at small = (
      omega (arith, at, small, longer),
      ap (λ n. wide_spot (n + turn)) (sym at) ∙ spot_behind turn ∙ ap (λ r. under (p.spot_of_row r) turn) (sym same),
    )

  pub spot_opened : (d : ℕ) → parted_opened.spot (length table.cells + d) ≡ under (p.spot_of_row row) d
  unfolding parted_opened wide_spot
  spot_opened d = spot_behind d

-- the row that a cell names from now on has the cell's spot
module _ (keys more : ℕ → Option Key) (table : Table) (cell row : ℕ) (p : IsParted keys table row) (rows : IsMore keys more) (key : Key)
    (known : more row ≡ Some key) (tiny : IsSmall key) (n : ℕ) (at_cell : p.spot cell ≡ spot_of table.heads key n) where
  rows_spot : ℕ → Spot
  rows_spot r = cond (ltb r row) (p.spot_of_row r) (p.spot cell)

  row_before : (r : ℕ) → r < row → rows_spot r ≡ p.spot_of_row r
  unfolding rows_spot
  row_before r lt = ap (λ b. cond b (p.spot_of_row r) (p.spot cell)) (lt-ltb r row lt)

  row_new : (r : ℕ) → r ≡ row → rows_spot r ≡ p.spot cell
  unfolding rows_spot
  row_new r e = ap (λ b. cond b (p.spot_of_row r) (p.spot cell)) (le-ltb r row (omega (arith, e)))

  pub parted_linked : IsParted more (linked table cell row) (row + 1)
  parted_linked = record {
    spot = p.spot;
    spot_of_row = rows_spot;
    enough = p.enough;
    counted = omega (arith, length-append table.below (None ∷ []), p.counted);
    heads = λ h lt. let at = p.heads h lt in (omega (arith, at.0, length-set table.cells cell (Some row)), at.1);
    named = λ c r e.
        set_cases table.cells cell c (Some row) r e
        (λ same names. let mine = same_some row r names in (omega (arith, mine), ap p.spot same ∙ sym (row_new r (sym mine))))
        (λ before. let names = p.named c r before in (omega (arith, names.0), names.1 ∙ sym (row_before r names.0)));
    keyed = λ r lt.
        below_more (λ r. IsKeyed table.heads (more r) (rows_spot r)) row
        (λ r lt. let own = p.keyed r lt in (own.0, own.1, rows r own.0 own.2, own.3, row_before r lt ∙ own.4))
        (key, n, known, tiny, row_new row refl ∙ at_cell) r lt;
    below = λ r begin turn e small.
        let before = before_nones table.below (None ∷ []) r begin (λ j. one_names_none j begin) e in
        let at = p.below r begin turn before small in
        let lt : r < row = omega (arith, slice_get_within table.below r (Some begin) before, p.counted) in
        (omega (arith, at.0, length-set table.cells cell (Some row)), at.1 ∙ ap (λ s. under s turn) (sym (row_before r lt)));
  }

-- a row more, where the way of its key ended
pub parts_vacant : (table : Table) (cell row : ℕ) (keys more : ℕ → Option Key) → IsMore keys more → (key : Key) → IsSmall key
    → reached keys table key ≡ Vacant cell → more row ≡ Some key → IsParted keys table row → IsParted more (linked table cell row) (row + 1)
parts_vacant table cell row keys more rows key small ends known p =
    let may = subst (MayEnd keys table row p key small) ends (may_reach keys table row p key small) in
    parted_linked keys more table cell row p rows key known small may.0 may.1

pub parts_bare : (table : Table) (above d row : ℕ) (keys more : ℕ → Option Key) → IsMore keys more → (key : Key) → IsSmall key
    → reached keys table key ≡ Bare above d → more row ≡ Some key → IsParted keys table row
    → IsParted more (linked (opened table above) (length table.cells + d) row) (row + 1)
parts_bare table above d row keys more rows key small ends known p =
    let may = subst (MayEnd keys table row p key small) ends (may_reach keys table row p key small) in
    let wide = parted_opened keys table row p above in
    let at = spot_opened keys table row p above d ∙ ap (λ s. under s d) may.2 ∙ ap (λ m. under (spot_of table.heads key may.1) m) may.3 in
    parted_linked keys more (opened table above) (length table.cells + d) row wide rows key known small (suc may.1) at

-- an end that is neither a row nor lost is free
pub free_end : (end : Reached) → ((row : ℕ) → end ≡ Row row → ⊥) → (end ≡ Lost → ⊥) → IsFree end
free_end (Row row) other found = other row refl
free_end (Vacant cell) other found = tt
free_end (Bare row d) other found = tt
free_end Lost other found = found refl
