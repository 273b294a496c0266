-- An index that grows finds what it found, and leads to the new row.
use Rattle.std.proofs.Common.{◌≡◌, ℕ, zero, suc, ◌+◌, ◌<◌, List, [], ◌∷◌, ◌++◌, length, refl, sym, ap, subst, ◌∙◌, arith, below_more}
use Rattle.std.proofs.lemmas.List.{length-replicate, get_or-replicate}
use Rattle.std.proofs.lemmas.Option.{slice_get-get_or, slice_get_within}
use Rattle.std.specs.Prelude.{Option, None, Some, Result, Ok, Err, OnOk, OnErr, slice_get, slice_set, replicate}
use Rattle.ipg_memo.specs.declared.memo.Key.{Key}
use Rattle.ipg_memo.specs.declared.reached.Reached.{Reached}
use Rattle.ipg_memo.specs.declared.reached.Reached.TheVariants.{Row, Vacant, Bare}
use Rattle.ipg_memo.specs.Table.{Table}
use Rattle.ipg_memo.specs.Ways.{Rows, key_at, reached, IsMore, Finds, Stays, StaysParted, Leads, IsEnd, IsWider, opened, linked}
use Rattle.ipg_memo.proofs.WayLemmas.{Grown, stays_reached, leads_reached, opens_reached, vacant_cell, bare_row_under}
use Rattle.ipg_memo.proofs.PartedLemmas.{parts_vacant, parts_bare, parted_opened}

set_keeps : (xs : List (Option ℕ)) (c i : ℕ) (y : Option ℕ) (n : ℕ) → slice_get xs c ≡ Some None → slice_get xs i ≡ Some (Some n)
    → slice_get (slice_set xs c y) i ≡ Some (Some n)
set_keeps [] c i y n e f = absurd (cc)
set_keeps (x ∷ xs) zero zero y n e f = absurd (cc)
set_keeps (x ∷ xs) zero (suc i) y n e f = f
set_keeps (x ∷ xs) (suc c) zero y n e f = f
set_keeps (x ∷ xs) (suc c) (suc i) y n e f = set_keeps xs c i y n e f

set_here : (xs : List (Option ℕ)) (c : ℕ) (x y : Option ℕ) → slice_get xs c ≡ Some x → slice_get (slice_set xs c y) c ≡ Some y
set_here [] c x y e = absurd (cc)
set_here (z ∷ xs) zero x y e = refl
set_here (z ∷ xs) (suc c) x y e = set_here xs c x y e

pub append_keeps : {X : Type 0} (xs ys : List X) (i : ℕ) (x : X) → slice_get xs i ≡ Some x → slice_get (xs ++ ys) i ≡ Some x
append_keeps [] ys i x e = absurd (cc)
append_keeps (z ∷ xs) ys zero x e = e
append_keeps (z ∷ xs) ys (suc i) x e = append_keeps xs ys i x e

pub past_end : {X : Type 0} (xs ys : List X) (d : ℕ) → slice_get (xs ++ ys) (length xs + d) ≡ slice_get ys d
past_end [] ys d = let e : 0 + d ≡ d = omega arith in ap (slice_get ys) e
past_end (x ∷ xs) ys d =
    let e : suc (length xs) + d ≡ suc (length xs + d) = omega arith in ap (slice_get (x ∷ (xs ++ ys))) e ∙ past_end xs ys d

nones : (d : ℕ) → d < 8 → slice_get (replicate {A = Option ℕ} 8 None) d ≡ Some None
nones d h =
    slice_get-get_or (replicate {A = Option ℕ} 8 None) d None (omega (arith, length-replicate {A = Option ℕ} 8 None))
    ∙ ap Some (get_or-replicate {A = Option ℕ} 8 d None None h)

grown_linked : (keys more : ℕ → Option Key) (table : Table) (cell row : ℕ) → IsMore keys more → slice_get table.cells cell ≡ Some None
    → Grown keys more table (linked table cell row)
grown_linked keys more table cell row rows e = record {
  heads = refl;
  rows = rows;
  cells = λ c n h. set_keeps table.cells cell c (Some row) n e h;
  below = λ r b h. append_keeps table.below (None ∷ []) r (Some b) h;
}

grown_opened : (keys : ℕ → Option Key) (table : Table) (row : ℕ) → slice_get table.below row ≡ Some None → Grown keys keys table (opened table row)
grown_opened keys table row e = record {
  heads = refl;
  rows = λ r key h. h;
  cells = λ c n h. append_keeps table.cells (replicate 8 None) c (Some n) h;
  below = λ r b h. set_keeps table.below row r (Some (length table.cells)) b e h;
}

pub stays_opened : (table : Table) (row : ℕ) → slice_get table.below row ≡ Some None → Stays table (opened table row)
stays_opened table row e = λ keys key r h. stays_reached keys keys table (opened table row) (grown_opened keys table row e) key r h

pub stays_linked : (table : Table) (cell row : ℕ) → slice_get table.cells cell ≡ Some None → Stays table (linked table cell row)
stays_linked table cell row e =
    λ keys key r h. stays_reached keys keys table (linked table cell row) (grown_linked keys keys table cell row (λ _ _ same. same) e) key r h

grown_wider : (keys : ℕ → Option Key) (old : Table) (count : ℕ)
    → Grown keys keys old (record { heads = old.heads; cells = old.cells ++ replicate count None; below = old.below })
grown_wider keys old count = record {
  heads = refl;
  rows = λ r key h. h;
  cells = λ c n h. append_keeps old.cells (replicate count None) c (Some n) h;
  below = λ r b h. h;
}

pub stays_wider : (old new : Table) → IsWider old new → Stays old new
stays_wider old new wider =
    subst (Stays old) (sym wider.1)
    (λ keys key r h. stays_reached keys keys old
    (record { heads = old.heads; cells = old.cells ++ replicate wider.0 None; below = old.below }) (grown_wider keys old wider.0) key r h)

-- tables with the same parts are one
pub same_table : (t u : Table) → t.heads ≡ u.heads → t.cells ≡ u.cells → t.below ≡ u.below → t ≡ u
same_table t u e f g = λ i. record { heads = e i; cells = f i; below = g i }

pub vacant_in : (table : Table) (row d : ℕ) → d < 8 → slice_get (opened table row).cells (length table.cells + d) ≡ Some None
vacant_in table row d h = past_end table.cells (replicate 8 None) d ∙ nones d h

pub leads_vacant : (table : Table) (cell row : ℕ) → slice_get table.cells cell ≡ Some None → Leads table (linked table cell row) (Vacant cell) row
leads_vacant table cell row e = record {
  stays = λ keys more rows key r h. stays_reached keys more table (linked table cell row) (grown_linked keys more table cell row rows e) key r h;
  leads = λ keys more rows key ends at.
      leads_reached keys more table (linked table cell row) key cell row (grown_linked keys more table cell row rows e)
      (set_here table.cells cell None (Some row) e) at ends;
  parts = parts_vacant table cell row;
}

pub leads_bare : (table : Table) (above d row : ℕ) → slice_get table.below above ≡ Some None → d < 8
    → Leads table (linked (opened table above) (length table.cells + d) row) (Bare above d) row
leads_bare table above d row e small =
    let wide = opened table above in
    let cell = length table.cells + d in
    let vacant = vacant_in table above d small in
    let last = leads_vacant wide cell row vacant in
    record {
      stays = λ keys more rows key r h. last.stays keys more rows key r (stays_opened table above e keys key r h);
      leads = λ keys more rows key ends at.
          last.leads keys more rows key
          (opens_reached keys table wide key above d (length table.cells) (grown_opened keys table above e)
          (set_here table.below above None (Some (length table.cells)) e) vacant ends)
          at;
      parts = parts_bare table above d row;
    }

pub finds_more : (rows : Rows) (old new : Table) (end : Reached) (row : ℕ) (key : Key) → Leads old new end row → Finds rows old row
    → key_at rows row ≡ Some key → reached (key_at rows) old key ≡ end → Finds rows new (row + 1)
finds_more rows old new end row key leads finds at ends =
    λ r k lt h.
    below_more (λ r. (k : Key) → key_at rows r ≡ Some k → reached (key_at rows) new k ≡ Row r) row
    (λ r lt k h. leads.stays (key_at rows) (key_at rows) (λ _ _ same. same) k r (finds r k lt h))
    (λ k h. leads.leads (key_at rows) (key_at rows) (λ _ _ same. same) k (subst (λ k. reached (key_at rows) old k ≡ end) (some_same key k (sym at ∙ h)) ends) h)
    r lt k h where
      some_same : (a b : Key) → Some a ≡ Some b → a ≡ b
      some_same a b e = ap (λ o. value o a) e where
        value : Option Key → Key → Key
        value None d = d
        value (Some x) d = x

-- the same as the code has it: of a result, and of what is equal
pub on_ok : {X E P Q : Type 0} (r : Result X E) → OnOk r P → (P → Q) → OnOk r Q
on_ok (Ok x) p f = f p
on_ok (Err e) p f = tt

pub either : {X E P Q R : Type 0} (r : Result X E) → OnOk r P → OnErr r Q → (P → R) → (Q → R) → R
either (Ok x) p q f g = f p
either (Err e) p q f g = g q

pub err_always : {X E Q : Type 0} (r : Result X E) → Q → OnErr r Q
err_always (Ok x) q = tt
err_always (Err e) q = q

pub on_err : {X E P Q : Type 0} (r : Result X E) → OnErr r P → (P → Q) → OnErr r Q
on_err (Ok x) p f = tt
on_err (Err e) p f = f p

pub vacant_of : (table : Table) (end : Reached) (cell : ℕ) → IsEnd table end → end ≡ Vacant cell → slice_get table.cells cell ≡ Some None
vacant_of table end cell ends e = vacant_cell ends.0 table ends.1 cell (ends.2 ∙ e)

pub bare_of : (table : Table) (end : Reached) (r d : ℕ) → IsEnd table end → end ≡ Bare r d → (slice_get table.below r ≡ Some None) × (d < 8)
bare_of table end r d ends e = bare_row_under ends.0 table ends.1 r d (ends.2 ∙ e)

pub room_after : (old new : Table) (row d begin : ℕ) → new ≡ opened old row → begin ≡ length old.cells → d < 8 → begin + d < length new.cells
room_after old new row d begin e f small =
    slice_get_within new.cells (begin + d) None
    (ap (λ (t : Table). slice_get t.cells (begin + d)) e ∙ ap (λ n. slice_get (opened old row).cells (n + d)) f ∙ vacant_in old row d small)

pub leads_vacant_as : (old new : Table) (end : Reached) (cell row : ℕ) → slice_get old.cells cell ≡ Some None → end ≡ Vacant cell → new ≡ linked old cell row
    → Leads old new end row
leads_vacant_as old new end cell row vacant e f =
    subst (λ n. Leads old n end row) (sym f) (subst (λ r. Leads old (linked old cell row) r row) (sym e) (leads_vacant old cell row vacant))

pub stays_vacant_as : (old new : Table) (cell row : ℕ) → slice_get old.cells cell ≡ Some None → new ≡ linked old cell row → Stays old new
stays_vacant_as old new cell row vacant f = subst (Stays old) (sym f) (stays_linked old cell row vacant)

pub stays_same : (old new : Table) → new ≡ old → Stays old new
stays_same old new e = subst (Stays old) (sym e) (λ keys key r h. h)

pub stays_opened_as : (old mid new : Table) (row : ℕ) → slice_get old.below row ≡ Some None → mid ≡ opened old row → new ≡ mid → Stays old new
stays_opened_as old mid new row bare e f = subst (Stays old) (sym (f ∙ e)) (stays_opened old row bare)

pub parted_opened_as : (old mid new : Table) (row : ℕ) → mid ≡ opened old row → new ≡ mid → StaysParted old new
parted_opened_as old mid new row e f =
    subst (StaysParted old) (sym (f ∙ e)) (λ keys count p. parted_opened keys old count p row)

pub leads_bare_as : (old mid new : Table) (end : Reached) (above d row begin : ℕ) → slice_get old.below above ≡ Some None → d < 8 → end ≡ Bare above d
    → mid ≡ opened old above → begin ≡ length old.cells → new ≡ linked mid (begin + d) row → Leads old new end row
leads_bare_as old mid new end above d row begin bare small e f g h =
    let whole = h ∙ ap (λ m. linked m (begin + d) row) f ∙ ap (λ n. linked (opened old above) (n + d) row) g in
    subst (λ n. Leads old n end row) (sym whole)
    (subst (λ r. Leads old (linked (opened old above) (length old.cells + d) row) r row) (sym e) (leads_bare old above d row bare small))

pub stays_bare_as : (old mid new : Table) (above d row begin : ℕ) → slice_get old.below above ≡ Some None → d < 8
    → mid ≡ opened old above → begin ≡ length old.cells → new ≡ linked mid (begin + d) row → Stays old new
stays_bare_as old mid new above d row begin bare small f g h =
    λ keys key r found. (leads_bare_as old mid new (Bare above d) above d row begin bare small refl f g h).stays keys keys (λ _ _ same. same) key r found
