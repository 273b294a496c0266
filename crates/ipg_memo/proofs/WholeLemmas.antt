-- An index whose rows are all found, and whose keys part, stays so.
use Rattle.std.proofs.Common.{◌≡◌, ℕ, ◌+◌, ◌≤◌, [], ◌∷◌, ◌++◌, length, refl, sym, ap, subst, ◌∙◌, arith, length-append}
use Rattle.std.proofs.lemmas.List.{length-set, length-replicate}
use Rattle.std.specs.Prelude.{Option, None, Some, slice_get, slice_set, replicate, option_map}
use Rattle.ipg_memo.specs.declared.memo.Key.{Key}
use Rattle.ipg_memo.specs.declared.memo.Entry.{Entry}
use Rattle.ipg_memo.specs.declared.reached.Reached.{Reached}
use Rattle.ipg_memo.specs.declared.reached.Reached.TheVariants.{Row}
use Rattle.ipg_memo.specs.Table.{Table}
use Rattle.ipg_memo.specs.Parted.{IsSmall, IsParted}
use Rattle.ipg_memo.specs.Ways.{Rows, key_at, reached, Leads, Stays, StaysParted, AreDistinct, IsWhole, IsIndexed}
use Rattle.ipg_memo.proofs.WayLemmas.{row_has_key}
use Rattle.ipg_memo.proofs.PartedLemmas.{MayEnd, may_reach, names_none}
use Rattle.ipg_memo.proofs.GrowthLemmas.{finds_more}
use Rattle.ipg_memo.proofs.RowLemmas.{same_row, row_within, last_row, more_rows, keys_set, finds_set, finds_pushed_as}

pub whole_indexed : (rows : Rows) (o : Option Table) (table : Table) → IsIndexed rows o → o ≡ Some table → IsWhole rows table (length rows)
whole_indexed rows o table whole e = subst (IsIndexed rows) e whole

-- an entry in the place of another
pub whole_set_as : (rows wide : Rows) (table : Table) (row : ℕ) (key : Key) (entry : Entry) → wide ≡ slice_set rows row (key, entry)
    → IsWhole rows table (length rows) → reached (key_at rows) table key ≡ Row row → IsWhole wide table (length wide)
whole_set_as rows wide table row key entry e whole ends =
    let keys = keys_set rows row key entry (row_has_key (key_at rows) table key row ends) in
    let set = slice_set rows row (key, entry) in
    subst (λ (rs : Rows). IsWhole rs table (length rs)) (sym e) (record {
      finds = finds_set rows table row key entry whole.finds ends;
      parted = subst (λ (f : ℕ → Option Key). IsParted f table (length set)) (sym (λ i n. keys n i))
          (subst (IsParted (key_at rows) table) (sym (length-set rows row (key, entry))) whole.parted);
    })

-- an index that grew in vain
pub whole_stays : (rows wide : Rows) (old new : Table) → wide ≡ rows → IsWhole rows old (length rows) → Stays old new → StaysParted old new
    → IsWhole wide new (length wide)
whole_stays rows wide old new e whole stays parts =
    subst (λ (rs : Rows). IsWhole rs new (length rs)) (sym e) (record {
      finds = λ r k lt h. stays (key_at rows) k r (whole.finds r k lt h);
      parted = parts (key_at rows) (length rows) whole.parted;
    })

-- a row more
pub whole_pushed_as : (rows wide : Rows) (old new : Table) (key : Key) (entry : Entry) (end : Reached) (row : ℕ) → wide ≡ rows ++ (key, entry) ∷ []
    → row ≡ length rows → IsSmall key → IsWhole rows old (length rows) → reached (key_at rows) old key ≡ end → Leads old new end row
    → IsWhole wide new (length wide)
whole_pushed_as rows wide old new key entry end row e f small whole ends leads = record {
  finds = finds_pushed_as rows wide old new key entry end row e f whole.finds ends leads;
  parted =
      let pushed = rows ++ (key, entry) ∷ [] in
      let long : length rows + 1 ≡ length pushed = sym (length-append rows ((key, entry) ∷ [])) in
      let known = ap (option_map (λ (x : Key × Entry). x.0)) (last_row rows (key, entry)) in
      let last = subst (Leads old new end) f leads in
      subst (λ (rs : Rows). IsParted (key_at rs) new (length rs)) (sym e)
      (subst (IsParted (key_at pushed) new) long
      (last.parts (key_at rows) (key_at pushed) (more_rows rows (key, entry)) key small ends known whole.parted));
}

-- a row that is there already comes into the index
pub whole_more : (rows : Rows) (old new : Table) (end : Reached) (row : ℕ) (key : Key) → Leads old new end row → IsWhole rows old row
    → IsSmall key → key_at rows row ≡ Some key → reached (key_at rows) old key ≡ end → IsWhole rows new (row + 1)
whole_more rows old new end row key leads whole small at ends = record {
  finds = finds_more rows old new end row key leads whole.finds at ends;
  parted = leads.parts (key_at rows) (key_at rows) (λ _ _ same. same) key small ends at whole.parted;
}

pub distinct_whole : (rows : Rows) (table : Table) → IsWhole rows table (length rows) → AreDistinct rows
distinct_whole rows table whole =
    λ i j key e f. same_row i j (sym (whole.finds i key (row_within rows i key e) e) ∙ whole.finds j key (row_within rows j key f) f)

pub distinct_none : AreDistinct []
distinct_none = λ i j key e f. absurd (cc)

-- no row before it has its key
pub new_key : (rows : Rows) (table : Table) (row : ℕ) (key : Key) → AreDistinct rows → IsWhole rows table row → IsSmall key → key_at rows row ≡ Some key
    → (r : ℕ) → reached (key_at rows) table key ≡ Row r → ⊥
new_key rows table row key distinct whole small at r ends =
    let before = subst (MayEnd (key_at rows) table row whole.parted key small) ends (may_reach (key_at rows) table row whole.parted key small) in
    let one = distinct r row key (row_has_key (key_at rows) table key r ends) at in
    omega (arith, before, one)

-- an index of no rows
pub whole_none : (rows : Rows) (table : Table) → 16 ≤ table.heads → table.cells ≡ replicate table.heads None → table.below ≡ [] → IsWhole rows table 0
whole_none rows table enough cells below = record {
  finds = λ r k lt h. absurd (omega (arith, lt));
  parted = record {
    spot = λ head. record { head = head; turns = [] };
    spot_of_row = λ row. record { head = row; turns = [] };
    enough = enough;
    counted = ap length below;
    heads = λ h lt. (omega (arith, lt, ap length cells, length-replicate {A = Option ℕ} table.heads None), refl);
    named = λ c r e. absurd (names_none table.heads c r (sym (ap (λ cs. slice_get cs c) cells) ∙ e));
    keyed = λ r lt. absurd (omega (arith, lt));
    below = λ r begin turn e small. let none = sym (ap (λ bs. slice_get bs r) below) ∙ e in absurd (cc);
  };
}
