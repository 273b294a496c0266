-- The entries in rows, each of which is found by its key.
use Rattle.std.proofs.Common.{◌≡◌, ℕ, zero, suc, ◌+◌, ◌<◌, Bool, true, false, cond, [], ◌∷◌, ◌++◌}
use Rattle.std.proofs.Common.{length, refl, sym, ap, subst, ◌∙◌, arith, below_more, length-append}
use Rattle.std.proofs.lemmas.Option.{slice_get_within}
use Rattle.std.proofs.lemmas.List.{length-set}
use Rattle.std.proofs.lemmas.Map.Entries.{place_from_lookup}
use Rattle.std.specs.Prelude.{Option, None, Some, slice_get, slice_set, option_map}
use Rattle.std.specs.List.{AllByRecursion, IsDistinct}
use Rattle.std.specs.Map.{lookup, keys_of}
use Rattle.std.specs.FinMap.{get, insert, len, get-insert, get-empty, len-empty, same_map, from_entries_push}
use Rattle.ipg_memo.specs.declared.memo.Key.{Key}
use Rattle.ipg_memo.specs.declared.memo.Entry.{Entry}
use Rattle.ipg_memo.specs.declared.reached.Reached.{Reached}
use Rattle.ipg_memo.specs.declared.reached.Reached.TheVariants.{Row, Vacant, Bare, Lost}
use Rattle.ipg_memo.specs.Table.{Table}
use Rattle.ipg_memo.specs.Keyed.{key_cmp, of_rows}
use Rattle.ipg_memo.specs.Ways.{Rows, key_at, same_key, reached, Finds, Leads, IsFree, entry_at, Stays, IsIndexed}
use Rattle.ipg_memo.proofs.KeyedLemmas.{exact_keys, keys_total, same_test, find_key, get_key, len_distinct}
use Rattle.ipg_memo.proofs.WayLemmas.{row_has_key, same_self, same_means}
use Rattle.ipg_memo.proofs.GrowthLemmas.{append_keeps, past_end}

some_of : {X : Type 0} → Option X → X → X
some_of None d = d
some_of (Some x) d = x

pub same_some : {X : Type 0} (a b : X) → Some a ≡ Some b → a ≡ b
unfolding some_of
same_some a b e = ap (λ o. some_of o a) e

row_of : Reached → ℕ
row_of (Row row) = row
row_of (Vacant cell) = 0
row_of (Bare row side) = 0
row_of Lost = 0

pub same_row : (i j : ℕ) → Row i ≡ Row j → i ≡ j
unfolding row_of
same_row i j e = ap row_of e

-- no row has a key that is not looked up
none_at : (rows : Rows) (q : Key) (i : ℕ) (known : Key × Entry) → lookup (same_key q) rows ≡ None → slice_get rows i ≡ Some known
    → same_key q known.0 ≡ true → ⊥
none_at [] q i known none at same = absurd (cc)
none_at (x ∷ rows) q zero known none at same =
    none_first (same_key q x.0) x.1 (lookup (same_key q) rows) none (ap (λ (k : Key × Entry). same_key q k.0) (same_some x known at) ∙ same) where
      none_first : (b : Bool) (v : Entry) (rest : Option Entry) → cond b (Some v) rest ≡ None → b ≡ true → ⊥
      none_first true v rest e h = absurd (cc)
      none_first false v rest e h = absurd (cc)
none_at (x ∷ rows) q (suc i) known none at same =
    none_at rows q i known (none_rest (same_key q x.0) x.1 (lookup (same_key q) rows) none) at same where
      none_rest : (b : Bool) (v : Entry) (rest : Option Entry) → cond b (Some v) rest ≡ None → rest ≡ None
      none_rest true v rest e = absurd (cc)
      none_rest false v rest e = e

-- what is looked up is at the row that the way ends at
got_some : (rows : Rows) (table : Table) (q : Key) (v : Entry) → Finds rows table (length rows) → lookup (same_key q) rows ≡ Some v
    → Some v ≡ entry_at rows (reached (key_at rows) table q)
got_some rows table q v finds e =
    let at = place_from_lookup (same_key q) rows v e in
    let own = same_means q at.1 at.3 in
    let found = finds at.0 q (slice_get_within rows at.0 (at.1, v) at.2) (ap (option_map (λ (k : Key × Entry). k.0)) at.2 ∙ ap Some (sym own)) in
    sym (ap (entry_at rows) found ∙ ap (option_map (λ (k : Key × Entry). k.1)) at.2)

got_none : (rows : Rows) (table : Table) (q : Key) (end : Reached) → lookup (same_key q) rows ≡ None → reached (key_at rows) table q ≡ end
    → None ≡ entry_at rows end
got_none rows table q (Row row) none ends = none_row (slice_get rows row) refl where
  none_row : (o : Option (Key × Entry)) → slice_get rows row ≡ o → None ≡ option_map (λ (k : Key × Entry). k.1) o
  none_row None e = refl
  none_row (Some known) e =
      let has = ap (option_map (λ (k : Key × Entry). k.0)) (sym e) ∙ row_has_key (key_at rows) table q row ends in
      absurd (none_at rows q row known none e (ap (same_key q) (same_some known.0 q has) ∙ same_self q))
got_none rows table q (Vacant cell) none ends = refl
got_none rows table q (Bare row side) none ends = refl
got_none rows table q Lost none ends = refl

looked : (rows : Rows) (table : Table) (q : Key) → Finds rows table (length rows) → lookup (same_key q) rows ≡ entry_at rows (reached (key_at rows) table q)
looked rows table q finds = by (lookup (same_key q) rows) refl where
  by : (o : Option Entry) → lookup (same_key q) rows ≡ o → o ≡ entry_at rows (reached (key_at rows) table q)
  by None e = got_none rows table q (reached (key_at rows) table q) e refl
  by (Some v) e = got_some rows table q v finds e

pub got : (rows : Rows) (table : Table) (q : Key) → Finds rows table (length rows) → get (of_rows rows) q ≡ entry_at rows (reached (key_at rows) table q)
got rows table q finds = get_key rows q ∙ looked rows table q finds

-- a row more, of a key that none has
free_none : (rows : Rows) (end : Reached) → IsFree end → entry_at rows end ≡ None
free_none rows (Row row) free = absurd free
free_none rows (Vacant cell) free = refl
free_none rows (Bare row side) free = refl
free_none rows Lost free = absurd free

pub pushed : (rows : Rows) (table : Table) (key : Key) (entry : Entry) (end : Reached) → Finds rows table (length rows)
    → reached (key_at rows) table key ≡ end → IsFree end → of_rows (rows ++ (key, entry) ∷ []) ≡ insert (of_rows rows) key entry
pushed rows table key entry end finds ends free =
    from_entries_push keys_total exact_keys rows key entry
    (find_key rows key ∙ looked rows table key finds ∙ ap (entry_at rows) ends ∙ free_none rows end free)

pub more_rows : (rows : Rows) (known : Key × Entry) (r : ℕ) (k : Key) → key_at rows r ≡ Some k → key_at (rows ++ known ∷ []) r ≡ Some k
more_rows rows known r k = by (slice_get rows r) refl where
  by : (o : Option (Key × Entry)) → slice_get rows r ≡ o → option_map (λ (k : Key × Entry). k.0) o ≡ Some k → key_at (rows ++ known ∷ []) r ≡ Some k
  by None e h = absurd (cc)
  by (Some x) e h = ap (option_map (λ (k : Key × Entry). k.0)) (append_keeps rows (known ∷ []) r x e) ∙ h

pub last_row : (rows : Rows) (known : Key × Entry) → slice_get (rows ++ known ∷ []) (length rows) ≡ Some known
last_row rows known = let e : length rows ≡ length rows + 0 = omega arith in ap (slice_get (rows ++ known ∷ [])) e ∙ past_end rows (known ∷ []) 0

before_last : (rows : Rows) (known : Key × Entry) (r : ℕ) (k : Key) → r < length rows → key_at (rows ++ known ∷ []) r ≡ Some k → key_at rows r ≡ Some k
before_last [] known r k lt h = absurd (omega arith)
before_last (x ∷ rows) known zero k lt h = h
before_last (x ∷ rows) known (suc r) k lt h = before_last rows known r k (omega arith) h

pub finds_pushed : (rows : Rows) (old new : Table) (key : Key) (entry : Entry) (end : Reached) → Finds rows old (length rows)
    → reached (key_at rows) old key ≡ end → Leads old new end (length rows) → Finds (rows ++ (key, entry) ∷ []) new (length (rows ++ (key, entry) ∷ []))
finds_pushed rows old new key entry end finds ends leads =
    λ r k lt h.
    let wide = rows ++ (key, entry) ∷ [] in
    let long = length-append rows ((key, entry) ∷ []) in
    below_more (λ r. (k : Key) → key_at wide r ≡ Some k → reached (key_at wide) new k ≡ Row r) (length rows)
    (λ r lt k h. leads.stays (key_at rows) (key_at wide) (more_rows rows (key, entry)) k r (finds r k lt (before_last rows (key, entry) r k lt h)))
    (λ k h.
    let own = same_some key k (ap (option_map (λ (x : Key × Entry). x.0)) (sym (last_row rows (key, entry))) ∙ h) in
    leads.leads (key_at rows) (key_at wide) (more_rows rows (key, entry)) k (subst (λ k. reached (key_at rows) old k ≡ end) own ends) h)
    r (omega (arith, lt, long)) k h

-- the same rows, but one with another entry of its key
pub keys_set : (rows : Rows) (row : ℕ) (key : Key) (entry : Entry) → key_at rows row ≡ Some key → (r : ℕ)
    → key_at (slice_set rows row (key, entry)) r ≡ key_at rows r
keys_set [] row key entry e r = refl
keys_set (x ∷ rows) zero key entry e zero = sym e
keys_set (x ∷ rows) zero key entry e (suc r) = refl
keys_set (x ∷ rows) (suc row) key entry e zero = refl
keys_set (x ∷ rows) (suc row) key entry e (suc r) = keys_set rows row key entry e r

pub finds_set : (rows : Rows) (table : Table) (row : ℕ) (key : Key) (entry : Entry) → Finds rows table (length rows) → reached (key_at rows) table key ≡ Row row
    → Finds (slice_set rows row (key, entry)) table (length (slice_set rows row (key, entry)))
finds_set rows table row key entry finds ends =
    λ r k lt h.
    let keys = keys_set rows row key entry (row_has_key (key_at rows) table key row ends) in
    let long = length-set rows row (key, entry) in
    subst (λ (f : ℕ → Option Key). reached f table k ≡ Row r) (sym (λ i n. keys n i)) (finds r k (omega (arith, lt, long)) (sym (keys r) ∙ h))

pub finds_set_as : (rows wide : Rows) (table : Table) (row : ℕ) (key : Key) (entry : Entry) → wide ≡ slice_set rows row (key, entry)
    → Finds rows table (length rows) → reached (key_at rows) table key ≡ Row row → Finds wide table (length wide)
finds_set_as rows wide table row key entry e finds ends =
    subst (λ (rs : Rows). Finds rs table (length rs)) (sym e) (finds_set rows table row key entry finds ends)

entry_set : (rows : Rows) (row : ℕ) (key : Key) (entry : Entry) → key_at rows row ≡ Some key
    → slice_get (slice_set rows row (key, entry)) row ≡ Some (key, entry)
entry_set [] row key entry e = absurd (cc)
entry_set (x ∷ rows) zero key entry e = refl
entry_set (x ∷ rows) (suc row) key entry e = entry_set rows row key entry e

entry_other : (rows : Rows) (row r : ℕ) (known : Key × Entry) → (r ≡ row → ⊥) → slice_get (slice_set rows row known) r ≡ slice_get rows r
entry_other [] row r known ne = refl
entry_other (x ∷ rows) zero zero known ne = absurd (ne refl)
entry_other (x ∷ rows) zero (suc r) known ne = refl
entry_other (x ∷ rows) (suc row) zero known ne = refl
entry_other (x ∷ rows) (suc row) (suc r) known ne = entry_other rows row r known (λ e. ne (ap suc e))

pub replaced : (rows : Rows) (table : Table) (row : ℕ) (key : Key) (entry : Entry) → Finds rows table (length rows) → reached (key_at rows) table key ≡ Row row
    → of_rows (slice_set rows row (key, entry)) ≡ insert (of_rows rows) key entry
replaced rows table row key entry finds ends = same_map keys_total exact_keys _ _ (λ q.
    got wide table q (finds_set rows table row key entry finds ends)
    ∙ ap (λ (f : ℕ → Option Key). entry_at wide (reached f table q)) (λ i n. keys n i)
    ∙ at_key q (same_key q key) refl (reached (key_at rows) table q) refl
    ∙ sym (get-insert keys_total (of_rows rows) key entry q
    ∙ (λ i. cond (same_test q key i) (Some entry) (got rows table q finds i)))) where
      wide : Rows
      wide = slice_set rows row (key, entry)

      own : key_at rows row ≡ Some key
      own = row_has_key (key_at rows) table key row ends

      keys : (r : ℕ) → key_at (slice_set rows row (key, entry)) r ≡ key_at rows r
      keys = keys_set rows row key entry own

      at_key : (q : Key) (b : Bool) → same_key q key ≡ b → (end : Reached) → reached (key_at rows) table q ≡ end
          → entry_at (slice_set rows row (key, entry)) end ≡ cond b (Some entry) (entry_at rows end)
      at_key q true same end e =
          let here = sym e ∙ ap (reached (key_at rows) table) (same_means q key same) ∙ ends in
          ap (entry_at (slice_set rows row (key, entry))) here ∙ ap (option_map (λ (k : Key × Entry). k.1)) (entry_set rows row key entry own)
      at_key q false same (Row r) e =
          ap (option_map (λ (k : Key × Entry). k.1)) (entry_other rows row r (key, entry) (λ f.
          let mine = row_has_key (key_at rows) table q r e in
          let one = same_some q key (sym mine ∙ ap (key_at rows) f ∙ own) in
          let yes = ap (λ k. same_key k key) one ∙ same_self key in absurd (cc)))
      at_key q false same (Vacant cell) e = refl
      at_key q false same (Bare r d) e = refl
      at_key q false same Lost e = refl

-- the keys of rows that are found by them are distinct
false_from : (b : Bool) → (b ≡ true → ⊥) → b ≡ false
false_from true h = absurd (h refl)
false_from false h = refl

all_differ : (rows : Rows) (k : Key) → ((j : ℕ) (b : Key × Entry) → slice_get rows j ≡ Some b → same_key k b.0 ≡ true → ⊥)
    → AllByRecursion (λ y. same_key k y ≡ false) (keys_of rows)
all_differ [] k h = tt
all_differ (x ∷ rows) k h = (false_from (same_key k x.0) (h 0 x refl), all_differ rows k (λ j b e. h (suc j) b e))

distinct_rows : (rows : Rows) → ((i j : ℕ) (a b : Key × Entry) → slice_get rows i ≡ Some a → slice_get rows j ≡ Some b → same_key a.0 b.0 ≡ true → i ≡ j)
    → IsDistinct same_key (keys_of rows)
unfolding IsDistinct
distinct_rows [] h = tt
distinct_rows (x ∷ rows) h = (
  all_differ rows x.0 (λ j b e same. let eq : 0 ≡ suc j = h 0 (suc j) x b refl e same in absurd (omega (arith, eq))),
  distinct_rows rows (λ i j a b e f same. let eq : suc i ≡ suc j = h (suc i) (suc j) a b e f same in omega (arith, eq)),
)

pub counted : (rows : Rows) (table : Table) → Finds rows table (length rows) → len (of_rows rows) ≡ length rows
counted rows table finds =
    len_distinct rows (distinct_rows rows (λ i j a b e f same.
    let first = finds i a.0 (slice_get_within rows i a e) (ap (option_map (λ (k : Key × Entry). k.0)) e) in
    let second = finds j b.0 (slice_get_within rows j b f) (ap (option_map (λ (k : Key × Entry). k.0)) f) in
    same_row i j (sym first ∙ ap (reached (key_at rows) table) (same_means a.0 b.0 same) ∙ second)))

pub row_within : (rows : Rows) (row : ℕ) (key : Key) → key_at rows row ≡ Some key → row < length rows
row_within [] row key e = absurd (cc)
row_within (x ∷ rows) zero key e = omega arith
row_within (x ∷ rows) (suc row) key e = let lt = row_within rows row key e in omega (arith, lt)

pub finds_stay : (rows wide : Rows) (old new : Table) → wide ≡ rows → Finds rows old (length rows) → Stays old new → Finds wide new (length wide)
finds_stay rows wide old new e finds stays =
    subst (λ (rs : Rows). Finds rs new (length rs)) (sym e) (λ r k lt h. stays (key_at rows) k r (finds r k lt h))

pub finds_pushed_as : (rows wide : Rows) (old new : Table) (key : Key) (entry : Entry) (end : Reached) (row : ℕ) → wide ≡ rows ++ (key, entry) ∷ []
    → row ≡ length rows → Finds rows old (length rows) → reached (key_at rows) old key ≡ end → Leads old new end row → Finds wide new (length wide)
finds_pushed_as rows wide old new key entry end row e f finds ends leads =
    subst (λ (rs : Rows). Finds rs new (length rs)) (sym e)
    (finds_pushed rows old new key entry end finds ends (subst (Leads old new end) f leads))

pub got_indexed : (rows : Rows) (o : Option Table) (table : Table) (q : Key) → IsIndexed rows o → o ≡ Some table
    → get (of_rows rows) q ≡ entry_at rows (reached (key_at rows) table q)
got_indexed rows o table q whole e = got rows table q (subst (IsIndexed rows) e whole).finds

pub got_nothing : (rows : Rows) (o : Option Table) (q : Key) → IsIndexed rows o → o ≡ None → get (of_rows rows) q ≡ None
got_nothing rows o q finds e = ap (λ (rs : Rows). get (of_rows rs) q) (subst (IsIndexed rows) e finds) ∙ get-empty key_cmp q

pub counted_indexed : (rows : Rows) (o : Option Table) → IsIndexed rows o → len (of_rows rows) ≡ length rows
counted_indexed rows None e = ap (λ (rs : Rows). len (of_rows rs)) e ∙ len-empty key_cmp Entry ∙ ap length (sym e)
counted_indexed rows (Some table) whole = counted rows table whole.finds
