-- Rows that are gone over one after another.
use Rattle.std.proofs.Common.{◌≡◌, ℕ, zero, suc, ◌+◌, ◌<◌, Bool, true, false, cond, [], ◌∷◌, length, take, get_or, refl, sym, ap, ◌∙◌, arith}
use Rattle.std.proofs.lemmas.List.{take_more}
use Rattle.std.proofs.lemmas.Option.{slice_get-get_or, get_or_from_slice_get}
use Rattle.std.proofs.lemmas.Map.Entries.{place_from_lookup}
use Rattle.std.specs.Prelude.{Option, None, Some, slice_get, option_map}
use Rattle.std.specs.Map.{lookup}
use Rattle.std.specs.FinMap.{get, insert, from_entries_push}
use Rattle.ipg_memo.specs.declared.memo.Key.{Key}
use Rattle.ipg_memo.specs.declared.memo.Entry.{Entry}
use Rattle.ipg_memo.specs.Table.{Table}
use Rattle.ipg_memo.specs.Keyed.{of_rows}
use Rattle.ipg_memo.specs.Ways.{Rows, key_at, same_key, Finds, IsIndexed, entry_at}
use Rattle.ipg_memo.proofs.KeyedLemmas.{exact_keys, keys_total, find_key, get_key}
use Rattle.ipg_memo.proofs.WayLemmas.{same_means}
use Rattle.ipg_memo.proofs.RowLemmas.{got, same_row}

lookup_take : (test : Key → Bool) (rows : Rows) (n : ℕ) (v : Entry) → lookup test (take n rows) ≡ Some v → lookup test rows ≡ Some v
lookup_take test [] zero v h = absurd (cc)
lookup_take test [] (suc n) v h = absurd (cc)
lookup_take test (x ∷ rows) zero v h = absurd (cc)
lookup_take test (x ∷ rows) (suc n) v h = by (test x.0) (lookup_take test rows n v) h where
  by : (b : Bool) → (lookup test (take n rows) ≡ Some v → lookup test rows ≡ Some v) → cond b (Some x.1) (lookup test (take n rows)) ≡ Some v
      → cond b (Some x.1) (lookup test rows) ≡ Some v
  by true f e = e
  by false f e = f e

slice_get_take : (rows : Rows) (n i : ℕ) (x : Key × Entry) → slice_get (take n rows) i ≡ Some x → (i < n) × (slice_get rows i ≡ Some x)
slice_get_take [] zero i x h = absurd (cc)
slice_get_take [] (suc n) i x h = absurd (cc)
slice_get_take (y ∷ rows) zero i x h = absurd (cc)
slice_get_take (y ∷ rows) (suc n) zero x h = (omega arith, h)
slice_get_take (y ∷ rows) (suc n) (suc i) x h = let at = slice_get_take rows n i x h in (omega (arith, at.0), at.1)

module _ (rows : Rows) (n : ℕ) (none : Key × Entry) (lt : n < length rows) where
  here : slice_get rows n ≡ Some (get_or rows n none)
  here = slice_get-get_or rows n none lt

  here_key : key_at rows n ≡ Some (get_or rows n none).0
  unfolding here
  here_key = ap (option_map (λ (k : Key × Entry). k.0)) here

  not_before : (table : Table) → Finds rows table (length rows) → (o : Option Entry) → lookup (same_key (get_or rows n none).0) (take n rows) ≡ o → None ≡ o
  not_before table finds None e = refl
  not_before table finds (Some v) e =
      let key = (get_or rows n none).0 in
      let at = place_from_lookup (same_key key) (take n rows) v e in
      let first = slice_get_take rows n at.0 (at.1, v) at.2 in
      let own = same_means key at.1 at.3 in
      let found = finds at.0 key (omega (arith, first.0, lt)) (ap (option_map (λ (k : Key × Entry). k.0)) first.1 ∙ ap Some (sym own)) in
      let again = finds n key lt here_key in
      let same = same_row at.0 n (sym found ∙ again) in absurd (omega (arith, same, first.0))

  none_before : (o : Option Table) → IsIndexed rows o → lookup (same_key (get_or rows n none).0) (take n rows) ≡ None
  none_before None e = let short = ap length e in absurd (omega (arith, lt, short))
  none_before (Some table) whole = sym (not_before table whole.finds (lookup (same_key (get_or rows n none).0) (take n rows)) refl)

  pub fresh : (o : Option Table) → IsIndexed rows o → get (of_rows (take n rows)) (get_or rows n none).0 ≡ None
  fresh o indexed = get_key (take n rows) (get_or rows n none).0 ∙ none_before o indexed

  pub own_entry : (o : Option Table) → IsIndexed rows o → get (of_rows rows) (get_or rows n none).0 ≡ Some (get_or rows n none).1
  own_entry None e = let short = ap length e in absurd (omega (arith, lt, short))
  own_entry (Some table) whole =
      got rows table (get_or rows n none).0 whole.finds ∙ ap (entry_at rows) (whole.finds n (get_or rows n none).0 lt here_key)
      ∙ ap (option_map (λ (k : Key × Entry). k.1)) here

  pub one_more : (o : Option Table) → IsIndexed rows o
      → of_rows (take (n + 1) rows) ≡ insert (of_rows (take n rows)) (get_or rows n none).0 (get_or rows n none).1
  one_more o indexed =
      ap of_rows (take_more rows n none lt)
      ∙ from_entries_push keys_total exact_keys (take n rows) (get_or rows n none).0 (get_or rows n none).1
      (find_key (take n rows) (get_or rows n none).0 ∙ none_before o indexed)

-- the same of a row that is known by its place
pub one_more_as : (rows : Rows) (n : ℕ) (known : Key × Entry) → n < length rows → slice_get rows n ≡ Some known → (o : Option Table) → IsIndexed rows o
    → (get (of_rows (take n rows)) known.0 ≡ None) × (of_rows (take (n + 1) rows) ≡ insert (of_rows (take n rows)) known.0 known.1)
one_more_as rows n known lt at o indexed =
    let same = get_or_from_slice_get rows n known known at in (
      ap (λ (k : Key × Entry). get (of_rows (take n rows)) k.0) (sym same) ∙ fresh rows n known lt o indexed,
      one_more rows n known lt o indexed ∙ ap (λ (k : Key × Entry). insert (of_rows (take n rows)) k.0 k.1) same,
    )
