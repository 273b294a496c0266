-- The value of an attribute by its name, and rules that there are not.
use Rattle.std.proofs.Common.{◌≡◌, ℕ, zero, suc, ◌+◌, ◌<◌, ◌≤◌, Bool, true, false, List, [], ◌∷◌, length, get_or, drop, Option, Some, None, ℤ}
use Rattle.std.proofs.Common.{refl, ap, ◌∙◌, sym, arith, bytes_eq, true≢false, if◌then◌else◌}
use Rattle.std.specs.Prelude.{slice_get, is_some}
use Rattle.std.proofs.lemmas.List.{drop_all}
use Rattle.std.proofs.lemmas.Option.{none-some}
use Rattle.ipg_core.specs.declared.grammar.CoreRule.{CoreRule}
use Rattle.ipg_core.specs.Grammar.{name_at}
use Rattle.ipg_table.specs.declared.row.RuleRow.{RuleRow}
use Rattle.ipg_table.specs.Rows.{Rows, Each, HoldsRule}
use Rattle.ipg_query.specs.Picked.{value_named}
use Rattle.ipg_query.proofs.Going.{next_left}

by_entry : (b : Bool) (z value : ℤ) (rest o : Option ℤ) → o ≡ (if b then Some z else None) → o ≡ Some value → (if b then Some z else rest) ≡ Some value
by_entry true z value rest o is here = sym is ∙ here
by_entry false z value rest o is here = absurd (none-some value (sym is ∙ here))

by_none : (b : Bool) (z : ℤ) (rest o : Option ℤ) → o ≡ (if b then Some z else None) → o ≡ None → (if b then Some z else rest) ≡ rest
by_none true z rest o is none = absurd (none-some z (sym none ∙ is))
by_none false z rest o is none = refl

module _ (names : List (List ℕ)) (name : List ℕ) (attrs : List (ℕ × ℤ)) (i : ℕ) (d : ℕ × ℤ) (o : Option ℤ) (less : i < length attrs)
    (is : o ≡ (if bytes_eq (name_at names (get_or attrs i d).0) name then Some (get_or attrs i d).1 else None))
    (so_far : value_named names name (drop i attrs) ≡ value_named names name attrs) where
  pub value_here : (value : ℤ) → o ≡ Some value → Some value ≡ value_named names name attrs
  value_here value here =
      sym (sym so_far ∙ ap (value_named names name) (next_left attrs i d less)
      ∙ by_entry (bytes_eq (name_at names (get_or attrs i d).0) name) (get_or attrs i d).1 value (value_named names name (drop (i + 1) attrs)) o is here)

  pub value_later : o ≡ None → value_named names name (drop (i + 1) attrs) ≡ value_named names name attrs
  value_later none =
      sym (ap (value_named names name) (next_left attrs i d less)
      ∙ by_none (bytes_eq (name_at names (get_or attrs i d).0) name) (get_or attrs i d).1 (value_named names name (drop (i + 1) attrs)) o is none)
      ∙ so_far

  -- as the code asks for it
  pub value_found : (b : Bool) → b ≡ is_some o → b ≡ true → o ≡ value_named names name attrs
  value_found b e holds = by_case o refl (sym e ∙ holds)
    where
      by_case : (p : Option ℤ) → o ≡ p → is_some p ≡ true → p ≡ value_named names name attrs
      by_case None same f = absurd (true≢false (sym f))
      by_case (Some z) same f = value_here z same

  pub value_not_found : (b : Bool) → b ≡ is_some o → b ≡ false → value_named names name (drop (i + 1) attrs) ≡ value_named names name attrs
  value_not_found b e fails = by_case o refl (sym e ∙ fails)
    where
      by_case : (p : Option ℤ) → o ≡ p → is_some p ≡ false → value_named names name (drop (i + 1) attrs) ≡ value_named names name attrs
      by_case None same f = value_later same
      by_case (Some z) same f = absurd (true≢false f)

pub no_value : (names : List (List ℕ)) (name : List ℕ) (attrs : List (ℕ × ℤ)) (i : ℕ) → length attrs ≤ i
    → value_named names name (drop i attrs) ≡ value_named names name attrs → None ≡ value_named names name attrs
no_value names name attrs i all so_far = sym (ap (value_named names name) (drop_all i attrs all)) ∙ so_far

pub no_rule : (t : Rows) (rows : List RuleRow) (rules : List CoreRule) (r : ℕ) → Each (HoldsRule t) rows rules → length rows ≤ r → slice_get rules r ≡ None
no_rule t [] [] r each le = refl
no_rule t [] (rule ∷ rules) r each le = absurd each
no_rule t (row ∷ rows) [] r each le = refl
no_rule t (row ∷ rows) (rule ∷ rules) zero each le = absurd (omega (arith, le))
no_rule t (row ∷ rows) (rule ∷ rules) (suc r) each le = no_rule t rows rules r each.1 (omega (arith, le))
