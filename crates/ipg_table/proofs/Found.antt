-- What stands at a number in rows stands there in the grammar.
use Rattle.std.proofs.Common.{◌≡◌, ℕ, zero, suc, List, [], ◌∷◌, refl, sym, ap, subst, ◌∙◌, Some, None, slice_get, option_map}
use Rattle.ipg_core.specs.Grammar.{Grammar, rule_at, holder_of, name_at, or_empty}
use Rattle.ipg_core.specs.declared.grammar.CoreRule.{CoreRule}
use Rattle.ipg_table.specs.declared.row.RowSpan.{RowSpan}
use Rattle.ipg_table.specs.declared.row.RuleRow.{RuleRow}
use Rattle.ipg_table.specs.Rows.{Rows, rows_at, Each, Stands, HoldsRule, StandFor}

each_there : {A B : Type 0} (R : A → B → Type 0) (xs : List A) (ys : List B) (i : ℕ) (x : A) → Each R xs ys → slice_get xs i ≡ Some x
    → (y : B) × (slice_get ys i ≡ Some y) × R x y
each_there R [] [] i x h e = absurd (cc)
each_there R (a ∷ xs) (b ∷ ys) zero x h e = let same : a ≡ x = cc in (b, refl, subst (λ a. R a b) same h.0)
each_there R (a ∷ xs) (b ∷ ys) (suc i) x h e = each_there R xs ys i x h.1 e
each_there R [] (b ∷ ys) i x h e = absurd h
each_there R (a ∷ xs) [] i x h e = absurd h

each_past : {A B : Type 0} (R : A → B → Type 0) (xs : List A) (ys : List B) (i : ℕ) → Each R xs ys → slice_get xs i ≡ None → slice_get ys i ≡ None
each_past R [] [] i h e = refl
each_past R (a ∷ xs) (b ∷ ys) zero h e = absurd (cc)
each_past R (a ∷ xs) (b ∷ ys) (suc i) h e = each_past R xs ys i h.1 e
each_past R [] (b ∷ ys) i h e = absurd h
each_past R (a ∷ xs) [] i h e = absurd h

module _ (t : Rows) (g : Grammar) (s : StandFor t g) where
  pub holder_there : (rule : ℕ) (row : RuleRow) → slice_get t.rules rule ≡ Some row → row.holder ≡ holder_of (rule_at g rule)
  holder_there rule row here =
      let f = each_there (HoldsRule t) t.rules g.rules rule row s.rules here in
      f.2.holder ∙ sym (ap holder_of f.1)

  pub holder_past : (rule : ℕ) → slice_get t.rules rule ≡ None → None ≡ holder_of (rule_at g rule)
  holder_past rule past = sym (ap holder_of (each_past (HoldsRule t) t.rules g.rules rule s.rules past))

  pub name_there : (rule : ℕ) (row : RuleRow) (name : List ℕ) → slice_get t.rules rule ≡ Some row → name ≡ rows_at t.bytes row.name
      → option_map (λ (r : CoreRule). r.name) (rule_at g rule) ≡ Some name
  name_there rule row name here is =
      let f = each_there (HoldsRule t) t.rules g.rules rule row s.rules here in
      ap (option_map (λ (r : CoreRule). r.name)) f.1 ∙ ap Some (sym (is ∙ f.2.name.is))

  pub attr_there : (n : ℕ) (at : RowSpan) (name : List ℕ) → slice_get t.names n ≡ Some at → name ≡ rows_at t.bytes at → name ≡ name_at g.names n
  attr_there n at name here is =
      let f = each_there (Stands t.bytes) t.names g.names n at s.names here in
      is ∙ f.2.is ∙ sym (ap or_empty f.1)

  pub attr_past : (n : ℕ) → slice_get t.names n ≡ None → [] ≡ name_at g.names n
  attr_past n past = sym (ap or_empty (each_past (Stands t.bytes) t.names g.names n s.names past))
