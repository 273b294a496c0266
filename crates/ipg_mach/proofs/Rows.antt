-- Rows that stand one by one for what an open call has left.
use Rattle.std.proofs.Common.{◌≡◌, ℕ, zero, suc, ◌-◌, ◌≤◌, arith, inl, inr, take, refl, sym, ap, ◌∙◌, subst}
use Rattle.std.proofs.Common.{List, [], ◌∷◌, drop, length, Option, Some, None, Bor}
use Rattle.std.specs.Prelude.{slice_get, nat_eq, true, false}
use Rattle.std.specs.Option.{option_copied, UnwrapsOrElse}
use Rattle.std.specs.Slice.{IsGetRangeResult}
use Rattle.std.proofs.lemmas.Bool.{cases_lt, eqb-true}
use Rattle.std.proofs.lemmas.List.{take_all, take-append-drop, take-append-le, drop-append-le, length-drop}
use Rattle.ipg_mach.specs.Piled.{between}
use Rattle.ipg_core.specs.declared.grammar.CoreTerm.{CoreTerm}
use Rattle.ipg_table.specs.declared.row.Instr.{Instr}
use Rattle.ipg_core.specs.declared.grammar.CoreAlt.{CoreAlt}
use Rattle.ipg_core.specs.declared.grammar.CoreRule.{CoreRule}
use Rattle.ipg_mach_moves.specs.Moves.{alts_of}
use Rattle.ipg_table.specs.declared.row.AltRow.{AltRow}
use Rattle.ipg_table.specs.declared.row.RuleRow.{RuleRow}
use Rattle.ipg_table.specs.Rows.{Rows, Each, HoldsInstr, HoldsAlt, HoldsRule, rows_at, attrs_in}
use Rattle.ipg_mach.specs.Calls.{term_at_hand, IsNext}

pub first_term : (t : Rows) (terms : List CoreTerm) (rows : List Instr) (left : List ℕ) (instr : Instr) → Each (HoldsInstr t terms) rows left
    → slice_get rows 0 ≡ Some instr → instr.term ≡ term_at_hand left
first_term t terms [] left instr each e = absurd (cc)
first_term t terms (row ∷ rows) [] instr each e = absurd each
first_term t terms (row ∷ rows) (u ∷ left) instr each e =
    let is : row ≡ instr = cc in ap (λ (i : Instr). i.term) (sym is) ∙ each.0.number

pub each_drop : {A B : Type 0} (R : A → B → Type 0) (xs : List A) (ys : List B) → Each R xs ys → Each R (drop 1 xs) (drop 1 ys)
each_drop R [] [] each = tt
each_drop R (x ∷ xs) (y ∷ ys) each = each.1
each_drop R [] (y ∷ ys) each = absurd each
each_drop R (x ∷ xs) [] each = absurd each

pub none_left : {A B : Type 0} (R : A → B → Type 0) (xs : List A) (ys : List B) → Each R xs ys → slice_get xs 0 ≡ None → ys ≡ []
none_left R [] [] each e = refl
none_left R [] (y ∷ ys) each e = absurd each
none_left R (x ∷ xs) ys each e = absurd (cc)

pub some_left : {A B : Type 0} (R : A → B → Type 0) (xs : List A) (ys : List B) (x : A) → Each R xs ys → slice_get xs 0 ≡ Some x
    → (y : B) × R x y × (ys ≡ y ∷ drop 1 ys)
some_left R [] ys x each e = absurd (cc)
some_left R (x' ∷ xs) [] x each e = absurd each
some_left R (x' ∷ xs) (y ∷ ys) x each e =
    let is : x' ≡ x = cc in (y, subst (λ r. R r y) is each.0, refl)

pub empty_left : {A B : Type 0} (R : A → B → Type 0) (xs : List A) (ys : List B) → Each R xs ys → nat_eq (length xs) 0 ≡ true → ys ≡ []
empty_left R [] [] each e = refl
empty_left R [] (y ∷ ys) each e = absurd each
empty_left R (x ∷ xs) ys each e = let none : length (x ∷ xs) ≡ 0 = eqb-true (length (x ∷ xs)) 0 e in absurd (omega (arith, none))

pub one_left : {A B : Type 0} (R : A → B → Type 0) (xs : List A) (ys : List B) → Each R xs ys → nat_eq (length xs) 0 ≡ false
    → (y : B) × (ys ≡ y ∷ drop 1 ys)
one_left R [] ys each e = absurd (cc)
one_left R (x ∷ xs) [] each e = absurd each
one_left R (x ∷ xs) (y ∷ ys) each e = (y, refl)

-- the rows behind the first; none where there is none
pub behind_first : {A : Type 0} (xs : List A) (found : Option (Bor (List A))) (rest : Bor (List A)) → IsGetRangeResult xs 1 (length xs) found
    → UnwrapsOrElse found (λ x. x.now ≡ []) rest → rest.now ≡ drop 1 xs
behind_first [] None rest is e = e
behind_first (x ∷ xs) None rest is e = absurd (grind (arith, is.0))
behind_first {A} xs (Some part) rest is e =
    ap (λ (r : Bor (List A)). r.now) e ∙ is.0.2 ∙ take_all _ (drop 1 xs) (let n = length-drop 1 xs in omega arith)

-- ---- alternatives of a rule

module _ (t : Rows) where
  pub alts_there : (rows : List RuleRow) (rules : List CoreRule) (n : ℕ) (row : RuleRow) → Each (HoldsRule t) rows rules → slice_get rows n ≡ Some row
      → Each (HoldsAlt t) (rows_at t.alts row.alts) (alts_of (slice_get rules n))
  alts_there [] [] n row each e = absurd (cc)
  alts_there (r ∷ rows) (rule ∷ rules) zero row each e =
      let is : r ≡ row = cc in subst (λ (x : RuleRow). Each (HoldsAlt t) (rows_at t.alts x.alts) rule.alts) is each.0.alts.each
  alts_there (r ∷ rows) (rule ∷ rules) (suc n) row each e = alts_there rows rules n row each.1 e
  alts_there [] (rule ∷ rules) n row each e = absurd each
  alts_there (r ∷ rows) [] n row each e = absurd each

  pub alts_past : (rows : List RuleRow) (rules : List CoreRule) (n : ℕ) → Each (HoldsRule t) rows rules → slice_get rows n ≡ None
      → Each (HoldsAlt t) [] (alts_of (slice_get rules n))
  alts_past [] [] n each e = tt
  alts_past (r ∷ rows) (rule ∷ rules) zero each e = absurd (cc)
  alts_past (r ∷ rows) (rule ∷ rules) (suc n) each e = alts_past rows rules n each.1 e
  alts_past [] (rule ∷ rules) n each e = absurd each
  alts_past (r ∷ rows) [] n each e = absurd each

  -- the row of a number is that of the alternative of this number
  pub next_row : (rows : List AltRow) (those : List CoreAlt) (n : ℕ) (found : Option (Bor AltRow)) → Each (HoldsAlt t) rows those
      → option_copied found ≡ slice_get rows n → IsNext t found (drop n those)
  next_row [] [] zero None each e = refl
  next_row [] [] (suc n) None each e = refl
  next_row [] [] n (Some row) each e = absurd (cc)
  next_row (r ∷ rows) (alt ∷ those) zero None each e = absurd (cc)
  next_row (r ∷ rows) (alt ∷ those) zero (Some row) each e =
      let is : r ≡ row.now = cc in (alt, subst (λ x. HoldsAlt t x alt) is each.0, refl)
  next_row (r ∷ rows) (alt ∷ those) (suc n) found each e = next_row rows those n found each.1 e
  next_row [] (alt ∷ those) n found each e = absurd each
  next_row (r ∷ rows) [] n found each e = absurd each

  -- so what it sets is what that sets
  pub sets_there : (row : AltRow) (those rest : List CoreAlt) (own : CoreAlt) (next : (alt : CoreAlt) × HoldsAlt t row alt × (those ≡ alt ∷ drop 1 those))
      → those ≡ own ∷ rest → rows_at t.sets row.sets ≡ attrs_in own.terms
  sets_there row those rest own next e =
      let same : next.0 ≡ own = (let is = next.2 in cc) in next.1.sets.is ∙ ap (λ (a : CoreAlt). attrs_in a.terms) same

-- what lies between two places of the first rows lies there in all
module _ {A : Type 0} (xs : List A) (b from to : ℕ) (inside : to ≤ length (take b xs)) where
  nothing_between : (ys zs : List A) → to ≤ from → between ys from to ≡ between zs from to
  nothing_between ys zs h = let none : to - from ≡ 0 = omega arith in
      ap (λ n. take n (drop from ys)) none ∙ sym (ap (λ n. take n (drop from zs)) none)

  rows_between : from ≤ to → between (take b xs) from to ≡ between xs from to
  rows_between h =
      let first = take b xs in
      let dropped = length-drop from first in
      sym (ap (λ ys. between ys from to) (sym (take-append-drop b xs))
      ∙ ap (take (to - from)) (drop-append-le from first (drop b xs) (omega arith))
      ∙ take-append-le (to - from) (drop from first) (drop b xs) (omega arith))

  pub between_below : between (take b xs) from to ≡ between xs from to
  between_below = elim (cases_lt from to) [ inl h ↦ rows_between (omega arith) | inr h ↦ nothing_between (take b xs) xs (omega arith) ]
