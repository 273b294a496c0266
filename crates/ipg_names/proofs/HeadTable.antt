-- Which heads are at fault, by the rule that is known by each name.
use Rattle.std.proofs.Common.{◌≡◌, ℕ, suc, ◌+◌, Bool, true, false, ◌||◌, not, List, [], ◌∷◌, ◌++◌, length, map, Option, Some, None, is_some}
use Rattle.std.proofs.Common.{refl, sym, ap, ap₂, ◌∙◌, cond, bytes_eq, nat_eq, arith, append_assoc, length-append}
use Rattle.std.specs.List.{list_any}
use Rattle.std.proofs.lemmas.List.{map-append}
use Rattle.std.proofs.lemmas.Bool.Decides.{nat_tests}
use Rattle.ipg_names.specs.declared.fault.NameFault.TheVariants.{DuplicateRule}
use Rattle.ipg_names_scope.specs.Nearest.{first_from}
use Rattle.ipg_names_scope.specs.Roster.{ListedRule, name_of, head_at}
use Rattle.ipg_core.specs.Lines.{primitive_of}
use Rattle.ipg_names_scope.specs.Scope.{rule_named, is_named}
use Rattle.ipg_names.specs.Faults.{Faults, head_faults, when}
use Rattle.ipg_names.specs.Heads.{is_rule}
use Rattle.ipg_names.proofs.Bytes.{bytes_same}

pub is_none : {A : Type 0} (o : Option A) → is_some o ≡ false → o ≡ None
is_none None h = refl
is_none (Some a) h = absurd (cc)

-- a head is the first of its name where its name isn't among those before
known : (n : ℕ) (before : List ListedRule) (e : ListedRule) (es : List ListedRule)
    → list_any (bytes_eq (name_of e)) (map name_of before) ≡ not (is_rule (first_from (is_named (name_of e)) n (before ++ e ∷ es)) (n + length before))
known n [] e es = by (bytes_eq (name_of e) (name_of e)) (bytes_same (name_of e))
  where
    here : nat_eq n (n + 0) ≡ true
    here = grind (arith, nat_tests)

    by : (b : Bool) → b ≡ true → false ≡ not (is_rule (cond b (Some n) (first_from (is_named (name_of e)) (n + 1) es)) (n + 0))
    by true is = ap not (sym here)
    by false is = absurd (cc)
known n (x ∷ before) e es = by (bytes_eq (name_of e) (name_of x)) (known (n + 1) before e es)
  where
    apart : nat_eq n (n + suc (length before)) ≡ false
    apart = grind (arith, nat_tests)

    rest : Option ℕ
    rest = first_from (is_named (name_of e)) (n + 1) (before ++ e ∷ es)

    by : (b : Bool) → list_any (bytes_eq (name_of e)) (map name_of before) ≡ not (is_rule rest (n + 1 + length before))
        → (b || list_any (bytes_eq (name_of e)) (map name_of before)) ≡ not (is_rule (cond b (Some n) rest) (n + suc (length before)))
    by true later = ap not (sym apart)
    by false later = later ∙ ap (λ k. not (is_rule rest k)) (let e : n + 1 + length before ≡ n + suc (length before) = omega arith in e)

-- the faults of heads from number r on
abbrev pub head_which : List ListedRule → ℕ → ListedRule → Faults
head_which all r e = when (not (is_rule (rule_named all (name_of e)) r) || is_some (primitive_of (name_of e))) (DuplicateRule (head_at e))

abbrev pub heads_from : List ListedRule → ℕ → List ListedRule → Faults
heads_from all r [] = []
heads_from all r (e ∷ es) = head_which all r e ++ heads_from all (r + 1) es

from_there : (before es : List ListedRule) → heads_from (before ++ es) (length before) es ≡ head_faults (map name_of before) es
from_there before [] = refl
from_there before (e ∷ es) = ap₂ (λ here later. here ++ later) one (ap₂ (λ all r. heads_from all r es) whole count ∙ from_there (before ++ e ∷ []) es
    ∙ ap (λ names. head_faults names es) (map-append name_of before (e ∷ [])))
  where
    whole : before ++ e ∷ es ≡ (before ++ e ∷ []) ++ es
    whole = sym (append_assoc before (e ∷ []) es)

    count : length before + 1 ≡ length (before ++ e ∷ [])
    count = omega (arith, length-append before (e ∷ []))

    at : 0 + length before ≡ length before
    at = omega arith

    one : head_which (before ++ e ∷ es) (length before) e
        ≡ when (list_any (bytes_eq (name_of e)) (map name_of before) || is_some (primitive_of (name_of e))) (DuplicateRule (head_at e))
    one = ap (λ b. when (b || is_some (primitive_of (name_of e))) (DuplicateRule (head_at e)))
        (ap (λ r. not (is_rule (rule_named (before ++ e ∷ es) (name_of e)) r)) (sym at) ∙ sym (known 0 before e es))

-- they are those of the text
pub heads_are : (es : List ListedRule) → heads_from es 0 es ≡ head_faults [] es
heads_are es = from_there [] es
