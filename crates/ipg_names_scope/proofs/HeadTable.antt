-- The table of heads as it is made.
use Rattle.std.proofs.Common.{◌≡◌, ℕ, ◌+◌, ◌<◌, Bool, true, false, List, [], ◌∷◌, ◌++◌, length, take, get_or}
use Rattle.std.proofs.Common.{Option, Some, None, is_some, refl, sym, ap, ◌∙◌, cond, bytes_eq, arith}
use Rattle.std.proofs.lemmas.List.{length-map}
use Rattle.ipg_names_scope.specs.declared.roster.ListedRule as code
use Rattle.ipg_names_scope.specs.Nearest.{or_else}
use Rattle.ipg_names_scope.specs.Scope.{rule_named, is_named}
use Rattle.ipg_names_scope.specs.View.{entry_view, entries_view, entry_name}
use Rattle.ipg_names_scope.proofs.Bytes.{same_bytes, bytes_turned}
use Rattle.ipg_names_scope.proofs.Lists.{take_item, taken, map_push}
use Rattle.ipg_names_scope.proofs.Spots.{first_append, else_none}

pub is_none : {A : Type 0} (o : Option A) → is_some o ≡ false → o ≡ None
is_none None h = refl
is_none (Some a) h = absurd (cc)

-- a new name, which isn't there yet
pub added : (f : List ℕ → Option ℕ) (name x : List ℕ) (r : ℕ) → f name ≡ None
    → cond (bytes_eq name x) (Some r) (f x) ≡ or_else (f x) (cond (bytes_eq name x) (Some r) None)
added f name x r none = by (bytes_eq name x) refl
  where
    by : (b : Bool) → bytes_eq name x ≡ b → cond b (Some r) (f x) ≡ or_else (f x) (cond b (Some r) None)
    by true h = sym (ap (λ o. or_else o (Some r)) (ap f (sym (same_bytes name x h)) ∙ none))
    by false h = sym (else_none (is_named x) (f x))

view_more : (roster : List code.ListedRule) (r : ℕ) (e : code.ListedRule) → e ≡ get_or roster r e → r < length roster
    → entries_view (take (r + 1) roster) ≡ entries_view (take r roster) ++ entry_view e ∷ []
view_more roster r e is within = ap entries_view (take_item roster r e is within) ∙ map_push entry_view (take r roster) e

view_length : (roster : List code.ListedRule) (r : ℕ) → r < length roster → length (entries_view (take r roster)) ≡ r
view_length roster r within = length-map (take r roster) entry_view ∙ taken roster r within

pub numbers_turn : (roster : List code.ListedRule) (r : ℕ) (e : code.ListedRule) (x : List ℕ) → e ≡ get_or roster r e → r < length roster
    → rule_named (entries_view (take (r + 1) roster)) x ≡ or_else (rule_named (entries_view (take r roster)) x) (cond (bytes_eq (entry_name e) x) (Some r) None)
numbers_turn roster r e x is within =
    let es = entries_view (take r roster) in
    let count : 0 + length es ≡ r = let h = view_length roster r within in omega arith in
    ap (λ ys. rule_named ys x) (view_more roster r e is within)
    ∙ first_append (is_named x) 0 es (entry_view e ∷ [])
    ∙ ap (λ n. or_else (rule_named es x) (cond (bytes_eq x (entry_name e)) (Some n) None)) count
    ∙ ap (λ b. or_else (rule_named es x) (cond b (Some r) None)) (bytes_turned x (entry_name e))
