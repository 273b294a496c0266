-- What is asked of mentions that stand one behind another.
use Rattle.std.proofs.Common.{◌≡◌, refl, ap, ◌∙◌, sym, List, [], ◌∷◌, ◌++◌, Bool, true, false, ◌||◌}
use Rattle.std.specs.List.{list_any, flat_map}
use Rattle.ipg_core.specs.declared.grammar.CoreField.{CoreField}
use Rattle.ipg_core.specs.declared.grammar.CoreField.TheVariants.{Attr, Start, End}
use Rattle.ipg_core.specs.Mention.{Mention, field_mentions}
use Rattle.ipg_facts_holder.specs.declared.mention.Ask.{Ask}
use Rattle.ipg_facts_holder.specs.declared.mention.Ask.TheVariants.{AnyOuter, Outer, Needs}
use Rattle.ipg_facts_holder.specs.Holder.{answers}

pub or_assoc : (a b c : Bool) → (a || b) || c ≡ a || (b || c)
or_assoc true b c = refl
or_assoc false b c = refl

pub or_false : (a : Bool) → a || false ≡ a
or_false true = refl
or_false false = refl

pub or_true : (a : Bool) → a || true ≡ true
or_true true = refl
or_true false = refl

pub any_append : {A : Type 0} (p : A → Bool) (xs ys : List A) → list_any p (xs ++ ys) ≡ list_any p xs || list_any p ys
any_append p [] ys = refl
any_append p (x ∷ xs) ys = ap (λ b. p x || b) (any_append p xs ys) ∙ sym (or_assoc (p x) (list_any p xs) (list_any p ys))

-- no field of a result is asked for
no_fields : (ask : Ask) (field : CoreField) → list_any (answers ask) (field_mentions field) ≡ false
no_fields AnyOuter (Attr a) = refl
no_fields (Outer b) (Attr a) = refl
no_fields (Needs v sets) (Attr a) = refl
no_fields ask Start = refl
no_fields ask End = refl

pub any_fields : (ask : Ask) (field : CoreField) (xs : List Mention) → list_any (answers ask) (xs ++ field_mentions field) ≡ list_any (answers ask) xs
any_fields ask field xs = any_append (answers ask) xs (field_mentions field) ∙ ap (λ b. list_any (answers ask) xs || b) (no_fields ask field)
    ∙ or_false (list_any (answers ask) xs)

pub any_flat : {A B : Type 0} (p : B → Bool) (f : A → List B) (xs : List A) → list_any p (flat_map f xs) ≡ list_any (λ x. list_any p (f x)) xs
any_flat p f [] = refl
any_flat p f (x ∷ xs) = any_append p (f x) (flat_map f xs) ∙ ap (λ b. list_any p (f x) || b) (any_flat p f xs)
