-- What is found among known answers, and of which keys.
use Rattle.std.proofs.Common.{◌≡◌, ◌≢◌, ℕ, refl, ap, ◌∙◌, subst, List, [], ◌∷◌, Option, Some, None, Result}
use Rattle.std.proofs.Common.{◌⊎◌, inl, inr, Bool, true, false, cond}
use Rattle.std.specs.List.{AllByRecursion}
use Rattle.ipg_core.specs.Grammar.{Grammar}
use Rattle.ipg_core.specs.Tree.{Tree}
use Rattle.ipg_core.specs.Run.{Stop}
use Rattle.ipg_mach_moves.specs.Moves.{Key, Known, same_key, find}
use Rattle.ipg_mach_moves.specs.Laws.{IsRight, AreRight}
use Rattle.ipg_mach_count_laws.specs.Counts.{Has}
use Rattle.ipg_mach_count_laws.specs.Kept.{keys_of}
use Rattle.ipg_mach_count_laws.specs.Laws.{KeysAreKnown}
use Rattle.ipg_mach_count_laws.proofs.Grown.{Knows, knows_more, knows_one, same_by}

pub not_found : (found : Option (Result Tree Stop)) (answer : Result Tree Stop) → found ≡ None → found ≡ Some answer → ⊥
not_found found answer none some = absurd (cc)

some_found : (found : Option (Result Tree Stop)) → found ≢ None → (answer : Result Tree Stop) × (found ≡ Some answer)
some_found None some = absurd (some refl)
some_found (Some answer) some = (answer, refl)

pub knows_found : (known : Known) (key : Key) → find known key ≢ None → Knows known key
knows_found known key some = some_found (find known key) some

pub found_knows : (known : Known) (key : Key) → Knows known key → find known key ≢ None
found_knows known key knows none = not_found (find known key) knows.0 none knows.1

pub none_found : (found : Option (Result Tree Stop)) → (found ≢ None → ⊥) → found ≡ None
none_found None not_some = refl
none_found (Some answer) not_some = absurd (not_some (λ e. absurd (cc)))

has_knows : (known : Known) (key : Key) → Has (keys_of known) key → Knows known key
has_knows (entry ∷ known) key (inl same) = knows_one entry.0 entry.1 known key same
has_knows (entry ∷ known) key (inr has) = knows_more entry.0 entry.1 known key (has_knows known key has)
has_knows [] key has = absurd has

abbrev IsEntry : Known → Key → Result Tree Stop → Type 0
IsEntry [] key answer = ⊥
IsEntry (entry ∷ known) key answer = (entry ≡ (key, answer)) ⊎ IsEntry known key answer

entry_by : (one : Key) (given : Result Tree Stop) (known : Known) (key : Key) (answer : Result Tree Stop) (b : Bool) → same_key one key ≡ b
    → (find known key ≡ Some answer → IsEntry known key answer) → cond b (Some given) (find known key) ≡ Some answer
    → IsEntry ((one, given) ∷ known) key answer
entry_by one given known key answer true same more e =
    let is : given ≡ answer = cc in inl (ap (λ key. (key, given)) (same_by one key same) ∙ ap (λ answer. (key, answer)) is)
entry_by one given known key answer false same more e = inr (more e)

entry_of : (known : Known) (key : Key) (answer : Result Tree Stop) → find known key ≡ Some answer → IsEntry known key answer
entry_of [] key answer e = absurd (cc)
entry_of (entry ∷ known) key answer e = entry_by entry.0 entry.1 known key answer _ refl (entry_of known key answer) e

entry_has : (known : Known) (key : Key) (answer : Result Tree Stop) → IsEntry known key answer → Has (keys_of known) key
entry_has (entry ∷ known) key answer (inl is) = inl (ap (λ (entry : Key × Result Tree Stop). entry.0) is)
entry_has (entry ∷ known) key answer (inr old) = inr (entry_has known key answer old)
entry_has [] key answer is = absurd is

entry_right : (g : Grammar) (s : List ℕ) (known : Known) (key : Key) (answer : Result Tree Stop) → AllByRecursion (IsRight g s) known
    → IsEntry known key answer → IsRight g s (key, answer)
entry_right g s (entry ∷ known) key answer all (inl is) = subst (IsRight g s) is all.0
entry_right g s (entry ∷ known) key answer all (inr old) = entry_right g s known key answer all.1 old
entry_right g s [] key answer all is = absurd is

pub found_right : (g : Grammar) (s : List ℕ) (known : Known) (key : Key) (answer : Result Tree Stop) → AreRight g s (Some known)
    → find known key ≡ Some answer → IsRight g s (key, answer)
found_right g s known key answer right e = entry_right g s known key answer right (entry_of known key answer e)

pub keys_are_known : KeysAreKnown
keys_are_known known key = (
  λ some. let knows = knows_found known key some in entry_has known key knows.0 (entry_of known key knows.0 knows.1),
  λ has. found_knows known key (has_knows known key has),
)
