-- What is known is right, and stays so as an answer is learned.
use Rattle.std.proofs.Common.{◌≡◌, ◌≢◌, ℕ, ◌+◌, ◌≤◌, refl, sym, ap, ◌∙◌, subst, arith, List, [], ◌∷◌, Option, Some, None, Result, Ok, Err, Bool, true}
use Rattle.std.proofs.Common.{false, cond, ◌⊎◌, inl, inr}
use Rattle.std.proofs.lemmas.Bool.{and_parts, eqb-true}
use Rattle.std.specs.List.{AllByRecursion}
use Rattle.ipg_core.specs.Grammar.{Grammar, rule_at, holder_of}
use Rattle.ipg_core.specs.Tree.{Tree}
use Rattle.ipg_core.specs.Environment.{Values}
use Rattle.ipg_core.specs.Run.{Stop, NoTree, OutOfRange, Deep}
use Rattle.ipg_core.specs.Meaning.{den}
use Rattle.ipg_core.specs.Laws.{HeightsAgree}
use Rattle.ipg_mach_moves.specs.Moves.{Key, Known, same_key, find, known_of, learned, learn}
use Rattle.ipg_mach_moves.specs.Laws.{IsRight, AreRight}

same_by : (a b : Key) → same_key a b ≡ true → a ≡ b
same_by a b e =
    let outer = and_parts _ _ e in
    let inner = and_parts _ _ outer.0 in
    let rule : a.rule ≡ b.rule = eqb-true _ _ inner.0 in
    let from : a.from ≡ b.from = eqb-true _ _ inner.1 in
    let to : a.to ≡ b.to = eqb-true _ _ outer.1 in
    ap (λ r. record { rule = r; from = a.from; to = a.to }) rule
    ∙ ap (λ l. record { rule = b.rule; from = l; to = a.to }) from
    ∙ ap (λ r. record { rule = b.rule; from = b.from; to = r }) to

module _ (g : Grammar) (s : List ℕ) where
  found_by : (entry : Key × Result Tree Stop) (known : Known) (key : Key) (answer : Result Tree Stop) (b : Bool) → same_key entry.0 key ≡ b
      → cond b (Some entry.1) (find known key) ≡ Some answer → IsRight g s entry → (find known key ≡ Some answer → IsRight g s (key, answer))
      → IsRight g s (key, answer)
  found_by entry known key answer true same e right rest =
      let is : entry.1 ≡ answer = cc in
      subst (λ a. IsRight g s (key, a)) is (subst (λ k. IsRight g s (k, entry.1)) (same_by entry.0 key same) right)
  found_by entry known key answer false same e right rest = rest e

  found : (known : Known) (key : Key) (answer : Result Tree Stop) → AllByRecursion (IsRight g s) known → find known key ≡ Some answer
      → IsRight g s (key, answer)
  found [] key answer right e = absurd (cc)
  found (entry ∷ known) key answer right e = found_by entry known key answer _ refl e right.0 (found known key answer right.1)

  pub known_right : (known : Option Known) (key : Key) (answer : Result Tree Stop) → AreRight g s known → known_of known key ≡ Some answer
      → IsRight g s (key, answer)
  known_right None key answer right e = absurd (cc)
  known_right (Some known) key answer right e = found known key answer right e

  learned_right : (holder : Option (ℕ × ℕ)) (known : Known) (key : Key) (answer : Result Tree Stop) → AllByRecursion (IsRight g s) known
      → (holder ≡ None → IsRight g s (key, answer)) → AllByRecursion (IsRight g s) (learned holder known key answer)
  learned_right None known key answer right more = (more refl, right)
  learned_right (Some holder) known key answer right more = right

  pub learn_right : (known : Option Known) (key : Key) (answer : Result Tree Stop) → AreRight g s known
      → (holder_of (rule_at g key.rule) ≡ None → IsRight g s (key, answer)) → AreRight g s (learn g known key answer)
  learn_right None key answer right more = tt
  learn_right (Some known) key answer right more = learned_right _ known key answer right more

-- two heights that suffice give one answer
pub one_answer : HeightsAgree → (g : Grammar) (h k r : ℕ) (s : List ℕ) (outer : Values) → den g h r s outer ≢ Err Deep → den g k r s outer ≢ Err Deep
    → den g h r s outer ≡ den g k r s outer
one_answer heights g h k r s outer settled also =
    let low : h ≤ h + k = omega arith in
    let high : k ≤ h + k = omega arith in
    sym (heights g h (h + k) r s outer low settled) ∙ heights g k (h + k) r s outer high also

pub deep_or_not : (answer : Result Tree Stop) → (answer ≡ Err Deep) ⊎ (answer ≢ Err Deep)
deep_or_not (Ok tree) = inr (λ e. cc)
deep_or_not (Err NoTree) = inr (λ e. cc)
deep_or_not (Err OutOfRange) = inr (λ e. cc)
deep_or_not (Err Deep) = inl refl
