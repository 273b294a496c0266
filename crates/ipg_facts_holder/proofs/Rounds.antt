-- Rounds that find the readers of an attribute: where one adds none, no later one does.
use Rattle.std.proofs.Common.{◌≡◌, ℕ, zero, suc, ◌+◌, ◌-◌, ◌≤◌, List, map, refl, sym, ap, ◌∙◌, arith, Bool, true, false}
use Rattle.std.specs.Bool.{Decides}
use Rattle.std.proofs.lemmas.Slice.Eq.{slice_eq-Decides}
use mathlib.Core.Bool.{beq}
use Rattle.std.specs.Cmp.Lexicographic.{pointwise}
use Rattle.ipg_core.specs.Grammar.{Grammar}
use Rattle.ipg_facts_holder.specs.Holder.{readers, reads_next}

-- one round more
pub round_more : (g : Grammar) (attr k : ℕ) (marks next : List Bool) → marks ≡ readers g attr k → next ≡ map (reads_next g attr marks) g.rules
    → next ≡ readers g attr (k + 1)
unfolding readers
round_more g attr k marks next e f =
    f ∙ ap (λ ms. map (reads_next g attr ms) g.rules) e ∙ ap (readers g attr) (let h : suc k ≡ k + 1 = omega arith in h)

stays : (g : Grammar) (attr k d : ℕ) → readers g attr (suc k) ≡ readers g attr k → readers g attr (k + d) ≡ readers g attr k
unfolding readers
stays g attr k zero e = ap (readers g attr) (let h : k + 0 ≡ k = omega arith in h)
stays g attr k (suc d) e =
    ap (readers g attr) (let h : k + suc d ≡ suc (k + d) = omega arith in h)
    ∙ ap (λ ms. map (reads_next g attr ms) g.rules) (stays g attr k d e) ∙ e

pub settled : (g : Grammar) (attr k n : ℕ) (marks next : List Bool) → k ≤ n → marks ≡ readers g attr k → next ≡ map (reads_next g attr marks) g.rules
    → next ≡ marks → marks ≡ readers g attr n
settled g attr k n marks next le e f same =
    let last : readers g attr (suc k) ≡ readers g attr k =
    ap (readers g attr) (let h : suc k ≡ k + 1 = omega arith in h) ∙ sym (round_more g attr k marks next e f) ∙ same ∙ e in
    e ∙ sym (stays g attr k (n - k) last) ∙ ap (readers g attr) (let h : k + (n - k) ≡ n = omega arith in h)

bools : (a b : Bool) → Decides (beq a b) (a ≡ b)
bools true true = (λ e. refl, λ e. refl)
bools true false = (λ e. cc, λ e. cc)
bools false true = (λ e. cc, λ e. cc)
bools false false = (λ e. refl, λ e. refl)

pub same_marks : (xs ys : List Bool) (r : Bool) → r ≡ pointwise beq xs ys → r ≡ true → xs ≡ ys
same_marks xs ys r e f = (slice_eq-Decides bools xs ys r e).0 f
