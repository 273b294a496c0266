-- Pieces of a text, put one behind another.
use Rattle.std.proofs.Common.{◌≡◌, ℕ, List, ◌++◌, ap, ◌∙◌, append_assoc}

pub three_behind : (words a b c t u v w : List ℕ) → t ≡ words → u ≡ t ++ a → v ≡ u ++ b → w ≡ v ++ c → w ≡ words ++ (a ++ (b ++ c))
three_behind words a b c t u v w d e f g =
    g ∙ ap (λ x. x ++ c) (f ∙ ap (λ x. x ++ b) (e ∙ ap (λ x. x ++ a) d)) ∙ append_assoc (words ++ a) b c ∙ append_assoc words a (b ++ c)
