-- What is put behind one another is put as a whole.
use Rattle.std.proofs.Common.{◌≡◌, ℕ, List, ◌++◌, ap, ◌∙◌, append_assoc}

pub two : (old one last a b : List ℕ) → one ≡ old ++ a → last ≡ one ++ b → last ≡ old ++ (a ++ b)
two old one last a b first second = second ∙ ap (λ w. w ++ b) first ∙ append_assoc old a b

pub three : (old one other last a b c : List ℕ) → one ≡ old ++ a → other ≡ one ++ b → last ≡ other ++ c → last ≡ old ++ (a ++ (b ++ c))
three old one other last a b c first second third =
    two old one last a (b ++ c) first (two one other last b c second third)

pub four : (old one other third last a b c d : List ℕ) → one ≡ old ++ a → other ≡ one ++ b → third ≡ other ++ c → last ≡ third ++ d
    → last ≡ old ++ (a ++ (b ++ (c ++ d)))
four old one other third last a b c d first second next end =
    two old one last a (b ++ (c ++ d)) first (three one other third last b c d second next end)
