-- Pieces end to end: none, one more, and how long they are.
use Rattle.std.proofs.Common.{◌≡◌, ℕ, zero, suc, ◌+◌, ◌*◌, List, ◌++◌, length, sym, ap, ◌∙◌, arith, add-one, append_assoc, length-append}
use Rattle.std.proofs.lemmas.List.{append-nil}
use Rattle.ipg_formats.specs.Fields.{each}

pub each-none : (s : List ℕ) (f : ℕ → List ℕ) → s ≡ s ++ each 0 f
unfolding each
each-none s f = sym (append-nil s)

pub each-more : (s : List ℕ) (f : ℕ → List ℕ) (i : ℕ) (old new : List ℕ) → old ≡ s ++ each i f → new ≡ old ++ f i → new ≡ s ++ each (i + 1) f
unfolding each
each-more s f i old new before now = rw add-one (now ∙ (ap (λ l. l ++ f i) before ∙ append_assoc s (each i f) (f i)))

pub length-each : (n k : ℕ) (f : ℕ → List ℕ) → ((i : ℕ) → length (f i) ≡ k) → length (each n f) ≡ k * n
unfolding each
length-each zero k f h = omega arith
length-each (suc n) k f h = rw (length-append, length-each n k f h, h n) (omega arith)
