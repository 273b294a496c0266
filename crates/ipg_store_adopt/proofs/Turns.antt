-- One more item at a time, of what a list of items is made into.
use Rattle.std.proofs.Common.{◌≡◌, ℕ, sym, ap, ◌∙◌, arith, List, [], ◌∷◌, ◌++◌, append_assoc, append-nil, map, length}
use Rattle.std.proofs.lemmas.List.{map-append}

pub map_turn : {X Y : Type 0} (f : X → Y) (xs : List X) (x : X) (made : List Y) (y : Y) → made ≡ map f xs → y ≡ f x → made ++ y ∷ [] ≡ map f (xs ++ x ∷ [])
map_turn f xs x made y is one = ap (λ ms. ms ++ y ∷ []) is ∙ ap (λ z. map f xs ++ z ∷ []) one ∙ sym (map-append f xs (x ∷ []))

-- where nothing is left, all items have come
pub all_came : {X : Type 0} (came left all : List X) (count : ℕ) → came ++ left ≡ all → count ≡ length left → count ≡ 0 → came ≡ all
all_came came [] all count is many none = sym (append-nil came) ∙ is
all_came came (x ∷ left) all count is many none = absurd (omega (arith, many, none))

-- one more has come
pub one_came : {X : Type 0} (x : X) (came left rest all : List X) → left ≡ x ∷ rest → came ++ left ≡ all → (came ++ x ∷ []) ++ rest ≡ all
one_came x came left rest all is so_far = append_assoc came (x ∷ []) rest ∙ ap (λ xs. came ++ xs) (sym is) ∙ so_far
