-- A stack as a list with its top first.
use Rattle.std.specs.Prelude.{◌≡◌, List, [], ◌∷◌, Option, Some, None}

-- the items above those below, the last item the top
abbrev pub above : {T : Type 0} → List T → List T → List T
above below [] = below
above below (x ∷ xs) = above (x ∷ below) xs

abbrev pub top_first : {T : Type 0} → List T → List T
top_first xs = above [] xs

-- the top is taken, where there is one
abbrev pub Pops : {T : Type 0} → List T → List T → Option T → Type 0
Pops before after None = (before ≡ []) × (after ≡ [])
Pops before after (Some x) = before ≡ x ∷ after
