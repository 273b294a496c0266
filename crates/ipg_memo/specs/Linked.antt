-- The place that a link stands for.
use Rattle.std.specs.Prelude.{◌≡◌, ℕ, zero, suc, Option, None, Some, refl}
use Rattle.ipg_memo.specs.declared.link.Link.TheInside.{Inside}

abbrev pub place_of_code : ℕ → Option ℕ
place_of_code zero = None
place_of_code (suc place) = Some place

abbrev pub place_in : Inside → Option ℕ
place_in a = place_of_code a.code

abbrev pub code_of_place : Option ℕ → ℕ
code_of_place None = zero
code_of_place (Some place) = suc place

abbrev pub link_to : Option ℕ → Inside
link_to p = record { code = code_of_place p }

code_back : (n : ℕ) → code_of_place (place_of_code n) ≡ n
code_back zero = refl
code_back (suc n) = refl

pub link_back : (a : Inside) → link_to (place_in a) ≡ a
link_back a = λ i. record { code = code_back a.code i }
