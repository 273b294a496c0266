-- Parts of parts, by where they begin in the input.
use Rattle.std.proofs.Common.{◌≡◌, ℕ, zero, suc, ◌+◌, ◌-◌, refl, sym, ap, ◌∙◌, subst, arith, append-nil, List, [], ◌∷◌, ◌++◌, length, take, drop}
use Rattle.std.proofs.lemmas.List.{take-append-drop, drop-drop, append_assoc}
use Rattle.std.proofs.Math.Seq.{take-append_seam}
use Rattle.ipg_core.specs.Part.{part}
use Rattle.ipg_mach_count_laws.specs.Standing.{StandsAt, StandsThere}

behind : (l : ℕ) (xs rest : List ℕ) → (more : List ℕ) × (drop l xs ++ more ≡ drop l (xs ++ rest))
behind zero xs rest = (rest, refl)
behind (suc l) [] rest = (drop (suc l) rest, refl)
behind (suc l) (x ∷ xs) rest = behind l xs rest

pub part_at : StandsThere
part_at s from bytes at =
    let e : (from + length bytes) - from ≡ length bytes = omega arith in
    ap (λ n. take n (drop from s)) e ∙ ap (take (length bytes)) (sym at.is) ∙ take-append_seam bytes at.rest

pub part_stands : (s : List ℕ) (from l r : ℕ) (bytes : List ℕ) → StandsAt s from bytes → StandsAt s (from + l) (part bytes l r)
part_stands s from l r bytes at =
    let more = behind l bytes at.rest in
    record {
      rest = drop (r - l) (drop l bytes) ++ more.0;
      is =
          sym (append_assoc (take (r - l) (drop l bytes)) (drop (r - l) (drop l bytes)) more.0)
          ∙ ap (λ xs. xs ++ more.0) (take-append-drop (r - l) (drop l bytes))
          ∙ more.1
          ∙ ap (drop l) at.is
          ∙ drop-drop l from s;
    }

pub whole_stands : (s : List ℕ) → StandsAt s 0 s
whole_stands s = record { rest = []; is = append-nil s }

pub whole_part : (s : List ℕ) → part s 0 (length s) ≡ s
whole_part s = let e : length s ≡ 0 + length s = omega arith in ap (part s 0) e ∙ part_at s 0 s (whole_stands s)

-- an interval of the input stands where it begins
pub part_stands_there : (s : List ℕ) (from to : ℕ) → StandsAt s from (part s from to)
part_stands_there s from to =
    let e : 0 + from ≡ from = omega arith in subst (λ n. StandsAt s n (part s from to)) e (part_stands s 0 from to s (whole_stands s))
