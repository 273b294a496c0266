-- How the pieces change where a run is put at the end, or the last ones are cut off.
use Rattle.std.proofs.Common.{◌≡◌, ℕ, zero, suc, ◌+◌, ◌-◌, ◌<◌, ◌≤◌, List, [], ◌∷◌, ◌++◌, length, get_or}
use Rattle.std.proofs.Common.{take, drop, refl, sym, subst, ◌∙◌, ap, arith, length-drop, length-append}
use Rattle.std.specs.Prelude.{slice_get, Some}
use Rattle.std.proofs.lemmas.List.{take_all, take-take, length-take-le, take-append-le, drop-append-le, drop_at, drop-take}
use Rattle.ipg_region.specs.Pieces.{pieces, Rises, end_before}

pub length-pieces : {T : Type 0} (items : List T) (from : ℕ) (ends : List ℕ) → length (pieces items from ends) ≡ length ends
length-pieces items from [] = refl
length-pieces items from (end ∷ ends) = ap suc (length-pieces items end ends)

pub rises_le : (from : ℕ) (ends : List ℕ) (to : ℕ) → Rises from ends to → from ≤ to
rises_le from [] to h = omega arith
rises_le from (end ∷ ends) to h = omega (arith, rises_le end ends to h.1)

pub rises_more : (from : ℕ) (ends : List ℕ) (to more : ℕ) → Rises from ends to → to ≤ more → Rises from (ends ++ more ∷ []) more
rises_more from [] to more h le = (omega arith, refl)
rises_more from (end ∷ ends) to more h le = (h.0, rises_more end ends to more h.1 le)

-- a piece is not touched by items that come behind it
kept_piece : {T : Type 0} (items more : List T) (from end : ℕ) → from ≤ end → end ≤ length items
    → take (end - from) (drop from (items ++ more)) ≡ take (end - from) (drop from items)
kept_piece items more from end le within =
    ap (take (end - from)) (drop-append-le from items more (omega arith))
    ∙ take-append-le (end - from) (drop from items) more (omega (arith, length-drop from items))

-- the items from `from` on, all of them new
new_piece : {T : Type 0} (items run : List T) (from : ℕ) → from ≡ length items → take (length items + length run - from) (drop from (items ++ run)) ≡ run
new_piece items run from e =
    ap (take (length items + length run - from)) (drop_at items run from (sym e)) ∙ take_all (length items + length run - from) run (omega arith)

pub pieces_more : {T : Type 0} (items run : List T) (from : ℕ) (ends : List ℕ) → Rises from ends (length items)
    → pieces (items ++ run) from (ends ++ (length items + length run) ∷ []) ≡ pieces items from ends ++ run ∷ []
pieces_more items run from [] h = ap (λ piece. piece ∷ []) (new_piece items run from h)
pieces_more items run from (end ∷ ends) h =
    ap (λ piece. piece ∷ pieces (items ++ run) end (ends ++ (length items + length run) ∷ []))
    (kept_piece items run from end h.0 (rises_le end ends (length items) h.1))
    ∙ ap (λ rest. take (end - from) (drop from items) ∷ rest) (pieces_more items run end ends h.1)

pub piece_at : {T : Type 0} (items : List T) (from : ℕ) (ends : List ℕ) (k : ℕ) → k < length ends
    → slice_get (pieces items from ends) k ≡ Some (take (get_or ends k 0 - end_before from ends k) (drop (end_before from ends k) items))
piece_at items from [] k within = absurd (omega arith)
piece_at items from (end ∷ ends) zero within = refl
piece_at items from (end ∷ ends) (suc k) within = piece_at items end ends k (omega arith)

pub end_before_more : (from : ℕ) (ends : List ℕ) (k : ℕ) → k < length ends → end_before from ends (suc k) ≡ get_or ends k 0
end_before_more from [] k within = absurd (omega arith)
end_before_more from (end ∷ []) zero within = refl
end_before_more from (end ∷ next ∷ ends) zero within = refl
end_before_more from (end ∷ ends) (suc k) within = end_before_more end ends k (omega arith)

pub from_le_end : (from : ℕ) (ends : List ℕ) (to k : ℕ) → Rises from ends to → from ≤ end_before from ends k
from_le_end from ends to zero h = omega arith
from_le_end from [] to (suc k) h = omega arith
from_le_end from (end ∷ ends) to (suc k) h = omega (arith, from_le_end end ends to k h.1)

pub end_le_to : (from : ℕ) (ends : List ℕ) (to k : ℕ) → Rises from ends to → end_before from ends k ≤ to
end_le_to from ends to zero h = rises_le from ends to h
end_le_to from [] to (suc k) h = omega arith
end_le_to from (end ∷ ends) to (suc k) h = end_le_to end ends to k h.1

-- an end is no less than the one before it
pub end_le_next : (from : ℕ) (ends : List ℕ) (to k : ℕ) → Rises from ends to → end_before from ends k ≤ end_before from ends (suc k)
end_le_next from [] to zero h = omega arith
end_le_next from [] to (suc k) h = omega arith
end_le_next from (end ∷ ends) to zero h = omega (arith, h.0)
end_le_next from (end ∷ ends) to (suc k) h = end_le_next end ends to k h.1

pub rises_cut : (from : ℕ) (ends : List ℕ) (to k : ℕ) → Rises from ends to → Rises from (take k ends) (end_before from ends k)
rises_cut from ends to zero h = refl
rises_cut from [] to (suc k) h = refl
rises_cut from (end ∷ ends) to (suc k) h = (h.0, rises_cut end ends to k h.1)

-- a piece is not touched where items behind it are cut off
cut_piece : {T : Type 0} (items : List T) (from end n : ℕ) → from ≤ end → end ≤ n
    → take (end - from) (drop from (take n items)) ≡ take (end - from) (drop from items)
cut_piece items from end n le within =
    let split : n ≡ from + (n - from) = omega arith in
    ap (λ m. take (end - from) (drop from (take m items))) split
    ∙ ap (take (end - from)) (drop-take from (n - from) items)
    ∙ take-take (end - from) (n - from) (drop from items) (omega arith)

pub pieces_cut : {T : Type 0} (items : List T) (from : ℕ) (ends : List ℕ) (to k n : ℕ) → Rises from ends to → end_before from ends k ≤ n
    → pieces (take n items) from (take k ends) ≡ take k (pieces items from ends)
pieces_cut items from ends to zero n h le = refl
pieces_cut items from [] to (suc k) n h le = refl
pieces_cut items from (end ∷ ends) to (suc k) n h le =
    ap (λ piece. piece ∷ pieces (take n items) end (take k ends)) (cut_piece items from end n h.0 (omega (arith, from_le_end end ends to k h.1)))
    ∙ ap (λ rest. take (end - from) (drop from items) ∷ rest) (pieces_cut items end ends to k n h.1 le)

pub start_found : (ends : List ℕ) (k : ℕ) → 0 < k → k ≤ length ends → get_or ends (k - 1) 0 ≡ end_before 0 ends k
start_found ends zero some within = absurd (omega arith)
start_found ends (suc k) some within =
    let e : suc k - 1 ≡ k = omega arith in
    ap (λ i. get_or ends i 0) e ∙ sym (end_before_more 0 ends k (omega arith))

-- an end before which a run ends is one of the ends, and no greater than the next
pub within_items : (ends : List ℕ) (to k : ℕ) → Rises 0 ends to → k < length ends → (end_before 0 ends k ≤ get_or ends k 0) × (get_or ends k 0 ≤ to)
within_items ends to k h within =
    let e = end_before_more 0 ends k within in
    (omega (arith, e, end_le_next 0 ends to k h), omega (arith, e, end_le_to 0 ends to (suc k) h))

-- a run put at the end, by the equations that the code leaves
pub placed : {T : Type 0} (items items' run : List T) (ends ends' : List ℕ) (end : ℕ) → items' ≡ items ++ run → end ≡ length items' → ends' ≡ ends ++ end ∷ []
    → Rises 0 ends (length items)
    → (pieces items' 0 ends' ≡ pieces items 0 ends ++ run ∷ []) × Rises 0 ends' (length items')
placed items items' run ends ends' end more here ended h =
    let n : end ≡ length items + length run = here ∙ ap length more ∙ length-append items run in
    let e : ends' ≡ ends ++ (length items + length run) ∷ [] = ended ∙ ap (λ k. ends ++ k ∷ []) n in
    let all : ends' ≡ ends ++ length items' ∷ [] = ended ∙ ap (λ k. ends ++ k ∷ []) here in (
      ap (λ xs. pieces xs 0 ends') more ∙ ap (pieces (items ++ run) 0) e ∙ pieces_more items run 0 ends h,
      subst (λ es. Rises 0 es (length items')) (sym all) (rises_more 0 ends (length items) (length items') h (omega (arith, n, here))),
    )

-- the runs from a place on cut off, by the equations that the code leaves
pub cut_off : {T : Type 0} (items items' : List T) (ends ends' : List ℕ) (k start : ℕ) → start ≡ end_before 0 ends k → items' ≡ take start items
    → ends' ≡ take k ends → Rises 0 ends (length items)
    → (pieces items' 0 ends' ≡ take k (pieces items 0 ends)) × Rises 0 ends' (length items')
cut_off items items' ends ends' k start found fewer ended h =
    let within : start ≤ length items = omega (arith, found, end_le_to 0 ends (length items) k h) in
    let n : end_before 0 ends k ≡ length items' = omega (arith, found, ap length fewer, length-take-le start items within) in (
      ap (λ xs. pieces xs 0 ends') fewer ∙ ap (pieces (take start items) 0) ended ∙ pieces_cut items 0 ends (length items) k start h (omega (arith, found)),
      subst (λ to. Rises 0 ends' to) n (subst (λ es. Rises 0 es (end_before 0 ends k)) (sym ended) (rises_cut 0 ends (length items) k h)),
    )
