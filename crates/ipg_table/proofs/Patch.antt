-- A row that passes others over is written after them.
use Rattle.std.proofs.Common.{◌≡◌, ℕ, ◌+◌, List, [], ◌∷◌, ◌++◌, length, sym, ap, ◌∙◌, arith, append_assoc, slice_set, Result, Ok, Err, OnOk}
use Rattle.std.proofs.lemmas.List.{length-append}
use Rattle.std.proofs.Math.Seq.{set-append_seam}
use Rattle.ipg_table.specs.declared.row.Op.{Op}
use Rattle.ipg_table.specs.declared.row.Op.TheVariants.{Cond, Else, Close}
use Rattle.ipg_table.specs.Code.{choice_code}

pub on_ok : {A B : Type 0} {P Q : Type 0} (r : Result A B) → (P → Q) → OnOk r P → OnOk r Q
on_ok (Ok a) f h = f h
on_ok (Err e) f h = tt

pub always_ok : {A B : Type 0} {P : Type 0} (r : Result A B) → P → OnOk r P
always_ok (Ok a) h = h
always_ok (Err e) h = tt

-- rows c0, a gap at n, a body and a closing row: the gap is filled by a row that is made of how many stand behind it
pub patch : (make : ℕ → Op) (c0 c1 c2 c3 body : List Op) (gap last : Op) (n behind : ℕ)
    → n ≡ length c0 → c1 ≡ c0 ++ gap ∷ [] → c2 ≡ c1 ++ body → behind + n ≡ length c2 → c3 ≡ c2 ++ last ∷ []
    → slice_set c3 n (make behind) ≡ c0 ++ make (length body + 1) ∷ (body ++ last ∷ [])
patch make c0 c1 c2 c3 body gap last n behind en e1 e2 eb e3 =
    let l1 = ap length e1 ∙ length-append c0 (gap ∷ []) in
    let l2 = ap length e2 ∙ length-append c1 body in
    let d : behind ≡ length body + 1 = omega arith in
    let all : c3 ≡ ((c0 ++ gap ∷ []) ++ body) ++ last ∷ [] = e3 ∙ ap (λ l. l ++ last ∷ []) (e2 ∙ ap (λ l. l ++ body) e1) in
    let flat : ((c0 ++ gap ∷ []) ++ body) ++ last ∷ [] ≡ c0 ++ gap ∷ (body ++ last ∷ []) = simp append_assoc in
    ap (λ l. slice_set l n (make behind)) (all ∙ flat)
    ∙ ap (λ k. slice_set (c0 ++ gap ∷ (body ++ last ∷ [])) k (make behind)) en
    ∙ set-append_seam c0 gap (body ++ last ∷ []) (make behind)
    ∙ ap (λ k. c0 ++ make k ∷ (body ++ last ∷ [])) d

-- the same behind rows that stood before
pub patch_behind : (make : ℕ → Op) (old first c0 c1 c2 c3 body : List Op) (gap last : Op) (n behind : ℕ)
    → c0 ≡ old ++ first → n ≡ length c0 → c1 ≡ c0 ++ gap ∷ [] → c2 ≡ c1 ++ body → behind + n ≡ length c2 → c3 ≡ c2 ++ last ∷ []
    → slice_set c3 n (make behind) ≡ old ++ (first ++ make (length body + 1) ∷ (body ++ last ∷ []))
patch_behind make old first c0 c1 c2 c3 body gap last n behind e0 en e1 e2 eb e3 =
    patch make c0 c1 c2 c3 body gap last n behind en e1 e2 eb e3
    ∙ ap (λ l. l ++ make (length body + 1) ∷ (body ++ last ∷ [])) e0
    ∙ append_assoc old first (make (length body + 1) ∷ (body ++ last ∷ []))

-- both gaps of a choice
pub patch_choice : (old c0 c1 c2 c3 c4 c5 rc ra rb : List Op) (first second skip other : ℕ)
    → c0 ≡ old ++ rc → first ≡ length c0 → c1 ≡ c0 ++ Close ∷ [] → c2 ≡ c1 ++ ra → second ≡ length c2
    → skip + first ≡ length c2 → c3 ≡ c2 ++ Close ∷ [] → c4 ≡ slice_set c3 first (Cond skip) ++ rb
    → other + second ≡ length c4 → c5 ≡ c4 ++ Close ∷ []
    → slice_set c5 second (Else other) ≡ old ++ choice_code rc ra rb
patch_choice old c0 c1 c2 c3 c4 c5 rc ra rb first second skip other e0 ef e1 e2 es ek e3 e4 eo e5 =
    let cond = Cond (length ra + 1) in
    let rest = Else (length rb + 1) ∷ (rb ++ Close ∷ []) in
    let l1 = ap length e1 ∙ length-append c0 (Close ∷ []) in
    let l2 = ap length e2 ∙ length-append c1 ra in
    let n : second ≡ length (c0 ++ cond ∷ ra) = omega (arith, length-append c0 (cond ∷ ra)) in
    let one = patch Cond c0 c1 c2 c3 ra Close Close first skip ef e1 e2 ek e3 ∙ sym (append_assoc c0 (cond ∷ ra) (Close ∷ [])) in
    patch Else (c0 ++ cond ∷ ra) (slice_set c3 first (Cond skip)) c4 c5 rb Close Close second other n one e4 eo e5
    ∙ append_assoc c0 (cond ∷ ra) rest
    ∙ ap (λ l. l ++ cond ∷ (ra ++ rest)) e0
    ∙ append_assoc old rc (cond ∷ (ra ++ rest))
