-- How often a walk can go on at most, whatever stands in the store, over levels of any kind: a number that each step lowers.
use Rattle.std.specs.Prelude.{◌≡◌, ℕ, suc, ◌+◌, ◌-◌, ◌*◌, ◌^◌, ◌<◌, ◌≤◌, List, [], ◌∷◌, length}
use Rattle.std.proofs.Common.{ap, ◌∙◌, arith, inl, inr, add-one}
use Rattle.std.proofs.lemmas.Bool.{cases_lt}
use Rattle.std.proofs.Math.Nat.{one-le-pow, pow-succ', suc-mul}

-- more than any level has rows
abbrev pub wide : ℕ
wide = 2 ^ 65

-- a row of a level stands for all steps of the levels that it can be followed by; left: how many rows a level has left
abbrev pub steps_by : {L : Type 0} → (L → ℕ) → ℕ → List L → ℕ
steps_by left room [] = 0
steps_by left room (level ∷ around) = (left level + 1) * wide ^ (room - length around) + steps_by left room around

-- a row fewer, and all that can follow it
fewer : (p x y s e : ℕ) → y ≡ wide * x → 1 ≤ x → e ≤ (2 ^ 64 + 1) * x + (p + s) → e < p + y + s
fewer p x y s e is pos le = omega arith

one_more : (a y : ℕ) → (a + 1) * y ≡ a * y + y
one_more a y = ap (λ n. n * y) (add-one a) ∙ suc-mul a y

one_back : (room n : ℕ) → n < room → wide ^ (room - n) ≡ wide * wide ^ (room - suc n)
one_back room n h = let e : room - n ≡ suc (room - suc n) = omega arith in ap (λ k. wide ^ k) e ∙ pow-succ' wide (room - suc n)

pub some_steps : (k : ℕ) → 1 ≤ wide ^ k
some_steps k = one-le-pow k wide (omega arith)

module _ {L : Type 0} (left : L → ℕ) where
  abbrev steps : ℕ → List L → ℕ
  steps = steps_by left

  module _ (room : ℕ) (around : List L) (level rest : L) (is : left level ≡ left rest + 1) where
    -- the steps of a level, apart from those that its first row stands for
    level_steps : steps room (level ∷ around) ≡ (left rest + 1) * wide ^ (room - length around) + wide ^ (room - length around) + steps room around
    level_steps =
        ap (λ n. (n + 1) * wide ^ (room - length around) + steps room around) is
        ∙ ap (λ n. n + steps room around) (one_more (left rest + 1) (wide ^ (room - length around)))

    put_back : (levels : List L) → levels ≡ rest ∷ around → steps room levels < steps room (level ∷ around)
    put_back levels same =
        let y = some_steps (room - length around) in
        let e : steps room levels ≡ (left rest + 1) * wide ^ (room - length around) + steps room around = ap (steps room) same in
        let all = level_steps in
        omega (arith, y, e, all)

    put_into : (pushed levels : List L) → pushed ≡ rest ∷ around → length around < room
        → steps room levels ≤ (2 ^ 64 + 1) * wide ^ (room - length pushed) + steps room pushed
        → steps room levels < steps room (level ∷ around)
    put_into pushed levels same lt le =
        let x = some_steps (room - suc (length around)) in
        let y = one_back room (length around) lt in
        let e : steps room pushed ≡ (left rest + 1) * wide ^ (room - length around) + steps room around = ap (steps room) same in
        let all = level_steps in
        let long = ap (λ ls. wide ^ (room - length ls)) same in
        omega (arith, x, y, e, all, long, le)

    falls_by : (pushed levels : List L) → pushed ≡ rest ∷ around → (room ≤ length pushed → levels ≡ pushed)
        → (length pushed < room → steps room levels ≤ (2 ^ 64 + 1) * wide ^ (room - length pushed) + steps room pushed)
        → steps room levels < steps room (level ∷ around)
    falls_by pushed levels put kept enter = elim (cases_lt (length pushed) room) [
      | inl less ↦ put_into pushed levels put (let long = ap length put in omega (arith, long)) (enter less)
      | inr ge ↦
          put_back levels (kept ge ∙ put)
    ]

    -- the level goes on behind its first row, and perhaps into what that names
    pub falls : (there then : ℕ) (pushed entered : List L) → there ≡ room → then ≡ there → pushed ≡ rest ∷ around
        → (there ≤ length pushed → entered ≡ pushed)
        → (length pushed < there → steps then entered ≤ (2 ^ 64 + 1) * wide ^ (there - length pushed) + steps there pushed)
        → steps then entered < steps room (level ∷ around)
    falls there then pushed entered same also put kept enter =
        let e = ap (λ r. steps r entered) (also ∙ same) in
        let bound = ap (λ r. (2 ^ 64 + 1) * wide ^ (r - length pushed) + steps r pushed) same in
        let less = falls_by pushed entered put (λ h. kept (omega arith)) (λ lt. let le = enter (omega arith) in omega (arith, e, bound, le)) in
        omega (arith, e, less)

  -- without the innermost level there are no more steps
  pub fewer_around : (other room : ℕ) (levels around : List L) (level : L) (n : ℕ) → other ≡ room → levels ≡ level ∷ around
      → steps room levels ≤ n → steps other around ≤ n
  fewer_around other room levels around level n same is le =
      let e = ap (λ r. steps r around) same in
      let all = ap (steps room) is in
      omega (arith, e, all, le)
