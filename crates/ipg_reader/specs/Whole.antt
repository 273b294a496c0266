-- What an exact reader says of all bytes.
use Rattle.std.specs.Prelude.{◌≡◌, ℕ, ◌+◌, ◌-◌, ◌<◌, ◌≤◌, List, [], ◌∷◌, ◌++◌, length, take, Result, Ok, Err, MatchResult}
use Rattle.std.proofs.Common.{refl, sym, ap, subst, ◌∙◌, append_assoc, append-nil, length-append, add-sub_cancel, le-add_right, lt_irrefl}
use Rattle.std.proofs.lemmas.List.{take_at}
use Rattle.ipg_reader.specs.Faults.{Continues, IsFirstFault}
use Rattle.ipg_reader.specs.Found.{Found, whole_of}
use Rattle.ipg_reader.specs.Exact.{AreBytes, Stays, IsStuck, IsAnswer, IsExact}
use Rattle.ipg_reader.specs.Steadily.{joined, no_error}
use Rattle.ipg_reader.specs.Chains.{same_found}

module _ {A : Type 0} (Is : A → Type 0) (spell : A → List ℕ) (read : List ℕ → Found A) (exact : IsExact Is spell read) where
  -- what is settled of all bytes: the value that they spell, or the first byte at fault
  abbrev pub IsSettled : List ℕ → Result A ℕ → Type 0
  IsSettled text settled = MatchResult settled (λ a. Is a × (text ≡ spell a)) (IsFirstFault Is spell text)

  front : (xs ys : List ℕ) → AreBytes (xs ++ ys) → AreBytes xs
  front [] ys are = tt
  front (x ∷ xs) ys are = (are.0, front xs ys are.1)

  -- the bytes before a fault, by its place
  place : (taken left : List ℕ) → length (taken ++ left) - length left ≡ length taken
  place taken left = ap (λ n. n - length left) (length-append taken left) ∙ add-sub_cancel (length taken) (length left)

  inside : (taken left : List ℕ) → length taken ≤ length (taken ++ left)
  inside taken left = subst (λ n. length taken ≤ n) (sym (length-append taken left)) (le-add_right (length taken) (length left))

  -- no spelling goes on with the byte at fault
  stops : (taken left : List ℕ) → Stays read taken left → length taken < length (taken ++ left)
      → ¬ Continues Is spell (take (length taken + 1) (taken ++ left))
  stops taken [] stays less more = absurd (lt_irrefl (length taken) (subst (λ xs. length taken < length xs) (append-nil taken) less))
  stops taken (b ∷ left) stays less (a, rest, is, e) =
      let whole : taken ++ b ∷ left ≡ (taken ++ b ∷ []) ++ left = sym (append_assoc taken (b ∷ []) left) in
      let cut : take (length taken + 1) (taken ++ b ∷ left) ≡ taken ++ b ∷ [] =
      ap (take (length taken + 1)) whole ∙ take_at (taken ++ b ∷ []) left (length taken + 1) (length-append taken (b ∷ [])) in
      let spelled : spell a ++ [] ≡ taken ++ b ∷ rest = append-nil (spell a) ∙ e ∙ ap (λ xs. xs ++ rest) cut ∙ append_assoc taken (b ∷ []) rest in
      no_error (b ∷ rest) (a, []) (sym (stays rest) ∙ ap read (sym spelled) ∙ exact.again a [] is)

  module _ (text : List ℕ) (are : AreBytes text) where
    stuck : (left : List ℕ) → read text ≡ Err left → IsStuck read text left → IsFirstFault Is spell text (length text - length left)
    stuck left found s =
        let at : length text - length left ≡ length s.taken = ap (λ t. length t - length left) s.splits ∙ place s.taken left in
        let taken_are = front s.taken left (subst AreBytes s.splits are) in
        let told = exact.sound (s.taken ++ s.others) [] s.value (joined s.taken s.others taken_are s.are_bytes) s.found in
        subst (IsFirstFault Is spell text) (sym at) (record {
          within = subst (λ t. length s.taken ≤ length t) (sym s.splits) (inside s.taken left);
          before = (
            s.value,
            s.others,
            told.0,
            sym (append-nil (spell s.value)) ∙ sym told.1
                ∙ ap (λ t. t ++ s.others) (sym (ap (take (length s.taken)) s.splits ∙ take_at s.taken left (length s.taken) refl)),
          );
          there = subst (λ t. length s.taken < length t → ¬ Continues Is spell (take (length s.taken + 1) t)) (sym s.splits)
              (stops s.taken left s.stays);
          ends = λ a is e. no_error left (a, []) (sym found ∙ ap read (e ∙ sym (append-nil (spell a))) ∙ exact.again a [] is);
        })

    -- a value, and bytes behind it
    early : (a : A) (b : ℕ) (left : List ℕ) → Is a → text ≡ spell a ++ b ∷ left → IsFirstFault Is spell text (length text - length (b ∷ left))
    early a b left is splits =
        let at : length text - length (b ∷ left) ≡ length (spell a) = ap (λ t. length t - length (b ∷ left)) splits ∙ place (spell a) (b ∷ left) in
        subst (IsFirstFault Is spell text) (sym at) (record {
          within = subst (λ t. length (spell a) ≤ length t) (sym splits) (inside (spell a) (b ∷ left));
          before = (
            a,
            [],
            is,
            sym (append-nil (spell a))
                ∙ ap (λ t. t ++ []) (sym (ap (take (length (spell a))) splits ∙ take_at (spell a) (b ∷ left) (length (spell a)) refl)),
          );
          there = λ less more. subst (λ t. ¬ Continues Is spell (take (length (spell a) + 1) t)) (sym splits) (other a b left is) more;
          ends = λ c is_c e.
              no_rest b left (ap (λ x. x.1) (same_found (a, b ∷ left) (c, [])
              (sym (exact.again a (b ∷ left) is) ∙ ap read (sym splits ∙ e ∙ sym (append-nil (spell c))) ∙ exact.again c [] is_c)));
        })
      where
        no_rest : (c : ℕ) (rest : List ℕ) → c ∷ rest ≡ [] → ⊥
        no_rest c rest h = subst is_some h tt
          where
            is_some : List ℕ → Type 0
            is_some [] = ⊥
            is_some (d ∷ ds) = Unit {0}

        other : (c : A) (d : ℕ) (rest : List ℕ) → Is c → ¬ Continues Is spell (take (length (spell c) + 1) (spell c ++ d ∷ rest))
        other c d rest is_c (x, more, is_x, e) =
            let whole : spell c ++ d ∷ rest ≡ (spell c ++ d ∷ []) ++ rest = sym (append_assoc (spell c) (d ∷ []) rest) in
            let cut : take (length (spell c) + 1) (spell c ++ d ∷ rest) ≡ spell c ++ d ∷ [] =
            ap (take (length (spell c) + 1)) whole ∙ take_at (spell c ++ d ∷ []) rest (length (spell c) + 1) (length-append (spell c) (d ∷ [])) in
            let spelled : spell x ++ [] ≡ spell c ++ d ∷ more =
            append-nil (spell x) ∙ e ∙ ap (λ xs. xs ++ more) cut ∙ append_assoc (spell c) (d ∷ []) more in
            no_rest d more (ap (λ y. y.1) (same_found (c, d ∷ more) (x, [])
            (sym (exact.again c (d ∷ more) is_c) ∙ ap read (sym spelled) ∙ exact.again x [] is_x)))

    settles : (o : Found A) → read text ≡ o → IsAnswer read text o → IsSettled text (whole_of text o)
    settles (Ok (a, [])) found t =
        let told = exact.sound text [] a are found in (told.0, told.1 ∙ append-nil (spell a))
    settles (Ok (a, b ∷ left)) found t = let told = exact.sound text (b ∷ left) a are found in early a b left told.0 told.1
    settles (Err left) found s = stuck left found s

    pub settled : IsSettled text (whole_of text (read text))
    settled = settles (read text) refl (exact.steady.each text)

    -- what is spelled is found
    pub settled_back : (a : A) → Is a → text ≡ spell a → whole_of text (read text) ≡ Ok a
    settled_back a is e = ap (whole_of text) (ap read (e ∙ sym (append-nil (spell a))) ∙ exact.again a [] is)
