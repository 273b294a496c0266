-- The words that a reader has taken begin a text: the least steps that end it.
use Rattle.std.proofs.Common.{◌≡◌, ℕ, zero, suc, ◌+◌, ◌-◌, ◌^◌, ◌<◌, ◌≤◌, Bool, true, List, [], ◌∷◌, ◌++◌, length, replicate, refl, ap, ◌∙◌}
use Rattle.std.proofs.Common.{sym, subst, arith, append_assoc, append-nil, length-append, decimal, flat_map, true≢false, pos, negsuc}
use Rattle.std.specs.List.{AllByRecursion}
use Rattle.ipg_cert.specs.declared.pos.Need.{Need}
use Rattle.ipg_cert.specs.declared.pos.Need.TheVariants.{Count, Weight, Fact, Var, At, Choice, Parts}
use Rattle.ipg_cert.specs.declared.pos.Pos.{Pos}
use Rattle.ipg_cert.specs.declared.pos.Pos.TheVariants.{Letter, Gap, First, Minus, Digits, Ended}
use Rattle.ipg_cert.specs.declared.refutation.Step.{Step}
use Rattle.ipg_cert.specs.declared.refutation.Step.TheVariants.{Combine, Split, Either}
use Rattle.ipg_cert.specs.Words.{entry_words, step_words, spaced}
use Rattle.ipg_cert.specs.Texts.{parts_of, AreTrees, IsWord, IsSignedWord, IsEntry, IsInRange, Begins}
use Rattle.ipg_cert.specs.Reader.{may_be_negative, signed, State}
use Rattle.ipg_cert.proofs.Spelled.{IsAt, IsDue, IsFirst, IsNumber, IsSound, all_leaves, before, behind, counted, digits, digits_signed}
use Rattle.ipg_cert.proofs.Spelled.{first_due, gap_spelled, leaf, leaves_trees, not_negative, part, signed_range, words_split}

record Finish (entries : List (ℕ × ℕ)) (p : Pos) : Type 0 where
  pub step : Step
  pub rest : List ℕ
  pub words : step_words step ≡ part entries p ++ rest
  pub range : IsInRange step

abbrev ones : ℕ → List (ℕ × ℕ)
ones n = replicate n (1, 1)

one_word : IsWord 1
one_word = omega arith

all_ones : (n : ℕ) → AllByRecursion IsEntry (ones n)
all_ones zero = tt
all_ones (suc n) = ((one_word, one_word), all_ones n)

length_ones : (n : ℕ) → length (ones n) ≡ n
length_ones zero = refl
length_ones (suc n) = ap suc (length_ones n)

all_both : {A : Type 0} (P : A → Type 0) (xs ys : List A) → AllByRecursion P xs → AllByRecursion P ys → AllByRecursion P (xs ++ ys)
all_both P [] ys all more = more
all_both P (x ∷ xs) ys all more = (all.0, all_both P xs ys all.1 more)

flat_both : (es fs : List (ℕ × ℕ)) → flat_map entry_words (es ++ fs) ≡ flat_map entry_words es ++ flat_map entry_words fs
flat_both [] fs = refl
flat_both (e ∷ es) fs = ap (λ xs. entry_words e ++ xs) (flat_both es fs)
    ∙ sym (append_assoc (entry_words e) (flat_map entry_words es) (flat_map entry_words fs))

-- the entries so far, one at hand and 1s
module _ (es : List (ℕ × ℕ)) (l w f : ℕ) where
  abbrev filled : List (ℕ × ℕ)
  filled = es ++ (w, f) ∷ ones l

  filled_length : length es + suc l ≡ length filled
  filled_length = omega (arith, length-append es ((w, f) ∷ ones l), length_ones l)

  filled_words : step_words (Combine filled) ≡ before es (Weight (suc l)) ++ (decimal w ++ (32 ∷ (decimal f ++ flat_map entry_words (ones l))))
  filled_words =
      ap (λ k. 99 ∷ (32 ∷ (decimal k ++ flat_map entry_words filled))) (sym filled_length)
      ∙ ap (λ xs. 99 ∷ (32 ∷ (decimal (length es + suc l) ++ xs)))
      (flat_both es ((w, f) ∷ ones l) ∙ ap (λ xs. flat_map entry_words es ++ 32 ∷ xs)
      (append_assoc (decimal w) (32 ∷ decimal f) (flat_map entry_words (ones l))))
      ∙ ap (λ xs. 99 ∷ (32 ∷ xs))
      (sym (append_assoc (decimal (length es + suc l)) (flat_map entry_words es) (32 ∷ (decimal w ++ (32 ∷ (decimal f ++ flat_map entry_words (ones l)))))))
      ∙ ap (λ xs. 99 ∷ xs) (sym (append_assoc (counted (suc l) es) (32 ∷ []) (decimal w ++ (32 ∷ (decimal f ++ flat_map entry_words (ones l))))))

  -- the same after the weight
  filled_fact : step_words (Combine filled) ≡ before es (Fact (suc l) w) ++ (decimal f ++ flat_map entry_words (ones l))
  filled_fact =
      filled_words
      ∙ ap (λ xs. 99 ∷ xs) (append_assoc (counted (suc l) es) (32 ∷ []) (decimal w ++ (32 ∷ (decimal f ++ flat_map entry_words (ones l))))
      ∙ ap (λ xs. counted (suc l) es ++ 32 ∷ xs) (sym (append_assoc (decimal w) (32 ∷ []) (decimal f ++ flat_map entry_words (ones l))))
      ∙ sym (append_assoc (counted (suc l) es) (32 ∷ (decimal w ++ 32 ∷ [])) (decimal f ++ flat_map entry_words (ones l))))

  filled_range : AllByRecursion IsEntry es → IsWord (length es + suc l) → IsWord w → IsWord f → IsInRange (Combine filled)
  filled_range all count first second = (
    (let e : 1 ≤ length filled = omega (arith, filled_length) in e),
    subst IsWord filled_length count,
    all_both IsEntry es ((w, f) ∷ ones l) all ((first, second), all_ones l),
  )

leaf_range : IsInRange leaf
leaf_range = ((let e : 1 ≤ 1 = omega arith in e), one_word, ((one_word, one_word), tt))

zero_word : IsWord 0
zero_word = omega arith

zero_signed : IsSignedWord (pos 0)
zero_signed = omega arith

finish_number : (entries : List (ℕ × ℕ)) (need : Need) (negative : Bool) (v : ℕ) → AllByRecursion IsEntry entries → IsDue entries need
    → IsNumber need negative v
    → Finish entries (Digits (record { need = need; negative = negative; value = v }))
finish_number entries Count negative v all due number = record {
  step = Combine (ones v);
  rest = flat_map entry_words (ones v);
  words = ap (λ k. 99 ∷ 32 ∷ (decimal k ++ flat_map entry_words (ones v))) (length_ones v)
      ∙ ap (λ ds. 99 ∷ 32 ∷ (ds ++ flat_map entry_words (ones v))) (sym (not_negative Count negative v number refl));
  range = (
    (let e : 1 ≤ length (ones v) = omega (arith, length_ones v, number.some refl) in e),
    (let e : length (ones v) < 2 ^ 64 = omega (arith, length_ones v, number.small) in e),
    all_ones v,
  );
}
finish_number entries (Weight zero) negative v all due number = absurd (let e : ⊥ = omega (arith, due.0) in e)
finish_number entries (Weight (suc l)) negative v all due number = record {
  step = Combine (filled entries l v 1);
  rest = 32 ∷ (decimal 1 ++ flat_map entry_words (ones l));
  words = filled_words entries l v 1 ∙ sym (append_assoc (before entries (Weight (suc l))) (decimal v) (32 ∷ (decimal 1 ++ flat_map entry_words (ones l))))
      ∙ ap (λ ds. (before entries (Weight (suc l)) ++ ds) ++ (32 ∷ (decimal 1 ++ flat_map entry_words (ones l))))
      (sym (not_negative (Weight (suc l)) negative v number refl));
  range = filled_range entries l v 1 all due.1 (let e : v < 2 ^ 64 = omega (arith, number.small) in e) one_word;
}
finish_number entries (Fact zero weight) negative v all due number = absurd (let e : ⊥ = omega (arith, due.0) in e)
finish_number entries (Fact (suc l) weight) negative v all due number = record {
  step = Combine (filled entries l weight v);
  rest = flat_map entry_words (ones l);
  words = filled_fact entries l weight v ∙ sym (append_assoc (before entries (Fact (suc l) weight)) (decimal v) (flat_map entry_words (ones l)))
      ∙ ap (λ ds. (before entries (Fact (suc l) weight) ++ ds) ++ flat_map entry_words (ones l))
      (sym (not_negative (Fact (suc l) weight) negative v number refl));
  range = filled_range entries l weight v all due.1 due.2 (let e : v < 2 ^ 64 = omega (arith, number.small) in e);
}
finish_number entries Var negative v all due number = record {
  step = Split v (pos 0);
  rest = 32 ∷ decimal 0;
  words = ap (λ ds. 115 ∷ 32 ∷ (ds ++ 32 ∷ decimal 0)) (sym (not_negative Var negative v number refl));
  range = ((let e : v < 2 ^ 64 = omega (arith, number.small) in e), zero_signed);
}
finish_number entries (At var) negative v all due number = record {
  step = Split var (signed negative v);
  rest = [];
  words = ap (λ xs. 115 ∷ 32 ∷ xs) (ap (λ ds. decimal var ++ 32 ∷ ds) (sym (digits_signed negative v (λ e. (number.minus e).0)))
      ∙ sym (append_assoc (decimal var) (32 ∷ []) (digits negative v)))
      ∙ sym (append-nil (before entries (At var) ++ digits negative v));
  range = (due.1, signed_range var negative v (λ e. (number.minus e).0) number.small);
}
finish_number entries Choice negative v all due number = record {
  step = Either v 1;
  rest = 32 ∷ decimal 1;
  words = ap (λ ds. 101 ∷ 32 ∷ (ds ++ 32 ∷ decimal 1)) (sym (not_negative Choice negative v number refl));
  range = ((let e : v < 2 ^ 64 = omega (arith, number.small) in e), (let e : 1 ≤ 1 = omega arith in e), one_word);
}
finish_number entries (Parts fact) negative v all due number = record {
  step = Either fact v;
  rest = [];
  words = ap (λ xs. 101 ∷ 32 ∷ xs) (ap (λ ds. decimal fact ++ 32 ∷ ds) (sym (not_negative (Parts fact) negative v number refl))
      ∙ sym (append_assoc (decimal fact) (32 ∷ []) (digits negative v)))
      ∙ sym (append-nil (before entries (Parts fact) ++ digits negative v));
  range = (due.1, number.some refl, (let e : v < 2 ^ 64 = omega (arith, number.small) in e));
}

-- before a number, 1 or 0 is written
finish_first : (entries : List (ℕ × ℕ)) (need : Need) → AllByRecursion IsEntry entries → IsDue entries need → Finish entries (First need)
finish_first entries Count all due = record { step = leaf; rest = decimal 1 ++ flat_map entry_words (ones 1); words = refl; range = leaf_range }
finish_first entries (Weight zero) all due = absurd (let e : ⊥ = omega (arith, due.0) in e)
finish_first entries (Weight (suc l)) all due = record {
  step = Combine (filled entries l 1 1);
  rest = decimal 1 ++ (32 ∷ (decimal 1 ++ flat_map entry_words (ones l)));
  words = filled_words entries l 1 1;
  range = filled_range entries l 1 1 all due.1 one_word one_word;
}
finish_first entries (Fact zero weight) all due = absurd (let e : ⊥ = omega (arith, due.0) in e)
finish_first entries (Fact (suc l) weight) all due = record {
  step = Combine (filled entries l weight 1);
  rest = decimal 1 ++ flat_map entry_words (ones l);
  words = filled_fact entries l weight 1;
  range = filled_range entries l weight 1 all due.1 due.2 one_word;
}
finish_first entries Var all due = record { step = Split 0 (pos 0); rest = decimal 0 ++ 32 ∷ decimal 0; words = refl; range = (zero_word, zero_signed) }
finish_first entries (At var) all due = record {
  step = Split var (pos 0);
  rest = decimal 0;
  words = ap (λ xs. 115 ∷ 32 ∷ xs) (sym (append_assoc (decimal var) (32 ∷ []) (decimal 0)));
  range = (due.1, zero_signed);
}
finish_first entries Choice all due = record {
  step = Either 0 1;
  rest = decimal 0 ++ 32 ∷ decimal 1;
  words = refl;
  range = (zero_word, (let e : 1 ≤ 1 = omega arith in e), one_word);
}
finish_first entries (Parts fact) all due = record {
  step = Either fact 1;
  rest = decimal 1;
  words = ap (λ xs. 101 ∷ 32 ∷ xs) (sym (append_assoc (decimal fact) (32 ∷ []) (decimal 1)));
  range = (due.1, (let e : 1 ≤ 1 = omega arith in e), one_word);
}

finish_minus : (entries : List (ℕ × ℕ)) (need : Need) → IsDue entries need → may_be_negative need ≡ true → Finish entries (Minus need)
finish_minus entries Count due e = absurd (true≢false (sym e))
finish_minus entries (Weight left) due e = absurd (true≢false (sym e))
finish_minus entries (Fact left weight) due e = absurd (true≢false (sym e))
finish_minus entries Var due e = absurd (true≢false (sym e))
finish_minus entries (At var) due e = record {
  step = Split var (negsuc 0);
  rest = decimal 1;
  words = ap (λ xs. 115 ∷ 32 ∷ xs) (sym (append_assoc (decimal var) (32 ∷ []) (45 ∷ decimal 1)))
      ∙ sym (append_assoc (before entries (At var)) (45 ∷ []) (decimal 1));
  range = (due.1, (let f : 0 < 2 ^ 63 = omega arith in f));
}
finish_minus entries Choice due e = absurd (true≢false (sym e))
finish_minus entries (Parts fact) due e = absurd (true≢false (sym e))

finish_gap : (entries : List (ℕ × ℕ)) (need : Need) → AllByRecursion IsEntry entries → IsFirst need → entries ≡ [] → Finish entries (Gap need)
finish_gap entries need all f none =
    let rest = finish_first entries need all (first_due need entries f none) in
    record { step = rest.step; rest = 32 ∷ rest.rest; words = rest.words ∙ ap (λ xs. xs ++ rest.rest) (sym (gap_spelled need entries f)); range = rest.range }

finish : (entries : List (ℕ × ℕ)) (p : Pos) → AllByRecursion IsEntry entries → IsAt entries p → Finish entries p
finish entries Letter all at = record { step = leaf; rest = step_words leaf; words = refl; range = leaf_range }
finish entries (Gap need) all at = finish_gap entries need all at.0 at.1
finish entries (First need) all at = finish_first entries need all at
finish entries (Minus need) all at = finish_minus entries need at.0 at.1
finish entries (Digits n) all at = finish_number entries n.need n.negative n.value all at.0 at.1
finish entries Ended all at = absurd at

more_trees : (m : ℕ) (s : Step) (more : List Step) → 1 ≤ m → AreTrees (m - 1 + parts_of s) more → AreTrees m (s ∷ more)
more_trees zero s more some trees = absurd (let e : ⊥ = omega arith in e)
more_trees (suc m) s more some trees = subst (λ k. AreTrees k more) (let e : suc m - 1 + parts_of s ≡ m + parts_of s = omega arith in e) trees

leaves_range : (n : ℕ) → AllByRecursion IsInRange (replicate n leaf)
leaves_range zero = tt
leaves_range (suc n) = (leaf_range, leaves_range n)

first_byte : (xs : List ℕ) → (b : ℕ) × (rest : List ℕ) × (xs ++ 10 ∷ [] ≡ b ∷ rest)
first_byte [] = (10, [], refl)
first_byte (x ∷ xs) = (x, xs ++ 10 ∷ [], refl)

pub sound_begins : (st : State) (words : List ℕ) → IsSound st words → Begins words
sound_begins st words sound =
    let f = finish st.entries st.pos sound.entries sound.at in
    let n = st.open_trees - 1 + parts_of f.step in
    let more = replicate n leaf in
    let tail = f.rest ++ flat_map spaced more in
    let (b, rest, is) = first_byte tail in (
      st.made ++ f.step ∷ more,
      b,
      rest,
      record {
        tree = leaves_trees 1 st.made st.open_trees (f.step ∷ more) sound.trees (more_trees st.open_trees f.step more sound.some (all_leaves n));
        ranges = all_both IsInRange st.made (f.step ∷ more) sound.ranges (f.range, leaves_range n);
        words =
            ap (λ xs. words ++ xs) (sym is)
            ∙ sym (append_assoc words tail (10 ∷ []))
            ∙ ap (λ ws. (ws ++ tail) ++ 10 ∷ []) sound.spelled
            ∙ ap (λ xs. xs ++ 10 ∷ []) (append_assoc (behind st.made) (part st.entries st.pos) tail
            ∙ ap (λ xs. behind st.made ++ xs)
            (sym (append_assoc (part st.entries st.pos) f.rest (flat_map spaced more)) ∙ ap (λ xs. xs ++ flat_map spaced more) (sym f.words))
            ∙ sym (words_split st.made f.step more));
      },
    )
