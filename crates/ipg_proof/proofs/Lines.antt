-- Lines: a refutation's words hold no line feed, so no line begins another.
use Rattle.std.proofs.Common.{◌≡◌, ◌≢◌, ℕ, suc, ◌+◌, ◌-◌, ◌^◌, ◌≤◌, ◌<◌, List, [], ◌∷◌, ◌++◌, length, take, drop, get_or, length-drop, decimal, refl}
use Rattle.std.proofs.Common.{sym, ap, ◌∙◌, subst, arith, append_assoc, ℤ, pos, negsuc, Ok, Err}
use Rattle.std.specs.Fmt.{signed_decimal}
use Rattle.std.specs.List.{AllByRecursion, flat_map}
use Rattle.std.proofs.Math.Seq.{drop-append_seam}
use Rattle.std.proofs.lemmas.List.{take-append-drop, take_more, drop_more}
use Rattle.ipg_cert.specs.declared.refutation.Refutation.{Refutation}
use Rattle.ipg_cert.specs.declared.refutation.Step.{Step}
use Rattle.ipg_cert.specs.declared.refutation.Step.TheVariants.{Combine, Split, Either}
use Rattle.ipg_cert.specs.declared.words.WordFault.TheVariants.{At as FaultAt, Memory as WordMemory}
use Rattle.ipg_cert.specs.Words.{number_word, entry_words, step_words, spaced, words_of}
use Rattle.ipg_cert.specs.Texts as cert
use Rattle.ipg_cert.specs.Texts.{IsWord, IsSignedWord, IsEntry, IsInRange}
use Rattle.ipg_proof.specs.declared.cursor.Stall.TheVariants.{Here}
use Rattle.ipg_proof.specs.Texts.{number_text, refutation_line, edge_line, cycle_line, counted_text, IsShort, IsTree, IsEdgeEntry, IsCycleEntry}
use Rattle.ipg_proof.specs.Reads.{Reads, Stops, AreAlone}
use Rattle.ipg_proof.proofs.Readers.{heads, tails}
use Rattle.ipg_proof.proofs.Lists.{all_join, all_weaker}
use Rattle.ipg_proof.proofs.Digits.{all_digits}

-- no line feed
abbrev pub Plain : List ℕ → Type 0
Plain bytes = AllByRecursion (λ b. b ≢ 10) bytes

plain_decimal : (n : ℕ) → n < 2 ^ 64 → Plain (decimal n)
plain_decimal n small = all_weaker (λ b. (48 ≤ b) × (b ≤ 57)) (λ b. b ≢ 10) (λ b d e. let s : ⊥ = omega (arith, d.0, e) in s) (decimal n) (all_digits n small)

plain_number : (n : ℕ) → IsWord n → Plain (number_word n)
plain_number n small = ((λ e. let s : ⊥ = omega (arith, e) in s), plain_decimal n small)

plain_join : (xs ys : List ℕ) → Plain xs → Plain ys → Plain (xs ++ ys)
plain_join xs ys h k = all_join (λ b. b ≢ 10) xs ys h k

plain_entries : (entries : List (ℕ × ℕ)) → AllByRecursion IsEntry entries → Plain (flat_map entry_words entries)
plain_entries [] all = tt
plain_entries (e ∷ entries) all =
    plain_join (entry_words e) (flat_map entry_words entries) (plain_join (number_word e.0) (number_word e.1) (plain_number e.0 all.0.0)
    (plain_number e.1 all.0.1)) (plain_entries entries all.1)

plain_signed : (z : ℤ) → IsSignedWord z → Plain (signed_decimal z)
plain_signed (pos n) small = plain_decimal n (omega (arith, small))
plain_signed (negsuc n) small = ((λ e. let s : ⊥ = omega (arith, e) in s), plain_decimal (suc n) (omega (arith, small)))

plain_step : (step : Step) → IsInRange step → Plain (step_words step)
plain_step (Combine entries) is = (
  (λ e. let s : ⊥ = omega (arith, e) in s),
  plain_join (number_word (length entries)) (flat_map entry_words entries) (plain_number (length entries) is.1) (plain_entries entries is.2),
)
plain_step (Split x at) is = (
  (λ e. let s : ⊥ = omega (arith, e) in s),
  plain_join (number_word x) (32 ∷ signed_decimal at) (plain_number x is.0) ((λ e. let s : ⊥ = omega (arith, e) in s), plain_signed at is.1),
)
plain_step (Either fact parts) is = (
  (λ e. let s : ⊥ = omega (arith, e) in s),
  plain_join (number_word fact) (number_word parts) (plain_number fact is.0) (plain_number parts is.2),
)

plain_spaced : (steps : List Step) → AllByRecursion IsInRange steps → Plain (flat_map spaced steps)
plain_spaced [] all = tt
plain_spaced (step ∷ steps) all =
    plain_join (spaced step) (flat_map spaced steps) ((λ e. let s : ⊥ = omega (arith, e) in s), plain_step step all.0) (plain_spaced steps all.1)

plain_words : (steps : List Step) → AllByRecursion IsInRange steps → Plain (words_of steps)
plain_words [] all = tt
plain_words (step ∷ steps) all = plain_join (step_words step) (flat_map spaced steps) (plain_step step all.0) (plain_spaced steps all.1)

-- two texts that end by their first line feed
ended_alone : (u v more : List ℕ) → Plain u → Plain v → v ++ 10 ∷ [] ≡ (u ++ 10 ∷ []) ++ more → more ≡ []
ended_alone [] [] more h k e = sym (tails 10 10 [] more e)
ended_alone [] (y ∷ v) more h k e = absurd (k.0 (heads y 10 (v ++ 10 ∷ []) more e))
ended_alone (x ∷ u) [] more h k e = absurd (h.0 (sym (heads 10 x [] ((u ++ 10 ∷ []) ++ more) e)))
ended_alone (x ∷ u) (y ∷ v) more h k e = ended_alone u v more h.1 k.1 (tails y x (v ++ 10 ∷ []) ((u ++ 10 ∷ []) ++ more) e)

plain_text : (n : ℕ) → IsShort n → Plain (number_text 32 n)
plain_text n small = plain_join (decimal n) (32 ∷ []) (plain_decimal n (omega (arith, small))) ((λ e. let s : ⊥ = omega (arith, e) in s), tt)

plain_numbers : (ns : List ℕ) → AllByRecursion IsShort ns → Plain (flat_map (number_text 32) ns)
plain_numbers [] all = tt
plain_numbers (n ∷ ns) all = plain_join (number_text 32 n) (flat_map (number_text 32) ns) (plain_text n all.0) (plain_numbers ns all.1)

-- a line is what stands before its line feed, and that
line_is : (front : List ℕ) (r : Refutation) → front ++ refutation_line r ≡ (front ++ words_of r.steps) ++ 10 ∷ []
line_is front r = sym (append_assoc front (words_of r.steps) (10 ∷ []))

lines_alone : (a b more : List ℕ) (r q : Refutation) → Plain a → Plain b → IsTree r → IsTree q
    → b ++ refutation_line q ≡ (a ++ refutation_line r) ++ more → more ≡ []
lines_alone a b more r q ha hb hr hq e = ended_alone (a ++ words_of r.steps) (b ++ words_of q.steps) more
    (plain_join a (words_of r.steps) ha (plain_words r.steps hr.ranges)) (plain_join b (words_of q.steps) hb (plain_words q.steps hq.ranges))
    (sym (line_is b q) ∙ e ∙ ap (λ l. l ++ more) (line_is a r))

pub alone_edge_line : AreAlone IsEdgeEntry edge_line
alone_edge_line a b more is also e = lines_alone (number_text 32 a.0) (number_text 32 b.0) more a.1 b.1 (plain_text a.0 is.0) (plain_text b.0 also.0)
    is.1 also.1 e

plain_cycle : (es : List ℕ) → IsShort (length es) → AllByRecursion IsShort es → Plain (counted_text 32 (number_text 32) es)
plain_cycle es few all = plain_join (number_text 32 (length es)) (flat_map (number_text 32) es) (plain_text (length es) few) (plain_numbers es all)

pub alone_cycle_line : AreAlone IsCycleEntry cycle_line
alone_cycle_line a b more is also e =
    lines_alone (counted_text 32 (number_text 32) a.0) (counted_text 32 (number_text 32) b.0) more a.1 b.1
    (plain_cycle a.0 is.1.0 is.1.1) (plain_cycle b.0 also.1.0 also.1.1) is.2 also.2 e

-- ---- a refutation

pub leaf : Refutation
leaf = record { steps = Combine ((1, 1) ∷ []) ∷ [] }

pub leaf_tree : IsTree leaf
unfolding leaf
leaf_tree = record {
  tree = refl;
  ranges = (
    (
      (let s : 1 ≤ 1 = omega arith in s),
      (let s : 1 < 2 ^ 64 = omega arith in s),
      (((let s : 1 < 2 ^ 64 = omega arith in s), (let s : 1 < 2 ^ 64 = omega arith in s)), tt),
    ),
    tt,
  );
}

text_is : (r : Refutation) → IsTree r → cert.IsTextOf r.steps (refutation_line r)
text_is r is = record { tree = is.tree; ranges = is.ranges; words = refl }

abbrev pub ReadsBack : List ℕ → (List Step → ℕ → Type 0) → Type 0
ReadsBack text Answers = (steps : List Step) (words rest : List ℕ) → cert.IsTextOf steps words → drop 0 text ≡ words ++ rest → Answers steps (0 + length words)

pub refutation_there : (text : List ℕ) (r : Refutation) (to : ℕ) → cert.IsTextAt text 0 r.steps to
    → ReadsBack text (λ steps end. (r.steps ≡ steps) × (to ≡ end)) → Reads IsTree refutation_line text (drop to text) (Ok r)
refutation_there text r to is again = record {
  says = record {
    is = record { tree = is.is.tree; ranges = is.is.ranges };
    splits = sym (take-append-drop to text) ∙ ap (λ l. l ++ drop to text) (ap (λ k. take k text) (let s : to ≡ to - 0 = omega arith in s) ∙ is.is.words);
  };
  back = λ a rest tree e.
      let both = again a.steps (refutation_line a) rest (text_is a tree) e in
      let size : to ≡ length (refutation_line a) = omega (arith, both.1) in (
        ap (λ steps. record { steps = steps }) both.0,
        ap (λ k. drop k text) size ∙ ap (drop (length (refutation_line a))) e
            ∙ drop-append_seam (refutation_line a) rest,
      );
}

one_more : (text : List ℕ) (n x : ℕ) (l : List ℕ) → drop n text ≡ x ∷ l → (n < length text) × (take (n + 1) text ≡ take n text ++ x ∷ [])
one_more text n x l e =
    let within : n < length text = omega (arith, length-drop n text, ap length e) in
    let at : get_or text n x ≡ x = heads (get_or text n x) x (drop (n + 1) text) l (sym (drop_more text n x within) ∙ e) in
    (within, take_more text n x within ∙ ap (λ y. take n text ++ y ∷ []) at)

pub refutation_stuck : (text : List ℕ) (place : ℕ) → cert.IsFaultFrom text 0 place → ReadsBack text (λ steps end. ⊥)
    → Reads IsTree refutation_line text (drop place text) (Err Here)
refutation_stuck text place is never = record {
  says = record {
    taken = take place text;
    splits = sym (take-append-drop place text);
    begins =
        let (steps, b, rest, t) = subst (λ k. cert.Begins (take k text)) same is.is.before in
        (record { steps = steps }, record { tree = t.tree; ranges = t.ranges }, b ∷ rest, sym t.words);
    stops = stops (drop place text) refl;
  };
  back = λ a rest tree e. absurd (never a.steps (refutation_line a) rest (text_is a tree) e);
}
  where
    same : is.taken ≡ place
    same = let s : is.taken ≡ place = omega (arith, is.place_is) in s

    stops : (l : List ℕ) → drop place text ≡ l → Stops IsTree refutation_line (take place text) l
    stops [] e = tt
    stops (x ∷ l) e = λ on.
        let more = one_more text place x l e in
        let there = subst (λ k. k < length text → ¬ cert.GoesOn (take (k + 1) text)) same is.is.there in
        there more.0 (
          on.0.steps,
          on.2,
          record {
            tree = on.1.tree;
            ranges = on.1.ranges;
            words = ap (λ w. w ++ on.2) more.1 ∙ sym on.3;
          },
        )

pub at_is_no_memory : (n : ℕ) → FaultAt n ≡ WordMemory → ⊥
at_is_no_memory n e = cc
