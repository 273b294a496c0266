-- A file holds a grammar with a certificate that proves it, or has a first fault.
use Rattle.std.proofs.Common.{◌≡◌, ℕ, zero, suc, ◌+◌, ◌<◌, ◌≤◌, ◌^◌, inl, inr, get_or, refl, sym, ap, ◌∙◌, subst, arith, List, [], ◌∷◌, ◌++◌, length}
use Rattle.std.proofs.Common.{take, drop, Some, Result, Ok, Err}
use Rattle.std.specs.Prelude.{codes, decimal}
use Rattle.std.proofs.lemmas.List.{drop-drop, take-append-drop, length-take-le}
use Rattle.std.proofs.lemmas.Nat.{le_bytes_8}
use Rattle.ipg_outside.specs.Files.{AreBytes}
use Rattle.ipg_core.specs.Grammar.{Grammar}
use Rattle.ipg_core.specs.Good.{Good}
use Rattle.ipg_reader.specs.Laws.{HasCount, long_text}
use Rattle.ipg_proof.specs.declared.certificate.Certificate.{Certificate}
use Rattle.ipg_proof.specs.Proves.{Proves}
use Rattle.ipg_proof.specs.Texts.{IsTextOf}
use Rattle.ipg_store_adopt.specs.Adopted.{IsGrammarOf}
use Rattle.ipg_store_body.specs.declared.body.Body.{Body}
use Rattle.ipg_store_body.specs.Fits.{IsBody, bare}
use Rattle.ipg_store.specs.declared.fault.LoadFault.{LoadFault}
use Rattle.ipg_store.specs.declared.fault.LoadFault.TheVariants.{Magic, Length, Body as OfBody, NotGood, CertText, Proof}
use Rattle.ipg_store.specs.File.{magic, file_with, body_of, Holds}
use Rattle.ipg_store.specs.Faults.{Begins, announced, behind, body_in, proof_in, IsWhole, IsLoadFault}
use Rattle.ipg_app_text.specs.Said.{Said, bad_proof}
use Rattle.ipg_app_grammar.specs.Tables.{load_said, Loads}
use Rattle.ipg_app_reply_laws.proofs.Classical.{Somehow, some, ◌>>=◌, by, middle}
use Rattle.ipg_app_reply_laws.proofs.Judging.{judged}
use Rattle.ipg_app_reply_laws.proofs.Limits.{inside_or}
use Rattle.ipg_app_reply_laws.proofs.Texts.{reads_body, reads_certificate}

-- ---- a whole file is put together of its parts

small_at : (bytes : List ℕ) → AreBytes bytes → (i : ℕ) → get_or bytes i 0 < 256
small_at [] h i = omega arith
small_at (b ∷ bytes) h zero = h.0
small_at (b ∷ bytes) h (suc i) = small_at bytes h.1 i

bytes_front : (n : ℕ) (xs : List ℕ) → AreBytes xs → AreBytes (take n xs)
bytes_front zero xs h = tt
bytes_front (suc n) [] h = tt
bytes_front (suc n) (x ∷ xs) h = (h.0, bytes_front n xs h.1)

bytes_back : (n : ℕ) (xs : List ℕ) → AreBytes xs → AreBytes (drop n xs)
bytes_back zero xs h = h
bytes_back (suc n) [] h = tt
bytes_back (suc n) (x ∷ xs) h = bytes_back n xs h.1

length_dropped : (n : ℕ) (xs : List ℕ) → length xs ≤ n + length (drop n xs)
length_dropped zero xs = omega arith
length_dropped (suc n) [] = omega arith
length_dropped (suc n) (x ∷ xs) = let rest = length_dropped n xs in omega (arith, rest)

dropped_short : (n : ℕ) (xs : List ℕ) → length (drop n xs) ≤ length xs
dropped_short zero xs = omega arith
dropped_short (suc n) [] = omega arith
dropped_short (suc n) (x ∷ xs) = let rest = dropped_short n xs in omega (arith, rest)

module _ (file : List ℕ) (bytes : AreBytes file) (within : length file ≤ 2 ^ 30) where
  body_long : IsWhole file → length (body_in file) ≡ announced file
  body_long whole = length-take-le (announced file) (behind file) whole.enough

  together : IsWhole file → file ≡ file_with (body_in file) (proof_in file)
  together whole =
      let size = whole.size in
      let room : 8 ≤ length (drop 8 file) = let l = length_dropped 8 file in omega (arith, l, size) in
      let said : long_text (length (body_in file)) ≡ take 8 (drop 8 file) =
      ap long_text (body_long whole) ∙ le_bytes_8 (take 8 (drop 8 file)) (announced file) (length-take-le 8 (drop 8 file) room)
      (small_at (take 8 (drop 8 file)) (bytes_front 8 (drop 8 file) (bytes_back 8 file bytes))) refl in
      sym (take-append-drop 8 file) ∙ ap (λ xs. xs ++ drop 8 file) whole.begins
      ∙ ap (λ xs. magic ++ xs) (sym (take-append-drop 8 (drop 8 file)) ∙ ap (λ xs. xs ++ drop 8 (drop 8 file)) (sym said)
      ∙ ap (λ xs. long_text (length (body_in file)) ++ xs) (drop-drop 8 8 file ∙ sym (take-append-drop (announced file) (behind file))))

  counted : IsWhole file → HasCount (body_in file)
  counted whole =
      let long = body_long whole in
      let enough = whole.enough in
      let short = dropped_short 16 file in
      omega (arith, long, enough, short, within)

  held : (g : Grammar) (c : Certificate) → IsWhole file → Good g → IsBody (bare g) (body_in file) → IsTextOf c (proof_in file) → Proves g c → Holds file g c
  held g c whole good of text proves = record {
    good = good;
    fits = of.0;
    counted = subst HasCount of.1 (counted whole);
    speakable = text.0;
    proves = proves;
    is = together whole ∙ ap (λ b. file_with b (proof_in file)) of.1 ∙ ap (file_with (body_of g)) text.1;
  }

  -- ---- the first fault

  abbrev Answered : Type 0
  Answered = (r : Result Grammar Said) × Loads file r

  at_fault : (fault : LoadFault) (said : Said) → load_said fault ≡ Some said → IsLoadFault file fault → Somehow Answered
  at_fault fault said is holds = some (Err said, record { fault = fault; holds = holds; is = is })

  by_certificate : IsWhole file → (g : Grammar) → Good g → IsBody (bare g) (body_in file) → (c : Certificate) → IsTextOf c (proof_in file) → Somehow Answered
  by_certificate whole g good of c text = do
    judged ← judged g c
    by judged (λ proves. some (Ok g, (c, held g c whole good of text proves)))
        (λ why. at_fault (Proof why.0) (bad_proof (codes "L6 Proof " ++ decimal why.0)) refl (whole, (g, (good, of), (c, text, why.1))))

  by_grammar : IsWhole file → (g : Grammar) → Good g → IsBody (bare g) (body_in file) → Somehow Answered
  by_grammar whole g good of = do
    read ← reads_certificate (proof_in file)
    by read (λ c. by_certificate whole g good of c.0 c.1)
        (λ at. at_fault (CertText at.0) (bad_proof (codes "L5 CertText " ++ decimal at.0)) refl (whole, (g, (good, of)), at.1))

  by_body : IsWhole file → (b : Body) → IsBody b (body_in file) → Somehow Answered
  by_body whole b is = do
    found ← middle ((g : Grammar) × IsGrammarOf b g)
    by found (λ one. by_grammar whole one.0 one.1.0 (subst (λ x. IsBody x (body_in file)) (sym one.1.1) is))
        (λ none. at_fault NotGood (bad_proof (codes "L4 NotGood")) refl (whole, (b, is, λ g of. none (g, of))))

  by_parts : IsWhole file → Somehow Answered
  by_parts whole = do
    read ← reads_body (body_in file)
    by read (λ b. by_body whole b.0 (b.1, b.2))
        (λ at. at_fault (OfBody at.0) (bad_proof (codes "L3 Body " ++ decimal at.0)) refl (whole, at.1))

  by_length : Begins file → Somehow Answered
  by_length begins =
      by (inside_or 16 (length file)) (λ less. at_fault Length (bad_proof (codes "L2 Length")) refl (begins, inl less))
      (λ size. by (inside_or (announced file) (length (behind file))) (λ less. at_fault Length (bad_proof (codes "L2 Length")) refl (begins, inr less))
      (λ enough. by_parts (record { begins = begins; size = size; enough = enough })))

  pub loads : Somehow Answered
  loads = do
    begins ← middle (Begins file)
    by begins by_length (λ not. at_fault Magic (bad_proof (codes "L1 Magic")) refl not)
