-- The parts of a file that was put together of them.
use Rattle.std.proofs.Common.{◌≡◌, ℕ, zero, suc, ◌+◌, get_or, ◌<◌, ◌≤◌, List, [], ◌∷◌, ◌++◌, take, drop, length, refl, sym, ap, subst, ◌∙◌, arith}
use Rattle.std.specs.Int.{w64, from_le_bytes}
use Rattle.std.proofs.lemmas.List.{take_at, drop_at, length-append, drop-drop, take-append-drop, length-take-le}
use Rattle.std.proofs.lemmas.Nat.{from_le_bytes-to_le_bytes_8, le_bytes_8}
use Rattle.ipg_reader.specs.Laws.{HasCount, long_text}
use Rattle.ipg_store.specs.File.{magic, file_with}
use Rattle.ipg_store.specs.Faults.{announced, behind, body_in, proof_in, IsWhole}

pub record Opened (file body proof : List ℕ) : Type 0 where
  pub whole : IsWhole file
  pub body_is : body_in file ≡ body
  pub proof_is : proof_in file ≡ proof

count_size : (n : ℕ) → length (long_text n) ≡ 8
count_size n = refl

module _ (body proof : List ℕ) (counted : HasCount body) where
  abbrev file : List ℕ
  file = file_with body proof

  abbrev count : List ℕ
  count = long_text (length body)

  first : take 8 file ≡ magic
  first = take_at magic (count ++ (body ++ proof)) 8 refl

  second : drop 8 file ≡ count ++ (body ++ proof)
  second = drop_at magic (count ++ (body ++ proof)) 8 refl

  number : announced file ≡ length body
  number =
      ap (λ bytes. from_le_bytes w64 (take 8 bytes)) second
      ∙ ap (from_le_bytes w64) (take_at count (body ++ proof) 8 (count_size (length body)))
      ∙ from_le_bytes-to_le_bytes_8 (length body) counted

  others : behind file ≡ body ++ proof
  others = sym (drop-drop 8 8 file) ∙ ap (drop 8) second ∙ drop_at count (body ++ proof) 8 (count_size (length body))

  size : length file ≡ 16 + (length body + length proof)
  size =
      let a = length-append magic (count ++ (body ++ proof)) in
      let b = length-append count (body ++ proof) in
      let c = length-append body proof in
      let d = count_size (length body) in
      let e : length magic ≡ 8 = refl in
      omega arith

  opened_parts : Opened file body proof
  opened_parts = record {
    whole = record {
      begins = first;
      size = let s = size in omega arith;
      enough = let n = number in
          let o = ap length others ∙ length-append body proof in
          omega arith;
    };
    body_is = ap (λ n. take n (behind file)) number ∙ ap (take (length body)) others ∙ take_at body proof (length body) refl;
    proof_is = ap (λ n. drop n (behind file)) number ∙ ap (drop (length body)) others ∙ drop_at body proof (length body) refl;
  }

pub opened : (whole body proof : List ℕ) → HasCount body → whole ≡ file_with body proof → Opened whole body proof
opened whole body proof counted is = subst (λ f. Opened f body proof) (sym is) (opened_parts body proof counted)

-- ---- a file is put together of its parts

small_front : (n : ℕ) (xs : List ℕ) → ((i : ℕ) → get_or xs i 0 < 256) → (i : ℕ) → get_or (take n xs) i 0 < 256
small_front zero xs small i = omega arith
small_front (suc n) [] small i = omega arith
small_front (suc n) (x ∷ xs) small zero = small 0
small_front (suc n) (x ∷ xs) small (suc i) = small_front n xs (λ j. small (suc j)) i

small_back : (n : ℕ) (xs : List ℕ) → ((i : ℕ) → get_or xs i 0 < 256) → (i : ℕ) → get_or (drop n xs) i 0 < 256
small_back zero xs small i = small i
small_back (suc n) [] small i = omega arith
small_back (suc n) (x ∷ xs) small i = small_back n xs (λ j. small (suc j)) i

pub put_together : (whole count body proof : List ℕ) (n : ℕ) → ((i : ℕ) → get_or whole i 0 < 256) → take 8 whole ≡ magic → count ≡ take 8 (drop 8 whole)
    → 8 ≤ length (drop 8 whole) → n ≡ from_le_bytes w64 count → length body ≡ n → drop 8 (drop 8 whole) ≡ body ++ proof → whole ≡ file_with body proof
put_together whole count body proof n small begins is size number many parts =
    let sized : length count ≡ 8 = ap length is ∙ length-take-le 8 (drop 8 whole) size in
    let bytes : (i : ℕ) → get_or count i 0 < 256 =
    subst (λ bs. (i : ℕ) → get_or bs i 0 < 256) (sym is) (small_front 8 (drop 8 whole) (small_back 8 whole small)) in
    let said : long_text (length body) ≡ count = ap long_text many ∙ le_bytes_8 count n sized bytes number in
    sym (take-append-drop 8 whole) ∙ ap (λ xs. xs ++ drop 8 whole) begins
    ∙ ap (λ xs. magic ++ xs)
    (sym (take-append-drop 8 (drop 8 whole)) ∙ ap (λ xs. xs ++ drop 8 (drop 8 whole)) (sym is ∙ sym said) ∙ ap (λ xs. long_text (length body) ++ xs) parts)
