-- A file has one answer.
use Rattle.std.proofs.Common.{◌≡◌, ℕ, ◌<◌, List, Result, Ok, Err, ◌⊎◌, inl, inr, refl, sym, ap, subst, arith}
use Rattle.std.proofs.lemmas.Bool.{cases_order}
use Rattle.ipg_core.specs.Grammar.{Grammar}
use Rattle.ipg_order.specs.Laws.{OrdersOnce}
use Rattle.ipg_store_body.specs.declared.body.Body.{Body}
use Rattle.ipg_store_body.specs.Fits.{FitsBody, IsBody, bare, spelled}
use Rattle.ipg_store_body.specs.Laws.{BodyIsOfOne}
use Rattle.ipg_store_adopt.specs.Adopted.{grammar_in}
use Rattle.ipg_proof.specs.declared.certificate.Certificate.{Certificate}
use Rattle.ipg_proof.specs.declared.fault.ProofWhy.TheVariants as why
use Rattle.ipg_proof.specs.Proves.{Proves}
use Rattle.ipg_proof.specs.Once.{ProvesIsNoFault, FaultIsOne, TextIsOfOne}
use Rattle.ipg_proof.specs.Texts.{IsTextOf}
use Rattle.ipg_store.specs.declared.fault.LoadFault.{LoadFault}
use Rattle.ipg_store.specs.declared.fault.LoadFault.TheVariants.{Magic, Length, Body as OfBody, NotGood, CertText, Proof, Memory}
use Rattle.ipg_store.specs.File.{Holds, body_of}
use Rattle.ipg_store.specs.Faults.{Begins, IsCut, IsWhole, body_in, proof_in, IsGrammarIn, IsOfNone, IsUnproved, FailsAt, IsLoadFault, IsAnswer}
use Rattle.ipg_store.proofs.Firsts.{one_fault, one_text_fault}
use Rattle.ipg_store.proofs.Opened.{opened}

-- what a file that holds a grammar has in it
pub record Has (file : List ℕ) (g : Grammar) (c : Certificate) : Type 0 where
  pub whole : IsWhole file
  pub grammar : IsGrammarIn (body_in file) g
  pub text : IsTextOf c (proof_in file)
  pub proves : Proves g c

pub has : (file : List ℕ) (g : Grammar) (c : Certificate) → Holds file g c → Has file g c
has file g c h =
    let o = opened file (body_of g) _ h.counted h.is in
    record {
      whole = o.whole;
      grammar = (h.good, (h.fits, o.body_is));
      text = (h.speakable, o.proof_is);
      proves = h.proves;
    }

-- ---- a whole file isn't cut

not_cut : (file : List ℕ) → IsCut file → IsWhole file → ⊥
not_cut file (inl short) whole = let s = whole.size in omega arith
not_cut file (inr less) whole = let e = whole.enough in omega arith

-- ---- the number of the answer in their order

abbrev rank : Result Grammar LoadFault → ℕ
rank (Err Magic) = 0
rank (Err Length) = 1
rank (Err (OfBody at)) = 2
rank (Err NotGood) = 3
rank (Err (CertText at)) = 4
rank (Err (Proof at)) = 5
rank (Ok g) = 6
rank (Err Memory) = 7

module _ (body_is : BodyIsOfOne) (orders : OrdersOnce) (text_is : TextIsOfOne) (no_fault : ProvesIsNoFault) (one_why : FaultIsOne) (file : List ℕ) where
  abbrev body : List ℕ
  body = body_in file

  abbrev proof : List ℕ
  proof = proof_in file

  -- ---- of a body

  of_one : (g h : Grammar) → IsGrammarIn body g → IsGrammarIn body h → g ≡ h
  of_one g h is_g is_h =
      let same = body_is body (bare g) (bare h) is_g.1 is_h.1 in
      orders g h is_g.0 is_h.0 (ap grammar_in same)

  none_and_one : (g : Grammar) → IsOfNone body → IsGrammarIn body g → ⊥
  none_and_one g none is = none.2 g (is.0, body_is body (bare g) none.0 is.1 none.1)

  -- ---- of a certificate

  fails_not : (g h : Grammar) (c : Certificate) (at : ℕ) → IsGrammarIn body g → FailsAt g proof at → IsGrammarIn body h → IsTextOf c proof → Proves h c → ⊥
  fails_not g h c at is_g fails is_h text proves =
      by fails.2
    where
      same : g ≡ h
      same = of_one g h is_g is_h

      there : Proves g fails.0
      there = subst (Proves g) (text_is proof c fails.0 text fails.1) (subst (λ x. Proves x c) (sym same) proves)

      by : IsUnproved g fails.0 at → ⊥
      by (inl f) = let e = no_fault g fails.0 (why.Mismatch at) there f in absurd (cc)
      by (inr f) = let e = no_fault g fails.0 (why.Unsound at) there f in absurd (cc)

  same_place : (g : Grammar) (c : Certificate) (at to : ℕ) → IsUnproved g c at → IsUnproved g c to → at ≡ to
  same_place g c at to (inl one) (inl other) = by (one_why g c (why.Mismatch at) (why.Mismatch to) one other)
    where
      by : (why.Mismatch at ≡ why.Memory) ⊎ (why.Mismatch to ≡ why.Memory) ⊎ (why.Mismatch at ≡ why.Mismatch to) → at ≡ to
      by (inl e) = absurd (cc)
      by (inr (inl e)) = absurd (cc)
      by (inr (inr e)) = cc
  same_place g c at to (inl one) (inr other) = by (one_why g c (why.Mismatch at) (why.Unsound to) one other)
    where
      by : (why.Mismatch at ≡ why.Memory) ⊎ (why.Unsound to ≡ why.Memory) ⊎ (why.Mismatch at ≡ why.Unsound to) → at ≡ to
      by (inl e) = absurd (cc)
      by (inr (inl e)) = absurd (cc)
      by (inr (inr e)) = absurd (cc)
  same_place g c at to (inr one) (inl other) = by (one_why g c (why.Unsound at) (why.Mismatch to) one other)
    where
      by : (why.Unsound at ≡ why.Memory) ⊎ (why.Mismatch to ≡ why.Memory) ⊎ (why.Unsound at ≡ why.Mismatch to) → at ≡ to
      by (inl e) = absurd (cc)
      by (inr (inl e)) = absurd (cc)
      by (inr (inr e)) = absurd (cc)
  same_place g c at to (inr one) (inr other) = by (one_why g c (why.Unsound at) (why.Unsound to) one other)
    where
      by : (why.Unsound at ≡ why.Memory) ⊎ (why.Unsound to ≡ why.Memory) ⊎ (why.Unsound at ≡ why.Unsound to) → at ≡ to
      by (inl e) = absurd (cc)
      by (inr (inl e)) = absurd (cc)
      by (inr (inr e)) = cc

  one_proof_fault : (g h : Grammar) (at to : ℕ) → IsGrammarIn body g → FailsAt g proof at → IsGrammarIn body h → FailsAt h proof to → at ≡ to
  one_proof_fault g h at to is_g one is_h other =
      same_place g one.0 at to one.2
      (subst (λ x. IsUnproved x one.0 to) (sym (of_one g h is_g is_h))
      (subst (λ c. IsUnproved h c to) (text_is proof other.0 one.0 other.1 one.1) other.2))

  -- ---- an answer, and one behind it

  begins : (a : Result Grammar LoadFault) → 0 < rank a → rank a < 7 → IsAnswer file a → Begins file
  begins (Err Length) some less is = is.0
  begins (Err (OfBody at)) some less is = is.0.begins
  begins (Err NotGood) some less is = is.0.begins
  begins (Err (CertText at)) some less is = is.0.begins
  begins (Err (Proof at)) some less is = is.0.begins
  begins (Ok g) some less is = (has file g is.0 is.1).whole.begins
  begins (Err Magic) some less is = absurd (omega arith)
  begins (Err Memory) some less is = absurd (omega arith)

  whole : (a : Result Grammar LoadFault) → 1 < rank a → rank a < 7 → IsAnswer file a → IsWhole file
  whole (Err (OfBody at)) some less is = is.0
  whole (Err NotGood) some less is = is.0
  whole (Err (CertText at)) some less is = is.0
  whole (Err (Proof at)) some less is = is.0
  whole (Ok g) some less is = (has file g is.0 is.1).whole
  whole (Err Magic) some less is = absurd (omega arith)
  whole (Err Length) some less is = absurd (omega arith)
  whole (Err Memory) some less is = absurd (omega arith)

  is_body : (a : Result Grammar LoadFault) → 2 < rank a → rank a < 7 → IsAnswer file a → (b : Body) × IsBody b body
  is_body (Err NotGood) some less is = (is.1.0, is.1.1)
  is_body (Err (CertText at)) some less is = (bare is.1.0, is.1.1.1)
  is_body (Err (Proof at)) some less is = (bare is.1.0, is.1.1.1)
  is_body (Ok g) some less is = (bare g, (has file g is.0 is.1).grammar.1)
  is_body (Err Magic) some less is = absurd (omega arith)
  is_body (Err Length) some less is = absurd (omega arith)
  is_body (Err (OfBody at)) some less is = absurd (omega arith)
  is_body (Err Memory) some less is = absurd (omega arith)

  is_grammar : (a : Result Grammar LoadFault) → 3 < rank a → rank a < 7 → IsAnswer file a → (g : Grammar) × IsGrammarIn body g
  is_grammar (Err (CertText at)) some less is = is.1
  is_grammar (Err (Proof at)) some less is = (is.1.0, is.1.1)
  is_grammar (Ok g) some less is = (g, (has file g is.0 is.1).grammar)
  is_grammar (Err Magic) some less is = absurd (omega arith)
  is_grammar (Err Length) some less is = absurd (omega arith)
  is_grammar (Err (OfBody at)) some less is = absurd (omega arith)
  is_grammar (Err NotGood) some less is = absurd (omega arith)
  is_grammar (Err Memory) some less is = absurd (omega arith)

  is_text : (a : Result Grammar LoadFault) → 4 < rank a → rank a < 7 → IsAnswer file a → (c : Certificate) × IsTextOf c proof
  is_text (Err (Proof at)) some less is = (is.1.2.0, is.1.2.1)
  is_text (Ok g) some less is = (is.0, (has file g is.0 is.1).text)
  is_text (Err Magic) some less is = absurd (omega arith)
  is_text (Err Length) some less is = absurd (omega arith)
  is_text (Err (OfBody at)) some less is = absurd (omega arith)
  is_text (Err NotGood) some less is = absurd (omega arith)
  is_text (Err (CertText at)) some less is = absurd (omega arith)
  is_text (Err Memory) some less is = absurd (omega arith)

  no_later : (a b : Result Grammar LoadFault) → rank a < rank b → rank b < 7 → IsAnswer file a → IsAnswer file b → ⊥
  no_later (Err Magic) b less known is_a is_b = is_a (begins b less known is_b)
  no_later (Err Length) b less known is_a is_b = not_cut file is_a.1 (whole b less known is_b)
  no_later (Err (OfBody at)) b less known is_a is_b =
      let k = is_body b less known is_b in
      is_a.1.ends k.0 k.1.0 k.1.1
  no_later (Err NotGood) b less known is_a is_b =
      let k = is_grammar b less known is_b in
      none_and_one k.0 is_a.1 k.1
  no_later (Err (CertText at)) b less known is_a is_b =
      let k = is_text b less known is_b in
      is_a.2.ends k.0 k.1
  no_later (Err (Proof at)) (Ok h) less known is_a is_b =
      let k = has file h is_b.0 is_b.1 in
      fails_not is_a.1.0 h is_b.0 at is_a.1.1 is_a.1.2 k.grammar k.text k.proves
  no_later (Err (Proof at)) (Err Magic) less known is_a is_b = omega arith
  no_later (Err (Proof at)) (Err Length) less known is_a is_b = omega arith
  no_later (Err (Proof at)) (Err (OfBody to)) less known is_a is_b = omega arith
  no_later (Err (Proof at)) (Err NotGood) less known is_a is_b = omega arith
  no_later (Err (Proof at)) (Err (CertText to)) less known is_a is_b = omega arith
  no_later (Err (Proof at)) (Err (Proof to)) less known is_a is_b = omega arith
  no_later (Err (Proof at)) (Err Memory) less known is_a is_b = omega arith
  no_later (Ok g) b less known is_a is_b = omega arith
  no_later (Err Memory) b less known is_a is_b = omega arith

  -- ---- two answers of one rank

  alike_faults : (f k : LoadFault) → rank (Err f) ≡ rank (Err k) → IsLoadFault file f → IsLoadFault file k → f ≡ k
  alike_faults Magic Magic same is_f is_k = refl
  alike_faults Length Length same is_f is_k = refl
  alike_faults (OfBody at) (OfBody to) same is_f is_k = ap OfBody (one_fault FitsBody spelled body at to is_f.1 is_k.1)
  alike_faults NotGood NotGood same is_f is_k = refl
  alike_faults (CertText at) (CertText to) same is_f is_k = ap CertText (one_text_fault proof at to is_f.2 is_k.2)
  alike_faults (Proof at) (Proof to) same is_f is_k = ap Proof (one_proof_fault is_f.1.0 is_k.1.0 at to is_f.1.1 is_f.1.2 is_k.1.1 is_k.1.2)
  alike_faults Memory Memory same is_f is_k = refl
  alike_faults _ _ same is_f is_k = absurd (omega arith)

  no_grammar : (f : LoadFault) → rank (Err f) ≡ 6 → ⊥
  no_grammar Magic same = omega arith
  no_grammar Length same = omega arith
  no_grammar (OfBody at) same = omega arith
  no_grammar NotGood same = omega arith
  no_grammar (CertText at) same = omega arith
  no_grammar (Proof at) same = omega arith
  no_grammar Memory same = omega arith

  alike : (a b : Result Grammar LoadFault) → rank a ≡ rank b → IsAnswer file a → IsAnswer file b → a ≡ b
  alike (Ok g) (Ok h) same is_a is_b = ap Ok (of_one g h (has file g is_a.0 is_a.1).grammar (has file h is_b.0 is_b.1).grammar)
  alike (Err f) (Err k) same is_a is_b = ap Err (alike_faults f k same is_a is_b)
  alike (Ok g) (Err k) same is_a is_b = absurd (no_grammar k (sym same))
  alike (Err f) (Ok h) same is_a is_b = absurd (no_grammar f same)

  known : (a : Result Grammar LoadFault) → (a ≡ Err Memory) ⊎ (rank a < 7)
  known (Err Magic) = inr (omega arith)
  known (Err Length) = inr (omega arith)
  known (Err (OfBody at)) = inr (omega arith)
  known (Err NotGood) = inr (omega arith)
  known (Err (CertText at)) = inr (omega arith)
  known (Err (Proof at)) = inr (omega arith)
  known (Ok g) = inr (omega arith)
  known (Err Memory) = inl refl

  abbrev IsSame : Result Grammar LoadFault → Result Grammar LoadFault → Type 0
  IsSame a b = (a ≡ Err Memory) ⊎ (b ≡ Err Memory) ⊎ (a ≡ b)

  pub once : (a b : Result Grammar LoadFault) → IsAnswer file a → IsAnswer file b → IsSame a b
  once a b is_a is_b = elim (known a) as (λ _. IsSame a b) [
    | inl none ↦ inl none
    | inr a_known ↦ elim (known b) as (λ _. IsSame a b) [
      | inl none ↦ inr (inl none)
      | inr b_known ↦ elim (cases_order (rank a) (rank b)) as (λ _. IsSame a b) [
        | inl same ↦ inr (inr (alike a b same is_a is_b))
        | inr differ ↦ elim differ as (λ _. IsSame a b) [
          | inl less ↦ absurd (no_later a b less b_known is_a is_b)
          | inr more ↦ absurd (no_later b a more a_known is_b is_a)
        ]
      ]
    ]
  ]
