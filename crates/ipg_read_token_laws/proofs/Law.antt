-- The longest is taken: what is taken is spelled, what is spelled is no longer, and nothing else may be taken.
use Rattle.std.proofs.Common.{◌≡◌, ℕ, zero, suc, ◌^◌, ◌≤◌, ◌<◌, List, [], take, refl, ap, ◌∙◌, subst, arith, inl, inr}
use Rattle.std.specs.Prelude.{pos}
use Rattle.std.proofs.lemmas.Bool.{cases_lt, ltb-true}
use Rattle.ipg_ast.specs.declared.token.TokenKind.{TokenKind}
use Rattle.ipg_ast.specs.declared.token.TokenKind.TheVariants.{Number}
use Rattle.ipg_read_tokens.specs.declared.front.Front.{Front}
use Rattle.ipg_read_tokens.specs.declared.front.Front.TheVariants.{Nothing, Blank, Large, Token as Begins}
use Rattle.ipg_read_tokens.specs.Lexical.{front_of}
use Rattle.ipg_read_tokens.specs.Shaped.{IsToken}
use Rattle.ipg_read_token_laws.specs.Forms.{Spells, IsSpelled, IsBlank, NoneBeyond, IsLongest, Taken, TakesTheLongest}
use Rattle.ipg_read_token_laws.proofs.Taken.{IsSound, sound}
use Rattle.ipg_read_token_laws.proofs.Reached.{token_width, blank_width, no_token_past, no_blank_past}
use Rattle.ipg_read_token_laws.proofs.One.{one, never_empty}

longest : (f : Front) (bs : List ℕ) → IsSound f bs
    → NoneBeyond IsSpelled (token_width f) bs → NoneBeyond IsBlank (blank_width f) bs → Taken f bs
longest Nothing bs is no_token no_blank = (no_blank, no_token)
longest (Blank n) bs (fits, is) no_token no_blank = ((fits, is, no_blank), no_token)
longest (Large n) bs (fits, (v, numeral, large)) no_token no_blank =
    ((fits, (Number (pos v), numeral), no_token), (v, numeral, large))
longest (Begins kind n) bs (fits, spells, token) no_token no_blank = ((fits, (kind, spells), no_token), spells, token)

taken : (bs : List ℕ) → Taken (front_of bs) bs
taken bs = longest (front_of bs) bs (sound bs) (no_token_past bs) (no_blank_past bs)

-- ---- and nothing else

no_longer : (Is : List ℕ → Type 0) (n m : ℕ) (bs : List ℕ) → NoneBeyond Is n bs → IsLongest Is m bs → m ≤ n
no_longer Is n m bs none (fits, is, far) = elim (cases_lt n m) [ inl more ↦ absurd (none m more fits is) | inr few ↦ few ]

same_width : (Is : List ℕ → Type 0) (n m : ℕ) (bs : List ℕ) → IsLongest Is n bs → IsLongest Is m bs → n ≡ m
same_width Is n m bs first second =
    let few : n ≤ m = no_longer Is m n bs second.2 first in
    let many : m ≤ n = no_longer Is n m bs first.2 second in
    omega arith

some_bytes : (Is : List ℕ → Type 0) (n : ℕ) (bs : List ℕ) → (Is [] → ⊥) → IsLongest Is n bs → 0 < n
some_bytes Is zero bs some (fits, is, far) = absurd (some is)
some_bytes Is (suc n) bs some longest = omega arith

pub some_token : (n : ℕ) (bs : List ℕ) → IsLongest IsSpelled n bs → 0 < n
some_token n bs = some_bytes IsSpelled n bs (λ s. never_empty s.0 s.1)

pub some_blank : (n : ℕ) (bs : List ℕ) → IsLongest IsBlank n bs → 0 < n
some_blank n bs = some_bytes IsBlank n bs (λ s. elim s [ inl white ↦ white.0 refl | inr comment ↦ cc ])

no_token : (n : ℕ) (bs : List ℕ) → NoneBeyond IsSpelled 0 bs → IsLongest IsSpelled n bs → ⊥
no_token n bs none longest = none n (some_token n bs longest) longest.0 longest.1

no_blank : (n : ℕ) (bs : List ℕ) → NoneBeyond IsBlank 0 bs → IsLongest IsBlank n bs → ⊥
no_blank n bs none longest = none n (some_blank n bs longest) longest.0 longest.1

not_large : (n m : ℕ) (kind : TokenKind) (bs : List ℕ) → Taken (Large n) bs → Taken (Begins kind m) bs → ⊥
not_large n m kind bs (first, (v, numeral, large)) (second, spells, token) =
    let width : m ≡ n = same_width IsSpelled m n bs second first in
    let is : kind ≡ Number (pos v) =
    one (take n bs) kind (Number (pos v)) (subst (λ k. Spells kind (take k bs)) width spells) numeral in
    let small : v < 2 ^ 63 = ltb-true v (2 ^ 63) (subst IsToken is token) in
    omega arith

same : (f g : Front) (bs : List ℕ) → Taken f bs → Taken g bs → f ≡ g
same Nothing Nothing bs t u = refl
same Nothing (Blank m) bs t u = absurd (no_blank m bs t.0 u.0)
same Nothing (Large m) bs t u = absurd (no_token m bs t.1 u.0)
same Nothing (Begins k m) bs t u = absurd (no_token m bs t.1 u.0)
same (Blank n) Nothing bs t u = absurd (no_blank n bs u.0 t.0)
same (Blank n) (Blank m) bs t u = ap Blank (same_width IsBlank n m bs t.0 u.0)
same (Blank n) (Large m) bs t u = absurd (no_token m bs t.1 u.0)
same (Blank n) (Begins k m) bs t u = absurd (no_token m bs t.1 u.0)
same (Large n) Nothing bs t u = absurd (no_token n bs u.1 t.0)
same (Large n) (Blank m) bs t u = absurd (no_token n bs u.1 t.0)
same (Large n) (Large m) bs t u = ap Large (same_width IsSpelled n m bs t.0 u.0)
same (Large n) (Begins k m) bs t u = absurd (not_large n m k bs t u)
same (Begins k n) Nothing bs t u = absurd (no_token n bs u.1 t.0)
same (Begins k n) (Blank m) bs t u = absurd (no_token n bs u.1 t.0)
same (Begins k n) (Large m) bs t u = absurd (not_large m n k bs u t)
same (Begins k n) (Begins l m) bs t u =
    let width : n ≡ m = same_width IsSpelled n m bs t.0 u.0 in
    let kinds : k ≡ l = one (take m bs) k l (subst (λ i. Spells k (take i bs)) width t.1) u.1 in
    ap (Begins k) width ∙ ap (λ kind. Begins kind m) kinds

pub law : TakesTheLongest
law bs front = (λ is. subst (λ f. Taken f bs) is (taken bs), λ other. same (front_of bs) front bs (taken bs) other)
