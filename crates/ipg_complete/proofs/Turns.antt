-- One more item at a time: of what a list of items is made into, and of completed terms.
use Rattle.std.proofs.Common.{◌≡◌, ℕ, suc, ◌+◌, refl, sym, ap, subst, ◌∙◌, arith, List, [], ◌∷◌, ◌++◌, append-nil, map, length}
use Rattle.ipg_core.specs.declared.grammar.CoreExpr.{CoreExpr}
use Rattle.ipg_core.specs.declared.grammar.CoreTerm.{CoreTerm}
use Rattle.ipg_names.specs.declared.named.NamedTerm.{NamedTerm}
use Rattle.ipg_complete.specs.Completion.{left_at_first, behind, term_of, terms_from}
use Rattle.ipg_complete.proofs.Terms.{as_many}

map_more : {X Y : Type 0} (f : X → Y) (xs : List X) (x : X) → map f (xs ++ x ∷ []) ≡ map f xs ++ f x ∷ []
map_more f [] x = refl
map_more f (y ∷ xs) x = ap (λ ys. f y ∷ ys) (map_more f xs x)

pub map_turn : {X Y : Type 0} (f : X → Y) (xs : List X) (x : X) (made : List Y) (y : Y) → made ≡ map f xs → y ≡ f x → made ++ y ∷ [] ≡ map f (xs ++ x ∷ [])
map_turn f xs x made y is one = ap (λ ms. ms ++ y ∷ []) is ∙ ap (λ z. map f xs ++ z ∷ []) one ∙ sym (map_more f xs x)

-- where nothing is left, all items have come
pub all_came : {X : Type 0} (came left all : List X) (count : ℕ) → came ++ left ≡ all → count ≡ length left → count ≡ 0 → came ≡ all
all_came came [] all count is many none = sym (append-nil came) ∙ is
all_came came (x ∷ left) all count is many none = absurd (omega (arith, many, none))

-- the `left` behind all of the terms
abbrev pub left_past : ℕ → CoreExpr → List NamedTerm → CoreExpr
left_past u left [] = left
left_past u left (t ∷ ts) = left_past (u + 1) (behind u left (term_of left t)) ts

terms_more : (u : ℕ) (left : CoreExpr) (ts : List NamedTerm) (t : NamedTerm)
    → terms_from u left (ts ++ t ∷ []) ≡ terms_from u left ts ++ term_of (left_past u left ts) t ∷ []
terms_more u left [] t = refl
terms_more u left (x ∷ ts) t = ap (λ ys. term_of left x ∷ ys) (terms_more (u + 1) (behind u left (term_of left x)) ts t)

left_more : (u : ℕ) (left : CoreExpr) (ts : List NamedTerm) (t : NamedTerm)
    → left_past u left (ts ++ t ∷ []) ≡ behind (u + length ts) (left_past u left ts) (term_of (left_past u left ts) t)
left_more u left [] t = ap (λ k. behind k left (term_of left t)) (let z : u ≡ u + 0 = omega arith in z)
left_more u left (x ∷ ts) t =
    let next = behind u left (term_of left x) in
    left_more (u + 1) next ts t
    ∙ ap (λ k. behind k (left_past (u + 1) next ts) (term_of (left_past (u + 1) next ts) t))
    (let z : u + 1 + length ts ≡ u + suc (length ts) = omega arith in z)

-- the terms so far, and the `left` behind them
pub record AreDone (ts : List NamedTerm) (left : CoreExpr) (made : List CoreTerm) : Type 0 where
  pub made_is : made ≡ terms_from 0 left_at_first ts
  pub left_is : left ≡ left_past 0 left_at_first ts

pub so_many_done : (ts : List NamedTerm) (left : CoreExpr) (made : List CoreTerm) → AreDone ts left made → length made ≡ length ts
so_many_done ts left made h = ap length h.made_is ∙ as_many 0 left_at_first ts

pub none_done : AreDone [] left_at_first []
none_done = record { made_is = refl; left_is = refl }

pub one_done : (ts : List NamedTerm) (left : CoreExpr) (made : List CoreTerm) (t : NamedTerm) (number : ℕ) (term : CoreTerm) (next : CoreExpr)
    → AreDone ts left made
    → number ≡ 0 + length ts → term ≡ term_of left t → next ≡ behind number left term → AreDone (ts ++ t ∷ []) next (made ++ term ∷ [])
one_done ts left made t number term next h count is moved =
    let past = left_past 0 left_at_first ts in
    let same : term ≡ term_of past t = is ∙ ap (λ l. term_of l t) h.left_is in
    record {
      made_is = ap (λ ms. ms ++ term ∷ []) h.made_is ∙ ap (λ x. terms_from 0 left_at_first ts ++ x ∷ []) same ∙ sym (terms_more 0 left_at_first ts t);
      left_is = moved ∙ ap (λ k. behind k left term) count ∙ ap (λ l. behind (0 + length ts) l term) h.left_is ∙ ap (behind (0 + length ts) past) same
          ∙ sym (left_more 0 left_at_first ts t);
    }
