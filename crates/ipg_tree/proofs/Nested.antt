-- The JSON text of a tree is that of its visits, one by one.
use Rattle.std.proofs.Common.{◌≡◌, ℕ, zero, suc, ◌+◌, ◌-◌, ◌≤◌, ◌<◌, List, [], ◌∷◌, ◌++◌, refl, sym, ap, ◌∙◌, append_assoc, append-nil, arith, true, false}
use Rattle.std.specs.Prelude.{nat_le, if◌then◌else◌, ⊤}
use Rattle.std.proofs.lemmas.Bool.{le-leb}
use Rattle.std.proofs.lemmas.Bool.Decides.{nat_tests}
use Rattle.ipg_core.specs.Grammar.{Grammar}
use Rattle.ipg_core.specs.Tree as tree
use Rattle.ipg_core.specs.Tree.{Tree, Kid, Kids, no_kids, kid}
use Rattle.ipg_tree_walk.specs.Visits.{Seen, seen, kid_visits, kids_visits, visits, whole, size_of}
use Rattle.ipg_tree.specs.Json.{node_head, array_head, many_head, end, kid_json, kids_json, more_json, tree_json, json}
use Rattle.ipg_tree.specs.JsonWalk.{ends, between, closing, kid_text, kid_behind, texts_of}
use Rattle.ipg_tree.specs.declared.json.Last.{Last}
use Rattle.ipg_tree.specs.declared.json.Last.TheVariants.{Nothing, Whole, Opened}

-- the first visit lies no deeper
abbrev Low : ℕ → List Seen → Type 0
Low depth [] = ⊤
Low depth (one ∷ more) = one.depth ≤ depth

lower : (depth : ℕ) (more : List Seen) → Low depth more → Low (depth + 1) more
lower depth [] low = tt
lower depth (one ∷ more) low = omega (arith, low)

low_kids : (depth at size : ℕ) (kids : Kids) (more : List Seen) → Low depth more → Low (depth + 1) (kids_visits (depth + 1) at size kids ++ more)
low_kids depth at size no_kids more low = lower depth more low
low_kids depth at size (kid (tree.Sub from to sub) kids) more low = omega arith
low_kids depth at size (kid (tree.Token from to bytes) kids) more low = omega arith
low_kids depth at size (kid (tree.Number from to prim high number) kids) more low = omega arith
low_kids depth at size (kid (tree.Raw from to bytes) kids) more low = omega arith
low_kids depth at size (kid (tree.Array one items) kids) more low = omega arith
low_kids depth at size (kid (tree.Many one items) kids) more low = omega arith

pub ends_step : (n : ℕ) → 0 < n → ends n ≡ end ++ ends (n - 1)
ends_step zero h = absurd (omega (arith, h))
ends_step (suc n) h = let e : n ≡ suc n - 1 = omega arith in ap (λ k. end ++ ends k) e

ends_more : (a b : ℕ) → ends (a + b) ≡ ends a ++ ends b
ends_more zero b = ap ends (omega arith)
ends_more (suc a) b = let e : suc a + b ≡ suc (a + b) = omega arith in ap ends e ∙ ap (λ t. end ++ t) (ends_more a b)

between_inside : (depth : ℕ) → between (Opened depth) (depth + 1) ≡ []
between_inside depth =
    let no : nat_le (depth + 1) depth ≡ false = grind (arith, nat_tests) in
    ap (λ b. if b then end ++ (ends (depth - (depth + 1)) ++ 44 ∷ []) else []) no

between_behind : (last depth : ℕ) → depth ≤ last → between (Opened last) depth ≡ end ++ (ends (last - depth) ++ 44 ∷ [])
between_behind last depth le =
    let yes : nat_le depth last ≡ true = le-leb depth last le in
    ap (λ b. if b then end ++ (ends (last - depth) ++ 44 ∷ []) else []) yes

module _ (g : Grammar) where
  -- what comes next is the visit's own text, and what stands before it
  pub texts_next : (last : Last) (one : Seen) (more : List Seen)
      → texts_of g last (one ∷ more) ≡ (between last one.depth ++ kid_text g one.at one.child) ++ texts_of g (kid_behind one.depth one.child) more
  texts_next last one more =
      sym (append_assoc (between last one.depth) (kid_text g one.at one.child) (texts_of g (kid_behind one.depth one.child) more))

  -- objects that end before those around them
  whole_closes : (last depth : ℕ) (more : List Seen) → depth ≤ last → Low depth more
      → texts_of g (Whole last) more ≡ ends (last - depth) ++ texts_of g (Whole depth) more
  whole_closes last depth [] le low =
      let e : last ≡ (last - depth) + depth = omega (arith, le) in
      ap (λ n. ends n ++ 10 ∷ []) e ∙ ap (λ t. t ++ 10 ∷ []) (ends_more (last - depth) depth) ∙ append_assoc (ends (last - depth)) (ends depth) (10 ∷ [])
  whole_closes last depth (one ∷ more) le low =
      let rest = kid_text g one.at one.child ++ texts_of g (kid_behind one.depth one.child) more in
      let e : last - one.depth ≡ (last - depth) + (depth - one.depth) = omega (arith, le, low) in
      ap (λ n. (ends n ++ 44 ∷ []) ++ rest) e
      ∙ ap (λ t. (t ++ 44 ∷ []) ++ rest) (ends_more (last - depth) (depth - one.depth))
      ∙ ap (λ t. t ++ rest) (append_assoc (ends (last - depth)) (ends (depth - one.depth)) (44 ∷ []))
      ∙ append_assoc (ends (last - depth)) (ends (depth - one.depth) ++ 44 ∷ []) rest

  opened_closes : (depth : ℕ) (more : List Seen) → Low depth more → texts_of g (Opened depth) more ≡ end ++ texts_of g (Whole depth) more
  opened_closes depth [] low = refl
  opened_closes depth (one ∷ more) low =
      ap (λ t. t ++ (kid_text g one.at one.child ++ texts_of g (kid_behind one.depth one.child) more)) (between_behind depth one.depth low)

  one_closes : (depth : ℕ) (more : List Seen) → Low depth more → texts_of g (Whole (depth + 1)) more ≡ end ++ texts_of g (Whole depth) more
  one_closes depth more low =
      let e : (depth + 1) - depth ≡ 1 = omega arith in
      whole_closes (depth + 1) depth more (omega arith) low ∙ ap (λ n. ends n ++ texts_of g (Whole depth) more) e

  nested : (head inner text : List ℕ) → head ++ (inner ++ (end ++ text)) ≡ (head ++ (inner ++ end)) ++ text
  nested head inner text = sym (append_assoc head (inner ++ end) text ∙ ap (λ t. head ++ t) (append_assoc inner end text))

  mutual
    kid_said : (last : Last) (depth at size : ℕ) (k : Kid) (more : List Seen) → Low depth more
        → texts_of g last (kid_visits depth at size k ++ more) ≡ between last depth ++ (kid_json g at k ++ texts_of g (Whole depth) more)
    kid_said last depth at size (tree.Sub from to (tree.Node rule long attrs start ends kids)) more low =
        let head = node_head g (at + from) rule long start ends attrs in
        ap (λ t. between last depth ++ (head ++ t)) (inside_said depth (at + from) long kids more low)
        ∙ ap (λ t. between last depth ++ t) (nested head (kids_json g (at + from) kids) (texts_of g (Whole depth) more))
    kid_said last depth at size (tree.Token from to bytes) more low = refl
    kid_said last depth at size (tree.Number from to prim high number) more low = refl
    kid_said last depth at size (tree.Raw from to bytes) more low = refl
    kid_said last depth at size (tree.Array one items) more low =
        ap (λ t. between last depth ++ (array_head g one ++ t)) (inside_said depth at size items more low)
        ∙ ap (λ t. between last depth ++ t) (nested (array_head g one) (kids_json g at items) (texts_of g (Whole depth) more))
    kid_said last depth at size (tree.Many one items) more low =
        ap (λ t. between last depth ++ (many_head g one ++ t)) (inside_said depth at size items more low)
        ∙ ap (λ t. between last depth ++ t) (nested (many_head g one) (kids_json g at items) (texts_of g (Whole depth) more))

    inside_said : (depth at size : ℕ) (kids : Kids) (more : List Seen) → Low depth more
        → texts_of g (Opened depth) (kids_visits (depth + 1) at size kids ++ more) ≡ kids_json g at kids ++ (end ++ texts_of g (Whole depth) more)
    inside_said depth at size no_kids more low = opened_closes depth more low
    inside_said depth at size (kid k kids) more low =
        let behind = kids_visits (depth + 1) at size kids ++ more in
        ap (texts_of g (Opened depth)) (append_assoc (kid_visits (depth + 1) at size k) (kids_visits (depth + 1) at size kids) more)
        ∙ kid_said (Opened depth) (depth + 1) at size k behind (low_kids depth at size kids more low)
        ∙ ap (λ t. t ++ (kid_json g at k ++ texts_of g (Whole (depth + 1)) behind)) (between_inside depth)
        ∙ ap (λ t. kid_json g at k ++ t) (later_said depth at size kids more low)
        ∙ sym (append_assoc (kid_json g at k) (more_json g at kids) (end ++ texts_of g (Whole depth) more))

    later_said : (depth at size : ℕ) (kids : Kids) (more : List Seen) → Low depth more
        → texts_of g (Whole (depth + 1)) (kids_visits (depth + 1) at size kids ++ more) ≡ more_json g at kids ++ (end ++ texts_of g (Whole depth) more)
    later_said depth at size no_kids more low = one_closes depth more low
    later_said depth at size (kid k kids) more low =
        let behind = kids_visits (depth + 1) at size kids ++ more in
        let e : (depth + 1) - (depth + 1) ≡ 0 = omega arith in
        ap (texts_of g (Whole (depth + 1))) (append_assoc (kid_visits (depth + 1) at size k) (kids_visits (depth + 1) at size kids) more)
        ∙ kid_said (Whole (depth + 1)) (depth + 1) at size k behind (low_kids depth at size kids more low)
        ∙ ap (λ n. (ends n ++ 44 ∷ []) ++ (kid_json g at k ++ texts_of g (Whole (depth + 1)) behind)) e
        ∙ ap (λ t. 44 ∷ (kid_json g at k ++ t)) (later_said depth at size kids more low)
        ∙ ap (λ t. 44 ∷ t) (sym (append_assoc (kid_json g at k) (more_json g at kids) (end ++ texts_of g (Whole depth) more)))

  pub all_said : (one : Tree) → texts_of g Nothing (visits one) ≡ json g one
  all_said one = ap (texts_of g Nothing) (sym (append-nil (visits one))) ∙ kid_said Nothing 0 0 (size_of one) (whole one) [] tt
