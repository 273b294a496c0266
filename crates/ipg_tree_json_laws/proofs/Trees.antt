-- Trees of one JSON text have the same lines.
use Rattle.std.proofs.Common.{◌≡◌, ℕ, ◌+◌, List, [], ◌∷◌, ◌++◌, codes, refl, ap, ◌∙◌, sym, arith, append_assoc, get_or, decimal, ℤ, eqb, true, false}
use Rattle.std.specs.Prelude.{flat_map}
use Rattle.std.proofs.lemmas.Bool.{eq-eqb}
use Rattle.std.proofs.lemmas.List.{append_cancel_left}
use Rattle.ipg_core.specs.declared.grammar.Sym.{Sym}
use Rattle.ipg_core.specs.Grammar.{Grammar}
use Rattle.ipg_core.specs.Tree.{Tree, Node, Kid, Sub, Token, Number, Raw, Array, Many, Kids, no_kids, kid, count_of}
use Rattle.ipg_core.specs.Lines.{line, sym_name, node_line, items_line, tree_lines, kid_lines, kids_lines}
use Rattle.ipg_tree.specs.Json.{node_head, items_head, end, tree_json, kid_json, kids_json, more_json}
use Rattle.ipg_tree_json_laws.specs.Laws.{HasPlainNames, OneText}
use Rattle.ipg_tree_json_laws.proofs.Texts.{same_both}
use Rattle.ipg_tree_json_laws.proofs.Leaves.{apart, IsLeaf, leaf_same, token_leaf, number_leaf, raw_leaf}
use Rattle.ipg_tree_json_laws.proofs.Heads.{node_same, items_same}

-- the byte behind an object's first brace and quotation mark, which its kind has
abbrev mark : Kid → ℕ
mark (Sub from to tree) = 114
mark (Token from to bytes) = 112
mark (Number from to prim high low) = 112
mark (Raw from to bytes) = 112
mark (Array x ks) = 102
mark (Many x ks) = 109

module _ (g : Grammar) where
  tree_marked : (at : ℕ) (tree : Tree) (r : List ℕ) → (get_or (tree_json g at tree ++ r) 0 0 ≡ 123) × (get_or (tree_json g at tree ++ r) 2 0 ≡ 114)
  tree_marked at (Node rule size attrs start ends kids) r = (refl, refl)

  marked : (at : ℕ) (k : Kid) (r : List ℕ) → (get_or (kid_json g at k ++ r) 0 0 ≡ 123) × (get_or (kid_json g at k ++ r) 2 0 ≡ mark k)
  marked at (Sub from to tree) r = tree_marked (at + from) tree r
  marked at (Token from to bytes) r = (refl, refl)
  marked at (Number from to prim high low) r = (refl, refl)
  marked at (Raw from to bytes) r = (refl, refl)
  marked at (Array x ks) r = (refl, refl)
  marked at (Many x ks) r = (refl, refl)

  same_mark : (a b : ℕ) (k l : Kid) (r s : List ℕ) → kid_json g a k ++ r ≡ kid_json g b l ++ s → mark k ≡ mark l
  same_mark a b k l r s e = sym (marked a k r).1 ∙ ap (λ (bytes : List ℕ). get_or bytes 2 0) e ∙ (marked b l s).1

  other_kind : (a b : ℕ) (k l : Kid) (r s : List ℕ) → eqb (mark k) (mark l) ≡ false → kid_json g a k ++ r ≡ kid_json g b l ++ s → ⊥
  other_kind a b k l r s differ e = let other : true ≡ false = sym (eq-eqb _ _ (same_mark a b k l r s e)) ∙ differ in absurd (cc)

-- lines at each depth, and what is behind
abbrev Same : Grammar → ℕ → ℕ → Kid → Kid → List ℕ → List ℕ → Type 0
Same g a b k l r s = ((depth : ℕ) → kid_lines g depth a k ≡ kid_lines g depth b l) × (r ≡ s)

-- a leaf, and whatever has its text
leaf_or : (g : Grammar) (a b : ℕ) (k l : Kid) (r s : List ℕ) → IsLeaf g a k → mark k ≡ 112 → kid_json g a k ++ r ≡ kid_json g b l ++ s
    → Same g a b k l r s
leaf_or g a b k (Token f t bytes) r s leaf is e = leaf_same g a b k (Token f t bytes) r s leaf (token_leaf g b f t bytes) e
leaf_or g a b k (Number f t prim high low) r s leaf is e = leaf_same g a b k (Number f t prim high low) r s leaf (number_leaf g b f t prim high low) e
leaf_or g a b k (Raw f t bytes) r s leaf is e = leaf_same g a b k (Raw f t bytes) r s leaf (raw_leaf g b f t bytes) e
leaf_or g a b k (Sub f t tree) r s leaf is e = let d : 112 ≡ 114 = sym is ∙ same_mark g a b k (Sub f t tree) r s e in absurd (omega (arith, d))
leaf_or g a b k (Array y ls) r s leaf is e = let d : 112 ≡ 102 = sym is ∙ same_mark g a b k (Array y ls) r s e in absurd (omega (arith, d))
leaf_or g a b k (Many y ls) r s leaf is e = let d : 112 ≡ 109 = sym is ∙ same_mark g a b k (Many y ls) r s e in absurd (omega (arith, d))

-- of children also how many there are
pub record SameKids (g : Grammar) (a b : ℕ) (ks ls : Kids) (r s : List ℕ) : Type 0 where
  pub lines : (depth : ℕ) → kids_lines g depth a ks ≡ kids_lines g depth b ls
  pub count : count_of ks ≡ count_of ls
  pub behind : r ≡ s

-- what is behind a head
behind : (a x r : List ℕ) → (a ++ (x ++ end)) ++ r ≡ a ++ (x ++ (end ++ r))
behind a x r = append_assoc a (x ++ end) r ∙ ap (λ (bytes : List ℕ). a ++ bytes) (append_assoc x end r)

module _ (g : Grammar) (plain : HasPlainNames g) where
  -- a list that ends, and one that has more
  ends_or_more : (b : ℕ) (l : Kid) (ls : Kids) (r s : List ℕ) → end ++ r ≡ more_json g b (kid l ls) ++ (end ++ s) → ⊥
  ends_or_more b l ls r s e = apart 0 _ _ (λ (d : 93 ≡ 44). omega (arith, d)) e

  ends_or_begins : (b : ℕ) (l : Kid) (ls : Kids) (r s : List ℕ) → end ++ r ≡ kids_json g b (kid l ls) ++ (end ++ s) → ⊥
  ends_or_begins b l ls r s e =
      let opens = (marked g b l (more_json g b ls ++ (end ++ s))).0 in
      let whole = e ∙ append_assoc (kid_json g b l) (more_json g b ls) (end ++ s) in
      let first : 93 ≡ 123 = ap (λ (bytes : List ℕ). get_or bytes 0 0) whole ∙ opens in
      omega (arith, first)

  both_kids : (a b : ℕ) (k l : Kid) (ks ls : Kids) (r s : List ℕ)
      → ((depth : ℕ) → kid_lines g depth a k ≡ kid_lines g depth b l) → SameKids g a b ks ls r s → SameKids g a b (kid k ks) (kid l ls) r s
  both_kids a b k l ks ls r s one more = record {
    lines = λ depth. λ i. one depth i ++ more.lines depth i;
    count = ap (λ n. n + 1) more.count;
    behind = more.behind;
  }

  none_same : (a b : ℕ) (r s : List ℕ) → end ++ r ≡ end ++ s → SameKids g a b no_kids no_kids r s
  none_same a b r s e = record { lines = λ depth. refl; count = refl; behind = append_cancel_left end r s e }

  -- heads apart from what is in them
  node_apart : (a b rule size start ends rule' size' start' ends' : ℕ) (attrs attrs' : List (ℕ × ℤ)) (ks ls : Kids) (r s : List ℕ)
      → tree_json g a (Node rule size attrs start ends ks) ++ r ≡ tree_json g b (Node rule' size' attrs' start' ends' ls) ++ s
      → ((depth : ℕ) → node_line g depth a rule size start ends attrs ≡ node_line g depth b rule' size' start' ends' attrs')
      × (kids_json g a ks ++ (end ++ r) ≡ kids_json g b ls ++ (end ++ s))
  node_apart a b rule size start ends rule' size' start' ends' attrs attrs' ks ls r s e =
      node_same g plain a b rule size start ends rule' size' start' ends' attrs attrs' _ _
      (sym (behind (node_head g a rule size start ends attrs) (kids_json g a ks) r) ∙ e
      ∙ behind (node_head g b rule' size' start' ends' attrs') (kids_json g b ls) s)

  items_apart : (opening : List ℕ) (a b : ℕ) (x y : Sym) (ks ls : Kids) (r s : List ℕ)
      → (items_head g opening x ++ (kids_json g a ks ++ end)) ++ r ≡ (items_head g opening y ++ (kids_json g b ls ++ end)) ++ s
      → (sym_name g x ≡ sym_name g y) × (kids_json g a ks ++ (end ++ r) ≡ kids_json g b ls ++ (end ++ s))
  items_apart opening a b x y ks ls r s e =
      items_same g plain opening x y _ _
      (sym (behind (items_head g opening x) (kids_json g a ks) r) ∙ e ∙ behind (items_head g opening y) (kids_json g b ls) s)

  -- the lines of items, whatever they are called
  items_lines : (word : List ℕ) (a b : ℕ) (x y : Sym) (ks ls : Kids) (r s : List ℕ) → sym_name g x ≡ sym_name g y → SameKids g a b ks ls r s
      → (depth : ℕ) → items_line g depth word x ks ∷ kids_lines g (depth + 1) a ks ≡ items_line g depth word y ls ∷ kids_lines g (depth + 1) b ls
  items_lines word a b x y ks ls r s name same depth =
      λ i. line (decimal depth ∷ word ∷ name i ∷ decimal (same.count i) ∷ []) ∷ same.lines (depth + 1) i

  mutual
    tree_same : (a b : ℕ) (tree other : Tree) (r s : List ℕ) → tree_json g a tree ++ r ≡ tree_json g b other ++ s
        → ((depth : ℕ) → tree_lines g depth a tree ≡ tree_lines g depth b other) × (r ≡ s)
    tree_same a b (Node rule size attrs start ends ks) (Node rule' size' attrs' start' ends' ls) r s e =
        let head = node_apart a b rule size start ends rule' size' start' ends' attrs attrs' ks ls r s e in
        let kids = kids_same a b ks ls r s head.1 in
        ((λ depth. λ i. head.0 depth i ∷ kids.lines (depth + 1) i), kids.behind)

    kids_same : (a b : ℕ) (ks ls : Kids) (r s : List ℕ) → kids_json g a ks ++ (end ++ r) ≡ kids_json g b ls ++ (end ++ s) → SameKids g a b ks ls r s
    kids_same a b no_kids no_kids r s e = none_same a b r s e
    kids_same a b no_kids (kid l ls) r s e = absurd (ends_or_begins b l ls r s e)
    kids_same a b (kid k ks) no_kids r s e = absurd (ends_or_begins a k ks s r (sym e))
    kids_same a b (kid k ks) (kid l ls) r s e =
        let one = kid_same a b k l (more_json g a ks ++ (end ++ r)) (more_json g b ls ++ (end ++ s))
        (sym (append_assoc (kid_json g a k) (more_json g a ks) (end ++ r)) ∙ e ∙ append_assoc (kid_json g b l) (more_json g b ls) (end ++ s)) in
        both_kids a b k l ks ls r s one.0 (more_same a b ks ls r s one.1)

    more_same : (a b : ℕ) (ks ls : Kids) (r s : List ℕ) → more_json g a ks ++ (end ++ r) ≡ more_json g b ls ++ (end ++ s) → SameKids g a b ks ls r s
    more_same a b no_kids no_kids r s e = none_same a b r s e
    more_same a b no_kids (kid l ls) r s e = absurd (ends_or_more b l ls r s e)
    more_same a b (kid k ks) no_kids r s e = absurd (ends_or_more a k ks s r (sym e))
    more_same a b (kid k ks) (kid l ls) r s e =
        let one = kid_same a b k l (more_json g a ks ++ (end ++ r)) (more_json g b ls ++ (end ++ s))
        (sym (append_assoc (kid_json g a k) (more_json g a ks) (end ++ r)) ∙ (same_both e).1
        ∙ append_assoc (kid_json g b l) (more_json g b ls) (end ++ s)) in
        both_kids a b k l ks ls r s one.0 (more_same a b ks ls r s one.1)

    kid_same : (a b : ℕ) (k l : Kid) (r s : List ℕ) → kid_json g a k ++ r ≡ kid_json g b l ++ s → Same g a b k l r s
    kid_same a b (Token f t bytes) l r s e = leaf_or g a b (Token f t bytes) l r s (token_leaf g a f t bytes) refl e
    kid_same a b (Number f t prim high low) l r s e = leaf_or g a b (Number f t prim high low) l r s (number_leaf g a f t prim high low) refl e
    kid_same a b (Raw f t bytes) l r s e = leaf_or g a b (Raw f t bytes) l r s (raw_leaf g a f t bytes) refl e
    kid_same a b (Sub f t tree) (Sub f' t' other) r s e = tree_same (a + f) (b + f') tree other r s e
    kid_same a b (Sub f t tree) (Token f' t' bytes) r s e = absurd (other_kind g a b (Sub f t tree) (Token f' t' bytes) r s refl e)
    kid_same a b (Sub f t tree) (Number f' t' prim high low) r s e = absurd (other_kind g a b (Sub f t tree) (Number f' t' prim high low) r s refl e)
    kid_same a b (Sub f t tree) (Raw f' t' bytes) r s e = absurd (other_kind g a b (Sub f t tree) (Raw f' t' bytes) r s refl e)
    kid_same a b (Sub f t tree) (Array y ls) r s e = absurd (other_kind g a b (Sub f t tree) (Array y ls) r s refl e)
    kid_same a b (Sub f t tree) (Many y ls) r s e = absurd (other_kind g a b (Sub f t tree) (Many y ls) r s refl e)
    kid_same a b (Array x ks) (Array y ls) r s e =
        let head = items_apart (codes "{\"for\":\"") a b x y ks ls r s e in
        let kids = kids_same a b ks ls r s head.1 in
        (items_lines (codes "for") a b x y ks ls r s head.0 kids, kids.behind)
    kid_same a b (Array x ks) (Sub f' t' other) r s e = absurd (other_kind g a b (Array x ks) (Sub f' t' other) r s refl e)
    kid_same a b (Array x ks) (Token f' t' bytes) r s e = absurd (other_kind g a b (Array x ks) (Token f' t' bytes) r s refl e)
    kid_same a b (Array x ks) (Number f' t' prim high low) r s e = absurd (other_kind g a b (Array x ks) (Number f' t' prim high low) r s refl e)
    kid_same a b (Array x ks) (Raw f' t' bytes) r s e = absurd (other_kind g a b (Array x ks) (Raw f' t' bytes) r s refl e)
    kid_same a b (Array x ks) (Many y ls) r s e = absurd (other_kind g a b (Array x ks) (Many y ls) r s refl e)
    kid_same a b (Many x ks) (Many y ls) r s e =
        let head = items_apart (codes "{\"many\":\"") a b x y ks ls r s e in
        let kids = kids_same a b ks ls r s head.1 in
        (items_lines (codes "many") a b x y ks ls r s head.0 kids, kids.behind)
    kid_same a b (Many x ks) (Sub f' t' other) r s e = absurd (other_kind g a b (Many x ks) (Sub f' t' other) r s refl e)
    kid_same a b (Many x ks) (Token f' t' bytes) r s e = absurd (other_kind g a b (Many x ks) (Token f' t' bytes) r s refl e)
    kid_same a b (Many x ks) (Number f' t' prim high low) r s e = absurd (other_kind g a b (Many x ks) (Number f' t' prim high low) r s refl e)
    kid_same a b (Many x ks) (Raw f' t' bytes) r s e = absurd (other_kind g a b (Many x ks) (Raw f' t' bytes) r s refl e)
    kid_same a b (Many x ks) (Array y ls) r s e = absurd (other_kind g a b (Many x ks) (Array y ls) r s refl e)

pub one_text : OneText
one_text g one other plain e =
    let same = tree_same g plain 0 0 one other (10 ∷ []) (10 ∷ []) e in
    ap (λ (ls : List (List ℕ)). flat_map (λ l. l) ls) (same.0 0)
