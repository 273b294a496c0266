-- The text of a node, an array or a repetition before what is in it comes apart in one way.
use Rattle.std.proofs.Common.{◌≡◌, ℕ, ◌+◌, List, [], ◌∷◌, ◌++◌, map, codes, ℤ, refl, ◌∙◌, sym, arith, append_assoc, decimal}
use Rattle.std.specs.Prelude.{flat_map}
use Rattle.std.specs.Fmt.{signed_decimal}
use Rattle.std.proofs.lemmas.List.{append_cancel_left}
use Rattle.ipg_core.specs.declared.grammar.Sym.{Sym}
use Rattle.ipg_core.specs.Grammar.{Grammar, name_at}
use Rattle.ipg_core.specs.Lines.{line, set_word, attr_word, node_line, rule_name, sym_name}
use Rattle.ipg_tree.specs.Json.{joined, member, places, node_head, items_head}
use Rattle.ipg_tree_json_laws.specs.Laws.{HasPlainNames}
use Rattle.ipg_tree_json_laws.proofs.Texts.{same_both, front, split, split_in, word, Stops, IsOfNumber, comma, brace, decimal_is, signed_is}
use Rattle.ipg_tree_json_laws.proofs.Words.{name_is, rule_is, sym_is}
use Rattle.ipg_tree_json_laws.proofs.Leaves.{apart}

-- ---- attributes

module _ (g : Grammar) (plain : HasPlainNames g) where
  abbrev value_end : ℕ × ℤ → List ℕ
  value_end attr = codes ":" ++ signed_decimal attr.1

  member_same : (x y : ℕ × ℤ) (r s : List ℕ) → Stops IsOfNumber r → Stops IsOfNumber s → member g x ++ r ≡ member g y ++ s
      → (attr_word g x ≡ attr_word g y) × (r ≡ s)
  member_same x y r s stop other e =
      let e1 = front (codes "\"") (name_at g.names x.0 ++ (34 ∷ value_end x)) (name_at g.names y.0 ++ (34 ∷ value_end y)) r s e in
      let e2 = word (name_at g.names x.0) (name_at g.names y.0) (value_end x) (value_end y) r s (name_is g plain x.0) (name_is g plain y.0) e1 in
      let e3 = front (codes "\":") (signed_decimal x.1) (signed_decimal y.1) r s e2.1 in
      let e4 = split IsOfNumber (signed_decimal x.1) (signed_decimal y.1) r s (signed_is x.1) (signed_is y.1) stop other e3 in
      ((λ i. set_word (e2.0 i) (e4.0 i)), e4.1)

  -- the rest of the members, each behind a comma
  abbrev rest : List (ℕ × ℤ) → List ℕ
  rest attrs = flat_map (λ text. 44 ∷ text) (map (member g) attrs)

  rest_stops : (attrs : List (ℕ × ℤ)) (r : List ℕ) → Stops IsOfNumber (rest attrs ++ (125 ∷ r))
  rest_stops [] r = brace
  rest_stops (x ∷ attrs) r = comma

  -- one member, and the rest of them
  some_apart : (x y : ℕ × ℤ) (xs ys : List (ℕ × ℤ)) (r s : List ℕ)
      → (member g x ++ rest xs) ++ (125 ∷ r) ≡ (member g y ++ rest ys) ++ (125 ∷ s)
      → (attr_word g x ≡ attr_word g y) × (rest xs ++ (125 ∷ r) ≡ rest ys ++ (125 ∷ s))
  some_apart x y xs ys r s e =
      member_same x y (rest xs ++ (125 ∷ r)) (rest ys ++ (125 ∷ s)) (rest_stops xs r) (rest_stops ys s)
      (sym (append_assoc (member g x) (rest xs) (125 ∷ r)) ∙ e ∙ append_assoc (member g y) (rest ys) (125 ∷ s))

  rest_same : (xs ys : List (ℕ × ℤ)) (r s : List ℕ) → rest xs ++ (125 ∷ r) ≡ rest ys ++ (125 ∷ s)
      → (map (attr_word g) xs ≡ map (attr_word g) ys) × (r ≡ s)
  rest_same [] [] r s e = (refl, (same_both e).1)
  rest_same [] (y ∷ ys) r s e = absurd (apart 0 _ _ (λ (d : 125 ≡ 44). omega (arith, d)) e)
  rest_same (x ∷ xs) [] r s e = absurd (apart 0 _ _ (λ (d : 44 ≡ 125). omega (arith, d)) e)
  rest_same (x ∷ xs) (y ∷ ys) r s e =
      let one = some_apart x y xs ys r s (same_both e).1 in
      let more = rest_same xs ys r s one.1 in
      ((λ i. one.0 i ∷ more.0 i), more.1)

  attrs_same : (xs ys : List (ℕ × ℤ)) (r s : List ℕ)
      → joined (map (member g) xs) ++ (125 ∷ r) ≡ joined (map (member g) ys) ++ (125 ∷ s)
      → (map (attr_word g) xs ≡ map (attr_word g) ys) × (r ≡ s)
  attrs_same [] [] r s e = (refl, (same_both e).1)
  attrs_same [] (y ∷ ys) r s e = absurd (apart 0 _ _ (λ (d : 125 ≡ 34). omega (arith, d)) e)
  attrs_same (x ∷ xs) [] r s e = absurd (apart 0 _ _ (λ (d : 34 ≡ 125). omega (arith, d)) e)
  attrs_same (x ∷ xs) (y ∷ ys) r s e =
      let one = some_apart x y xs ys r s e in
      let more = rest_same xs ys r s one.1 in
      ((λ i. one.0 i ∷ more.0 i), more.1)

-- ---- places

abbrev end_end : ℕ → List ℕ
end_end e = codes ",\"end\":" ++ (decimal e ++ codes ",\"attrs\":{")

abbrev start_end : ℕ → ℕ → List ℕ
start_end s e = codes ",\"start\":" ++ (decimal s ++ end_end e)

abbrev to_end : ℕ → ℕ → ℕ → List ℕ
to_end t s e = codes ",\"to\":" ++ (decimal t ++ start_end s e)

abbrev from_end : ℕ → ℕ → ℕ → ℕ → List ℕ
from_end f t s e = codes ",\"from\":" ++ (decimal f ++ to_end t s e)

places_same : (f t b e f' t' b' e' : ℕ) (r s : List ℕ) → places f t b e ++ r ≡ places f' t' b' e' ++ s
    → (decimal f ≡ decimal f') × ((decimal t ≡ decimal t') × ((decimal b ≡ decimal b') × ((decimal e ≡ decimal e') × (r ≡ s))))
places_same f t b e f' t' b' e' r s h =
    let h1 = front (codes "\",\"from\":") (decimal f ++ to_end t b e) (decimal f' ++ to_end t' b' e') r s h in
    let h2 = split_in IsOfNumber (decimal f) (decimal f') (to_end t b e) (to_end t' b' e') r s (decimal_is f) (decimal_is f') comma comma h1 in
    let h3 = front (codes ",\"to\":") (decimal t ++ start_end b e) (decimal t' ++ start_end b' e') r s h2.1 in
    let h4 = split_in IsOfNumber (decimal t) (decimal t') (start_end b e) (start_end b' e') r s (decimal_is t) (decimal_is t') comma comma h3 in
    let h5 = front (codes ",\"start\":") (decimal b ++ end_end e) (decimal b' ++ end_end e') r s h4.1 in
    let h6 = split_in IsOfNumber (decimal b) (decimal b') (end_end e) (end_end e') r s (decimal_is b) (decimal_is b') comma comma h5 in
    let h7 = front (codes ",\"end\":") (decimal e ++ codes ",\"attrs\":{") (decimal e' ++ codes ",\"attrs\":{") r s h6.1 in
    let h8 = split_in IsOfNumber (decimal e) (decimal e') (codes ",\"attrs\":{") (codes ",\"attrs\":{") r s (decimal_is e) (decimal_is e') comma comma h7 in
    (h2.0, (h4.0, (h6.0, (h8.0, append_cancel_left (codes ",\"attrs\":{") r s h8.1))))

-- ---- heads

module _ (g : Grammar) (plain : HasPlainNames g) where
  abbrev attrs_end : List (ℕ × ℤ) → List ℕ
  attrs_end attrs = joined (map (member g) attrs) ++ codes "},\"kids\":["

  -- the line of a node by the texts of its parts
  abbrev node_by : List ℕ → List ℕ → List ℕ → List ℕ → List ℕ → List (List ℕ) → ℕ → List ℕ
  node_by name from to start end attrs depth = line (decimal depth ∷ name ∷ from ∷ to ∷ set_word (codes "start") start ∷ set_word (codes "end") end ∷ attrs)

  pub node_same : (a b rule size start end rule' size' start' end' : ℕ) (attrs attrs' : List (ℕ × ℤ)) (r s : List ℕ)
      → node_head g a rule size start end attrs ++ r ≡ node_head g b rule' size' start' end' attrs' ++ s
      → ((depth : ℕ) → node_line g depth a rule size start end attrs ≡ node_line g depth b rule' size' start' end' attrs') × (r ≡ s)
  node_same a b rule size start end rule' size' start' end' attrs attrs' r s e =
      let one = places a (a + size) (a + start) (a + end) in
      let other = places b (b + size') (b + start') (b + end') in
      let e1 = front (codes "{\"rule\":\"") (rule_name g rule ++ (one ++ attrs_end attrs)) (rule_name g rule' ++ (other ++ attrs_end attrs')) r s e in
      let e2 = word (rule_name g rule) (rule_name g rule')
      (from_end a (a + size) (a + start) (a + end) ++ attrs_end attrs) (from_end b (b + size') (b + start') (b + end') ++ attrs_end attrs')
      r s (rule_is g plain rule) (rule_is g plain rule') e1 in
      let e3 = places_same a (a + size) (a + start) (a + end) b (b + size') (b + start') (b + end') (attrs_end attrs ++ r) (attrs_end attrs' ++ s)
      (sym (append_assoc one (attrs_end attrs) r) ∙ e2.1 ∙ append_assoc other (attrs_end attrs') s) in
      let close = codes ",\"kids\":[" in
      let e4 = attrs_same g plain attrs attrs' (close ++ r) (close ++ s)
      (sym (append_assoc (joined (map (member g) attrs)) (125 ∷ close) r) ∙ e3.1.1.1.1
      ∙ append_assoc (joined (map (member g) attrs')) (125 ∷ close) s) in
      ((λ depth. λ i. node_by (e2.0 i) (e3.0 i) (e3.1.0 i) (e3.1.1.0 i) (e3.1.1.1.0 i) (e4.0 i) depth), append_cancel_left close r s e4.1)

  pub items_same : (opening : List ℕ) (x y : Sym) (r s : List ℕ) → items_head g opening x ++ r ≡ items_head g opening y ++ s
      → (sym_name g x ≡ sym_name g y) × (r ≡ s)
  items_same opening x y r s e =
      let close = codes ",\"items\":[" in
      let e1 = front opening (sym_name g x ++ (34 ∷ close)) (sym_name g y ++ (34 ∷ close)) r s e in
      let e2 = word (sym_name g x) (sym_name g y) close close r s (sym_is g plain x) (sym_is g plain y) e1 in
      (e2.0, append_cancel_left (34 ∷ close) r s e2.1)
