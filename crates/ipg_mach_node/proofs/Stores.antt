-- Stores that grow.
use Rattle.std.proofs.Common.{◌≡◌, ℕ, ℤ, refl, sym, ap, ◌∙◌, List, [], ◌∷◌, ◌++◌, take, drop}
use Rattle.std.proofs.lemmas.List.{take-take, take-append-drop, append_assoc, append-nil}
use Rattle.ipg_mach_nodes.specs.declared.kid.Kid.{Kid}
use Rattle.ipg_mach_nodes.specs.declared.kid.Node.{Node}
use Rattle.ipg_mach_nodes.specs.Stored.{Stored}
use Rattle.ipg_mach_node.specs.Laws.{GrowsFromBefore, BeforeBefore, GrowsThrough, GrowsByList, GrowsByNode}

-- a list begins with another
abbrev Begins : {A : Type 0} → List A → List A → Type 0
Begins {A} xs ys = (rest : List A) × (xs ++ rest ≡ ys)

taken : {A : Type 0} (n : ℕ) (xs : List A) → Begins (take n xs) xs
taken n xs = (drop n xs, take-append-drop n xs)

through : {A : Type 0} (xs ys zs : List A) → Begins xs ys → Begins ys zs → Begins xs zs
through xs ys zs h k = (h.0 ++ k.0, sym (append_assoc xs h.0 k.0) ∙ ap (λ l. l ++ k.0) h.1 ∙ k.1)

same : {A : Type 0} (xs : List A) → Begins xs xs
same xs = ([], append-nil xs)

pub grows_from_before : GrowsFromBefore
grows_from_before st mark h = record {
  nodes = taken mark.nodes.place st.nodes;
  kids = taken mark.kids.place st.kids;
  attrs = taken mark.attrs.place st.attrs;
}

stored : (a b : List (List Node)) (c d : List (List Kid)) (e f : List (List (ℕ × ℤ))) → a ≡ b → c ≡ d → e ≡ f
    → (let one : Stored = record { nodes = a; kids = c; attrs = e } in let other : Stored = record { nodes = b; kids = d; attrs = f } in one ≡ other)
stored a b c d e f nodes kids attrs = cc

pub before_before : BeforeBefore
before_before st first later nodes kids attrs =
    stored _ _ _ _ _ _ (take-take first.nodes.place later.nodes.place st.nodes nodes) (take-take first.kids.place later.kids.place st.kids kids)
    (take-take first.attrs.place later.attrs.place st.attrs attrs)

pub grows_through : GrowsThrough
grows_through st more most h k = record {
  nodes = through _ _ _ h.nodes k.nodes;
  kids = through _ _ _ h.kids k.kids;
  attrs = through _ _ _ h.attrs k.attrs;
}

pub grows_by_list : GrowsByList
grows_by_list st list = record { nodes = same st.nodes; kids = (list ∷ [], refl); attrs = same st.attrs }

pub grows_by_node : GrowsByNode
grows_by_node st head levels attrs kids = record { nodes = (_, refl); kids = (kids ∷ [], refl); attrs = (attrs ∷ [], refl) }
