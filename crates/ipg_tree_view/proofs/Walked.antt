-- What a walk over a tree shows, visit by visit.
use Rattle.std.proofs.Common.{◌≡◌, ℕ, ◌+◌, List, [], ◌∷◌, ◌++◌}
use Rattle.std.proofs.Common.{refl, sym, ap, ◌∙◌, subst, Some, length}
use Rattle.std.specs.Prelude.{Bool, true, false, not, ◌&&◌, ◌-◌, ◌*◌, ◌^◌, slice_get, ⊤, codes, decimal}
use Rattle.ipg_core.specs.declared.grammar.Sym.{Sym}
use Rattle.ipg_core.specs.declared.grammar.Sym.TheVariants.{Text}
use Rattle.ipg_core.specs.Grammar.{Grammar}
use Rattle.ipg_core.specs.Lines.{primitive_name}
use Rattle.ipg_core.specs.Touch.{width}
use Rattle.ipg_core.specs.Tree as tree
use Rattle.ipg_core.specs.Tree.{Tree, Node, Kids, no_kids, kid, count_of, rule_of, attrs_of}
use Rattle.ipg_region.specs.declared.region.RunId.{RunId}
use Rattle.ipg_mach_nodes.specs.declared.kid.Kid.{Kid}
use Rattle.ipg_mach_nodes.specs.declared.kid.Kid.TheVariants as row
use Rattle.ipg_mach_nodes.specs.Stored.{Stored, Source, StandsKid, StandKids}
use Rattle.ipg_tree_walk.specs.declared.walk.Visit.{Visit}
use Rattle.ipg_tree_walk.specs.Visits.{Seen, from_of, end_in}
use Rattle.ipg_tree_walk.specs.Left.{NodeOf, StandsNode, Shows}
use Rattle.ipg_tree_view.specs.Bare.{is_among, end_of, has_byte}
use Rattle.ipg_tree_view.specs.View.{tree_head, kid_view, piece_of, bare_line, items_text}
use Rattle.ipg_tree.specs.Behind.{IsNodeRow}

-- a tree stands at the node of a visit, and this is its line
pub record TreeSeen (src : Source) (st : Stored) (g : Grammar) (visit : Visit) (text : List ℕ) : Type 0 where
  pub at : ℕ
  pub one : Tree
  pub stands : StandsNode src st at visit.node one
  pub is : tree_head g visit.depth visit.from one ≡ text

tree_seen_at : (src : Source) (st : Stored) (g : Grammar) (input : List ℕ) (visit : Visit) (depth at : ℕ) (k : tree.Kid) → IsNodeRow visit.kid
    → visit.depth ≡ depth → visit.from ≡ at + from_of k
    → StandsKid src st at visit.kid k → NodeOf st visit.kid visit.node → TreeSeen src st g visit (kid_view g input depth at k)
tree_seen_at src st g input visit depth at (tree.Sub from to sub) is ed ef stands node = record {
  at = at + from;
  one = sub;
  stands = record { id = stands.0; is_at = node stands.0 from to stands.1; stands = stands.2 };
  is = ap (λ d. tree_head g d visit.from sub) ed ∙ ap (λ a. tree_head g depth a sub) ef;
}
tree_seen_at src st g input visit depth at (tree.Token from to bytes) is ed ef stands node = absurd (subst IsNodeRow stands.1 is)
tree_seen_at src st g input visit depth at (tree.Number from to prim high low) is ed ef stands node = absurd (subst IsNodeRow stands is)
tree_seen_at src st g input visit depth at (tree.Raw from to bytes) is ed ef stands node = absurd (subst IsNodeRow stands.0 is)
tree_seen_at src st g input visit depth at (tree.Array sym items) is ed ef stands node = absurd (subst IsNodeRow stands.3 is)
tree_seen_at src st g input visit depth at (tree.Many sym items) is ed ef stands node = absurd (subst IsNodeRow stands.3 is)

pub tree_seen : (src : Source) (st : Stored) (g : Grammar) (input : List ℕ) (visit : Visit) (one : Seen) → IsNodeRow visit.kid → Shows src st visit one
    → TreeSeen src st g visit (kid_view g input one.depth one.at one.child)
tree_seen src st g input visit one is h = tree_seen_at src st g input visit one.depth one.at one.child is h.depth h.from h.stands h.node

-- ---- leaves

abbrev pub IsLeafRow : Kid → Type 0
IsLeafRow (row.Node id from to) = ⊥
IsLeafRow (row.Text n from to) = ⊤
IsLeafRow (row.Number prim from to high low) = ⊤
IsLeafRow (row.Raw from to) = ⊤
IsLeafRow (row.Array n items) = ⊥
IsLeafRow (row.Many n items) = ⊥

-- what is said of a leaf
abbrev pub leaf_text : Kid → ℕ → ℕ → List ℕ
leaf_text (row.Node id l r) from to = []
leaf_text (row.Text n l r) from to = codes "tok"
leaf_text (row.Number prim l r high low) from to = primitive_name prim ++ 32 ∷ decimal (high * 2 ^ 32 + low)
leaf_text (row.Raw l r) from to = codes "Bytes " ++ decimal (to - from)
leaf_text (row.Array n items) from to = []
leaf_text (row.Many n items) from to = []

-- where the bytes that it has end, the text of a terminal having so many
abbrev pub row_end : ℕ → Kid → ℕ → ℕ → ℕ
row_end count (row.Node id l r) from to = to
row_end count (row.Text n l r) from to = end_of from to count
row_end count (row.Number prim l r high low) from to = end_of from to (width prim)
row_end count (row.Raw l r) from to = to
row_end count (row.Array n items) from to = to
row_end count (row.Many n items) from to = to

-- the text of a terminal has so many
abbrev pub IsCount : Source → ℕ → Kid → Type 0
IsCount src count (row.Node id l r) = ⊤
IsCount src count (row.Text n l r) = (bytes : List ℕ) → slice_get src.syms n ≡ Some (Text bytes) → count ≡ length bytes
IsCount src count (row.Number prim l r high low) = ⊤
IsCount src count (row.Raw l r) = ⊤
IsCount src count (row.Array n items) = ⊤
IsCount src count (row.Many n items) = ⊤

-- the lines of the leaf of a visit
abbrev pub leaf_view : List ℕ → ℕ → Visit → List ℕ
leaf_view input count visit =
    piece_of input visit.depth visit.from (row_end count visit.kid visit.from visit.to) (leaf_text visit.kid visit.from visit.to)

same_leaf : (input : List ℕ) (count : ℕ) (visit : Visit) (depth from to : ℕ) (k : Kid) → visit.depth ≡ depth → visit.from ≡ from → visit.to ≡ to
    → visit.kid ≡ k → leaf_view input count visit ≡ piece_of input depth from (row_end count k from to) (leaf_text k from to)
same_leaf input count visit depth from to k ed ef et ek =
    ap (λ d. piece_of input d visit.from (row_end count visit.kid visit.from visit.to) (leaf_text visit.kid visit.from visit.to)) ed
    ∙ ap (λ f. piece_of input depth f (row_end count visit.kid f visit.to) (leaf_text visit.kid f visit.to)) ef
    ∙ ap (λ t. piece_of input depth from (row_end count visit.kid from t) (leaf_text visit.kid from t)) et
    ∙ ap (λ r. piece_of input depth from (row_end count r from to) (leaf_text r from to)) ek

module _ (src : Source) (st : Stored) (count : ℕ) (visit : Visit) where
  leaf_seen_at : (g : Grammar) (input : List ℕ) (depth at size : ℕ) (k : tree.Kid) → IsLeafRow visit.kid → IsCount src count visit.kid
      → visit.depth ≡ depth → visit.from ≡ at + from_of k → visit.to ≡ at + end_in size k → StandsKid src st at visit.kid k
      → leaf_view input count visit ≡ kid_view g input depth at k
  leaf_seen_at g input depth at size (tree.Sub from to sub) is told ed ef et stands = absurd (subst IsLeafRow stands.1 is)
  leaf_seen_at g input depth at size (tree.Token from to bytes) is told ed ef et stands =
      same_leaf input count visit depth _ _ _ ed ef et stands.1
      ∙ ap (λ n. piece_of input depth (at + from) (end_of (at + from) (at + to) n) (codes "tok")) (subst (IsCount src count) stands.1 told bytes stands.2)
  leaf_seen_at g input depth at size (tree.Number from to prim high low) is told ed ef et stands =
      same_leaf input count visit depth _ _ _ ed ef et stands
  leaf_seen_at g input depth at size (tree.Raw from to bytes) is told ed ef et stands = same_leaf input count visit depth _ _ _ ed ef et stands.0
  leaf_seen_at g input depth at size (tree.Array one items) is told ed ef et stands = absurd (subst IsLeafRow stands.3 is)
  leaf_seen_at g input depth at size (tree.Many one items) is told ed ef et stands = absurd (subst IsLeafRow stands.3 is)

  -- the lines of a leaf, as what its row is called
  pub leaf_seen : (g : Grammar) (input : List ℕ) (one : Seen) (k : Kid) → visit.kid ≡ k → IsLeafRow k → IsCount src count k
      → Shows src st visit one
      → piece_of input visit.depth visit.from (row_end count k visit.from visit.to) (leaf_text k visit.from visit.to)
      ≡ kid_view g input one.depth one.at one.child
  leaf_seen g input one k ek is told h =
      ap (λ r. piece_of input visit.depth visit.from (row_end count r visit.from visit.to) (leaf_text r visit.from visit.to)) (sym ek)
      ∙ leaf_seen_at g input one.depth one.at one.size one.child (subst IsLeafRow (sym ek) is) (subst (IsCount src count) (sym ek) told)
      h.depth h.from h.to h.stands

-- ---- arrays and repetitions

abbrev IsArrayRow : Kid → ℕ → RunId → Type 0
IsArrayRow (row.Node id from to) m run = ⊥
IsArrayRow (row.Text n from to) m run = ⊥
IsArrayRow (row.Number prim from to high low) m run = ⊥
IsArrayRow (row.Raw from to) m run = ⊥
IsArrayRow (row.Array n items) m run = (n ≡ m) × (items ≡ run)
IsArrayRow (row.Many n items) m run = ⊥

abbrev IsManyRow : Kid → ℕ → RunId → Type 0
IsManyRow (row.Node id from to) m run = ⊥
IsManyRow (row.Text n from to) m run = ⊥
IsManyRow (row.Number prim from to high low) m run = ⊥
IsManyRow (row.Raw from to) m run = ⊥
IsManyRow (row.Array n items) m run = ⊥
IsManyRow (row.Many n items) m run = (n ≡ m) × (items ≡ run)

-- these items stand there, and this is their line
pub record ItemsSeen (src : Source) (st : Stored) (n : ℕ) (run : RunId) (said : Sym → Kids → List ℕ) (text : List ℕ) : Type 0 where
  pub at : ℕ
  pub one : Sym
  pub rows : List Kid
  pub kids : Kids
  pub is_sym : slice_get src.syms n ≡ Some one
  pub are_rows : slice_get st.kids run.place ≡ Some rows
  pub stand : StandKids src st at rows kids
  pub is : said one kids ≡ text

module _ (src : Source) (st : Stored) (g : Grammar) (input : List ℕ) (visit : Visit) (n : ℕ) (run : RunId) where
  abbrev pub items_said : List ℕ → Sym → Kids → List ℕ
  items_said kind one items = bare_line (items_text g visit.depth kind one items)

  array_seen_at : (depth at : ℕ) (k : tree.Kid) → IsArrayRow visit.kid n run → visit.depth ≡ depth → StandsKid src st at visit.kid k
      → ItemsSeen src st n run (items_said (codes "for ")) (kid_view g input depth at k)
  array_seen_at depth at (tree.Sub from to sub) is ed stands = absurd (subst (λ k. IsArrayRow k n run) stands.1 is)
  array_seen_at depth at (tree.Token from to bytes) is ed stands = absurd (subst (λ k. IsArrayRow k n run) stands.1 is)
  array_seen_at depth at (tree.Number from to prim high low) is ed stands = absurd (subst (λ k. IsArrayRow k n run) stands is)
  array_seen_at depth at (tree.Raw from to bytes) is ed stands = absurd (subst (λ k. IsArrayRow k n run) stands.0 is)
  array_seen_at depth at (tree.Array one items) is ed stands =
      let same = subst (λ k. IsArrayRow k n run) stands.3 is in
      record {
        at = at;
        one = one;
        rows = stands.2;
        kids = items;
        is_sym = subst (λ m. slice_get src.syms m ≡ Some one) same.0 stands.4;
        are_rows = subst (λ (r : RunId). slice_get st.kids r.place ≡ Some stands.2) same.1 stands.5;
        stand = stands.6;
        is = ap (λ d. bare_line (items_text g d (codes "for ") one items)) ed;
      }
  array_seen_at depth at (tree.Many one items) is ed stands = absurd (subst (λ k. IsArrayRow k n run) stands.3 is)

  pub array_seen : (one : Seen) → visit.kid ≡ row.Array n run → Shows src st visit one
      → ItemsSeen src st n run (items_said (codes "for ")) (kid_view g input one.depth one.at one.child)
  array_seen one is h = array_seen_at one.depth one.at one.child (subst (λ k. IsArrayRow k n run) (sym is) (refl, refl)) h.depth h.stands

  many_seen_at : (depth at : ℕ) (k : tree.Kid) → IsManyRow visit.kid n run → visit.depth ≡ depth → StandsKid src st at visit.kid k
      → ItemsSeen src st n run (items_said (codes "many ")) (kid_view g input depth at k)
  many_seen_at depth at (tree.Sub from to sub) is ed stands = absurd (subst (λ k. IsManyRow k n run) stands.1 is)
  many_seen_at depth at (tree.Token from to bytes) is ed stands = absurd (subst (λ k. IsManyRow k n run) stands.1 is)
  many_seen_at depth at (tree.Number from to prim high low) is ed stands = absurd (subst (λ k. IsManyRow k n run) stands is)
  many_seen_at depth at (tree.Raw from to bytes) is ed stands = absurd (subst (λ k. IsManyRow k n run) stands.0 is)
  many_seen_at depth at (tree.Array one items) is ed stands = absurd (subst (λ k. IsManyRow k n run) stands.3 is)
  many_seen_at depth at (tree.Many one items) is ed stands =
      let same = subst (λ k. IsManyRow k n run) stands.3 is in
      record {
        at = at;
        one = one;
        rows = stands.2;
        kids = items;
        is_sym = subst (λ m. slice_get src.syms m ≡ Some one) same.0 stands.4;
        are_rows = subst (λ (r : RunId). slice_get st.kids r.place ≡ Some stands.2) same.1 stands.5;
        stand = stands.6;
        is = ap (λ d. bare_line (items_text g d (codes "many ") one items)) ed;
      }

  pub many_seen : (one : Seen) → visit.kid ≡ row.Many n run → Shows src st visit one
      → ItemsSeen src st n run (items_said (codes "many ")) (kid_view g input one.depth one.at one.child)
  many_seen one is h = many_seen_at one.depth one.at one.child (subst (λ k. IsManyRow k n run) (sym is) (refl, refl)) h.depth h.stands

-- ---- which bytes a leaf has

module _ (src : Source) (st : Stored) (count : ℕ) (visit : Visit) (place : ℕ) where
  among_at : (from to : ℕ) (k : Kid) → visit.from ≡ from → visit.to ≡ to → visit.kid ≡ k
      → is_among visit.from (row_end count visit.kid visit.from visit.to) place ≡ is_among from (row_end count k from to) place
  among_at from to k ef et ek =
      ap (λ f. is_among f (row_end count visit.kid f visit.to) place) ef
      ∙ ap (λ t. is_among from (row_end count visit.kid from t) place) et
      ∙ ap (λ r. is_among from (row_end count r from to) place) ek

  leaf_has_at : (at size : ℕ) (k : tree.Kid) → IsLeafRow visit.kid → IsCount src count visit.kid → visit.from ≡ at + from_of k
      → visit.to ≡ at + end_in size k → StandsKid src st at visit.kid k
      → is_among visit.from (row_end count visit.kid visit.from visit.to) place ≡ has_byte place at k
  leaf_has_at at size (tree.Sub from to sub) is told ef et stands = absurd (subst IsLeafRow stands.1 is)
  leaf_has_at at size (tree.Token from to bytes) is told ef et stands =
      among_at _ _ _ ef et stands.1
      ∙ ap (λ n. is_among (at + from) (end_of (at + from) (at + to) n) place) (subst (IsCount src count) stands.1 told bytes stands.2)
  leaf_has_at at size (tree.Number from to prim high low) is told ef et stands = among_at _ _ _ ef et stands
  leaf_has_at at size (tree.Raw from to bytes) is told ef et stands = among_at _ _ _ ef et stands.0
  leaf_has_at at size (tree.Array one items) is told ef et stands = absurd (subst IsLeafRow stands.3 is)
  leaf_has_at at size (tree.Many one items) is told ef et stands = absurd (subst IsLeafRow stands.3 is)

  pub leaf_has : (one : Seen) (k : Kid) → visit.kid ≡ k → IsLeafRow k → IsCount src count k → Shows src st visit one
      → is_among visit.from (row_end count k visit.from visit.to) place ≡ has_byte place one.at one.child
  leaf_has one k ek is told h =
      ap (λ r. is_among visit.from (row_end count r visit.from visit.to) place) (sym ek)
      ∙ leaf_has_at one.at one.size one.child (subst IsLeafRow (sym ek) is) (subst (IsCount src count) (sym ek) told) h.from h.to h.stands

abbrev pub IsInnerRow : Kid → Type 0
IsInnerRow (row.Node id from to) = ⊤
IsInnerRow (row.Text n from to) = ⊥
IsInnerRow (row.Number prim from to high low) = ⊥
IsInnerRow (row.Raw from to) = ⊥
IsInnerRow (row.Array n items) = ⊤
IsInnerRow (row.Many n items) = ⊤

inner_has_at : (src : Source) (st : Stored) (visit : Visit) (place at : ℕ) (k : tree.Kid) → IsInnerRow visit.kid → StandsKid src st at visit.kid k
    → has_byte place at k ≡ false
inner_has_at src st visit place at (tree.Sub from to sub) is stands = refl
inner_has_at src st visit place at (tree.Token from to bytes) is stands = absurd (subst IsInnerRow stands.1 is)
inner_has_at src st visit place at (tree.Number from to prim high low) is stands = absurd (subst IsInnerRow stands is)
inner_has_at src st visit place at (tree.Raw from to bytes) is stands = absurd (subst IsInnerRow stands.0 is)
inner_has_at src st visit place at (tree.Array one items) is stands = refl
inner_has_at src st visit place at (tree.Many one items) is stands = refl

and_true : (a : Bool) → a ≡ a && true
and_true true = refl
and_true false = refl

-- what is no leaf has no byte
pub inner_has : (src : Source) (st : Stored) (visit : Visit) (one : Seen) (place : ℕ) (old : Bool) → IsInnerRow visit.kid → Shows src st visit one
    → old ≡ old && not (has_byte place one.at one.child)
inner_has src st visit one place old is h =
    and_true old ∙ ap (λ b. old && not b) (sym (inner_has_at src st visit place one.at one.child is h.stands))
