-- What a visit shows, as objects show it.
use Rattle.std.proofs.Common.{◌≡◌, ℕ, ◌+◌, refl, sym, ap, ◌∙◌, subst, Some, List}
use Rattle.std.specs.Prelude.{slice_get}
use Rattle.ipg_core.specs.declared.grammar.Sym.{Sym}
use Rattle.ipg_core.specs.Grammar.{Grammar}
use Rattle.ipg_core.specs.Tree as tree
use Rattle.ipg_core.specs.Tree.{Tree}
use Rattle.ipg_mach_nodes.specs.declared.kid.Kid.{Kid}
use Rattle.ipg_mach_nodes.specs.declared.kid.Kid.TheVariants as row
use Rattle.ipg_mach_nodes.specs.Stored.{Stored, Source, StandsKid}
use Rattle.ipg_tree_walk.specs.declared.walk.Visit.{Visit}
use Rattle.ipg_tree_walk.specs.Visits.{Seen, from_of}
use Rattle.ipg_tree_walk.specs.Left.{NodeOf, StandsNode, Shows}
use Rattle.ipg_tree.specs.Json.{many_head}
use Rattle.ipg_tree.specs.JsonWalk.{tree_text, kid_text}
use Rattle.ipg_tree.specs.Behind.{IsNodeRow}

-- a tree stands at the node of a visit, and this is its object up to those in it
pub record TreeSeen (src : Source) (st : Stored) (g : Grammar) (visit : Visit) (text : List ℕ) : Type 0 where
  pub at : ℕ
  pub one : Tree
  pub stands : StandsNode src st at visit.node one
  pub is : tree_text g visit.from one ≡ text

tree_seen_at : (src : Source) (st : Stored) (g : Grammar) (visit : Visit) (at : ℕ) (k : tree.Kid) → IsNodeRow visit.kid → visit.from ≡ at + from_of k
    → StandsKid src st at visit.kid k → NodeOf st visit.kid visit.node → TreeSeen src st g visit (kid_text g at k)
tree_seen_at src st g visit at (tree.Sub from to sub) is ef stands node = record {
  at = at + from;
  one = sub;
  stands = record { id = stands.0; is_at = node stands.0 from to stands.1; stands = stands.2 };
  is = ap (λ a. tree_text g a sub) ef;
}
tree_seen_at src st g visit at (tree.Token from to bytes) is ef stands node = absurd (subst IsNodeRow stands.1 is)
tree_seen_at src st g visit at (tree.Number from to prim high low) is ef stands node = absurd (subst IsNodeRow stands is)
tree_seen_at src st g visit at (tree.Raw from to bytes) is ef stands node = absurd (subst IsNodeRow stands.0 is)
tree_seen_at src st g visit at (tree.Array sym items) is ef stands node = absurd (subst IsNodeRow stands.3 is)
tree_seen_at src st g visit at (tree.Many sym items) is ef stands node = absurd (subst IsNodeRow stands.3 is)

pub tree_seen : (src : Source) (st : Stored) (g : Grammar) (visit : Visit) (one : Seen) → IsNodeRow visit.kid → Shows src st visit one
    → TreeSeen src st g visit (kid_text g one.at one.child)
tree_seen src st g visit one is h = tree_seen_at src st g visit one.at one.child is h.from h.stands h.node

-- a row of a repetition, with its symbol's number
abbrev pub IsManyRow : ℕ → Kid → Type 0
IsManyRow n (row.Node id from to) = ⊥
IsManyRow n (row.Text sym from to) = ⊥
IsManyRow n (row.Number prim from to high low) = ⊥
IsManyRow n (row.Raw from to) = ⊥
IsManyRow n (row.Array sym items) = ⊥
IsManyRow n (row.Many sym items) = sym ≡ n

many_seen_at : (src : Source) (st : Stored) (g : Grammar) (k : Kid) (n at : ℕ) (one : tree.Kid) → IsManyRow n k → StandsKid src st at k one
    → (symbol : Sym) × (slice_get src.syms n ≡ Some symbol) × (many_head g symbol ≡ kid_text g at one)
many_seen_at src st g k n at (tree.Sub from to sub) is stands = absurd (subst (IsManyRow n) stands.1 is)
many_seen_at src st g k n at (tree.Token from to bytes) is stands = absurd (subst (IsManyRow n) stands.1 is)
many_seen_at src st g k n at (tree.Number from to prim high low) is stands = absurd (subst (IsManyRow n) stands is)
many_seen_at src st g k n at (tree.Raw from to bytes) is stands = absurd (subst (IsManyRow n) stands.0 is)
many_seen_at src st g k n at (tree.Array symbol items) is stands = absurd (subst (IsManyRow n) stands.3 is)
many_seen_at src st g k n at (tree.Many symbol items) is stands =
    (symbol, subst (λ m. slice_get src.syms m ≡ Some symbol) (subst (IsManyRow n) stands.3 is) stands.4, refl)

pub many_seen : (src : Source) (st : Stored) (g : Grammar) (visit : Visit) (one : Seen) (n : ℕ) → IsManyRow n visit.kid → Shows src st visit one
    → (symbol : Sym) × (slice_get src.syms n ≡ Some symbol) × (many_head g symbol ≡ kid_text g one.at one.child)
many_seen src st g visit one n is h = many_seen_at src st g visit.kid n one.at one.child is h.stands
