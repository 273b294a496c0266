-- The lines of a tree are those of its visits, and a walk over it gives them one by one.
use Rattle.std.proofs.Common.{◌≡◌, ℕ, ◌+◌, List, [], ◌∷◌, ◌++◌, map, length, refl, sym, ap, ◌∙◌, subst, Option, Some, None, add-one, flat_map}
use Rattle.std.specs.Prelude.{codes, ⊤}
use Rattle.std.proofs.lemmas.List.{map-append, length-map}
use Rattle.ipg_core.specs.Grammar.{Grammar}
use Rattle.ipg_core.specs.Lines.{items_line, tree_lines, kid_lines, kids_lines, lines}
use Rattle.ipg_core.specs.Tree as tree
use Rattle.ipg_core.specs.Tree.{Tree, Kids, no_kids, kid, count_of}
use Rattle.ipg_mach_nodes.specs.declared.kid.Kid.{Kid}
use Rattle.ipg_mach_nodes.specs.declared.kid.Kid.TheVariants as row
use Rattle.ipg_mach_nodes.specs.Stored.{Stored, Source, StandsKid, StandKids}
use Rattle.ipg_tree_walk.specs.declared.walk.Visit.{Visit}
use Rattle.ipg_tree_walk.specs.Visits.{Seen, kid_visits, kids_visits, visits, from_of}
use Rattle.ipg_tree_walk.specs.Left.{NodeOf, StandsNode, Shows}
use Rattle.ipg_tree_walk.specs.Parse.{Walked, Left}
use Rattle.ipg_outside.specs.Sink.{Output}
use Rattle.ipg_tree.specs.Putting.{Progress, begun}
use Rattle.ipg_tree.specs.Line.{line_of, lines_of, head_line, child_line}
use Rattle.ipg_tree.specs.Behind.{IsNodeRow}

module _ (g : Grammar) where
  mutual
    kid_seen : (depth at n : ℕ) (k : tree.Kid) → kid_lines g depth at k ≡ map (line_of g) (kid_visits depth at n k)
    kid_seen depth at n (tree.Sub from to (tree.Node rule size attrs start end kids)) =
        ap (λ ls. head_line g depth (at + from) (tree.Node rule size attrs start end kids) ∷ ls) (kids_seen (depth + 1) (at + from) size kids)
    kid_seen depth at n (tree.Token from to bytes) = refl
    kid_seen depth at n (tree.Number from to prim high low) = refl
    kid_seen depth at n (tree.Raw from to bytes) = refl
    kid_seen depth at n (tree.Array sym items) = ap (λ ls. items_line g depth (codes "for") sym items ∷ ls) (kids_seen (depth + 1) at n items)
    kid_seen depth at n (tree.Many sym items) = ap (λ ls. items_line g depth (codes "many") sym items ∷ ls) (kids_seen (depth + 1) at n items)

    kids_seen : (depth at n : ℕ) (ks : Kids) → kids_lines g depth at ks ≡ map (line_of g) (kids_visits depth at n ks)
    kids_seen depth at n no_kids = refl
    kids_seen depth at n (kid k ks) =
        ap (λ ls. ls ++ kids_lines g depth at ks) (kid_seen depth at n k) ∙ ap (λ ls. map (line_of g) (kid_visits depth at n k) ++ ls) (kids_seen depth at n ks)
        ∙ sym (map-append (line_of g) (kid_visits depth at n k) (kids_visits depth at n ks))

  all_seen : (one : Tree) → tree_lines g 0 0 one ≡ map (line_of g) (visits one)
  all_seen (tree.Node rule size attrs start end kids) = kid_seen 0 0 size (tree.Sub 0 size (tree.Node rule size attrs start end kids))

  flat_of : (seen : List Seen) → flat_map (λ l. l) (map (line_of g) seen) ≡ lines_of g seen
  flat_of [] = refl
  flat_of (one ∷ seen) = ap (λ t. line_of g one ++ t) (flat_of seen)

  all_lines : (one : Tree) → lines g one 0 ≡ lines_of g (visits one)
  all_lines one = ap (flat_map (λ l. l)) (all_seen one) ∙ flat_of (visits one)

  pub starts : (one : Tree) (a : Option Output) (m : ℕ) → Progress (lines g one 0) (lines_of g (visits one)) a m a m
  starts one a m = subst (λ t. Progress (lines g one 0) t a m a m) (all_lines one) (begun (lines g one 0) a m)

  pub count_lines : (one : Tree) → length (tree_lines g 0 0 one) ≡ length (visits one)
  count_lines one = ap length (all_seen one) ∙ length-map (visits one) (line_of g)

-- a tree stands at the node of a visit, and this is the line of it
pub record NodeSeen (src : Source) (st : Stored) (g : Grammar) (visit : Visit) (line : List ℕ) : Type 0 where
  pub at : ℕ
  pub one : Tree
  pub stands : StandsNode src st at visit.node one
  pub is : head_line g visit.depth visit.from one ≡ line

node_seen_at : (src : Source) (st : Stored) (g : Grammar) (visit : Visit) (depth at : ℕ) (k : tree.Kid) → IsNodeRow visit.kid → visit.depth ≡ depth
    → visit.from ≡ at + from_of k → StandsKid src st at visit.kid k → NodeOf st visit.kid visit.node
    → NodeSeen src st g visit (child_line g depth at k)
node_seen_at src st g visit depth at (tree.Sub from to sub) is ed ef stands node = record {
  at = at + from;
  one = sub;
  stands = record { id = stands.0; is_at = node stands.0 from to stands.1; stands = stands.2 };
  is = ap (λ d. head_line g d visit.from sub) ed ∙ ap (λ a. head_line g depth a sub) ef;
}
node_seen_at src st g visit depth at (tree.Token from to bytes) is ed ef stands node = absurd (subst IsNodeRow stands.1 is)
node_seen_at src st g visit depth at (tree.Number from to prim high low) is ed ef stands node = absurd (subst IsNodeRow stands is)
node_seen_at src st g visit depth at (tree.Raw from to bytes) is ed ef stands node = absurd (subst IsNodeRow stands.0 is)
node_seen_at src st g visit depth at (tree.Array sym items) is ed ef stands node = absurd (subst IsNodeRow stands.3 is)
node_seen_at src st g visit depth at (tree.Many sym items) is ed ef stands node = absurd (subst IsNodeRow stands.3 is)

pub node_seen : (src : Source) (st : Stored) (g : Grammar) (visit : Visit) (one : Seen) → IsNodeRow visit.kid → Shows src st visit one
    → NodeSeen src st g visit (line_of g one)
node_seen src st g visit one is h = node_seen_at src st g visit one.depth one.at one.child is h.depth h.from h.stands h.node
