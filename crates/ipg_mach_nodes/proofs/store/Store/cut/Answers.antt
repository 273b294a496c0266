use Rattle.std.proofs.Common.{◌≡◌, ℕ, ℤ, sym, ap, ◌∙◌, List, [], ◌∷◌}
use Rattle.std.proofs.lemmas.List.{take-map}
use Rattle.ipg_mach_nodes.specs.declared.kid.Kid.{Kid}
use Rattle.ipg_mach_nodes.specs.declared.kid.Node.{Node}
use Rattle.ipg_mach_nodes.specs.Stored.{Stored, each, before}
use Rattle.ipg_mach_nodes.proofs.store.Store.cut.Goals as goal

abbrev stored : List (List Node) → List (List Kid) → List (List (ℕ × ℤ)) → Stored
stored nodes kids attrs = record { nodes = nodes; kids = kids; attrs = attrs }

same : (nodes nodes' : List (List Node)) (kids kids' : List (List Kid)) (attrs attrs' : List (List (ℕ × ℤ))) → nodes ≡ nodes' → kids ≡ kids'
    → attrs ≡ attrs' → stored nodes kids attrs ≡ stored nodes' kids' attrs'
same nodes nodes' kids kids' attrs attrs' n k a = cc

pub returns : goal.returns
returns g c =
    same _ _ _ _ _ _
    (ap each c.cut.ensures ∙ sym (take-map (λ node. node ∷ []) c.args.mark.nodes.place c.self.inside.nodes.items)) c.cut_to.ensures c.cut_to-2.ensures
    ∙ ap (λ st. before st c.args.mark) c.self.view_is
