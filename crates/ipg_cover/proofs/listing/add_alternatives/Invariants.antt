use Rattle.std.proofs.Common.{◌≡◌, ◌++◌, ◌∷◌, [], drop}
use Rattle.ipg_facts_edges.specs.Edges.{numbered}
use Rattle.ipg_cover.specs.Cover.{alternatives_of}
use Rattle.ipg_cover.proofs.listing.add_alternatives.Given as goal

-- the places so far, and those of what is left
abbrev pub invariant-loop-alt : goal.invariant-loop-alt
invariant-loop-alt l = l.places.items ++ numbered l.alt (λ a alt. (l.rule, a) ∷ []) (drop l.alt l.alts) ≡ l.fn.places.items ++ alternatives_of l.rule l.alts
