-- What a mention names that an order depends on: a term, or an attribute that some term sets.
use Rattle.std.specs.Prelude.{List, [], ◌∷◌}
use Rattle.ipg_core.specs.Mention.{Mention, SeenOf, ItemOf, AfterOf, OwnOf, OuterOf, FieldOf, LoopOf}
use Rattle.ipg_order.specs.declared.named.Named.{Named}
use Rattle.ipg_order.specs.declared.named.Named.TheVariants.{Term, Own, Outer}

abbrev pub named : Mention → List Named
named (SeenOf term sym) = Term term ∷ []
named (ItemOf term) = Term term ∷ []
named (AfterOf term) = Term term ∷ []
named (OwnOf attr) = Own attr ∷ []
named (OuterOf attr) = Outer attr ∷ []
named (FieldOf attr) = []
named LoopOf = []
