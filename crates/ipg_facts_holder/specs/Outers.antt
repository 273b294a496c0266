-- The attributes of its holder that an alternative mentions, as a list: what functions inside the crate promise each other.
use Rattle.std.specs.Prelude.{ℕ, List, [], ◌∷◌, Option, Some, None, Bool, false, ◌||◌, nat_eq, slice_get, flat_map}
use Rattle.std.specs.List.{list_any}
use Rattle.ipg_core.specs.declared.grammar.CoreTerm.{CoreTerm}
use Rattle.ipg_core.specs.Grammar.{Grammar}
use Rattle.ipg_core.specs.Mention.{Mention, SeenOf, ItemOf, AfterOf, OwnOf, OuterOf, FieldOf, LoopOf, term_mentions}
use Rattle.ipg_facts_holder.specs.Holder.{set_by, provides}

abbrev pub outer_of : Mention → List ℕ
outer_of (SeenOf term sym) = []
outer_of (ItemOf term) = []
outer_of (AfterOf term) = []
outer_of (OwnOf attr) = []
outer_of (OuterOf attr) = attr ∷ []
outer_of (FieldOf attr) = []
outer_of LoopOf = []

abbrev pub outers_in : List Mention → List ℕ
outers_in mentions = flat_map outer_of mentions

abbrev pub term_outers : CoreTerm → List ℕ
term_outers term = outers_in (term_mentions term)

abbrev pub outers : List CoreTerm → List ℕ
outers terms = flat_map term_outers terms

-- the attribute is among these
abbrev pub is_among : List ℕ → Option ℕ → Bool
is_among wanted None = false
is_among wanted (Some attr) = list_any (λ a. nat_eq a attr) wanted

-- a term matters where what it sets is among these, or where it provides one that matters behind it
unfoldable pub matters_by : Grammar → ℕ × ℕ → List CoreTerm → List ℕ → ℕ → List ℕ → Bool
matters_by g at terms wanted v behind =
    is_among wanted (set_by (slice_get terms v))
    || list_any (λ w. provides g at v (set_by (slice_get terms v)) (slice_get terms w)) behind
