-- Rules in parts: two are in one part exactly where ways lead from each to the other.
use Rattle.std.specs.Prelude.{◌≡◌, ℕ, ◌<◌, List, Option, Bool, true, false, length, slice_index_or}
use Rattle.ipg_graph.specs.Graph.{Graph, caller, callee}
use Rattle.ipg_graph_parts.specs.Way.{IsTied}
use Rattle.ipg_graph_parts.specs.Labels.{label, IsLabelled}

-- parts are named by one of their rules; each that was made is whole. `found` has the rules that led to names before
pub record AreParts (g : Graph) (names found : List (Option ℕ)) : Type 0 where
  pub names_len : length names ≡ g.rules
  pub found_len : length found ≡ g.rules
  pub tied : (r v : ℕ) → IsLabelled names r v → IsTied g r v
  pub whole : (r v u : ℕ) → IsLabelled names r v → IsTied g v u → IsLabelled names r u
  pub named : (r v : ℕ) → IsLabelled found r v → IsLabelled names r r

abbrev pub IsIn : List (Option ℕ) → ℕ → Type 0
IsIn names v = (r : ℕ) × IsLabelled names r v

-- who is in a part stays in one
pub record Stays (old new : List (Option ℕ)) : Type 0 where
  pub stays : (v : ℕ) → IsIn old v → IsIn new v

-- each rule is in a part
pub record IsParted (g : Graph) (names : List (Option ℕ)) : Type 0 where
  pub names_len : length names ≡ g.rules
  pub all : (v : ℕ) → v < g.rules → IsIn names v
  pub tied : (r v : ℕ) → IsLabelled names r v → IsTied g r v
  pub whole : (r v u : ℕ) → IsLabelled names r v → IsTied g v u → IsLabelled names r u

-- the flags of the first edges say which have both ends in one part
pub record AreFlags (g : Graph) (names : List (Option ℕ)) (flags : List Bool) : Type 0 where
  pub set : (e : ℕ) → e < length flags → slice_index_or flags e false ≡ true → label names (caller g e) ≡ label names (callee g e)
  pub unset : (e : ℕ) → e < length flags → label names (caller g e) ≡ label names (callee g e) → slice_index_or flags e false ≡ true
