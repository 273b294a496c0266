-- The fields of what is no array and no repetition, and what such a child touches.
use Rattle.std.proofs.Common.{◌≡◌, ℕ, List, refl, false}
use Rattle.ipg_core.specs.declared.grammar.CoreField.{CoreField}
use Rattle.ipg_core.specs.declared.grammar.CoreField.TheVariants.{Attr, Start, End}
use Rattle.ipg_core.specs.Tree.{Kid, Sub, Token, Number, Raw, Array, Many}
use Rattle.ipg_core.specs.Environment.{field_of}
use Rattle.ipg_core.specs.Touch.{Ends, ends_of, kid_touches}
use Rattle.ipg_mach_results.specs.Flat.{has_items}
use Rattle.ipg_mach_results.specs.Reads.{any_field}

pub any : (names : List (List ℕ)) (field : CoreField) (one : Kid) → has_items one ≡ false → field_of names field one ≡ any_field names field one
any names (Attr a) (Sub from to tree) e = refl
any names Start (Sub from to tree) e = refl
any names End (Sub from to tree) e = refl
any names (Attr a) (Token from to bytes) e = refl
any names Start (Token from to bytes) e = refl
any names End (Token from to bytes) e = refl
any names (Attr a) (Number from to prim high low) e = refl
any names Start (Number from to prim high low) e = refl
any names End (Number from to prim high low) e = refl
any names (Attr a) (Raw from to bytes) e = refl
any names Start (Raw from to bytes) e = refl
any names End (Raw from to bytes) e = refl
any names field (Array s items) e = absurd (cc)
any names field (Many s items) e = absurd (cc)

-- an item touches by its own ends
pub alone : (one : Kid) (none e : Ends) → has_items one ≡ false → e ≡ ends_of one → e ≡ kid_touches one none
alone (Sub from to tree) none e is h = h
alone (Token from to bytes) none e is h = h
alone (Number from to prim high low) none e is h = h
alone (Raw from to bytes) none e is h = h
alone (Array s items) none e is h = absurd (cc)
alone (Many s items) none e is h = absurd (cc)
