-- Laws of bodies.
use Rattle.std.specs.Prelude.{◌≡◌, ℕ, List}
use Rattle.std.specs.List.{AllByRecursion}
use Rattle.ipg_store_body.specs.declared.body.Body.{Body}
use Rattle.ipg_store_body.specs.Fits.{FitsBody, NestsRule, IsBody}

-- bytes are the body of one grammar at most
abbrev pub BodyIsOfOne : Type 0
BodyIsOfOne = (text : List ℕ) (a b : Body) → IsBody a text → IsBody b text → a ≡ b

-- no expression in a body nests deeper than 400
abbrev pub BodyIsShallow : Type 0
BodyIsShallow = (body : Body) → FitsBody body → AllByRecursion NestsRule body.rules
