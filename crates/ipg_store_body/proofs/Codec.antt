-- Values, how they are spelled, and a reader that is exact.
use Rattle.std.proofs.Common.{◌≡◌, ℕ, List, ◌∷◌, ◌++◌, Ok}
use Rattle.ipg_reader.specs.Found.{Found, made, both, list_at}
use Rattle.ipg_reader.specs.Exact.{IsExact}
use Rattle.ipg_reader.specs.Laws.{LongAreExact, AreCounted, list_text}
use Rattle.ipg_reader.specs.Chains.{made_again, exact_made, exact_both, exact_list, IsBehind, behind_made}

pub record Codec (A : Type 0) : Type 1 where
  pub Is : A → Type 0
  pub spell : A → List ℕ
  pub read : List ℕ → Found A
  pub exact : IsExact Is spell read

abbrev pub pair : {A B : Type 0} → Codec A → Codec B → Codec (A × B)
pair c d = record {
  Is = λ x. c.Is x.0 × d.Is x.1;
  spell = λ x. c.spell x.0 ++ d.spell x.1;
  read = both c.read d.read;
  exact = exact_both c.Is d.Is c.spell d.spell c.read d.read c.exact d.exact;
}

abbrev pub many : {A : Type 0} → LongAreExact → Codec A → Codec (List A)
many long c = record {
  Is = AreCounted c.Is;
  spell = list_text c.spell;
  read = list_at c.read;
  exact = exact_list c.Is c.spell c.read c.exact long;
}

pub behind : {A B : Type 0} (c : Codec A) (make : A → B) (Is : B → Type 0) (spell : B → List ℕ) (byte : ℕ) → ((a : A) → c.Is a → Is (make a))
    → ((a : A) → c.Is a → spell (make a) ≡ byte ∷ c.spell a) → IsBehind Is spell byte (made make c.read)
behind c make Is spell byte holds spelled = behind_made make c.Is Is c.spell spell byte c.read c.exact holds spelled

pub again : {A B : Type 0} (c : Codec A) (make : A → B) (a : A) (more : List ℕ) → c.Is a → made make c.read (c.spell a ++ more) ≡ Ok (make a, more)
again c make a more is = made_again make c.Is c.spell c.read c.exact a more is

-- each value is made of one that is read
pub of_parts : {A B : Type 0} (c : Codec A) (make : A → B) (Is : B → Type 0) (spell : B → List ℕ) → ((a : A) → c.Is a → Is (make a))
    → ((a : A) → c.Is a → spell (make a) ≡ c.spell a) → ((b : B) → Is b → (a : A) × c.Is a × (make a ≡ b)) → IsExact Is spell (made make c.read)
of_parts c make Is spell holds spelled parts = exact_made make c.Is Is c.spell spell c.read c.exact holds spelled parts
