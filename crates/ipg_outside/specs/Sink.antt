-- What a sink did with the bytes that it was given.
use Rattle.std.specs.Prelude.{◌≡◌, ℕ, List, [], ◌++◌, Option, None, Some, ⊤}

-- the bytes that went out, and those that were taken and wait to be handed on
pub record Output : Type 0 where
  pub written : List ℕ
  pub held : List ℕ

-- all bytes that a sink was given
abbrev pub given : Output → List ℕ
given o = o.written ++ o.held

abbrev pub IsPrefix : List ℕ → List ℕ → Type 0
IsPrefix front whole = (rest : List ℕ) × (whole ≡ front ++ rest)

-- the piece was taken after what was given before, and nothing that went out came back
pub record Takes (piece : List ℕ) (before after : Output) : Type 0 where
  pub all : given after ≡ given before ++ piece
  pub kept : IsPrefix before.written after.written

-- all that was given went out
pub record HandsOn (before after : Output) : Type 0 where
  pub all : after.written ≡ given before
  pub none_held : after.held ≡ []

-- a fault in mid-stream: a prefix of what was given, this piece included, is out, and the rest is lost
pub record Breaks (piece : List ℕ) (before after : Output) : Type 0 where
  pub part : IsPrefix after.written (given before ++ piece)
  pub kept : IsPrefix before.written after.written
  pub none_held : after.held ≡ []

-- a sink that tells its output goes on telling it, and the two are so related
abbrev pub Tells : Option Output → Option Output → (Output → Output → Type 0) → Type 0
Tells None after R = ⊤
Tells (Some o) None R = ⊥
Tells (Some o) (Some p) R = R o p

-- known bytes grew by a prefix of the piece
abbrev pub AppendsPart : Option (List ℕ) → Option (List ℕ) → List ℕ → Type 0
AppendsPart None after piece = ⊤
AppendsPart (Some xs) None piece = ⊥
AppendsPart (Some xs) (Some ys) piece = IsPrefix xs ys × IsPrefix ys (xs ++ piece)
