-- What the page gives, where no clash was found.
use Rattle.std.proofs.Common.{◌≡◌, ℕ, List, Result, Ok, Err, MatchResult, Vec, Global, subst, ◌∙◌}
use Rattle.ipg_cover_leaves.specs.declared.leaf.Leaf.{Leaf}
use Rattle.ipg_cover_leaves.specs.declared.fault.PutFault.{PutFault}
use Rattle.ipg_cover_leaves.specs.declared.fault.PutFault.TheVariants.{Value, Outside, Clash, Gap, Memory}
use Rattle.ipg_cover_leaves.specs.Bytes.{puts}
use Rattle.ipg_cover_leaves.specs.Back.{Agree, IsBack, IsPutFault, IsGap}
use Rattle.ipg_cover_leaves.specs.Page.{AreBytes, IsGapFault}

module _ (leaves : List Leaf) (len cells : ℕ) (same : cells ≡ len) (agree : Agree leaves len) where
  pub settled : (result : Result (Vec ℕ Global) PutFault)
      → MatchResult result (λ bytes. AreBytes (puts leaves) cells bytes.items) (IsGapFault (puts leaves) cells)
      → MatchResult result (λ bytes. IsBack leaves len bytes.items) (IsPutFault leaves len)
  settled (Ok bytes) are = record { agree = agree; long = are.long ∙ same; each = are.each }
  settled (Err (Value leaf)) is = absurd is
  settled (Err (Outside leaf)) is = absurd is
  settled (Err (Clash at)) is = absurd is
  settled (Err (Gap at)) is = (agree, subst (λ (n : ℕ). IsGap (puts leaves) n at) same is)
  settled (Err Memory) is = tt
