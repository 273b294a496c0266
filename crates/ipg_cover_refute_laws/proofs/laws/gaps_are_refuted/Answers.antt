use Rattle.ipg_cover_refute_laws.proofs.Refuting.{refutation}
use Rattle.ipg_cover_refute_laws.proofs.laws.gaps_are_refuted.Goals as goal

pub returns : goal.returns
returns c g marks rule alt has unsolved =
    refutation c.ends_combine.ensures _ _ (c.gaps_are_ordered.ensures g marks rule alt) (c.gaps_are_light.ensures g marks rule alt)
    (c.gaps_are_bounded.ensures g marks rule alt has).bounded unsolved
