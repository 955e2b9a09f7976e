use Rattle.client_top.proofs.Boots.{halts}
use Rattle.client_top.proofs.laws.halts_by_counts.Goals as goal

pub returns : goal.returns
returns c = λ asked from status old new source source_after did is. halts asked from status old new source source_after did is
