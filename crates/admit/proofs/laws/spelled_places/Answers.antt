use Rattle.admit.proofs.Placed.{place_spelled}
use Rattle.admit.proofs.laws.spelled_places.Goals as goal

pub returns : goal.returns
returns c = place_spelled
