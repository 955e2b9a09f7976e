use Rattle.admit.proofs.Placed.{allowed_spelled}
use Rattle.admit.proofs.laws.places_are_spelled.Goals as goal

pub returns : goal.returns
returns c = allowed_spelled
