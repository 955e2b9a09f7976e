use Rattle.lab.proofs.Shortness.{short-rounds}
use Rattle.lab.proofs.laws.rounds_are_short.Goals as goal

pub returns : goal.returns
returns c = λ site tree script times d runs t s none path are on h. short-rounds script none site tree times d runs t s path are on h
