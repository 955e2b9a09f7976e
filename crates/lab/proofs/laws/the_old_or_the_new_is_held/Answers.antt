use Rattle.lab.proofs.Holdings.{held-after}
use Rattle.lab.proofs.Zeros.{held-from-zeros}
use Rattle.lab.proofs.laws.the_old_or_the_new_is_held.Goals as goal

pub returns-clause-paths : goal.returns-clause-paths
returns-clause-paths c = held-after

pub returns-clause-campaigns : goal.returns-clause-campaigns
returns-clause-campaigns c = held-from-zeros
