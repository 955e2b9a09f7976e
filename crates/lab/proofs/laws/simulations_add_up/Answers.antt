use Rattle.lab.proofs.AddingUp.{adds-up}
use Rattle.lab.proofs.laws.simulations_add_up.Goals as goal

pub returns-clause-sum : goal.returns-clause-sum
returns-clause-sum c = λ seed rounds counts simulated. (adds-up seed rounds counts simulated).0

pub returns-clause-all : goal.returns-clause-all
returns-clause-all c = λ seed rounds counts simulated. (adds-up seed rounds counts simulated).1
