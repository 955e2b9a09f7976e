use Rattle.record_codec.proofs.Front.{zero_at_front, later}
use Rattle.record_codec.proofs.laws.faults_of_the_front.Goals as goal

pub returns-clause-zero : goal.returns-clause-zero
returns-clause-zero c = zero_at_front

pub returns-clause-later : goal.returns-clause-later
returns-clause-later c = later
