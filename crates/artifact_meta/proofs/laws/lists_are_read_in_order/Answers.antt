use Rattle.artifact_meta.proofs.ReadingLemmas.{lists_fault}
use Rattle.artifact_meta.proofs.laws.lists_are_read_in_order.Goals as goal

pub returns-clause-fault : goal.returns-clause-fault
returns-clause-fault c = lists_fault
