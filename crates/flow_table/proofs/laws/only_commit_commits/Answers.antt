use Rattle.flow_table.proofs.Steps.{next_entered, lost_leads, first_entered}
use Rattle.flow_table.proofs.laws.only_commit_commits.Goals as goal

pub returns-clause-next : goal.returns-clause-next
returns-clause-next c = λ p q heard stop valid is committed. (next_entered p q heard stop valid is).committed committed

pub returns-clause-lost : goal.returns-clause-lost
returns-clause-lost c = λ p valid runs committed. (lost_leads p valid runs).committed committed

pub returns-clause-first : goal.returns-clause-first
returns-clause-first c = λ p q order valid is committed. (first_entered p q order valid is).committed committed
