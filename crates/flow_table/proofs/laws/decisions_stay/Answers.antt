use Rattle.flow_table.proofs.Steps.{next_entered, lost_leads, first_entered}
use Rattle.flow_table.proofs.laws.decisions_stay.Goals as goal

pub returns-clause-next : goal.returns-clause-next
returns-clause-next c = λ p q heard stop valid decided is. (next_entered p q heard stop valid is).stays decided

pub returns-clause-lost : goal.returns-clause-lost
returns-clause-lost c = λ p valid runs decided. (lost_leads p valid runs).stays decided

pub returns-clause-first : goal.returns-clause-first
returns-clause-first c = λ p q order valid decided is. (first_entered p q order valid is).stays decided
