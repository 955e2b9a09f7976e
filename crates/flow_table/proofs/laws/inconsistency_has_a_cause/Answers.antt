use Rattle.flow_table.proofs.Steps.{next_entered, lost_leads, first_entered}
use Rattle.flow_table.proofs.laws.inconsistency_has_a_cause.Goals as goal

pub returns-clause-next : goal.returns-clause-next
returns-clause-next c = λ p q heard stop valid is broken. (next_entered p q heard stop valid is).broken broken

pub returns-clause-lost : goal.returns-clause-lost
returns-clause-lost c = λ p valid runs broken. (lost_leads p valid runs).broken broken

pub returns-clause-first : goal.returns-clause-first
returns-clause-first c = λ p q order valid is broken. (first_entered p q order valid is).broken broken
