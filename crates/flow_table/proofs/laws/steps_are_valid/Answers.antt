use Rattle.std.proofs.Common.{refl}
use Rattle.flow_table.specs.Valid.{is_outcome, is_undoable, is_reboot, is_count}
use Rattle.flow_table.proofs.Steps.{next_entered, lost_leads, first_entered}
use Rattle.flow_table.proofs.laws.steps_are_valid.Goals as goal

pub returns-clause-fresh : goal.returns-clause-fresh
unfolding is_outcome is_undoable is_reboot is_count
returns-clause-fresh c = refl

pub returns-clause-next : goal.returns-clause-next
returns-clause-next c = λ p q heard stop valid is. (next_entered p q heard stop valid is).valid

pub returns-clause-lost : goal.returns-clause-lost
returns-clause-lost c = λ p valid runs. (lost_leads p valid runs).valid

pub returns-clause-first : goal.returns-clause-first
returns-clause-first c = λ p q order valid is. (first_entered p q order valid is).valid
