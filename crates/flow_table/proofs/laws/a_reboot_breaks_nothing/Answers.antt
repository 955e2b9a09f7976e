use Rattle.std.proofs.Common.{sym, subst}
use Rattle.flow_table.specs.Table.{IsRunning}
use Rattle.flow_table.proofs.Steps.{lost_leads, first_entered, at_reboot_limits}
use Rattle.flow_table.proofs.laws.a_reboot_breaks_nothing.Goals as goal

pub returns-clause-lost : goal.returns-clause-lost
returns-clause-lost c = λ p valid at broken. at_reboot_limits p valid at ((lost_leads p valid (subst IsRunning (sym at) tt)).broken broken)

pub returns-clause-first : goal.returns-clause-first
returns-clause-first c = λ p q order valid at is broken. at_reboot_limits p valid at ((first_entered p q order valid is).broken broken)

pub returns-clause-causes : goal.returns-clause-causes
returns-clause-causes c = λ p valid at breaks. at_reboot_limits p valid at breaks
