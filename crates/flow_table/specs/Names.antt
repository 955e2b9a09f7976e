-- States, outcomes and answers on reboots by their names.
use Rattle.std.specs.Prelude.{ℕ, List, Option, codes}
use Rattle.std.specs.List.{find}
use Rattle.std.specs.Str.{bytes_eq}
use Rattle.flow_table.specs.declared.position.State.{State}
use Rattle.flow_table.specs.declared.position.State.TheVariants as at
use Rattle.flow_table.specs.declared.position.Outcome.{Outcome}
use Rattle.flow_table.specs.declared.position.Outcome.TheVariants.{Undecided, Kept, Committed, RolledBack, Inconsistent}
use Rattle.flow_table.specs.declared.position.Reboot.{Reboot}
use Rattle.flow_table.specs.declared.position.Reboot.TheVariants.{No, Yes, Automatic}
use Rattle.flow_table.specs.declared.names.TheConstants.{STATES, OUTCOMES, REBOOTS}

unfoldable pub state_name : State → List ℕ
state_name at.Idle = codes "Idle"
state_name at.Download = codes "Download"
state_name at.Install = codes "Install"
state_name at.Reboot = codes "Reboot"
state_name at.VerifyReboot = codes "VerifyReboot"
state_name at.Commit = codes "Commit"
state_name at.CommitLeave = codes "CommitLeave"
state_name at.Rollback = codes "Rollback"
state_name at.RollbackReboot = codes "RollbackReboot"
state_name at.VerifyRollbackReboot = codes "VerifyRollbackReboot"
state_name at.Failure = codes "Failure"
state_name at.Cleanup = codes "Cleanup"
state_name at.Wait = codes "Wait"

unfoldable pub outcome_name : Outcome → List ℕ
outcome_name Undecided = codes "Undecided"
outcome_name Kept = codes "Kept"
outcome_name Committed = codes "Committed"
outcome_name RolledBack = codes "RolledBack"
outcome_name Inconsistent = codes "Inconsistent"

unfoldable pub reboot_name : Reboot → List ℕ
reboot_name No = codes "No"
reboot_name Yes = codes "Yes"
reboot_name Automatic = codes "Automatic"

-- ---- what a text names

abbrev pub state_named : List ℕ → Option State
state_named text = find (λ state. bytes_eq text (state_name state)) STATES

abbrev pub outcome_named : List ℕ → Option Outcome
outcome_named text = find (λ outcome. bytes_eq text (outcome_name outcome)) OUTCOMES

abbrev pub reboot_named : List ℕ → Option Reboot
reboot_named text = find (λ reboot. bytes_eq text (reboot_name reboot)) REBOOTS
