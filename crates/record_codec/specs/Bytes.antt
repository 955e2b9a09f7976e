-- The bytes of a position's fields.
use Rattle.std.specs.Prelude.{ℕ, Bool, true, false, List, [], ◌∷◌}
use Rattle.flow_table.specs.declared.position.State.{State}
use Rattle.flow_table.specs.declared.position.State.TheVariants as at
use Rattle.flow_table.specs.declared.position.Outcome.{Outcome}
use Rattle.flow_table.specs.declared.position.Outcome.TheVariants.{Undecided, Kept, Committed, RolledBack, Inconsistent}
use Rattle.flow_table.specs.declared.position.Reboot.{Reboot}
use Rattle.flow_table.specs.declared.position.Reboot.TheVariants.{No, Yes, Automatic}

-- the values of a byte, by its number
abbrev pub states : List State
states = at.Idle ∷ at.Download ∷ at.Install ∷ at.Reboot ∷ at.VerifyReboot ∷ at.Commit ∷ at.CommitLeave ∷ at.Rollback ∷ at.RollbackReboot ∷ at.VerifyRollbackReboot ∷ at.Failure ∷ at.Cleanup ∷ at.Wait ∷ []

abbrev pub outcomes : List Outcome
outcomes = Undecided ∷ Kept ∷ Committed ∷ RolledBack ∷ Inconsistent ∷ []

abbrev pub answers : List Bool
answers = false ∷ true ∷ []

abbrev pub reboots : List Reboot
reboots = No ∷ Yes ∷ Automatic ∷ []

-- the byte of each
unfoldable pub state_byte : State → ℕ
state_byte at.Idle = 0
state_byte at.Download = 1
state_byte at.Install = 2
state_byte at.Reboot = 3
state_byte at.VerifyReboot = 4
state_byte at.Commit = 5
state_byte at.CommitLeave = 6
state_byte at.Rollback = 7
state_byte at.RollbackReboot = 8
state_byte at.VerifyRollbackReboot = 9
state_byte at.Failure = 10
state_byte at.Cleanup = 11
state_byte at.Wait = 12

unfoldable pub outcome_byte : Outcome → ℕ
outcome_byte Undecided = 0
outcome_byte Kept = 1
outcome_byte Committed = 2
outcome_byte RolledBack = 3
outcome_byte Inconsistent = 4

unfoldable pub answer_byte : Bool → ℕ
answer_byte false = 0
answer_byte true = 1

unfoldable pub reboot_byte : Reboot → ℕ
reboot_byte No = 0
reboot_byte Yes = 1
reboot_byte Automatic = 2
