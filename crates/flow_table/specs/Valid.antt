-- Which positions are valid: what each state allows in the other fields.
use Rattle.std.specs.Prelude.{ℕ, Bool, true, false, ◌&&◌, not, ◌==◌, nat_le}
use Rattle.flow_table.specs.declared.position.State.{State}
use Rattle.flow_table.specs.declared.position.State.TheVariants as at
use Rattle.flow_table.specs.declared.position.Outcome.{Outcome}
use Rattle.flow_table.specs.declared.position.Outcome.TheVariants.{Undecided, Committed, RolledBack, Inconsistent}
use Rattle.flow_table.specs.declared.position.Reboot.{Reboot}
use Rattle.flow_table.specs.declared.position.Reboot.TheVariants.{No}
use Rattle.flow_table.specs.declared.position.Position.{Position}

-- ---- outcomes

abbrev decided : Outcome → Bool
decided Undecided = false
decided _ = true

abbrev undecided : Outcome → Bool
undecided o = not (decided o)

abbrev committed : Outcome → Bool
committed Committed = true
committed _ = false

abbrev undone : Outcome → Bool
undone RolledBack = true
undone Inconsistent = true
undone _ = false

-- ---- whether it can be undone, whether it reboots, how many states were entered

abbrev either : Bool → Bool
either undoable = true

abbrev can : Bool → Bool
can undoable = undoable

abbrev cannot : Bool → Bool
cannot undoable = not undoable

abbrev reboots : Reboot → Bool
reboots No = false
reboots _ = true

abbrev stays_up : Reboot → Bool
stays_up r = not (reboots r)

abbrev any : Reboot → Bool
any r = true

abbrev counted : ℕ → Bool
counted n = nat_le 1 n && nat_le n 28

abbrev exactly : ℕ → ℕ → Bool
exactly m n = n == m

-- ---- the table

record Allowed : Type 0 where
  outcome : Outcome → Bool
  undoable : Bool → Bool
  reboot : Reboot → Bool
  n : ℕ → Bool

abbrev row : (Outcome → Bool) → (Bool → Bool) → (Reboot → Bool) → (ℕ → Bool) → Allowed
row o u r n = record { outcome = o; undoable = u; reboot = r; n = n }

-- outcome, undoable, reboot and n of a valid position in the state
abbrev allowed : State → Allowed
allowed at.Idle = row decided either any counted
allowed at.Download = row undecided cannot stays_up (exactly 1)
allowed at.Install = row undecided either stays_up (exactly 2)
allowed at.Reboot = row undecided either reboots counted
allowed at.VerifyReboot = row undecided either reboots counted
allowed at.Commit = row undecided either any counted
allowed at.CommitLeave = row committed either any counted
allowed at.Rollback = row undecided can any counted
allowed at.RollbackReboot = row undecided can reboots counted
allowed at.VerifyRollbackReboot = row undecided can reboots counted
allowed at.Failure = row undone either any counted
allowed at.Cleanup = row decided either any counted
allowed at.Wait = row undecided can any counted

unfoldable pub is_outcome : State → Outcome → Bool
is_outcome s = (allowed s).outcome

unfoldable pub is_undoable : State → Bool → Bool
is_undoable s = (allowed s).undoable

unfoldable pub is_reboot : State → Reboot → Bool
is_reboot s = (allowed s).reboot

unfoldable pub is_count : State → ℕ → Bool
is_count s = (allowed s).n

abbrev pub is_valid : Position → Bool
is_valid p = is_outcome p.state p.outcome && is_undoable p.state p.undoable && is_reboot p.state p.reboot && is_count p.state p.n
