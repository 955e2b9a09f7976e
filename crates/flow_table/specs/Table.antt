-- The tables of the flow: what follows a state that was run, what follows a loss of power in it, and what an order does.
use Rattle.std.specs.Prelude.{◌+◌, Bool, false, ◌&&◌, nat_lt, if◌then◌else◌, ⊤}
use Rattle.flow_table.specs.declared.position.State.{State}
use Rattle.flow_table.specs.declared.position.State.TheVariants.{Idle, Download, Install, Reboot, VerifyReboot, Commit, CommitLeave, Rollback, RollbackReboot, VerifyRollbackReboot, Failure, Cleanup, Wait}
use Rattle.flow_table.specs.declared.position.Outcome.{Outcome}
use Rattle.flow_table.specs.declared.position.Outcome.TheVariants.{Undecided, Kept, Committed, RolledBack, Inconsistent}
use Rattle.flow_table.specs.declared.position.Reboot.{Reboot as Rebooting}
use Rattle.flow_table.specs.declared.position.Reboot.TheVariants.{No, Yes, Automatic}
use Rattle.flow_table.specs.declared.position.Position.{Position}
use Rattle.flow_table.specs.declared.table.Heard.{Heard}
use Rattle.flow_table.specs.declared.table.Heard.TheVariants.{Fine, Undoable, Needs}
use Rattle.flow_table.specs.declared.table.Step.{Step}
use Rattle.flow_table.specs.declared.table.Step.TheVariants.{Enter, Stop}
use Rattle.flow_table.specs.declared.table.Order.{Order}
use Rattle.flow_table.specs.declared.table.Order.TheVariants as order
use Rattle.flow_table.specs.declared.table.Opening.{Opening}
use Rattle.flow_table.specs.declared.table.Opening.TheVariants as opening

-- ---- entering a state

-- where a deployment begins
abbrev pub fresh_position : Position
fresh_position = record { state = Download; outcome = Undecided; undoable = false; reboot = No; n = 1 }

-- the outcome of a deployment that ends at the limit
abbrev pub settled : Outcome → Outcome
settled Undecided = Inconsistent
settled Kept = Kept
settled Committed = Committed
settled RolledBack = RolledBack
settled Inconsistent = Inconsistent

-- a state is entered and counted; where 28 were entered already, the deployment ends in its place
abbrev pub enter_of : Position → State → Outcome → Position
enter_of p s o =
    if nat_lt p.n 28
    then record p { state = s; outcome = o; n = p.n + 1 }
    else record p { state = Idle; outcome = settled o }

-- what is installed is taken back, where the module can
abbrev pub undo_of : Position → Position
undo_of p = if p.undoable then enter_of p Rollback Undecided else enter_of p Failure Inconsistent

-- ---- what follows a state that was run

-- the state failed; no call is made at Idle and Wait, which nothing follows
abbrev pub failed_step : State → Position → Step
failed_step Idle p = Stop
failed_step Download p = Enter (enter_of p Cleanup Kept)
failed_step Install p = Enter (undo_of p)
failed_step Reboot p = Enter (undo_of p)
failed_step VerifyReboot p = Enter (undo_of p)
failed_step Commit p = Enter (undo_of p)
failed_step CommitLeave p = Enter (enter_of p Cleanup Committed)
failed_step Rollback p = Enter (enter_of p Failure Inconsistent)
failed_step RollbackReboot p = Stop
failed_step VerifyRollbackReboot p = Enter (enter_of p RollbackReboot Undecided)
failed_step Failure p = Enter (enter_of p Cleanup p.outcome)
failed_step Cleanup p = Enter (record p { state = Idle })
failed_step Wait p = Stop

-- Install is told whether a reboot is needed
abbrev pub after_install : Rebooting → Position → Position
after_install No p = enter_of p (if p.undoable then Wait else Commit) Undecided
after_install Yes p = enter_of (record p { reboot = Yes }) Reboot Undecided
after_install Automatic p = enter_of (record p { reboot = Automatic }) Reboot Undecided

-- a rollback went well
abbrev pub after_rollback : Rebooting → Position → Position
after_rollback No p = enter_of p Failure RolledBack
after_rollback Yes p = enter_of p RollbackReboot Undecided
after_rollback Automatic p = enter_of p RollbackReboot Undecided

-- The state went well, with what it hears then. All else counts as failed, also what the state can't hear; where the two
-- columns are the same, only the one for failed has a line.
abbrev pub next_by : State → Heard → Bool → Position → Step
next_by Download (Undoable can) stop p = Enter (enter_of (record p { undoable = can }) Install Undecided)
next_by Install (Needs r) stop p = Enter (after_install r p)
next_by Reboot Fine stop p = Stop
next_by VerifyReboot Fine stop p = Enter (enter_of p (if stop && p.undoable then Wait else Commit) Undecided)
next_by Commit Fine stop p = Enter (enter_of p CommitLeave Committed)
next_by Rollback Fine stop p = Enter (after_rollback p.reboot p)
next_by VerifyRollbackReboot Fine stop p = Enter (enter_of p Failure RolledBack)
next_by s heard stop p = failed_step s p

abbrev pub next_of : Position → Heard → Bool → Step
next_of p heard stop = next_by p.state heard stop p

-- ---- what follows a loss of power

-- calls are made in the state
abbrev pub IsRunning : State → Type 0
IsRunning Idle = ⊥
IsRunning Wait = ⊥
IsRunning _ = ⊤

-- the power was lost in the state; the outcome stays where none is named
abbrev pub lost_by : State → Position → Position
lost_by Idle p = p
lost_by Download p = enter_of p Cleanup Kept
lost_by Install p = undo_of p
lost_by Reboot p = enter_of p VerifyReboot p.outcome
lost_by VerifyReboot p = undo_of p
lost_by Commit p = undo_of p
lost_by CommitLeave p = enter_of p CommitLeave p.outcome
lost_by Rollback p = enter_of p Rollback p.outcome
lost_by RollbackReboot p = enter_of p VerifyRollbackReboot p.outcome
lost_by VerifyRollbackReboot p = enter_of p VerifyRollbackReboot p.outcome
lost_by Failure p = enter_of p Failure p.outcome
lost_by Cleanup p = enter_of p Cleanup p.outcome
lost_by Wait p = p

abbrev pub lost_of : Position → Position
lost_of p = lost_by p.state p

-- ---- what an order does

-- at Wait
abbrev pub at_wait : Order → Position → Opening
at_wait order.Resume p = opening.Enter (enter_of p Commit Undecided)
at_wait order.ResumeStop p = opening.Stay
at_wait order.Commit p = opening.Enter (enter_of p Commit Undecided)
at_wait order.Rollback p = opening.Enter (enter_of p Rollback Undecided)

-- at Reboot
abbrev pub at_reboot : Order → Position → Opening
at_reboot order.Resume p = opening.Enter (lost_of p)
at_reboot order.ResumeStop p = opening.Enter (lost_of p)
at_reboot order.Commit p = opening.Enter (lost_of p)
at_reboot order.Rollback p =
    if p.undoable then opening.Enter (enter_of p Rollback Undecided) else opening.NoRollback Reboot

-- at any other state in which calls are made
abbrev pub at_running : Order → Position → Opening
at_running order.Resume p = opening.Enter (lost_of p)
at_running order.ResumeStop p = opening.Enter (lost_of p)
at_running order.Commit p = opening.MustResume p.state
at_running order.Rollback p = opening.MustResume p.state

abbrev pub first_by : State → Order → Position → Opening
first_by Idle o p = opening.NoUpdate
first_by Wait o p = at_wait o p
first_by Reboot o p = at_reboot o p
first_by _ o p = at_running o p

-- what an order does at a position
abbrev pub first_of : Position → Order → Opening
first_of p o = first_by p.state o p
