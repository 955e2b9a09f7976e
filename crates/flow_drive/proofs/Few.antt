-- The scripts of one state are at most 64.
use Rattle.std.proofs.Common.{ℕ, ◌+◌, ◌≤◌, length, arith}
use Rattle.script_names.specs.declared.place.Stage.TheVariants as stage
use Rattle.script_names.proofs.Places.{due-at-three}
use Rattle.flow_table.specs.declared.position.State.{State}
use Rattle.flow_table.specs.declared.position.State.TheVariants.{Idle, Download, Install, Reboot, VerifyReboot, Commit, CommitLeave, Rollback, RollbackReboot, VerifyRollbackReboot, Failure, Cleanup, Wait}
use Rattle.flow_table.specs.declared.position.Position.{Position}
use Rattle.flow_table.specs.declared.position.Reboot.{Reboot as Rebooting}
use Rattle.flow_words.specs.Rows.{row_by, row_of}
use Rattle.flow_words.specs.Words.{Callees}
use Rattle.flow_drive.specs.Calls.{script_count}

few-by : (who : Callees) (s : State) (r : Rebooting) → length who.own ≤ 64 → length who.brought ≤ 64 → script_count who (row_by s r) ≤ 64
few-by who Idle r o b = omega arith
few-by who Download r o b = let t = due-at-three stage.Download stage.Download stage.Download who.own in omega (arith, t, o)
few-by who Install r o b = let t = due-at-three stage.Install stage.Install stage.Install who.brought in omega (arith, t, b)
few-by who Reboot r o b = let t = due-at-three stage.Reboot stage.Reboot stage.Reboot who.brought in omega (arith, t, b)
few-by who VerifyReboot r o b = let t = due-at-three stage.Reboot stage.Reboot stage.Reboot who.brought in omega (arith, t, b)
few-by who Commit r o b = let t = due-at-three stage.Commit stage.Commit stage.Commit who.brought in omega (arith, t, b)
few-by who CommitLeave r o b = let t = due-at-three stage.Commit stage.Commit stage.Commit who.brought in omega (arith, t, b)
few-by who Rollback r o b = let t = due-at-three stage.Rollback stage.Rollback stage.Rollback who.brought in omega (arith, t, b)
few-by who RollbackReboot r o b = let t = due-at-three stage.RollbackReboot stage.RollbackReboot stage.RollbackReboot who.brought in omega (arith, t, b)
few-by who VerifyRollbackReboot r o b = let t = due-at-three stage.RollbackReboot stage.RollbackReboot stage.RollbackReboot who.brought in omega (arith, t, b)
few-by who Failure r o b = let t = due-at-three stage.Failure stage.Failure stage.Failure who.brought in omega (arith, t, b)
few-by who Cleanup r o b = omega arith
few-by who Wait r o b = omega arith

pub few-at : (who : Callees) (p : Position) → length who.own ≤ 64 → length who.brought ≤ 64 → script_count who (row_of p) ≤ 64
few-at who p o b = few-by who p.state p.reboot o b
