-- What each state does.
use Rattle.std.specs.Prelude.{Option, Some, None}
use Rattle.device_model.specs.declared.calls.ModState.TheVariants as mod_state
use Rattle.device_model.specs.declared.calls.Query.{Query}
use Rattle.device_model.specs.declared.calls.Query.TheVariants.{SupportsRollback, NeedsArtifactReboot}
use Rattle.script_names.specs.declared.place.Stage.{Stage}
use Rattle.script_names.specs.declared.place.Stage.TheVariants as stage
use Rattle.flow_table.specs.declared.position.Position.{Position}
use Rattle.flow_table.specs.declared.position.State.{State}
use Rattle.flow_table.specs.declared.position.State.TheVariants.{Idle, Download, Install, Reboot, VerifyReboot, Commit, CommitLeave, Rollback, RollbackReboot, VerifyRollbackReboot, Failure, Cleanup, Wait}
use Rattle.flow_table.specs.declared.position.Reboot.{Reboot as Rebooting}
use Rattle.flow_table.specs.declared.position.Reboot.TheVariants.{No, Yes, Automatic}
use Rattle.flow_words.specs.declared.mode.Mode.TheVariants.{Checked, Ignored}
use Rattle.flow_words.specs.declared.rows.StageRun.{StageRun}
use Rattle.flow_words.specs.declared.rows.Child.{Child}
use Rattle.flow_words.specs.declared.rows.Child.TheVariants.{Module, SystemReboot}
use Rattle.flow_words.specs.declared.rows.Main.{Main}
use Rattle.flow_words.specs.declared.rows.MainMode.TheVariants as main_mode
use Rattle.flow_words.specs.declared.rows.Row.{Row}

-- scripts whose answers count, and scripts whose answers are ignored
abbrev pub checked : Stage → Option StageRun
checked s = Some (record { stage = s; mode = Checked })

abbrev pub ignored : Stage → Option StageRun
ignored s = Some (record { stage = s; mode = Ignored })

-- a main call that ends with the first failure, one that calls every module, and one whose answers are ignored
abbrev pub counts : Child → Option Main
counts c = Some (record { child = c; mode = main_mode.Checked })

abbrev pub counts_every : Child → Option Main
counts_every c = Some (record { child = c; mode = main_mode.Every })

abbrev pub passes : Child → Option Main
passes c = Some (record { child = c; mode = main_mode.Ignored })

-- who reboots: the client itself where the module asked for that, else the module; a position in which it was not asked
-- for a reboot is in none of these states
abbrev pub reboot_child : Rebooting → Child
reboot_child No = Module mod_state.ArtifactReboot
reboot_child Yes = Module mod_state.ArtifactReboot
reboot_child Automatic = SystemReboot

abbrev pub rollback_reboot_child : Rebooting → Child
rollback_reboot_child No = Module mod_state.ArtifactRollbackReboot
rollback_reboot_child Yes = Module mod_state.ArtifactRollbackReboot
rollback_reboot_child Automatic = SystemReboot

-- Enter scripts, main call, question, Leave scripts, Error scripts
abbrev pub a_row : Option StageRun → Option Main → Option Query → Option StageRun → Option Stage → Row
a_row e m q l r = record { enter = e; main = m; query = q; leave = l; error = r }

abbrev pub row_by : State → Rebooting → Row
row_by Idle r = a_row None None None None None
row_by Download r = a_row (checked stage.Download) (counts (Module mod_state.Download)) (Some SupportsRollback) (checked stage.Download) (Some stage.Download)
row_by Install r = a_row (checked stage.Install) (counts (Module mod_state.ArtifactInstall)) (Some NeedsArtifactReboot) (checked stage.Install) (Some stage.Install)
row_by Reboot r = a_row (checked stage.Reboot) (counts (reboot_child r)) None None (Some stage.Reboot)
row_by VerifyReboot r = a_row None (counts (Module mod_state.ArtifactVerifyReboot)) None (checked stage.Reboot) (Some stage.Reboot)
row_by Commit r = a_row (checked stage.Commit) (counts (Module mod_state.ArtifactCommit)) None None (Some stage.Commit)
row_by CommitLeave r = a_row None None None (ignored stage.Commit) None
row_by Rollback r = a_row (ignored stage.Rollback) (counts_every (Module mod_state.ArtifactRollback)) None (ignored stage.Rollback) None
row_by RollbackReboot r = a_row (ignored stage.RollbackReboot) (passes (rollback_reboot_child r)) None None None
row_by VerifyRollbackReboot r = a_row None (counts (Module mod_state.ArtifactVerifyRollbackReboot)) None (ignored stage.RollbackReboot) None
row_by Failure r = a_row (ignored stage.Failure) (passes (Module mod_state.ArtifactFailure)) None (ignored stage.Failure) None
row_by Cleanup r = a_row None (passes (Module mod_state.Cleanup)) None None None
row_by Wait r = a_row None None None None None

-- what is done at a position
abbrev pub row_of : Position → Row
row_of p = row_by p.state p.reboot
