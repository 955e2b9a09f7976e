-- The work folder of a deployment in progress is left alone.
use Rattle.std.proofs.Common.{◌≡◌, refl}
use Rattle.std.specs.Prelude.{◌≢◌, ◌&&◌, false, Result, Ok, Err}
use Rattle.io_model.specs.Source.{Content}
use Rattle.script_names.specs.declared.site.Site.{Site}
use Rattle.flow_table.specs.declared.position.State.{State}
use Rattle.flow_table.specs.declared.position.State.TheVariants as at
use Rattle.record_codec.specs.declared.entry.Db.{Db}
use Rattle.record_codec.specs.Held.{position_of}
use Rattle.client_words.specs.declared.command.Command.{Command}
use Rattle.client_words.specs.declared.command.Command.TheVariants.{Install, Resume, ResumeStop, Commit, Rollback, ShowProvides, ShowArtifact, ShowDeployment, Check, Simulate}
use Rattle.client_words.specs.declared.command.UsageFault.{UsageFault}
use Rattle.client_top.specs.Finds.{found_for, beginning}
use Rattle.client_top.specs.Did.{is_install, is_copied}

busy : (s : State) (site : Site) (content : Content) (c : Db) → s ≢ at.Idle → is_copied (beginning s site content c) ≡ false
busy at.Idle site content c h = absurd (h refl)
busy at.Download site content c h = refl
busy at.Install site content c h = refl
busy at.Reboot site content c h = refl
busy at.VerifyReboot site content c h = refl
busy at.Commit site content c h = refl
busy at.CommitLeave site content c h = refl
busy at.Rollback site content c h = refl
busy at.RollbackReboot site content c h = refl
busy at.VerifyRollbackReboot site content c h = refl
busy at.Failure site content c h = refl
busy at.Cleanup site content c h = refl
busy at.Wait site content c h = refl

pub kept : (w : Result Command UsageFault) (site : Site) (content : Content) (c : Db) → (position_of c).state ≢ at.Idle → (is_install w && is_copied (found_for w site content c)) ≡ false
kept (Ok Install) site content c h = busy (position_of c).state site content c h
kept (Ok Resume) site content c h = refl
kept (Ok ResumeStop) site content c h = refl
kept (Ok Commit) site content c h = refl
kept (Ok Rollback) site content c h = refl
kept (Ok ShowProvides) site content c h = refl
kept (Ok ShowArtifact) site content c h = refl
kept (Ok ShowDeployment) site content c h = refl
kept (Ok Check) site content c h = refl
kept (Ok (Simulate seed rounds)) site content c h = refl
kept (Err f) site content c h = refl
