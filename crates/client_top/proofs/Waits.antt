-- What stays as it is waits.
use Rattle.std.proofs.Common.{◌≡◌, refl}
use Rattle.std.specs.Prelude.{Bool, true, false, if◌then◌else◌, Result, Ok, Err}
use Rattle.io_model.specs.Source.{Content}
use Rattle.io_model.specs.Source.Content.{Told, Untold}
use Rattle.script_names.specs.declared.site.Site.{Site}
use Rattle.flow_table.specs.declared.position.State.{State}
use Rattle.flow_table.specs.declared.position.State.TheVariants as at
use Rattle.flow_table.specs.declared.position.Position.{Position}
use Rattle.flow_table.specs.declared.table.Opening.{Opening}
use Rattle.flow_table.specs.declared.table.Opening.TheVariants as opening
use Rattle.flow_table.specs.declared.table.Order.{Order}
use Rattle.flow_table.specs.declared.table.Order.TheVariants as order
use Rattle.flow_table.specs.Table.{first_by, at_running}
use Rattle.record_codec.specs.declared.entry.Entry.{Entry}
use Rattle.record_codec.specs.declared.entry.Db.{Db}
use Rattle.record_codec.specs.declared.entry.Db.TheVariants.{Empty, Full}
use Rattle.record_codec.specs.Held.{position_of}
use Rattle.client_words.specs.declared.command.Command.{Command}
use Rattle.client_words.specs.declared.command.Command.TheVariants.{Install, Resume, ResumeStop, Commit, Rollback, Check}
use Rattle.client_words.specs.declared.command.UsageFault.{UsageFault}
use Rattle.client_top.specs.declared.status.Status.{Status}
use Rattle.client_top.specs.Finds.{Stays, found_for, starting, weighing, installed, checked, in_tree, beginning, opening_at, ordered}

-- a deployment that stands at Wait
pub record Waiting (c : Db) : Type 0 where
  pub entry : Entry
  pub is : c ≡ Full entry
  pub waits : entry.position.state ≡ at.Wait

stay-is : (x : Entry) (o : Opening) → opening_at x o ≡ Stays → o ≡ opening.Stay
stay-is x (opening.Enter q) h = absurd cc
stay-is x opening.Stay h = refl
stay-is x opening.NoUpdate h = absurd cc
stay-is x (opening.MustResume s) h = absurd cc
stay-is x (opening.NoRollback s) h = absurd cc

back-moves : (can : Bool) (q : Position) → (if can then opening.Enter q else opening.NoRollback at.Reboot) ≡ opening.Stay → ⊥
back-moves true q h = cc
back-moves false q h = cc

running-moves : (o : Order) (p : Position) → at_running o p ≡ opening.Stay → ⊥
running-moves order.Resume p h = cc
running-moves order.ResumeStop p h = cc
running-moves order.Commit p h = cc
running-moves order.Rollback p h = cc

stays-at : (s : State) (o : Order) (p : Position) → first_by s o p ≡ opening.Stay → s ≡ at.Wait
stays-at at.Idle o p h = absurd cc
stays-at at.Wait o p h = refl
stays-at at.Reboot order.Resume p h = absurd cc
stays-at at.Reboot order.ResumeStop p h = absurd cc
stays-at at.Reboot order.Commit p h = absurd cc
stays-at at.Reboot order.Rollback p h = absurd (back-moves p.undoable _ h)
stays-at at.Download o p h = absurd (running-moves o p h)
stays-at at.Install o p h = absurd (running-moves o p h)
stays-at at.VerifyReboot o p h = absurd (running-moves o p h)
stays-at at.Commit o p h = absurd (running-moves o p h)
stays-at at.CommitLeave o p h = absurd (running-moves o p h)
stays-at at.Rollback o p h = absurd (running-moves o p h)
stays-at at.RollbackReboot o p h = absurd (running-moves o p h)
stays-at at.VerifyRollbackReboot o p h = absurd (running-moves o p h)
stays-at at.Failure o p h = absurd (running-moves o p h)
stays-at at.Cleanup o p h = absurd (running-moves o p h)

by-order : (o : Order) (c : Db) → ordered o c ≡ Stays → Waiting c
by-order o Empty h = absurd cc
by-order o (Full x) h = record { entry = x; is = refl; waits = stays-at x.position.state o x.position (stay-is x (first_by x.position.state o x.position) h) }

never-starting : (r : Result Entry Status) → starting r ≡ Stays → ⊥
never-starting (Ok e) h = cc
never-starting (Err s) h = cc

never-weighing : (r : Result Entry Status) → weighing r ≡ Stays → ⊥
never-weighing (Ok e) h = cc
never-weighing (Err s) h = cc

never-checks : (site : Site) (content : Content) (c : Db) → in_tree content (λ t. weighing (checked site t c)) ≡ Stays → ⊥
never-checks site (Untold n) c h = cc
never-checks site (Told t) c h = never-weighing (checked site t c) h

pub never-begins : (s : State) (site : Site) (content : Content) (c : Db) → beginning s site content c ≡ Stays → ⊥
never-begins at.Idle site (Untold n) c h = cc
never-begins at.Idle site (Told t) c h = never-starting (installed site t c) h
never-begins s site content c h = cc

pub waiting : (w : Result Command UsageFault) (site : Site) (content : Content) (c : Db) → found_for w site content c ≡ Stays → Waiting c
waiting (Ok Install) site content c h = absurd (never-begins (position_of c).state site content c h)
waiting (Ok Resume) site content c h = by-order order.Resume c h
waiting (Ok ResumeStop) site content c h = by-order order.ResumeStop c h
waiting (Ok Commit) site content c h = by-order order.Commit c h
waiting (Ok Rollback) site content c h = by-order order.Rollback c h
waiting (Ok Check) site content c h = absurd (never-checks site content c h)
waiting w site content c h = absurd cc
