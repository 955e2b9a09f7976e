-- What an answer says of the counts.
use Rattle.std.proofs.Common.{◌≡◌, ℕ, Bool, true, false, cond, [], ◌∷◌, refl, ap, arith}
use Rattle.std.specs.Prelude.{IsTrue, Ok, if◌then◌else◌}
use Rattle.std.specs.List.{count_by}
use Rattle.device_model.specs.declared.calls.Event.TheVariants.{Loss}
use Rattle.device_model.specs.State.{State}
use Rattle.device_model.specs.How.{Counts, EndsAs, loss_at}
use Rattle.client_words.specs.declared.command.Command.{Command}
use Rattle.client_words.specs.declared.command.Command.TheVariants.{Install, Resume, ResumeStop, Commit, Rollback, ShowProvides, ShowArtifact, ShowDeployment, Check, Simulate}
use Rattle.client_top.specs.declared.status.Good.TheVariants.{Committed, Waiting, RolledBack, Shown, Admitted, Simulated}
use Rattle.client_top.specs.declared.status.Status.{Status}
use Rattle.client_top.specs.declared.status.Status.TheVariants.{Done, Refused, NoUpdate, Inconsistent, RebootNeeded, DiskFault, SourceFault, NoMemory, SinkFault, Usage, PowerOff, BadStore, TooLarge, NotNow, NotInstalled}
use Rattle.client_top.specs.Answers.{row_of, how_of, source_count, fail}
use Rattle.lab.specs.Path.{is_off}
use Rattle.lab.specs.Campaign.{risen, is_disk_fault, is_source_fault, simulates, IsExpected}

pub count-one : {X : Type 0} (test : X → Bool) (x : X) → count_by test (x ∷ []) ≡ cond (test x) 1 0
count-one test x = omega arith

-- what a boot did to the device's counts, and whether a loss stands at its end
pub record Tallies (off failed : Bool) (old new : State) : Type 0 where
  pub on : loss_at new.on ≡ (if off then Loss ∷ [] else [])
  pub losses : new.losses ≡ risen old.losses (cond off 1 0)
  pub faults : new.faults ≡ risen old.faults (cond failed 1 0)

module _ {old new : State} where
  calm : Counts true old.losses old.faults new → Tallies false false old new
  calm c = record { on = ap loss_at c.on; losses = c.losses; faults = c.faults }

  pub tallies : (status : Status) → EndsAs (how_of status) old new → Tallies (is_off status) (is_disk_fault status) old new
  tallies (Done Committed) c = calm c
  tallies (Done Waiting) c = calm c
  tallies (Done RolledBack) c = calm c
  tallies (Done Shown) c = calm c
  tallies (Done Admitted) c = calm c
  tallies (Done Simulated) c = calm c
  tallies (Refused refusal) c = calm c
  tallies NoUpdate c = calm c
  tallies Inconsistent c = calm c
  tallies RebootNeeded c = calm c
  tallies DiskFault c = record { on = ap loss_at c.on; losses = c.losses; faults = c.faults }
  tallies SourceFault c = calm c
  tallies NoMemory c = calm c
  tallies SinkFault c = calm c
  tallies (Usage fault) c = calm c
  tallies PowerOff c = record { on = ap loss_at c.on; losses = c.losses; faults = c.faults }
  tallies (BadStore offset) c = calm c
  tallies (TooLarge bytes) c = calm c
  tallies (NotNow when) c = calm c
  tallies (NotInstalled how) c = calm c

pub source-tally : (status : Status) (faults : ℕ) → source_count (row_of status).basis faults ≡ risen faults (cond (is_source_fault status) 1 0)
source-tally (Done Committed) faults = refl
source-tally (Done Waiting) faults = refl
source-tally (Done RolledBack) faults = refl
source-tally (Done Shown) faults = refl
source-tally (Done Admitted) faults = refl
source-tally (Done Simulated) faults = refl
source-tally (Refused refusal) faults = refl
source-tally NoUpdate faults = refl
source-tally Inconsistent faults = refl
source-tally RebootNeeded faults = refl
source-tally DiskFault faults = refl
source-tally SourceFault faults = refl
source-tally NoMemory faults = refl
source-tally SinkFault faults = refl
source-tally (Usage fault) faults = refl
source-tally PowerOff faults = refl
source-tally (BadStore offset) faults = refl
source-tally (TooLarge bytes) faults = refl
source-tally (NotNow when) faults = refl
source-tally (NotInstalled how) faults = refl

-- words that are obeyed are a command
no-usage : (command : Command) → simulates command ≡ false → IsTrue (fail (Ok command)) → ⊥
no-usage Install obeyed h = cc
no-usage Resume obeyed h = cc
no-usage ResumeStop obeyed h = cc
no-usage Commit obeyed h = cc
no-usage Rollback obeyed h = cc
no-usage ShowProvides obeyed h = cc
no-usage ShowArtifact obeyed h = cc
no-usage ShowDeployment obeyed h = cc
no-usage Check obeyed h = cc
no-usage (Simulate seed rounds) obeyed h = cc

-- a store that is a record is never answered to be none
pub expected : (command : Command) (status : Status) → simulates command ≡ false → IsTrue ((row_of status).whose (Ok command)) → ((offset : ℕ) → status ≡ BadStore offset → ⊥) → IsExpected status
expected command (Done good) obeyed h sound = tt
expected command (Refused refusal) obeyed h sound = tt
expected command NoUpdate obeyed h sound = tt
expected command Inconsistent obeyed h sound = tt
expected command RebootNeeded obeyed h sound = tt
expected command DiskFault obeyed h sound = tt
expected command SourceFault obeyed h sound = tt
expected command NoMemory obeyed h sound = tt
expected command SinkFault obeyed h sound = absurd cc
expected command (Usage fault) obeyed h sound = absurd (no-usage command obeyed h)
expected command PowerOff obeyed h sound = tt
expected command (BadStore offset) obeyed h sound = absurd (sound offset refl)
expected command (TooLarge bytes) obeyed h sound = tt
expected command (NotNow when) obeyed h sound = tt
expected command (NotInstalled how) obeyed h sound = tt
