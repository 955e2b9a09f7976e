-- A check, over the database that was read.
use Rattle.std.proofs.Common.{◌≡◌, refl}
use Rattle.std.specs.Prelude.{Some, false, Ok}
use Rattle.device_model.specs.State.{State}
use Rattle.io_model.specs.Source.{Content, When}
use Rattle.script_names.specs.declared.site.Site.{Site}
use Rattle.admit.specs.Given.{ReadsPayloads}
use Rattle.record_codec.specs.Spelling.{IsRight, IfFull}
use Rattle.slot_store.specs.Kept.{Kept}
use Rattle.client_words.specs.declared.command.Command.TheVariants.{Check}
use Rattle.client_top.specs.declared.status.Status.{Status}
use Rattle.client_top.specs.declared.status.Status.TheVariants.{Done, Refused, NoUpdate, Inconsistent, RebootNeeded, DiskFault, SourceFault, NoMemory, SinkFault, Usage, PowerOff, BadStore, TooLarge, NotNow, NotInstalled}
use Rattle.client_top.specs.declared.status.Good.TheVariants.{Committed, Waiting, RolledBack, Shown, Admitted, Simulated}
use Rattle.client_top.specs.Finds.{Request, check_found}
use Rattle.client_top.specs.Boot.{nothing}
use Rattle.client_top.specs.Answers.{row_of, source_count}
use Rattle.client_top.specs.Did.{Did, Shelf}
use Rattle.client_top.specs.Steps.{Mounted, WeighsTree}
use Rattle.client_top.proofs.Mounts.{still-did}

module _ (site : Site) (content : Content) (store : Kept) (old mid : State) (mounted : Mounted store old mid) (right : IfFull IsRight store.db) (shelf shelf' : Shelf)
    (given : When content (λ t. ReadsPayloads false t shelf.given shelf'.given)) where
  abbrev pub asked : Request
  asked = record { command = Ok Check; site = site; content = content }

  pub check-did : (status : Status) → shelf'.faults ≡ source_count (row_of status).basis shelf.faults → WeighsTree (check_found site content store.db) site content store.db status → Did asked (Some store.db) status old mid shelf shelf'
  check-did (Refused refusal) source w = still-did asked store old mid mounted (Refused refusal) shelf shelf' right refl nothing (record { whose = refl; rests = w }) source given
  check-did (TooLarge bytes) source w = still-did asked store old mid mounted (TooLarge bytes) shelf shelf' right refl nothing (record { whose = refl; rests = w }) source given
  check-did (Done Admitted) source w = still-did asked store old mid mounted (Done Admitted) shelf shelf' right refl nothing (record { whose = refl; rests = w }) source given
  check-did SourceFault source w = still-did asked store old mid mounted SourceFault shelf shelf' right refl nothing (record { whose = refl; rests = refl }) source given
  check-did NoMemory source w = still-did asked store old mid mounted NoMemory shelf shelf' right refl nothing (record { whose = refl; rests = tt }) source given
  check-did (Done Committed) source w = absurd w
  check-did (Done Waiting) source w = absurd w
  check-did (Done RolledBack) source w = absurd w
  check-did (Done Shown) source w = absurd w
  check-did (Done Simulated) source w = absurd w
  check-did NoUpdate source w = absurd w
  check-did Inconsistent source w = absurd w
  check-did RebootNeeded source w = absurd w
  check-did DiskFault source w = absurd w
  check-did SinkFault source w = absurd w
  check-did (Usage fault) source w = absurd w
  check-did PowerOff source w = absurd w
  check-did (BadStore offset) source w = absurd w
  check-did (NotNow when) source w = absurd w
  check-did (NotInstalled how) source w = absurd w
