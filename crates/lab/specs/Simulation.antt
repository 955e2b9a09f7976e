-- A simulation: rounds that are drawn from a seed, each an update that is made on a new device until its deployment ends.
use Rattle.std.specs.Prelude.{◌≡◌, ◌≢◌, ℕ, zero, suc, ◌+◌, List, [], ◌∷◌, length, replicate, codes, Some, All, ⊤}
use Rattle.device_model.specs.declared.device.TheConstants.{AREA, ROOM}
use Rattle.io_model.specs.Source.{Content, Tree}
use Rattle.io_model.specs.Source.Content.{Told}
use Rattle.io_model.specs.MemSource.{Shelf}
use Rattle.script_names.specs.declared.site.Site.{Site}
use Rattle.flow_table.specs.declared.position.State.TheVariants.{Idle}
use Rattle.flow_table.specs.declared.position.Outcome.{Outcome}
use Rattle.flow_table.specs.declared.position.Outcome.TheVariants.{Undecided, Kept, Committed, RolledBack, Inconsistent}
use Rattle.flow_words.specs.Pieces.{Ended}
use Rattle.record_codec.specs.declared.entry.Db.{Db}
use Rattle.record_codec.specs.declared.entry.Db.TheVariants.{Empty}
use Rattle.record_codec.specs.Held.{position_of}
use Rattle.slot_store.specs.Slots.{May}
use Rattle.device_mem.specs.declared.script.Script.{Script}
use Rattle.device_mem.specs.MemState.{MemState, fresh}
use Rattle.device_mem.specs.Parts.{fresh_disk, fresh_work}
use Rattle.client_words.specs.declared.command.Command.TheVariants.{Install, Resume}
use Rattle.client_top.specs.declared.status.Status.{Status}
use Rattle.client_top.specs.declared.status.Status.TheVariants as status
use Rattle.client_top.specs.declared.status.Good.TheVariants.{Waiting}
use Rattle.client_top.specs.Answers.{end_of}
use Rattle.lab.specs.declared.runs.BootRun.{BootRun}
use Rattle.lab.specs.declared.draws.Round.{Round}
use Rattle.lab.specs.declared.counts.Counts.{Counts}
use Rattle.lab.specs.Path.{Step}
use Rattle.lab.specs.Campaign.{Campaigned}
use Rattle.lab.specs.Draws.{round_of, next_round}
use Rattle.lab.specs.Trees.{tree_of}

-- ---- where a round begins

-- a device whose area is zeros, before its first boot
abbrev pub new_device : Script → MemState
new_device script = fresh (fresh_disk (replicate AREA 0)) fresh_work ROOM script

-- a source that never fails, before its first call
abbrev pub new_source : Tree → Shelf
new_source tree = record { tree = tree; given = replicate (length tree) 0; failing = []; calls = 0; faults = 0 }

-- a device of this type, without scripts
abbrev pub the_site : Site
the_site = record { device_type = codes "beaglebone"; scripts = [] }

-- ---- a round

-- no fault, no want of memory: nothing but a loss of power that the script plans cuts a boot short
abbrev pub IsUndisturbed : Status → Type 0
IsUndisturbed status.DiskFault = ⊥
IsUndisturbed status.SourceFault = ⊥
IsUndisturbed status.NoMemory = ⊥
IsUndisturbed status.SinkFault = ⊥
IsUndisturbed _ = ⊤

-- another boot comes behind it: power was lost, the device reboots, or the deployment waits
abbrev pub GoesOn : Status → Type 0
GoesOn (status.Done Waiting) = ⊤
GoesOn status.RebootNeeded = ⊤
GoesOn status.PowerOff = ⊤
GoesOn _ = ⊥

-- it tells that the deployment ended with this outcome
abbrev pub EndsAs : Outcome → Status → Type 0
EndsAs o status = end_of status ≡ Some (Ended o)

-- Boots in a row from the database c to d: the last one ends the deployment with this outcome, so that it stands at Idle behind
-- it, and behind no earlier one, each of which goes on.
pub data Until (site : Site) (content : Content) (o : Outcome) (d : Db) : Db → List BootRun → Type 0 where
  ends : {c : Db} {run : BootRun} → Step site content c run d → EndsAs o run.status → (position_of d).state ≡ Idle → Until site content o d c (run ∷ [])
  goes_on : {c m : Db} {run next : BootRun} {runs : List BootRun} → Step site content c run m → GoesOn run.status → (position_of m).state ≢ Idle → Until site content o d m (next ∷ runs) → Until site content o d c (run ∷ next ∷ runs)

-- The round was played from an empty store: an install, and then resumes, until the deployment ended with this outcome.
pub record Played (round : Round) (outcome : Outcome) : Type 0 where
  pub times : ℕ
  pub runs : List BootRun
  pub device : MemState
  pub source : Shelf
  pub campaign : Campaigned the_site (Install ∷ replicate times Resume) (new_device round.script) device (new_source (tree_of round.lengths)) source runs
  pub undisturbed : All (λ (r : BootRun). IsUndisturbed r.status) runs
  pub stands : Db
  pub may : May device.device.disk stands
  pub alone : (d : Db) → May device.device.disk d → d ≡ stands
  pub path : Until the_site (Told (tree_of round.lengths)) outcome stands Empty runs
  pub outcome_is : (position_of stands).outcome ≡ outcome
  pub decided : outcome ≢ Undecided

-- ---- rounds

abbrev pub no_round : Counts
no_round = record { rounds = 0; committed = 0; rolled_back = 0; inconsistent = 0; kept = 0 }

-- one round more, that ended so
abbrev pub one_more : Outcome → Counts → Counts
one_more Undecided counts = record counts { rounds = counts.rounds + 1 }
one_more Kept counts = record counts { rounds = counts.rounds + 1; kept = counts.kept + 1 }
one_more Committed counts = record counts { rounds = counts.rounds + 1; committed = counts.committed + 1 }
one_more RolledBack counts = record counts { rounds = counts.rounds + 1; rolled_back = counts.rolled_back + 1 }
one_more Inconsistent counts = record counts { rounds = counts.rounds + 1; inconsistent = counts.inconsistent + 1 }

-- the state of the generator behind so many rounds
abbrev pub state_after : ℕ → ℕ → ℕ
state_after seed zero = seed
state_after seed (suc rounds) = next_round (state_after seed rounds)

-- so many rounds were drawn from the seed and played, and ended as counted
pub data Simulated (seed : ℕ) : ℕ → Counts → Type 0 where
  none : Simulated seed 0 no_round
  more : {rounds : ℕ} {counts : Counts} (outcome : Outcome) → Simulated seed rounds counts → Played (round_of (state_after seed rounds)) outcome → Simulated seed (rounds + 1) (one_more outcome counts)

-- the four counts add up to the rounds
abbrev pub AddsUp : Counts → Type 0
AddsUp counts = counts.committed + counts.rolled_back + counts.inconsistent + counts.kept ≡ counts.rounds

-- What a simulation promises of its counts: they are those of the rounds that the seed draws, they add up, and no others are.
pub record Simulates (seed rounds : ℕ) (counts : Counts) : Type 0 where
  pub simulated : Simulated seed rounds counts
  pub all : counts.rounds ≡ rounds
  pub adds_up : AddsUp counts
  pub alone : (others : Counts) → Simulated seed rounds others → others ≡ counts
